use Rattle.std.proofs.Common.{◌≡◌, Some, None, rules, sym, ◌∙◌, subst}
use mathlib.Core.Option.{some-injective}
use Rattle.stx_turn.specs.Seats.{SeatView, AllJoined, IsWhole}
use Rattle.stx_turn.proofs.Closing.{closes}
use Rattle.stx_turn.proofs.cell.TurnCell.close.Goals as goal

pub unreachable-requires : goal.unreachable-requires
unreachable-requires g c =
    let seat = c.seat.inside in
    let all = subst AllJoined (sym c.seat.view_is) c.requires.all in
    let whole = closes g.V.Logged.fixed g.V.Logged.entries g.V.Logged.maker g.V.Logged.legal _ seat.place.id seat.place.me.0 seat.place.table_id _ _ (search rules) (search rules) all c.close_with-closed.ensures.values.2 in
    let none : None ≡ Some whole.0 = sym c.in_default.is ∙ some-injective _ _ (sym c.take-value.ensures.value ∙ whole.1) in
    cc

pub returns : goal.returns
returns g c =
    let seat = c.seat.inside in
    let all = subst AllJoined (sym c.seat.view_is) c.requires.all in
    let whole = closes g.V.Logged.fixed g.V.Logged.entries g.V.Logged.maker g.V.Logged.legal _ seat.place.id seat.place.me.0 seat.place.table_id _ _ (search rules) (search rules) all c.close_with-closed.ensures.values.2 in
    let both : Some whole.0 ≡ Some c.in-Some.value = some-injective _ _ (sym whole.1 ∙ c.take-value.ensures.value) ∙ c.in-Some.is in
    let is : whole.0 ≡ c.in-Some.value = cc in
    subst (λ (m : SeatView g.row.V-Entry.Denot g.row.V-Fixed.Denot). IsWhole g.V.Logged.fixed g.V.Logged.entries g.V.Logged.maker g.V.Logged.legal m c.in-Some.value) c.seat.view_is
    (subst (IsWhole g.V.Logged.fixed g.V.Logged.entries g.V.Logged.maker g.V.Logged.legal _) is whole.2)
