-- What is found in the slot once all seats are joined in.
use Rattle.std.proofs.Common.{◌≡◌, ◌≢◌, ℕ, ◌<◌, List, length, get_or, Option, Some, sym, ap, ◌∙◌, subst, ⊎_elim, arith}
use Rattle.std.specs.Prelude.{All}
use mathlib.Core.Option.{some}
use lib.ListN.{get_elem?}
use Rattle.atomic_table.specs.Table.{State, Final, Seen}
use Rattle.atomic_table.specs.Seated.{TableId}
use Rattle.stx_turn.specs.declared.view.View.{View}
use Rattle.stx_turn.specs.declared.view.Ended.{Ended}
use Rattle.stx_turn.specs.Histories.{StartsWith}
use Rattle.stx_turn.specs.inner.Rule.{IsHome, IsOut, NoOther, Kept}
use Rattle.stx_turn.specs.Seats.{seat_view, AllJoined, Knew, IsWhole}
use Rattle.stx_turn.proofs.Seats.{live_here}

module _ {V E F : Type 0} (fixed : V → F) (entries : V → List E) (maker : E → ℕ) (legal : F → List E → Type 0) (facts : F) where
  abbrev St : Type 0
  St = State (Option V) (View E F)

  abbrev Rule : St → Type 0
  Rule = Kept fixed entries maker legal facts

  -- no seat is left that could have a turn
  is_home : (s : St) (r : Rule s) (id : ℕ) (v : View E F) (cell : TableId) → get_elem? s.views id ≡ some v → v.fixed ≡ Some facts → v.number ≡ 0 → AllJoined (seat_view cell v) → IsHome fixed entries facts r.log r.word s
  is_home s r id v cell at live zero_is all = ⊎_elim (λ (home : IsHome fixed entries facts r.log r.word s). home) not_out r.stage
    where
      not_out : IsOut facts r.log r.word s → IsHome fixed entries facts r.log r.word s
      not_out out =
          let k = r.each id v facts at live in
          let first = k.first zero_is in
          let u = out.view in
          let k' = r.each out.holder u facts out.there out.live in
          let turn = out.turn in
          let later : u.number ≢ 0 = λ z. let none = (k'.first z).2 in absurd (cc) in
          let within = k'.within in
          let made_is = first.0 in
          let found = all u.number (omega arith) (omega arith) in
          let ended_is : v.ended ≡ r.ended = first.1 in
          let below : found.0 < length r.ended = subst (λ (es : List (Ended E)). found.0 < length es) ended_is found.2 in
          let is : get_or r.ended found.0 found.1 ≡ found.1 = ap (λ (es : List (Ended E)). get_or es found.0 found.1) (sym ended_is) ∙ found.3 in
          let g = r.gone found.0 found.1 below in
          absurd (g.gone out.holder (live_here s.views out.holder u facts out.there out.live ∙ ap (λ n. some (Some n)) (sym found.4 ∙ ap (λ (e : Ended E). e.number) (sym is))))

  pub closes : (id : ℕ) (v : View E F) (cell : TableId) (words : List ℕ) (slots : List (Option V)) → v.fixed ≡ Some facts → v.number ≡ 0 → AllJoined (seat_view cell v)
      → Final (Seen Rule id v) words slots → (value : V) × (get_elem? slots 0 ≡ some (Some value)) × IsWhole fixed entries maker legal (seat_view cell v) value
  closes id v cell words slots live zero_is all final =
      let s = final.0 in
      let r = final.1.0 in
      let at = final.1.1 in
      let home = is_home s r id v cell at live zero_is all in
      let k = r.each id v facts at live in
      let first = k.first zero_is in
      let back = sym home.logs in
      let now : List E → Type 0 = λ l. All (Knew maker l) v.ended in
      let knew : All (Knew maker r.log) v.ended = subst (All (Knew maker r.log)) (sym first.1) (λ n d below. let g = r.gone n d below in record { own = g.own; begins = g.begins }) in (
        home.value,
        final.4 0 (Some home.value) (ap (λ hs. get_elem? hs 0) home.slot),
        record {
          same = live ∙ ap Some (sym home.has);
          is_legal = subst (λ (z : F × List E). legal z.0 z.1) (λ i. (sym home.has i, back i)) r.is_legal;
          begins = subst (λ l. StartsWith l v.seen) back k.begins;
          own = subst now back knew;
          no_other = subst (λ (z : ℕ × List E). NoOther maker z.0 z.1) (λ i. (sym first.0 i, back i)) r.no_other;
        },
      )
