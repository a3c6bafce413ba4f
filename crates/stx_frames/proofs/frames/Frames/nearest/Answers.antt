-- The frame at the place of the innermost scope is the one that is written.
use Rattle.std.proofs.Common.{◌≡◌, ◌-◌, set, sym, ap, ◌∙◌, add-one}
use Rattle.std.specs.Option.{ghost_name_of}
use Rattle.std.proofs.lemmas.List.{set-get_or}
use Rattle.stx_frames.specs.Stacks.{scope_of, with_scope, with_innermost}
use Rattle.stx_frames.proofs.Scopes.{innermost-at, with_innermost-at}
use Rattle.stx_frames.proofs.frames.Frames.nearest.Goals as goal
use borrow.Follows.Closed.{read_of}

pub returns-in-Some : goal.returns-in-Some
returns-in-Some g c =
    let room = c.self.inside.frames in
    let place = c.in_ok-place.place in
    let frame = c.in-Some.frame.now in
    let here = rw c.deref.ensures.value at c.in_ok-place.ensures in
    let last = rw add-one at here.last in
    let written : (w : g.row.S.Denot) → set room.items place (with_scope frame w) ≡ with_innermost room.items w =
    λ w. ap (λ f. set room.items place (with_scope f w)) c.in-Some.ensures.value ∙ sym (with_innermost-at room.items place frame w here.within (here.scoped frame) last) in
    let kept : set room.items place frame ≡ room.items =
    ap (set room.items place) c.in-Some.ensures.value ∙ set-get_or room.items place frame in
    rw (← c.self.view_is) (
      (λ i. read_of (ghost_name_of c.scope_mut.result) (λ w. record { items = written w i; spare = room.cap - room.len }) (record { items = kept i; spare = room.cap - room.len })),
      record { writes_back = tt; value = c.scope_mut.ensures.value ∙ ap scope_of c.in-Some.ensures.value ∙ sym (innermost-at room.items place frame here.within (here.scoped frame) last) },
    )
