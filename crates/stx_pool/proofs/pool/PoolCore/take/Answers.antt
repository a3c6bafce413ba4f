-- The first flag that isn't set is the least connection that is in, and the reserve keeps room for every give.
use Rattle.std.proofs.Common.{not, position, arith, refl, sym, ◌∙◌, ap, length-set}
use Rattle.std.proofs.lemmas.Bool.{true≢false}
use Rattle.stx_pool.proofs.Sound.{take_replies, take_replies_empty, sound_take, sound_empty, some_is_in, none_is_in}
use Rattle.stx_pool.proofs.pool.PoolCore.take.Goals as goal

pub invariant_of-self-in-Some : goal.invariant_of-self-in-Some
invariant_of-self-in-Some c =
    let proper = rw (← c.self.view_is) at c.requires.proper in
    let found = c.in-Some.ensures ∙ ap (position not) c.deref.ensures.value in
    sound_take _ _ _ _ _ _ _ c.self.invariant c.requires.client proper (sym found)
    (rw c.reserve.ensures.items at c.push.ensures.items)
    (omega (arith, c.in_ok-reserve.ensures.room, c.push.ensures.room, c.self.inside.is_out.ok.0))

pub invariant_of-self-in-None : goal.invariant_of-self-in-None
invariant_of-self-in-None c =
    let proper = rw (← c.self.view_is) at c.requires.proper in
    let none = c.in-None.ensures ∙ ap (position not) c.deref.ensures.value in
    sound_empty _ _ _ _ _ _ c.self.invariant c.requires.client proper (sym none)
    (rw c.reserve.ensures.items at c.push-in-None.ensures.items)
    (omega (arith, c.in_ok-reserve.ensures.room, c.push-in-None.ensures.room, c.self.inside.is_out.ok.0))

pub returns-in-Some-clause-ok : goal.returns-in-Some-clause-ok
returns-in-Some-clause-ok c =
    let found = c.in-Some.ensures ∙ ap (position not) c.deref.ensures.value in
    record {
      reply = rw (← c.self.view_is, c.issue.ensures) (take_replies _ _ _ _ c.self.invariant (sym found));
      kept = rw (← c.self.view_is, c.push.ensures.items, c.reserve.ensures.items, c.issue.ensures, length-set) refl;
    }

pub returns-in-Some-clause-empty : goal.returns-in-Some-clause-empty
returns-in-Some-clause-empty c =
    let found = c.in-Some.ensures ∙ ap (position not) c.deref.ensures.value in
    let less = some_is_in _ _ _ _ c.self.invariant (sym found) in
    rw (← c.self.view_is) (λ h. absurd (true≢false h), λ h. absurd (omega (arith, less, h)))

pub returns-in-None-clause-ok : goal.returns-in-None-clause-ok
returns-in-None-clause-ok c =
    let none = c.in-None.ensures ∙ ap (position not) c.deref.ensures.value in
    record {
      reply = rw (← c.self.view_is) (take_replies_empty _ _ _ c.self.invariant (sym none));
      kept = rw (← c.self.view_is, c.push-in-None.ensures.items, c.reserve.ensures.items) refl;
    }

pub returns-in-None-clause-empty : goal.returns-in-None-clause-empty
returns-in-None-clause-empty c =
    let none = c.in-None.ensures ∙ ap (position not) c.deref.ensures.value in
    rw (← c.self.view_is) (λ _. none_is_in _ _ _ c.self.invariant (sym none), λ _. refl)
