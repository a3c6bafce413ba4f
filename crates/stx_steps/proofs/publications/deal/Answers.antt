-- Each way of dealing with the next listener, or the end.
use Rattle.std.proofs.Common.{◌≡◌, ◌∙◌, Option, Some, None, refl, sym, ap, arith}
use Rattle.std.specs.Option.{option_map}
use Rattle.stx_model.specs.Listeners.{Register, Skip}
use Rattle.stx_model.specs.Listeners.{Deed as DealtDeed}
use Rattle.stx_model.specs.Script.{deals}
use Rattle.stx_events.specs.declared.deeds.Deed.{Deed}
use Rattle.stx_events.specs.Deeds.{deed_of}
use Rattle.stx_machine.specs.Machine.{Shrinks, calls_at, dealt, later_deeds, stack, state_before, onward}
use Rattle.stx_machine.specs.Sound.{standing_of}
use Rattle.stx_steps.proofs.Dealings.{below_next, below_run, deals_registered, deals_run, deals_skipped, first_none}
use Rattle.stx_machine.proofs.Standings.{over_body}
use Rattle.stx_steps.proofs.publications.deal.Goals as goal

-- the deed is the next
next_is : {o : Option Deed} {d e : Deed} {first : Option DealtDeed} → o ≡ Some d → d ≡ e → option_map deed_of o ≡ first → Some (deed_of e) ≡ first
next_is some is next = ap (λ d. Some (deed_of d)) (sym is) ∙ sym (ap (option_map deed_of) some) ∙ next

pub returns-in-Register-clause-goes : goal.returns-in-Register-clause-goes
returns-in-Register-clause-goes c n pool store =
    let m = c.args.machine.now in
    ap (onward c.args.setup.now.scenario n m)
    (deals_registered _ c.args.publication c.in-Register.listener _ (state_before m pool store) (next_is c.in-Some.is c.in-Register.is c.requires.deed))
    ∙ c.register_listener.ensures.goes n pool store

pub returns-in-Register-clause-sound : goal.returns-in-Register-clause-sound
returns-in-Register-clause-sound c =
    let below = below_next _ c.args.publication _ (Register c.in-Register.listener) (next_is c.in-Some.is c.in-Register.is c.requires.deed) c.requires.below in
    c.register_listener.ensures.sound c.requires.body below.0 below.1 c.requires.within

pub returns-in-RunNow-clause-goes : goal.returns-in-RunNow-clause-goes
returns-in-RunNow-clause-goes c n pool store =
    let S = c.args.setup.now.scenario in
    ap (onward S n c.args.machine.now) (deals_run S c.args.publication c.in-RunNow.listener _ (state_before c.args.machine.now pool store) (next_is c.in-Some.is c.in-RunNow.is c.requires.deed))
    ∙ c.run_now.ensures.goes S n pool store

pub returns-in-RunNow-clause-sound : goal.returns-in-RunNow-clause-sound
returns-in-RunNow-clause-sound c =
    let S = c.args.setup.now.scenario in
    let below = below_run S c.args.publication c.in-RunNow.listener _ (next_is c.in-Some.is c.in-RunNow.is c.requires.deed) c.requires.below in
    c.run_now.ensures.sound S c.requires.body below.0 below.1 c.requires.within

pub returns-in-Skip-clause-goes : goal.returns-in-Skip-clause-goes
returns-in-Skip-clause-goes c n pool store =
    let S = c.args.setup.now.scenario in
    let m = c.args.machine.now in
    let p = c.args.publication in
    let l = c.in-Skip.listener in
    let calls = calls_at S (stack m.frames) in
    ap (onward S n m) (deals_skipped S p l calls (state_before m pool store) (next_is c.in-Some.is c.in-Skip.is c.requires.deed))
    ∙ ap (λ ls. onward S n m (deals S calls (later_deeds S (dealt p l)) (record (state_before m pool store) { lines = ls }))) (sym c.push.ensures.items)

pub returns-in-Skip-clause-sound : goal.returns-in-Skip-clause-sound
returns-in-Skip-clause-sound c =
    let below = below_next _ c.args.publication _ (Skip c.in-Skip.listener) (next_is c.in-Some.is c.in-Skip.is c.requires.deed) c.requires.below in
    record { stage = (below.1, c.requires.body, c.requires.within.calls); top = c.requires.within.top; holds = c.requires.within.holds }

pub returns-in-None-clause-goes : goal.returns-in-None-clause-goes
unfolding deals
returns-in-None-clause-goes c n pool store =
    let S = c.args.setup.now.scenario in
    let m = c.args.machine.now in
    let none = first_none (later_deeds S c.args.publication) (sym (ap (option_map deed_of) c.in-None.is) ∙ c.requires.deed) in
    ap (λ ds. onward S n m (deals S (calls_at S (stack m.frames)) ds (state_before m pool store))) none

pub returns-in-None-clause-moves : goal.returns-in-None-clause-moves
returns-in-None-clause-moves c =
    let m = c.args.machine.now in
    Shrinks refl (omega (arith, over_body c.args.setup.now.scenario (standing_of m.context) (stack m.frames) None c.requires.body c.requires.within.calls))
