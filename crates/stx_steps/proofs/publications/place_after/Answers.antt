-- The deed is here, or further on, or nowhere.
use Rattle.std.proofs.Common.{◌≡◌, ◌∙◌, drop, length, map, sym, ap, arith, eq-eqb, eqb-true}
use Rattle.stx_events.specs.Deeds.{deed_of}
use Rattle.stx_machine.specs.Machine.{later_than}
use Rattle.std.proofs.lemmas.Bool.{false≢true}
use Rattle.stx_steps.proofs.Dealings.{found_at, none_after, passed_at}
use Rattle.stx_steps.proofs.publications.place_after.Goals as goal

pub returns-then-eq : goal.returns-then-eq
returns-then-eq c =
    c.loop-place.invariant
    ∙ found_at c.args.listener c.args.deeds.now c.loop-place.place _ c.loop-place-test.true
    (sym (eqb-true c.listener_of.result.0 c.args.listener.0 (sym c.eq.ensures ∙ c.if-eq.true)) ∙ ap (λ l. l.0) c.listener_of.ensures)

pub loop-place-preserved : goal.loop-place-preserved
loop-place-preserved c =
    c.loop-place.invariant
    ∙ passed_at c.args.listener c.args.deeds.now c.loop-place.place _ c.loop-place-test.true
    (λ same. false≢true (sym (sym c.eq.ensures ∙ c.if-eq.false) ∙ eq-eqb c.listener_of.result.0 c.args.listener.0 (ap (λ l. l.0) c.listener_of.ensures ∙ sym same)))

pub returns : goal.returns
returns c =
    let at_end : c.loop-place.place ≡ length c.args.deeds.now = omega (arith, c.loop-place.auto.place-end, c.loop-place-test.false) in
    c.loop-place.invariant ∙ ap (λ n. later_than c.args.listener (drop n (map deed_of c.args.deeds.now))) at_end ∙ none_after c.args.listener c.args.deeds.now
