use Rattle.std.proofs.Common.{ap, ◌∙◌}
use Rattle.stx_turn.proofs.Joined.{none_joined, one_joined, all_joined}
use Rattle.stx_turn.proofs.tests.calls_with_a_refusal.Goals as goal

pub close-requires-clause-all : goal.close-requires-clause-all
close-requires-clause-all g c =
    let one = c.step-4.ensures.same.number ∙ c.step-2.ensures.same.number ∙ c.step.ensures.same.number ∙ ap (λ s. s.number) c.split-one.ensures.seat in
    let two = c.step-3.ensures.same.number ∙ ap (λ s. s.number) c.split-two.ensures.seat in
    let made = ap (λ s. s.made) c.join-2.ensures ∙ ap (λ s. s.made) c.join.ensures ∙ ap (λ s. s.made) c.split-two.ensures.from in
    all_joined 2 c.join-2.new.into made
    (one_joined 1 c.join.new.into c.join-2.new.into c.step-3.new.seat c.join-2.ensures two
    (one_joined 0 c.split-two.new.from c.join.new.into c.step-4.new.seat c.join.ensures one (none_joined c.split-two.new.from)))
