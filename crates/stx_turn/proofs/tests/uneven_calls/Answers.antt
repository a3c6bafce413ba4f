use Rattle.std.proofs.Common.{ap, ◌∙◌}
use Rattle.stx_turn.proofs.Joined.{none_joined, one_joined, all_joined}
use Rattle.stx_turn.proofs.tests.uneven_calls.Goals as goal

pub close-requires-clause-all : goal.close-requires-clause-all
close-requires-clause-all g c =
    let one = c.in_ok-one.ensures.1 ∙ ap (λ s. s.number) c.split-one.ensures.seat in
    let four = c.in_ok-four.ensures.1 ∙ ap (λ s. s.number) c.split-four.ensures.seat in
    let made =
    ap (λ s. s.made) c.join-4.ensures ∙ ap (λ s. s.made) c.join-3.ensures ∙ ap (λ s. s.made) c.join-2.ensures ∙ ap (λ s. s.made) c.join.ensures
    ∙ ap (λ s. s.made) c.split-four.ensures.from in
    all_joined 4 c.join-4.new.into made
    (one_joined 3 c.join-3.new.into c.join-4.new.into c.in_ok-four.four c.join-4.ensures four
    (one_joined 2 c.join-2.new.into c.join-3.new.into c.in_ok-two.three c.join-3.ensures c.in_ok-two.ensures.two.1
    (one_joined 1 c.join.new.into c.join-2.new.into c.in_ok-two.two c.join-2.ensures c.in_ok-two.ensures.one.1
    (one_joined 0 c.split-four.new.from c.join.new.into c.in_ok-one.one c.join.ensures one (none_joined c.split-four.new.from)))))
