-- One payment more, after three draws more.
use Rattle.std.proofs.Common.{◌*◌, ◌∙◌, ap}
use Rattle.stx_load.specs.Draws.{after}
use Rattle.stx_load.specs.Generated.{payment, payment_method}
use Rattle.stx_load.proofs.DrawLaws.{after_none, after_group, one_more}
use Rattle.stx_load.proofs.methods.methods.Goals as goal

pub loop-number-init : goal.loop-number-init
loop-number-init c = (c.new-methods.ensures, after_none c.args.draws.now.state)

pub loop-number-preserved : goal.loop-number-preserved
loop-number-preserved c =
    let n = c.loop-number.number in
    one_more (λ t. payment_method t (payment (after c.args.draws.now.state (3 * t)))) c.args.draws.now.state (λ n. 3 * n) n c.loop-number.invariant c.in_ok-push.ensures.ok
    (λ at. c.in_ok-payment_method.ensures ∙ ap (payment_method n) (c.next_payment-payment.ensures.payment ∙ ap payment at)) (λ at. c.next_payment-payment.ensures.state ∙ after_group _ _ 3 n at)
