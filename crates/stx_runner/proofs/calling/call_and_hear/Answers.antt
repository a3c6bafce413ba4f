-- The call is proper, and the client goes on with its reply.
use Rattle.std.proofs.Common.{◌∙◌, ap}
use Rattle.stx_base.proofs.Results.{on_ok_two}
use Rattle.stx_client.specs.View.{fed}
use Rattle.stx_runner.proofs.SlotLaws.{proper_call, going_after, one_more_after}
use Rattle.stx_runner.proofs.calling.call_and_hear.Goals as goal

pub ask-asked-requires-clause-proper : goal.ask-asked-requires-clause-proper
ask-asked-requires-clause-proper g c = proper_call c.args.client.now c.args.backend.now c.requires.ready c.next-call.result c.next-call.ensures.want

pub returns-clause-going : goal.returns-clause-going
returns-clause-going g c =
    on_ok_two c.feed.result (λ is_fed read.
    going_after c.args.client.now c.args.backend.now c.requires.ready c.next-call.result c.in_ok-reply.reply c.ask-asked.new.self c.feed.new.self c.in_ok-reply.ensures.asked
    (is_fed ∙ ap (λ v. fed v c.in_ok-reply.reply) c.next-call.ensures.out) read)
    c.feed.ensures.ok c.feed.ensures.read

pub returns-clause-one_more : goal.returns-clause-one_more
returns-clause-one_more g c =
    on_ok_two c.feed.result (λ is_fed read.
    one_more_after c.args.client.now c.args.backend.now c.requires.ready c.next-call.result c.in_ok-reply.reply c.ask-asked.new.self c.feed.new.self c.in_ok-reply.ensures.asked
    (is_fed ∙ ap (λ v. fed v c.in_ok-reply.reply) c.next-call.ensures.out))
    c.feed.ensures.ok c.feed.ensures.read
