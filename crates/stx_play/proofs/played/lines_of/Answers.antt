-- The lines of one client more.
use Rattle.std.proofs.Common.{rules, ◌≡◌, ◌∙◌, ◌++◌, ◌∷◌, [], sym, ap, subst, append_assoc}
use Rattle.std.proofs.lemmas.List.{map-append}
use Rattle.std.proofs.lemmas.List.Elements.{All-tail}
use Rattle.stx_client.specs.View.{lines_of_script}
use Rattle.stx_play.specs.inner.Turning.{HasEnded, EachEnded}
use Rattle.stx_play.proofs.played.lines_of.Goals as goal

pub loop-client-preserved : goal.loop-client-preserved
loop-client-preserved c =
    let rest : c.loop-client.client-iterator.rest.items ≡ c.in-Some.client ∷ c.next.new.self.rest.items = search rules in (
      c.in_ok-push.ensures.ok ∙ (λ i. c.loop-client.invariant.0 i ++ c.finish.ensures i ∷ []) ∙ sym (map-append lines_of_script c.loop-client.yielded (c.in-Some.client ∷ [])),
      append_assoc c.loop-client.yielded (c.in-Some.client ∷ []) c.next.new.self.rest.items ∙ ap (λ xs. c.loop-client.yielded ++ xs) (sym rest) ∙ c.loop-client.invariant.1,
      All-tail HasEnded c.in-Some.client c.next.new.self.rest.items (subst EachEnded rest c.loop-client.invariant.2),
    )
