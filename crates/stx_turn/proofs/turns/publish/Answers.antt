use Rattle.std.proofs.Common.{rules, ap, sym, ◌∙◌, subst, []}
use Rattle.stx_turn.specs.inner.Steps.{published}
use Rattle.stx_turn.proofs.Ending.{publishes}
use Rattle.stx_turn.proofs.turns.publish.Goals as goal

pub fetch_add-requires : goal.fetch_add-requires
fetch_add-requires g c =
    let place = c.requires.place in
    let entry = c.requires.entry in
    let put = c.put_in.ensures.left in (
      c.put_in.ensures.place.cell_is ∙ place.here,
      search rules,
      publishes _ _ _ _ _ g.met.V.Logged.legal_is_short _ _ _ c.args.value entry.log entry.entry (ap (λ m. m.0.fixed) put ∙ place.live) (λ z. place.later (sym (ap (λ m. m.0.number) put) ∙ z))
          (ap (λ m. m.0.turn) put ∙ entry.turn) (ap (λ m. m.1) put) c.requires.has entry.grown (entry.by ∙ sym (ap (λ m. m.0.number) put)) (subst (λ f. g.V.Logged.legal f (g.V.Logged.entries c.args.value)) c.requires.has c.requires.legal),
    )

pub returns-clause-told : goal.returns-clause-told
returns-clause-told g c =
    let put = c.put_in.ensures.left in
    c.fetch_add.ensures.2 c.args.value (ap (λ m. m.1) put) ∙ ap (λ m. (published g.V.Logged.maker (g.V.Logged.entries c.args.value) m.0, [])) put
