use Rattle.std.proofs.Common.{rules, ap, sym, ◌∙◌}
use Rattle.stx_turn.specs.inner.Steps.{leaving}
use Rattle.atomic_table.specs.Table.{rest}
use Rattle.stx_turn.proofs.Ending.{leaves}
use Rattle.stx_turn.proofs.turns.leave.Goals as goal

pub fetch_sub-requires : goal.fetch_sub-requires
fetch_sub-requires g c =
    let place = c.requires.place in
    let put = c.put_in.ensures.left in (
      c.put_in.ensures.place.cell_is ∙ place.here,
      search rules,
      leaves _ _ _ _ _ g.met.V.Logged.legal_is_short _ _ _ c.args.value (ap (λ m. m.0.fixed) put ∙ place.live) (λ z. place.later (sym (ap (λ m. m.0.number) put) ∙ z))
          (ap (λ m. m.0.turn) put ∙ c.requires.same) (ap (λ m. m.1) put) c.requires.has,
    )

pub returns-clause-told : goal.returns-clause-told
returns-clause-told g c =
    let put = c.put_in.ensures.left in
    c.fetch_sub.ensures.2 ∙ ap (λ m. (leaving m.0, rest m.1)) put
