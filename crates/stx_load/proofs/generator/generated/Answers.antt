-- The parts, made one after the other from the same draws, are the whole.
use Rattle.std.proofs.Common.{◌≡◌, [], ◌∷◌, codes, rules, ap, subst, sym, ◌∙◌}
use Rattle.stx_base.specs.Weight.{weight}
use Rattle.stx_judge.specs.Judge.{IsValid}
use Rattle.stx_load.proofs.ValidLaws.{generated_valid, weight_of_clients}
use Rattle.stx_load.proofs.WholeLaws.{clients_at, turns_at, whole}
use Rattle.stx_load.proofs.generator.generated.Goals as goal

pub returns : goal.returns
returns c =
    let seed = c.args.seed in
    let clients = c.args.clients in
    let events : c.events-2.inside.items.items ≡ codes "paid" ∷ [] = search rules in
    let turns : c.schedule-2.inside.items.items ≡ c.in_ok-schedule.schedule = search rules in
    let methods : c.methods-2.inside.items.items ≡ c.in_ok-methods.methods = search rules in
    let made = whole seed clients _ _ _ _ _ _ _ _ _ _ _
    c.settings.ensures events
    (turns ∙ c.in_ok-schedule.ensures.turns ∙ turns_at seed _ _ clients c.in_ok-methods.ensures.state c.in_ok-calls.ensures.state)
    c.in_ok-row_names.ensures c.in_ok-first_values.ensures c.in_ok-built_in_classes.ensures.classes c.in_ok-beans.ensures
    (methods ∙ c.in_ok-methods.ensures.methods) c.new-2.ensures c.in_ok-listeners.ensures
    (c.in_ok-calls.ensures.clients ∙ clients_at seed _ clients c.in_ok-methods.ensures.state) in
    record { scenario = made; valid = subst IsValid (sym made) (generated_valid seed clients c.requires.some c.requires.few); weight = ap weight made ∙ weight_of_clients seed clients }
