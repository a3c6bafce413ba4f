-- The parts of the generated scenario, and the whole from them.
use Rattle.std.proofs.Common.{◌≡◌, ℕ, ◌+◌, ◌*◌, List, ◌++◌, [], ◌∷◌, map, codes, ℤ, refl, ap, ◌∙◌}
use Rattle.std.specs.List.{range_with_len}
use Rattle.stx_scenario.specs.declared.numbers.MethodNo.{MethodNo}
use Rattle.stx_scenario.specs.declared.scenario.Settings.{Settings}
use Rattle.stx_scenario.specs.declared.scenario.ClassDecl.{ClassDecl}
use Rattle.stx_scenario.specs.declared.scenario.Bean.{Bean}
use Rattle.stx_scenario.specs.declared.scenario.Method.{Method}
use Rattle.stx_scenario.specs.declared.scenario.SyncDecl.{SyncDecl}
use Rattle.stx_scenario.specs.declared.scenario.Listener.{Listener}
use Rattle.stx_scenario.specs.BuiltIn.{built_in}
use Rattle.stx_load.specs.Draws.{after, draw}
use Rattle.stx_load.specs.Generated.{generated, settings_for, turns, row_names, first_values, beans, payments, helpers, listeners, calls_from, calls_of_clients}
use Rattle.stx_load.proofs.DrawLaws.{after_more, map_alike}

-- the clients' calls begin after the draws of all payments
pub clients_at : (seed s clients : ℕ) → s ≡ after seed 192
    → map (λ c. calls_from (after s (8 * c))) (range_with_len 0 clients) ≡ calls_of_clients seed clients
clients_at seed s clients at =
    ap (λ from. map (λ c. calls_from (after from (8 * c))) (range_with_len 0 clients)) at
    ∙ map_alike (λ c. calls_from (after (after seed 192) (8 * c))) (λ c. calls_from (after seed (192 + 8 * c)))
    (λ c. ap calls_from (after_more seed 192 (8 * c))) (range_with_len 0 clients)

-- and the turns after the draws of all calls
pub turns_at : (seed s t clients : ℕ) → s ≡ after seed 192 → t ≡ after s (8 * clients)
    → map (λ n. draw (after t n) clients) (range_with_len 0 (200 * clients)) ≡ turns seed clients
turns_at seed s t clients at calls =
    let start = calls ∙ ap (λ from. after from (8 * clients)) at ∙ after_more seed 192 (8 * clients) in
    ap (λ from. map (λ n. draw (after from n) clients) (range_with_len 0 (200 * clients))) start
    ∙ map_alike (λ n. draw (after (after seed (192 + 8 * clients)) n) clients) (λ n. draw (after seed (192 + 8 * clients + n)) clients)
    (λ n. ap (λ from. draw from clients) (after_more seed (192 + 8 * clients) n)) (range_with_len 0 (200 * clients))

-- with the parts of the definition it is the definition's
pub whole : (seed clients : ℕ) (settings : Settings) (events : List (List ℕ)) (schedule : List ℕ) (names : List (List ℕ)) (values : List ℤ)
    (classes : List ClassDecl) (of_beans : List Bean) (methods : List Method) (syncs : List SyncDecl) (heard : List Listener) (calls : List (List MethodNo))
    → settings ≡ settings_for clients → events ≡ codes "paid" ∷ [] → schedule ≡ turns seed clients → names ≡ row_names → values ≡ first_values
    → classes ≡ built_in → of_beans ≡ beans → methods ≡ payments seed ++ helpers → syncs ≡ [] → heard ≡ listeners → calls ≡ calls_of_clients seed clients
    → record { settings = settings; events = events; schedule = schedule; row_names = names; values = values; classes = classes; beans = of_beans; methods = methods; syncs = syncs; listeners = heard; clients = calls }
    ≡ generated seed clients
unfolding generated
whole seed clients settings events schedule names values classes of_beans methods syncs heard calls e1 e2 e3 e4 e5 e6 e7 e8 e9 e10 e11 =
    rw (e1, e2, e3, e4, e5, e6, e7, e8, e9, e10, e11) refl
