-- Worked weights: what a scenario of three methods leads to, its ranks and its weight compute.
use Rattle.std.proofs.Common.{◌≡◌, ℕ, pos, true, false, List, [], ◌∷◌, None, refl}
use Rattle.std.specs.Prelude.{codes}
use Rattle.stx_scenario.specs.declared.numbers.MethodNo.{MethodNo}
use Rattle.stx_scenario.specs.declared.scenario.Scenario.{Scenario}
use Rattle.stx_scenario.specs.declared.scenario.Method.{Method}
use Rattle.stx_scenario.specs.declared.scenario.SyncMode.{SyncMode}
use Rattle.stx_scenario.specs.declared.scenario.Phase.{Phase}
use Rattle.stx_scenario.specs.declared.scenario.Stmt.{Stmt}
use Rattle.stx_base.specs.Weight.{leads, IsOnCycle, longest, rank, cost_within, size, registrations, weight}

abbrev m : ℕ → MethodNo
m n = record { 0 = n }

abbrev read : Stmt
read = Stmt.Read (record { 0 = 0 })

abbrev with_body : List Stmt → Method
with_body body = record { bean = record { 0 = 0 }; name = codes "m"; tx = None; body = body }

-- these methods and calls, a sync that reads and then calls method 2, and a listener that calls method 2
abbrev scenario_of : List Method → List MethodNo → Scenario
scenario_of methods calls = record {
  settings = record { pool = 8; mode = SyncMode.Always; nested = true };
  events = codes "e" ∷ [];
  schedule = [];
  row_names = codes "a" ∷ [];
  values = [];
  classes = [];
  beans = [];
  methods = methods;
  syncs = record {
    name = codes "s";
    order = pos 0;
    before_commit = read ∷ [];
    before_completion = [];
    after_commit = [];
    after_completion = Stmt.Call (m 2) None ∷ [];
  } ∷ [];
  listeners = record {
    name = codes "l";
    event = record { 0 = 0 };
    phase = Phase.AfterCommit;
    order = pos 0;
    fallback = false;
    body = Stmt.Call (m 2) None ∷ [];
  } ∷ [];
  clients = calls ∷ [];
}

-- method 0 registers the sync and calls method 1, which publishes the event; method 2 reads
abbrev three : Scenario
three =
    scenario_of
    (with_body (Stmt.Register (record { 0 = 0 }) ∷ Stmt.This (m 1) None ∷ [])
    ∷ with_body (Stmt.Publish (record { 0 = 0 }) ∷ []) ∷ with_body (read ∷ []) ∷ [])
    (m 0 ∷ m 2 ∷ [])

three_leads : leads three (m 0) ≡ m 2 ∷ m 1 ∷ []
unfolding leads
three_leads = refl

three_ranks : rank three (m 0) ∷ rank three (m 1) ∷ rank three (m 2) ∷ [] ≡ 2 ∷ 1 ∷ 0 ∷ []
unfolding leads longest
three_ranks = refl

three_sizes : size three (m 0) ∷ size three (m 1) ∷ size three (m 2) ∷ [] ≡ 13 ∷ 6 ∷ 2 ∷ []
unfolding cost_within
three_sizes = refl

three_registrations : registrations three (m 0) ∷ registrations three (m 1) ∷ registrations three (m 2) ∷ [] ≡ 2 ∷ 1 ∷ 0 ∷ []
unfolding cost_within
three_registrations = refl

-- 15 x (1 + 2)
three_weight : weight three ≡ 45
unfolding cost_within
three_weight = refl

-- method 2 publishes the event whose listener calls it
abbrev heard_by_itself : Scenario
heard_by_itself = scenario_of (with_body [] ∷ with_body [] ∷ with_body (Stmt.Publish (record { 0 = 0 }) ∷ []) ∷ []) (m 2 ∷ [])

its_cycle : IsOnCycle (leads heard_by_itself) (m 2)
unfolding leads
its_cycle = (0, (m 2, refl, refl))
