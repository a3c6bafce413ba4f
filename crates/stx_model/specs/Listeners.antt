-- Transactional event listeners: what a publication does with each, and in which round a registered one runs.
-- (Spring: TransactionalApplicationListenerMethodAdapter.onApplicationEvent, TransactionPhase, fallbackExecution.)
use Rattle.std.specs.Prelude.{ℕ, Bool, true, false, ◌&&◌, ◌==◌, List, map}
use Rattle.std.specs.List.{filter, enumerate_from}
use Rattle.stx_scenario.specs.declared.numbers.EventNo.{EventNo}
use Rattle.stx_scenario.specs.declared.numbers.ListenerNo.{ListenerNo}
use Rattle.stx_scenario.specs.declared.scenario.Scenario.{Scenario}
use Rattle.stx_scenario.specs.declared.scenario.Listener.{Listener}
use Rattle.stx_scenario.specs.declared.scenario.Phase.{Phase}
use Rattle.stx_base.specs.declared.manager.Round.{Round}
use Rattle.stx_model.specs.Orders.{by_order}

-- ---- publications

-- a listener with its number
abbrev pub Numbered : Type 0
Numbered = ℕ × Listener

-- the listeners of an event, in the order of the file
abbrev pub listening : Scenario → EventNo → List Numbered
listening S e = filter (λ l. l.1.event.0 == e.0) (enumerate_from 0 S.listeners)

-- by ascending order value, ties in the order of the file
abbrev pub dealt_with : Scenario → EventNo → List Numbered
dealt_with S e = by_order (λ l. l.1.order) (listening S e)

-- what is done with a listener
pub data Deed : Type 0 where
  Register : ListenerNo → Deed
  RunNow : ListenerNo → Deed
  Skip : ListenerNo → Deed

-- a listener is registered where synchronisation is active and a transaction is live; else one with fallback runs at
-- once, and one without is skipped
abbrev pub deed : Bool → Numbered → Deed
deed registers l =
    elim registers [
      | true ↦ Register (record { 0 = l.0 })
      | false ↦ elim l.1.fallback [ true ↦ RunNow (record { 0 = l.0 }) | false ↦ Skip (record { 0 = l.0 }) ]
    ]

unfoldable pub deeds : Scenario → EventNo → Bool → Bool → List Deed
deeds S e syncs_active tx_live = map (deed (syncs_active && tx_live)) (dealt_with S e)

-- ---- registered listeners

-- whether the body of a registered listener of this phase runs in this round; `committed` is what the after_completion
-- round is told
abbrev pub runs_in : Phase → Round → Bool → Bool
runs_in Phase.BeforeCommit Round.BeforeCommit committed = true
runs_in Phase.AfterCommit Round.AfterCompletion committed = committed
runs_in Phase.AfterRollback Round.AfterCompletion true = false
runs_in Phase.AfterRollback Round.AfterCompletion false = true
runs_in Phase.AfterCompletion Round.AfterCompletion committed = true
runs_in _ _ committed = false
