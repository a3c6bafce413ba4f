-- The ending of a scope, and what it takes to complete it.
-- (Spring: AbstractPlatformTransactionManager.commit, processCommit, processRollback, triggerBeforeCommit and its kin,
-- cleanupAfterCompletion.)
use Rattle.std.specs.Prelude.{Bool, true, false, ◌||◌, List, [], ◌∷◌, Option, Some, None}
use Rattle.stx_scenario.specs.declared.numbers.ClassNo.{ClassNo}
use Rattle.stx_base.specs.declared.manager.Action.{Action}
use Rattle.stx_base.specs.declared.manager.Kind.{Kind}
use Rattle.stx_base.specs.declared.manager.Ending.{Ending}
use Rattle.stx_model.specs.Contexts.{Context, Live}

-- ---- how a scope ends

-- the transaction is live and marked for rollback
abbrev pub is_marked : Option Live → Bool
is_marked (Some live) = live.mark
is_marked None = false

-- a scope that would commit ends unexpectedly where its transaction is marked; an empty scope has none
abbrev pub unless_marked : Kind → Option Live → Ending
unless_marked Kind.Empty tx = Ending.Commit
unless_marked _ tx = elim (is_marked tx) [ true ↦ Ending.Unexpected | false ↦ Ending.Commit ]

-- it rolls back where the body threw and the rules say so, or where it has a local mark
abbrev pub ending : Kind → Bool → Bool → Context → Ending
ending kind rolls local context = elim (rolls || local) [ true ↦ Ending.Rollback | false ↦ unless_marked kind context.tx ]

-- ---- what completes it

-- the actions of a completion, from left to right; a fresh or empty scope that is to commit has its before_commit round
-- first, and these are the actions where no callback of that round threw
unfoldable pub completion : Kind → Ending → List Action
completion Kind.Fresh Ending.Commit =
    Action.RoundBeforeCompletion ∷ Action.CommitStore ∷ Action.RoundAfterCommit ∷ Action.RoundAfterCompletion true ∷ Action.GiveBack ∷ Action.Resumption ∷ []
completion Kind.Fresh Ending.Rollback = Action.RoundBeforeCompletion ∷ Action.RollbackStore ∷ Action.RoundAfterCompletion false ∷ Action.GiveBack ∷ Action.Resumption ∷ []
completion Kind.Fresh Ending.Unexpected =
    Action.RoundBeforeCompletion ∷ Action.RollbackStore ∷ Action.RoundAfterCompletion false ∷ Action.ThrowUnexpected ∷ Action.GiveBack ∷ Action.Resumption ∷ []
completion Kind.Join Ending.Commit = []
completion Kind.Join Ending.Rollback = Action.MarkGlobally ∷ []
completion Kind.Join Ending.Unexpected = Action.MarkGlobally ∷ []
completion Kind.Point Ending.Commit = Action.ReleasePoint ∷ []
completion Kind.Point Ending.Rollback = Action.BackToPoint ∷ Action.ReleasePoint ∷ []
completion Kind.Point Ending.Unexpected = Action.BackToPoint ∷ Action.ReleasePoint ∷ Action.ThrowUnexpected ∷ []
completion Kind.Empty Ending.Commit = Action.RoundBeforeCompletion ∷ Action.RoundAfterCommit ∷ Action.RoundAfterCompletion true ∷ Action.Resumption ∷ []
completion Kind.Empty Ending.Rollback = Action.RoundBeforeCompletion ∷ Action.RoundAfterCompletion false ∷ Action.Resumption ∷ []
completion Kind.Empty Ending.Unexpected = []

-- fresh and empty scopes that are to commit have a before_commit round first (triggerBeforeCommit)
abbrev pub has_before_commit : Kind → Ending → Bool
has_before_commit Kind.Fresh Ending.Commit = true
has_before_commit Kind.Empty Ending.Commit = true
has_before_commit _ _ = false

-- the actions after a before_commit round in which a callback threw: nothing is committed
abbrev pub completion_refused : Kind → List Action
completion_refused Kind.Fresh = completion Kind.Fresh Ending.Rollback
completion_refused _ = completion Kind.Empty Ending.Rollback

abbrev pub completion_after : Kind → Ending → Option ClassNo → List Action
completion_after kind ending None = completion kind ending
completion_after kind ending (Some x) = completion_refused kind
