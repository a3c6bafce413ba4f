-- The words of settings and attributes.
use Rattle.std.specs.Prelude.{ℕ, if◌then◌else◌, List, [], ◌∷◌, codes, Option, Some, None}
use Rattle.std.specs.Str.{bytes_eq}
use Rattle.stx_scenario.specs.declared.scenario.SyncMode.{SyncMode}
use Rattle.stx_scenario.specs.declared.scenario.Propagation.{Propagation}
use Rattle.stx_scenario.specs.declared.scenario.Phase.{Phase}

-- what the text stands for among these words
abbrev pub word_in : {A : Type 0} → List (List ℕ × A) → List ℕ → Option A
word_in [] text = None
word_in (word ∷ words) text = if bytes_eq text word.0 then Some word.1 else word_in words text

abbrev pub mode_in : List ℕ → Option SyncMode
mode_in text = word_in ((codes "always", SyncMode.Always) ∷ (codes "actual", SyncMode.Actual) ∷ (codes "never", SyncMode.Never) ∷ []) text

abbrev pub propagation_in : List ℕ → Option Propagation
propagation_in text = word_in (
    (codes "required", Propagation.Required)
    ∷ (codes "supports", Propagation.Supports)
    ∷ (codes "mandatory", Propagation.Mandatory)
    ∷ (codes "requires_new", Propagation.RequiresNew)
    ∷ (codes "not_supported", Propagation.NotSupported)
    ∷ (codes "never", Propagation.Never)
    ∷ (codes "nested", Propagation.Nested)
    ∷ []) text

abbrev pub phase_in : List ℕ → Option Phase
phase_in text = word_in (
    (codes "before_commit", Phase.BeforeCommit) ∷ (codes "after_commit", Phase.AfterCommit) ∷ (codes "after_rollback", Phase.AfterRollback)
    ∷ (codes "after_completion", Phase.AfterCompletion) ∷ []) text
