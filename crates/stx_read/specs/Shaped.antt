-- What a document states has all that a scenario's type doesn't say of itself, where nothing is too many.
use Rattle.std.specs.Prelude.{length}
use Rattle.toml.specs.Data.{Members}
use Rattle.stx_scenario.specs.declared.scenario.Scenario.{Scenario}
use Rattle.stx_draft.specs.Draft.{drafted}
use Rattle.stx_base.specs.Valid.{IsFew, IsShaped}

-- how many of each there are
abbrev pub AreFew : Scenario → Type 0
AreFew S =
    IsFew (length S.events) × IsFew (length S.schedule) × IsFew (length S.row_names) × IsFew (length S.classes) × IsFew (length S.beans)
    × IsFew (length S.methods) × IsFew (length S.syncs) × IsFew (length S.listeners) × IsFew (length S.clients)

abbrev pub DraftsAreShaped : Type 0
DraftsAreShaped = (root : Members) → AreFew (drafted root) → IsShaped (drafted root)
