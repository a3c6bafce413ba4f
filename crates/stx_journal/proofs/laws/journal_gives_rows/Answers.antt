-- What the journal lists gives the rows.
use Rattle.std.proofs.Common.{◌≡◌, ℕ, ◌+◌, List, [], ◌∷◌, refl, ap, ◌∙◌}
use Rattle.stx_base.specs.Alone.{RowMap, first_rows, after}
use Rattle.stx_base.specs.Stores.{Transaction, journal, after_all}
use Rattle.stx_journal.specs.Journal.{after_committed, committed_from}
use Rattle.stx_journal.proofs.RowChanges.{changed-net}
use Rattle.stx_journal.proofs.laws.journal_gives_rows.Goals as goal

gives : (rows : RowMap) (before : ℕ) (js : List Transaction) → after_committed rows (committed_from rows before js) ≡ after_all rows js
gives rows before [] = refl
gives rows before (j ∷ js) =
    ap (λ m. after_committed m (committed_from (after rows j.work) (before + 1) js)) (changed-net rows (after rows j.work))
    ∙ gives (after rows j.work) (before + 1) js

pub returns : goal.returns
returns c = λ values history. gives (first_rows values) 0 (journal history)
