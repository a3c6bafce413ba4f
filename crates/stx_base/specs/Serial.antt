-- Serial: the committed transactions, one after the other in the order of the journal, explain every answer.
use Rattle.std.specs.Prelude.{◌≡◌, ℕ, List, take, slice_get, Some}
use Rattle.stx_base.specs.declared.facts.StoreFacts.{StoreFacts}
use Rattle.stx_base.specs.declared.history.StoreEntry.{StoreEntry}
use Rattle.stx_base.specs.Alone.{first_rows, found_alone, answers}
use Rattle.stx_base.specs.Stores.{Transaction, journal, after_all}

-- each transaction of the journal, run alone over the rows that those before it leave, finds exactly the answers in its notes
abbrev pub Serial : StoreFacts → List StoreEntry → Type 0
Serial facts history =
    (n : ℕ) (j : Transaction) → slice_get (journal history) n ≡ Some j
    → found_alone (after_all (first_rows facts.values) (take n (journal history))) j.work ≡ answers j.work
