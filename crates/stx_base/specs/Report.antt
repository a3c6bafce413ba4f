-- The text of a report: each client's lines, the journal and the rows at the end.
use Rattle.std.specs.Prelude.{ℕ, ℤ, ◌+◌, ◌==◌, if◌then◌else◌, List, [], ◌∷◌, ◌++◌, map, codes, drop, Option, Some, None, slice_get}
use Rattle.std.specs.List.{filter_map, fold, enumerate_from, concat}
use Rattle.std.specs.Option.{option_map}
use Rattle.std.specs.Ordering.{nat_cmp}
use Rattle.std.specs.Cmp.Lexicographic.{slice_cmp}
use Rattle.std.specs.BTreeMap.{insert_entry}
use Rattle.std.specs.FinMap as finite
use Rattle.std.specs.Fmt.{decimal, signed_decimal}
use Rattle.stx_scenario.specs.declared.scenario.Scenario.{Scenario}
use Rattle.stx_base.specs.declared.history.PoolEntry.{PoolEntry}
use Rattle.stx_base.specs.declared.history.StoreNote.{StoreNote}
use Rattle.stx_base.specs.declared.history.StoreEntry.{StoreEntry}
use Rattle.stx_base.specs.declared.line.Line.{Line}
use Rattle.stx_base.specs.declared.outcome.Outcome.{Outcome}
use Rattle.stx_base.specs.Alone.{RowMap}
use Rattle.stx_base.specs.Stores.{is_busy, committed_rows}
use Rattle.stx_base.specs.Lines.{Shared, OfPool, OfStore, OfNeither, shared_by, line_text, line_feed}

-- ---- clients

-- the places, from 1, of the entries of a client
abbrev pub places_of : ℕ → ℕ → List ℕ → List ℕ
places_of c n [] = []
places_of c n (maker ∷ makers) = if maker == c then n ∷ places_of c (n + 1) makers else places_of c (n + 1) makers

abbrev pub pool_places : List PoolEntry → ℕ → List ℕ
pool_places history c = places_of c 1 (map (λ e. e.client) history)

abbrev pub store_places : List StoreEntry → ℕ → List ℕ
store_places history c = places_of c 1 (map (λ e. e.client) history)

-- the place of the next line, if it has one
abbrev pub next_place : Shared → List ℕ → List ℕ → Option ℕ
next_place OfPool pool store = slice_get pool 0
next_place OfStore pool store = slice_get store 0
next_place OfNeither pool store = None

abbrev pub pool_left : Shared → List ℕ → List ℕ
pool_left OfPool pool = drop 1 pool
pool_left _ pool = pool

abbrev pub store_left : Shared → List ℕ → List ℕ
store_left OfStore store = drop 1 store
store_left _ store = store

-- the j-th pool line has the place of the client's j-th entry there; store lines likewise
unfoldable pub lines_text : Scenario → List ℕ → List ℕ → List Line → List ℕ
lines_text S pool store [] = []
lines_text S pool store (line ∷ lines) =
    line_text S line (next_place (shared_by line) pool store)
    ++ lines_text S (pool_left (shared_by line) pool) (store_left (shared_by line) store) lines

-- a client's number, and its lines
abbrev pub client_text : Scenario → Outcome → ℕ → List Line → List ℕ
client_text S O c lines = codes "client " ++ decimal c ++ line_feed ++ lines_text S (pool_places O.pool c) (store_places O.store c) lines

-- the clients from this one on
unfoldable pub clients_text : Scenario → Outcome → ℕ → List (List Line) → List ℕ
clients_text S O c [] = []
clients_text S O c (lines ∷ more) = client_text S O c lines ++ clients_text S O (c + 1) more

-- ---- the journal

-- the words of a commit: those of its transaction, or of an own statement
abbrev pub commit_words : StoreNote → Option (List ℕ)
commit_words (StoreNote.Commit t n) = Some (codes "tx " ++ decimal t)
commit_words (StoreNote.Auto a r) = if is_busy r then None else Some (codes "auto")
commit_words _ = None

abbrev pub commit_text : ℕ → ℕ → ℕ → Option (List ℕ) → List ℕ
commit_text number place c None = []
commit_text number place c (Some words) =
    codes "commit " ++ decimal number ++ codes " client " ++ decimal c ++ codes " " ++ words ++ codes " @s" ++ decimal place ++ line_feed

abbrev pub number_after : ℕ → Option (List ℕ) → ℕ
number_after number None = number
number_after number (Some words) = number + 1

-- the commits among the entries, by their numbers; the first entry has this place, and the next commit this number
unfoldable pub journal_text : ℕ → ℕ → List StoreEntry → List ℕ
journal_text number place [] = []
journal_text number place (e ∷ es) =
    commit_text number place e.client (commit_words e.note)
    ++ journal_text (number_after number (commit_words e.note)) (place + 1) es

-- ---- the rows

-- the name and the value of a row that is there
abbrev pub named_row : RowMap → ℕ × List ℕ → Option (List ℕ × ℤ)
named_row rows (k, name) = option_map (λ value. (name, value)) (finite.get rows k)

abbrev pub named_rows : RowMap → List (List ℕ) → List (List ℕ × ℤ)
named_rows rows names = filter_map (named_row rows) (enumerate_from 0 names)

-- in byte order of the names
abbrev pub by_name : List (List ℕ × ℤ) → List (List ℕ × ℤ)
by_name found = fold (λ sorted row. insert_entry (slice_cmp nat_cmp) sorted row.0 row.1) [] found

abbrev pub row_text : List ℕ × ℤ → List ℕ
row_text (name, value) = codes "row " ++ name ++ codes " " ++ signed_decimal value ++ line_feed

abbrev pub rows_text : List (List ℕ × ℤ) → List ℕ
rows_text found = concat (map row_text found)

-- the rows that are there after all commits
abbrev pub final_rows : Scenario → List StoreEntry → List (List ℕ × ℤ)
final_rows S history = by_name (named_rows (committed_rows S.values history) S.row_names)

-- ---- the whole

unfoldable pub printed : Scenario → Outcome → List ℕ
printed S O =
    codes "springtx 1" ++ line_feed
    ++ clients_text S O 0 O.lines
    ++ codes "journal" ++ line_feed
    ++ journal_text 1 1 O.store
    ++ codes "rows" ++ line_feed
    ++ rows_text (final_rows S O.store)
    ++ codes "end" ++ line_feed
