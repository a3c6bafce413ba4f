-- An undo list with marks, and the rows as they are kept.
use Rattle.std.specs.Prelude.{◌≡◌, ℕ, ℤ, ◌+◌, ◌≤◌, Bool, true, false, ◌==◌, List, [], ◌∷◌, ◌++◌, length, take, drop, reverse, map, Option, Some, None, if◌then◌else◌, ⊤}
use Rattle.std.specs.Option.{unwrap_or, option_eq, is_some}
use Rattle.std.specs.Ordering.{nat_cmp, int_eq}
use Rattle.std.specs.Bool.{nat_eq}
use Rattle.std.specs.BTreeMap.{BTreeMap, btree_map_len, get as tree_get}
use Rattle.std.specs.Map.{lookup}
use Rattle.std.specs.FinMap as finite
use Rattle.indexmap.specs.IndexMap.{IndexMap, get}
use Rattle.stx_scenario.specs.declared.numbers.RowNo.{RowNo}
use Rattle.stx_base.specs.Alone.{RowMap}
use Rattle.stx_journal.specs.Journal.{set_row}
use Rattle.stx_rows.specs.Rows.{OlderMap}
use Rattle.stx_rows.specs.declared.undo.First.{First}

-- a row and the value that it had
abbrev pub Older : Type 0
Older = ℕ × Option ℤ

-- a row that has no place isn't there
abbrev pub value_of : Option (Option ℤ) → Option ℤ
value_of None = None
value_of (Some value) = value

-- ---- levels

-- the levels of a list by its marks, the last mark first
abbrev pub levels : List Older → List ℕ → List (List Older)
levels older [] = older ∷ []
levels older (mark ∷ marks) = drop mark older ∷ levels (take mark older) marks

abbrev pub levels_of : List Older → List ℕ → List (List Older)
levels_of older marks = levels older (reverse marks)

-- where the innermost level begins
abbrev pub last_mark : List ℕ → ℕ
last_mark [] = 0
last_mark (mark ∷ marks) = mark

-- no mark lies behind the end or behind a later mark
abbrev pub AreMarks : ℕ → List ℕ → Type 0
AreMarks end [] = ⊤
AreMarks end (mark ∷ marks) = (mark ≤ end) × AreMarks mark marks

-- one entry more in the innermost level
abbrev pub noted : List (List Older) → Older → List (List Older)
noted [] e = []
noted (level ∷ below) e = (level ++ e ∷ []) ∷ below

-- the innermost level after the one below it
abbrev pub joined : List (List Older) → List (List Older)
joined [] = []
joined (level ∷ []) = level ∷ []
joined (level ∷ next ∷ below) = (next ++ level) ∷ below

-- all entries, in the order in which they were made
abbrev pub flat : List (List Older) → List Older
flat [] = []
flat (level ∷ below) = flat below ++ level

-- the last entry of the innermost level comes out, if it has one
abbrev pub PopsLast : List (List Older) → Option Older → List (List Older) → Type 0
PopsLast old None new = (new ≡ old) × (below : List (List Older)) × (old ≡ [] ∷ below)
PopsLast old (Some e) new = (level : List Older) × (below : List (List Older)) × (old ≡ (level ++ e ∷ []) ∷ below) × (new ≡ level ∷ below)

-- ---- where a row stands first

abbrev pub first_from : ℕ → ℕ → List Older → Option First
first_from place k [] = None
first_from place k (e ∷ es) = if k == e.0 then Some (record { place = place; value = e.1 }) else first_from (place + 1) k es

abbrev pub or_first : Option First → Option First → Option First
or_first (Some first) other = Some first
or_first None other = other

abbrev pub FirstsAre : BTreeMap ℕ First → List Older → Type 0
FirstsAre first older = (k : ℕ) → tree_get nat_cmp first k ≡ first_from 0 k older

abbrev pub stands_at : Option First → ℕ → Bool
stands_at None place = false
stands_at (Some first) place = first.place == place

pub record KeepsUndo (older : List Older) (marks : List ℕ) (first : BTreeMap ℕ First) (changes room : ℕ) : Type 0 where
  pub marked : AreMarks (length older) (reverse marks)
  pub firsts : FirstsAre first older
  pub none : changes ≡ 0
  pub fits : btree_map_len first ≤ room

-- ---- changes

-- a row's value now, where it differs
abbrev pub change_of : ℕ → Option ℤ → Option ℤ → Option Older
change_of k before now = if option_eq int_eq before now then None else Some (k, now)

abbrev pub change_row : Older → RowNo × Option ℤ
change_row e = (record { 0 = e.0 }, e.1)

-- ---- values

-- these are the values of the rows as they are kept
abbrev pub AreValues : {S : Type 0} → IndexMap ℕ (Option ℤ) S → RowMap → Type 0
AreValues slots now = (k : ℕ) → finite.get now k ≡ value_of (get nat_eq slots k)

-- these were the values, where the entries say what rows had
abbrev pub WereValues : List Older → RowMap → RowMap → Type 0
WereValues older before now = (k : ℕ) → finite.get before k ≡ unwrap_or (finite.find nat_cmp k older) (finite.get now k)

-- ---- the rows as they are kept, and what contracts see of them

abbrev pub slot_map : List (ℕ × Option ℤ) → RowMap
slot_map [] = finite.empty
slot_map (slot ∷ slots) = set_row (slot_map slots) slot.0 slot.1

abbrev pub stack_map : List (ℕ × List (List Older)) → finite.FinMap nat_cmp (List OlderMap)
stack_map undo = finite.from_entries (map (λ e. (e.0, map finite.from_entries e.1)) undo)

abbrev pub levels_in : Option (List (List Older)) → List (List Older)
levels_in None = []
levels_in (Some levels) = levels

-- each row of an undo list has a place
abbrev pub HasPlaces : List (ℕ × Option ℤ) → List Older → Type 0
HasPlaces slots older = (k : ℕ) → is_some (finite.find nat_cmp k older) ≡ true → is_some (lookup (nat_eq k) slots) ≡ true

abbrev pub HavePlaces : List (ℕ × Option ℤ) → List (ℕ × List (List Older)) → Type 0
HavePlaces slots undo = (t : ℕ) → HasPlaces slots (flat (levels_in (lookup (nat_eq t) undo)))

abbrev pub innermost_level : List (List Older) → List Older
innermost_level [] = []
innermost_level (level ∷ below) = level

abbrev pub emptied_level : List (List Older) → List (List Older)
emptied_level [] = []
emptied_level (level ∷ below) = [] ∷ below
