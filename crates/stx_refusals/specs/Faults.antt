-- The faults of a walk, in the order in which it meets their places, and the paths that name places.
use Rattle.std.specs.Prelude.{ℕ, ◌+◌, Bool, true, false, nat_lt, nat_le, if◌then◌else◌, List, [], ◌∷◌, ◌++◌, codes, Option, Some, None}
use Rattle.std.specs.List.{find}
use Rattle.std.specs.Option.{option_map}
use Rattle.std.specs.Fmt.{decimal}
use Rattle.stx_refusals.specs.declared.fault.Fault.{Fault}
use Rattle.stx_refusals.specs.declared.fault.ReadFault.{ReadFault}
use Rattle.stx_refusals.specs.declared.fault.Stage.{Stage}

-- ---- paths: keys joined by dots, and indices from 0 in brackets

-- the path of a key in the table at a path; the root has the empty path
abbrev pub under : List ℕ → List ℕ → List ℕ
under [] key = key
under (b ∷ path) key = (b ∷ path) ++ codes "." ++ key

-- the path of an entry of the array at a path
abbrev pub entry : List ℕ → ℕ → List ℕ
entry path n = path ++ codes "[" ++ decimal n ++ codes "]"

-- ---- faults

-- one fault, or none
abbrev pub refused : List ℕ → Option Stage → List Fault
refused path (Some stage) = record { stage = stage; path = path } ∷ []
refused path None = []

-- this stage, unless the test passed
abbrev pub unless : Bool → Stage → Option Stage
unless true stage = None
unless false stage = Some stage

-- what is refused in each entry of a list, whose numbers are counted from n
abbrev pub each_from : {A : Type 0} → (ℕ → A → List Fault) → ℕ → List A → List Fault
each_from faults n [] = []
each_from faults n (x ∷ xs) = faults n x ++ each_from faults (n + 1) xs

-- what is refused in the number of an array's entries
abbrev pub count_stage : ℕ → ℕ → ℕ → Option Stage
count_stage least most n = if nat_lt n least then Some Stage.OutOfRange else unless (nat_le n most) Stage.TooMany

-- an array with more entries than it may have
abbrev pub count_faults : ℕ → List ℕ → ℕ → List Fault
count_faults most path n = refused path (count_stage 0 most n)

-- ---- which of them is the refusal

abbrev pub is_stage : Stage → Stage → Bool
is_stage Stage.UnknownKey Stage.UnknownKey = true
is_stage Stage.Missing Stage.Missing = true
is_stage Stage.WrongType Stage.WrongType = true
is_stage Stage.BadName Stage.BadName = true
is_stage Stage.OutOfRange Stage.OutOfRange = true
is_stage Stage.TooMany Stage.TooMany = true
is_stage Stage.BadWord Stage.BadWord = true
is_stage Stage.UnknownRef Stage.UnknownRef = true
is_stage Stage.CallbackBody Stage.CallbackBody = true
is_stage _ _ = false

-- what a stage answers at a place
abbrev pub refusal_at : Stage → List ℕ → ReadFault
refusal_at Stage.UnknownKey path = ReadFault.UnknownKey path
refusal_at Stage.Missing path = ReadFault.Missing path
refusal_at Stage.WrongType path = ReadFault.WrongType path
refusal_at Stage.BadName path = ReadFault.BadName path
refusal_at Stage.OutOfRange path = ReadFault.OutOfRange path
refusal_at Stage.TooMany path = ReadFault.TooMany path
refusal_at Stage.BadWord path = ReadFault.BadWord path
refusal_at Stage.UnknownRef path = ReadFault.UnknownRef path
refusal_at Stage.CallbackBody path = ReadFault.CallbackBody path

-- the first place that this stage refuses
unfoldable pub first_at : Stage → List Fault → Option ReadFault
first_at stage faults = option_map (λ fault. refusal_at stage fault.path) (find (λ fault. is_stage stage fault.stage) faults)

-- the first of these that there is
abbrev pub first_some : {A : Type 0} → List (Option A) → Option A
first_some [] = None
first_some (Some a ∷ more) = Some a
first_some (None ∷ more) = first_some more
