-- What is kept of a transaction's work: the accesses that no return has undone, and how many of them there were at each
-- open savepoint.
use Rattle.std.specs.Prelude.{ℕ, List, [], ◌∷◌, ◌++◌, length, take, if◌then◌else◌, Option, Some, None}
use Rattle.std.specs.List.{fold}
use Rattle.stx_base.specs.declared.history.Access.{Access}
use Rattle.stx_base.specs.declared.history.StoreNote.{StoreNote}
use Rattle.stx_base.specs.Stores.{is_busy}

pub record Kept : Type 0 where
  pub accesses : List Access
  -- the innermost savepoint first
  pub points : List ℕ

abbrev pub nothing : Kept
nothing = record { accesses = []; points = [] }

-- the accesses that a return to the innermost savepoint leaves
abbrev pub gone_back : List ℕ → List Access → List Access
gone_back [] accesses = accesses
gone_back (n ∷ outer) accesses = take n accesses

abbrev pub released : List ℕ → List ℕ
released [] = []
released (n ∷ outer) = outer

-- after one more note of the work
abbrev pub kept_after : Kept → StoreNote → Kept
kept_after k (StoreNote.Access t a r) = record { accesses = k.accesses ++ a ∷ []; points = k.points }
kept_after k (StoreNote.Auto a r) = record { accesses = k.accesses ++ a ∷ []; points = k.points }
kept_after k (StoreNote.Point t) = record { accesses = k.accesses; points = length k.accesses ∷ k.points }
kept_after k (StoreNote.BackTo t) = record { accesses = gone_back k.points k.accesses; points = k.points }
kept_after k (StoreNote.Release t) = record { accesses = k.accesses; points = released k.points }
kept_after k _ = k

abbrev pub kept_of : List StoreNote → Kept
kept_of work = fold kept_after nothing work

-- the transaction to whose work a note belongs
abbrev pub worker : StoreNote → Option ℕ
worker (StoreNote.Access t a r) = if is_busy r then None else Some t
worker (StoreNote.Point t) = Some t
worker (StoreNote.BackTo t) = Some t
worker (StoreNote.Release t) = Some t
worker _ = None
