-- The pool: which connections are out, and what it replies. (Spring: DataSourceUtils over a bounded DataSource.)
use Rattle.std.specs.Prelude.{ℕ, zero, suc, ◌+◌, Bool, false, not, ◌&&◌, ◌==◌, if◌then◌else◌, List, [], ◌∷◌, Option, Some, None}
use Rattle.std.specs.List.{filter, list_any, fold}
use Rattle.stx_base.specs.declared.call.Want.{Want}
use Rattle.stx_base.specs.declared.history.PoolNote.{PoolNote}
use Rattle.stx_base.specs.declared.history.PoolEntry.{PoolEntry}
use Rattle.stx_base.specs.Histories.{pool_notes, has_room}

abbrev pub contains : List ℕ → ℕ → Bool
contains numbers n = list_any (λ m. m == n) numbers

abbrev pub without : List ℕ → ℕ → List ℕ
without numbers n = filter (λ m. not (m == n)) numbers

-- the connections that are out after one more note
abbrev pub out_after : List ℕ → PoolNote → List ℕ
out_after taken (PoolNote.Taken c) = c ∷ taken
out_after taken PoolNote.Empty = taken
out_after taken (PoolNote.Given c) = without taken c

-- the connections taken and not given after their last taking
abbrev pub out : List PoolNote → List ℕ
out notes = fold out_after [] notes

-- the first of `count` numbers, from `c` on, that isn't out
abbrev pub first_free : ℕ → ℕ → List ℕ → Option ℕ
first_free zero c taken = None
first_free (suc count) c taken = if contains taken c then first_free count (c + 1) taken else Some c

abbrev pub taken_or_empty : Option ℕ → PoolNote
taken_or_empty (Some c) = PoolNote.Taken c
taken_or_empty None = PoolNote.Empty

-- the reply of a pool of connections 1 to `size`, after these entries: a take gives the least number that isn't out
unfoldable pub pool_reply : ℕ → List PoolEntry → Want → Option PoolNote
pool_reply size before Want.Take = Some (taken_or_empty (first_free size 1 (out (pool_notes before))))
pool_reply size before (Want.Give c) = Some (PoolNote.Given c)
pool_reply size before _ = None

-- the call that a note answers
abbrev pub pool_want : PoolNote → Want
pool_want (PoolNote.Taken c) = Want.Take
pool_want PoolNote.Empty = Want.Take
pool_want (PoolNote.Given c) = Want.Give c

-- a call on the pool is proper after the client's own notes: what it gives it has taken and not given
unfoldable pub pool_proper : List PoolNote → Want → Bool
pool_proper own Want.Take = has_room own
pool_proper own (Want.Give c) = has_room own && contains (out own) c
pool_proper own _ = false
