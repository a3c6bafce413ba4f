-- What a script reads of its notes, and when the notes of a client are such as a pool and a store give.
use Rattle.std.specs.Prelude.{◌≡◌, ℕ, ◌+◌, ◌-◌, ◌==◌, false, IsTrue, List, [], ◌∷◌, ◌++◌, length, Some, ⊤}
use Rattle.std.specs.List.{IsDistinct}
use Rattle.stx_scenario.specs.declared.scenario.Scenario.{Scenario}
use Rattle.stx_base.specs.declared.call.Want.{Want}
use Rattle.stx_base.specs.declared.history.PoolNote.{PoolNote}
use Rattle.stx_base.specs.declared.history.StoreNote.{StoreNote}
use Rattle.stx_base.specs.Notes.{is_answer}
use Rattle.stx_base.specs.declared.history.Note.{Note}
use Rattle.stx_model.specs.Meanings.{State, Stops, unread, state_of}
use Rattle.stx_base.specs.Pools.{contains, out_after, pool_proper}
use Rattle.stx_model.specs.Script.{script}
use Rattle.stx_base.specs.Stores.{begun, store_proper}

-- ---- reading

-- these are the first of all
abbrev pub StartsWith : {X : Type 0} → List X → List X → Type 0
StartsWith {X = X} all first = (more : List X) × (all ≡ first ++ more)

-- these are the last of all
abbrev pub IsEndOf : {N : Type 0} → List N → List N → Type 0
IsEndOf {N = N} rest all = (first : List N) × (all ≡ first ++ rest)

-- how many notes aren't read yet
abbrev pub count_unread : State → ℕ
count_unread st = length st.pool + length st.store

-- how many notes the script of client c reads: those given less those left unread, whatever its end
abbrev pub notes_read : Scenario → ℕ → List PoolNote → List StoreNote → ℕ
notes_read S c pool store = length pool + length store - count_unread (state_of (script S c pool store))

-- the script of client c leaves none of them unread
pub record ReadsAll (S : Scenario) (c : ℕ) (pool : List PoolNote) (store : List StoreNote) : Type 0 where
  pub pool_read : (state_of (script S c pool store)).pool ≡ []
  pub store_read : (state_of (script S c pool store)).store ≡ []

-- the same state with no note unread
abbrev pub all_read : State → State
all_read st = record { lines = st.lines; context = st.context; local = st.local; pool = []; store = [] }

-- a script that broke so: its next note doesn't answer what it wants there, and over the notes before this one it stops
-- at that want in the same state
pub record BrokeAtNote (S : Scenario) (c : ℕ) (pool : List PoolNote) (store : List StoreNote) (end : State) : Type 0 where
  pub want : Want
  pub note : Note
  pub is_next : unread want end ≡ Some note
  pub is_none : is_answer want note ≡ false
  pub pool_read : List PoolNote
  pub store_read : List StoreNote
  pub pool_is : pool ≡ pool_read ++ end.pool
  pub store_is : store ≡ store_read ++ end.store
  pub stops : script S c pool_read store_read ≡ Stops want (all_read end)

-- the notes with one more, of the pool or of the store
abbrev pub pool_with : List PoolNote → Note → List PoolNote
pool_with pool (Note.Pool n) = pool ++ n ∷ []
pool_with pool (Note.Store n) = pool

abbrev pub store_with : List StoreNote → Note → List StoreNote
store_with store (Note.Pool n) = store
store_with store (Note.Store n) = store ++ n ∷ []

-- ---- fresh numbers

-- while these connections are out, and each later note changes what is out, none is taken that is out
abbrev pub TakesFreshFrom : List ℕ → List PoolNote → Type 0
TakesFreshFrom taken [] = ⊤
TakesFreshFrom taken (PoolNote.Taken c ∷ notes) = (contains taken c ≡ false) × TakesFreshFrom (out_after taken (PoolNote.Taken c)) notes
TakesFreshFrom taken (n ∷ notes) = TakesFreshFrom (out_after taken n) notes

-- no connection is taken that is out
abbrev pub TakesFresh : List PoolNote → Type 0
TakesFresh notes = TakesFreshFrom [] notes

-- no transaction number is begun twice
abbrev pub BeginsFresh : List StoreNote → Type 0
BeginsFresh notes = IsDistinct ◌==◌ (begun notes)

-- ---- proper wants

-- a call on the pool is proper where the takes are fresh, and a call on the store where the begins are; Done calls
-- nothing, and Failed is never proper
abbrev pub IsProperAfter : List PoolNote → List StoreNote → Want → Type 0
IsProperAfter pool store Want.Take = TakesFresh pool → IsTrue (pool_proper pool Want.Take)
IsProperAfter pool store (Want.Give c) = TakesFresh pool → IsTrue (pool_proper pool (Want.Give c))
IsProperAfter pool store Want.Done = ⊤
IsProperAfter pool store want = BeginsFresh store → IsTrue (store_proper store want)
