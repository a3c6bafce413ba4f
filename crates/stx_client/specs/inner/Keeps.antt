-- What the fields of a client keep true.
use Rattle.std.specs.Prelude.{◌≡◌, ◌<◌, ℕ, Bool, true, false, List, ◌∷◌, ◌++◌, length, None, ⊤}
use Rattle.stx_scenario.specs.declared.scenario.Scenario.{Scenario}
use Rattle.stx_base.specs.declared.call.Want.{Want}
use Rattle.stx_base.specs.declared.history.Note.{Note}
use Rattle.stx_base.specs.declared.history.PoolNote.{PoolNote}
use Rattle.stx_base.specs.declared.history.StoreNote.{StoreNote}
use Rattle.stx_model.specs.Meanings.{Result, state_of}
use Rattle.stx_model.specs.Script.{script}
use Rattle.stx_model.specs.Reads.{StartsWith}
use Rattle.stx_machine.specs.declared.machine.Machine.{Machine}
use Rattle.stx_machine.specs.declared.stage.Stage.{Stage}
use Rattle.stx_machine.specs.declared.tokens.Tokens.{Tokens}
use Rattle.stx_machine.specs.Machine.{falls, has_failed, run}
use Rattle.stx_model.specs.Playable.{IsPlayable}
use Rattle.stx_machine.specs.Sound.{IsSound, held, held_out}

-- a call that is out has taken along the token that it spends
abbrev pub held_while : Bool → Stage → Tokens
held_while true stage = held_out stage
held_while false stage = held stage

-- what a call brings isn't held yet
abbrev pub Lacks : Want → Tokens → Type 0
Lacks Want.Take tokens = tokens.connection ≡ None
Lacks Want.Begin tokens = tokens.session ≡ None
Lacks _ tokens = ⊤

-- what the machine leaves of the script of client n, whatever notes are still to come after those taken in
abbrev pub RunsOn : Scenario → ℕ → Machine → List PoolNote → List StoreNote → Type 0
RunsOn S n m pool store = (p : List PoolNote) (s : List StoreNote) → script S n (pool ++ p) (store ++ s) ≡ run S n m p s

-- the same with a note more before those that are to come
abbrev pub run_with : Scenario → ℕ → Machine → Note → List PoolNote → List StoreNote → Result
run_with S n m (Note.Pool note) pool store = run S n m (note ∷ pool) store
run_with S n m (Note.Store note) pool store = run S n m pool (note ∷ store)

-- a note takes one machine of client n to the other, whatever notes are still to come
abbrev pub GoesOn : Scenario → ℕ → Note → Machine → Machine → Type 0
GoesOn S n note before after = (pool : List PoolNote) (store : List StoreNote) → run_with S n before note pool store ≡ run S n after pool store

-- a machine that waits for the reply to a shared call, or is done
pub record IsWaiting (S : Scenario) (m : Machine) (tokens : Tokens) : Type 0 where
  pub sound : IsSound S m tokens
  pub waits : falls m.stage ≡ false
  pub going : has_failed m.stage ≡ false

-- the machine is what is left of the script, and its lines are the script's so far; after want of memory a first part
pub record Keeps (S : Scenario) (n : ℕ) (m : Machine) (out : Bool) (pool : List PoolNote) (store : List StoreNote) : Type 0 where
  pub playable : IsPlayable S
  pub client : n < length S.clients
  pub waiting : has_failed m.stage ≡ false → IsWaiting S m (held_while out m.stage)
  pub runs : has_failed m.stage ≡ false → RunsOn S n m pool store
  pub starts : StartsWith (state_of (script S n pool store)).lines m.lines.items

-- the room for the note of the reply to come
pub record HasRoom (m : Machine) (pool_spare store_spare : ℕ) : Type 0 where
  pub pool : has_failed m.stage ≡ false → 0 < pool_spare
  pub store : has_failed m.stage ≡ false → 0 < store_spare
