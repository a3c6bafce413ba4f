-- A play as contracts see it, and what turns make of it.
use Rattle.std.specs.Prelude.{ℕ, ◌<◌, Bool, true, false, not, List, length, drop, slice_get, Option}
use Rattle.stx_scenario.specs.declared.scenario.Scenario.{Scenario}
use Rattle.stx_base.specs.declared.history.StoreNote.{StoreNote}
use Rattle.stx_base.specs.Histories.{store_notes}
use Rattle.stx_base.specs.Stores.{is_busy}
use Rattle.stx_journal.specs.declared.committed.Committed.{Committed}
use Rattle.stx_journal.specs.Journal.{committed_in}
pub use Rattle.stx_model.specs.Played.{IsClientDone}
use Rattle.stx_model.specs.Played.{Turns, no_turns, turn}

-- the histories so far, and whether memory has run out: then it can only be dropped
pub record PlayView : Type 0 where
  pub scenario : Scenario
  pub so_far : Turns
  pub failed : Bool

abbrev pub unplayed : Scenario → PlayView
unplayed S = record { scenario = S; so_far = no_turns; failed = false }

abbrev pub with_turn : PlayView → ℕ → PlayView
with_turn play c = record { scenario = play.scenario; so_far = turn play.scenario play.so_far c; failed = play.failed }

abbrev pub with_turns : PlayView → Turns → PlayView
with_turns play so_far = record { scenario = play.scenario; so_far = so_far; failed = play.failed }

-- the commit that the store has gained since, if it has one
abbrev pub newly_committed : PlayView → PlayView → Option Committed
newly_committed old new = slice_get (committed_in old.scenario.values new.so_far.store) (length (committed_in old.scenario.values old.so_far.store))

-- the notes that the store has gained since
abbrev pub gained : PlayView → PlayView → List StoreNote
gained old new = store_notes (drop (length old.so_far.store) new.so_far.store)

-- a note that commits: a commit, or an own statement that isn't busy
abbrev pub is_commit : StoreNote → Bool
is_commit (StoreNote.Commit t n) = true
is_commit (StoreNote.Auto a r) = not (is_busy r)
is_commit _ = false

-- every client has made all of its calls
abbrev pub AllDone : Scenario → Turns → Type 0
AllDone S so_far = (c : ℕ) → c < length S.clients → IsClientDone S so_far c
