-- The store as contracts see it, and what a call that it answers leaves.
use Rattle.std.specs.Prelude.{◌≡◌, ℕ, ◌-◌, length, slice_get, Option, List, [], ◌∷◌, ◌++◌, Some}
use Rattle.stx_base.specs.declared.facts.StoreFacts.{StoreFacts}
use Rattle.stx_base.specs.declared.call.Want.{Want}
use Rattle.stx_base.specs.declared.call.StoreCall.{StoreCall}
use Rattle.stx_base.specs.declared.call.StoreAnswer.{StoreAnswer}
use Rattle.stx_base.specs.declared.history.StoreNote.{StoreNote}
use Rattle.stx_base.specs.declared.history.StoreEntry.{StoreEntry}
use Rattle.stx_journal.specs.declared.committed.Committed.{Committed}
use Rattle.stx_journal.specs.Journal.{committed_in}
use Rattle.stx_base.specs.Notes.{store_call_want, store_note}
use Rattle.stx_base.specs.Stores.{store_reply}

-- what it is made with, and the entries of all calls so far, in order
pub record Store : Type 0 where
  pub facts : StoreFacts
  pub entries : List StoreEntry

-- a store on which no call was made
abbrev pub new_store : StoreFacts → Store
new_store facts = record { facts = facts; entries = [] }

-- one entry more, at the end
abbrev pub with_store_entry : Store → ℕ → StoreNote → Store
with_store_entry store client note = record { facts = store.facts; entries = store.entries ++ (record { client = client; note = note }) ∷ [] }

-- the note is the store's reply to the call, and the store keeps it as the client's entry and nothing else
pub record StoreReplies (old new : Store) (client : ℕ) (want : Want) (note : StoreNote) : Type 0 where
  pub reply : store_reply old.facts old.entries want ≡ Some note
  pub kept : new ≡ with_store_entry old client note

-- the answer and the call together are the note that the store replies, and the store has kept it
pub record StoreCallAnswered (old new : Store) (client : ℕ) (call : StoreCall) (answer : StoreAnswer) : Type 0 where
  pub note : StoreNote
  pub made : store_note (store_call_want call) answer ≡ Some note
  pub replies : StoreReplies old new client (store_call_want call) note

-- the last of what was committed, with what it changed
abbrev pub last_committed : Store → Option Committed
last_committed store = slice_get (committed_in store.facts.values store.entries) (length (committed_in store.facts.values store.entries) - 1)
