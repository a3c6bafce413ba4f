-- A client as contracts see it.
use Rattle.std.specs.Prelude.{◌≡◌, ℕ, Bool, true, false, List, [], Option, Some, None}
use Rattle.stx_scenario.specs.declared.scenario.Scenario.{Scenario}
use Rattle.stx_base.specs.declared.call.Want.{Want}
use Rattle.stx_base.specs.declared.call.Reply.{Reply}
use Rattle.stx_base.specs.declared.history.PoolNote.{PoolNote}
use Rattle.stx_base.specs.declared.history.StoreNote.{StoreNote}
use Rattle.stx_base.specs.declared.history.Note.{Note}
use Rattle.stx_base.specs.declared.line.Line.{Line}
use Rattle.stx_base.specs.Notes.{note_of}
use Rattle.stx_model.specs.Meanings.{Result, state_of}
use Rattle.stx_model.specs.Script.{script}
use Rattle.stx_model.specs.Reads.{ReadsAll, pool_with, store_with}

-- the notes that the client has taken in, the call that is out, whether it has failed, and the lines that it has said
pub record ClientView : Type 0 where
  pub scenario : Scenario
  pub number : ℕ
  pub pool : List PoolNote
  pub store : List StoreNote
  pub out : Option Want
  pub failed : Bool
  pub said : List Line

-- the script over the notes taken in
abbrev pub script_of : ClientView → Result
script_of client = script client.scenario client.number client.pool client.store

abbrev pub lines_of_script : ClientView → List Line
lines_of_script client = (state_of (script_of client)).lines

-- the script over the notes taken in leaves none of them unread
abbrev pub HasReadAll : ClientView → Type 0
HasReadAll client = ReadsAll client.scenario client.number client.pool client.store

-- the lines are exactly those of the script over the notes taken in, and it leaves no note unread
pub record IsScript (client : ClientView) (said : List Line) : Type 0 where
  pub lines : lines_of_script client ≡ said
  pub read : HasReadAll client

-- the client has said all lines of its script over the notes taken in
abbrev pub has_told : ClientView → ClientView
has_told client = record client { said = lines_of_script client }

-- ---- what calls leave

-- a client of this scenario that has taken in nothing
abbrev pub new_client : Scenario → ℕ → ClientView
new_client S n = has_told (record { scenario = S; number = n; pool = []; store = []; out = None; failed = false; said = [] })

-- the call of this want is out
abbrev pub calling : ClientView → Want → ClientView
calling client w = record client { out = Some w }

-- the note is taken in, and no call is out
abbrev pub with_note : ClientView → Option Note → ClientView
with_note client (Some note) = record client { pool = pool_with client.pool note; store = store_with client.store note; out = None }
with_note client None = client

-- the note of a reply to the call that is out
abbrev pub note_heard : Option Want → Reply → Option Note
note_heard (Some w) reply = note_of w reply
note_heard None reply = None

abbrev pub heard : ClientView → Reply → ClientView
heard client reply = with_note client (note_heard client.out reply)

-- the client after a reply: it has said all up to its next call
abbrev pub fed : ClientView → Reply → ClientView
fed client reply = has_told (heard client reply)

-- the client after a reply for which memory ran out, with the lines that it has said
abbrev pub failed_at : ClientView → Reply → List Line → ClientView
failed_at client reply lines = record (heard client reply) { failed = true; said = lines }
