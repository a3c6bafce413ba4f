-- A call and the reply to it make a note together: which note, which calls a note answers, and its line.
use Rattle.std.specs.Prelude.{Bool, true, false, ◌&&◌, ◌==◌, Option, Some, None}
use Rattle.std.specs.Option.{option_map}
use Rattle.std.specs.Ordering.{int_eq}
use Rattle.stx_base.specs.declared.call.Want.{Want}
use Rattle.stx_base.specs.declared.call.Call.{Call}
use Rattle.stx_base.specs.declared.call.PoolCall.{PoolCall}
use Rattle.stx_base.specs.declared.call.StoreCall.{StoreCall}
use Rattle.stx_base.specs.declared.call.Reply.{Reply}
use Rattle.stx_base.specs.declared.call.PoolAnswer.{PoolAnswer}
use Rattle.stx_base.specs.declared.call.StoreAnswer.{StoreAnswer}
use Rattle.stx_base.specs.declared.history.Access.{Access}
use Rattle.stx_base.specs.declared.history.Answer.{Answer}
use Rattle.stx_base.specs.declared.history.PoolNote.{PoolNote}
use Rattle.stx_base.specs.declared.history.StoreNote.{StoreNote}
use Rattle.stx_base.specs.declared.history.Note.{Note}
use Rattle.stx_base.specs.declared.line.Line.{Line}

-- ---- calls

-- what a call wants
abbrev pub pool_call_want : PoolCall → Want
pool_call_want PoolCall.Take = Want.Take
pool_call_want (PoolCall.Give c) = Want.Give c

abbrev pub store_call_want : StoreCall → Want
store_call_want StoreCall.Begin = Want.Begin
store_call_want (StoreCall.Access t a) = Want.Access t a
store_call_want (StoreCall.Point t) = Want.Point t
store_call_want (StoreCall.BackTo t) = Want.BackTo t
store_call_want (StoreCall.Release t) = Want.Release t
store_call_want (StoreCall.Commit t) = Want.Commit t
store_call_want (StoreCall.Rollback t) = Want.Rollback t
store_call_want (StoreCall.Auto a) = Want.Auto a

abbrev pub call_want : Call → Want
call_want (Call.Pool call) = pool_call_want call
call_want (Call.Store call) = store_call_want call

-- a sure call never wants for memory: an earlier one has kept its room
abbrev pub pool_call_is_sure : PoolCall → Bool
pool_call_is_sure PoolCall.Take = false
pool_call_is_sure (PoolCall.Give c) = true

abbrev pub store_call_is_sure : StoreCall → Bool
store_call_is_sure (StoreCall.BackTo t) = true
store_call_is_sure (StoreCall.Release t) = true
store_call_is_sure (StoreCall.Commit t) = true
store_call_is_sure (StoreCall.Rollback t) = true
store_call_is_sure _ = false

-- ---- notes

-- the note of a want and an answer, where the answer is one to such a call
abbrev pub pool_note : Want → PoolAnswer → Option PoolNote
pool_note Want.Take (PoolAnswer.Taken c) = Some (PoolNote.Taken c)
pool_note Want.Take PoolAnswer.Empty = Some PoolNote.Empty
pool_note (Want.Give c) PoolAnswer.Given = Some (PoolNote.Given c)
pool_note _ _ = None

abbrev pub store_note : Want → StoreAnswer → Option StoreNote
store_note Want.Begin (StoreAnswer.Begun t) = Some (StoreNote.Begin t)
store_note (Want.Access t a) (StoreAnswer.Answered r) = Some (StoreNote.Access t a r)
store_note (Want.Point t) StoreAnswer.Pointed = Some (StoreNote.Point t)
store_note (Want.BackTo t) StoreAnswer.BackedTo = Some (StoreNote.BackTo t)
store_note (Want.Release t) StoreAnswer.Released = Some (StoreNote.Release t)
store_note (Want.Commit t) (StoreAnswer.Committed n) = Some (StoreNote.Commit t n)
store_note (Want.Rollback t) StoreAnswer.RolledBack = Some (StoreNote.Rollback t)
store_note (Want.Auto a) (StoreAnswer.Answered r) = Some (StoreNote.Auto a r)
store_note _ _ = None

abbrev pub note_of : Want → Reply → Option Note
note_of w (Reply.Pool answer) = option_map Note.Pool (pool_note w answer)
note_of w (Reply.Store answer) = option_map Note.Store (store_note w answer)

-- ---- which calls a note answers

abbrev pub same_access : Access → Access → Bool
same_access (Access.Read k) (Access.Read j) = k.0 == j.0
same_access (Access.Write k v) (Access.Write j w) = k.0 == j.0 && int_eq v w
same_access (Access.Erase k) (Access.Erase j) = k.0 == j.0
same_access _ _ = false

-- a read finds a value or nothing, a write or an erase is done, and each may be busy
abbrev pub suits : Access → Answer → Bool
suits a (Answer.Busy t) = true
suits (Access.Read k) (Answer.Found v) = true
suits (Access.Read k) Answer.Absent = true
suits (Access.Write k v) Answer.Done = true
suits (Access.Erase k) Answer.Done = true
suits _ _ = false

-- the note answers a call on the pool
abbrev pub pool_answers : Want → PoolNote → Bool
pool_answers Want.Take (PoolNote.Taken c) = true
pool_answers Want.Take PoolNote.Empty = true
pool_answers (Want.Give c) (PoolNote.Given d) = d == c
pool_answers _ _ = false

-- the note answers a call on the store: it repeats the call's transaction and access
abbrev pub store_answers : Want → StoreNote → Bool
store_answers Want.Begin (StoreNote.Begin t) = true
store_answers (Want.Access t a) (StoreNote.Access u b r) = u == t && same_access a b && suits a r
store_answers (Want.Point t) (StoreNote.Point u) = u == t
store_answers (Want.BackTo t) (StoreNote.BackTo u) = u == t
store_answers (Want.Release t) (StoreNote.Release u) = u == t
store_answers (Want.Commit t) (StoreNote.Commit u n) = u == t
store_answers (Want.Rollback t) (StoreNote.Rollback u) = u == t
store_answers (Want.Auto a) (StoreNote.Auto b r) = same_access a b && suits a r
store_answers _ _ = false

-- a note of this call
abbrev pub is_answer : Want → Note → Bool
is_answer w (Note.Pool n) = pool_answers w n
is_answer w (Note.Store n) = store_answers w n

abbrev pub is_answer_if : Want → Option Note → Bool
is_answer_if w (Some note) = is_answer w note
is_answer_if w None = false

-- the reply is of the call's kind: together they are a note of the want
abbrev pub is_reply_to : Want → Reply → Bool
is_reply_to w reply = is_answer_if w (note_of w reply)

-- the same of the call that is out, if one is
abbrev pub is_reply : Option Want → Reply → Bool
is_reply (Some w) reply = is_reply_to w reply
is_reply None reply = false

-- ---- the one line of a note

abbrev pub pool_line : PoolNote → Line
pool_line (PoolNote.Taken c) = Line.Take (Some c)
pool_line PoolNote.Empty = Line.Take None
pool_line (PoolNote.Given c) = Line.Give c

abbrev pub store_line : StoreNote → Line
store_line (StoreNote.Begin t) = Line.Begin t
store_line (StoreNote.Access t a r) = Line.Row t a r
store_line (StoreNote.Point t) = Line.Savepoint t
store_line (StoreNote.BackTo t) = Line.BackTo t
store_line (StoreNote.Release t) = Line.Release t
store_line (StoreNote.Commit t n) = Line.Commit t n
store_line (StoreNote.Rollback t) = Line.Rollback t
store_line (StoreNote.Auto a r) = Line.Auto a r

abbrev pub note_line : Note → Line
note_line (Note.Pool n) = pool_line n
note_line (Note.Store n) = store_line n
