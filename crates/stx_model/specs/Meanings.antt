-- What a piece of a script means: from a state to a state and an end. Pieces are joined by small words, and a piece
-- that needs a shared call asks for it: it reads the call's answer from the notes, or stops where there is none yet.
use Rattle.std.specs.Prelude.{ℕ, Bool, true, false, List, [], ◌∷◌, ◌++◌, drop, Option, Some, None, slice_get}
use Rattle.std.specs.Option.{option_map}
use Rattle.stx_scenario.specs.declared.numbers.ClassNo.{ClassNo}
use Rattle.stx_base.specs.declared.call.Want.{Want}
use Rattle.stx_base.specs.declared.history.Answer.{Answer}
use Rattle.stx_base.specs.declared.history.PoolNote.{PoolNote}
use Rattle.stx_base.specs.declared.history.StoreNote.{StoreNote}
use Rattle.stx_base.specs.declared.history.Note.{Note}
use Rattle.stx_base.specs.declared.line.Line.{Line}
use Rattle.stx_base.specs.Notes.{is_answer, note_line}
use Rattle.stx_model.specs.Contexts.{Context, bare}

-- ---- states and results

-- the lines so far, the context, the local mark of the nearest scope that is open (none where no scope is), and the notes
-- that aren't read yet
pub record State : Type 0 where
  pub lines : List Line
  pub context : Context
  pub local : Option Bool
  pub pool : List PoolNote
  pub store : List StoreNote

-- nothing said, nothing carried, all notes unread
abbrev pub at_first : List PoolNote → List StoreNote → State
at_first pool store = record { lines = []; context = bare; local = None; pool = pool; store = store }

-- Over None is the normal end and Over (Some x) a throw of class x; it stops at a call whose answer isn't there yet,
-- and breaks at a note that doesn't answer the call; a script is done where it stops at Done
pub data Result : Type 0 where
  Over : Option ClassNo → State → Result
  Stops : Want → State → Result
  Breaks : State → Result

abbrev pub Meaning : Type 0
Meaning = State → Result

abbrev pub state_of : Result → State
state_of (Over x st) = st
state_of (Stops w st) = st
state_of (Breaks st) = st

-- the call at which it stops
abbrev pub stop_of : Result → Option Want
stop_of (Stops w st) = Some w
stop_of _ = None

-- ---- joining pieces

-- goes on after a normal end
abbrev pub and_then : Result → Meaning → Result
and_then (Over None st) next = next st
and_then (Over (Some x) st) next = Over (Some x) st
and_then (Stops w st) next = Stops w st
and_then (Breaks st) next = Breaks st

-- goes on after every end, with the class that was thrown
abbrev pub finally : Result → (Option ClassNo → Meaning) → Result
finally (Over x st) next = next x st
finally (Stops w st) next = Stops w st
finally (Breaks st) next = Breaks st

-- adds a line
abbrev pub say : Line → State → State
say line st = record { lines = st.lines ++ line ∷ []; context = st.context; local = st.local; pool = st.pool; store = st.store }

abbrev pub with_context : Context → State → State
with_context context st = record { lines = st.lines; context = context; local = st.local; pool = st.pool; store = st.store }

abbrev pub with_local : Option Bool → State → State
with_local local st = record { lines = st.lines; context = st.context; local = local; pool = st.pool; store = st.store }

-- ---- asking

-- takes and gives are calls on the pool, all others on the store
abbrev pub unread : Want → State → Option Note
unread Want.Take st = option_map Note.Pool (slice_get st.pool 0)
unread (Want.Give c) st = option_map Note.Pool (slice_get st.pool 0)
unread _ st = option_map Note.Store (slice_get st.store 0)

-- the note is read: it isn't unread any more, and its line is added
abbrev pub hear : Note → State → State
hear (Note.Pool n) st =
    record { lines = st.lines ++ note_line (Note.Pool n) ∷ []; context = st.context; local = st.local; pool = drop 1 st.pool; store = st.store }
hear (Note.Store n) st =
    record { lines = st.lines ++ note_line (Note.Store n) ∷ []; context = st.context; local = st.local; pool = st.pool; store = drop 1 st.store }

abbrev pub heard : Want → (Note → Meaning) → State → Note → Result
heard w next st n = elim (is_answer w n) [ true ↦ next n (hear n st) | false ↦ Breaks st ]

abbrev pub answered : Want → (Note → Meaning) → State → Option Note → Result
answered w next st None = Stops w st
answered w next st (Some n) = heard w next st n

-- a shared call: goes on with its note, stops where there is none, and breaks at a note of something else
unfoldable pub ask : Want → (Note → Meaning) → Meaning
ask w next st = answered w next st (unread w st)

-- what a note of a take, of a begin and of an access carries
abbrev pub on_take : (Option ℕ → Meaning) → Note → Meaning
on_take next (Note.Pool (PoolNote.Taken c)) st = next (Some c) st
on_take next (Note.Pool PoolNote.Empty) st = next None st
on_take next _ st = Breaks st

abbrev pub on_begin : (ℕ → Meaning) → Note → Meaning
on_begin next (Note.Store (StoreNote.Begin t)) st = next t st
on_begin next _ st = Breaks st

abbrev pub on_access : (Answer → Meaning) → Note → Meaning
on_access next (Note.Store (StoreNote.Access t a r)) st = next r st
on_access next (Note.Store (StoreNote.Auto a r)) st = next r st
on_access next _ st = Breaks st
