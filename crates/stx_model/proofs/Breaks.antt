-- Where a piece of a script ends that breaks only at notes that don't answer: each word that joins pieces keeps this, and
-- brings contexts of one kind to contexts of another.
use Rattle.std.proofs.Common.{◌≡◌, Bool, true, false, Option, Some, None, refl, sym, subst}
use Rattle.std.specs.Prelude.{⊤, ℕ}
use Rattle.std.specs.Option.{is_some}
use Rattle.std.proofs.lemmas.Bool.{false≢true}
use Rattle.stx_scenario.specs.declared.numbers.ClassNo.{ClassNo}
use Rattle.stx_base.specs.declared.call.Want.{Want}
use Rattle.stx_base.specs.declared.history.Access.{Access}
use Rattle.stx_base.specs.declared.history.Answer.{Answer}
use Rattle.stx_base.specs.declared.history.PoolNote.{PoolNote}
use Rattle.stx_base.specs.declared.history.StoreNote.{StoreNote}
use Rattle.stx_model.specs.Contexts.{Context, Live}
use Rattle.stx_base.specs.Notes.{is_answer}
use Rattle.stx_base.specs.declared.history.Note.{Note}
use Rattle.stx_model.specs.Meanings.{State, Result, Over, Stops, Breaks, Meaning, and_then, finally, unread, hear, ask, on_take, on_begin, on_access}
use Rattle.stx_model.specs.Scopes.{live_in}
use Rattle.stx_model.proofs.Steady.{NextNote, NoNote, OneNote, next_note, asked, unasked}

-- the next note for this call is there, and doesn't answer it
pub record WrongNote (st : State) : Type 0 where
  pub want : Want
  pub note : Note
  pub is_next : unread want st ≡ Some note
  pub is_none : is_answer want note ≡ false

-- it goes on in such a context, stops, or breaks at a note that doesn't answer
abbrev pub EndsWell : (Context → Type 0) → Result → Type 0
EndsWell after (Over x st) = after st.context
EndsWell after (Stops w st) = ⊤
EndsWell after (Breaks st) = WrongNote st

-- from contexts of one kind to those of another
abbrev pub Brings : (Context → Type 0) → (Context → Type 0) → Meaning → Type 0
Brings before after meaning = (st : State) → before st.context → EndsWell after (meaning st)

-- ---- joining pieces

pub finally_ends : (middle after : Context → Type 0) (r : Result) (next : Option ClassNo → Meaning) → EndsWell middle r
    → ((x : Option ClassNo) → Brings middle after (next x)) → EndsWell after (finally r next)
finally_ends middle after (Over x st) next ends brings = brings x st ends
finally_ends middle after (Stops w st) next ends brings = ends
finally_ends middle after (Breaks st) next ends brings = ends

pub and_then_ends : (after : Context → Type 0) (r : Result) (next : Meaning) → EndsWell after r → Brings after after next
    → EndsWell after (and_then r next)
and_then_ends after (Over None st) next ends brings = brings st ends
and_then_ends after (Over (Some x) st) next ends brings = ends
and_then_ends after (Stops w st) next ends brings = ends
and_then_ends after (Breaks st) next ends brings = ends

pub either_ends : (after : Context → Type 0) (b : Bool) (first second : Result) → (b ≡ true → EndsWell after first)
    → (b ≡ false → EndsWell after second)
    → EndsWell after (elim b [ true ↦ first | false ↦ second ])
either_ends after true first second ends ends_else = ends refl
either_ends after false first second ends ends_else = ends_else refl

-- where a transaction is live
pub live_in_ends : (after : Context → Type 0) (tx : Option Live) (next : Live → Meaning) (st : State) → is_some tx ≡ true
    → ((live : Live) → EndsWell after (next live st)) → EndsWell after (live_in tx next st)
live_in_ends after (Some live) next st is ends = ends live
live_in_ends after None next st is ends = absurd (false≢true is)

-- ---- asking

heard_context : (n : Note) (st : State) → (hear n st).context ≡ st.context
heard_context (Note.Pool n) st = refl
heard_context (Note.Store n) st = refl

pub ask_brings : (before after : Context → Type 0) (w : Want) (next : Note → Meaning)
    → ((n : Note) → is_answer w n ≡ true → Brings before after (next n))
    → Brings before after (ask w next)
ask_brings before after w next brings st fits = by_note (next_note w st)
  where
    by_answer : (n : Note) (b : Bool) → unread w st ≡ Some n → is_answer w n ≡ b
        → EndsWell after (elim b [ true ↦ next n (hear n st) | false ↦ Breaks st ])
    by_answer n true here is = brings n is (hear n st) (subst before (sym (heard_context n st)) fits)
    by_answer n false here is = record { want = w; note = n; is_next = here; is_none = is }

    by_note : NextNote w st → EndsWell after (ask w next st)
    by_note (NoNote none) = subst (EndsWell after) (sym (unasked w next st none)) tt
    by_note (OneNote n here following) = subst (EndsWell after) (sym (asked w next st n (is_answer w n) here refl)) (by_answer n (is_answer w n) here refl)

-- ---- what notes carry

module _ (before after : Context → Type 0) where
  pub on_take_brings : (next : Option ℕ → Meaning) → ((c : Option ℕ) → Brings before after (next c)) → (n : Note) → is_answer Want.Take n ≡ true
      → Brings before after (on_take next n)
  on_take_brings next brings (Note.Pool (PoolNote.Taken c)) is = brings (Some c)
  on_take_brings next brings (Note.Pool PoolNote.Empty) is = brings None
  on_take_brings next brings (Note.Pool (PoolNote.Given c)) is = absurd (false≢true is)
  on_take_brings next brings (Note.Store n) is = absurd (false≢true is)

  pub on_begin_brings : (next : ℕ → Meaning) → ((t : ℕ) → Brings before after (next t)) → (n : Note) → is_answer Want.Begin n ≡ true
      → Brings before after (on_begin next n)
  on_begin_brings next brings (Note.Store (StoreNote.Begin t)) is = brings t
  on_begin_brings next brings (Note.Store n) is = absurd (false≢true is)
  on_begin_brings next brings (Note.Pool n) is = absurd (false≢true is)

  module _ (next : Answer → Meaning) (brings : (r : Answer) → Brings before after (next r)) where
    pub on_access_brings : (t : ℕ) (a : Access) (n : Note) → is_answer (Want.Access t a) n ≡ true → Brings before after (on_access next n)
    on_access_brings t a (Note.Store (StoreNote.Access u b r)) is = brings r
    on_access_brings t a (Note.Store (StoreNote.Auto b r)) is = brings r
    on_access_brings t a (Note.Store n) is = absurd (false≢true is)
    on_access_brings t a (Note.Pool n) is = absurd (false≢true is)

    pub on_auto_brings : (a : Access) (n : Note) → is_answer (Want.Auto a) n ≡ true → Brings before after (on_access next n)
    on_auto_brings a (Note.Store (StoreNote.Access u b r)) is = brings r
    on_auto_brings a (Note.Store (StoreNote.Auto b r)) is = brings r
    on_auto_brings a (Note.Store n) is = absurd (false≢true is)
    on_auto_brings a (Note.Pool n) is = absurd (false≢true is)
