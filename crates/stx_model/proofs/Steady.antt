-- Meanings that are steady: what they did over some notes they do over these and more, and where they stopped they go on.
-- Each word that joins pieces keeps this.
use Rattle.std.proofs.Common.{◌≡◌, ◌⊎◌, ◌++◌, ◌∷◌, [], Bool, true, false, List, Option, Some, None, inl, inr, refl, sym, ap, ◌∙◌, subst, append_assoc, append-nil}
use Rattle.std.specs.Prelude.{ℕ, drop, slice_get}
use Rattle.std.specs.Option.{option_map}
use Rattle.stx_scenario.specs.declared.numbers.ClassNo.{ClassNo}
use Rattle.stx_base.specs.declared.call.Want.{Want}
use Rattle.stx_base.specs.declared.history.Answer.{Answer}
use Rattle.stx_base.specs.declared.history.PoolNote.{PoolNote}
use Rattle.stx_base.specs.declared.history.StoreNote.{StoreNote}
use Rattle.stx_base.specs.declared.line.Line.{Line}
use Rattle.stx_base.specs.Notes.{is_answer}
use Rattle.stx_base.specs.declared.history.Note.{Note}
use Rattle.stx_model.specs.Meanings.{State, Result, Over, Stops, Breaks, state_of, Meaning, and_then, finally, say, unread, hear, answered, ask, on_take, on_begin, on_access}
use Rattle.stx_model.specs.Reads.{IsEndOf, StartsWith}

-- ---- later states

-- lines were added, and notes were read from the front
abbrev pub IsLater : State → State → Type 0
IsLater later st = StartsWith later.lines st.lines × IsEndOf later.pool st.pool × IsEndOf later.store st.store

pub no_later : (st : State) → IsLater st st
no_later st = (([], sym (append-nil st.lines)), ([], refl), ([], refl))

start_of : {X : Type 0} (all middle first : List X) → StartsWith all middle → StartsWith middle first → StartsWith all first
start_of all middle first late early = (early.0 ++ late.0, late.1 ∙ ap (λ xs. xs ++ late.0) early.1 ∙ append_assoc first early.0 late.0)

end_of : {X : Type 0} (rest middle all : List X) → IsEndOf rest middle → IsEndOf middle all → IsEndOf rest all
end_of rest middle all late early = (early.0 ++ late.0, early.1 ∙ ap (λ xs. early.0 ++ xs) late.1 ∙ sym (append_assoc early.0 late.0 rest))

pub later_yet : (last middle first : State) → IsLater last middle → IsLater middle first → IsLater last first
later_yet last middle first late early = (
  start_of last.lines middle.lines first.lines late.0 early.0,
  end_of last.pool middle.pool first.pool late.1 early.1,
  end_of last.store middle.store first.store late.2 early.2,
)

pub said_later : (line : Line) (st : State) → IsLater (say line st) st
said_later line st = ((line ∷ [], refl), ([], refl), ([], refl))

-- ---- steady meanings

-- the same state with more notes to come
abbrev pub more : List PoolNote → List StoreNote → State → State
more p s st = record { lines = st.lines; context = st.context; local = st.local; pool = st.pool ++ p; store = st.store ++ s }

-- what a piece would give over more notes
abbrev pub Longer : Type 0
Longer = List PoolNote → List StoreNote → Result

abbrev pub Reads : Meaning → Type 0
Reads meaning = (st : State) → IsLater (state_of (meaning st)) st

-- it waits for an answer: over more notes it asks, and goes on with the answer
pub record Waits (w : Want) (st : State) (longer : Longer) : Type 0 where
  pub next : Note → Meaning
  pub reads : (n : Note) → Reads (next n)
  pub none : unread w st ≡ None
  pub asks : (p : List PoolNote) (s : List StoreNote) → longer p s ≡ ask w next (more p s st)

-- there is nothing more to ask, whatever notes there are
pub record IsDone (w : Want) (st : State) (longer : Longer) : Type 0 where
  pub done : w ≡ Want.Done
  pub stays : (p : List PoolNote) (s : List StoreNote) → longer p s ≡ Stops w (more p s st)

abbrev pub GoesOn : Result → Longer → Type 0
GoesOn (Over x st) longer = (p : List PoolNote) (s : List StoreNote) → longer p s ≡ Over x (more p s st)
GoesOn (Breaks st) longer = (p : List PoolNote) (s : List StoreNote) → longer p s ≡ Breaks (more p s st)
GoesOn (Stops w st) longer = Waits w st longer ⊎ IsDone w st longer

-- from a state, what it gives is later, and over more notes it goes on
abbrev pub Steady : Result → Longer → State → Type 0
Steady r longer st = IsLater (state_of r) st × GoesOn r longer

abbrev pub IsSteady : Meaning → Type 0
IsSteady meaning = (st : State) → Steady (meaning st) (λ p s. meaning (more p s st)) st

-- ---- small ones

pub over_steady : (x : Option ClassNo) → IsSteady (Over x)
over_steady x st = (no_later st, λ p s. refl)

pub breaks_steady : IsSteady Breaks
breaks_steady st = (no_later st, λ p s. refl)

pub either_steady : (b : Bool) (first second : Meaning) → IsSteady first → IsSteady second
    → IsSteady (λ st. elim b [ true ↦ first st | false ↦ second st ])
either_steady true first second steady steady_else = steady
either_steady false first second steady steady_else = steady_else

-- from a later state
pub from_later : (later st : State) (r : Result) (longer : Longer) → IsLater later st → Steady r longer later → Steady r longer st
from_later later st r longer is steady = (later_yet (state_of r) later st steady.0 is, steady.1)

pub say_steady : (line : Line) (meaning : Meaning) → IsSteady meaning → IsSteady (λ st. meaning (say line st))
say_steady line meaning steady st =
    from_later (say line st) st (meaning (say line st)) (λ p s. meaning (more p s (say line st))) (said_later line st) (steady (say line st))

-- ---- changes of the state

pub record IsChange (change : State → State) : Type 0 where
  pub later : (st : State) → IsLater (change st) st
  pub same : (st : State) (p : List PoolNote) (s : List StoreNote) → change (more p s st) ≡ more p s (change st)

goes_as : (r : Result) (longer other : Longer) → ((p : List PoolNote) (s : List StoreNote) → other p s ≡ longer p s)
    → GoesOn r longer → GoesOn r other
goes_as (Over x st) longer other same goes = λ p s. same p s ∙ goes p s
goes_as (Breaks st) longer other same goes = λ p s. same p s ∙ goes p s
goes_as (Stops w st) longer other same (inl waits) =
    inl (record { next = waits.next; reads = waits.reads; none = waits.none; asks = λ p s. same p s ∙ waits.asks p s })
goes_as (Stops w st) longer other same (inr done) = inr (record { done = done.done; stays = λ p s. same p s ∙ done.stays p s })

pub after_change : (change : State → State) (meaning : Meaning) → IsChange change → IsSteady meaning → IsSteady (λ st. meaning (change st))
after_change change meaning is steady st = (
  later_yet (state_of (meaning (change st))) (change st) st (steady (change st)).0 (is.later st),
  goes_as (meaning (change st)) (λ p s. meaning (more p s (change st))) (λ p s. meaning (change (more p s st))) (λ p s. ap meaning (is.same st p s))
      (steady (change st)).1,
)

pub over_change : (change : State → State) (x : Option ClassNo) → IsChange change → IsSteady (λ st. Over x (change st))
over_change change x is = after_change change (Over x) is (over_steady x)

-- ---- joining pieces

finally_reads : (r : Result) (next : Option ClassNo → Meaning) (st : State) → IsLater (state_of r) st → ((x : Option ClassNo) → Reads (next x))
    → IsLater (state_of (finally r next)) st
finally_reads (Over x middle) next st later reads = later_yet (state_of (next x middle)) middle st (reads x middle) later
finally_reads (Stops w middle) next st later reads = later
finally_reads (Breaks middle) next st later reads = later

-- what waits goes on after the answer
finally_asks : (w : Want) (ask_next : Note → Meaning) (next : Option ClassNo → Meaning) (st : State)
    → finally (ask w ask_next st) next ≡ ask w (λ n heard. finally (ask_next n heard) next) st
unfolding ask
finally_asks w ask_next next st = by_note (unread w st)
  where
    by_answer : (n : Note) (b : Bool) → finally (elim b [ true ↦ ask_next n (hear n st) | false ↦ Breaks st ]) next
        ≡ elim b [ true ↦ finally (ask_next n (hear n st)) next | false ↦ Breaks st ]
    by_answer n true = refl
    by_answer n false = refl

    by_note : (o : Option Note) → finally (answered w ask_next st o) next ≡ answered w (λ n heard. finally (ask_next n heard) next) st o
    by_note None = refl
    by_note (Some n) = by_answer n (is_answer w n)

finally_at : (r : Result) (longer : Longer) (next : Option ClassNo → Meaning) (st : State) → Steady r longer st
    → ((x : Option ClassNo) → IsSteady (next x))
    → Steady (finally r next) (λ p s. finally (longer p s) next) st
finally_at (Over x middle) longer next st (later, goes) steady = (
  later_yet (state_of (next x middle)) middle st (steady x middle).0 later,
  goes_as (next x middle) (λ p s. next x (more p s middle)) (λ p s. finally (longer p s) next) (λ p s. ap (λ r. finally r next) (goes p s))
      (steady x middle).1,
)
finally_at (Breaks middle) longer next st (later, goes) steady = (later, λ p s. ap (λ r. finally r next) (goes p s))
finally_at (Stops w middle) longer next st (later, inl waits) steady = (
  later,
  inl (record {
    next = λ n heard. finally (waits.next n heard) next;
    reads = λ n heard. finally_reads (waits.next n heard) next heard (waits.reads n heard) (λ x after. (steady x after).0);
    none = waits.none;
    asks = λ p s. ap (λ r. finally r next) (waits.asks p s) ∙ finally_asks w waits.next next (more p s middle);
  }),
)
finally_at (Stops w middle) longer next st (later, inr done) steady =
    (later, inr (record { done = done.done; stays = λ p s. ap (λ r. finally r next) (done.stays p s) }))

-- goes on after a normal end alone
if_normal : Meaning → Option ClassNo → Meaning
if_normal next None = next
if_normal next (Some x) = Over (Some x)

if_normal_is : (r : Result) (next : Meaning) → finally r (if_normal next) ≡ and_then r next
unfolding if_normal
if_normal_is (Over None st) next = refl
if_normal_is (Over (Some x) st) next = refl
if_normal_is (Stops w st) next = refl
if_normal_is (Breaks st) next = refl

and_then_at : (r : Result) (longer : Longer) (next : Meaning) (st : State) → Steady r longer st → IsSteady next
    → Steady (and_then r next) (λ p s. and_then (longer p s) next) st
unfolding if_normal
and_then_at r longer next st steady steady_next =
    let joined = finally_at r longer (if_normal next) st steady by_end in
    let goes = goes_as (finally r (if_normal next)) (λ p s. finally (longer p s) (if_normal next)) (λ p s. and_then (longer p s) next)
    (λ p s. sym (if_normal_is (longer p s) next)) joined.1 in
    subst (λ end. Steady end (λ p s. and_then (longer p s) next) st) (if_normal_is r next) (joined.0, goes)
  where
    by_end : (x : Option ClassNo) → IsSteady (if_normal next x)
    by_end None = steady_next
    by_end (Some x) = over_steady (Some x)

pub finally_steady : (first : Meaning) (next : Option ClassNo → Meaning) → IsSteady first → ((x : Option ClassNo) → IsSteady (next x))
    → IsSteady (λ st. finally (first st) next)
finally_steady first next steady steady_next st = finally_at (first st) (λ p s. first (more p s st)) next st (steady st) steady_next

pub and_then_steady : (first next : Meaning) → IsSteady first → IsSteady next → IsSteady (λ st. and_then (first st) next)
and_then_steady first next steady steady_next st = and_then_at (first st) (λ p s. first (more p s st)) next st (steady st) steady_next

-- ---- asking

-- the note that a call is answered by next, also where more notes follow
pub record IsNext (w : Want) (st : State) (n : Note) : Type 0 where
  pub here : (p : List PoolNote) (s : List StoreNote) → unread w (more p s st) ≡ Some n
  pub heard : (p : List PoolNote) (s : List StoreNote) → hear n (more p s st) ≡ more p s (hear n st)
  pub later : IsLater (hear n st) st

-- the next note, with what the unread note is by it
pub data NextNote (w : Want) (st : State) : Type 0 where
  NoNote : unread w st ≡ None → NextNote w st
  OneNote : (n : Note) → unread w st ≡ Some n → IsNext w st n → NextNote w st

next_of_pool : (w : Want) (st : State) (left : List PoolNote) → ((u : State) → unread w u ≡ option_map Note.Pool (slice_get u.pool 0))
    → st.pool ≡ left → NextNote w st
next_of_pool w st [] from is = NoNote (from st ∙ ap (λ ns. option_map Note.Pool (slice_get ns 0)) is)
next_of_pool w st (n ∷ ns) from is = OneNote (Note.Pool n) (from st ∙ ap (λ ms. option_map Note.Pool (slice_get ms 0)) is) (record {
  here = λ p s. from (more p s st) ∙ ap (λ ms. option_map Note.Pool (slice_get (ms ++ p) 0)) is;
  heard = λ p s. ap (λ ms. record { lines = (hear (Note.Pool n) st).lines; context = st.context; local = st.local; pool = ms; store = st.store ++ s })
      (ap (λ ms. drop 1 (ms ++ p)) is ∙ ap (λ ms. drop 1 ms ++ p) (sym is));
  later = ((_, refl), (n ∷ [], is ∙ ap (λ ms. n ∷ drop 1 ms) (sym is)), ([], refl));
})

next_of_store : (w : Want) (st : State) (left : List StoreNote) → ((u : State) → unread w u ≡ option_map Note.Store (slice_get u.store 0))
    → st.store ≡ left → NextNote w st
next_of_store w st [] from is = NoNote (from st ∙ ap (λ ns. option_map Note.Store (slice_get ns 0)) is)
next_of_store w st (n ∷ ns) from is = OneNote (Note.Store n) (from st ∙ ap (λ ms. option_map Note.Store (slice_get ms 0)) is) (record {
  here = λ p s. from (more p s st) ∙ ap (λ ms. option_map Note.Store (slice_get (ms ++ s) 0)) is;
  heard = λ p s. ap (λ ms. record { lines = (hear (Note.Store n) st).lines; context = st.context; local = st.local; pool = st.pool ++ p; store = ms })
      (ap (λ ms. drop 1 (ms ++ s)) is ∙ ap (λ ms. drop 1 ms ++ s) (sym is));
  later = ((_, refl), ([], refl), (n ∷ [], is ∙ ap (λ ms. n ∷ drop 1 ms) (sym is)));
})

pub next_note : (w : Want) (st : State) → NextNote w st
next_note Want.Take st = next_of_pool Want.Take st st.pool (λ u. refl) refl
next_note (Want.Give c) st = next_of_pool (Want.Give c) st st.pool (λ u. refl) refl
next_note w st = next_of_store w st st.store (λ u. refl) refl

-- what a call gives where its next note is this
pub asked : (w : Want) (next : Note → Meaning) (st : State) (n : Note) (b : Bool) → unread w st ≡ Some n → is_answer w n ≡ b
    → ask w next st ≡ elim b [ true ↦ next n (hear n st) | false ↦ Breaks st ]
unfolding ask
asked w next st n b here is = ap (answered w next st) here ∙ ap (λ b. elim b [ true ↦ next n (hear n st) | false ↦ Breaks st ]) is

pub unasked : (w : Want) (next : Note → Meaning) (st : State) → unread w st ≡ None → ask w next st ≡ Stops w st
unfolding ask
unasked w next st none = ap (answered w next st) none

pub ask_reads : (w : Want) (next : Note → Meaning) → ((n : Note) → Reads (next n)) → Reads (ask w next)
ask_reads w next reads st = by_note (next_note w st)
  where
    by_answer : (n : Note) (b : Bool) → IsLater (hear n st) st → IsLater (state_of (elim b [ true ↦ next n (hear n st) | false ↦ Breaks st ])) st
    by_answer n true later = later_yet (state_of (next n (hear n st))) (hear n st) st (reads n (hear n st)) later
    by_answer n false later = no_later st

    by_note : NextNote w st → IsLater (state_of (ask w next st)) st
    by_note (NoNote none) = subst (λ r. IsLater (state_of r) st) (sym (unasked w next st none)) (no_later st)
    by_note (OneNote n here following) =
        subst (λ r. IsLater (state_of r) st) (sym (asked w next st n (is_answer w n) here refl)) (by_answer n (is_answer w n) following.later)

-- what a call gives over more notes
abbrev asking : Want → (Note → Meaning) → State → Longer
asking w next st p s = ask w next (more p s st)

pub ask_steady : (w : Want) (next : Note → Meaning) → ((n : Note) → IsSteady (next n)) → IsSteady (ask w next)
ask_steady w next steady st = by_note (next_note w st)
  where
    by_answer : (n : Note) (b : Bool) → is_answer w n ≡ b → IsNext w st n
        → Steady (elim b [ true ↦ next n (hear n st) | false ↦ Breaks st ]) (asking w next st) st
    by_answer n true is following = (
      later_yet (state_of (next n (hear n st))) (hear n st) st (steady n (hear n st)).0 following.later,
      goes_as (next n (hear n st)) (λ p s. next n (more p s (hear n st))) (asking w next st)
          (λ p s. asked w next (more p s st) n true (following.here p s) is ∙ ap (next n) (following.heard p s)) (steady n (hear n st)).1,
    )
    by_answer n false is following = (no_later st, λ p s. asked w next (more p s st) n false (following.here p s) is)

    by_note : NextNote w st → Steady (ask w next st) (asking w next st) st
    by_note (NoNote none) = subst (λ r. Steady r (asking w next st) st) (sym (unasked w next st none)) (
      no_later st,
      inl (record {
        next = next;
        reads = λ n after. (steady n after).0;
        none = none;
        asks = λ p s. refl;
      }),
    )
    by_note (OneNote n here following) =
        subst (λ r. Steady r (asking w next st) st) (sym (asked w next st n (is_answer w n) here refl)) (by_answer n (is_answer w n) refl following)

-- ---- what notes carry

pub on_take_steady : (next : Option ℕ → Meaning) → ((c : Option ℕ) → IsSteady (next c)) → (n : Note) → IsSteady (on_take next n)
on_take_steady next steady (Note.Pool (PoolNote.Taken c)) = steady (Some c)
on_take_steady next steady (Note.Pool PoolNote.Empty) = steady None
on_take_steady next steady (Note.Pool (PoolNote.Given c)) = breaks_steady
on_take_steady next steady (Note.Store n) = breaks_steady

pub on_begin_steady : (next : ℕ → Meaning) → ((t : ℕ) → IsSteady (next t)) → (n : Note) → IsSteady (on_begin next n)
on_begin_steady next steady (Note.Store (StoreNote.Begin t)) = steady t
on_begin_steady next steady (Note.Store n) = breaks_steady
on_begin_steady next steady (Note.Pool n) = breaks_steady

pub on_access_steady : (next : Answer → Meaning) → ((r : Answer) → IsSteady (next r)) → (n : Note) → IsSteady (on_access next n)
on_access_steady next steady (Note.Store (StoreNote.Access t a r)) = steady r
on_access_steady next steady (Note.Store (StoreNote.Auto a r)) = steady r
on_access_steady next steady (Note.Store n) = breaks_steady
on_access_steady next steady (Note.Pool n) = breaks_steady
