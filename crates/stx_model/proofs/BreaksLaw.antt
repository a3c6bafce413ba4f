-- Where a script breaks: at a note that doesn't answer, and over the notes before it the script stops at what it wants.
use Rattle.std.proofs.Common.{◌≡◌, ◌+◌, ◌++◌, ◌∷◌, [], Bool, true, false, List, Some, None, inl, inr, refl, sym, ap, ◌∙◌, subst, length, length-append, arith}
use Rattle.std.specs.Prelude.{ℕ, drop, slice_get}
use Rattle.std.specs.Option.{option_map}
use Rattle.stx_scenario.specs.declared.scenario.Scenario.{Scenario}
use Rattle.stx_base.specs.declared.call.Want.{Want}
use Rattle.stx_base.specs.declared.history.PoolNote.{PoolNote}
use Rattle.stx_base.specs.declared.history.StoreNote.{StoreNote}
use Rattle.stx_base.specs.Notes.{is_answer}
use Rattle.stx_base.specs.declared.history.Note.{Note}
use Rattle.stx_model.specs.Meanings.{State, Result, Over, Stops, Breaks, state_of, at_first, unread, hear, ask}
use Rattle.stx_model.specs.Reads.{IsEndOf, BrokeAtNote, all_read}
use Rattle.stx_model.specs.Script.{calls_of, script}
use Rattle.stx_model.proofs.Steady.{GoesOn, Waits, IsLater, more, NextNote, NoNote, OneNote, next_note, asked, unasked}
use Rattle.stx_model.proofs.NotesLaw.{longer_script, script_steady, reads_in_order}
use Rattle.stx_model.specs.Laws.{BreaksAtWrongNotes}
use Rattle.stx_model.specs.Below.{Callable}
use Rattle.stx_model.proofs.CallableLaw.{callable_if_valid}
use Rattle.stx_model.proofs.Breaks.{EndsWell}
use Rattle.stx_model.proofs.BreaksPieces.{tops_end}

-- a break has a note to break at
pub script_ends : (S : Scenario) → Callable S → (c : ℕ) (pool : List PoolNote) (store : List StoreNote)
    → EndsWell (λ _. Unit {0}) (script S c pool store)
unfolding script
script_ends S callable c pool store = tops_end S callable 0 (calls_of S c) (callable.clients c) (at_first pool store) (refl, tt)

-- ---- ends of lists

nothing_before : {X : Type 0} (first rest : List X) → rest ≡ first ++ rest → first ≡ []
nothing_before [] rest is = refl
nothing_before (x ∷ first) rest is =
    let same : length rest ≡ length (x ∷ first) + length rest = ap length is ∙ length-append (x ∷ first) rest in absurd (omega (arith, same))

-- a list isn't the end of what is left of it
too_long : {X : Type 0} (x : X) (rest : List X) → IsEndOf (x ∷ rest) rest → ⊥
too_long x rest (first, is) =
    let same : length rest ≡ length first + length (x ∷ rest) = ap length is ∙ length-append first (x ∷ rest) in omega (arith, same)

-- ---- a note that was read is gone

-- the state with what another leaves unread to come
abbrev followed : State → State → State
followed end st = more end.pool end.store st

-- where nothing was left, and the first of these notes was read, what is left isn't all of them
gone_of_pool : (left q : List PoolNote) (n : Note) → option_map Note.Pool (slice_get left 0) ≡ None
    → option_map Note.Pool (slice_get (left ++ q) 0) ≡ Some n → ((m : PoolNote) → n ≡ Note.Pool m → IsEndOf q (drop 1 (left ++ q))) → ⊥
gone_of_pool [] [] n none here rest = absurd cc
gone_of_pool [] (m ∷ ms) n none here rest = let same : n ≡ Note.Pool m = cc in too_long m ms (rest m same)
gone_of_pool (m ∷ left) q n none here rest = absurd cc

gone_of_store : (left q : List StoreNote) (n : Note) → option_map Note.Store (slice_get left 0) ≡ None
    → option_map Note.Store (slice_get (left ++ q) 0) ≡ Some n → ((m : StoreNote) → n ≡ Note.Store m → IsEndOf q (drop 1 (left ++ q))) → ⊥
gone_of_store [] [] n none here rest = absurd cc
gone_of_store [] (m ∷ ms) n none here rest = let same : n ≡ Note.Store m = cc in too_long m ms (rest m same)
gone_of_store (m ∷ left) q n none here rest = absurd cc

gone : (w : Want) (st end : State) (n : Note) → unread w st ≡ None → unread w (followed end st) ≡ Some n
    → IsLater end (hear n (followed end st)) → ⊥
gone Want.Take st end n none here later =
    gone_of_pool st.pool end.pool n none here (λ m same. (subst (λ n. IsLater end (hear n (followed end st))) same later).1)
gone (Want.Give c) st end n none here later =
    gone_of_pool st.pool end.pool n none here (λ m same. (subst (λ n. IsLater end (hear n (followed end st))) same later).1)
gone w st end n none here later =
    gone_of_store st.store end.store n none here (λ m same. (subst (λ n. IsLater end (hear n (followed end st))) same later).2)

pub no_note : (w : Want) (st : State) → st.pool ≡ [] → st.store ≡ [] → unread w st ≡ None
no_note Want.Take st no_pool no_store = ap (λ ns. option_map Note.Pool (slice_get ns 0)) no_pool
no_note (Want.Give c) st no_pool no_store = ap (λ ns. option_map Note.Pool (slice_get ns 0)) no_pool
no_note w st no_pool no_store = ap (λ ns. option_map Note.Store (slice_get ns 0)) no_store

-- ---- the law

-- a state that with what `end` leaves unread is `end`
record IsBefore (st end : State) : Type 0 where
  no_pool : st.pool ≡ []
  no_store : st.store ≡ []
  same : st ≡ all_read end

is_before : (st end : State) → followed end st ≡ end → IsBefore st end
is_before st end is =
    let no_pool = nothing_before st.pool end.pool (ap (λ u. u.pool) (sym is)) in
    let no_store = nothing_before st.store end.store (ap (λ u. u.store) (sym is)) in
    record {
      no_pool = no_pool;
      no_store = no_store;
      same = ap (λ ns. record { lines = st.lines; context = st.context; local = st.local; pool = ns; store = st.store }) no_pool
          ∙ ap (λ ns. record { lines = st.lines; context = st.context; local = st.local; pool = []; store = ns }) no_store
          ∙ ap all_read is;
    }

-- p and s are the notes that were read where the script breaks in the end
module _ (S : Scenario) (callable : Callable S) (c : ℕ) (p : List PoolNote) (s : List StoreNote) (end : State)
    (breaks : longer_script S c p s end.pool end.store ≡ Breaks end) where
  abbrev Broke : Type 0
  Broke = BrokeAtNote S c (p ++ end.pool) (s ++ end.store) end

  by_waits : (w : Want) (st : State) → script S c p s ≡ Stops w st → Waits w st (longer_script S c p s) → Broke
  by_waits w st stops waits = by_note (next_note w (followed end st))
    where
      asks : ask w waits.next (followed end st) ≡ Breaks end
      asks = sym (waits.asks end.pool end.store) ∙ breaks

      by_answer : (n : Note) (b : Bool) → unread w (followed end st) ≡ Some n → is_answer w n ≡ b
          → elim b [ true ↦ waits.next n (hear n (followed end st)) | false ↦ Breaks (followed end st) ] ≡ Breaks end → Broke
      by_answer n true here is ends =
          let heard = hear n (followed end st) in
          absurd (gone w st end n waits.none here (subst (λ r. IsLater (state_of r) heard) ends (waits.reads n heard)))
      by_answer n false here is ends = record {
        want = w;
        note = n;
        is_next = subst (λ u. unread w u ≡ Some n) (ap state_of ends) here;
        is_none = is;
        pool_read = p;
        store_read = s;
        pool_is = refl;
        store_is = refl;
        stops = stops ∙ ap (Stops w) (is_before st end (ap state_of ends)).same;
      }

      by_note : NextNote w (followed end st) → Broke
      by_note (NoNote nothing) =
          let ends : Stops w (followed end st) ≡ Breaks end = sym (unasked w waits.next (followed end st) nothing) ∙ asks in absurd cc
      by_note (OneNote n here following) =
          by_answer n (is_answer w n) here refl (sym (asked w waits.next (followed end st) n (is_answer w n) here refl) ∙ asks)

  by_result : (r : Result) → script S c p s ≡ r → GoesOn r (longer_script S c p s) → EndsWell (λ _. Unit {0}) r → Broke
  by_result (Over x st) is goes ends = let both : Over x (followed end st) ≡ Breaks end = sym (goes end.pool end.store) ∙ breaks in absurd cc
  by_result (Breaks st) is goes wrong =
      let before = is_before st end (ap state_of (sym (goes end.pool end.store) ∙ breaks)) in
      let found : None ≡ Some wrong.note = sym (no_note wrong.want st before.no_pool before.no_store) ∙ wrong.is_next in absurd cc
  by_result (Stops w st) is (inl waits) ends = by_waits w st is waits
  by_result (Stops w st) is (inr done) ends =
      let both : Stops w (followed end st) ≡ Breaks end = sym (done.stays end.pool end.store) ∙ breaks in absurd cc

breaks_at_note : (S : Scenario) → Callable S → (c : ℕ) (pool : List PoolNote) (store : List StoreNote) (end : State)
    → script S c pool store ≡ Breaks end → BrokeAtNote S c pool store end
breaks_at_note S callable c pool store end breaks =
    let reads = reads_in_order S c pool store in
    by_read (subst (λ r. IsEndOf (state_of r).pool pool) breaks reads.0) (subst (λ r. IsEndOf (state_of r).store store) breaks reads.1)
  where
    by_read : IsEndOf end.pool pool → IsEndOf end.store store → BrokeAtNote S c pool store end
    by_read (p, pool_is) (s, store_is) =
        let over = ap (λ ns. script S c ns (s ++ end.store)) (sym pool_is) ∙ ap (script S c pool) (sym store_is) ∙ breaks in
        let broke = by_result S callable c p s end over (script S c p s) refl (script_steady S c p s).1 (script_ends S callable c p s) in
        subst (λ ns. BrokeAtNote S c ns store end) (sym pool_is) (subst (λ ns. BrokeAtNote S c (p ++ end.pool) ns end) (sym store_is) broke)

pub breaks_at_wrong_notes : BreaksAtWrongNotes
breaks_at_wrong_notes S valid = breaks_at_note S (callable_if_valid S valid)
