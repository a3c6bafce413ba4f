-- Scripts and their notes: a script grows with them, reads them in order, and reads each answer to what it waits for.
use Rattle.std.proofs.Common.{◌≡◌, ◌++◌, ◌∷◌, [], true, List, Some, inl, inr, refl, sym, ap, ◌∙◌, subst, append-nil}
use Rattle.std.specs.Prelude.{ℕ, drop, slice_get}
use Rattle.std.specs.Option.{option_map}
use Rattle.std.proofs.lemmas.Bool.{false≢true}
use Rattle.stx_scenario.specs.declared.scenario.Scenario.{Scenario}
use Rattle.stx_base.specs.declared.call.Want.{Want}
use Rattle.stx_base.specs.declared.history.PoolNote.{PoolNote}
use Rattle.stx_base.specs.declared.history.StoreNote.{StoreNote}
use Rattle.stx_model.specs.Laws.{AnswersAreRead, ReadsInOrder, ScriptsGrow}
use Rattle.stx_base.specs.Notes.{is_answer}
use Rattle.stx_base.specs.declared.history.Note.{Note}
use Rattle.stx_model.specs.Meanings.{State, Result, Over, Stops, Breaks, state_of, at_first, unread, hear}
use Rattle.stx_model.specs.Reads.{IsEndOf, StartsWith, ReadsAll, pool_with, store_with}
use Rattle.stx_model.specs.Script.{calls_of, script}
use Rattle.stx_model.proofs.Steady.{Longer, GoesOn, Waits, Steady, more, asked, ask_reads}
use Rattle.stx_model.proofs.SteadyPieces.{tops_steady}

-- a script over more notes
abbrev pub longer_script : Scenario → ℕ → List PoolNote → List StoreNote → Longer
longer_script S c pool store p s = script S c (pool ++ p) (store ++ s)

pub script_steady : (S : Scenario) (c : ℕ) (pool : List PoolNote) (store : List StoreNote)
    → Steady (script S c pool store) (longer_script S c pool store) (at_first pool store)
unfolding script
script_steady S c pool store = tops_steady S 0 (calls_of S c) (at_first pool store)

-- ---- order

pub reads_in_order : ReadsInOrder
reads_in_order S c pool store = let later = (script_steady S c pool store).0 in (later.1, later.2)

-- ---- growth

grows : (r : Result) (longer : Longer) (p : List PoolNote) (s : List StoreNote) → GoesOn r longer
    → StartsWith (state_of (longer p s)).lines (state_of r).lines
grows (Over x st) longer p s goes = ([], ap (λ r. (state_of r).lines) (goes p s) ∙ sym (append-nil st.lines))
grows (Breaks st) longer p s goes = ([], ap (λ r. (state_of r).lines) (goes p s) ∙ sym (append-nil st.lines))
grows (Stops w st) longer p s (inl waits) =
    subst (λ r. StartsWith (state_of r).lines st.lines) (sym (waits.asks p s)) (ask_reads w waits.next waits.reads (more p s st)).0
grows (Stops w st) longer p s (inr done) = ([], ap (λ r. (state_of r).lines) (done.stays p s) ∙ sym (append-nil st.lines))

pub scripts_grow : ScriptsGrow
scripts_grow S c pool p store s = grows (script S c pool store) (longer_script S c pool store) p s (script_steady S c pool store).1

-- ---- answers

pub none_at_end : {X : Type 0} (rest all : List X) → all ≡ [] → IsEndOf rest all → rest ≡ []
none_at_end rest all none (first, is) = by_first first (sym none ∙ is)
  where
    by_first : (first : List _) → [] ≡ first ++ rest → rest ≡ []
    by_first [] is = sym is
    by_first (x ∷ first) is = cc

-- the note answers the call, and is the last that is unread
record IsLast (w : Want) (n : Note) (st : State) : Type 0 where
  here : unread w st ≡ Some n
  pool : (hear n st).pool ≡ []
  store : (hear n st).store ≡ []

-- the state with this note to come
abbrev with_note : Note → State → State
with_note n st = more (pool_with [] n) (store_with [] n) st

module _ (st : State) (no_pool : st.pool ≡ []) (no_store : st.store ≡ []) where
  last_of_pool : (w : Want) (n : PoolNote) → ((u : State) → unread w u ≡ option_map Note.Pool (slice_get u.pool 0))
      → IsLast w (Note.Pool n) (with_note (Note.Pool n) st)
  last_of_pool w n from = record {
    here = from (with_note (Note.Pool n) st) ∙ ap (λ ns. option_map Note.Pool (slice_get (ns ++ n ∷ []) 0)) no_pool;
    pool = ap (λ ns. drop 1 (ns ++ n ∷ [])) no_pool;
    store = ap (λ ns. ns ++ []) no_store;
  }

  last_of_store : (w : Want) (n : StoreNote) → ((u : State) → unread w u ≡ option_map Note.Store (slice_get u.store 0))
      → IsLast w (Note.Store n) (with_note (Note.Store n) st)
  last_of_store w n from = record {
    here = from (with_note (Note.Store n) st) ∙ ap (λ ns. option_map Note.Store (slice_get (ns ++ n ∷ []) 0)) no_store;
    pool = ap (λ ns. ns ++ []) no_pool;
    store = ap (λ ns. drop 1 (ns ++ n ∷ [])) no_store;
  }

  answer_last : (w : Want) (n : Note) → is_answer w n ≡ true → IsLast w n (with_note n st)
  answer_last Want.Take (Note.Pool n) is = last_of_pool Want.Take n (λ u. refl)
  answer_last (Want.Give c) (Note.Pool n) is = last_of_pool (Want.Give c) n (λ u. refl)
  answer_last w (Note.Pool n) is = absurd (false≢true is)
  answer_last Want.Take (Note.Store n) is = absurd (false≢true is)
  answer_last (Want.Give c) (Note.Store n) is = absurd (false≢true is)
  answer_last w (Note.Store n) is = last_of_store w n (λ u. refl)

done_is_no_want : (n : Note) → is_answer Want.Done n ≡ true → ⊥
done_is_no_want (Note.Pool n) is = false≢true is
done_is_no_want (Note.Store n) is = false≢true is

-- what waits reads the answer
reads_answer : (w : Want) (st : State) (longer : Longer) (n : Note) → Waits w st longer → st.pool ≡ [] → st.store ≡ [] → is_answer w n ≡ true
    → ((state_of (longer (pool_with [] n) (store_with [] n))).pool ≡ []) × ((state_of (longer (pool_with [] n) (store_with [] n))).store ≡ [])
reads_answer w st longer n waits no_pool no_store is =
    let last = answer_last st no_pool no_store w n is in
    let given = with_note n st in
    let goes = waits.asks (pool_with [] n) (store_with [] n) ∙ asked w waits.next given n true last.here is in
    let later = waits.reads n (hear n given) in
    let end = state_of (waits.next n (hear n given)) in (
      ap (λ r. (state_of r).pool) goes ∙ none_at_end end.pool (hear n given).pool last.pool later.1,
      ap (λ r. (state_of r).store) goes ∙ none_at_end end.store (hear n given).store last.store later.2,
    )

pool_with_is : (pool : List PoolNote) (n : Note) → pool ++ pool_with [] n ≡ pool_with pool n
pool_with_is pool (Note.Pool n) = refl
pool_with_is pool (Note.Store n) = append-nil pool

store_with_is : (store : List StoreNote) (n : Note) → store ++ store_with [] n ≡ store_with store n
store_with_is store (Note.Pool n) = append-nil store
store_with_is store (Note.Store n) = refl

pub answers_are_read : AnswersAreRead
answers_are_read S c pool store want end n stops no_pool no_store is =
    let goes = subst (λ r. GoesOn r (longer_script S c pool store)) stops (script_steady S c pool store).1 in
    subst (λ p. ReadsAll S c p (store_with store n)) (pool_with_is pool n)
    (subst (λ s. ReadsAll S c (pool ++ pool_with [] n) s) (store_with_is store n) (by_end goes))
  where
    by_end : GoesOn (Stops want end) (longer_script S c pool store) → ReadsAll S c (pool ++ pool_with [] n) (store ++ store_with [] n)
    by_end (inl waits) =
        let both = reads_answer want end (longer_script S c pool store) n waits no_pool no_store is in record { pool_read = both.0; store_read = both.1 }
    by_end (inr done) = absurd (done_is_no_want n (subst (λ w. is_answer w n ≡ true) done.done is))
