-- When histories are faithful: they are legal, and each client's script over its own notes is done and has read them all.
use Rattle.std.proofs.Common.{◌≡◌, ◌≢◌, ℕ, ◌<◌, true, false, not, ◌&&◌, ◌||◌, ◌==◌, List, [], ◌∷◌, ◌++◌, map, length, Some, refl, sym, ap, ◌∙◌, subst, inl, inr, arith}
use Rattle.std.specs.Prelude.{slice_get}
use Rattle.std.specs.List.{list_any}
use Rattle.std.proofs.lemmas.Bool.{false≢true, cases_Bool, cases_eq, or_cases, or_left, or_right, and_parts, not-true}
use Rattle.std.proofs.lemmas.List.Folds.{list_any-append}
use Rattle.std.proofs.lemmas.List.FromFn.{length-map-range_with_len, get_or-map-range_with_len}
use Rattle.std.proofs.lemmas.Option.{same_Some, slice_get-get_or, slice_get_within}
use Rattle.stx_scenario.specs.declared.scenario.Scenario.{Scenario}
use Rattle.stx_base.specs.declared.facts.StoreFacts.{StoreFacts}
use Rattle.stx_base.specs.declared.call.Want.{Want}
use Rattle.stx_base.specs.declared.history.PoolNote.{PoolNote}
use Rattle.stx_base.specs.declared.history.PoolEntry.{PoolEntry}
use Rattle.stx_base.specs.declared.history.StoreNote.{StoreNote}
use Rattle.stx_base.specs.declared.history.StoreEntry.{StoreEntry}
use Rattle.stx_base.specs.declared.line.Line.{Line}
use Rattle.stx_model.specs.Brackets.{IsBalanced, connection_bracket}
use Rattle.stx_model.specs.Faithful.{IsBack, Faithful}
use Rattle.stx_base.specs.Histories.{pool_notes, store_notes, pool_notes_of, store_notes_of}
use Rattle.stx_base.specs.Legal.{PoolFits, PoolLegal, StoreFits, StoreLegal}
use Rattle.stx_model.specs.Meanings.{Result, Over, Stops, Breaks, state_of, stop_of}
use Rattle.stx_model.specs.Played.{Turns, IsClientDone, script_so_far, lines_so_far, outcome_of}
use Rattle.stx_base.specs.Pools.{contains, out_after, out}
use Rattle.stx_model.specs.Reads.{ReadsAll}
use Rattle.stx_base.specs.Stores.{store_facts, begun, ends, live, is_live}
use Rattle.stx_model.proofs.FreshLaw.{own_notes_fresh}
use Rattle.stx_base.proofs.HistoryLaws.{begun-push, is_live-parts, none_of, store_notes-push, store_notes_of-push, store_notes_of-push_other, pool_notes_of-push_other}
use Rattle.stx_base.proofs.LegalLaws.{PoolLegal-along, StoreLegal-along}
use Rattle.stx_base.proofs.PoolLaws.{out-push, own_out-push, contains-without_other, without-left}
use Rattle.stx_model.proofs.BracketLaws.{balanced}
use Rattle.stx_model.proofs.ProperLaws.{gives_all_back, none_live}
use Rattle.stx_model.proofs.SerialLaw.{journal_serial}

-- ---- what the whole has, a client has

-- a client below the count that has this number, by what each client has after a history
record Holder {E : Type 0} (has : List E → ℕ → List ℕ) (clients : ℕ) (H : List E) (n : ℕ) : Type 0 where
  client : ℕ
  below : client < clients
  holds : contains (has H client) n ≡ true

-- each number that is in the whole, a client has
abbrev IsHeld : {E : Type 0} → (List E → ℕ → List ℕ) → (List E → List ℕ) → ℕ → List E → Type 0
IsHeld has whole clients H = (n : ℕ) → contains (whole H) n ≡ true → Holder has clients H n

-- it stays one after an entry of its own that leaves the number, and after any entry of another client
holder_kept : {E : Type 0} (has : List E → ℕ → List ℕ) (clients : ℕ) (H : List E) (e : E) (n by : ℕ) (was : Holder has clients H n)
    → (by ≡ was.client → contains (has (H ++ e ∷ []) was.client) n ≡ true)
    → (by ≢ was.client → has (H ++ e ∷ []) was.client ≡ has H was.client) → Holder has clients (H ++ e ∷ []) n
holder_kept has clients H e n by was own other = record {
  client = was.client;
  below = was.below;
  holds = elim (cases_eq by was.client) [
    | inl same ↦ own same
    | inr differs ↦ ap (λ ns. contains ns n) (other differs) ∙ was.holds
  ];
}

-- ---- what is out has an owner

abbrev own_out : List PoolEntry → ℕ → List ℕ
own_out H client = out (pool_notes_of H client)

abbrev Owner : ℕ → List PoolEntry → ℕ → Type 0
Owner = Holder own_out

abbrev IsOwned : ℕ → List PoolEntry → Type 0
IsOwned = IsHeld own_out (λ H. out (pool_notes H))

-- the owner stays one where the entry doesn't give the connection
owner_kept : (clients : ℕ) (H : List PoolEntry) (e : PoolEntry) (n : ℕ) → Owner clients H n
    → ((taken : List ℕ) → contains taken n ≡ true → contains (out_after taken e.note) n ≡ true) → Owner clients (H ++ e ∷ []) n
owner_kept clients H e n was stays = holder_kept own_out clients H e n e.client was
    (λ own. ap (λ ns. contains ns n) (own_out-push H e was.client own) ∙ stays (own_out H was.client) was.holds)
    (λ other. ap out (pool_notes_of-push_other H e was.client other))

owned_more : (clients size : ℕ) (H : List PoolEntry) (e : PoolEntry) → IsOwned clients H → PoolFits clients size H e → IsOwned clients (H ++ e ∷ [])
owned_more clients size H e was fits n there = by_note e.note refl (ap (λ ns. contains ns n) (sym (out-push H e)) ∙ there)
  where
    by_note : (note : PoolNote) → e.note ≡ note → contains (out_after (out (pool_notes H)) note) n ≡ true → Owner clients (H ++ e ∷ []) n
    by_note (PoolNote.Taken c) is now = elim (or_cases (c == n) (contains (out (pool_notes H)) n) now) [
      | inl this ↦ record {
        client = e.client;
        below = fits.client;
        holds =
            ap (λ ns. contains ns n) (own_out-push H e e.client refl ∙ ap (out_after (own_out H e.client)) is)
            ∙ or_left (c == n) (contains (own_out H e.client) n) this;
      }
      | inr before ↦ owner_kept clients H e n (was n before) (λ taken h. ap (λ m. contains (out_after taken m) n) is ∙ or_right (c == n) (contains taken n) h)
    ]
    by_note PoolNote.Empty is now = owner_kept clients H e n (was n now) (λ taken h. ap (λ m. contains (out_after taken m) n) is ∙ h)
    by_note (PoolNote.Given c) is now =
        let left = without-left (out (pool_notes H)) c n now in
        owner_kept clients H e n (was n left.0) (λ taken h. ap (λ m. contains (out_after taken m) n) is ∙ contains-without_other taken c n left.1 ∙ h)

-- where no client below the count has any out, none is out
none_out : (clients size : ℕ) (H : List PoolEntry) → PoolLegal clients size H → ((c : ℕ) → c < clients → out (pool_notes_of H c) ≡ []) → out (pool_notes H) ≡ []
none_out clients size H legal none = none_live (out (pool_notes H)) (λ n. elim (cases_Bool (contains (out (pool_notes H)) n)) [
  | inl there ↦
      let owner : Owner clients H n = PoolLegal-along clients size (IsOwned clients) (λ m h. absurd (false≢true h)) (owned_more clients size) H legal n there in
      absurd (false≢true (ap (λ ns. contains ns n) (sym (none owner.client owner.below)) ∙ owner.holds))
  | inr absent ↦ absent
])

-- ---- what lives was begun by a client

abbrev own_begun : List StoreEntry → ℕ → List ℕ
own_begun H client = begun (store_notes_of H client)

abbrev IsBegun : ℕ → List StoreEntry → Type 0
IsBegun = IsHeld own_begun (λ H. begun (store_notes H))

contains_begun-push : (ns : List StoreNote) (n : StoreNote) (t : ℕ) → contains (begun (ns ++ n ∷ [])) t ≡ (contains (begun ns) t || contains (begun (n ∷ [])) t)
contains_begun-push ns n t = ap (λ us. contains us t) (begun-push ns n) ∙ list_any-append (λ m. m == t) (begun ns) (begun (n ∷ []))

begun_more : (clients : ℕ) (facts : StoreFacts) (H : List StoreEntry) (e : StoreEntry) → IsBegun clients H → StoreFits clients facts H e → IsBegun clients (H ++ e ∷ [])
begun_more clients facts H e was fits t there = elim (or_cases (contains (begun (store_notes H)) t) (contains (begun (e.note ∷ [])) t) now) [
  | inl before ↦ kept (was t before)
  | inr new ↦ record {
    client = e.client;
    below = fits.client;
    holds =
        ap (λ ns. contains (begun ns) t) (store_notes_of-push H e e.client refl)
        ∙ contains_begun-push (store_notes_of H e.client) e.note t
        ∙ or_right (contains (begun (store_notes_of H e.client)) t) (contains (begun (e.note ∷ [])) t) new;
  }
]
  where
    now : (contains (begun (store_notes H)) t || contains (begun (e.note ∷ [])) t) ≡ true
    now = sym (ap (λ ns. contains (begun ns) t) (store_notes-push H e) ∙ contains_begun-push (store_notes H) e.note t) ∙ there

    kept : Holder own_begun clients H t → Holder own_begun clients (H ++ e ∷ []) t
    kept by = holder_kept own_begun clients H e t e.client by (λ own.
        ap (λ ns. contains (begun ns) t) (store_notes_of-push H e by.client own)
        ∙ contains_begun-push (store_notes_of H by.client) e.note t
        ∙ or_left (contains (own_begun H by.client) t) (contains (begun (e.note ∷ [])) t) by.holds)
        (λ other. ap begun (store_notes_of-push_other H e by.client other))

-- a transaction that lives in the whole lives in the notes of its beginner
lives_at_beginner : (clients : ℕ) (H : List StoreEntry) (t : ℕ) (by : Holder own_begun clients H t) → list_any (ends t) (store_notes H) ≡ false
    → is_live (store_notes_of H by.client) t ≡ true
lives_at_beginner clients H t by unended =
    is_live-parts (store_notes_of H by.client) t
    ∙ ap (λ b. b && not (list_any (ends t) (store_notes_of H by.client))) by.holds
    ∙ ap not (none_of (ends t) H by.client unended)

-- where none lives in the notes of a client below the count, none lives
none_lives : (clients : ℕ) (facts : StoreFacts) (H : List StoreEntry) → StoreLegal clients facts H
    → ((c : ℕ) → c < clients → live (store_notes_of H c) ≡ []) → live (store_notes H) ≡ []
none_lives clients facts H legal none = none_live (live (store_notes H)) (λ t. elim (cases_Bool (is_live (store_notes H) t)) [
  | inl lives ↦
      let parts = and_parts (contains (begun (store_notes H)) t) (not (list_any (ends t) (store_notes H))) (sym (is_live-parts (store_notes H) t) ∙ lives) in
      let by : Holder own_begun clients H t = StoreLegal-along clients facts (IsBegun clients) (λ u h. absurd (false≢true h)) (begun_more clients facts) H legal t parts.0 in
      let own : is_live (store_notes_of H by.client) t ≡ true = lives_at_beginner clients H t by (not-true (list_any (ends t) (store_notes H)) parts.1) in
      absurd (false≢true (ap (λ ts. contains ts t) (sym (none by.client by.below)) ∙ own))
  | inr absent ↦ absent
])

-- ---- scripts that are done

-- a script that stops at a call stops there with its state
pub stops_at : (r : Result) (want : Want) → stop_of r ≡ Some want → r ≡ Stops want (state_of r)
stops_at (Stops w st) want h = ap (λ v. Stops v st) (same_Some w want h)
stops_at (Over x st) want h = cc
stops_at (Breaks st) want h = cc

-- the lines of each client in the outcome are those of its script
lines_at : (S : Scenario) (t : Turns) (c : ℕ) → c < length S.clients → slice_get (outcome_of S t).lines c ≡ Some (lines_so_far S t c)
lines_at S t c below =
    slice_get-get_or (outcome_of S t).lines c [] (omega (arith, length-map-range_with_len (lines_so_far S t) 0 (length S.clients)))
    ∙ ap Some (get_or-map-range_with_len (lines_so_far S t) 0 (length S.clients) c c [] below (omega arith))

-- ---- the whole

module _ (S : Scenario) (t : Turns) (pool_legal : PoolLegal (length S.clients) S.settings.pool t.pool) (store_legal : StoreLegal (length S.clients) (store_facts S) t.store)
    (reads_all : (c : ℕ) → c < length S.clients → ReadsAll S c (pool_notes_of t.pool c) (store_notes_of t.store c))
    (done : (c : ℕ) → c < length S.clients → IsClientDone S t c) where
  stops_done : (c : ℕ) → c < length S.clients → script_so_far S t c ≡ Stops Want.Done (state_of (script_so_far S t c))
  stops_done c below = stops_at (script_so_far S t c) Want.Done (done c below)

  own_back : (c : ℕ) → c < length S.clients → (out (pool_notes_of t.pool c) ≡ []) × (live (store_notes_of t.store c) ≡ [])
  own_back c below =
      let read = reads_all c below in
      let fresh = own_notes_fresh (length S.clients) c in
      let back = gives_all_back S c (pool_notes_of t.pool c) (store_notes_of t.store c) (state_of (script_so_far S t c)) (stops_done c below) read.pool_read read.store_read in
      (back.0 (fresh.0 S.settings.pool t.pool pool_legal), back.1 (fresh.1 (store_facts S) t.store store_legal))

  calls_balanced : (c : ℕ) (lines : List Line) → slice_get (outcome_of S t).lines c ≡ Some lines → IsBalanced (map connection_bracket lines)
  calls_balanced c lines is =
      let within : c < length (outcome_of S t).lines = slice_get_within (outcome_of S t).lines c lines is in
      let below : c < length S.clients = omega (arith, length-map-range_with_len (lines_so_far S t) 0 (length S.clients)) in
      let same : lines_so_far S t c ≡ lines = same_Some (lines_so_far S t c) lines (sym (lines_at S t c below) ∙ is) in
      subst (λ ls. IsBalanced (map connection_bracket ls)) same
      (balanced S c (pool_notes_of t.pool c) (store_notes_of t.store c) (state_of (script_so_far S t c)) (stops_done c below)).0

  is_back : IsBack (outcome_of S t)
  is_back = record {
    pool = none_out (length S.clients) S.settings.pool t.pool pool_legal (λ c below. (own_back c below).0);
    store = none_lives (length S.clients) (store_facts S) t.store store_legal (λ c below. (own_back c below).1);
    calls = calls_balanced;
  }

-- legal histories are faithful once each client's script is done and has read its notes
pub faithful_if_done : (S : Scenario) (t : Turns)
    → PoolLegal (length S.clients) S.settings.pool t.pool → StoreLegal (length S.clients) (store_facts S) t.store
    → ((c : ℕ) → c < length S.clients → ReadsAll S c (pool_notes_of t.pool c) (store_notes_of t.store c))
    → ((c : ℕ) → c < length S.clients → IsClientDone S t c)
    → Faithful S (outcome_of S t)
faithful_if_done S t pool_legal store_legal reads_all done = record {
  pool_legal = pool_legal;
  store_legal = store_legal;
  one_trace_each = length-map-range_with_len (lines_so_far S t) 0 (length S.clients);
  scripts = λ c below. record {
    done = done c below;
    pool_read = (reads_all c below).pool_read;
    store_read = (reads_all c below).store_read;
    lines = lines_at S t c below;
  };
  serial = journal_serial (length S.clients) (store_facts S) t.store store_legal;
  back = is_back S t pool_legal store_legal reads_all done;
}
