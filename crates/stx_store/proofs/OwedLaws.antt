-- What the store owes grows and shrinks with each entry.
use Rattle.std.proofs.Common.{IsTrue, ◌≡◌, ◌≢◌, ℕ, suc, ◌+◌, ◌<◌, ◌≤◌, Bool, true, false, ◌&&◌, cond, List, [], ◌∷◌, ◌++◌, length, refl, sym, ap, ◌∙◌, subst, Some, arith, eq-eqb, ne_eqb, eqb-true}
use Rattle.std.specs.List.{list_any}
use Rattle.std.proofs.lemmas.Bool.{false≢true, and_parts}
use Rattle.stx_base.specs.declared.facts.StoreFacts.{StoreFacts}
use Rattle.stx_base.specs.declared.history.StoreNote.{StoreNote}
use Rattle.stx_base.specs.declared.history.StoreEntry.{StoreEntry}
use Rattle.stx_base.specs.Histories.{store_notes, store_notes_of, has_room}
use Rattle.stx_base.specs.Alone.{without_innermost}
use Rattle.stx_base.specs.Stores.{store_reply, store_want, store_proper, begun, ends, is_live, pointed, savepoints, with_return, can_go_back, is_pointed}
use Rattle.stx_base.specs.Legal.{StoreFits}
use Rattle.stx_base.proofs.HistoryLaws.{sum_below, sum_below-same, sum_below-at, savepoints-push, store_notes_of-push, store_notes_of-push_other, none_of}
use Rattle.stx_base.proofs.StoreLaws.{names, lives, begin_number, begun_length-push, is_live_none, is_live-push_other, savepoints_none, savepoints-push_other, Unnamed, live_below}
use Rattle.stx_store.specs.inner.Owed.{more_owed, was_owed, costs, due, owed_to}
use Rattle.stx_store.proofs.KeepLaws.{live_same, dead}

abbrev pub entry : ℕ → StoreNote → StoreEntry
entry client note = record { client = client; note = note }

-- ---- one transaction

names_one : (t u : ℕ) (n : StoreNote) → names t n ≡ true → u ≢ t → names u n ≡ false
names_one t u (StoreNote.Begin v) is differs = let same = eqb-true v t is in ne_eqb v u (λ e. differs (sym e ∙ same))
names_one t u (StoreNote.Access v a r) is differs = let same = eqb-true v t is in ne_eqb v u (λ e. differs (sym e ∙ same))
names_one t u (StoreNote.Point v) is differs = let same = eqb-true v t is in ne_eqb v u (λ e. differs (sym e ∙ same))
names_one t u (StoreNote.BackTo v) is differs = let same = eqb-true v t is in ne_eqb v u (λ e. differs (sym e ∙ same))
names_one t u (StoreNote.Release v) is differs = let same = eqb-true v t is in ne_eqb v u (λ e. differs (sym e ∙ same))
names_one t u (StoreNote.Commit v m) is differs = let same = eqb-true v t is in ne_eqb v u (λ e. differs (sym e ∙ same))
names_one t u (StoreNote.Rollback v) is differs = let same = eqb-true v t is in ne_eqb v u (λ e. differs (sym e ∙ same))
names_one t u (StoreNote.Auto a r) is differs = refl

pub due-other : (own : List StoreNote) (n : StoreNote) (t : ℕ) → names t n ≡ false → due (own ++ n ∷ []) t ≡ due own t
due-other own n t h =
    ap (λ b. cond b (costs (savepoints (own ++ n ∷ []) t) + 1) 0) (is_live-push_other own n t h)
    ∙ ap (λ ps. cond (is_live own t) (costs ps + 1) 0) (savepoints-push_other own n t h)

pub due_none : (own : List StoreNote) (t : ℕ) → list_any (names t) own ≡ false → due own t ≡ 0
due_none own t h = ap (λ b. cond b (costs (savepoints own t) + 1) 0) (is_live_none own t h)

due-live : (own : List StoreNote) (t : ℕ) → is_live own t ≡ true → due own t ≡ costs (savepoints own t) + 1
due-live own t h = ap (λ b. cond b (costs (savepoints own t) + 1) 0) h

due_kept : (own : List StoreNote) (n : StoreNote) (t : ℕ) → begun (n ∷ []) ≡ [] → ends t n ≡ false → due (own ++ n ∷ []) t ≡ cond (is_live own t) (costs (pointed t (savepoints own t) n) + 1) 0
due_kept own n t none still =
    ap (λ b. cond b (costs (savepoints (own ++ n ∷ []) t) + 1) 0) (live_same own n t none still)
    ∙ ap (λ ps. cond (is_live own t) (costs ps + 1) 0) (savepoints-push own n t)

-- an ended transaction is owed nothing
due_ended : (own : List StoreNote) (n : StoreNote) (t : ℕ) → ends t n ≡ true → due (own ++ n ∷ []) t ≡ 0
due_ended own n t end = ap (λ b. cond b (costs (savepoints (own ++ n ∷ []) t) + 1) 0) (dead own n t end)

due_begun : (own : List StoreNote) (t : ℕ) → list_any (names t) own ≡ false → due (own ++ StoreNote.Begin t ∷ []) t ≤ 1
due_begun own t none =
    let empty : savepoints (own ++ StoreNote.Begin t ∷ []) t ≡ [] = savepoints-push own (StoreNote.Begin t) t ∙ savepoints_none own t none in
    let few : (b : Bool) (ps : List Bool) → ps ≡ [] → cond b (costs ps + 1) 0 ≤ 1 = due_few in
    few (is_live (own ++ StoreNote.Begin t ∷ []) t) (savepoints (own ++ StoreNote.Begin t ∷ []) t) empty
  where
    due_few : (b : Bool) (ps : List Bool) → ps ≡ [] → cond b (costs ps + 1) 0 ≤ 1
    due_few true ps is = let nothing : costs ps ≡ 0 = ap costs is in omega arith
    due_few false ps is = omega arith

due_point : (own : List StoreNote) (t : ℕ) → due (own ++ StoreNote.Point t ∷ []) t ≤ due own t + 2
due_point own t =
    let here : pointed t (savepoints own t) (StoreNote.Point t) ≡ false ∷ savepoints own t = ap (λ b. cond b (false ∷ savepoints own t) (savepoints own t)) (eq-eqb t t refl) in
    let now : due (own ++ StoreNote.Point t ∷ []) t ≡ cond (is_live own t) (costs (false ∷ savepoints own t) + 1) 0 = due_kept own (StoreNote.Point t) t refl refl ∙ ap (λ ps. cond (is_live own t) (costs ps + 1) 0) here in
    two_more (is_live own t) (costs (savepoints own t)) (due (own ++ StoreNote.Point t ∷ []) t) now
  where
    two_more : (b : Bool) (cost now : ℕ) → now ≡ cond b (cost + 2 + 1) 0 → now ≤ cond b (cost + 1) 0 + 2
    two_more true cost now is = omega arith
    two_more false cost now is = omega arith

less_back : (ps : List Bool) → can_go_back ps ≡ true → costs (with_return ps) + 1 ≤ costs ps
less_back [] h = absurd (false≢true h)
less_back (true ∷ ps) h = absurd (false≢true h)
less_back (false ∷ ps) h = omega arith

less_released : (ps : List Bool) → is_pointed ps ≡ true → costs (without_innermost ps) + 1 ≤ costs ps
less_released [] h = absurd (false≢true h)
less_released (true ∷ ps) h = omega arith
less_released (false ∷ ps) h = omega arith

due_less : (own : List StoreNote) (n : StoreNote) (t : ℕ) (ps : List Bool) → begun (n ∷ []) ≡ [] → ends t n ≡ false → is_live own t ≡ true
    → pointed t (savepoints own t) n ≡ ps → costs ps + 1 ≤ costs (savepoints own t) → due (own ++ n ∷ []) t + 1 ≤ due own t
due_less own n t ps none still lives is less =
    let now : due (own ++ n ∷ []) t ≡ costs (pointed t (savepoints own t) n) + 1 = due_kept own n t none still ∙ ap (λ b. cond b (costs (pointed t (savepoints own t) n) + 1) 0) lives in
    let same : costs (pointed t (savepoints own t) n) ≡ costs ps = ap costs is in
    let before = due-live own t lives in
    omega arith

due_back : (own : List StoreNote) (t : ℕ) → is_live own t ≡ true → can_go_back (savepoints own t) ≡ true → due (own ++ StoreNote.BackTo t ∷ []) t + 1 ≤ due own t
due_back own t lives can =
    due_less own (StoreNote.BackTo t) t (with_return (savepoints own t)) refl refl lives
    (ap (λ b. cond b (with_return (savepoints own t)) (savepoints own t)) (eq-eqb t t refl)) (less_back (savepoints own t) can)

due_release : (own : List StoreNote) (t : ℕ) → is_live own t ≡ true → is_pointed (savepoints own t) ≡ true → due (own ++ StoreNote.Release t ∷ []) t + 1 ≤ due own t
due_release own t lives is =
    due_less own (StoreNote.Release t) t (without_innermost (savepoints own t)) refl refl lives
    (ap (λ b. cond b (without_innermost (savepoints own t)) (savepoints own t)) (eq-eqb t t refl)) (less_released (savepoints own t) is)

-- ---- all clients

-- an entry that begins nothing changes what is due for the transaction that it names, and nothing else
owed-step : (clients : ℕ) (H : List StoreEntry) (c t : ℕ) (n : StoreNote) → c < clients → begun (n ∷ []) ≡ [] → t ≤ length (begun (store_notes H)) → ((u : ℕ) → u ≢ t → names u n ≡ false)
    → owed_to clients (H ++ entry c n ∷ []) + due (store_notes_of H c) t ≡ owed_to clients H + due (store_notes_of H c ++ n ∷ []) t
owed-step clients H c t n below none low only =
    let own = store_notes_of H c in
    let count = length (begun (store_notes H)) in
    let grown : length (begun (store_notes (H ++ entry c n ∷ []))) ≡ count = begun_length-push H (entry c n) ∙ (let same : count + length (begun (n ∷ [])) ≡ count = omega (arith, ap length none) in same) in
    let f : ℕ → ℕ = λ d. sum_below (suc count) (due (store_notes_of H d)) in
    let g : ℕ → ℕ = λ d. sum_below (suc count) (due (store_notes_of (H ++ entry c n ∷ []) d)) in
    let here : g c ≡ sum_below (suc count) (due (own ++ n ∷ [])) = ap (λ ns. sum_below (suc count) (due ns)) (store_notes_of-push H (entry c n) c refl) in
    let others : (d : ℕ) → d ≢ c → g d ≡ f d = λ d differs. ap (λ ns. sum_below (suc count) (due ns)) (store_notes_of-push_other H (entry c n) d (λ e. differs (sym e))) in
    let inner : sum_below (suc count) (due (own ++ n ∷ [])) + due own t ≡ f c + due (own ++ n ∷ []) t =
    sum_below-at (suc count) (due own) (due (own ++ n ∷ [])) t (omega arith) (λ u differs. due-other own n u (only u differs)) in
    let outer : sum_below clients g + f c ≡ sum_below clients f + g c = sum_below-at clients f g c below others in
    let all : owed_to clients (H ++ entry c n ∷ []) ≡ sum_below clients g = ap (λ m. sum_below clients (λ d. sum_below (suc m) (due (store_notes_of (H ++ entry c n ∷ []) d)))) grown in
    sum_step (owed_to clients (H ++ entry c n ∷ [])) (sum_below clients g) (sum_below clients f) (f c) (g c) (due own t) (due (own ++ n ∷ []) t) all outer (ap (λ m. m + due own t) here ∙ inner)
  where
    sum_step : (new sum before fc gc d d' : ℕ) → new ≡ sum → sum + fc ≡ before + gc → gc + d ≡ fc + d' → new + d ≡ before + d'
    sum_step new sum before fc gc d d' e o i = omega arith

owed-begin : (clients : ℕ) (H : List StoreEntry) (c u : ℕ) → c < clients → Unnamed H → u ≡ length (begun (store_notes H)) + 1
    → owed_to clients (H ++ entry c (StoreNote.Begin u) ∷ []) ≤ owed_to clients H + 1
owed-begin clients H c u below fresh is =
    let n = StoreNote.Begin u in
    let own = store_notes_of H c in
    let count = length (begun (store_notes H)) in
    let grown : length (begun (store_notes (H ++ entry c n ∷ []))) ≡ suc count = (let more : length (begun (store_notes (H ++ entry c n ∷ []))) ≡ suc count = omega (arith, begun_length-push H (entry c n)) in more) in
    let number : u ≡ suc count = omega arith in
    let unnamed_in : (d : ℕ) → list_any (names u) (store_notes_of H d) ≡ false = λ d. none_of (names u) H d (fresh u (omega arith)) in
    let f : ℕ → ℕ = λ d. sum_below (suc count) (due (store_notes_of H d)) in
    let g : ℕ → ℕ = λ d. sum_below (suc (suc count)) (due (store_notes_of (H ++ entry c n ∷ []) d)) in
    let others : (d : ℕ) → d ≢ c → g d ≡ f d = λ d differs.
    ap (λ ns. sum_below (suc (suc count)) (due ns)) (store_notes_of-push_other H (entry c n) d (λ e. differs (sym e)))
    ∙ last_none (f d) (due (store_notes_of H d) (suc count)) (subst (λ m. due (store_notes_of H d) m ≡ 0) number (due_none (store_notes_of H d) u (unnamed_in d))) in
    let here : g c ≡ sum_below (suc count) (due (own ++ n ∷ [])) + due (own ++ n ∷ []) (suc count) = ap (λ ns. sum_below (suc (suc count)) (due ns)) (store_notes_of-push H (entry c n) c refl) in
    let before : sum_below (suc count) (due (own ++ n ∷ [])) ≡ f c =
    sum_below-same (suc count) (due own) (due (own ++ n ∷ [])) (λ i low. due-other own n i (ne_eqb u i (λ e. omega arith))) in
    let last : due (own ++ n ∷ []) (suc count) ≤ 1 = subst (λ m. due (own ++ n ∷ []) m ≤ 1) number (due_begun own u (unnamed_in c)) in
    let outer : sum_below clients g + f c ≡ sum_below clients f + g c = sum_below-at clients f g c below others in
    let all : owed_to clients (H ++ entry c n ∷ []) ≡ sum_below clients g = ap (λ m. sum_below clients (λ d. sum_below (suc m) (due (store_notes_of (H ++ entry c n ∷ []) d)))) grown in
    sum_most (owed_to clients (H ++ entry c n ∷ [])) (sum_below clients g) (sum_below clients f) (f c) (g c) (sum_below (suc count) (due (own ++ n ∷ []))) (due (own ++ n ∷ []) (suc count)) all outer here before last
  where
    last_none : (m last : ℕ) → last ≡ 0 → m + last ≡ m
    last_none m last is = omega arith

    sum_most : (new sum before fc gc m last : ℕ) → new ≡ sum → sum + fc ≡ before + gc → gc ≡ m + last → m ≡ fc → last ≤ 1 → new ≤ before + 1
    sum_most new sum before fc gc m last e o h b l = omega arith

same_step : (new before d d' : ℕ) → new + d ≡ before + d' → d' ≡ d → new ≤ before + 0
same_step new before d d' e s = omega arith

more_step : (new before d d' : ℕ) → new + d ≡ before + d' → d' ≤ d + 2 → new ≤ before + 2
more_step new before d d' e s = omega arith

less_step : (new before d d' : ℕ) → new + d ≡ before + d' → d' + 1 ≤ d → new + 1 ≤ before
less_step new before d d' e s = omega arith

spent_less : (new before : ℕ) → new + 1 ≤ before → new ≤ before + 0
spent_less new before h = omega arith

only_named : (t : ℕ) (n : StoreNote) → names t n ≡ true → (u : ℕ) → u ≢ t → names u n ≡ false
only_named t n is u differs = names_one t u n is differs

-- a note of a transaction that lives neither begins nor ends it
stays : (clients : ℕ) (H : List StoreEntry) (c t : ℕ) (n : StoreNote) → c < clients → Unnamed H → is_live (store_notes_of H c) t ≡ true
    → names t n ≡ true → begun (n ∷ []) ≡ []
    → owed_to clients (H ++ entry c n ∷ []) + due (store_notes_of H c) t ≡ owed_to clients H + due (store_notes_of H c ++ n ∷ []) t
stays clients H c t n below fresh alive is none = owed-step clients H c t n below none (live_below H c t fresh alive) (only_named t n is)

-- the last condition of a proper call
last_part : (room alive last : Bool) → IsTrue (room && (alive && last)) → last ≡ true
last_part room alive last h = (and_parts alive last (and_parts room (alive && last) h).1).1

-- a note of a transaction that lives, after which less is due to it
less_due : (clients : ℕ) (H : List StoreEntry) (c t : ℕ) (n : StoreNote) → c < clients → Unnamed H → is_live (store_notes_of H c) t ≡ true
    → names t n ≡ true → begun (n ∷ []) ≡ [] → due (store_notes_of H c ++ n ∷ []) t + 1 ≤ due (store_notes_of H c) t → owed_to clients (H ++ entry c n ∷ []) + 1 ≤ owed_to clients H
less_due clients H c t n below fresh alive is none less =
    less_step _ _ (due (store_notes_of H c) t) (due (store_notes_of H c ++ n ∷ []) t) (stays clients H c t n below fresh alive is none) less

ended_at : (clients : ℕ) (H : List StoreEntry) (c t : ℕ) (n : StoreNote) → c < clients → Unnamed H → is_live (store_notes_of H c) t ≡ true
    → names t n ≡ true → begun (n ∷ []) ≡ [] → ends t n ≡ true → owed_to clients (H ++ entry c n ∷ []) + 1 ≤ owed_to clients H
ended_at clients H c t n below fresh alive is none end =
    let before = due-live (store_notes_of H c) t alive in
    let dead = due_ended (store_notes_of H c) n t end in
    less_due clients H c t n below fresh alive is none (omega arith)

spent_at : (clients : ℕ) (H : List StoreEntry) (c : ℕ) (n : StoreNote) → Unnamed H → c < clients → IsTrue (store_proper (store_notes_of H c) (store_want n)) → was_owed n ≡ true
    → owed_to clients (H ++ entry c n ∷ []) + 1 ≤ owed_to clients H
unfolding store_proper
spent_at clients H c (StoreNote.BackTo t) fresh below proper owed =
    let own = store_notes_of H c in
    let alive = lives own t (StoreNote.BackTo t) (eq-eqb t t refl) refl proper in
    less_due clients H c t (StoreNote.BackTo t) below fresh alive (eq-eqb t t refl) refl (due_back own t alive (last_part (has_room own) (is_live own t) (can_go_back (savepoints own t)) proper))
spent_at clients H c (StoreNote.Release t) fresh below proper owed =
    let own = store_notes_of H c in
    let alive = lives own t (StoreNote.Release t) (eq-eqb t t refl) refl proper in
    less_due clients H c t (StoreNote.Release t) below fresh alive (eq-eqb t t refl) refl (due_release own t alive (last_part (has_room own) (is_live own t) (is_pointed (savepoints own t)) proper))
spent_at clients H c (StoreNote.Commit t m) fresh below proper owed =
    ended_at clients H c t (StoreNote.Commit t m) below fresh (lives (store_notes_of H c) t (StoreNote.Commit t m) (eq-eqb t t refl) refl proper) (eq-eqb t t refl) refl (eq-eqb t t refl)
spent_at clients H c (StoreNote.Rollback t) fresh below proper owed =
    ended_at clients H c t (StoreNote.Rollback t) below fresh (lives (store_notes_of H c) t (StoreNote.Rollback t) (eq-eqb t t refl) refl proper) (eq-eqb t t refl) refl (eq-eqb t t refl)
spent_at clients H c n fresh below proper owed = absurd (false≢true owed)

-- an entry that was owed and fits takes one from what the store owes
pub owed-spent : (clients : ℕ) (facts : StoreFacts) (H : List StoreEntry) (e : StoreEntry) → Unnamed H → StoreFits clients facts H e → was_owed e.note ≡ true
    → owed_to clients (H ++ e ∷ []) + 1 ≤ owed_to clients H
owed-spent clients facts H e fresh fits owed = spent_at clients H e.client e.note fresh fits.client fits.proper owed

more_at : (clients : ℕ) (facts : StoreFacts) (H : List StoreEntry) (c : ℕ) (n : StoreNote) → Unnamed H → c < clients → IsTrue (store_proper (store_notes_of H c) (store_want n)) → store_reply facts H (store_want n) ≡ Some n
    → owed_to clients (H ++ entry c n ∷ []) ≤ owed_to clients H + more_owed n
more_at clients facts H c (StoreNote.Begin u) fresh below proper reply = owed-begin clients H c u below fresh (begin_number facts H u reply)
more_at clients facts H c (StoreNote.Access t a r) fresh below proper reply =
    let own = store_notes_of H c in
    let n = StoreNote.Access t a r in
    let alive = lives own t n (eq-eqb t t refl) refl proper in
    same_step _ _ (due own t) (due (own ++ n ∷ []) t) (stays clients H c t n below fresh alive (eq-eqb t t refl) refl) (due_kept own n t refl refl)
more_at clients facts H c (StoreNote.Point t) fresh below proper reply =
    let own = store_notes_of H c in
    let n = StoreNote.Point t in
    let alive = lives own t n (eq-eqb t t refl) refl proper in
    more_step _ _ (due own t) (due (own ++ n ∷ []) t) (stays clients H c t n below fresh alive (eq-eqb t t refl) refl) (due_point own t)
more_at clients facts H c (StoreNote.Auto a r) fresh below proper reply =
    let own = store_notes_of H c in
    let n = StoreNote.Auto a r in
    same_step _ _ (due own 0) (due (own ++ n ∷ []) 0) (owed-step clients H c 0 n below refl (omega arith) (λ u differs. refl)) (due-other own n 0 refl)
more_at clients facts H c n fresh below proper reply = spent_less _ _ (spent_at clients H c n fresh below proper refl)

-- what an entry that fits makes the store owe more
pub owed-more : (clients : ℕ) (facts : StoreFacts) (H : List StoreEntry) (e : StoreEntry) → Unnamed H → StoreFits clients facts H e → owed_to clients (H ++ e ∷ []) ≤ owed_to clients H + more_owed e.note
owed-more clients facts H e fresh fits = more_at clients facts H e.client e.note fresh fits.client fits.proper fits.reply
