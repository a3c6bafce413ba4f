-- Which transactions a legal history of the store names, and how many it begins.
use Rattle.std.proofs.Common.{◌≡◌, ◌≢◌, ℕ, zero, suc, ◌+◌, ◌-◌, ◌*◌, ◌^◌, ◌<◌, ◌≤◌, Bool, true, false, not, ◌&&◌, ◌||◌, ◌==◌, IsTrue, cond, List, [], ◌∷◌, ◌++◌, length, Some, fold, refl, sym, ap, ◌∙◌, subst, inl, inr, arith, length-append, eqb-true, ltb-true}
use Rattle.std.specs.List.{list_any}
use Rattle.std.proofs.lemmas.Bool.{false≢true, cases_eq, cases_lt, and_parts}
use Rattle.stx_base.specs.declared.facts.StoreFacts.{StoreFacts}
use Rattle.stx_base.specs.declared.history.StoreNote.{StoreNote}
use Rattle.stx_base.specs.declared.history.StoreEntry.{StoreEntry}
use Rattle.stx_base.specs.Histories.{store_notes, store_notes_of, has_room}
use Rattle.stx_base.specs.Pools.{contains}
use Rattle.stx_base.specs.Alone.{without_innermost}
use Rattle.stx_base.specs.Stores.{begun, ends, is_live, pointed, savepoints, with_return, store_reply, store_want, store_proper, can_go_back, is_pointed}
use Rattle.stx_base.specs.Legal.{StoreFits, StoreLegal}
use Rattle.stx_base.proofs.LegalLaws.{StoreLegal-along}
use Rattle.stx_base.proofs.HistoryLaws.{or-false, or_none, list_any-push, store_notes-push, begun-push, is_live-parts, is_live-push, savepoints-push, store_notes_of-push, store_notes_of-push_other, none_of, sum_below, sum_below-at, sum_below-le}

-- ---- notes that name a transaction

abbrev pub names : ℕ → StoreNote → Bool
names t (StoreNote.Begin u) = u == t
names t (StoreNote.Access u a r) = u == t
names t (StoreNote.Point u) = u == t
names t (StoreNote.BackTo u) = u == t
names t (StoreNote.Release u) = u == t
names t (StoreNote.Commit u n) = u == t
names t (StoreNote.Rollback u) = u == t
names t (StoreNote.Auto a r) = false

pub begun_none : (ns : List StoreNote) (t : ℕ) → list_any (names t) ns ≡ false → contains (begun ns) t ≡ false
begun_none [] t h = refl
begun_none (StoreNote.Begin u ∷ ns) t h =
    let parts = or_none (u == t) (list_any (names t) ns) h in
    ap (λ b. b || contains (begun ns) t) parts.0 ∙ begun_none ns t parts.1
begun_none (n ∷ ns) t h = begun_none ns t (or_none (names t n) (list_any (names t) ns) h).1

-- what no note names doesn't live
pub is_live_none : (ns : List StoreNote) (t : ℕ) → list_any (names t) ns ≡ false → is_live ns t ≡ false
is_live_none ns t h = is_live-parts ns t ∙ ap (λ b. b && not (list_any (ends t) ns)) (begun_none ns t h)

pub pointed_other : (t : ℕ) (ps : List Bool) (n : StoreNote) → names t n ≡ false → pointed t ps n ≡ ps
pointed_other t ps (StoreNote.Point u) h = ap (λ b. cond b (false ∷ ps) ps) h
pointed_other t ps (StoreNote.BackTo u) h = ap (λ b. cond b (with_return ps) ps) h
pointed_other t ps (StoreNote.Release u) h = ap (λ b. cond b (without_innermost ps) ps) h
pointed_other t ps n h = refl

savepoints_from_none : (ns : List StoreNote) (t : ℕ) (ps : List Bool) → list_any (names t) ns ≡ false → fold (pointed t) ps ns ≡ ps
savepoints_from_none [] t ps h = refl
savepoints_from_none (n ∷ ns) t ps h =
    let parts = or_none (names t n) (list_any (names t) ns) h in
    ap (λ qs. fold (pointed t) qs ns) (pointed_other t ps n parts.0) ∙ savepoints_from_none ns t ps parts.1

pub savepoints_none : (ns : List StoreNote) (t : ℕ) → list_any (names t) ns ≡ false → savepoints ns t ≡ []
savepoints_none ns t h = savepoints_from_none ns t [] h

ends_other : (t : ℕ) (n : StoreNote) → names t n ≡ false → ends t n ≡ false
ends_other t (StoreNote.Commit u m) h = h
ends_other t (StoreNote.Rollback u) h = h
ends_other t n h = refl

begun_other : (t : ℕ) (n : StoreNote) → names t n ≡ false → contains (begun (n ∷ [])) t ≡ false
begun_other t n h = begun_none (n ∷ []) t (or-false (names t n) ∙ h)

-- a note that neither begins nor ends a transaction lets it live
pub is_live-push_kept : (ns : List StoreNote) (n : StoreNote) (t : ℕ) → contains (begun (n ∷ [])) t ≡ false → ends t n ≡ false → is_live (ns ++ n ∷ []) t ≡ is_live ns t
is_live-push_kept ns n t none still =
    is_live-push ns n t
    ∙ ap (λ b. (contains (begun ns) t || b) && not (list_any (ends t) ns || ends t n)) none
    ∙ ap (λ b. b && not (list_any (ends t) ns || ends t n)) (or-false (contains (begun ns) t))
    ∙ ap (λ b. contains (begun ns) t && not (list_any (ends t) ns || b)) still
    ∙ ap (λ b. contains (begun ns) t && not b) (or-false (list_any (ends t) ns))
    ∙ sym (is_live-parts ns t)

-- a note that doesn't name a transaction changes nothing for it
pub is_live-push_other : (ns : List StoreNote) (n : StoreNote) (t : ℕ) → names t n ≡ false → is_live (ns ++ n ∷ []) t ≡ is_live ns t
is_live-push_other ns n t h = is_live-push_kept ns n t (begun_other t n h) (ends_other t n h)

pub savepoints-push_other : (ns : List StoreNote) (n : StoreNote) (t : ℕ) → names t n ≡ false → savepoints (ns ++ n ∷ []) t ≡ savepoints ns t
savepoints-push_other ns n t h = savepoints-push ns n t ∙ pointed_other t (savepoints ns t) n h

-- ---- the numbers of transactions: a legal history names none above the number of its begins

-- no note names a number above that of the begins
abbrev pub Unnamed : List StoreEntry → Type 0
Unnamed H = (t : ℕ) → length (begun (store_notes H)) < t → list_any (names t) (store_notes H) ≡ false

pub live_below : (H : List StoreEntry) (c t : ℕ) → Unnamed H → is_live (store_notes_of H c) t ≡ true → t ≤ length (begun (store_notes H))
live_below H c t unnamed lives = elim (cases_lt (length (begun (store_notes H))) t) [
  | inl above ↦ absurd (false≢true (sym (is_live_none (store_notes_of H c) t (none_of (names t) H c (unnamed t above))) ∙ lives))
  | inr below ↦ below
]

-- whatever a proper call of a live transaction adds, its first condition is that the transaction lives
lives_first : (room live more : Bool) → IsTrue (room && (live && more)) → live ≡ true
lives_first room live more h = (and_parts live more (and_parts room (live && more) h).1).0

lives_alone : (room live : Bool) → IsTrue (room && live) → live ≡ true
lives_alone room live h = (and_parts room live h).1

-- the transaction that a proper call names lives
pub lives : (own : List StoreNote) (t : ℕ) (note : StoreNote) → names t note ≡ true → begun (note ∷ []) ≡ [] → IsTrue (store_proper own (store_want note)) → is_live own t ≡ true
unfolding store_proper
lives own t (StoreNote.Begin u) h b proper = absurd (omega (arith, ap length b))
lives own t (StoreNote.Access u a r) h b proper = subst (λ v. is_live own v ≡ true) (eqb-true u t h) (lives_alone (has_room own) (is_live own u) proper)
lives own t (StoreNote.Point u) h b proper = subst (λ v. is_live own v ≡ true) (eqb-true u t h) (lives_alone (has_room own) (is_live own u) proper)
lives own t (StoreNote.BackTo u) h b proper = subst (λ v. is_live own v ≡ true) (eqb-true u t h) (lives_first (has_room own) (is_live own u) (can_go_back (savepoints own u)) proper)
lives own t (StoreNote.Release u) h b proper = subst (λ v. is_live own v ≡ true) (eqb-true u t h) (lives_first (has_room own) (is_live own u) (is_pointed (savepoints own u)) proper)
lives own t (StoreNote.Commit u n) h b proper = subst (λ v. is_live own v ≡ true) (eqb-true u t h) (lives_first (has_room own) (is_live own u) (not (is_pointed (savepoints own u))) proper)
lives own t (StoreNote.Rollback u) h b proper = subst (λ v. is_live own v ≡ true) (eqb-true u t h) (lives_first (has_room own) (is_live own u) (not (is_pointed (savepoints own u))) proper)
lives own t (StoreNote.Auto a r) h b proper = absurd (false≢true h)

-- the number of a begin is one more than that of the begins before
pub begin_number : (facts : StoreFacts) (H : List StoreEntry) (u : ℕ) → store_reply facts H (store_want (StoreNote.Begin u)) ≡ Some (StoreNote.Begin u) → u ≡ length (begun (store_notes H)) + 1
unfolding store_reply
begin_number facts H u reply = cc

-- what an entry that fits names is new by a begin, or lives
named_below : (facts : StoreFacts) (H : List StoreEntry) (c : ℕ) (note : StoreNote) (t : ℕ)
    → IsTrue (store_proper (store_notes_of H c) (store_want note)) → store_reply facts H (store_want note) ≡ Some note
    → Unnamed H → names t note ≡ true → t ≤ length (begun (store_notes H)) + length (begun (note ∷ []))
named_below facts H c (StoreNote.Begin u) t proper reply unnamed is =
    let number = begin_number facts H u reply in
    let same : u ≡ t = eqb-true u t is in
    omega arith
named_below facts H c (StoreNote.Access u a r) t proper reply unnamed is =
    let below = live_below H c t unnamed (lives (store_notes_of H c) t (StoreNote.Access u a r) is refl proper) in omega arith
named_below facts H c (StoreNote.Point u) t proper reply unnamed is =
    let below = live_below H c t unnamed (lives (store_notes_of H c) t (StoreNote.Point u) is refl proper) in omega arith
named_below facts H c (StoreNote.BackTo u) t proper reply unnamed is =
    let below = live_below H c t unnamed (lives (store_notes_of H c) t (StoreNote.BackTo u) is refl proper) in omega arith
named_below facts H c (StoreNote.Release u) t proper reply unnamed is =
    let below = live_below H c t unnamed (lives (store_notes_of H c) t (StoreNote.Release u) is refl proper) in omega arith
named_below facts H c (StoreNote.Commit u n) t proper reply unnamed is =
    let below = live_below H c t unnamed (lives (store_notes_of H c) t (StoreNote.Commit u n) is refl proper) in omega arith
named_below facts H c (StoreNote.Rollback u) t proper reply unnamed is =
    let below = live_below H c t unnamed (lives (store_notes_of H c) t (StoreNote.Rollback u) is refl proper) in omega arith
named_below facts H c (StoreNote.Auto a r) t proper reply unnamed is = absurd (false≢true is)

pub begun_length-push : (H : List StoreEntry) (e : StoreEntry) → length (begun (store_notes (H ++ e ∷ []))) ≡ length (begun (store_notes H)) + length (begun (e.note ∷ []))
begun_length-push H e =
    ap (λ ns. length (begun ns)) (store_notes-push H e)
    ∙ ap length (begun-push (store_notes H) e.note)
    ∙ length-append (begun (store_notes H)) (begun (e.note ∷ []))

unnamed-push : (n : ℕ) (facts : StoreFacts) (H : List StoreEntry) (e : StoreEntry) → Unnamed H → StoreFits n facts H e → Unnamed (H ++ e ∷ [])
unnamed-push n facts H e unnamed fits t above =
    let grown : length (begun (store_notes (H ++ e ∷ []))) ≡ length (begun (store_notes H)) + length (begun (e.note ∷ [])) = begun_length-push H e in
    let before : list_any (names t) (store_notes H) ≡ false = unnamed t (omega arith) in
    let step : (b : Bool) → names t e.note ≡ b → b ≡ false = λ b. elim b as (λ v. names t e.note ≡ v → v ≡ false) [
      | true ↦ λ is. absurd (let low = named_below facts H e.client e.note t fits.proper fits.reply unnamed is in omega arith)
      | false ↦ λ is. refl
    ] in
    ap (list_any (names t)) (store_notes-push H e)
    ∙ list_any-push (names t) (store_notes H) e.note
    ∙ ap (λ b. b || names t e.note) before
    ∙ step (names t e.note) refl

pub unnamed : (n : ℕ) (facts : StoreFacts) (H : List StoreEntry) → StoreLegal n facts H → Unnamed H
unnamed n facts H legal = StoreLegal-along n facts Unnamed (λ t above. refl) (unnamed-push n facts) H legal

-- ---- the number of begins

-- the clients' begins together are those of the history, and each client made few
record Counted (n : ℕ) (H : List StoreEntry) : Type 0 where
  all : length (begun (store_notes H)) ≡ sum_below n (λ c. length (begun (store_notes_of H c)))
  each : (c : ℕ) → length (begun (store_notes_of H c)) ≤ 2 ^ 26 - 1

few_own : (own : List StoreNote) (note : StoreNote) → IsTrue (store_proper own (store_want note)) → length (begun own) ≤ 2 ^ 26 - 1 → length (begun own) + length (begun (note ∷ [])) ≤ 2 ^ 26 - 1
unfolding store_proper
few_own own (StoreNote.Begin u) proper few =
    let less : length (begun own) < 2 ^ 26 - 1 = ltb-true _ _ (lives_alone (has_room own) _ proper) in omega arith
few_own own (StoreNote.Access u a r) proper few = omega arith
few_own own (StoreNote.Point u) proper few = omega arith
few_own own (StoreNote.BackTo u) proper few = omega arith
few_own own (StoreNote.Release u) proper few = omega arith
few_own own (StoreNote.Commit u n) proper few = omega arith
few_own own (StoreNote.Rollback u) proper few = omega arith
few_own own (StoreNote.Auto a r) proper few = omega arith

own_length-push : (H : List StoreEntry) (e : StoreEntry) → length (begun (store_notes_of (H ++ e ∷ []) e.client)) ≡ length (begun (store_notes_of H e.client)) + length (begun (e.note ∷ []))
own_length-push H e =
    ap (λ ns. length (begun ns)) (store_notes_of-push H e e.client refl)
    ∙ ap length (begun-push (store_notes_of H e.client) e.note)
    ∙ length-append (begun (store_notes_of H e.client)) (begun (e.note ∷ []))

counted-push : (n : ℕ) (facts : StoreFacts) (H : List StoreEntry) (e : StoreEntry) → Counted n H → StoreFits n facts H e → Counted n (H ++ e ∷ [])
counted-push n facts H e counted fits =
    let here = own_length-push H e in
    let others : (c : ℕ) → c ≢ e.client → length (begun (store_notes_of (H ++ e ∷ []) c)) ≡ length (begun (store_notes_of H c)) =
    λ c differs. ap (λ ns. length (begun ns)) (store_notes_of-push_other H e c (λ same. differs (sym same))) in
    record {
      all =
          let sums = sum_below-at n (λ c. length (begun (store_notes_of H c))) (λ c. length (begun (store_notes_of (H ++ e ∷ []) c))) e.client fits.client others in
          omega (arith, begun_length-push H e, counted.all);
      each = λ c. elim (cases_eq c e.client) [
        | inl same ↦ subst (λ d. length (begun (store_notes_of (H ++ e ∷ []) d)) ≤ 2 ^ 26 - 1) (sym same)
            (let few = few_own (store_notes_of H e.client) e.note fits.proper (counted.each e.client) in omega arith)
        | inr differs ↦ let kept = others c differs in let few = counted.each c in omega arith
      ];
    }

sum_below-none : (n : ℕ) → sum_below n (λ c. length (begun (store_notes_of [] c))) ≡ 0
sum_below-none zero = refl
sum_below-none (suc n) = let rest : sum_below n (λ c. length (begun (store_notes_of [] c))) ≡ 0 = sum_below-none n in omega arith

-- a legal history begins few transactions
pub few_begun : (n : ℕ) (facts : StoreFacts) (H : List StoreEntry) → StoreLegal n facts H → length (begun (store_notes H)) ≤ n * (2 ^ 26 - 1)
few_begun n facts H legal =
    let counted = StoreLegal-along n facts (Counted n) (record { all = sym (sum_below-none n); each = λ c. omega arith }) (counted-push n facts) H legal in
    let sum = sum_below-le n (2 ^ 26 - 1) (λ c. length (begun (store_notes_of H c))) (λ c h. counted.each c) in
    omega (arith, counted.all)
