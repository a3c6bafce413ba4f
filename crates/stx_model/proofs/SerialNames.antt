-- Names of transactions in a legal history: each is begun once, by one client, and only that client uses it, while it lives.
use Rattle.std.proofs.Common.{◌≡◌, ℕ, ◌+◌, ◌≤◌, Bool, true, false, not, ◌&&◌, ◌||◌, ◌==◌, List, [], ◌∷◌, ◌++◌, Option, Some, length, refl, sym, ◌∙◌, ⊎_elim, inl, inr, arith, eq-eqb, eqb-true, filter, length-append, ◌⊎◌, le_trans}
use Rattle.std.specs.List.{list_any}
use Rattle.std.proofs.lemmas.Bool.{or_cases, or_left, or_right, and_parts, and_from, not-true, not_from_false, both_ways, false≢true, true≢false, false_from_ne_true}
use Rattle.std.proofs.lemmas.List.Elements.{filter_map-append}
use Rattle.stx_base.specs.declared.facts.StoreFacts.{StoreFacts}
use Rattle.stx_base.specs.declared.history.StoreNote.{StoreNote}
use Rattle.stx_base.specs.declared.history.StoreEntry.{StoreEntry}
use Rattle.stx_base.specs.Histories.{store_notes, store_notes_of}
use Rattle.stx_base.specs.Pools.{contains}
use Rattle.stx_base.specs.Stores.{begun_by, begun, ends, is_live, works, store_reply, store_want, store_proper}
use Rattle.stx_base.specs.Legal.{StoreFits}
use Rattle.stx_model.proofs.SerialLists.{any-filter, any-map, any_since, contains-filter}
use Rattle.stx_base.proofs.HistoryLaws.{list_any-push, store_notes-push}

-- ---- the clients' notes together are the history's

-- the note begins the transaction
abbrev pub begins : ℕ → StoreNote → Bool
begins t (StoreNote.Begin u) = u == t
begins t _ = false

-- the note is work of the transaction, or ends it
abbrev pub names : ℕ → StoreNote → Bool
names t n = works t n || ends t n

-- what some note of a client passes
any-of_client :
    (p : StoreNote → Bool) (history : List StoreEntry) (c : ℕ)
    → list_any p (store_notes_of history c) ≡ list_any (λ e. (e.client == c) && p e.note) history
any-of_client p history c = any-map p (λ e. e.note) (filter (λ e. e.client == c) history) ∙ any-filter (λ e. e.client == c) (λ e. p e.note) history

pub of_client_push :
    (p : StoreNote → Bool) (history : List StoreEntry) (e : StoreEntry) (c : ℕ)
    → list_any p (store_notes_of (history ++ e ∷ []) c) ≡ (list_any p (store_notes_of history c) || ((e.client == c) && p e.note))
of_client_push p history e c =
    rw (any-of_client p (history ++ e ∷ []) c, any-of_client p history c) (list_any-push (λ e. (e.client == c) && p e.note) history e)

-- the notes of a history, and one more
abbrev pub notes_with : List StoreEntry → StoreNote → List StoreNote
notes_with history n = store_notes history ++ n ∷ []

-- what a client's note passes a note of the history passes, and the other way round
pub of_some_client :
    (p : StoreNote → Bool) (history : List StoreEntry) → list_any p (store_notes history) ≡ true
    → (c : ℕ) × (list_any p (store_notes_of history c) ≡ true)
of_some_client p history h =
    let (c, here) = found history (rw (any-map p (λ e. e.note) history) at h) in (c, any-of_client p history c ∙ here)
  where
    found : (es : List StoreEntry) → list_any (λ e. p e.note) es ≡ true → (c : ℕ) × (list_any (λ e. (e.client == c) && p e.note) es ≡ true)
    found [] h = absurd (false≢true h)
    found (e ∷ es) h =
        ⊎_elim (λ here. (e.client, or_left _ _ (and_from _ _ (eq-eqb e.client e.client refl) here)))
        (λ later. let (c, there) = found es later in (c, or_right _ _ there))
        (or_cases _ _ h)

pub of_client_all :
    (p : StoreNote → Bool) (history : List StoreEntry) (c : ℕ) → list_any p (store_notes_of history c) ≡ true
    → list_any p (store_notes history) ≡ true
of_client_all p history c h =
    rw (any-map p (λ e. e.note) history) (any_since _ _ (λ e here. (and_parts _ _ here).1) history (rw (any-of_client p history c) at h))

-- ---- live transactions

contains-begun : (notes : List StoreNote) (t : ℕ) → contains (begun notes) t ≡ list_any (begins t) notes
contains-begun [] t = refl
contains-begun (StoreNote.Begin u ∷ notes) t = rw (contains-begun notes t)
contains-begun (_ ∷ notes) t = contains-begun notes t

-- a transaction is live if it was begun and hasn't ended
pub live-is : (notes : List StoreNote) (t : ℕ) → is_live notes t ≡ (not (list_any (ends t) notes) && list_any (begins t) notes)
live-is notes t = rw (contains-filter (λ t. not (list_any (ends t) notes)) (begun notes) t, contains-begun notes t)

-- ---- the names of a history

pub record Names (history : List StoreEntry) : Type 0 where
  -- what was begun has a number up to the count of begins
  pub below : (t : ℕ) → list_any (begins t) (store_notes history) ≡ true → t ≤ length (begun (store_notes history))
  -- one client alone begins a transaction
  pub owned :
      (t c d : ℕ) → list_any (begins t) (store_notes_of history c) ≡ true → list_any (begins t) (store_notes_of history d) ≡ true → c ≡ d
  -- a client that names a transaction has begun it
  pub named : (t c : ℕ) → list_any (names t) (store_notes_of history c) ≡ true → list_any (begins t) (store_notes_of history c) ≡ true

-- what the names in an entry are: live transactions of its client, or a fresh one
pub record NamesFit (before : List StoreEntry) (e : StoreEntry) : Type 0 where
  pub live : (t : ℕ) → names t e.note ≡ true → is_live (store_notes_of before e.client) t ≡ true
  pub fresh : (t : ℕ) → begins t e.note ≡ true → t ≡ length (begun (store_notes before)) + 1

proper_live :
    (own : List StoreNote) (n : StoreNote) (t : ℕ) → store_proper own (store_want n) ≡ true → names t n ≡ true → is_live own t ≡ true
unfolding store_proper
proper_live own (StoreNote.Access u a r) t proper h = let same : u ≡ t = grind arith in rw (← same) (and_parts _ _ proper).1
proper_live own (StoreNote.Point u) t proper h = let same : u ≡ t = grind arith in rw (← same) (and_parts _ _ proper).1
proper_live own (StoreNote.BackTo u) t proper h = let same : u ≡ t = grind arith in rw (← same) (and_parts _ _ (and_parts _ _ proper).1).0
proper_live own (StoreNote.Release u) t proper h = let same : u ≡ t = grind arith in rw (← same) (and_parts _ _ (and_parts _ _ proper).1).0
proper_live own (StoreNote.Commit u m) t proper h = let same : u ≡ t = grind arith in rw (← same) (and_parts _ _ (and_parts _ _ proper).1).0
proper_live own (StoreNote.Rollback u) t proper h = let same : u ≡ t = grind arith in rw (← same) (and_parts _ _ (and_parts _ _ proper).1).0
proper_live own _ t proper h = absurd (false≢true h)

reply_fresh :
    (facts : StoreFacts) (before : List StoreEntry) (n : StoreNote) (t : ℕ) → store_reply facts before (store_want n) ≡ Some n
    → begins t n ≡ true → t ≡ length (begun (store_notes before)) + 1
unfolding store_reply
reply_fresh facts before (StoreNote.Begin u) t reply h =
    let same : u ≡ t = eqb-true u t h in rw (← same) (numbers _ _ reply)
  where
    numbers : (a b : ℕ) → ◌≡◌ {A = Option StoreNote} (Some (StoreNote.Begin a)) (Some (StoreNote.Begin b)) → b ≡ a
    numbers a b e = cc
reply_fresh facts before _ t reply h = absurd (false≢true h)

pub names_fit :
    (clients : ℕ) (facts : StoreFacts) (before : List StoreEntry) (e : StoreEntry) → StoreFits clients facts before e → NamesFit before e
names_fit clients facts before e fits = record {
  live = λ t h. proper_live (store_notes_of before e.client) e.note t fits.proper h;
  fresh = λ t h. reply_fresh facts before e.note t fits.reply h;
}

-- the next number nobody has begun, and so nobody has named it
unbegun :
    (history : List StoreEntry) → Names history → (t : ℕ) → t ≡ length (begun (store_notes history)) + 1
    → list_any (begins t) (store_notes history) ≡ false
unbegun history names t fresh = false_from_ne_true _ (λ h. let l = names.below t h in omega arith)

pub unnamed :
    (history : List StoreEntry) → Names history → (t : ℕ) → t ≡ length (begun (store_notes history)) + 1
    → list_any (names t) (store_notes history) ≡ false
unnamed history known t fresh = false_from_ne_true _ (λ h.
    let (c, here) = of_some_client (names t) history h in
    let begun_here = of_client_all (begins t) history c (known.named t c here) in
    true≢false (sym begun_here ∙ unbegun history known t fresh))

-- what lives for its client lives for all: nobody else could end it
pub live_for_all :
    (history : List StoreEntry) → Names history → (t c : ℕ) → is_live (store_notes_of history c) t ≡ true
    → is_live (store_notes history) t ≡ true
live_for_all history known t c live =
    let own = and_parts _ _ (rw (live-is (store_notes_of history c) t) at live) in
    rw (live-is (store_notes history) t) (and_from _ _ (not_ended own.0 own.1) (of_client_all (begins t) history c own.1))
  where
    not_ended :
        not (list_any (ends t) (store_notes_of history c)) ≡ true → list_any (begins t) (store_notes_of history c) ≡ true
        → not (list_any (ends t) (store_notes history)) ≡ true
    not_ended unended here = not_from_false _ (false_from_ne_true _ (λ h.
        let (d, there) = of_some_client (ends t) history h in
        let named = any_since (ends t) (names t) (λ n e. or_right (works t n) (ends t n) e) (store_notes_of history d) there in
        let same : c ≡ d = known.owned t c d here (known.named t d named) in
        both_ways _ (not-true _ unended) (rw (← same) at there)))

-- ---- one more entry

begun_longer : (notes : List StoreNote) (n : StoreNote) → length (begun notes) ≤ length (begun (notes ++ n ∷ []))
begun_longer notes n = rw (filter_map-append begun_by notes (n ∷ []), length-append (begun notes) _) (omega arith)

begun_one_more :
    (notes : List StoreNote) (n : StoreNote) (t : ℕ) → begins t n ≡ true → length (begun (notes ++ n ∷ [])) ≡ length (begun notes) + 1
begun_one_more notes (StoreNote.Begin u) t h = rw (filter_map-append begun_by notes (StoreNote.Begin u ∷ []), length-append (begun notes) _)
begun_one_more notes _ t h = absurd (false≢true h)

pub names_push : (history : List StoreEntry) (e : StoreEntry) → Names history → NamesFit history e → Names (history ++ e ∷ [])
names_push history e known fits = record { below = below; owned = owned; named = named }
  where
    below : (t : ℕ) → list_any (begins t) (store_notes (history ++ e ∷ [])) ≡ true → t ≤ length (begun (store_notes (history ++ e ∷ [])))
    below t h = rw (store_notes-push history e) (⊎_elim
        (λ old. le_trans (known.below t old) (begun_longer (store_notes history) e.note))
        (λ new. let fresh = fits.fresh t new in let more = begun_one_more (store_notes history) e.note t new in omega arith)
        (or_cases _ _ (rw (store_notes-push history e, list_any-push (begins t) (store_notes history) e.note) at h)))

    -- the transaction that the entry begins was begun by nobody before
    first : (t c : ℕ) → begins t e.note ≡ true → list_any (begins t) (store_notes_of history c) ≡ true → ⊥
    first t c new old = true≢false (sym (of_client_all (begins t) history c old) ∙ unbegun history known t (fits.fresh t new))

    owned :
        (t c d : ℕ) → list_any (begins t) (store_notes_of (history ++ e ∷ []) c) ≡ true
        → list_any (begins t) (store_notes_of (history ++ e ∷ []) d) ≡ true → c ≡ d
    owned t c d one other =
        both (or_cases _ _ (rw (of_client_push (begins t) history e c) at one)) (or_cases _ _ (rw (of_client_push (begins t) history e d) at other))
      where
        both :
            (list_any (begins t) (store_notes_of history c) ≡ true) ⊎ (((e.client == c) && begins t e.note) ≡ true)
            → (list_any (begins t) (store_notes_of history d) ≡ true) ⊎ (((e.client == d) && begins t e.note) ≡ true) → c ≡ d
        both (inl a) (inl b) = known.owned t c d a b
        both (inl a) (inr b) = absurd (first t c (and_parts _ _ b).1 a)
        both (inr a) (inl b) = absurd (first t d (and_parts _ _ a).1 b)
        both (inr a) (inr b) = grind arith

    named :
        (t c : ℕ) → list_any (names t) (store_notes_of (history ++ e ∷ []) c) ≡ true
        → list_any (begins t) (store_notes_of (history ++ e ∷ []) c) ≡ true
    named t c h = rw (of_client_push (begins t) history e c) (or_left _ _ (⊎_elim
        (λ old. known.named t c old)
        (λ new. let parts = and_parts _ _ new in
        let live = fits.live t parts.1 in
        let same : e.client ≡ c = eqb-true e.client c parts.0 in
        rw (← same) (and_parts _ _ (rw (live-is (store_notes_of history e.client) t) at live)).1)
        (or_cases _ _ (rw (of_client_push (names t) history e c) at h))))

pub no_names : Names []
no_names = record { below = λ t h. absurd (false≢true h); owned = λ t c d h. absurd (false≢true h); named = λ t c h. absurd (false≢true h) }

-- ---- what the later parts need of the names in a note

pub record Sound (notes : List StoreNote) (n : StoreNote) : Type 0 where
  -- what it names lives
  pub live : (t : ℕ) → names t n ≡ true → is_live notes t ≡ true
  -- what it begins was never named
  pub fresh : (t : ℕ) → begins t n ≡ true → list_any (names t) notes ≡ false

pub sound : (history : List StoreEntry) (e : StoreEntry) → Names history → NamesFit history e → Sound (store_notes history) e.note
sound history e known fits = record {
  live = λ t h. live_for_all history known t e.client (fits.live t h);
  fresh = λ t h. unnamed history known t (fits.fresh t h);
}
