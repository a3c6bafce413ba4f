-- Locks in a legal history: a row that a live transaction has written no other live transaction has reached.
use Rattle.std.proofs.Common.{◌≡◌, ℕ, Bool, true, false, not, ◌&&◌, ◌||◌, ◌==◌, cond, List, [], ◌∷◌, ◌++◌, Option, Some, refl, sym, ap, ◌∙◌, ⊎_elim, inl, inr, ◌⊎◌, arith, eqb-true}
use Rattle.std.specs.List.{list_any}
use Rattle.std.proofs.lemmas.Bool.{or_cases, or_parts, and_parts, and_from, not-true, not_from_false, false≢true, true≢false}
use Rattle.stx_base.specs.declared.facts.StoreFacts.{StoreFacts}
use Rattle.stx_base.specs.declared.history.Access.{Access}
use Rattle.stx_base.specs.declared.history.Answer.{Answer}
use Rattle.stx_base.specs.declared.history.StoreNote.{StoreNote}
use Rattle.stx_base.specs.declared.history.StoreEntry.{StoreEntry}
use Rattle.stx_base.specs.Alone.{row_of}
use Rattle.stx_base.specs.Histories.{store_notes}
use Rattle.stx_base.specs.Pools.{contains}
use Rattle.stx_base.specs.Stores.{ends, live, is_live, is_busy, takes, holders, is_caller, conflicts, smallest, works, work, busy_or, access_answer, auto_answer, store_reply, store_want}
use Rattle.stx_model.proofs.SerialLists.{any-filter, any-same, any_since, contains-filter}
use Rattle.stx_model.proofs.SerialAlone.{reaches, writes, reaches-since_writes}
use Rattle.stx_model.proofs.SerialNames.{begins, names, Sound, live-is}
use Rattle.stx_base.proofs.HistoryLaws.{list_any-push, work_same}

-- ---- the work of a transaction

-- a transaction that nobody has named has no work
pub no_work : (notes : List StoreNote) (t : ℕ) → list_any (names t) notes ≡ false → work notes t ≡ []
no_work [] t h = refl
no_work (n ∷ notes) t h =
    let parts = or_parts _ _ h in
    ap (λ b. cond b (n ∷ work notes t) (work notes t)) (or_parts (works t n) (ends t n) parts.0).0 ∙ no_work notes t parts.1

pub begins_no_work : (n : StoreNote) (t : ℕ) → begins t n ≡ true → (u : ℕ) → works u n ≡ false
begins_no_work (StoreNote.Begin v) t h u = refl
begins_no_work _ t h u = absurd (false≢true h)

any_work_push :
    (p : StoreNote → Bool) (notes : List StoreNote) (n : StoreNote) (t : ℕ)
    → list_any p (work (notes ++ n ∷ []) t) ≡ (list_any p (work notes t) || (works t n && p n))
any_work_push p notes n t =
    any-filter (works t) p (notes ++ n ∷ []) ∙ list_any-push (λ m. works t m && p m) notes n
    ∙ ap (λ b. b || (works t n && p n)) (sym (any-filter (works t) p notes))

-- what lives after a note lived before and isn't ended by it, or is begun by it
pub lived :
    (notes : List StoreNote) (n : StoreNote) (t : ℕ) → is_live (notes ++ n ∷ []) t ≡ true
    → ((is_live notes t ≡ true) × (ends t n ≡ false)) ⊎ (begins t n ≡ true)
lived notes n t h =
    let parts = and_parts _ _ (rw (live-is (notes ++ n ∷ []) t, list_any-push (ends t) notes n, list_any-push (begins t) notes n) at h) in
    let unended = or_parts _ _ (not-true _ parts.0) in
    ⊎_elim (λ old. inl (rw (live-is notes t) (and_from _ _ (not_from_false _ unended.0) old), unended.1)) (λ new. inr new) (or_cases _ _ parts.1)

-- what lives after a note and has work lived before
pub lived_with_work :
    (notes : List StoreNote) (n : StoreNote) → Sound notes n → (p : StoreNote → Bool) (t : ℕ) → is_live (notes ++ n ∷ []) t ≡ true
    → list_any p (work (notes ++ n ∷ []) t) ≡ true → (is_live notes t ≡ true) × (ends t n ≡ false)
lived_with_work notes n sound p t h some = ⊎_elim (λ old. old) (λ new. absurd (none new)) (lived notes n t h)
  where
    none : begins t n ≡ true → ⊥
    none new =
        let empty = work_same notes n t (begins_no_work n t new t) ∙ no_work notes t (sound.fresh t new) in
        false≢true (rw empty at some)

-- ---- who holds a row

takes-is : (t k : ℕ) (n : StoreNote) → takes t k n ≡ (works t n && reaches k n)
takes-is t k (StoreNote.Access u a r) = grind arith
takes-is t k (StoreNote.Auto a r) = refl
takes-is t k (StoreNote.Begin u) = refl
takes-is t k (StoreNote.Commit u m) = refl
takes-is t k (StoreNote.Rollback u) = refl
takes-is t k (StoreNote.Point u) = grind arith
takes-is t k (StoreNote.BackTo u) = grind arith
takes-is t k (StoreNote.Release u) = grind arith

-- the holders of a row are the live transactions whose work reaches it
holds-is : (notes : List StoreNote) (k t : ℕ) → contains (holders notes k) t ≡ (list_any (reaches k) (work notes t) && is_live notes t)
holds-is notes k t =
    contains-filter (λ t. list_any (takes t k) notes) (live notes) t
    ∙ ap (λ b. b && is_live notes t) (any-same (takes t k) _ (takes-is t k) notes ∙ sym (any-filter (works t) (reaches k) notes))

-- where nobody is in the way of a caller, whoever reaches the row is the caller
pub free_row :
    (facts : StoreFacts) (notes : List StoreNote) (caller : Option ℕ) (a : Access) → conflicts facts notes caller a ≡ [] → (u : ℕ) → is_live notes u ≡ true
    → list_any (reaches (row_of a)) (work notes u) ≡ true → is_caller caller u ≡ true
free_row facts notes caller a free u live reached =
    let none = ap (λ others. contains others u) free in
    let parts = rw (contains-filter (λ t. not (is_caller caller t)) (holders notes (row_of a)) u, holds-is notes (row_of a) u, live, reached) at none in
    grind arith

-- ---- what is written by one live transaction is reached by no other

abbrev pub Locked : List StoreNote → Type 0
Locked notes =
    (t u k : ℕ) → is_live notes t ≡ true → is_live notes u ≡ true
    → list_any (writes k) (work notes t) ≡ true → list_any (reaches k) (work notes u) ≡ true → t ≡ u

-- the note is no write of a row that another live transaction has reached, and no access to one that another has written
pub record Granted (notes : List StoreNote) (n : StoreNote) : Type 0 where
  pub written :
      (t u k : ℕ) → works t n ≡ true → writes k n ≡ true → is_live notes u ≡ true → list_any (reaches k) (work notes u) ≡ true → t ≡ u
  pub reached :
      (t u k : ℕ) → works t n ≡ true → reaches k n ≡ true → is_live notes u ≡ true → list_any (writes k) (work notes u) ≡ true → u ≡ t

-- an answer that isn't busy is what the access finds, and then nobody is in the way
pub not_busy : (others : List ℕ) (found r : Answer) → busy_or (smallest others) found ≡ r → is_busy r ≡ false → (others ≡ []) × (found ≡ r)
not_busy [] found r same free = (refl, same)
not_busy (t ∷ others) found r same free = absurd (true≢false (ap is_busy same ∙ free))

pub access_reply :
    (facts : StoreFacts) (before : List StoreEntry) (t : ℕ) (a : Access) (r : Answer)
    → store_reply facts before (store_want (StoreNote.Access t a r)) ≡ Some (StoreNote.Access t a r) → access_answer facts before t a ≡ r
unfolding store_reply
access_reply facts before t a r reply = answered _ reply
  where
    answered : (x : Answer) → ◌≡◌ {A = Option StoreNote} (Some (StoreNote.Access t a x)) (Some (StoreNote.Access t a r)) → x ≡ r
    answered x e = cc

pub auto_reply :
    (facts : StoreFacts) (before : List StoreEntry) (a : Access) (r : Answer)
    → store_reply facts before (store_want (StoreNote.Auto a r)) ≡ Some (StoreNote.Auto a r) → auto_answer facts before a ≡ r
unfolding store_reply
auto_reply facts before a r reply = answered _ reply
  where
    answered : (x : Answer) → ◌≡◌ {A = Option StoreNote} (Some (StoreNote.Auto a x)) (Some (StoreNote.Auto a r)) → x ≡ r
    answered x e = cc

-- whoever reaches the row of an access that works is its own transaction
alone_there :
    (facts : StoreFacts) (before : List StoreEntry) (s : ℕ) (a : Access) (r : Answer) → access_answer facts before s a ≡ r → (t u k : ℕ)
    → ((s == t) && not (is_busy r)) ≡ true → (row_of a == k) ≡ true → is_live (store_notes before) u ≡ true
    → list_any (reaches k) (work (store_notes before) u) ≡ true → t ≡ u
alone_there facts before s a r reply t u k works here live reached =
    let parts = and_parts _ _ works in
    let free = (not_busy (conflicts facts (store_notes before) (Some s) a) _ r reply (not-true _ parts.1)).0 in
    let row : row_of a ≡ k = eqb-true _ _ here in
    let own = free_row facts (store_notes before) (Some s) a free u live (rw row reached) in
    sym (eqb-true s t parts.0) ∙ sym (eqb-true u s own)

pub granted :
    (facts : StoreFacts) (before : List StoreEntry) (n : StoreNote) → store_reply facts before (store_want n) ≡ Some n
    → Granted (store_notes before) n
granted facts before (StoreNote.Access s a r) reply =
    let given = access_reply facts before s a r reply in record {
      written = λ t u k works here live reached.
          alone_there facts before s a r given t u k works (reaches-since_writes k (StoreNote.Access s a r) here) live reached;
      reached = λ t u k works here live written.
          let there = any_since (writes k) (reaches k) (reaches-since_writes k) (work (store_notes before) u) written in
          sym (alone_there facts before s a r given t u k works here live there);
    }
granted facts before (StoreNote.Auto a r) reply = record {
  written = λ t u k works here live reached. absurd (false≢true works);
  reached = λ t u k works here live written. absurd (false≢true works);
}
granted facts before _ reply = record {
  written = λ t u k works here live reached. absurd (false≢true here);
  reached = λ t u k works here live written. absurd (false≢true here);
}

-- a note is the work of one transaction
one_worker : (n : StoreNote) (t u : ℕ) → works t n ≡ true → works u n ≡ true → t ≡ u
one_worker (StoreNote.Access s a r) t u h g = grind arith
one_worker (StoreNote.Point s) t u h g = grind arith
one_worker (StoreNote.BackTo s) t u h g = grind arith
one_worker (StoreNote.Release s) t u h g = grind arith
one_worker _ t u h g = absurd (false≢true h)

pub locked_push : (notes : List StoreNote) (n : StoreNote) → Locked notes → Sound notes n → Granted notes n → Locked (notes ++ n ∷ [])
locked_push notes n locked sound granted t u k live_t live_u written reached =
    both (or_cases _ _ (rw (any_work_push (writes k) notes n t) at written)) (or_cases _ _ (rw (any_work_push (reaches k) notes n u) at reached))
  where
    lived_t : is_live notes t ≡ true
    lived_t = (lived_with_work notes n sound (writes k) t live_t written).0

    lived_u : is_live notes u ≡ true
    lived_u = (lived_with_work notes n sound (reaches k) u live_u reached).0

    both :
        (list_any (writes k) (work notes t) ≡ true) ⊎ ((works t n && writes k n) ≡ true)
        → (list_any (reaches k) (work notes u) ≡ true) ⊎ ((works u n && reaches k n) ≡ true) → t ≡ u
    both (inl a) (inl b) = locked t u k lived_t lived_u a b
    both (inl a) (inr b) = let parts = and_parts _ _ b in granted.reached u t k parts.0 parts.1 lived_t a
    both (inr a) (inl b) = let parts = and_parts _ _ a in granted.written t u k parts.0 parts.1 lived_u b
    both (inr a) (inr b) = one_worker n t u (and_parts _ _ a).0 (and_parts _ _ b).0

pub no_locks : Locked []
no_locks t u k live_t live_u written reached = absurd (false≢true written)
