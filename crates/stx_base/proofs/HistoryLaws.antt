-- How a history's notes grow by an entry: those of all clients, those of one, who lives, and the savepoints.
use Rattle.std.proofs.Common.{All, map, length, ◌≡◌, ◌≢◌, ℕ, zero, suc, ◌+◌, ◌*◌, ◌<◌, ◌≤◌, Bool, true, false, not, ◌&&◌, ◌||◌, ◌==◌, cond, List, [], ◌∷◌, ◌++◌, filter, refl, sym, ap, ◌∙◌, subst, append-nil, inl, inr, arith, eq-eqb, ne_eqb, eqb-true}
use Rattle.std.specs.List.{list_any}
use Rattle.std.proofs.lemmas.Bool.{false≢true, cases_eq}
use Rattle.std.proofs.lemmas.List.{map-append}
use Rattle.std.proofs.lemmas.List.Elements.{All-head, All-tail, filter-append, filter_map-append}
use Rattle.std.proofs.lemmas.List.Folds.{list_any-append}
use Rattle.std.proofs.lemmas.List.Sums.{fold-append}
use Rattle.stx_base.specs.declared.history.PoolEntry.{PoolEntry}
use Rattle.stx_base.specs.declared.history.StoreNote.{StoreNote}
use Rattle.stx_base.specs.declared.history.StoreEntry.{StoreEntry}
pub use Rattle.stx_base.specs.Histories.{sum_below}
use Rattle.stx_base.specs.Histories.{pool_notes_of, store_notes, store_notes_of}
use Rattle.stx_base.specs.Pools.{contains}
use Rattle.stx_base.specs.Stores.{begun, ends, is_live, works, work, pointed, savepoints}

-- ---- tests

pub or-false : (b : Bool) → (b || false) ≡ b
or-false true = refl
or-false false = refl

pub or_none : (a b : Bool) → (a || b) ≡ false → (a ≡ false) × (b ≡ false)
or_none true b h = absurd (false≢true (sym h))
or_none false b h = (refl, h)

any_kept : {X : Type 0} (q : X → Bool) (b : Bool) (x : X) (xs : List X) → list_any q (cond b (x ∷ xs) xs) ≡ ((b && q x) || list_any q xs)
any_kept q true x xs = refl
any_kept q false x xs = refl

same_test : (c p : Bool) → ((p && true) || (c && p)) ≡ p
same_test true true = refl
same_test true false = refl
same_test false true = refl
same_test false false = refl

kept_test : (px xt c pt : Bool) → (xt ≡ true → px ≡ pt) → ((px && xt) || (c && pt)) ≡ ((xt || c) && pt)
kept_test px true c pt same = subst (λ b. ((b && true) || (c && pt)) ≡ pt) (sym (same refl)) (same_test c pt)
kept_test true false c pt same = refl
kept_test false false c pt same = refl

-- a number stands among those that pass a test if it stands there and passes
pub contains-filter : (p : ℕ → Bool) (xs : List ℕ) (t : ℕ) → contains (filter p xs) t ≡ (contains xs t && p t)
contains-filter p [] t = refl
contains-filter p (x ∷ xs) t =
    any_kept (λ m. m == t) (p x) x (filter p xs)
    ∙ ap (λ b. (p x && (x == t)) || b) (contains-filter p xs t)
    ∙ kept_test (p x) (x == t) (contains xs t) (p t) (λ h. ap p (eqb-true x t h))

-- ---- the notes of all clients

pub store_notes-push : (H : List StoreEntry) (e : StoreEntry) → store_notes (H ++ e ∷ []) ≡ store_notes H ++ e.note ∷ []
store_notes-push H e = map-append (λ x. x.note) H (e ∷ [])

pub begun-push : (ns : List StoreNote) (n : StoreNote) → begun (ns ++ n ∷ []) ≡ begun ns ++ begun (n ∷ [])
begun-push ns n = filter_map-append _ ns (n ∷ [])

pub list_any-push : {X : Type 0} (p : X → Bool) (xs : List X) (x : X) → list_any p (xs ++ x ∷ []) ≡ (list_any p xs || p x)
list_any-push p xs x = list_any-append p xs (x ∷ []) ∙ ap (λ b. list_any p xs || b) (or-false (p x))

-- a transaction lives if it was begun and hasn't ended
pub is_live-parts : (ns : List StoreNote) (t : ℕ) → is_live ns t ≡ (contains (begun ns) t && not (list_any (ends t) ns))
is_live-parts ns t = contains-filter (λ u. not (list_any (ends u) ns)) (begun ns) t

pub is_live-push : (ns : List StoreNote) (n : StoreNote) (t : ℕ)
    → is_live (ns ++ n ∷ []) t ≡ ((contains (begun ns) t || contains (begun (n ∷ [])) t) && not (list_any (ends t) ns || ends t n))
is_live-push ns n t =
    is_live-parts (ns ++ n ∷ []) t
    ∙ ap (λ us. contains us t && not (list_any (ends t) (ns ++ n ∷ []))) (begun-push ns n)
    ∙ ap (λ b. b && not (list_any (ends t) (ns ++ n ∷ []))) (list_any-append (λ m. m == t) (begun ns) (begun (n ∷ [])))
    ∙ ap (λ b. (contains (begun ns) t || contains (begun (n ∷ [])) t) && not b) (list_any-push (ends t) ns n)

pub savepoints-push : (ns : List StoreNote) (n : StoreNote) (t : ℕ) → savepoints (ns ++ n ∷ []) t ≡ pointed t (savepoints ns t) n
savepoints-push ns n t = fold-append (pointed t) [] ns (n ∷ [])

-- the work of a transaction, and one note more
pub work_more : (notes : List StoreNote) (n : StoreNote) (t : ℕ) → works t n ≡ true → work (notes ++ n ∷ []) t ≡ work notes t ++ n ∷ []
work_more notes n t h = filter-append (works t) notes (n ∷ []) ∙ ap (λ b. work notes t ++ cond b (n ∷ []) []) h

pub work_same : (notes : List StoreNote) (n : StoreNote) (t : ℕ) → works t n ≡ false → work (notes ++ n ∷ []) t ≡ work notes t
work_same notes n t h = filter-append (works t) notes (n ∷ []) ∙ ap (λ b. work notes t ++ cond b (n ∷ []) []) h ∙ append-nil (work notes t)

-- ---- the notes of one client

-- what one client made, of any list of entries with their clients
abbrev pub made : {E N : Type 0} → (E → ℕ) → (E → N) → List E → ℕ → List N
made client note H c = map note (filter (λ e. client e == c) H)

made_if : {E N : Type 0} (client : E → ℕ) (note : E → N) (H : List E) (e : E) (c : ℕ)
    → made client note (H ++ e ∷ []) c ≡ map note (filter (λ x. client x == c) H ++ cond (client e == c) (e ∷ []) [])
made_if client note H e c = ap (map note) (filter-append (λ x. client x == c) H (e ∷ []))

pub made-push : {E N : Type 0} (client : E → ℕ) (note : E → N) (H : List E) (e : E) (c : ℕ) → client e ≡ c → made client note (H ++ e ∷ []) c ≡ made client note H c ++ note e ∷ []
made-push client note H e c is =
    made_if client note H e c
    ∙ ap (λ b. map note (filter (λ x. client x == c) H ++ cond b (e ∷ []) [])) (eq-eqb (client e) c is)
    ∙ map-append note (filter (λ x. client x == c) H) (e ∷ [])

pub made-push_other : {E N : Type 0} (client : E → ℕ) (note : E → N) (H : List E) (e : E) (c : ℕ) → client e ≢ c → made client note (H ++ e ∷ []) c ≡ made client note H c
made-push_other client note H e c differs =
    made_if client note H e c
    ∙ ap (λ b. map note (filter (λ x. client x == c) H ++ cond b (e ∷ []) [])) (ne_eqb (client e) c differs)
    ∙ map-append note (filter (λ x. client x == c) H) []
    ∙ append-nil (made client note H c)

pub store_notes_of-push : (H : List StoreEntry) (e : StoreEntry) (c : ℕ) → e.client ≡ c → store_notes_of (H ++ e ∷ []) c ≡ store_notes_of H c ++ e.note ∷ []
store_notes_of-push H e c is = made-push (λ x. x.client) (λ x. x.note) H e c is

pub store_notes_of-push_other : (H : List StoreEntry) (e : StoreEntry) (c : ℕ) → e.client ≢ c → store_notes_of (H ++ e ∷ []) c ≡ store_notes_of H c
store_notes_of-push_other H e c differs = made-push_other (λ x. x.client) (λ x. x.note) H e c differs

pub pool_notes_of-push : (H : List PoolEntry) (e : PoolEntry) (c : ℕ) → e.client ≡ c → pool_notes_of (H ++ e ∷ []) c ≡ pool_notes_of H c ++ e.note ∷ []
pool_notes_of-push H e c is = made-push (λ x. x.client) (λ x. x.note) H e c is

pub pool_notes_of-push_other : (H : List PoolEntry) (e : PoolEntry) (c : ℕ) → e.client ≢ c → pool_notes_of (H ++ e ∷ []) c ≡ pool_notes_of H c
pool_notes_of-push_other H e c differs = made-push_other (λ x. x.client) (λ x. x.note) H e c differs

-- what no note passes no note of one client passes
pub none_of : (p : StoreNote → Bool) (H : List StoreEntry) (c : ℕ) → list_any p (store_notes H) ≡ false → list_any p (store_notes_of H c) ≡ false
none_of p [] c h = refl
none_of p (e ∷ H) c h =
    let parts = or_none (p e.note) (list_any p (store_notes H)) h in
    let rest = none_of p H c parts.1 in
    elim (e.client == c) as (λ b. list_any p (store_notes (cond b (e ∷ filter (λ x. x.client == c) H) (filter (λ x. x.client == c) H))) ≡ false) [
      | true ↦ ap (λ b. b || list_any p (store_notes_of H c)) parts.0 ∙ rest
      | false ↦ rest
    ]

-- ---- sums over the numbers below a bound

pub sum_below-same : (n : ℕ) (f g : ℕ → ℕ) → ((i : ℕ) → i < n → g i ≡ f i) → sum_below n g ≡ sum_below n f
sum_below-same zero f g same = refl
sum_below-same (suc n) f g same =
    let rest : sum_below n g ≡ sum_below n f = sum_below-same n f g (λ i h. same i (omega arith)) in
    let last : g n ≡ f n = same n (omega arith) in
    cc

-- two that agree but at one place
pub sum_below-at : (n : ℕ) (f g : ℕ → ℕ) (c : ℕ) → c < n → ((i : ℕ) → i ≢ c → g i ≡ f i) → sum_below n g + f c ≡ sum_below n f + g c
sum_below-at zero f g c h same = absurd (omega arith)
sum_below-at (suc n) f g c h same = elim (cases_eq n c) [
  | inl e ↦
      let rest : sum_below n g ≡ sum_below n f = sum_below-same n f g (λ i l. same i (omega arith)) in
      let here : g n ≡ g c = ap g e in
      let there : f n ≡ f c = ap f e in
      omega arith
  | inr ne ↦
      let rest : sum_below n g + f c ≡ sum_below n f + g c = sum_below-at n f g c (omega arith) same in
      let last : g n ≡ f n = same n ne in
      omega arith
]

sum_below-none : (n : ℕ) → sum_below n (λ c. 0) ≡ 0
sum_below-none zero = refl
sum_below-none (suc n) = let rest : sum_below n (λ c. 0) ≡ 0 = sum_below-none n in omega arith

pub sum_below-le : (n b : ℕ) (f : ℕ → ℕ) → ((i : ℕ) → i < n → f i ≤ b) → sum_below n f ≤ n * b
sum_below-le zero b f each = omega arith
sum_below-le (suc n) b f each =
    let rest : sum_below n f ≤ n * b = sum_below-le n b f (λ i h. each i (omega arith)) in
    let last : f n ≤ b = each n (omega arith) in
    omega arith

-- the clients below a count together made the whole, where all entries are of such
pub length-made : {E N : Type 0} (client : E → ℕ) (note : E → N) (n : ℕ) (H : List E) → All (λ e. client e < n) H → length H ≡ sum_below n (λ c. length (made client note H c))
length-made client note n [] all = sym (sum_below-none n)
length-made client note n (e ∷ H) all =
    let below : client e < n = All-head (λ x. client x < n) e H all in
    let rest : length H ≡ sum_below n (λ c. length (made client note H c)) = length-made client note n H (All-tail (λ x. client x < n) e H all) in
    let here : length (made client note (e ∷ H) (client e)) ≡ suc (length (made client note H (client e))) = ap (λ b. length (map note (cond b (e ∷ filter (λ x. client x == client e) H) (filter (λ x. client x == client e) H)))) (eq-eqb (client e) (client e) refl) in
    let others : (c : ℕ) → c ≢ client e → length (made client note (e ∷ H) c) ≡ length (made client note H c) =
    λ c differs. ap (λ b. length (map note (cond b (e ∷ filter (λ x. client x == c) H) (filter (λ x. client x == c) H)))) (ne_eqb (client e) c (λ same. differs (sym same))) in
    let sums = sum_below-at n (λ c. length (made client note H c)) (λ c. length (made client note (e ∷ H) c)) (client e) below others in
    omega arith
