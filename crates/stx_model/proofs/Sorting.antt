-- A stable sort by an order value is the order of the definitions: two lists that rise, and hold the same items of each
-- order value in one order, are the same.
use Rattle.std.proofs.Common.{◌&&◌, Less, Equal, Greater, add-one, ◌≡◌, suc, ℤ, Bool, true, false, not, cond, List, [], ◌∷◌, ◌++◌, map, filter, refl, sym, ap, ◌∙◌, arith, inl, inr, is_lt, true≢false}
use Rattle.std.specs.Prelude.{int_lt}
use Rattle.std.specs.List.{fold}
use Rattle.std.specs.Cmp.{IsStrictWeakOrder}
use Rattle.std.specs.Ordering.{int_cmp}
use Rattle.std.specs.List.Sorted.{ties, IsSortedBy, IsSortedByKey, IsStableByKey}
use Rattle.std.proofs.lemmas.Bool.{cond-true, cond-false, cases_Bool}
use Rattle.std.proofs.lemmas.Cmp.{int_cmp_total}
use Rattle.std.proofs.lemmas.List.{append_assoc, append-nil}
use Rattle.std.proofs.lemmas.List.Elements.{filter-append}
use Rattle.std.proofs.lemmas.List.Sorted.{ranks_by}
use Rattle.stx_model.specs.Orders.{inserted, by_order}

filter-kept : {X : Type 0} (p : X → Bool) (y : X) (ys : List X) → p y ≡ true → filter p (y ∷ ys) ≡ y ∷ filter p ys
filter-kept p y ys h = cond-true _ _ _ h

filter-dropped : {X : Type 0} (p : X → Bool) (y : X) (ys : List X) → p y ≡ false → filter p (y ∷ ys) ≡ filter p ys
filter-dropped p y ys h = cond-false _ _ _ h

module _ {X : Type 0} (order : X → ℤ) where
  abbrev lt : X → X → Bool
  lt x y = is_lt (int_cmp (order x) (order y))

  ranks : IsStrictWeakOrder lt
  ranks = ranks_by int_cmp_total order

  tested : (x y : X) → lt x y ≡ int_lt (order x) (order y)
  tested x y = go (int_lt (order x) (order y)) (int_lt (order y) (order x))
    where
      go : (a b : Bool) → is_lt (cond a Less (cond b Greater Equal)) ≡ a
      go true b = refl
      go false true = refl
      go false false = refl

  -- an item goes before the first that is greater
  inserted-before : (x y : X) (ys : List X) → lt x y ≡ true → inserted order (y ∷ ys) x ≡ x ∷ y ∷ ys
  inserted-before x y ys h = rw (sym (tested x y) ∙ h, inserted) refl

  inserted-past : (x y : X) (ys : List X) → lt x y ≡ false → inserted order (y ∷ ys) x ≡ y ∷ inserted order ys x
  inserted-past x y ys h = rw (sym (tested x y) ∙ h, inserted) refl

  itself : (x : X) → lt x x ≡ false
  itself x = elim (cases_Bool (lt x x)) [ inl h ↦ ranks.one_way x x h | inr h ↦ h ]

  abbrev same : X → X → Bool
  same = ties lt

  same-itself : (x : X) → same x x ≡ true
  same-itself x = rw (itself x) refl

  same-from : (x y : X) → lt x y ≡ false → lt y x ≡ false → same x y ≡ true
  same-from x y h k = rw (h, k) refl

  same-left : (x y : X) → same x y ≡ true → lt x y ≡ false
  same-left x y h = go (lt x y) (lt y x) h
    where
      go : (a b : Bool) → (not a && not b) ≡ true → a ≡ false
      go true b e = sym e
      go false b e = refl

  -- none of ys is less than x
  abbrev NoneLess : X → List X → Type 0
  NoneLess x [] = Unit {0}
  NoneLess x (y ∷ ys) = (lt y x ≡ false) × NoneLess x ys

  abbrev Rises : List X → Type 0
  Rises [] = Unit {0}
  Rises (y ∷ ys) = NoneLess y ys × Rises ys

  NoneLess-chain : (x y : X) (zs : List X) → lt y x ≡ false → NoneLess y zs → NoneLess x zs
  NoneLess-chain x y [] le none = tt
  NoneLess-chain x y (z ∷ zs) le none = (ranks.chain z y x none.0 le, NoneLess-chain x y zs le none.1)

  Rises-from_sort : (ys : List X) → IsSortedBy lt ys → Rises ys
  Rises-from_sort [] sorted = tt
  Rises-from_sort (x ∷ []) sorted = (tt, tt)
  Rises-from_sort (x ∷ y ∷ ys) sorted =
      let tail : IsSortedBy lt (y ∷ ys) =
      λ k d p q. rw add-one (rw add-one at (sorted (suc k) d (omega arith) (omega arith))) in
      let up = Rises-from_sort (y ∷ ys) tail in
      let first = sorted 0 x (omega arith) (omega arith) in
      ((first, NoneLess-chain x y ys first up.0), up)

  NoneLess-inserted : (w x : X) (ys : List X) → lt x w ≡ false → NoneLess w ys → NoneLess w (inserted order ys x)
  NoneLess-inserted w x [] le none = (le, tt)
  NoneLess-inserted w x (y ∷ ys) le none =
      elim (cases_Bool (lt x y)) [
        | inl before ↦ rw (inserted-before x y ys before) (le, none)
        | inr past ↦ rw (inserted-past x y ys past) (none.0, NoneLess-inserted w x ys le none.1)
      ]

  Rises-inserted : (x : X) (ys : List X) → Rises ys → Rises (inserted order ys x)
  Rises-inserted x [] up = (tt, tt)
  Rises-inserted x (y ∷ ys) up =
      elim (cases_Bool (lt x y)) [
        | inl before ↦
            let le = ranks.one_way x y before in
            rw (inserted-before x y ys before) ((le, NoneLess-chain x y ys le up.0), up)
        | inr past ↦ rw (inserted-past x y ys past) (NoneLess-inserted y x ys past up.0, Rises-inserted x ys up.1)
      ]

  -- where x is less than y, and none of ys is less than y, none of them ties with what ties with x
  ties-none : (z x y : X) (ys : List X) → same z x ≡ true → lt x y ≡ true → NoneLess y ys → filter (same z) ys ≡ []
  ties-none z x y [] tie less none = refl
  ties-none z x y (w ∷ ws) tie less none =
      elim (cases_Bool (same z w)) [
        | inr apart ↦ filter-dropped (same z) w ws apart ∙ ties-none z x y ws tie less none.1
        | inl with ↦
            -- x is not less than z, z not than w, and w not than y
            let reach = ranks.chain x w y (ranks.chain x z w (same-right z x tie) (same-left z w with)) none.0 in
            absurd (true≢false (sym less ∙ reach))
      ]
    where
      same-right : (a b : X) → same a b ≡ true → lt b a ≡ false
      same-right a b h = go (lt a b) (lt b a) h
        where
          go : (s t : Bool) → (not s && not t) ≡ true → t ≡ false
          go true t e = absurd (true≢false (sym e))
          go false true e = sym e
          go false false e = refl

  -- items that tie keep their order, and a new one comes last of them
  filter-inserted : (z x : X) (ys : List X) → Rises ys → filter (same z) (inserted order ys x) ≡ filter (same z) (ys ++ x ∷ [])
  filter-inserted z x [] up = refl
  filter-inserted z x (y ∷ ys) up =
      elim (cases_Bool (lt x y)) [
        | inr past ↦ ap (filter (same z)) (inserted-past x y ys past) ∙ ap (λ l. cond (same z y) (y ∷ l) l) (filter-inserted z x ys up.1)
        | inl before ↦
            ap (filter (same z)) (inserted-before x y ys before)
            ∙ elim (cases_Bool (same z x)) [
              | inr apart ↦
                  filter-dropped (same z) x (y ∷ ys) apart ∙ sym (append-nil _)
                  ∙ ap (λ l. filter (same z) (y ∷ ys) ++ l) (sym (filter-dropped (same z) x [] apart))
                  ∙ sym (filter-append (same z) (y ∷ ys) (x ∷ []))
              | inl with ↦
                  let none = ties-none z x y (y ∷ ys) with before (itself y, up.0) in
                  filter-kept (same z) x (y ∷ ys) with ∙ ap (λ l. x ∷ l) none
                  ∙ sym (filter-append (same z) (y ∷ ys) (x ∷ []) ∙ ap (λ l. l ++ filter (same z) (x ∷ [])) none ∙ filter-kept (same z) x [] with)
            ]
      ]

  Rises-fold : (done xs : List X) → Rises done → Rises (fold (inserted order) done xs)
  Rises-fold done [] up = up
  Rises-fold done (x ∷ xs) up = Rises-fold (inserted order done x) xs (Rises-inserted x done up)

  filter-fold : (z : X) (done xs : List X) → Rises done → filter (same z) (fold (inserted order) done xs) ≡ filter (same z) (done ++ xs)
  filter-fold z done [] up = ap (filter (same z)) (sym (append-nil done))
  filter-fold z done (x ∷ xs) up =
      filter-fold z (inserted order done x) xs (Rises-inserted x done up)
      ∙ filter-append (same z) (inserted order done x) xs
      ∙ ap (λ l. l ++ filter (same z) xs) (filter-inserted z x done up)
      ∙ sym (filter-append (same z) (done ++ x ∷ []) xs)
      ∙ ap (filter (same z)) (append_assoc done (x ∷ []) xs)

  -- what ties with x is among ys, none of which is less than w
  NoneLess-found : (w x : X) (ys : List X) (v : X) (vs : List X) → NoneLess w ys → filter (same x) ys ≡ v ∷ vs → lt x w ≡ false
  NoneLess-found w x [] v vs none e = cc
  NoneLess-found w x (y ∷ ys) v vs none e =
      elim (cases_Bool (same x y)) [
        | inl with ↦ ranks.chain x y w (same-left x y with) none.0
        | inr apart ↦ NoneLess-found w x ys v vs none.1 (sym (filter-dropped (same x) y ys apart) ∙ e)
      ]

  same_from_ties : (ys zs : List X) → Rises ys → Rises zs → ((x : X) → filter (same x) ys ≡ filter (same x) zs) → ys ≡ zs
  same_from_ties [] [] left right agree = refl
  same_from_ties [] (z ∷ zs) left right agree =
      let clash = agree z ∙ filter-kept (same z) z zs (same-itself z) in cc
  same_from_ties (y ∷ ys) [] left right agree =
      let clash = sym (agree y) ∙ filter-kept (same y) y ys (same-itself y) in cc
  same_from_ties (y ∷ ys) (z ∷ zs) left right agree =
      let at_y = filter-kept (same y) y ys (same-itself y) in
      let at_z = filter-kept (same z) z zs (same-itself z) in
      let up = NoneLess-found z y (z ∷ zs) y _ (itself z, right.0) (sym (agree y) ∙ at_y) in
      let down = NoneLess-found y z (y ∷ ys) z _ (itself y, left.0) (agree z ∙ at_z) in
      let heads = sym at_y ∙ agree y ∙ filter-kept (same y) z zs (same-from y z up down) in
      let head : y ≡ z = cc in
      let tails : (x : X) → filter (same x) ys ≡ filter (same x) zs =
      λ x. elim (cases_Bool (same x y)) [
        | inl with ↦
            let both = sym (filter-kept (same x) y ys with) ∙ agree x ∙ filter-kept (same x) z zs (ap (same x) (sym head) ∙ with) in cc
        | inr apart ↦
            sym (filter-dropped (same x) y ys apart) ∙ agree x ∙ filter-dropped (same x) z zs (ap (same x) (sym head) ∙ apart)
      ] in
      ap (λ w. w ∷ ys) head ∙ ap (λ l. z ∷ l) (same_from_ties ys zs left.1 right.1 tails)

  pub by_order-from_sort : (xs ys : List X) → IsSortedByKey order int_cmp ys → IsStableByKey order int_cmp xs ys → ys ≡ by_order order xs
  by_order-from_sort xs ys sorted stable =
      same_from_ties ys (by_order order xs) (Rises-from_sort ys sorted) (Rises-fold [] xs tt)
      (λ x. stable x ∙ sym (filter-fold x [] xs tt))

inserted-map : {X Y : Type 0} (order : Y → ℤ) (f : X → Y) (ys : List X) (x : X)
    → inserted order (map f ys) (f x) ≡ map f (inserted (λ z. order (f z)) ys x)
inserted-map order f [] x = refl
inserted-map order f (y ∷ ys) x =
    elim (int_lt (order (f x)) (order (f y))) as (λ b.
    elim b [ true ↦ f x ∷ f y ∷ map f ys | false ↦ f y ∷ inserted order (map f ys) (f x) ]
    ≡ map f (elim b [ true ↦ x ∷ y ∷ ys | false ↦ y ∷ inserted (λ z. order (f z)) ys x ])) [
      | true ↦ refl
      | false ↦ ap (λ l. f y ∷ l) (inserted-map order f ys x)
    ]

fold-map : {X Y : Type 0} (order : Y → ℤ) (f : X → Y) (done xs : List X)
    → fold (inserted order) (map f done) (map f xs) ≡ map f (fold (inserted (λ z. order (f z))) done xs)
fold-map order f done [] = refl
fold-map order f done (x ∷ xs) =
    ap (λ l. fold (inserted order) l (map f xs)) (inserted-map order f done x)
    ∙ fold-map order f (inserted (λ z. order (f z)) done x) xs

-- items are ordered by what they stand for
pub by_order-map : {X Y : Type 0} (order : Y → ℤ) (f : X → Y) (xs : List X) → by_order order (map f xs) ≡ map f (by_order (λ x. order (f x)) xs)
by_order-map order f xs = fold-map order f [] xs
