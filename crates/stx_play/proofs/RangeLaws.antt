-- Lists of what each number below a bound has.
use Rattle.std.proofs.Common.{◌≡◌, ℕ, zero, suc, ◌+◌, ◌<◌, ◌≤◌, ◌++◌, ◌∷◌, [], map, refl, sym, ap, ◌∙◌, arith, add-one}
use Rattle.std.specs.Prelude.{slice_set}
use Rattle.std.specs.List.{range_with_len}

module _ {X : Type 0} where
  push_from : (f : ℕ → X) (a n : ℕ) → map f (range_with_len a (suc n)) ≡ map f (range_with_len a n) ++ f (a + n) ∷ []
  push_from f a zero = ap (λ k. f k ∷ []) (omega arith)
  push_from f a (suc n) = ap (λ xs. f a ∷ xs) (push_from f (a + 1) n ∙ ap (λ k. map f (range_with_len (a + 1) n) ++ f k ∷ []) (omega arith))

  pub push_range : (f : ℕ → X) (n : ℕ) → map f (range_with_len 0 (n + 1)) ≡ map f (range_with_len 0 n) ++ f n ∷ []
  push_range f n =
      let here : 0 + n ≡ n = omega arith in
      ap (λ k. map f (range_with_len 0 k)) (add-one n) ∙ push_from f 0 n ∙ ap (λ k. map f (range_with_len 0 n) ++ f k ∷ []) here

  same_from : (f g : ℕ → X) (a n : ℕ) → ((j : ℕ) → a ≤ j → g j ≡ f j) → map f (range_with_len a n) ≡ map g (range_with_len a n)
  same_from f g a zero same = refl
  same_from f g a (suc n) same = λ i. sym (same a (omega arith)) i ∷ same_from f g (a + 1) n (λ j later. same j (omega (arith, later))) i

  set_from : (f g : ℕ → X) (a n i : ℕ) → i < n → ((j : ℕ) → (j ≡ a + i → ⊥) → g j ≡ f j) → slice_set (map f (range_with_len a n)) i (g (a + i)) ≡ map g (range_with_len a n)
  set_from f g a zero i below others = absurd (omega (arith, below))
  set_from f g a (suc n) zero below others =
      let here : a + 0 ≡ a = omega arith in
      λ i. g (here i) ∷ same_from f g (a + 1) n (λ j later. others j (λ is. omega (arith, later, is))) i
  set_from f g a (suc n) (suc i) below others =
      let there : a + suc i ≡ (a + 1) + i = omega arith in
      let first : f a ≡ g a = sym (others a (λ is. omega (arith, is))) in
      λ k. first k ∷ (ap (λ m. slice_set (map f (range_with_len (a + 1) n)) i (g m)) there ∙ set_from f g (a + 1) n i (omega (arith, below)) (λ j differs. others j (λ is. differs (is ∙ there)))) k

  pub set_range : (f g : ℕ → X) (n i : ℕ) → i < n → ((j : ℕ) → (j ≡ i → ⊥) → g j ≡ f j) → slice_set (map f (range_with_len 0 n)) i (g i) ≡ map g (range_with_len 0 n)
  set_range f g n i below others =
      let here : 0 + i ≡ i = omega arith in
      ap (λ m. slice_set (map f (range_with_len 0 n)) i (g m)) (sym here) ∙ set_from f g 0 n i below (λ j differs. others j (λ is. differs (is ∙ sym here)))
