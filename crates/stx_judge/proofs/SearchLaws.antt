-- Searches among numbers that go up one by one.
use Rattle.std.proofs.Common.{◌≡◌, ℕ, zero, suc, ◌+◌, ◌<◌, ◌≤◌, Bool, true, false, cond, Some, None, inl, inr, refl, sym, ◌∙◌, ap, subst, arith}
use Rattle.std.specs.List.{find, range_with_len}
use Rattle.std.proofs.lemmas.Bool.{cases_Bool, cases_eq}
use Rattle.std.proofs.lemmas.Option.{none-some}

-- no number in range passes
pub search_none : (test : ℕ → Bool) (a n : ℕ) → ((q : ℕ) → a ≤ q → q < a + n → test q ≡ false) → find test (range_with_len a n) ≡ None
search_none test a zero fails = refl
search_none test a (suc n) fails =
    ap (λ (b : Bool). cond b (Some a) (find test (range_with_len (a + 1) n))) (fails a (omega arith) (omega arith))
    ∙ search_none test (a + 1) n (λ q low high. fails q (omega (arith, low)) (omega (arith, high)))

-- the first that passes is found
pub search_first : (test : ℕ → Bool) (a n m : ℕ) → a ≤ m → m < a + n → test m ≡ true → ((q : ℕ) → q < m → test q ≡ false)
    → find test (range_with_len a n) ≡ Some m
search_first test a zero m low high passed fails = absurd (omega arith)
search_first test a (suc n) m low high passed fails = elim (cases_eq a m) [
  | inl same ↦
      ap (λ (b : Bool). cond b (Some a) (find test (range_with_len (a + 1) n))) (ap test same ∙ passed) ∙ ap (λ (k : ℕ). Some k) same
  | inr other ↦
      ap (λ (b : Bool). cond b (Some a) (find test (range_with_len (a + 1) n))) (fails a (omega arith))
      ∙ search_first test (a + 1) n m (omega arith) (omega arith) passed fails
]

-- what is found is in range, and passes
pub found_within : (test : ℕ → Bool) (a n m : ℕ) → find test (range_with_len a n) ≡ Some m → m < a + n
found_within test a zero m found = absurd (none-some m found)
found_within test a (suc n) m found = elim (cases_Bool (test a)) [
  | inl here ↦
      let e : a ≡ m = cc (found, ap (λ (b : Bool). cond b (Some a) (find test (range_with_len (a + 1) n))) here) in
      omega (arith, e)
  | inr absent ↦
      let later = found_within test (a + 1) n m (ap (λ (b : Bool). cond b (Some a) (find test (range_with_len (a + 1) n))) (sym absent) ∙ found) in
      omega (arith, later)
]

-- where nothing is found, no number in range passes
pub none_passes : (test : ℕ → Bool) (a n q : ℕ) → find test (range_with_len a n) ≡ None → a ≤ q → q < a + n → test q ≡ false
none_passes test a zero q none low high = absurd (omega arith)
none_passes test a (suc n) q none low high = elim (cases_Bool (test a)) [
  | inl here ↦ absurd (none-some a (sym none ∙ ap (λ (b : Bool). cond b (Some a) (find test (range_with_len (a + 1) n))) here))
  | inr absent ↦ elim (cases_eq a q) [
    | inl same ↦ subst (λ (k : ℕ). test k ≡ false) same absent
    | inr other ↦
        none_passes test (a + 1) n q (ap (λ (b : Bool). cond b (Some a) (find test (range_with_len (a + 1) n))) (sym absent) ∙ none) (omega arith) (omega arith)
  ]
]
