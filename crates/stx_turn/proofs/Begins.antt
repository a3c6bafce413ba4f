-- Histories that grow by an entry, and lists that are read by place.
use Rattle.std.proofs.Common.{◌≡◌, ◌≢◌, ℕ, zero, suc, ◌==◌, cond, List, [], ◌∷◌, ◌++◌, length, map, set, eq-eqb, ne_eqb, refl, sym, ap, ◌∙◌, subst, inl, inr, ◌⊎◌, arith}
use Rattle.std.specs.Prelude.{All}
use Rattle.std.proofs.lemmas.List.{append-nil, append_assoc}
use Rattle.std.proofs.lemmas.List.Elements.{filter-append}
use mathlib.Core.Option.{some, some-injective, some-ne-none}
use lib.ListN.{get_elem?}
use Rattle.stx_turn.specs.Histories.{made_by, StartsWith}

module _ {E : Type 0} where
  pub starts_whole : (history seen : List E) → seen ≡ history → StartsWith history seen
  starts_whole history seen e = ([], sym e ∙ sym (append-nil seen))

  pub starts_more : (history seen more : List E) → StartsWith history seen → StartsWith (history ++ more) seen
  starts_more history seen more w = (w.0 ++ more, ap (λ l. l ++ more) w.1 ∙ append_assoc seen w.0 more)

  pub made_by-own : (maker : E → ℕ) (n : ℕ) (history : List E) (e : E) → maker e ≡ n → made_by maker n (history ++ e ∷ []) ≡ made_by maker n history ++ e ∷ []
  made_by-own maker n history e own = filter-append (λ x. maker x == n) history (e ∷ []) ∙ ap (λ b. made_by maker n history ++ cond b (e ∷ []) []) (eq-eqb (maker e) n own)

  pub made_by-other : (maker : E → ℕ) (n : ℕ) (history : List E) (e : E) → maker e ≢ n → made_by maker n (history ++ e ∷ []) ≡ made_by maker n history
  made_by-other maker n history e other = filter-append (λ x. maker x == n) history (e ∷ []) ∙ (ap (λ b. made_by maker n history ++ cond b (e ∷ []) []) (ne_eqb (maker e) n other) ∙ append-nil (made_by maker n history))

module _ {A : Type 0} where
  pub here_set : (l : List A) (i : ℕ) (a b : A) → get_elem? l i ≡ some b → get_elem? (set l i a) i ≡ some a
  here_set [] i a b e = absurd (some-ne-none b (sym e))
  here_set (x ∷ xs) zero a b e = refl
  here_set (x ∷ xs) (suc i) a b e = here_set xs i a b e

  -- the item at a place of a list with one more item
  pub at_end : (l : List A) (a b : A) (j : ℕ) → get_elem? (l ++ a ∷ []) j ≡ some b → (get_elem? l j ≡ some b) ⊎ ((j ≡ length l) × (a ≡ b))
  at_end [] a b zero e = inr (refl, some-injective a b e)
  at_end [] a b (suc j) e = absurd (some-ne-none b (sym e))
  at_end (x ∷ xs) a b zero e = inl e
  at_end (x ∷ xs) a b (suc j) e = elim (at_end xs a b j e) [ inl t ↦ inl t | inr t ↦ inr (ap suc t.0, t.1) ]

  pub at_unmap : {B : Type 0} (f : A → B) (l : List A) (i : ℕ) (b : B) → get_elem? (map f l) i ≡ some b → (a : A) × (get_elem? l i ≡ some a) × (f a ≡ b)
  at_unmap f [] i b e = absurd (some-ne-none b (sym e))
  at_unmap f (x ∷ xs) zero b e = (x, refl, some-injective (f x) b e)
  at_unmap f (x ∷ xs) (suc i) b e = at_unmap f xs i b e

  pub all_at : (P : A → Type 0) (l : List A) (i : ℕ) (a : A) → All P l → get_elem? l i ≡ some a → P a
  all_at P [] i a all e = absurd (some-ne-none a (sym e))
  all_at P (x ∷ xs) zero a all e = subst P (some-injective x a e) (all 0 x (omega arith))
  all_at P (x ∷ xs) (suc i) a all e = all_at P xs i a (λ k d below. all (suc k) d (omega arith)) e
