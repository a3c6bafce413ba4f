-- The innermost scope, by its place.
use Rattle.std.proofs.Common.{◌≡◌, ℕ, zero, suc, ◌<◌, true, false, List, [], ◌∷◌, length, drop, get_or, set, Option, Some, None, refl, ap, ◌∙◌, arith}
use Rattle.std.specs.Option.{is_some, option_or}
use Rattle.stx_frames.specs.declared.frame.Frame.{Frame}
use Rattle.stx_frames.specs.Stacks.{scope_of, with_scope, innermost, with_innermost}

or-some : {X : Type 0} (x y : Option X) → is_some x ≡ true → option_or x y ≡ x
or-some (Some x) y h = refl
or-some None y h = cc

module _ {S : Type 0} where
  pub innermost-at : (fs : List (Frame S)) (i : ℕ) (d : Frame S) → i < length fs → is_some (scope_of (get_or fs i d)) ≡ true
      → innermost (drop (suc i) fs) ≡ None → innermost fs ≡ scope_of (get_or fs i d)
  innermost-at [] i d within scoped last = absurd (omega (arith, within))
  innermost-at (f ∷ fs) zero d within scoped last = ap (λ s. option_or s (scope_of f)) last
  innermost-at (f ∷ fs) (suc i) d within scoped last =
      let inside = innermost-at fs i d (omega (arith, within)) scoped last in
      or-some (innermost fs) (scope_of f) (ap is_some inside ∙ scoped) ∙ inside

  pub with_innermost-at : (fs : List (Frame S)) (i : ℕ) (d : Frame S) (w : S) → i < length fs → is_some (scope_of (get_or fs i d)) ≡ true
      → innermost (drop (suc i) fs) ≡ None → with_innermost fs w ≡ set fs i (with_scope (get_or fs i d) w)
  with_innermost-at [] i d w within scoped last = absurd (omega (arith, within))
  with_innermost-at (f ∷ fs) zero d w within scoped last =
      ap (λ b. elim b [ true ↦ f ∷ with_innermost fs w | false ↦ with_scope f w ∷ fs ]) (ap is_some last)
  with_innermost-at (f ∷ fs) (suc i) d w within scoped last =
      let inside = innermost-at fs i d (omega (arith, within)) scoped last in
      ap (λ b. elim b [ true ↦ f ∷ with_innermost fs w | false ↦ with_scope f w ∷ fs ]) (ap is_some inside ∙ scoped)
      ∙ ap (λ l. f ∷ l) (with_innermost-at fs i d w (omega (arith, within)) scoped last)
