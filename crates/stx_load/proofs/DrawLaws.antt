-- Draws one after the other, and lists of what they give.
use Rattle.std.proofs.Common.{◌≡◌, ℕ, zero, suc, ◌+◌, ◌*◌, List, [], ◌∷◌, ◌++◌, map, refl, sym, ap, ◌∙◌, arith}
use Rattle.std.specs.List.{range_with_len}
use Rattle.std.proofs.lemmas.List.FromFn.{map-range_with_len_more}
use Rattle.stx_load.specs.Draws.{next_state, after}

-- ---- states

-- some draws, and then some more, are all of them
pub after_more : (x a b : ℕ) → after (after x a) b ≡ after x (a + b)
unfolding after
after_more x a zero = let same : a ≡ a + 0 = omega arith in ap (after x) same
after_more x a (suc b) =
    let same : suc (a + b) ≡ a + suc b = omega arith in
    ap next_state (after_more x a b) ∙ ap (after x) same

pub after_none : (x : ℕ) → x ≡ after x 0
unfolding after
after_none x = refl

pub after_one : (x a : ℕ) → next_state (after x a) ≡ after x (a + 1)
unfolding after
after_one x a = let same : suc a ≡ a + 1 = omega arith in ap (after x) same

-- one more group of so many draws
pub after_group : (x s size n : ℕ) → s ≡ after x (size * n) → after s size ≡ after x (size * (n + 1))
after_group x s size n at =
    let same : size * n + size ≡ size * (n + 1) = grind arith in
    ap (λ from. after from size) at ∙ after_more x (size * n) size ∙ ap (after x) same

pub next_one : (x s n : ℕ) → s ≡ after x n → next_state s ≡ after x (n + 1)
next_one x s n at = ap next_state at ∙ after_one x n

-- ---- lists

pub map_alike : {X : Type 0} (f g : ℕ → X) → ((n : ℕ) → f n ≡ g n) → (ns : List ℕ) → map f ns ≡ map g ns
map_alike f g alike [] = refl
map_alike f g alike (n ∷ ns) = ap (λ first. first ∷ map f ns) (alike n) ∙ ap (λ rest. g n ∷ rest) (map_alike f g alike ns)

-- a list of what a function gives of each number below n, with one more
pub grown : {X : Type 0} (f : ℕ → X) (xs : List X) (n : ℕ) (x : X) → xs ≡ map f (range_with_len 0 n) → x ≡ f n
    → xs ++ x ∷ [] ≡ map f (range_with_len 0 (n + 1))
grown f xs n x so_far one =
    ap (λ all. all ++ x ∷ []) so_far ∙ ap (λ last. map f (range_with_len 0 n) ++ last ∷ []) one
    ∙ sym (map-range_with_len_more f 0 n n (omega arith))

-- so a loop goes on that makes an item of each number, and has drawn so often by each
pub one_more : {X : Type 0} (f : ℕ → X) (x : ℕ) (drawn : ℕ → ℕ) (n : ℕ) {xs longer : List X} {item : X} {s s' : ℕ}
    → (xs ≡ map f (range_with_len 0 n)) × (s ≡ after x (drawn n)) → longer ≡ xs ++ item ∷ []
    → (s ≡ after x (drawn n) → item ≡ f n) → (s ≡ after x (drawn n) → s' ≡ after x (drawn (n + 1)))
    → (longer ≡ map f (range_with_len 0 (n + 1))) × (s' ≡ after x (drawn (n + 1)))
one_more f x drawn n so_far pushed made moved = (pushed ∙ grown f _ n _ so_far.0 (made so_far.1), moved so_far.1)
