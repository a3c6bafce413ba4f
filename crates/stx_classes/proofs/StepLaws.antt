-- A walk up the tree: how many steps are left after some.
use Rattle.std.proofs.Common.{◌≡◌, ℕ, suc, ◌+◌, ◌-◌, ◌<◌, ◌≤◌, Bool, true, false, Option, Some, None, refl, sym, ap, arith}
use Rattle.std.specs.Option.{option_map}
use Rattle.stx_base.specs.Classes.{Parents, parent_in, one_more, bounded_steps_in}

-- the steps, with those made so far
abbrev pub more_by : ℕ → Option ℕ → Option ℕ
more_by made steps = option_map (λ n. n + made) steps

pub no_more : (steps : Option ℕ) → more_by 0 steps ≡ steps
no_more None = refl
no_more (Some n) = let same : n + 0 ≡ n = omega arith in ap Some same

-- before the first step
pub none_made : (parents : Parents) (wanted : ℕ → Bool) (most a : ℕ)
    → bounded_steps_in most parents wanted a ≡ more_by 0 (bounded_steps_in (most - 0) parents wanted a)
none_made parents wanted most a =
    let all : most - 0 ≡ most = omega arith in
    rw all (sym (no_more _))

one_later : (made : ℕ) (steps : Option ℕ) → more_by made (one_more steps) ≡ more_by (made + 1) steps
one_later made None = refl
one_later made (Some n) = let same : n + 1 + made ≡ n + (made + 1) = omega arith in ap Some same

pub wanted_here : (parents : Parents) (wanted : ℕ → Bool) (made most a : ℕ) → made < most → wanted a ≡ true
    → more_by made (bounded_steps_in (most - made) parents wanted a) ≡ Some made
wanted_here parents wanted made most a left is =
    let more : most - made ≡ suc (most - (made + 1)) = omega arith in
    let same : 0 + made ≡ made = omega arith in
    rw more (rw is (ap Some same))

pub wanted_above : (parents : Parents) (wanted : ℕ → Bool) (made most a b : ℕ) → made < most → wanted a ≡ false → parent_in parents a ≡ Some b
    → more_by made (bounded_steps_in (most - made) parents wanted a) ≡ more_by (made + 1) (bounded_steps_in (most - (made + 1)) parents wanted b)
wanted_above parents wanted made most a b left isn't up =
    let more : most - made ≡ suc (most - (made + 1)) = omega arith in
    rw more (rw isn't (rw up (one_later made _)))

pub wanted_nowhere : (parents : Parents) (wanted : ℕ → Bool) (made most a : ℕ) → made < most → wanted a ≡ false → parent_in parents a ≡ None
    → more_by made (bounded_steps_in (most - made) parents wanted a) ≡ None
wanted_nowhere parents wanted made most a left isn't up =
    let more : most - made ≡ suc (most - (made + 1)) = omega arith in
    rw more (rw isn't (rw up refl))

pub walked_out : (parents : Parents) (wanted : ℕ → Bool) (made most a : ℕ) → most ≤ made
    → more_by made (bounded_steps_in (most - made) parents wanted a) ≡ None
walked_out parents wanted made most a past =
    let none : most - made ≡ 0 = omega arith in
    rw none refl
