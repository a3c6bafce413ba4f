-- A search among numbers that goes up one by one.
use Rattle.std.proofs.Common.{◌≡◌, ℕ, suc, ◌+◌, ◌-◌, ◌<◌, Bool, false, refl, arith}
use Rattle.std.specs.List.{find, range_with_len}

-- where the number doesn't pass, the first that does is a later one
pub not_here : (test : ℕ → Bool) (a n : ℕ) → a < n → test a ≡ false
    → find test (range_with_len a (n - a)) ≡ find test (range_with_len (a + 1) (n - (a + 1)))
not_here test a n in_range fails =
    let more : n - a ≡ suc (n - (a + 1)) = omega arith in
    rw more (rw fails refl)
