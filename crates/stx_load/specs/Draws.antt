-- The draws of the generator: numbers that follow from a state of 64 bits, which each draw changes.
use Rattle.std.specs.Prelude.{ℕ, zero, suc, ◌+◌, ◌*◌, ◌/◌, ◌%◌, ◌^◌}

-- what a draw makes of the state
abbrev pub next_state : ℕ → ℕ
next_state x = (x * 6364136223846793005 + 1442695040888963407) % 2 ^ 64

-- the state after so many draws
unfoldable pub after : ℕ → ℕ → ℕ
after x zero = x
after x (suc draws) = next_state (after x draws)

-- what a draw of n from this state gives, a number below n
unfoldable pub draw : ℕ → ℕ → ℕ
draw x n = next_state x / 2 ^ 33 % n
