-- What two pieces that are read or written one after the other do to the bytes that are told.
use Rattle.std.proofs.Common.{◌≡◌, ℕ, ◌+◌, ◌<◌, ◌≤◌, List, ◌++◌, length, Option, Some, None, ◌∙◌, sym, ap, append_assoc, arith, length-append}
use Rattle.stx_outside.specs.Streams.{OfTold, GainsEnd, LosesFront, LosesMore, LosesWithin}

-- what holds of two steps, one after the other
OfTold-then : (P Q R : List ℕ → List ℕ → Type 0) → ((a b c : List ℕ) → P a b → Q b c → R a c) → (before between now : Option (List ℕ))
    → OfTold P before between → OfTold Q between now → OfTold R before now
OfTold-then P Q R both None None None first second = tt
OfTold-then P Q R both None None (Some now) first second = absurd second
OfTold-then P Q R both None (Some between) now first second = absurd first
OfTold-then P Q R both (Some before) None now first second = absurd first
OfTold-then P Q R both (Some before) (Some between) None first second = absurd second
OfTold-then P Q R both (Some before) (Some between) (Some now) first second = both before between now first second

-- two pieces that went from the front one after the other are one
pub LosesFront-append : (before between now : Option (List ℕ)) (front piece : List ℕ) → LosesFront before between front → LosesFront between now piece → LosesFront before now (front ++ piece)
LosesFront-append before between now front piece first second =
    OfTold-then (λ b n. b ≡ front ++ n) (λ b n. b ≡ piece ++ n) (λ b n. b ≡ (front ++ piece) ++ n)
    (λ a b c first second. first ∙ ap (λ rest. front ++ rest) second ∙ sym (append_assoc front piece c)) before between now first second

-- the second piece goes past the limit
pub LosesMore-piece : (limit : ℕ) (before between now : Option (List ℕ)) (front piece : List ℕ) → LosesFront before between front → LosesFront between now piece → limit < length front + length piece → LosesMore limit before now
LosesMore-piece limit before between now front piece first second over =
    (front ++ piece, omega (arith, length-append front piece), LosesFront-append before between now front piece first second)

-- the second piece stays within the limit
pub LosesWithin-piece : (limit : ℕ) (before between now : Option (List ℕ)) (front piece : List ℕ) → LosesFront before between front → LosesFront between now piece → length front + length piece ≤ limit → LosesWithin limit before now
LosesWithin-piece limit before between now front piece first second within =
    (front ++ piece, omega (arith, length-append front piece), LosesFront-append before between now front piece first second)

-- two pieces that came to the end one after the other are one
pub GainsEnd-append : (before between now : Option (List ℕ)) (end piece : List ℕ) → GainsEnd before between end → GainsEnd between now piece → GainsEnd before now (end ++ piece)
GainsEnd-append before between now end piece first second =
    OfTold-then (λ b n. n ≡ b ++ end) (λ b n. n ≡ b ++ piece) (λ b n. n ≡ b ++ (end ++ piece))
    (λ a b c first second. second ∙ ap (λ front. front ++ piece) first ∙ append_assoc a end piece) before between now first second
