-- What calls do to the bytes that a source has left and a sink has taken, and to the count of faults.
-- Bytes are `Some` where their object tells them, and `None` where it doesn't. No call changes which.
use Rattle.std.specs.Prelude.{◌≡◌, ℕ, ◌+◌, ◌-◌, ◌^◌, ◌<◌, ◌≤◌, min, List, [], ◌++◌, length, take, ⊤, is_some, Option, Some, None, Result, IfOk, OnOk, OnErr}

-- one more, and the last value of a u64 stays as it is
abbrev pub one_more : ℕ → ℕ
one_more count = min (count + 1) (2 ^ 64 - 1)

-- a count of faults has risen, or stands at its last value
abbrev pub Rose : ℕ → ℕ → Type 0
Rose before now = one_more before ≤ now

-- the count of faults never falls, an error comes only where it rose, and `Ok` leaves it
pub record HasCause {T E : Type 0} (before now : ℕ) (result : Result T E) : Type 0 where
  pub later : before ≤ now
  pub failed : OnErr result (Rose before now)
  pub kept : OnOk result (now ≡ before)

-- both are told, or neither is
abbrev pub TellsAlike : Option (List ℕ) → Option (List ℕ) → Type 0
TellsAlike before now = is_some now ≡ is_some before

-- this holds of the bytes before and now, where both are told; one of them alone never is
abbrev pub OfTold : (List ℕ → List ℕ → Type 0) → Option (List ℕ) → Option (List ℕ) → Type 0
OfTold P None None = ⊤
OfTold P None (Some now) = ⊥
OfTold P (Some before) None = ⊥
OfTold P (Some before) (Some now) = P before now

-- these bytes went from the front
abbrev pub LosesFront : Option (List ℕ) → Option (List ℕ) → List ℕ → Type 0
LosesFront before now front = OfTold (λ b n. b ≡ front ++ n) before now

-- these were all the bytes, and they are gone
abbrev pub LosesAll : Option (List ℕ) → Option (List ℕ) → List ℕ → Type 0
LosesAll before now all = OfTold (λ b n. (b ≡ all) × (n ≡ [])) before now

-- more bytes than the limit went from the front
abbrev pub LosesMore : ℕ → Option (List ℕ) → Option (List ℕ) → Type 0
LosesMore limit before now = (front : List ℕ) × (limit < length front) × LosesFront before now front

-- no more bytes than the limit went from the front
abbrev pub LosesWithin : ℕ → Option (List ℕ) → Option (List ℕ) → Type 0
LosesWithin limit before now = (front : List ℕ) × (length front ≤ limit) × LosesFront before now front

-- no byte is left
abbrev pub HasEnded : Option (List ℕ) → Type 0
HasEnded None = ⊤
HasEnded (Some now) = now ≡ []

-- these bytes came to the end
abbrev pub GainsEnd : Option (List ℕ) → Option (List ℕ) → List ℕ → Type 0
GainsEnd before now end = OfTold (λ b n. n ≡ b ++ end) before now

-- a prefix of these bytes came to the end
abbrev pub GainsPrefix : Option (List ℕ) → Option (List ℕ) → List ℕ → Type 0
GainsPrefix before now bytes = (count : ℕ) × GainsEnd before now (take count bytes)

-- a read put the first of the bytes left into a slice: as many as it says, none only at the end or without room, and
-- none at an error
pub record Reads {E : Type 0} (before now : Option (List ℕ)) (result : Result ℕ E) (into : List ℕ) : Type 0 where
  pub bound : IfOk result (λ count. count ≤ length into)
  pub front : IfOk result (λ count. LosesFront before now (take count into))
  pub end : IfOk result (λ count. count ≡ 0 → 0 < length into → HasEnded now)
  pub unchanged : OnErr result (now ≡ before)
  pub told : TellsAlike before now

-- a write took the first bytes of a slice: as many as it says, at least one if there is one, and none at an error
pub record Writes {E : Type 0} (before now : Option (List ℕ)) (result : Result ℕ E) (from : List ℕ) : Type 0 where
  pub bound : IfOk result (λ count. count ≤ length from)
  pub progress : IfOk result (λ count. 0 < length from → 0 < count)
  pub appended : IfOk result (λ count. GainsEnd before now (take count from))
  pub unchanged : OnErr result (now ≡ before)
