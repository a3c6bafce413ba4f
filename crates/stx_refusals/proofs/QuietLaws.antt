-- Lists of faults of which none is of the stages that are asked for, and what that says of the places.
use Rattle.std.proofs.Common.{◌≡◌, ℕ, zero, suc, ◌+◌, ◌≤◌, Bool, true, false, ◌&&◌, ◌||◌, cond, nat_lt, nat_le, List, [], ◌∷◌, ◌++◌, Option, Some, None, get_or, map, refl, sym, ◌∙◌, ap, subst, arith}
use Rattle.std.specs.List.{All, find}
use Rattle.std.specs.Option.{option_map}
use Rattle.std.proofs.lemmas.Bool.{false≢true, leb-true}
use Rattle.std.proofs.lemmas.List.Elements.{All-nil, All-head, All-tail}
use Rattle.std.proofs.lemmas.Option.{none-some}
use Rattle.stx_refusals.specs.declared.fault.Fault.{Fault}
use Rattle.stx_refusals.specs.declared.fault.Stage.{Stage}
use Rattle.stx_refusals.specs.declared.fault.Stage.TheVariants.{BadName, OutOfRange, TooMany, BadWord, UnknownRef}
use Rattle.stx_refusals.specs.Faults.{each_from, refused, unless, is_stage, first_at, first_some, refusal_at, count_faults}

-- no fault is of a stage that passes the test
pub record Quiet (of : Stage → Bool) (faults : List Fault) : Type 0 where
  pub none : find (λ fault. of fault.stage) faults ≡ None

-- ---- tests and options

pub both_true : (a b : Bool) → (a && b) ≡ true → (a ≡ true) × (b ≡ true)
both_true true true h = (refl, refl)
both_true true false h = absurd (false≢true h)
both_true false b h = absurd (false≢true h)

-- a search that finds nothing doesn't find the first, nor anything after it
past : {A : Type 0} (b : Bool) (x : A) (rest : Option A) → cond b (Some x) rest ≡ None → (b ≡ false) × (rest ≡ None)
past true x rest h = absurd (none-some x (sym h))
past false x rest h = (refl, h)

pub mapped_none : {A B : Type 0} (f : A → B) (o : Option A) → option_map f o ≡ None → o ≡ None
mapped_none f (Some a) h = absurd (none-some (f a) (sym h))
mapped_none f None h = refl

pub some_none : {A : Type 0} (o : Option A) (more : List (Option A)) → first_some (o ∷ more) ≡ None → (o ≡ None) × (first_some more ≡ None)
some_none (Some a) more h = absurd (none-some a (sym h))
some_none None more h = (refl, h)

-- a list without anything has nothing at each of its places
pub none_at : {A : Type 0} (n : ℕ) (os : List (Option A)) → first_some os ≡ None → get_or os n None ≡ None
none_at n [] h = refl
none_at n (Some a ∷ os) h = absurd (none-some a (sym h))
none_at zero (None ∷ os) h = refl
none_at (suc n) (None ∷ os) h = none_at n os h

-- ---- lists

pub quiet_both : {of : Stage → Bool} (xs ys : List Fault) → Quiet of (xs ++ ys) → Quiet of xs × Quiet of ys
quiet_both [] ys q = (record { none = refl }, q)
quiet_both {of = of} (x ∷ xs) ys q =
    let here = past (of x.stage) x (find (λ fault. of fault.stage) (xs ++ ys)) q.none in
    let rest = quiet_both {of = of} xs ys (record { none = here.1 }) in
    (record { none = ap (λ (b : Bool). cond b (Some x) (find (λ fault. of fault.stage) xs)) here.0 ∙ (rest.0).none }, rest.1)

quiet_from : {of : Stage → Bool} {A : Type 0} (P : A → Type 0) (F : ℕ → A → List Fault) (n : ℕ) (xs : List A)
    → ((k : ℕ) (x : A) → Quiet of (F k x) → P x) → Quiet of (each_from F n xs) → All P xs
quiet_from P F n [] holds q = All-nil P
quiet_from {of = of} P F n (x ∷ xs) holds q =
    let parts = quiet_both {of = of} (F n x) (each_from F (n + 1) xs) q in
    let here = holds n x parts.0 in
    let rest = quiet_from {of = of} P F (n + 1) xs holds parts.1 in
    all_more P x xs here rest
  where
    all_more : {A : Type 0} (P : A → Type 0) (x : A) (xs : List A) → P x → All P xs → All P (x ∷ xs)
    all_more P x xs here rest zero d within = here
    all_more P x xs here rest (suc k) d within = rest k d (omega arith)

pub quiet_each : {of : Stage → Bool} {A : Type 0} (P : A → Type 0) (F : ℕ → A → List Fault) (xs : List A)
    → ((k : ℕ) (x : A) → Quiet of (F k x) → P x) → Quiet of (each_from F 0 xs) → All P xs
quiet_each P F xs holds q = quiet_from P F 0 xs holds q

-- ---- places

pub quiet_passed : {of : Stage → Bool} (path : List ℕ) (b : Bool) (stage : Stage) → of stage ≡ true → Quiet of (refused path (unless b stage)) → b ≡ true
quiet_passed path true stage asked q = refl
quiet_passed {of = of} path false stage asked q =
    let here = past (of stage) (record { stage = stage; path = path }) None q.none in absurd (false≢true (sym here.0 ∙ asked))

pub quiet_many : {of : Stage → Bool} (path : List ℕ) (most n : ℕ) (b : Bool) → of TooMany ≡ true
    → Quiet of (refused path (cond b (Some OutOfRange) (unless (nat_le n most) TooMany))) → b ≡ false → n ≤ most
quiet_many {of = of} path most n b asked q none =
    leb-true n most (quiet_passed path (nat_le n most) TooMany asked (subst (λ (c : Bool). Quiet of (refused path (cond c (Some OutOfRange) (unless (nat_le n most) TooMany)))) none q))

pub quiet_count : {of : Stage → Bool} (most : ℕ) (path : List ℕ) (n : ℕ) → of TooMany ≡ true → Quiet of (count_faults most path n) → n ≤ most
quiet_count most path n asked q = quiet_many path most n _ asked q (grind arith)

-- an array: not too many entries, and what is wanted of each
pub record InArray {A : Type 0} (most n : ℕ) (P : A → Type 0) (xs : List A) : Type 0 where
  pub few : n ≤ most
  pub all : All P xs

pub quiet_array : {of : Stage → Bool} {A : Type 0} (P : A → Type 0) (most n : ℕ) (path : List ℕ) (F : ℕ → A → List Fault) (xs : List A)
    → of TooMany ≡ true → ((k : ℕ) (x : A) → Quiet of (F k x) → P x)
    → Quiet of (count_faults most path n ++ each_from F 0 xs) → InArray most n P xs
quiet_array P most n path F xs asked holds q =
    let parts = quiet_both (count_faults most path n) (each_from F 0 xs) q in
    record { few = quiet_count most path n asked parts.0; all = quiet_each P F xs holds parts.1 }

-- ---- stages

pub quiet_first : (stage : Stage) (faults : List Fault) → first_at stage faults ≡ None → Quiet (is_stage stage) faults
unfolding first_at
quiet_first stage faults h = record { none = mapped_none (λ fault. refusal_at stage fault.path) (find (λ fault. is_stage stage fault.stage) faults) h }

pub or_quiet : (p q : Stage → Bool) (faults : List Fault) → Quiet p faults → Quiet q faults → Quiet (λ stage. p stage || q stage) faults
or_quiet p q [] one two = record { none = refl }
or_quiet p q (x ∷ xs) one two =
    let here = past (p x.stage) x (find (λ fault. p fault.stage) xs) one.none in
    let there = past (q x.stage) x (find (λ fault. q fault.stage) xs) two.none in
    let rest = or_quiet p q xs (record { none = here.1 }) (record { none = there.1 }) in
    record { none = ap (λ (b : Bool). cond b (Some x) (find (λ fault. p fault.stage || q fault.stage) xs)) (neither (p x.stage) (q x.stage) here.0 there.0) ∙ rest.none }
  where
    neither : (a b : Bool) → a ≡ false → b ≡ false → (a || b) ≡ false
    neither a b one two = grind arith

-- the stages that look at single places of a scenario
abbrev pub is_place : Stage → Bool
is_place stage = is_stage BadName stage || (is_stage OutOfRange stage || (is_stage TooMany stage || (is_stage BadWord stage || is_stage UnknownRef stage)))

pub places_quiet : (faults : List Fault) → Quiet (is_stage BadName) faults → Quiet (is_stage OutOfRange) faults → Quiet (is_stage TooMany) faults
    → Quiet (is_stage BadWord) faults → Quiet (is_stage UnknownRef) faults → Quiet is_place faults
places_quiet faults names ranges counts words references =
    or_quiet (is_stage BadName) _ faults names
    (or_quiet (is_stage OutOfRange) _ faults ranges
    (or_quiet (is_stage TooMany) _ faults counts (or_quiet (is_stage BadWord) (is_stage UnknownRef) faults words references)))

-- ---- lists that are quiet

pub quiet_append : {of : Stage → Bool} (xs ys : List Fault) → Quiet of xs → Quiet of ys → Quiet of (xs ++ ys)
quiet_append [] ys one two = two
quiet_append {of = of} (x ∷ xs) ys one two =
    let here = past (of x.stage) x (find (λ fault. of fault.stage) xs) one.none in
    let rest = quiet_append {of = of} xs ys (record { none = here.1 }) two in
    record { none = ap (λ (b : Bool). cond b (Some x) (find (λ fault. of fault.stage) (xs ++ ys))) here.0 ∙ rest.none }

pub quiet_unless : {of : Stage → Bool} (path : List ℕ) (b : Bool) (stage : Stage) → b ≡ true → Quiet of (refused path (unless b stage))
quiet_unless path true stage passed = record { none = refl }
quiet_unless path false stage passed = absurd (false≢true passed)

-- a stage that isn't asked for
pub quiet_other : {of : Stage → Bool} (path : List ℕ) (b : Bool) (stage : Stage) → of stage ≡ false → Quiet of (refused path (unless b stage))
quiet_other path true stage other = record { none = refl }
quiet_other path false stage other =
    record { none = ap (λ (c : Bool). cond c (Some (record { stage = stage; path = path })) None) other }

pub quiet_few : {of : Stage → Bool} (most : ℕ) (path : List ℕ) (n : ℕ) → n ≤ most → Quiet of (count_faults most path n)
quiet_few {of = of} most path n few =
    let small : nat_lt n 0 ≡ false = grind arith in
    let fits : nat_le n most ≡ true = grind arith in
    subst (λ (b : Bool). Quiet of (refused path (cond b (Some OutOfRange) (unless (nat_le n most) TooMany)))) (sym small) (quiet_unless path (nat_le n most) TooMany fits)

pub quiet_mapped : {of : Stage → Bool} {A B : Type 0} (P : A → Type 0) (f : A → B) (F : ℕ → B → List Fault) (n : ℕ) (xs : List A)
    → ((k : ℕ) (x : A) → P x → Quiet of (F k (f x))) → All P xs → Quiet of (each_from F n (map f xs))
quiet_mapped P f F n [] holds all = record { none = refl }
quiet_mapped {of = of} P f F n (x ∷ xs) holds all =
    quiet_append (F n (f x)) (each_from F (n + 1) (map f xs)) (holds n x (All-head P x xs all))
    (quiet_mapped {of = of} P f F (n + 1) xs holds (All-tail P x xs all))

pub quiet_listed : {of : Stage → Bool} {A : Type 0} (P : A → Type 0) (F : ℕ → A → List Fault) (n : ℕ) (xs : List A)
    → ((k : ℕ) (x : A) → P x → Quiet of (F k x)) → All P xs → Quiet of (each_from F n xs)
quiet_listed P F n [] holds all = record { none = refl }
quiet_listed {of = of} P F n (x ∷ xs) holds all =
    quiet_append (F n x) (each_from F (n + 1) xs) (holds n x (All-head P x xs all)) (quiet_listed {of = of} P F (n + 1) xs holds (All-tail P x xs all))

pub first_none : (stage : Stage) (faults : List Fault) → Quiet (is_stage stage) faults → first_at stage faults ≡ None
unfolding first_at
first_none stage faults q = ap (option_map (λ fault. refusal_at stage fault.path)) q.none
