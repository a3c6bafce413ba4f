-- Laws of lists of faults: how a loop over entries puts them together, and what holds where none is of some kind.
use Rattle.std.proofs.Common.{◌≡◌, ℕ, zero, suc, ◌+◌, ◌<◌, ◌≤◌, Bool, nat_le, List, [], ◌∷◌, ◌++◌, length, take, get_or, refl, sym, ◌∙◌, ap, arith, append_assoc}
use Rattle.std.proofs.lemmas.List.{take_more, take_all, append-nil, length-take-le}
use Rattle.stx_refusals.specs.declared.fault.Fault.{Fault}
use Rattle.stx_refusals.specs.declared.fault.Stage.{Stage}
use Rattle.stx_refusals.specs.Faults.{each_from, refused, unless, count_faults, count_stage}

-- ---- a loop over the entries of a list

each_append : {A : Type 0} (F : ℕ → A → List Fault) (n : ℕ) (xs : List A) (x : A)
    → each_from F n (xs ++ x ∷ []) ≡ each_from F n xs ++ F (n + length xs) x
each_append F n [] x = append-nil (F n x) ∙ ap (λ (k : ℕ). F k x) (omega arith)
each_append F n (y ∷ ys) x =
    let rest = each_append F (n + 1) ys x in
    let same : (n + 1) + length ys ≡ n + suc (length ys) = omega arith in
    ap (λ (faults : List Fault). F n y ++ faults) rest ∙ sym (append_assoc (F n y) (each_from F (n + 1) ys) (F ((n + 1) + length ys) x))
    ∙ ap (λ (k : ℕ). (F n y ++ each_from F (n + 1) ys) ++ F k x) same

-- the faults of the first entries, so many, after those that there were
pub record SoFar {A : Type 0} (F : ℕ → A → List Fault) (start : List Fault) (xs : List A) (i : ℕ) (now : List Fault) : Type 0 where
  pub so_far : now ≡ start ++ each_from F 0 (take i xs)

pub loop_init : {A : Type 0} {F : ℕ → A → List Fault} {start : List Fault} {xs : List A} → SoFar F start xs 0 start
loop_init {start = start} = record { so_far = sym (append-nil start) }

pub loop_step : {A : Type 0} {F : ℕ → A → List Fault} {start : List Fault} {xs : List A} {i : ℕ} {now : List Fault}
    → SoFar F start xs i now → (next : List Fault) (x d : A) → i < length xs → x ≡ get_or xs i d → next ≡ now ++ F i x
    → SoFar F start xs (i + 1) next
loop_step {F = F} {start = start} {xs = xs} {i = i} before next x d within here more =
    let taken : take (i + 1) xs ≡ take i xs ++ x ∷ [] = take_more xs i d within ∙ ap (λ y. take i xs ++ y ∷ []) (sym here) in
    let size : 0 + length (take i xs) ≡ i = omega (arith, length-take-le i xs (omega arith)) in
    record {
      so_far = more ∙ ap (λ faults. faults ++ F i x) before.so_far ∙ append_assoc start (each_from F 0 (take i xs)) (F i x)
          ∙ ap (λ (k : ℕ). start ++ (each_from F 0 (take i xs) ++ F k x)) (sym size)
          ∙ ap (λ faults. start ++ faults) (sym (each_append F 0 (take i xs) x))
          ∙ ap (λ ys. start ++ each_from F 0 ys) (sym taken);
    }

-- where each entry passes a test or not
pub loop_passed : {A : Type 0} {start : List Fault} {xs : List A} {i : ℕ} {now : List Fault} (P : ℕ → List ℕ) (t : A → Bool) (stage : Stage)
    → SoFar (λ n x. refused (P n) (unless (t x) stage)) start xs i now → (next : List Fault) (d : A) (passed : Bool)
    → i < length xs → passed ≡ t (get_or xs i d) → next ≡ now ++ refused (P i) (unless passed stage)
    → SoFar (λ n x. refused (P n) (unless (t x) stage)) start xs (i + 1) next
loop_passed {i = i} {now = now} P t stage before next d passed within test more =
    loop_step before next _ d within refl (more ∙ ap (λ (b : Bool). now ++ refused (P i) (unless b stage)) test)

pub loop_end : {A : Type 0} {F : ℕ → A → List Fault} {start : List Fault} {xs : List A} {i : ℕ} {now : List Fault}
    → SoFar F start xs i now → length xs ≤ i → (ys : List A) → xs ≡ ys → now ≡ start ++ each_from F 0 ys
loop_end {F = F} {start = start} {xs = xs} {i = i} whole past ys same =
    whole.so_far ∙ ap (λ zs. start ++ each_from F 0 zs) (take_all i xs past ∙ same)

-- faults after others that came after some
pub both : (start first middle second now : List Fault) → middle ≡ start ++ first → now ≡ middle ++ second → now ≡ start ++ (first ++ second)
both start first middle second now one two = two ∙ ap (λ faults. faults ++ second) one ∙ append_assoc start first second

-- the same where the first are those of a count
pub counted : (start second middle now : List Fault) (most : ℕ) (path : List ℕ) (n m : ℕ) → n ≡ m
    → middle ≡ start ++ count_faults most path n → now ≡ middle ++ second → now ≡ start ++ (count_faults most path m ++ second)
counted start second middle now most path n m same one two =
    both start (count_faults most path m) middle second now (one ∙ ap (λ (k : ℕ). start ++ count_faults most path k) same) two

-- ---- the number of clients

least_then_most : (path : List ℕ) (n : ℕ) → refused path (unless (nat_le 1 n) Stage.OutOfRange) ++ count_faults 64 path n ≡ refused path (count_stage 1 64 n)
least_then_most path zero = refl
least_then_most path (suc k) = grind arith

pub client_count : (path : List ℕ) (n m : ℕ) → n ≡ m
    → refused path (unless (nat_le 1 n) Stage.OutOfRange) ++ count_faults 64 path n ≡ refused path (count_stage 1 64 m)
client_count path n m same = least_then_most path n ∙ ap (λ (k : ℕ). refused path (count_stage 1 64 k)) same
