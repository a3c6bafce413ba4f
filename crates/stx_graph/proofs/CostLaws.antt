-- Laws of costs that stop at the cap: sums of them are the sums, stopped at the cap.
use Rattle.std.proofs.Common.{◌≡◌, ℕ, ◌+◌, ◌≤◌, Bool, true, false, cond, List, [], ◌∷◌, ◌++◌, map, min, length, take, sym, ◌∙◌, ap, arith, filter, fold}
use Rattle.std.proofs.lemmas.List.{take_all}
use Rattle.stx_base.specs.declared.cost.Cost.{Cost}
use Rattle.std.proofs.lemmas.List.{map-append}
use Rattle.stx_scenario.specs.declared.numbers.MethodNo.{MethodNo}
use Rattle.stx_scenario.specs.declared.scenario.Stmt.{Stmt}
use Rattle.stx_base.specs.Weight.{no_cost, plus, total, callback_cost, callbacks_cost}
use Rattle.stx_graph.specs.inner.Costs.{cap, capped, added}

pub cost_same : (a b : Cost) → a.size ≡ b.size → a.registrations ≡ b.registrations → a ≡ b
cost_same a b e r =
    let size : a ≡ record { size = b.size; registrations = a.registrations } = ap (λ n. record { size = n; registrations = a.registrations }) e in
    let both : record { size = b.size; registrations = a.registrations } ≡ b = ap (λ n. record { size = b.size; registrations = n }) r in
    size ∙ both

min_more : (a g f t c : ℕ) → min g c ≡ min f c → min (min (a + g) c + t) c ≡ min (a + (f + t)) c
min_more a g f t c e = omega (arith, e)

min_twice : (a c : ℕ) → min a c ≡ min (min a c) c
min_twice a c = omega arith

min_left : (a b c : ℕ) → min (min a c + b) c ≡ min (a + b) c
min_left a b c = omega arith

min_both : (a b c : ℕ) → min (min a c + min b c) c ≡ min (a + b) c
min_both a b c = omega arith

min_none : (a c : ℕ) → a ≡ min a c → a ≡ min (a + 0) c
min_none a c e = omega (arith, e)

pub capped_twice : (a : Cost) → capped a ≡ capped (capped a)
capped_twice a = cost_same _ _ (min_twice a.size cap) (min_twice a.registrations cap)

pub plus_nothing : (a : Cost) → plus a no_cost ≡ a
plus_nothing a = cost_same _ _ (omega arith) (omega arith)

pub nothing_plus : (a : Cost) → plus no_cost a ≡ a
nothing_plus a = cost_same _ _ (omega arith) (omega arith)

pub plus_plus : (a b c : Cost) → plus (plus a b) c ≡ plus a (plus b c)
plus_plus a b c = cost_same _ _ (omega arith) (omega arith)

pub capped_both : (a b : Cost) → capped (plus (capped a) (capped b)) ≡ capped (plus a b)
capped_both a b = cost_same _ _ (min_both a.size b.size cap) (min_both a.registrations b.registrations cap)

pub total_append : (cs ds : List Cost) → total (cs ++ ds) ≡ plus (total cs) (total ds)
total_append [] ds = sym (nothing_plus (total ds))
total_append (c ∷ cs) ds = ap (plus c) (total_append cs ds) ∙ sym (plus_plus c (total cs) (total ds))

none_added : (a : Cost) → a ≡ capped a → a ≡ capped (plus a no_cost)
none_added a e = e ∙ sym (ap capped (plus_nothing a))

one_added : (a g f t : Cost) → capped g ≡ capped f → capped (plus (added a g) t) ≡ capped (plus a (plus f t))
one_added a g f t e =
    cost_same _ _
    (min_more a.size g.size f.size t.size cap (ap (λ c. c.size) e))
    (min_more a.registrations g.registrations f.registrations t.registrations cap (ap (λ c. c.registrations) e))

-- what a loop adds up that stops at the cap, of what is the same up to the cap
pub summed :
    {X : Type 0} (g f : X → Cost) → ((x : X) → capped (g x) ≡ capped (f x)) → (a : Cost) (xs : List X) → a ≡ capped a
    → fold (λ sum x. added sum (g x)) a xs ≡ capped (plus a (total (map f xs)))
summed g f same a [] e = none_added a e
summed g f same a (x ∷ xs) e = summed g f same (added a (g x)) xs (capped_twice _) ∙ one_added a (g x) (f x) (total (map f xs)) (same x)

-- and one that adds only what passes a test
pub summed_where :
    {X : Type 0} (p : X → Bool) (g f : X → Cost) → ((x : X) → capped (g x) ≡ capped (f x)) → (a : Cost) (xs : List X) → a ≡ capped a
    → fold (λ sum x. cond (p x) (added sum (g x)) sum) a xs ≡ capped (plus a (total (map f (filter p xs))))
summed_where p g f same a [] e = none_added a e
summed_where p g f same a (x ∷ xs) e =
    step (p x) (summed_where p g f same a xs e) (summed_where p g f same (added a (g x)) xs (capped_twice _))
  where
    step :
        (b : Bool)
        → fold (λ sum x. cond (p x) (added sum (g x)) sum) a xs ≡ capped (plus a (total (map f (filter p xs))))
        → fold (λ sum x. cond (p x) (added sum (g x)) sum) (added a (g x)) xs
        ≡ capped (plus (added a (g x)) (total (map f (filter p xs))))
        → fold (λ sum x. cond (p x) (added sum (g x)) sum) (cond b (added a (g x)) a) xs
        ≡ capped (plus a (total (map f (cond b (x ∷ filter p xs) (filter p xs)))))
    step true without with_it = with_it ∙ one_added a (g x) (f x) (total (map f (filter p xs))) (same x)
    step false without with_it = without

-- costs that are stopped at the cap already
pub summed_capped :
    {X : Type 0} (f : X → Cost) (a : Cost) (xs : List X) → a ≡ capped a
    → fold (λ sum x. added sum (capped (f x))) a xs ≡ capped (plus a (total (map f xs)))
summed_capped f a xs e = summed (λ x. capped (f x)) f (λ x. sym (capped_twice (f x))) a xs e

-- the same, after all of a loop's turns
pub all_turns : {X Y : Type 0} (f : Y → X → Y) (a : Y) (xs : List X) (i : ℕ) → length xs ≤ i → fold f a (take i xs) ≡ fold f a xs
all_turns f a xs i h = ap (fold f a) (take_all i xs h)

capped_left : (a b : Cost) → capped (plus (capped a) b) ≡ capped (plus a b)
capped_left a b = cost_same _ _ (min_left a.size b.size cap) (min_left a.registrations b.registrations cap)

callbacks_append : (of : MethodNo → Cost) (ss ts : List Stmt) → callbacks_cost of (ss ++ ts) ≡ plus (callbacks_cost of ss) (callbacks_cost of ts)
callbacks_append of ss ts = ap total (map-append (callback_cost of) ss ts) ∙ total_append _ _

-- one body more
pub callbacks_more :
    (of : MethodNo → Cost) (ss ts : List Stmt) (sum next : Cost) → sum ≡ capped (callbacks_cost of ss)
    → next ≡ capped (plus sum (callbacks_cost of ts)) → next ≡ capped (callbacks_cost of (ss ++ ts))
callbacks_more of ss ts sum next before after =
    after ∙ ap (λ c. capped (plus c (callbacks_cost of ts))) before ∙ capped_left (callbacks_cost of ss) (callbacks_cost of ts)
    ∙ ap capped (sym (callbacks_append of ss ts))
