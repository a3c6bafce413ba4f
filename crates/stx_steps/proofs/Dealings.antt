-- The listeners of a publication, one after the other: each is dealt with once.
use Rattle.std.proofs.Common.{◌≡◌, ◌≢◌, ◌∙◌, ◌∷◌, [], ℕ, zero, suc, ◌+◌, ◌<◌, ◌==◌, ◌&&◌, Bool, true, false, cond, ℤ, List, map, Option, Some, None, refl, sym, ap, subst, arith, filter, eq-eqb, eqb-true, drop, length, slice_index_or, add-one}
use Rattle.std.specs.Prelude.{⊤, int_lt, slice_get}
use Rattle.std.specs.Option.{option_map, option_map_or}
use Rattle.std.specs.List.{AllByRecursion, enumerate_from, fold}
use Rattle.stx_scenario.specs.declared.numbers.EventNo.{EventNo}
use Rattle.stx_scenario.specs.declared.numbers.ListenerNo.{ListenerNo}
use Rattle.stx_scenario.specs.declared.scenario.Scenario.{Scenario}
use Rattle.stx_scenario.specs.declared.scenario.Listener.{Listener}
use Rattle.stx_events.specs.declared.deeds.Deed.{Deed as DeedData}
use Rattle.stx_events.specs.Deeds.{deed_of}
use Rattle.stx_model.specs.Listeners.{Deed, Register, RunNow, Skip, Numbered, dealt_with, deed, deeds, listening}
use Rattle.stx_base.specs.declared.line.Line.{Line}
use Rattle.stx_model.specs.Below.{listener_body}
use Rattle.stx_model.specs.Meanings.{Over, State, and_then, say}
use Rattle.stx_model.specs.Rounds.{Calls, callback, listens}
use Rattle.stx_model.specs.Script.{deals}
use Rattle.stx_model.specs.Orders.{by_order, inserted}
use Rattle.stx_model.proofs.Callable.{by_order_all}
use Rattle.stx_model.proofs.CallableLaw.{filter_all, map_all, numbered_all}
use Rattle.stx_machine.specs.declared.stage.Publication.{Publication}
use Rattle.stx_machine.specs.Machine.{dealt, deeds_after, event_of, later_deeds, later_than, listener_of, publication_of, registers_one, runs_one}
use Rattle.stx_machine.specs.Sound.{DeedsBelow}
use Rattle.stx_steps.specs.Steps.{first_deed}

-- ---- each number once

-- this number is none of theirs
abbrev Apart : ℕ → List Numbered → Type 0
Apart n [] = ⊤
Apart n (l ∷ ls) = (n ≢ l.0) × Apart n ls

abbrev Distinct : List Numbered → Type 0
Distinct [] = ⊤
Distinct (l ∷ ls) = Apart l.0 ls × Distinct ls

-- none of these is one of those
abbrev AllApart : List Numbered → List Numbered → Type 0
AllApart others [] = ⊤
AllApart others (l ∷ ls) = Apart l.0 others × AllApart others ls

module _ (order : Numbered → ℤ) where
  apart_by : (n : ℕ) (ys zs : List Numbered) (x y : Numbered) (b : Bool) → n ≢ x.0 → Apart n (y ∷ ys) → Apart n zs
      → Apart n (elim b as (λ _. List Numbered) [ true ↦ x ∷ y ∷ ys | false ↦ y ∷ zs ])
  apart_by n ys zs x y true other apart rest = (other, apart)
  apart_by n ys zs x y false other apart rest = (apart.0, rest)

  inserted_apart : (n : ℕ) (xs : List Numbered) (x : Numbered) → Apart n xs → n ≢ x.0 → Apart n (inserted order xs x)
  inserted_apart n [] x apart other = (other, tt)
  inserted_apart n (y ∷ ys) x apart other =
      apart_by n ys (inserted order ys x) x y (int_lt (order x) (order y)) other apart (inserted_apart n ys x apart.1 other)

  distinct_by : (ys zs : List Numbered) (x y : Numbered) (b : Bool) → Distinct (x ∷ y ∷ ys) → Distinct (y ∷ zs)
      → Distinct (elim b as (λ _. List Numbered) [ true ↦ x ∷ y ∷ ys | false ↦ y ∷ zs ])
  distinct_by ys zs x y true first second = first
  distinct_by ys zs x y false first second = second

  inserted_distinct : (xs : List Numbered) (x : Numbered) → Distinct xs → Apart x.0 xs → Distinct (inserted order xs x)
  inserted_distinct [] x distinct apart = (tt, tt)
  inserted_distinct (y ∷ ys) x distinct apart =
      distinct_by ys (inserted order ys x) x y (int_lt (order x) (order y)) (apart, distinct)
      (inserted_apart y.0 ys x distinct.0 (λ same. apart.0 (sym same)), inserted_distinct ys x distinct.1 apart.1)

  all_apart_more : (before xs : List Numbered) (x : Numbered) → AllApart before xs → Apart x.0 xs → AllApart (inserted order before x) xs
  all_apart_more before [] x all apart = tt
  all_apart_more before (y ∷ ys) x all apart = (inserted_apart y.0 before x all.0 (λ same. apart.0 (sym same)), all_apart_more before ys x all.1 apart.1)

  fold_distinct : (xs before : List Numbered) → Distinct before → Distinct xs → AllApart before xs → Distinct (fold (inserted order) before xs)
  fold_distinct [] before distinct rest all = distinct
  fold_distinct (x ∷ xs) before distinct rest all =
      fold_distinct xs (inserted order before x) (inserted_distinct before x distinct all.0) rest.1 (all_apart_more before xs x all.1 rest.0)

  nothing_apart : (xs : List Numbered) → AllApart [] xs
  nothing_apart [] = tt
  nothing_apart (x ∷ xs) = (tt, nothing_apart xs)

  by_order_distinct : (xs : List Numbered) → Distinct xs → Distinct (by_order order xs)
  by_order_distinct xs distinct = fold_distinct xs [] tt distinct (nothing_apart xs)

later_apart : (n from : ℕ) (ls : List Listener) → n < from → Apart n (enumerate_from from ls)
later_apart n from [] less = tt
later_apart n from (l ∷ ls) less = ((λ same. omega (arith, less, same)), later_apart n (from + 1) ls (omega (arith, less)))

enumerated_distinct : (from : ℕ) (ls : List Listener) → Distinct (enumerate_from from ls)
enumerated_distinct from [] = tt
enumerated_distinct from (l ∷ ls) = (later_apart from (from + 1) ls (omega arith), enumerated_distinct (from + 1) ls)

module _ (keeps : Numbered → Bool) where
  apart_kept : (n : ℕ) (xs : List Numbered) (x : Numbered) (b : Bool) → n ≢ x.0 → Apart n xs → Apart n (cond b (x ∷ xs) xs)
  apart_kept n xs x true other apart = (other, apart)
  apart_kept n xs x false other apart = apart

  filter_apart : (n : ℕ) (xs : List Numbered) → Apart n xs → Apart n (filter keeps xs)
  filter_apart n [] apart = tt
  filter_apart n (x ∷ xs) apart = apart_kept n (filter keeps xs) x (keeps x) apart.0 (filter_apart n xs apart.1)

  distinct_kept : (xs : List Numbered) (x : Numbered) (b : Bool) → Apart x.0 xs → Distinct xs → Distinct (cond b (x ∷ xs) xs)
  distinct_kept xs x true apart distinct = (apart, distinct)
  distinct_kept xs x false apart distinct = distinct

  filter_distinct : (xs : List Numbered) → Distinct xs → Distinct (filter keeps xs)
  filter_distinct [] distinct = tt
  filter_distinct (x ∷ xs) distinct = distinct_kept (filter keeps xs) x (keeps x) (filter_apart x.0 xs distinct.0) (filter_distinct xs distinct.1)

dealt_distinct : (S : Scenario) (e : EventNo) → Distinct (dealt_with S e)
dealt_distinct S e =
    by_order_distinct (λ l. l.1.order) (listening S e) (filter_distinct (λ l. l.1.event.0 == e.0) (enumerate_from 0 S.listeners) (enumerated_distinct 0 S.listeners))

-- ---- deeds

listener_is : (b : Bool) (l : Numbered) → (listener_of (deed b l)).0 ≡ l.0
listener_is true l = refl
listener_is false l = by_fallback l.1.fallback
  where
    by_fallback : (f : Bool) → (listener_of (elim f as (λ _. Deed) [ true ↦ RunNow (record { 0 = l.0 }) | false ↦ Skip (record { 0 = l.0 }) ])).0 ≡ l.0
    by_fallback true = refl
    by_fallback false = refl

abbrev DeedApart : ℕ → List Deed → Type 0
DeedApart n ds = AllByRecursion (λ d. n ≢ (listener_of d).0) ds

abbrev DeedsDistinct : List Deed → Type 0
DeedsDistinct [] = ⊤
DeedsDistinct (d ∷ ds) = DeedApart (listener_of d).0 ds × DeedsDistinct ds

deed_apart : (b : Bool) (n : ℕ) (xs : List Numbered) → Apart n xs → DeedApart n (map (deed b) xs)
deed_apart b n [] apart = tt
deed_apart b n (x ∷ xs) apart = ((λ same. apart.0 (same ∙ listener_is b x)), deed_apart b n xs apart.1)

deeds_distinct : (b : Bool) (xs : List Numbered) → Distinct xs → DeedsDistinct (map (deed b) xs)
deeds_distinct b [] distinct = tt
deeds_distinct b (x ∷ xs) distinct =
    (subst (λ n. DeedApart n (map (deed b) xs)) (sym (listener_is b x)) (deed_apart b x.0 xs distinct.0), deeds_distinct b xs distinct.1)

by_same : (a b : ℕ) (here there : List Deed) → a ≡ b → elim (a == b) as (λ _. List Deed) [ true ↦ here | false ↦ there ] ≡ here
by_same a b here there same = ap (λ t. elim t as (λ _. List Deed) [ true ↦ here | false ↦ there ]) (eq-eqb a b same)

by_other : (t : Bool) (a b : ℕ) (here there : List Deed) → (a == b) ≡ t → a ≢ b → elim t as (λ _. List Deed) [ true ↦ here | false ↦ there ] ≡ there
by_other true a b here there is other = absurd (other (eqb-true a b is))
by_other false a b here there is other = refl

later_all : (P : Deed → Type 0) (l : ListenerNo) (ds : List Deed) → AllByRecursion P ds → AllByRecursion P (later_than l ds)
later_all P l [] all = tt
later_all P l (d ∷ ds) all = by_first (l.0 == (listener_of d).0) (later_all P l ds all.1)
  where
    by_first : (b : Bool) → AllByRecursion P (later_than l ds) → AllByRecursion P (elim b as (λ _. List Deed) [ true ↦ ds | false ↦ later_than l ds ])
    by_first true rest = all.1
    by_first false rest = rest

-- after the next deed
next_than : (l : ListenerNo) (all : List Deed) (d : Deed) (ds : List Deed) → DeedsDistinct all → later_than l all ≡ d ∷ ds → later_than (listener_of d) all ≡ ds
next_than l [] d ds distinct is = cc
next_than l (x ∷ xs) d ds distinct is = by_first (l.0 == (listener_of x).0) (next_than l xs d ds distinct.1) is
  where
    here : DeedApart (listener_of x).0 (d ∷ ds) → later_than (listener_of d) xs ≡ ds → later_than (listener_of d) (x ∷ xs) ≡ ds
    here apart rest = by_other ((listener_of d).0 == (listener_of x).0) (listener_of d).0 (listener_of x).0 xs (later_than (listener_of d) xs) refl (λ same. apart.0 (sym same)) ∙ rest

    by_first : (b : Bool) → (later_than l xs ≡ d ∷ ds → later_than (listener_of d) xs ≡ ds) → elim b as (λ _. List Deed) [ true ↦ xs | false ↦ later_than l xs ] ≡ d ∷ ds
        → later_than (listener_of d) (x ∷ xs) ≡ ds
    by_first true further first =
        here (subst (DeedApart (listener_of x).0) first distinct.0)
        (ap (later_than (listener_of d)) first ∙ by_same (listener_of d).0 (listener_of d).0 ds (later_than (listener_of d) ds) refl)
    by_first false further first = here (subst (DeedApart (listener_of x).0) first (later_all (λ y. (listener_of x).0 ≢ (listener_of y).0) l xs distinct.0)) (further first)

next_after : (after : Option ListenerNo) (all : List Deed) (d : Deed) (ds : List Deed) → DeedsDistinct all → deeds_after after all ≡ d ∷ ds → later_than (listener_of d) all ≡ ds
next_after None all d ds distinct is =
    ap (later_than (listener_of d)) is ∙ by_same (listener_of d).0 (listener_of d).0 ds (later_than (listener_of d) ds) refl
next_after (Some l) all d ds distinct is = next_than l all d ds distinct is

later_is : (S : Scenario) (p : Publication) (d : Deed) (ds : List Deed) → later_deeds S p ≡ d ∷ ds → later_deeds S (dealt p (listener_of d)) ≡ ds
unfolding deeds
later_is S p d ds is =
    next_after p.after (deeds S p.event p.registers p.registers) d ds (deeds_distinct (p.registers && p.registers) (dealt_with S p.event) (dealt_distinct S p.event)) is

-- ---- the next deed

pub first_none : (ds : List Deed) → None ≡ first_deed ds → ds ≡ []
first_none [] is = refl
first_none (d ∷ ds) is = cc

first_some : (ds : List Deed) (d : Deed) → Some d ≡ first_deed ds → (rest : List Deed) × (ds ≡ d ∷ rest)
first_some [] d is = absurd cc
first_some (x ∷ xs) d is =
    let same : x ≡ d = cc in (xs, ap (λ y. y ∷ xs) same)

-- ---- the listeners of an event are those that name it

abbrev Names : Scenario → EventNo → Numbered → Type 0
Names S e l = (slice_get S.listeners l.0 ≡ Some l.1) × (l.1.event.0 ≡ e.0)

dealt_names : (S : Scenario) (e : EventNo) → AllByRecursion (Names S e) (dealt_with S e)
dealt_names S e =
    by_order_all (Names S e) (λ l. l.1.order) (listening S e)
    (filter_all (Names S e) (λ l. l.1.event.0 == e.0) (enumerate_from 0 S.listeners)
    (numbered_all (λ l. (l.1.event.0 == e.0) ≡ true → Names S e l) 0 S.listeners (λ i x there is. (subst (λ n. slice_get S.listeners n ≡ Some x) (omega arith) there, eqb-true x.event.0 e.0 is))))

-- a listener that runs at once is one of the event, and its publication doesn't register
abbrev IsRun : Scenario → EventNo → Bool → Deed → Type 0
IsRun S e b (RunNow l) = (b ≡ false) × ((x : Listener) × (slice_get S.listeners l.0 ≡ Some x) × (x.event.0 ≡ e.0))
IsRun S e b _ = ⊤

run_deed : (S : Scenario) (e : EventNo) (b : Bool) (l : Numbered) → Names S e l → IsRun S e b (deed b l)
run_deed S e true l names = tt
run_deed S e false l names = by_fallback l.1.fallback
  where
    by_fallback : (f : Bool) → IsRun S e false (elim f as (λ _. Deed) [ true ↦ RunNow (record { 0 = l.0 }) | false ↦ Skip (record { 0 = l.0 }) ])
    by_fallback true = (refl, (l.1, names.0, names.1))
    by_fallback false = tt

run_deeds : (S : Scenario) (e : EventNo) (b : Bool) (xs : List Numbered) → AllByRecursion (Names S e) xs → AllByRecursion (λ x. IsRun S e b (deed b x)) xs
run_deeds S e b [] all = tt
run_deeds S e b (x ∷ xs) all = (run_deed S e b x all.0, run_deeds S e b xs all.1)

after_all : (P : Deed → Type 0) (after : Option ListenerNo) (ds : List Deed) → AllByRecursion P ds → AllByRecursion P (deeds_after after ds)
after_all P None ds all = all
after_all P (Some l) ds all = later_all P l ds all

and_same : (b : Bool) → b && b ≡ b
and_same true = refl
and_same false = refl

all_run : (S : Scenario) (p : Publication) → AllByRecursion (IsRun S p.event (p.registers && p.registers)) (later_deeds S p)
unfolding deeds
all_run S p =
    let b = p.registers && p.registers in
    after_all (IsRun S p.event b) p.after (deeds S p.event p.registers p.registers)
    (map_all (IsRun S p.event b) (deed b) (dealt_with S p.event) (run_deeds S p.event b (dealt_with S p.event) (dealt_names S p.event)))

-- what runs at once goes on as the publication of its listener
run_is : (S : Scenario) (p : Publication) (l : ListenerNo) (ds : List Deed) → later_deeds S p ≡ RunNow l ∷ ds
    → ((x : Listener) × (slice_get S.listeners l.0 ≡ Some x)) × (dealt p l ≡ publication_of S l)
run_is S p l ds is =
    let runs = (subst (AllByRecursion (IsRun S p.event (p.registers && p.registers))) is (all_run S p)).0 in
    let (x, there, names) = runs.1 in
    let registers : p.registers ≡ false = sym (and_same p.registers) ∙ runs.0 in
    let first : EventNo = record { 0 = 0 } in
    let event : p.event ≡ event_of S l = (λ i. record { 0 = sym names i }) ∙ ap (λ o. option_map_or (λ (x : Listener). x.event) o first) (sym there) in
    ((x, there), (λ i. record { event = event i; after = Some l; registers = registers i }))

-- ---- a listener that runs at once

listens_is : (S : Scenario) (calls : Calls) (l : ListenerNo) (o : Option Listener) (x : Listener) → o ≡ Some x → (rest : List Deed) (st : State)
    → and_then (listens S calls l o st) (deals S calls rest) ≡ and_then (and_then (Over None (say (Line.Listen l) st)) (callback S calls (listener_body o))) (deals S calls rest)
listens_is S calls l (Some y) x is rest st = refl
listens_is S calls l None x is rest st = cc

-- ---- what is done with the next listener

module _ (S : Scenario) (p : Publication) where
  next_deed : (d : Deed) → Some d ≡ first_deed (later_deeds S p) → later_deeds S p ≡ d ∷ later_deeds S (dealt p (listener_of d))
  next_deed d next =
      let (rest, is) = first_some (later_deeds S p) d next in is ∙ ap (λ ds. d ∷ ds) (sym (later_is S p d rest is))

  -- it calls only methods of a rank below this, as those after it do
  pub below_next : (k : ℕ) (d : Deed) → Some d ≡ first_deed (later_deeds S p) → DeedsBelow S k (later_deeds S p) → DeedsBelow S k (d ∷ later_deeds S (dealt p (listener_of d)))
  below_next k d next below = subst (DeedsBelow S k) (next_deed d next) below

  module _ (l : ListenerNo) where
    pub below_run : (k : ℕ) → Some (RunNow l) ≡ first_deed (later_deeds S p) → DeedsBelow S k (later_deeds S p) → DeedsBelow S k (RunNow l ∷ later_deeds S (publication_of S l))
    below_run k next below =
        let runs = (run_is S p l (later_deeds S (dealt p l)) (next_deed (RunNow l) next)).1 in
        subst (λ q. DeedsBelow S k (RunNow l ∷ later_deeds S q)) runs (below_next k (RunNow l) next below)

    module _ (calls : Calls) (st : State) where
      -- it is registered, runs at once, or is skipped
      pub deals_registered : Some (Register l) ≡ first_deed (later_deeds S p) → deals S calls (later_deeds S p) st ≡ registers_one S calls p l st
      unfolding deals
      deals_registered next = ap (λ ds. deals S calls ds st) (next_deed (Register l) next)

      pub deals_run : Some (RunNow l) ≡ first_deed (later_deeds S p) → deals S calls (later_deeds S p) st ≡ runs_one S calls l st
      unfolding deals
      deals_run next =
          let is = next_deed (RunNow l) next in
          let (found, runs) = run_is S p l (later_deeds S (dealt p l)) is in
          ap (λ ds. deals S calls ds st) is
          ∙ ap (λ q. and_then (listens S calls l (slice_get S.listeners l.0) st) (deals S calls (later_deeds S q))) runs
          ∙ listens_is S calls l (slice_get S.listeners l.0) found.0 found.1 (later_deeds S (publication_of S l)) st

      pub deals_skipped : Some (Skip l) ≡ first_deed (later_deeds S p) → deals S calls (later_deeds S p) st ≡ deals S calls (later_deeds S (dealt p l)) (say (Line.Skip l) st)
      unfolding deals
      deals_skipped next = ap (λ ds. deals S calls ds st) (next_deed (Skip l) next)

-- ---- whether listeners become registrations

pub deeds_as : (S : Scenario) (e : EventNo) (active live b : Bool) → b ≡ (active && live) → deeds S e active live ≡ deeds S e b b
unfolding deeds
deeds_as S e active live b is = ap (λ c. map (deed c) (dealt_with S e)) (sym is ∙ sym (and_same b))

-- ---- the place after a deed

drop_mapped_one : (ds : List DeedData) (i : ℕ) (x : DeedData) → i < length ds → drop i (map deed_of ds) ≡ deed_of (slice_index_or ds i x) ∷ drop (suc i) (map deed_of ds)
drop_mapped_one [] i x less = absurd (omega (arith, less))
drop_mapped_one (d ∷ ds) zero x less = refl
drop_mapped_one (d ∷ ds) (suc i) x less = drop_mapped_one ds i x (omega (arith, less))

drop_mapped : (ds : List DeedData) (i : ℕ) (x : DeedData) → i < length ds → drop i (map deed_of ds) ≡ deed_of (slice_index_or ds i x) ∷ drop (i + 1) (map deed_of ds)
drop_mapped ds i x less = drop_mapped_one ds i x less ∙ ap (λ n. deed_of (slice_index_or ds i x) ∷ drop n (map deed_of ds)) (sym (add-one i))

module _ (l : ListenerNo) (ds : List DeedData) (i : ℕ) (x : DeedData) (less : i < length ds) where
  pub found_at : l.0 ≡ (listener_of (deed_of (slice_index_or ds i x))).0 → later_than l (drop i (map deed_of ds)) ≡ drop (i + 1) (map deed_of ds)
  found_at same =
      ap (later_than l) (drop_mapped ds i x less)
      ∙ by_same l.0 (listener_of (deed_of (slice_index_or ds i x))).0 (drop (i + 1) (map deed_of ds)) (later_than l (drop (i + 1) (map deed_of ds))) same

  pub passed_at : l.0 ≢ (listener_of (deed_of (slice_index_or ds i x))).0 → later_than l (drop i (map deed_of ds)) ≡ later_than l (drop (i + 1) (map deed_of ds))
  passed_at other =
      ap (later_than l) (drop_mapped ds i x less)
      ∙ by_other (l.0 == (listener_of (deed_of (slice_index_or ds i x))).0) l.0 (listener_of (deed_of (slice_index_or ds i x))).0 (drop (i + 1) (map deed_of ds))
      (later_than l (drop (i + 1) (map deed_of ds))) refl other

pub none_after : (l : ListenerNo) (ds : List DeedData) → later_than l (drop (length ds) (map deed_of ds)) ≡ drop (length ds) (map deed_of ds)
none_after l [] = refl
none_after l (d ∷ ds) = none_after l ds

-- ---- the deed at a place

pub first_at : (ds : List DeedData) (i : ℕ) → option_map deed_of (slice_get ds i) ≡ first_deed (drop i (map deed_of ds))
first_at [] zero = refl
first_at [] (suc i) = refl
first_at (d ∷ ds) zero = refl
first_at (d ∷ ds) (suc i) = first_at ds i
