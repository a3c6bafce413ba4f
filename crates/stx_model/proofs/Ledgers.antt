-- What a script has outstanding, as a ledger: what its lines have opened, and what its notes have left out and alive.
use Rattle.std.proofs.Common.{◌≡◌, ℕ, zero, suc, ◌+◌, ◌≤◌, ◌==◌, ◌∷◌, ◌++◌, [], Bool, true, false, not, ◌&&◌, ◌||◌, List, Option, Some, None, refl, sym, ap, ◌∙◌, subst, arith, fold, length, filter, eq-eqb, eqb-true, append_assoc}
use Rattle.std.specs.Prelude.{drop}
use Rattle.std.specs.Option.{option_map}
use Rattle.std.specs.List.{list_any, IsDistinct, AllByRecursion}
use Rattle.std.proofs.lemmas.Bool.{false≢true, or_left}
use Rattle.std.proofs.lemmas.List.{length-append}
use Rattle.std.proofs.lemmas.List.Elements.{filter-append, filter_map-append}
use Rattle.std.proofs.lemmas.List.Folds.{list_any-append}
use Rattle.std.proofs.lemmas.List.Sums.{fold-append}
use Rattle.stx_scenario.specs.declared.scenario.Scenario.{Scenario}
use Rattle.stx_base.specs.declared.history.PoolNote.{PoolNote}
use Rattle.stx_base.specs.declared.history.StoreNote.{StoreNote}
use Rattle.stx_base.specs.declared.line.Line.{Line}
use Rattle.stx_base.specs.declared.line.Label.{Label}
use Rattle.stx_base.specs.Notes.{store_line}
use Rattle.stx_base.specs.Pools.{contains, out_after, out}
use Rattle.stx_base.specs.Stores.{begun, begun_by, ends, is_live, pointed, savepoints}
use Rattle.stx_base.specs.Valid.{IsInOrder}
use Rattle.stx_base.proofs.HistoryLaws.{or-false, or_none, list_any-push, begun-push, is_live-parts, is_live-push, savepoints-push}
use Rattle.stx_base.proofs.PoolLaws.{IsApart, without-absent}
use Rattle.stx_model.specs.Brackets.{open_after, connection_bracket, transaction_bracket, binding_bracket, same_label, OpenCall, calls_after, count}
use Rattle.stx_model.specs.Contexts.{Context, Live, Registration, registered}
use Rattle.stx_model.specs.Reads.{TakesFresh, TakesFreshFrom, BeginsFresh}

-- ---- what lines have opened

-- how many completions of a label are owed after a line; none once one was completed that wasn't owed
abbrev pub one_less : ℕ → Option ℕ
one_less zero = None
one_less (suc n) = Some n

-- one less, if so
abbrev pub paid : Bool → ℕ → Option ℕ
paid true n = one_less n
paid false n = Some n

-- one more, if so
abbrev pub counted : Bool → ℕ → ℕ
counted true n = suc n
counted false n = n

abbrev pub none_owed : ℕ → Option ℕ
none_owed zero = Some zero
none_owed (suc n) = None

abbrev pub owed_after : Label → Option ℕ → Line → Option ℕ
owed_after label None line = None
owed_after label (Some n) (Line.Register l) = Some (counted (same_label l label) n)
owed_after label (Some n) (Line.AfterCompletion l committed) = paid (same_label l label) n
owed_after label (Some n) (Line.Top k) = none_owed n
owed_after label (Some n) line = Some n

pub record Tally : Type 0 where
  pub connections : Option (List ℕ)
  pub transactions : Option (List ℕ)
  pub bindings : Option (List ℕ)
  pub calls : Option (List OpenCall)
  pub owed : Option ℕ

abbrev pub tallied : Label → Tally → Line → Tally
tallied label tally line = record {
  connections = open_after tally.connections (connection_bracket line);
  transactions = open_after tally.transactions (transaction_bracket line);
  bindings = open_after tally.bindings (binding_bracket line);
  calls = calls_after tally.calls line;
  owed = owed_after label tally.owed line;
}

abbrev pub nothing_open : Tally
nothing_open = record { connections = Some []; transactions = Some []; bindings = Some []; calls = Some []; owed = Some 0 }

abbrev pub tally : Label → List Line → Tally
tally label lines = fold (tallied label) nothing_open lines

pub tally_push : (label : Label) (lines : List Line) (line : Line) → tally label (lines ++ line ∷ []) ≡ tallied label (tally label lines) line
tally_push label lines line = fold-append (tallied label) nothing_open lines (line ∷ [])

-- ---- the ledger

-- the connection and the transaction of a context
pub record Bound : Type 0 where
  pub connection : ℕ
  pub transaction : ℕ

abbrev pub bound : Option Live → Option Bound
bound tx = option_map (λ live. record { connection = live.connection; transaction = live.transaction }) tx

-- the connections that are out, the transactions that live and the connections that are unbound, the newest first; the calls
-- that are open; the completions of a label that are owed to others than the context; the savepoints of each transaction;
-- and what the context has
pub record Ledger : Type 0 where
  pub connections : List ℕ
  pub transactions : List ℕ
  pub unbound : List ℕ
  pub calls : List OpenCall
  pub owed : ℕ
  pub points : ℕ → List Bool
  pub tx : Option Bound
  pub active : Bool

abbrev pub nothing_outstanding : Ledger
nothing_outstanding = record { connections = []; transactions = []; unbound = []; calls = []; owed = 0; points = λ u. []; tx = None; active = false }

-- how many registrations of a label there are
abbrev pub carried : Label → List Registration → ℕ
carried label [] = 0
carried label (r ∷ rs) = counted (same_label r.label label) (carried label rs)

abbrev pub opened : Label → Ledger → Context → Tally
opened label L context = record {
  connections = Some L.connections;
  transactions = Some L.transactions;
  bindings = Some L.unbound;
  calls = Some L.calls;
  owed = Some (L.owed + carried label (registered context.syncs));
}

-- ---- the notes of the pool

pub record PoolRead (pool : List PoolNote) (connections : List ℕ) (left : List PoolNote) : Type 0 where
  pub read : List PoolNote
  pub is : pool ≡ read ++ left
  pub out_is : TakesFresh pool → out read ≡ connections
  pub apart : TakesFresh pool → IsApart connections

whole : {N : Type 0} (all read left : List N) (n : N) → all ≡ read ++ left → left ≡ n ∷ drop 1 left → all ≡ (read ++ n ∷ []) ++ drop 1 left
whole all read left n is first = is ∙ ap (λ ns. read ++ ns) first ∙ sym (append_assoc read (n ∷ []) (drop 1 left))

out_push : (ns : List PoolNote) (n : PoolNote) → out (ns ++ n ∷ []) ≡ out_after (out ns) n
out_push ns n = fold-append out_after [] ns (n ∷ [])

fresh_from : (taken : List ℕ) (read : List PoolNote) (c : ℕ) (rest : List PoolNote) → TakesFreshFrom taken (read ++ PoolNote.Taken c ∷ rest) → contains (fold out_after taken read) c ≡ false
fresh_from taken [] c rest fresh = fresh.0
fresh_from taken (PoolNote.Taken d ∷ read) c rest fresh = fresh_from (out_after taken (PoolNote.Taken d)) read c rest fresh.1
fresh_from taken (PoolNote.Empty ∷ read) c rest fresh = fresh_from (out_after taken PoolNote.Empty) read c rest fresh
fresh_from taken (PoolNote.Given d ∷ read) c rest fresh = fresh_from (out_after taken (PoolNote.Given d)) read c rest fresh

pub reads_empty : (pool : List PoolNote) (cs : List ℕ) (left : List PoolNote) → left ≡ PoolNote.Empty ∷ drop 1 left → PoolRead pool cs left → PoolRead pool cs (drop 1 left)
reads_empty pool cs left first h = record {
  read = h.read ++ PoolNote.Empty ∷ [];
  is = whole pool h.read left PoolNote.Empty h.is first;
  out_is = λ fresh. out_push h.read PoolNote.Empty ∙ h.out_is fresh;
  apart = h.apart;
}

pub reads_taken : (pool : List PoolNote) (cs : List ℕ) (left : List PoolNote) (c : ℕ) → left ≡ PoolNote.Taken c ∷ drop 1 left → PoolRead pool cs left → PoolRead pool (c ∷ cs) (drop 1 left)
reads_taken pool cs left c first h = record {
  read = h.read ++ PoolNote.Taken c ∷ [];
  is = whole pool h.read left (PoolNote.Taken c) h.is first;
  out_is = λ fresh. out_push h.read (PoolNote.Taken c) ∙ ap (λ ns. c ∷ ns) (h.out_is fresh);
  apart = λ fresh. (
    ap (λ ns. contains ns c) (sym (h.out_is fresh))
        ∙ fresh_from [] h.read c (drop 1 left) (subst TakesFresh (h.is ∙ ap (λ ns. h.read ++ ns) first) fresh),
    h.apart fresh,
  );
}

pub reads_given : (pool : List PoolNote) (cs : List ℕ) (left : List PoolNote) (c : ℕ) → left ≡ PoolNote.Given c ∷ drop 1 left → PoolRead pool (c ∷ cs) left → PoolRead pool cs (drop 1 left)
reads_given pool cs left c first h = record {
  read = h.read ++ PoolNote.Given c ∷ [];
  is = whole pool h.read left (PoolNote.Given c) h.is first;
  out_is = λ fresh. out_push h.read (PoolNote.Given c)
      ∙ ap (λ ns. out_after ns (PoolNote.Given c)) (h.out_is fresh)
      ∙ rw (eq-eqb c c refl) (without-absent cs c (h.apart fresh).0);
  apart = λ fresh. (h.apart fresh).1;
}

-- ---- the notes of the store

-- a line that ends this transaction
abbrev pub is_end : ℕ → Line → Bool
is_end t (Line.Commit u n) = u == t
is_end t (Line.Rollback u) = u == t
is_end t _ = false

-- what is proved of proper calls is proved of these
abbrev pub IsSound : Scenario → List StoreNote → Type 0
IsSound S store = IsInOrder S × BeginsFresh store

-- what the notes that were read say of transactions, and that the lines end none twice
pub record StoreRead (S : Scenario) (store : List StoreNote) (transactions : List ℕ) (points : ℕ → List Bool) (lines : List Line) (left : List StoreNote) : Type 0 where
  pub read : List StoreNote
  pub is : store ≡ read ++ left
  pub points_are : (u : ℕ) → savepoints read u ≡ points u
  pub lives : BeginsFresh store → (u : ℕ) → is_live read u ≡ contains transactions u
  pub apart : BeginsFresh store → IsApart transactions
  pub unended : BeginsFresh store → (u : ℕ) → contains (begun read) u ≡ false → list_any (ends u) read ≡ false
  pub unpointed : IsSound S store → (u : ℕ) → contains (begun read) u ≡ false → points u ≡ []
  pub said : (u : ℕ) → list_any (is_end u) lines ≡ list_any (ends u) read
  pub once : BeginsFresh store → (u : ℕ) → count (is_end u) lines ≤ 1

pub count_append : {X : Type 0} (p : X → Bool) (xs ys : List X) → count p (xs ++ ys) ≡ count p xs + count p ys
count_append p xs ys = ap length (filter-append p xs ys) ∙ length-append (filter p xs) (filter p ys)

pub count_none : {X : Type 0} (p : X → Bool) (xs : List X) → list_any p xs ≡ false → count p xs ≡ 0
count_none p [] none = refl
count_none p (x ∷ xs) none = let parts = or_none (p x) (list_any p xs) none in rw (parts.0, filter) (count_none p xs parts.1)

count_one : {X : Type 0} (p : X → Bool) (x : X) → count p (x ∷ []) ≤ 1
count_one p x = by (p x) refl
  where
    by : (b : Bool) → p x ≡ b → count p (x ∷ []) ≤ 1
    by true is = rw (is, filter) (omega arith)
    by false is = rw (is, filter) (omega arith)

not_true_is : (b e : Bool) → (b && not e) ≡ true → e ≡ false
not_true_is true false is = refl
not_true_is true true is = absurd (false≢true is)
not_true_is false e is = absurd (false≢true is)

-- a line that ends no transaction
pub silent : (S : Scenario) (store : List StoreNote) (ts : List ℕ) (points : ℕ → List Bool) (lines : List Line) (left : List StoreNote) (line : Line) → ((u : ℕ) → is_end u line ≡ false)
    → StoreRead S store ts points lines left → StoreRead S store ts points (lines ++ line ∷ []) left
silent S store ts points lines left line ends_none h = record {
  read = h.read;
  is = h.is;
  points_are = h.points_are;
  lives = h.lives;
  apart = h.apart;
  unended = h.unended;
  unpointed = h.unpointed;
  said = λ u. list_any-push (is_end u) lines line ∙ ap (λ b. list_any (is_end u) lines || b) (ends_none u) ∙ or-false (list_any (is_end u) lines) ∙ h.said u;
  once = λ fresh u. let before : count (is_end u) lines ≤ 1 = h.once fresh u in
      omega (arith, count_append (is_end u) lines (line ∷ []), count_none (is_end u) (line ∷ []) (rw (ends_none u) refl));
}

begun_before : (ns : List StoreNote) (n : StoreNote) (u : ℕ) → contains (begun (ns ++ n ∷ [])) u ≡ false → (contains (begun ns) u ≡ false) × (contains (begun (n ∷ [])) u ≡ false)
begun_before ns n u absent =
    or_none (contains (begun ns) u) (contains (begun (n ∷ [])) u)
    (sym (list_any-append (λ m. m == u) (begun ns) (begun (n ∷ []))) ∙ ap (λ ms. contains ms u) (sym (begun-push ns n)) ∙ absent)

at_middle : (p : ℕ → Type 0) (xs : List ℕ) (t : ℕ) (ys : List ℕ) → AllByRecursion p ((xs ++ t ∷ []) ++ ys) → p t
at_middle p [] t ys all = all.0
at_middle p (x ∷ xs) t ys all = at_middle p xs t ys all.1

distinct_before : (xs : List ℕ) (t : ℕ) (ys : List ℕ) → IsDistinct ◌==◌ ((xs ++ t ∷ []) ++ ys) → contains xs t ≡ false
unfolding IsDistinct
distinct_before [] t ys apart = refl
distinct_before (x ∷ xs) t ys apart = ap (λ b. b || contains xs t) (at_middle (λ y. (x == y) ≡ false) xs t ys apart.0) ∙ distinct_before xs t ys apart.1

-- where no number is begun twice, a begin's number wasn't begun before
fresh_begin : (store read : List StoreNote) (t : ℕ) (rest : List StoreNote) → BeginsFresh store → store ≡ (read ++ StoreNote.Begin t ∷ []) ++ rest → contains (begun read) t ≡ false
fresh_begin store read t rest fresh is =
    distinct_before (begun read) t (begun rest) (subst (IsDistinct ◌==◌)
    (ap begun is ∙ filter_map-append begun_by (read ++ StoreNote.Begin t ∷ []) rest ∙ ap (λ ms. ms ++ begun rest) (begun-push read (StoreNote.Begin t))) fresh)

module _ (S : Scenario) (store : List StoreNote) (ts : List ℕ) (points : ℕ → List Bool) (lines : List Line) (left : List StoreNote) where
  abbrev Before : Type 0
  Before = StoreRead S store ts points lines left

  -- after one more note
  abbrev After : List ℕ → StoreNote → Type 0
  After us n = StoreRead S store us (λ u. pointed u (points u) n) (lines ++ store_line n ∷ []) (drop 1 left)

  -- a number that isn't begun doesn't live
  dead : (h : Before) → BeginsFresh store → (u : ℕ) → contains (begun h.read) u ≡ false → contains ts u ≡ false
  dead h fresh u absent = sym (h.lives fresh u) ∙ is_live-parts h.read u ∙ ap (λ b. b && not (list_any (ends u) h.read)) absent

  other_test : (b e : Bool) → ((b || false) && not (e || false)) ≡ (b && not e)
  other_test true true = refl
  other_test true false = refl
  other_test false true = refl
  other_test false false = refl

  -- a note that begins and ends nothing; a savepoint is of a transaction that was begun
  pub reads_other : (n : StoreNote) → begun (n ∷ []) ≡ [] → ((u : ℕ) → ends u n ≡ false) → ((u : ℕ) → is_end u (store_line n) ≡ false) → left ≡ n ∷ drop 1 left
      → (IsSound S store → (u : ℕ) → points u ≡ [] → contains ts u ≡ false → pointed u [] n ≡ []) → Before → After ts n
  unfolding silent
  reads_other n nothing ends_none line_ends_none first kept h =
      let spoken = silent S store ts points lines left (store_line n) line_ends_none h in
      record {
        read = h.read ++ n ∷ [];
        is = whole store h.read left n h.is first;
        points_are = λ u. savepoints-push h.read n u ∙ ap (λ ps. pointed u ps n) (h.points_are u);
        lives = λ fresh u. is_live-push h.read n u
            ∙ ap (λ ms. (contains (begun h.read) u || contains ms u) && not (list_any (ends u) h.read || ends u n)) nothing
            ∙ ap (λ b. (contains (begun h.read) u || false) && not (list_any (ends u) h.read || b)) (ends_none u)
            ∙ other_test (contains (begun h.read) u) (list_any (ends u) h.read)
            ∙ sym (is_live-parts h.read u)
            ∙ h.lives fresh u;
        apart = h.apart;
        unended = λ fresh u absent. list_any-push (ends u) h.read n ∙ ap (λ b. b || ends u n) (h.unended fresh u (begun_before h.read n u absent).0) ∙ ends_none u;
        unpointed = λ sound u absent.
            let was = (begun_before h.read n u absent).0 in
            let none = h.unpointed sound u was in
            ap (λ ps. pointed u ps n) none ∙ kept sound u none (dead h sound.1 u was);
        said = λ u. spoken.said u ∙ sym (or-false (list_any (ends u) h.read)) ∙ ap (λ b. list_any (ends u) h.read || b) (sym (ends_none u)) ∙ sym (list_any-push (ends u) h.read n);
        once = spoken.once;
      }

  begin_test : (b e s : Bool) (l : Bool) → (b && not e) ≡ l → (s ≡ true → e ≡ false) → ((b || (s || false)) && not (e || false)) ≡ (s || l)
  begin_test true true true l was new = absurd (false≢true (sym (new refl)))
  begin_test false true true l was new = absurd (false≢true (sym (new refl)))
  begin_test true false true l was new = refl
  begin_test false false true l was new = refl
  begin_test true true false l was new = was
  begin_test true false false l was new = was
  begin_test false true false l was new = was
  begin_test false false false l was new = was

  pub reads_begin : (t : ℕ) → left ≡ StoreNote.Begin t ∷ drop 1 left → Before → After (t ∷ ts) (StoreNote.Begin t)
  unfolding silent
  reads_begin t first h =
      let n : StoreNote = StoreNote.Begin t in
      let all = whole store h.read left n h.is first in
      let spoken = silent S store ts points lines left (Line.Begin t) (λ u. refl) h in
      record {
        read = h.read ++ n ∷ [];
        is = all;
        points_are = λ u. savepoints-push h.read n u ∙ ap (λ ps. pointed u ps n) (h.points_are u);
        lives = λ fresh u. is_live-push h.read n u
            ∙ begin_test (contains (begun h.read) u) (list_any (ends u) h.read) (t == u) (contains ts u) (sym (is_live-parts h.read u) ∙ h.lives fresh u)
            (λ same. h.unended fresh u (subst (λ v. contains (begun h.read) v ≡ false) (eqb-true t u same) (fresh_begin store h.read t (drop 1 left) fresh all)));
        apart = λ fresh. (dead h fresh t (fresh_begin store h.read t (drop 1 left) fresh all), h.apart fresh);
        unended = λ fresh u absent. list_any-push (ends u) h.read n ∙ ap (λ b. b || false) (h.unended fresh u (begun_before h.read n u absent).0);
        unpointed = λ sound u absent. h.unpointed sound u (begun_before h.read n u absent).0;
        said = λ u. spoken.said u ∙ sym (or-false (list_any (ends u) h.read)) ∙ sym (list_any-push (ends u) h.read n);
        once = spoken.once;
      }

  -- a begin's transaction has no savepoint
  pub begin_unpointed : (t : ℕ) → left ≡ StoreNote.Begin t ∷ drop 1 left → Before → IsSound S store → points t ≡ []
  begin_unpointed t first h sound =
      h.unpointed sound t (fresh_begin store h.read t (drop 1 left) sound.1 (whole store h.read left (StoreNote.Begin t) h.is first))

  end_test : (b e s l : Bool) → (b && not e) ≡ (s || l) → (s ≡ true → l ≡ false) → ((b || false) && not (e || s)) ≡ l
  end_test true true true l was apart = sym (apart refl)
  end_test true false true l was apart = sym (apart refl)
  end_test false true true l was apart = sym (apart refl)
  end_test false false true l was apart = sym (apart refl)
  end_test true true false l was apart = was
  end_test true false false l was apart = was
  end_test false true false l was apart = was
  end_test false false false l was apart = was

module _ (S : Scenario) (store : List StoreNote) (t : ℕ) (ts : List ℕ) (points : ℕ → List Bool) (lines : List Line) (left : List StoreNote) where
  lives_now : (h : StoreRead S store (t ∷ ts) points lines left) → BeginsFresh store → (contains (begun h.read) t && not (list_any (ends t) h.read)) ≡ true
  lives_now h fresh = sym (is_live-parts h.read t) ∙ h.lives fresh t ∙ or_left (t == t) (contains ts t) (eq-eqb t t refl)

  -- the newest of those that live ends
  pub reads_end : (n : StoreNote) → begun (n ∷ []) ≡ [] → ((u : ℕ) → ends u n ≡ (t == u)) → ((u : ℕ) → is_end u (store_line n) ≡ (t == u)) → ((u : ℕ) → pointed u (points u) n ≡ points u)
      → left ≡ n ∷ drop 1 left → StoreRead S store (t ∷ ts) points lines left → StoreRead S store ts points (lines ++ store_line n ∷ []) (drop 1 left)
  reads_end n nothing ends_it line_ends_it kept first h = record {
    read = h.read ++ n ∷ [];
    is = whole store h.read left n h.is first;
    points_are = λ u. savepoints-push h.read n u ∙ ap (λ ps. pointed u ps n) (h.points_are u) ∙ kept u;
    lives = λ fresh u. is_live-push h.read n u
        ∙ ap (λ ms. (contains (begun h.read) u || contains ms u) && not (list_any (ends u) h.read || ends u n)) nothing
        ∙ ap (λ b. (contains (begun h.read) u || false) && not (list_any (ends u) h.read || b)) (ends_it u)
        ∙ end_test S store ts points lines left (contains (begun h.read) u) (list_any (ends u) h.read) (t == u) (contains ts u) (sym (is_live-parts h.read u) ∙ h.lives fresh u)
        (λ same. subst (λ v. contains ts v ≡ false) (eqb-true t u same) (h.apart fresh).0);
    apart = λ fresh. (h.apart fresh).1;
    unended = λ fresh u absent.
        let was = (begun_before h.read n u absent).0 in
        let other = or_none (t == u) (contains ts u) (dead S store (t ∷ ts) points lines left h fresh u was) in
        list_any-push (ends u) h.read n ∙ ap (λ b. b || ends u n) (h.unended fresh u was) ∙ ends_it u ∙ other.0;
    unpointed = λ sound u absent. h.unpointed sound u (begun_before h.read n u absent).0;
    said = λ u. list_any-push (is_end u) lines (store_line n)
        ∙ ap (λ b. b || is_end u (store_line n)) (h.said u)
        ∙ ap (λ b. list_any (ends u) h.read || b) (line_ends_it u ∙ sym (ends_it u))
        ∙ sym (list_any-push (ends u) h.read n);
    once = λ fresh u. at_most fresh u (t == u) refl;
  }
    where
      at_most : BeginsFresh store → (u : ℕ) (b : Bool) → (t == u) ≡ b → count (is_end u) (lines ++ store_line n ∷ []) ≤ 1
      at_most fresh u false other =
          let before : count (is_end u) lines ≤ 1 = h.once fresh u in
          omega (arith, count_append (is_end u) lines (store_line n ∷ []), count_none (is_end u) (store_line n ∷ []) (rw (line_ends_it u, other) refl))
      at_most fresh u true same =
          let here : list_any (is_end u) lines ≡ false =
          h.said u ∙ subst (λ v. list_any (ends v) h.read ≡ false) (eqb-true t u same) (not_true_is (contains (begun h.read) t) (list_any (ends t) h.read) (lives_now h fresh)) in
          omega (arith, count_append (is_end u) lines (store_line n ∷ []), count_none (is_end u) lines here, count_one (is_end u) (store_line n))
