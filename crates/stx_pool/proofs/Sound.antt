-- What a take and a give keep true of the flags, the history and the room, and what a take replies by the flags.
use Rattle.std.proofs.Common.{◌≡◌, ◌≢◌, ℕ, zero, suc, ◌+◌, ◌-◌, ◌<◌, ◌≤◌, Bool, true, false, not, ◌||◌, cond, List, [], ◌∷◌, ◌++◌, length, get_or, set, Some, None, IsTrue, position, refl, sym, ap, ◌∙◌, subst, inl, inr, arith, eq-eqb, ne_eqb, length-set, get_or-set_same, get_or-set_other}
use Rattle.std.specs.List.{position_or_len}
use Rattle.std.proofs.lemmas.Bool.{cases_eq, cases_lt, lt-ltb, not-true, not-false}
use Rattle.std.proofs.lemmas.List.Quantifiers.{position-Some}
use Rattle.stx_base.specs.declared.call.Want.{Want}
use Rattle.stx_base.specs.declared.history.PoolNote.{PoolNote}
use Rattle.stx_base.specs.declared.history.PoolEntry.{PoolEntry}
use Rattle.stx_base.specs.Limits.{most_clients}
use Rattle.stx_base.specs.Histories.{pool_notes, pool_notes_of}
use Rattle.stx_base.specs.Pools.{contains, without, out, first_free, taken_or_empty, pool_reply, pool_proper}
use Rattle.stx_base.specs.Legal.{PoolFits, PoolLegal}
use Rattle.stx_base.proofs.LegalLaws.{PoolLegal-push}
use Rattle.stx_base.proofs.PoolLaws.{out-push, contains-without_same, contains-without_other, length-without, first_free-at, first_free-all, given_is_own, out_is_owned, length-out, none_free, some_free}
use Rattle.stx_pool.specs.inner.Keeps.{KeepsPool}

-- ---- the first flag that isn't set

all_set : (flags : List Bool) → length flags ≤ position_or_len not flags → (k : ℕ) → k < length flags → get_or flags k false ≡ true
all_set [] none k h = absurd (omega arith)
all_set (true ∷ flags) none zero h = refl
all_set (true ∷ flags) none (suc k) h = all_set flags (omega arith) k (omega arith)
all_set (false ∷ flags) none k h = absurd (omega arith)

-- the connections tell by their flags which of them is free first
pub free_is_some : (flags : List Bool) (H : List PoolEntry) (spare k : ℕ) → KeepsPool flags H spare → position not flags ≡ Some k
    → first_free (length flags) 1 (out (pool_notes H)) ≡ Some (k + 1)
free_is_some flags H spare k sound found =
    let at = position-Some not flags k false found in
    first_free-at (length flags) 1 (k + 1) (out (pool_notes H)) (omega arith) (omega (arith, at.0))
    (sym (sound.tells k at.0) ∙ not-true (get_or flags k false) at.1)
    (λ n low high.
    let place : n - 1 < k = omega arith in
    let number : n - 1 + 1 ≡ n = omega arith in
    ap (contains (out (pool_notes H))) (sym number)
    ∙ sym (sound.tells (n - 1) (omega (arith, at.0)))
    ∙ not-false (get_or flags (n - 1) false) (at.2 (n - 1) place))

pub free_is_none : (flags : List Bool) (H : List PoolEntry) (spare : ℕ) → KeepsPool flags H spare → position not flags ≡ None
    → first_free (length flags) 1 (out (pool_notes H)) ≡ None
free_is_none flags H spare sound none =
    let past : length flags ≤ position_or_len not flags = elim (cases_lt (position_or_len not flags) (length flags)) [
      | inl lt ↦ let some : Some (position_or_len not flags) ≡ None = ap (λ b. cond b (Some (position_or_len not flags)) None) (sym (lt-ltb (position_or_len not flags) (length flags) lt)) ∙ none in cc
      | inr le ↦ le
    ] in
    first_free-all (length flags) 1 (out (pool_notes H))
    (λ n low high.
    let place : n - 1 < length flags = omega arith in
    let number : n - 1 + 1 ≡ n = omega arith in
    ap (contains (out (pool_notes H))) (sym number) ∙ sym (sound.tells (n - 1) place) ∙ all_set flags past (n - 1) place)

-- ---- a take

pub take_replies : (flags : List Bool) (H : List PoolEntry) (spare k : ℕ) → KeepsPool flags H spare → position not flags ≡ Some k
    → pool_reply (length flags) H Want.Take ≡ Some (PoolNote.Taken (k + 1))
unfolding pool_reply
take_replies flags H spare k sound found = ap (λ o. Some (taken_or_empty o)) (free_is_some flags H spare k sound found)

pub take_replies_empty : (flags : List Bool) (H : List PoolEntry) (spare : ℕ) → KeepsPool flags H spare → position not flags ≡ None
    → pool_reply (length flags) H Want.Take ≡ Some PoolNote.Empty
unfolding pool_reply
take_replies_empty flags H spare sound none = ap (λ o. Some (taken_or_empty o)) (free_is_none flags H spare sound none)

abbrev pub by : ℕ → PoolNote → PoolEntry
by client note = record { client = client; note = note }

-- a flag is set, and a connection taken
pub sound_take : (flags : List Bool) (H H' : List PoolEntry) (spare spare' client k : ℕ) → KeepsPool flags H spare
    → client < most_clients → IsTrue (pool_proper (pool_notes_of H client) Want.Take) → position not flags ≡ Some k
    → H' ≡ H ++ by client (PoolNote.Taken (k + 1)) ∷ [] → length flags ≤ spare'
    → KeepsPool (set flags k true) H' spare'
sound_take flags H H' spare spare' client k sound low proper found grown room =
    let e : PoolEntry = by client (PoolNote.Taken (k + 1)) in
    let fits : PoolFits most_clients (length flags) H e = record { client = low; proper = proper; reply = take_replies flags H spare k sound found } in
    let legal : PoolLegal most_clients (length flags) (H ++ e ∷ []) = PoolLegal-push 64 (length flags) H e sound.legal fits in
    let within : k < length flags = (position-Some not flags k false found).0 in
    let long : length (set flags k true) ≡ length flags = length-set flags k true in
    let outs : out (pool_notes (H ++ e ∷ [])) ≡ (k + 1) ∷ out (pool_notes H) = out-push H e in
    let one_in : length (out (pool_notes H)) < length flags = some_free 64 (length flags) (k + 1) H sound.legal (free_is_some flags H spare k sound found) in
    subst (λ es. KeepsPool (set flags k true) es spare') (sym grown) (record {
      few = omega (arith, sound.few);
      legal = subst (λ n. PoolLegal most_clients n (H ++ e ∷ [])) (sym long) legal;
      tells = λ j h. elim (cases_eq j k) [
        | inl is ↦
            ap (λ i. get_or (set flags k true) i false) is ∙ get_or-set_same flags k true false within
            ∙ sym (ap (λ b. b || contains (out (pool_notes H)) (j + 1)) (eq-eqb (k + 1) (j + 1) (omega arith)))
            ∙ ap (λ ns. contains ns (j + 1)) (sym outs)
        | inr other ↦
            get_or-set_other flags k j true false other ∙ sound.tells j (omega arith)
            ∙ sym (ap (λ b. b || contains (out (pool_notes H)) (j + 1)) (ne_eqb (k + 1) (j + 1) (λ is. other (omega arith))))
            ∙ ap (λ ns. contains ns (j + 1)) (sym outs)
      ];
      room = omega (arith, ap length outs);
    })

-- every connection is out
pub sound_empty : (flags : List Bool) (H H' : List PoolEntry) (spare spare' client : ℕ) → KeepsPool flags H spare
    → client < most_clients → IsTrue (pool_proper (pool_notes_of H client) Want.Take) → position not flags ≡ None
    → H' ≡ H ++ by client PoolNote.Empty ∷ [] → length flags ≤ spare'
    → KeepsPool flags H' spare'
sound_empty flags H H' spare spare' client sound low proper none grown room =
    let e : PoolEntry = by client PoolNote.Empty in
    let fits : PoolFits most_clients (length flags) H e = record { client = low; proper = proper; reply = take_replies_empty flags H spare sound none } in
    let outs : out (pool_notes (H ++ e ∷ [])) ≡ out (pool_notes H) = out-push H e in
    let few_out : length (out (pool_notes H)) ≤ length flags = length-out 64 (length flags) H sound.legal in
    subst (λ es. KeepsPool flags es spare') (sym grown) (record {
      few = sound.few;
      legal = PoolLegal-push 64 (length flags) H e sound.legal fits;
      tells = λ j h. sound.tells j h ∙ ap (λ ns. contains ns (j + 1)) (sym outs);
      room = omega (arith, ap length outs);
    })

-- ---- a give

-- what a client gives is out, and one of the pool's connections
pub given_is_out : (flags : List Bool) (H : List PoolEntry) (spare client n : ℕ) → KeepsPool flags H spare
    → IsTrue (pool_proper (pool_notes_of H client) (Want.Give n))
    → (contains (out (pool_notes H)) n ≡ true) × (1 ≤ n) × (n ≤ length flags)
given_is_out flags H spare client n sound proper =
    let owned = out_is_owned 64 (length flags) H sound.legal in
    let there = owned.is_out client n (given_is_own (pool_notes_of H client) n proper) in
    let within = owned.within n there in
    (there, within.0, within.1)

-- one connection less is out
pub given_leaves : (flags : List Bool) (H : List PoolEntry) (spare client n : ℕ) → KeepsPool flags H spare
    → IsTrue (pool_proper (pool_notes_of H client) (Want.Give n))
    → length (out (pool_notes H)) ≡ suc (length (without (out (pool_notes H)) n))
given_leaves flags H spare client n sound proper =
    length-without (out (pool_notes H)) n (out_is_owned 64 (length flags) H sound.legal).apart (given_is_out flags H spare client n sound proper).0

pub give_replies : (size : ℕ) (H : List PoolEntry) (n : ℕ) → pool_reply size H (Want.Give n) ≡ Some (PoolNote.Given n)
unfolding pool_reply
give_replies size H n = refl

pub sound_give : (flags : List Bool) (H H' : List PoolEntry) (spare spare' client n : ℕ) → KeepsPool flags H spare
    → client < most_clients → IsTrue (pool_proper (pool_notes_of H client) (Want.Give n))
    → H' ≡ H ++ by client (PoolNote.Given n) ∷ [] → spare ≡ spare' + 1
    → KeepsPool (set flags (n - 1) false) H' spare'
sound_give flags H H' spare spare' client n sound low proper grown less =
    let e : PoolEntry = by client (PoolNote.Given n) in
    let fits : PoolFits most_clients (length flags) H e = record { client = low; proper = proper; reply = give_replies (length flags) H n } in
    let legal : PoolLegal most_clients (length flags) (H ++ e ∷ []) = PoolLegal-push 64 (length flags) H e sound.legal fits in
    let given = given_is_out flags H spare client n sound proper in
    let first : 1 ≤ n = given.1 in
    let last : n ≤ length flags = given.2 in
    let long : length (set flags (n - 1) false) ≡ length flags = length-set flags (n - 1) false in
    let outs : out (pool_notes (H ++ e ∷ [])) ≡ without (out (pool_notes H)) n = out-push H e in
    subst (λ es. KeepsPool (set flags (n - 1) false) es spare') (sym grown) (record {
      few = omega (arith, sound.few);
      legal = subst (λ m. PoolLegal most_clients m (H ++ e ∷ [])) (sym long) legal;
      tells = λ j h. elim (cases_eq j (n - 1)) [
        | inl is ↦
            let same : j + 1 ≡ n = omega arith in
            ap (λ i. get_or (set flags (n - 1) false) i false) is ∙ get_or-set_same flags (n - 1) false false (omega arith)
            ∙ sym (ap (contains (without (out (pool_notes H)) n)) same ∙ contains-without_same (out (pool_notes H)) n)
            ∙ ap (λ ns. contains ns (j + 1)) (sym outs)
        | inr other ↦
            let differs : j + 1 ≢ n = λ is. other (omega arith) in
            get_or-set_other flags (n - 1) j false false other ∙ sound.tells j (omega arith)
            ∙ sym (contains-without_other (out (pool_notes H)) n (j + 1) differs)
            ∙ ap (λ ns. contains ns (j + 1)) (sym outs)
      ];
      room = omega (arith, ap length outs, given_leaves flags H spare client n sound proper, sound.room);
    })

-- ---- none is free exactly where all are out

pub some_is_in : (flags : List Bool) (H : List PoolEntry) (spare k : ℕ) → KeepsPool flags H spare → position not flags ≡ Some k
    → length (out (pool_notes H)) < length flags
some_is_in flags H spare k sound found = some_free 64 (length flags) (k + 1) H sound.legal (free_is_some flags H spare k sound found)

pub none_is_in : (flags : List Bool) (H : List PoolEntry) (spare : ℕ) → KeepsPool flags H spare → position not flags ≡ None
    → length (out (pool_notes H)) ≡ length flags
none_is_in flags H spare sound none = none_free 64 (length flags) H sound.legal (free_is_none flags H spare sound none)
