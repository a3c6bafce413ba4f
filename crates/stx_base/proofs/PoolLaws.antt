-- The pool's laws: which connections are out in a legal history, and how that changes by one entry.
use Rattle.std.proofs.Common.{◌≡◌, ◌≢◌, ◌⊎◌, ℕ, zero, suc, ◌+◌, ◌<◌, ◌≤◌, Bool, true, false, not, ◌||◌, ◌==◌, cond, List, [], ◌∷◌, ◌++◌, length, Option, Some, None, refl, sym, ap, ◌∙◌, subst, inl, inr, arith, eq-eqb, ne_eqb, eqb-true}
use Rattle.std.proofs.lemmas.Bool.{false≢true, cases_Bool, cases_eq, or_cases, or_left, or_right, or_parts, and_parts, not_from_true, not_from_false}
use Rattle.std.proofs.lemmas.List.{map-append}
use Rattle.std.proofs.lemmas.List.Sums.{fold-append}
use Rattle.std.proofs.lemmas.Map.Views.{any-filter_same}
use Rattle.stx_base.specs.declared.call.Want.{Want}
use Rattle.stx_base.specs.declared.history.PoolNote.{PoolNote}
use Rattle.stx_base.specs.declared.history.PoolEntry.{PoolEntry}
use Rattle.stx_base.specs.Histories.{pool_notes, pool_notes_of, has_room}
use Rattle.stx_base.specs.Pools.{contains, without, out_after, out, first_free, taken_or_empty, pool_reply, pool_want, pool_proper}
use Rattle.stx_base.specs.Legal.{PoolFits, PoolLegal}
use Rattle.stx_base.proofs.HistoryLaws.{pool_notes_of-push, pool_notes_of-push_other}
use Rattle.stx_base.proofs.LegalLaws.{PoolLegal-along}

-- ---- one entry more

pub pool_notes-push : (H : List PoolEntry) (e : PoolEntry) → pool_notes (H ++ e ∷ []) ≡ pool_notes H ++ e.note ∷ []
pool_notes-push H e = map-append (λ x. x.note) H (e ∷ [])

-- the connections that are out after one entry more
pub out-push : (H : List PoolEntry) (e : PoolEntry) → out (pool_notes (H ++ e ∷ [])) ≡ out_after (out (pool_notes H)) e.note
out-push H e = ap out (pool_notes-push H e) ∙ fold-append out_after [] (pool_notes H) (e.note ∷ [])

pub own_out-push : (H : List PoolEntry) (e : PoolEntry) (c : ℕ) → e.client ≡ c → out (pool_notes_of (H ++ e ∷ []) c) ≡ out_after (out (pool_notes_of H c)) e.note
own_out-push H e c is = ap out (pool_notes_of-push H e c is) ∙ fold-append out_after [] (pool_notes_of H c) (e.note ∷ [])

-- ---- members

pub contains-without_same : (ns : List ℕ) (n : ℕ) → contains (without ns n) n ≡ false
contains-without_same ns n = any-filter_same (λ m. m == n) (λ m. not (m == n)) false (λ m h. not_from_true (m == n) h) ns

pub contains-without_other : (ns : List ℕ) (n m : ℕ) → m ≢ n → contains (without ns n) m ≡ contains ns m
contains-without_other ns n m differs =
    any-filter_same (λ k. k == m) (λ k. not (k == n)) true
    (λ k h. let same : k ≡ m = eqb-true k m h in not_from_false (k == n) (ne_eqb k n (λ e. differs (sym same ∙ e)))) ns

-- what is left was there, and is another
pub without-left : (ns : List ℕ) (n m : ℕ) → contains (without ns n) m ≡ true → (contains ns m ≡ true) × (m ≢ n)
without-left ns n m left = elim (cases_eq m n) [
  | inl e ↦ absurd (false≢true (sym (contains-without_same ns n) ∙ ap (contains (without ns n)) (sym e) ∙ left))
  | inr ne ↦ (sym (contains-without_other ns n m ne) ∙ left, ne)
]

-- ---- numbers that stand once

-- no number stands twice
abbrev pub IsApart : List ℕ → Type 0
IsApart [] = Unit {0}
IsApart (n ∷ ns) = (contains ns n ≡ false) × IsApart ns

pub without-absent : (ns : List ℕ) (n : ℕ) → contains ns n ≡ false → without ns n ≡ ns
without-absent [] n absent = refl
without-absent (m ∷ ns) n absent =
    let parts = or_parts (m == n) (contains ns n) absent in
    ap (λ b. cond (not b) (m ∷ without ns n) (without ns n)) parts.0 ∙ ap (λ ms. m ∷ ms) (without-absent ns n parts.1)

pub IsApart-without : (ns : List ℕ) (n : ℕ) → IsApart ns → IsApart (without ns n)
IsApart-without [] n apart = tt
IsApart-without (m ∷ ns) n apart =
    let rest = IsApart-without ns n apart.1 in
    elim (cases_eq m n) [
      | inl e ↦ subst (λ b. IsApart (cond (not b) (m ∷ without ns n) (without ns n))) (sym (eq-eqb m n e)) rest
      | inr ne ↦ subst (λ b. IsApart (cond (not b) (m ∷ without ns n) (without ns n))) (sym (ne_eqb m n ne)) (contains-without_other ns n m ne ∙ apart.0, rest)
    ]

-- one of them less
pub length-without : (ns : List ℕ) (n : ℕ) → IsApart ns → contains ns n ≡ true → length ns ≡ suc (length (without ns n))
length-without [] n apart there = absurd (false≢true there)
length-without (m ∷ ns) n apart there = elim (cases_eq m n) [
  | inl e ↦
      let absent : contains ns n ≡ false = ap (contains ns) (sym e) ∙ apart.0 in
      ap (λ ms. suc (length ms)) (sym (without-absent ns n absent))
      ∙ ap (λ b. suc (length (cond (not b) (m ∷ without ns n) (without ns n)))) (sym (eq-eqb m n e))
  | inr ne ↦
      let later : contains ns n ≡ true = ap (λ b. b || contains ns n) (sym (ne_eqb m n ne)) ∙ there in
      ap suc (length-without ns n apart.1 later)
      ∙ ap (λ b. suc (length (cond (not b) (m ∷ without ns n) (without ns n)))) (sym (ne_eqb m n ne))
]

-- each is one of 1 to `size`
abbrev pub IsWithin : ℕ → List ℕ → Type 0
IsWithin size ns = (n : ℕ) → contains ns n ≡ true → (1 ≤ n) × (n ≤ size)

pub apart-le : (size : ℕ) (ns : List ℕ) → IsApart ns → IsWithin size ns → length ns ≤ size
apart-le zero [] apart within = omega arith
apart-le zero (m ∷ ns) apart within =
    let h = within m (or_left (m == m) (contains ns m) (eq-eqb m m refl)) in absurd (omega (arith, h.0, h.1))
apart-le (suc size) ns apart within =
    let rest : length (without ns (suc size)) ≤ size =
    apart-le size (without ns (suc size)) (IsApart-without ns (suc size) apart)
    (λ n left. let was = without-left ns (suc size) n left in let h = within n was.0 in (h.0, omega (arith, h.1, was.1))) in
    elim (cases_Bool (contains ns (suc size))) [
      | inl there ↦ omega (arith, length-without ns (suc size) apart there)
      | inr absent ↦ omega (arith, ap length (without-absent ns (suc size) absent))
    ]

-- one of 1 to `size` is missing
pub apart-lt : (size : ℕ) (ns : List ℕ) (n : ℕ) → IsApart ns → IsWithin size ns → 1 ≤ n → n ≤ size → contains ns n ≡ false → length ns < size
apart-lt size ns n apart within low high absent =
    apart-le size (n ∷ ns) (absent, apart)
    (λ m there. elim (or_cases (n == m) (contains ns m) there) [
      | inl e ↦ subst (λ k. (1 ≤ k) × (k ≤ size)) (eqb-true n m e) (low, high)
      | inr later ↦ within m later
    ])

-- none of them is missing
pub le-apart : (size : ℕ) (ns : List ℕ) → IsApart ns → ((n : ℕ) → 1 ≤ n → n ≤ size → contains ns n ≡ true) → size ≤ length ns
le-apart zero ns apart all = omega arith
le-apart (suc size) ns apart all =
    let rest : size ≤ length (without ns (suc size)) =
    le-apart size (without ns (suc size)) (IsApart-without ns (suc size) apart)
    (λ n low high. contains-without_other ns (suc size) n (λ e. omega arith) ∙ all n low (omega arith)) in
    omega (arith, length-without ns (suc size) apart (all (suc size) (omega arith) (omega arith)))

-- ---- the first free number

free_head : (count c d : ℕ) (taken : List ℕ) (b : Bool) → contains taken c ≡ b
    → (first_free count (c + 1) taken ≡ Some d → (contains taken d ≡ false) × (c + 1 ≤ d) × (d < c + 1 + count))
    → cond b (first_free count (c + 1) taken) (Some c) ≡ Some d → (contains taken d ≡ false) × (c ≤ d) × (d < c + suc count)
free_head count c d taken true is later found = let h = later found in (h.0, omega (arith, h.1), omega (arith, h.2))
free_head count c d taken false is later found =
    let e : c ≡ d = cc in (subst (λ k. contains taken k ≡ false) e is, omega arith, omega arith)

-- the first free number isn't taken, and is one of those that were tried
pub first_free-some : (count c d : ℕ) (taken : List ℕ) → first_free count c taken ≡ Some d → (contains taken d ≡ false) × (c ≤ d) × (d < c + count)
first_free-some zero c d taken found = cc
first_free-some (suc count) c d taken found =
    free_head count c d taken (contains taken c) refl (first_free-some count (c + 1) d taken) found

-- where none is free, each that was tried is taken
pub first_free-none : (count c : ℕ) (taken : List ℕ) → first_free count c taken ≡ None → (n : ℕ) → c ≤ n → n < c + count → contains taken n ≡ true
first_free-none zero c taken none n low high = absurd (omega arith)
first_free-none (suc count) c taken none n low high = elim (cases_Bool (contains taken c)) [
  | inl there ↦
      let later : first_free count (c + 1) taken ≡ None = ap (λ b. cond b (first_free count (c + 1) taken) (Some c)) (sym there) ∙ none in
      elim (cases_eq c n) [
        | inl e ↦ subst (λ k. contains taken k ≡ true) e there
        | inr ne ↦ first_free-none count (c + 1) taken later n (omega arith) (omega arith)
      ]
  | inr free ↦
      let found : Some c ≡ None = ap (λ b. cond b (first_free count (c + 1) taken) (Some c)) (sym free) ∙ none in cc
]

-- a number that isn't taken, where all before it are, is the first free one
pub first_free-at : (count c d : ℕ) (taken : List ℕ) → c ≤ d → d < c + count → contains taken d ≡ false
    → ((n : ℕ) → c ≤ n → n < d → contains taken n ≡ true) → first_free count c taken ≡ Some d
first_free-at zero c d taken low high free before = absurd (omega arith)
first_free-at (suc count) c d taken low high free before = elim (cases_eq c d) [
  | inl e ↦ ap (λ b. cond b (first_free count (c + 1) taken) (Some c)) (ap (contains taken) e ∙ free) ∙ ap Some e
  | inr ne ↦
      ap (λ b. cond b (first_free count (c + 1) taken) (Some c)) (before c (omega arith) (omega arith))
      ∙ first_free-at count (c + 1) d taken (omega arith) (omega arith) free (λ n l h. before n (omega arith) h)
]

-- where all are taken, none is free
pub first_free-all : (count c : ℕ) (taken : List ℕ) → ((n : ℕ) → c ≤ n → n < c + count → contains taken n ≡ true) → first_free count c taken ≡ None
first_free-all zero c taken all = refl
first_free-all (suc count) c taken all =
    ap (λ b. cond b (first_free count (c + 1) taken) (Some c)) (all c (omega arith) (omega arith))
    ∙ first_free-all count (c + 1) taken (λ n low high. all n (omega arith) (omega arith))

-- ---- what is out in a legal history

-- each connection that is out is one of the pool's, out once, and taken by one client, who has it among its own
pub record OutIsOwned (size : ℕ) (H : List PoolEntry) : Type 0 where
  pub within : IsWithin size (out (pool_notes H))
  pub apart : IsApart (out (pool_notes H))
  pub is_out : (a n : ℕ) → contains (out (pool_notes_of H a)) n ≡ true → contains (out (pool_notes H)) n ≡ true
  pub one_owner : (a b n : ℕ) → contains (out (pool_notes_of H a)) n ≡ true → contains (out (pool_notes_of H b)) n ≡ true → a ≡ b

owned_none : (size : ℕ) → OutIsOwned size []
owned_none size = record {
  within = λ n h. absurd (false≢true h);
  apart = tt;
  is_out = λ a n h. absurd (false≢true h);
  one_owner = λ a b n h k. absurd (false≢true h);
}

-- what a client has after an entry: as the entry says where it is the client's, else what it had
own_after : (H : List PoolEntry) (e : PoolEntry) (a n : ℕ) → contains (out (pool_notes_of (H ++ e ∷ []) a)) n ≡ true
    → ((a ≡ e.client) × (contains (out_after (out (pool_notes_of H a)) e.note) n ≡ true))
    ⊎ ((a ≢ e.client) × (contains (out (pool_notes_of H a)) n ≡ true))
own_after H e a n h = elim (cases_eq e.client a) [
  | inl is ↦ inl (sym is, ap (λ ns. contains ns n) (sym (own_out-push H e a is)) ∙ h)
  | inr other ↦ inr (λ k. other (sym k), ap (λ ns. contains (out ns) n) (sym (pool_notes_of-push_other H e a other)) ∙ h)
]

-- after an entry that takes or gives nothing
owned_kept : (size : ℕ) (H : List PoolEntry) (e : PoolEntry) → OutIsOwned size H → ((taken : List ℕ) → out_after taken e.note ≡ taken) → OutIsOwned size (H ++ e ∷ [])
owned_kept size H e was same =
    let all : out (pool_notes (H ++ e ∷ [])) ≡ out (pool_notes H) = out-push H e ∙ same (out (pool_notes H)) in
    let own : (a : ℕ) → out (pool_notes_of (H ++ e ∷ []) a) ≡ out (pool_notes_of H a) =
    λ a. elim (cases_eq e.client a) [
      | inl is ↦ own_out-push H e a is ∙ same (out (pool_notes_of H a))
      | inr other ↦ ap out (pool_notes_of-push_other H e a other)
    ] in
    record {
      within = subst (IsWithin size) (sym all) was.within;
      apart = subst IsApart (sym all) was.apart;
      is_out = λ a n h. ap (λ ns. contains ns n) all ∙ was.is_out a n (ap (λ ns. contains ns n) (sym (own a)) ∙ h);
      one_owner = λ a b n h k. was.one_owner a b n (ap (λ ns. contains ns n) (sym (own a)) ∙ h) (ap (λ ns. contains ns n) (sym (own b)) ∙ k);
    }

-- what a client has after the taking of c: c itself, or what it had
own_after_take : (H : List PoolEntry) (e : PoolEntry) (c : ℕ) → e.note ≡ PoolNote.Taken c → (a n : ℕ) → contains (out (pool_notes_of (H ++ e ∷ []) a)) n ≡ true
    → ((a ≡ e.client) × (n ≡ c)) ⊎ (contains (out (pool_notes_of H a)) n ≡ true)
own_after_take H e c note a n h = elim (own_after H e a n h) [
  | inl here ↦
      let there : ((c == n) || contains (out (pool_notes_of H a)) n) ≡ true = ap (λ x. contains (out_after (out (pool_notes_of H a)) x) n) (sym note) ∙ here.1 in
      elim (or_cases (c == n) (contains (out (pool_notes_of H a)) n) there) [
        | inl is ↦ inl (here.0, sym (eqb-true c n is))
        | inr was ↦ inr was
      ]
  | inr other ↦ inr other.1
]

-- a connection that was in is taken
owned_take : (size : ℕ) (H : List PoolEntry) (e : PoolEntry) (c : ℕ) → e.note ≡ PoolNote.Taken c → OutIsOwned size H
    → (contains (out (pool_notes H)) c ≡ false) × (1 ≤ c) × (c ≤ size) → OutIsOwned size (H ++ e ∷ [])
owned_take size H e c note was free =
    let all : out (pool_notes (H ++ e ∷ [])) ≡ c ∷ out (pool_notes H) = out-push H e ∙ ap (out_after (out (pool_notes H))) note in
    let had : (a n : ℕ) → contains (out (pool_notes_of H a)) n ≡ true → n ≢ c =
    λ a n h is. false≢true (sym free.0 ∙ ap (contains (out (pool_notes H))) (sym is) ∙ was.is_out a n h) in
    record {
      within = subst (IsWithin size) (sym all) (λ n there. elim (or_cases (c == n) (contains (out (pool_notes H)) n) there) [
        | inl is ↦ subst (λ k. (1 ≤ k) × (k ≤ size)) (eqb-true c n is) (free.1, free.2)
        | inr later ↦ was.within n later
      ]);
      apart = subst IsApart (sym all) (free.0, was.apart);
      is_out = λ a n h. ap (λ ns. contains ns n) all ∙ (elim (own_after_take H e c note a n h) [
        | inl this ↦ or_left (c == n) (contains (out (pool_notes H)) n) (eq-eqb c n (sym this.1))
        | inr before ↦ or_right (c == n) (contains (out (pool_notes H)) n) (was.is_out a n before)
      ]);
      one_owner = λ a b n h k. elim (own_after_take H e c note a n h) [
        | inl mine ↦ elim (own_after_take H e c note b n k) [
          | inl too ↦ mine.0 ∙ sym too.0
          | inr before ↦ absurd (had b n before mine.1)
        ]
        | inr before ↦ elim (own_after_take H e c note b n k) [
          | inl mine ↦ absurd (had a n before mine.1)
          | inr too ↦ was.one_owner a b n before too
        ]
      ];
    }

-- what a client has after the giving of c by its owner: what it had, without c
own_after_give : (size : ℕ) (H : List PoolEntry) (e : PoolEntry) (c : ℕ) → e.note ≡ PoolNote.Given c → OutIsOwned size H
    → contains (out (pool_notes_of H e.client)) c ≡ true → (a n : ℕ) → contains (out (pool_notes_of (H ++ e ∷ []) a)) n ≡ true
    → (contains (out (pool_notes_of H a)) n ≡ true) × (n ≢ c)
own_after_give size H e c note was owns a n h = elim (own_after H e a n h) [
  | inl here ↦ without-left (out (pool_notes_of H a)) c n (ap (λ x. contains (out_after (out (pool_notes_of H a)) x) n) (sym note) ∙ here.1)
  | inr other ↦ (other.1, λ is. other.0 (was.one_owner a e.client c (ap (contains (out (pool_notes_of H a))) (sym is) ∙ other.1) owns))
]

-- a connection is given by its owner
owned_give : (size : ℕ) (H : List PoolEntry) (e : PoolEntry) (c : ℕ) → e.note ≡ PoolNote.Given c → OutIsOwned size H
    → contains (out (pool_notes_of H e.client)) c ≡ true → OutIsOwned size (H ++ e ∷ [])
owned_give size H e c note was owns =
    let all : out (pool_notes (H ++ e ∷ [])) ≡ without (out (pool_notes H)) c = out-push H e ∙ ap (out_after (out (pool_notes H))) note in
    record {
      within = subst (IsWithin size) (sym all) (λ n left. was.within n (without-left (out (pool_notes H)) c n left).0);
      apart = subst IsApart (sym all) (IsApart-without (out (pool_notes H)) c was.apart);
      is_out = λ a n h. let kept = own_after_give size H e c note was owns a n h in
          ap (λ ns. contains ns n) all ∙ contains-without_other (out (pool_notes H)) c n kept.1 ∙ was.is_out a n kept.0;
      one_owner = λ a b n h k. was.one_owner a b n (own_after_give size H e c note was owns a n h).0 (own_after_give size H e c note was owns b n k).0;
    }

-- what an entry of each kind says, where it fits
taken_is_first : (size c : ℕ) (H : List PoolEntry) → pool_reply size H Want.Take ≡ Some (PoolNote.Taken c) → first_free size 1 (out (pool_notes H)) ≡ Some c
unfolding pool_reply
taken_is_first size c H reply = is_some_of (first_free size 1 (out (pool_notes H))) reply
  where
    is_some_of : (o : Option ℕ) → Some (taken_or_empty o) ≡ Some (PoolNote.Taken c) → o ≡ Some c
    is_some_of (Some m) h = cc
    is_some_of None h = cc

pub given_is_own : (own : List PoolNote) (c : ℕ) → pool_proper own (Want.Give c) ≡ true → contains (out own) c ≡ true
unfolding pool_proper
given_is_own own c proper = (and_parts (has_room own) (contains (out own) c) proper).1

pub fits_to_take : (n size : ℕ) (H : List PoolEntry) (e : PoolEntry) → PoolFits n size H e → (c : ℕ) → e.note ≡ PoolNote.Taken c → (contains (out (pool_notes H)) c ≡ false) × (1 ≤ c) × (c ≤ size)
fits_to_take n size H e fits c note =
    let reply : pool_reply size H Want.Take ≡ Some (PoolNote.Taken c) = subst (λ x. pool_reply size H (pool_want x) ≡ Some x) note fits.reply in
    let free = first_free-some size 1 c (out (pool_notes H)) (taken_is_first size c H reply) in
    (free.0, free.1, omega (arith, free.2))

owned_more : (n size : ℕ) (H : List PoolEntry) (e : PoolEntry) → OutIsOwned size H → PoolFits n size H e → OutIsOwned size (H ++ e ∷ [])
owned_more n size H e was fits = by_note e.note refl
  where
    by_note : (note : PoolNote) → e.note ≡ note → OutIsOwned size (H ++ e ∷ [])
    by_note (PoolNote.Taken c) is = owned_take size H e c is was (fits_to_take n size H e fits c is)
    by_note PoolNote.Empty is = owned_kept size H e was (λ taken. ap (out_after taken) is)
    by_note (PoolNote.Given c) is =
        owned_give size H e c is was (given_is_own (pool_notes_of H e.client) c (subst (λ x. pool_proper (pool_notes_of H e.client) (pool_want x) ≡ true) is fits.proper))

pub out_is_owned : (n size : ℕ) (H : List PoolEntry) → PoolLegal n size H → OutIsOwned size H
out_is_owned n size H legal = PoolLegal-along n size (OutIsOwned size) (owned_none size) (owned_more n size) H legal

-- no more connections are out than the pool has
pub length-out : (n size : ℕ) (H : List PoolEntry) → PoolLegal n size H → length (out (pool_notes H)) ≤ size
length-out n size H legal =
    let owned = out_is_owned n size H legal in apart-le size (out (pool_notes H)) owned.apart owned.within

-- none is free exactly where all are out
pub none_free : (n size : ℕ) (H : List PoolEntry) → PoolLegal n size H → first_free size 1 (out (pool_notes H)) ≡ None → length (out (pool_notes H)) ≡ size
none_free n size H legal none =
    let owned = out_is_owned n size H legal in
    let most : length (out (pool_notes H)) ≤ size = length-out n size H legal in
    let least : size ≤ length (out (pool_notes H)) =
    le-apart size (out (pool_notes H)) owned.apart (λ k low high. first_free-none size 1 (out (pool_notes H)) none k low (omega arith)) in
    omega arith

pub some_free : (n size c : ℕ) (H : List PoolEntry) → PoolLegal n size H → first_free size 1 (out (pool_notes H)) ≡ Some c → length (out (pool_notes H)) < size
some_free n size c H legal some =
    let owned = out_is_owned n size H legal in
    let free = first_free-some size 1 c (out (pool_notes H)) some in
    apart-lt size (out (pool_notes H)) c owned.apart owned.within free.1 (omega (arith, free.2)) free.0
