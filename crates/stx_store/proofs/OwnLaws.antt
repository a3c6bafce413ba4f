-- What lives for its client lives for all, and only one client has it.
use Rattle.std.proofs.Common.{◌≡◌, ℕ, Bool, true, false, not, ◌&&◌, ◌||◌, IsTrue, List, [], ◌∷◌, ◌++◌, Some, refl, sym, ap, ◌∙◌, subst, inl, inr, arith, eq-eqb, eqb-true}
use Rattle.std.proofs.Math.Bool.{or-true}
use Rattle.std.specs.List.{list_any}
use Rattle.std.proofs.lemmas.Bool.{false≢true, cases_eq}
use Rattle.stx_base.specs.declared.facts.StoreFacts.{StoreFacts}
use Rattle.stx_base.specs.declared.history.StoreNote.{StoreNote}
use Rattle.stx_base.specs.declared.history.StoreEntry.{StoreEntry}
use Rattle.stx_base.specs.Histories.{store_notes, store_notes_of}
use Rattle.stx_base.specs.Pools.{contains}
use Rattle.stx_base.specs.Stores.{begun, ends, is_live, pointed, savepoints, store_reply, store_want, store_proper}
use Rattle.stx_base.specs.Legal.{StoreLegal}
use Rattle.stx_base.proofs.LegalLaws.{StoreLegal-along, StoreLegal-push}
use Rattle.stx_base.proofs.HistoryLaws.{or-false, or_none, store_notes-push, is_live-push, savepoints-push, store_notes_of-push, store_notes_of-push_other, none_of}
use Rattle.stx_base.proofs.StoreLaws.{names, lives, begin_number, unnamed, Unnamed, is_live_none, savepoints_none, is_live-push_other, savepoints-push_other}
use Rattle.stx_store.proofs.KeepLaws.{live_same, dead}

pub record Owns (H : List StoreEntry) : Type 0 where
  pub live : (c t : ℕ) → is_live (store_notes_of H c) t ≡ true → is_live (store_notes H) t ≡ true
  pub points : (c t : ℕ) → is_live (store_notes_of H c) t ≡ true → savepoints (store_notes H) t ≡ savepoints (store_notes_of H c) t
  pub one : (c d t : ℕ) → is_live (store_notes_of H c) t ≡ true → is_live (store_notes_of H d) t ≡ true → c ≡ d

-- what a note does to a transaction that it names and that lives
pub record Acts (own : List StoreNote) (H : List StoreEntry) (n : StoreNote) (t : ℕ) : Type 0 where
  pub live : is_live (own ++ n ∷ []) t ≡ true → is_live (store_notes H ++ n ∷ []) t ≡ true
  pub points : savepoints (store_notes H ++ n ∷ []) t ≡ savepoints (own ++ n ∷ []) t
  pub only : (d : ℕ) → is_live (store_notes_of H d) t ≡ true → is_live own t ≡ true

any_ends : (ns : List StoreNote) (t : ℕ) → list_any (names t) ns ≡ false → list_any (ends t) ns ≡ false
any_ends [] t h = refl
any_ends (n ∷ ns) t h =
    let parts = or_none (names t n) (list_any (names t) ns) h in
    ap (λ b. b || list_any (ends t) ns) (ended n parts.0) ∙ any_ends ns t parts.1
  where
    ended : (n : StoreNote) → names t n ≡ false → ends t n ≡ false
    ended (StoreNote.Commit u m) h = h
    ended (StoreNote.Rollback u) h = h
    ended n h = refl

begun_here : (ns : List StoreNote) (t : ℕ) → list_any (names t) ns ≡ false → is_live (ns ++ StoreNote.Begin t ∷ []) t ≡ true
begun_here ns t none =
    is_live-push ns (StoreNote.Begin t) t
    ∙ (λ i. (contains (begun ns) t || same i) && not (list_any (ends t) ns || false))
    ∙ (λ i. or-true (contains (begun ns) t) i && not (ended i))
  where
    same : contains (t ∷ []) t ≡ true
    same = ap (λ b. b || false) (eq-eqb t t refl)

    ended : (list_any (ends t) ns || false) ≡ false
    ended = or-false (list_any (ends t) ns) ∙ any_ends ns t none

acts_begun : (H : List StoreEntry) (c t : ℕ) → list_any (names t) (store_notes H) ≡ false → Acts (store_notes_of H c) H (StoreNote.Begin t) t
acts_begun H c t none = record {
  live = λ h. begun_here (store_notes H) t none;
  points =
      savepoints-push (store_notes H) (StoreNote.Begin t) t ∙ savepoints_none (store_notes H) t none
      ∙ sym (savepoints-push (store_notes_of H c) (StoreNote.Begin t) t ∙ savepoints_none (store_notes_of H c) t (none_of (names t) H c none));
  only = λ d h. absurd (false≢true (sym (is_live_none (store_notes_of H d) t (none_of (names t) H d none)) ∙ h));
}

acts_live : (H : List StoreEntry) (c t : ℕ) (n : StoreNote) → Owns H → is_live (store_notes_of H c) t ≡ true → begun (n ∷ []) ≡ [] → Acts (store_notes_of H c) H n t
acts_live H c t n owns alive none = record {
  live = λ h. by_end (ends t n) refl h;
  points = savepoints-push (store_notes H) n t ∙ ap (λ ps. pointed t ps n) (owns.points c t alive) ∙ sym (savepoints-push (store_notes_of H c) n t);
  only = λ d h. alive;
}
  where
    by_end : (b : Bool) → ends t n ≡ b → is_live (store_notes_of H c ++ n ∷ []) t ≡ true → is_live (store_notes H ++ n ∷ []) t ≡ true
    by_end true is h = absurd (false≢true (sym (dead (store_notes_of H c) n t is) ∙ h))
    by_end false is h = live_same (store_notes H) n t none is ∙ owns.live c t alive

acts : (facts : StoreFacts) (H : List StoreEntry) (c t : ℕ) (n : StoreNote) → Owns H → Unnamed H → IsTrue (store_proper (store_notes_of H c) (store_want n)) → store_reply facts H (store_want n) ≡ Some n → names t n ≡ true
    → Acts (store_notes_of H c) H n t
acts facts H c t (StoreNote.Begin u) owns fresh proper reply is =
    let number = begin_number facts H u reply in
    subst (λ v. Acts (store_notes_of H c) H (StoreNote.Begin v) t) (sym (eqb-true u t is)) (acts_begun H c t (fresh t (let same : u ≡ t = eqb-true u t is in omega arith)))
acts facts H c t (StoreNote.Access u a r) owns fresh proper reply is = acts_live H c t (StoreNote.Access u a r) owns (lives (store_notes_of H c) t (StoreNote.Access u a r) is refl proper) refl
acts facts H c t (StoreNote.Point u) owns fresh proper reply is = acts_live H c t (StoreNote.Point u) owns (lives (store_notes_of H c) t (StoreNote.Point u) is refl proper) refl
acts facts H c t (StoreNote.BackTo u) owns fresh proper reply is = acts_live H c t (StoreNote.BackTo u) owns (lives (store_notes_of H c) t (StoreNote.BackTo u) is refl proper) refl
acts facts H c t (StoreNote.Release u) owns fresh proper reply is = acts_live H c t (StoreNote.Release u) owns (lives (store_notes_of H c) t (StoreNote.Release u) is refl proper) refl
acts facts H c t (StoreNote.Commit u m) owns fresh proper reply is = acts_live H c t (StoreNote.Commit u m) owns (lives (store_notes_of H c) t (StoreNote.Commit u m) is refl proper) refl
acts facts H c t (StoreNote.Rollback u) owns fresh proper reply is = acts_live H c t (StoreNote.Rollback u) owns (lives (store_notes_of H c) t (StoreNote.Rollback u) is refl proper) refl
acts facts H c t (StoreNote.Auto a r) owns fresh proper reply is = absurd (false≢true is)

abbrev Case : List StoreEntry → StoreEntry → ℕ → ℕ → Type 0
Case H e c t = is_live (store_notes_of (H ++ e ∷ []) c) t ≡ true

-- a client's notes after an entry, where the entry doesn't name the transaction
own_other : (H : List StoreEntry) (e : StoreEntry) (c t : ℕ) → names t e.note ≡ false
    → (is_live (store_notes_of (H ++ e ∷ []) c) t ≡ is_live (store_notes_of H c) t) × (savepoints (store_notes_of (H ++ e ∷ []) c) t ≡ savepoints (store_notes_of H c) t)
own_other H e c t apart = elim (cases_eq e.client c) [
  | inl same ↦ (
    ap (λ ns. is_live ns t) (store_notes_of-push H e c same) ∙ is_live-push_other (store_notes_of H c) e.note t apart,
    ap (λ ns. savepoints ns t) (store_notes_of-push H e c same) ∙ savepoints-push_other (store_notes_of H c) e.note t apart,
  )
  | inr differs ↦ (ap (λ ns. is_live ns t) (store_notes_of-push_other H e c differs), ap (λ ns. savepoints ns t) (store_notes_of-push_other H e c differs))
]

module _ (H : List StoreEntry) (e : StoreEntry) (owns : Owns H) (does : (t : ℕ) → names t e.note ≡ true → Acts (store_notes_of H e.client) H e.note t) where
  -- whom a named transaction lives for after the entry
  owner : (c t : ℕ) → names t e.note ≡ true → Case H e c t → c ≡ e.client
  owner c t is h = elim (cases_eq e.client c) [
    | inl same ↦ sym same
    | inr differs ↦
        let before = sym (ap (λ ns. is_live ns t) (store_notes_of-push_other H e c differs)) ∙ h in
        owns.one c e.client t before ((does t is).only c before)
  ]

  own_named : (t : ℕ) → store_notes_of (H ++ e ∷ []) e.client ≡ store_notes_of H e.client ++ e.note ∷ []
  own_named t = store_notes_of-push H e e.client refl

  live_step : (b : Bool) (c t : ℕ) → names t e.note ≡ b → Case H e c t → is_live (store_notes (H ++ e ∷ [])) t ≡ true
  live_step false c t is h =
      ap (λ ns. is_live ns t) (store_notes-push H e) ∙ is_live-push_other (store_notes H) e.note t is ∙ owns.live c t (sym (own_other H e c t is).0 ∙ h)
  live_step true c t is h =
      ap (λ ns. is_live ns t) (store_notes-push H e)
      ∙ (does t is).live (sym (ap (λ ns. is_live ns t) (own_named t)) ∙ subst (λ d. Case H e d t) (owner c t is h) h)

  points_step : (b : Bool) (c t : ℕ) → names t e.note ≡ b → Case H e c t → savepoints (store_notes (H ++ e ∷ [])) t ≡ savepoints (store_notes_of (H ++ e ∷ []) c) t
  points_step false c t is h =
      ap (λ ns. savepoints ns t) (store_notes-push H e) ∙ savepoints-push_other (store_notes H) e.note t is
      ∙ owns.points c t (sym (own_other H e c t is).0 ∙ h) ∙ sym (own_other H e c t is).1
  points_step true c t is h =
      ap (λ ns. savepoints ns t) (store_notes-push H e) ∙ (does t is).points ∙ ap (λ ns. savepoints ns t) (sym (own_named t))
      ∙ ap (λ d. savepoints (store_notes_of (H ++ e ∷ []) d) t) (sym (owner c t is h))

  one_step : (b : Bool) (c d t : ℕ) → names t e.note ≡ b → Case H e c t → Case H e d t → c ≡ d
  one_step false c d t is h g = owns.one c d t (sym (own_other H e c t is).0 ∙ h) (sym (own_other H e d t is).0 ∙ g)
  one_step true c d t is h g = owner c t is h ∙ sym (owner d t is g)

  owns_push : Owns (H ++ e ∷ [])
  owns_push = record {
    live = λ c t h. live_step (names t e.note) c t refl h;
    points = λ c t h. points_step (names t e.note) c t refl h;
    one = λ c d t h g. one_step (names t e.note) c d t refl h g;
  }

abbrev Good : ℕ → StoreFacts → List StoreEntry → Type 0
Good n facts H = StoreLegal n facts H × Owns H

pub owns : (n : ℕ) (facts : StoreFacts) (H : List StoreEntry) → StoreLegal n facts H → Owns H
owns n facts H legal =
    (StoreLegal-along n facts (Good n facts) (tt, record { live = λ c t h. absurd (false≢true h); points = λ c t h. refl; one = λ c d t h g. absurd (false≢true h) })
    (λ K e good fits. (StoreLegal-push n facts K e good.0 fits, owns_push K e good.1 (λ t is. acts facts K e.client t e.note good.1 (unnamed n facts K good.0) fits.proper fits.reply is))) H legal).1
