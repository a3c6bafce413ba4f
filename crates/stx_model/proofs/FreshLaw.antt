-- A client's own notes in legal histories: no connection is taken that it has out, and no number is begun twice.
use Rattle.std.proofs.Common.{◌≡◌, ℕ, ◌+◌, false, ◌==◌, List, [], ◌∷◌, ◌++◌, length, Some, fold, append-nil, refl, inl, inr, sym, ◌∙◌, subst, arith}
use Rattle.std.specs.List.{IsDistinct, AllByRecursion}
use Rattle.std.proofs.lemmas.Bool.{false≢true, cases_Bool, cases_eq}
use Rattle.stx_base.specs.declared.facts.StoreFacts.{StoreFacts}
use Rattle.stx_base.specs.declared.history.PoolNote.{PoolNote}
use Rattle.stx_base.specs.declared.history.PoolEntry.{PoolEntry}
use Rattle.stx_base.specs.declared.history.StoreNote.{StoreNote}
use Rattle.stx_base.specs.declared.history.StoreEntry.{StoreEntry}
use Rattle.stx_base.specs.Histories.{pool_notes_of, store_notes, store_notes_of}
use Rattle.stx_model.specs.Laws.{OwnNotesFresh}
use Rattle.stx_base.specs.Legal.{PoolFits, PoolLegal, StoreFits, StoreLegal}
use Rattle.stx_base.specs.Pools.{contains, out_after, out}
use Rattle.stx_model.specs.Reads.{TakesFreshFrom, TakesFresh, BeginsFresh}
use Rattle.stx_base.specs.Stores.{begun, store_reply, store_want}
use Rattle.stx_base.proofs.HistoryLaws.{or_none, begun-push, none_of, pool_notes_of-push, pool_notes_of-push_other, store_notes_of-push, store_notes_of-push_other}
use Rattle.stx_base.proofs.LegalLaws.{PoolLegal-along, PoolLegal-push, StoreLegal-along, StoreLegal-push}
use Rattle.stx_base.proofs.PoolLaws.{fits_to_take, out_is_owned}
use Rattle.stx_base.proofs.StoreLaws.{names, begun_none, begin_number, unnamed}

-- ---- the pool

takes_push : (taken : List ℕ) (notes : List PoolNote) (n : PoolNote) → TakesFreshFrom taken notes → TakesFreshFrom (fold out_after taken notes) (n ∷ []) → TakesFreshFrom taken (notes ++ n ∷ [])
takes_push taken [] n all new = new
takes_push taken (PoolNote.Taken c ∷ notes) n all new = (all.0, takes_push (out_after taken (PoolNote.Taken c)) notes n all.1 new)
takes_push taken (PoolNote.Empty ∷ notes) n all new = takes_push (out_after taken PoolNote.Empty) notes n all new
takes_push taken (PoolNote.Given c ∷ notes) n all new = takes_push (out_after taken (PoolNote.Given c)) notes n all new

record TakenFresh (clients size client : ℕ) (H : List PoolEntry) : Type 0 where
  legal : PoolLegal clients size H
  fresh : TakesFresh (pool_notes_of H client)

takes_more : (clients size client : ℕ) (H : List PoolEntry) (e : PoolEntry) → TakenFresh clients size client H → PoolFits clients size H e → TakenFresh clients size client (H ++ e ∷ [])
takes_more clients size client H e was fits = record {
  legal = PoolLegal-push clients size H e was.legal fits;
  fresh = elim (cases_eq e.client client) [
    | inl own ↦ subst TakesFresh (sym (pool_notes_of-push H e client own)) (takes_push [] (pool_notes_of H client) e.note was.fresh (by_note e.note refl))
    | inr other ↦ subst TakesFresh (sym (pool_notes_of-push_other H e client other)) was.fresh
  ];
}
  where
    not_out : (c : ℕ) → e.note ≡ PoolNote.Taken c → contains (out (pool_notes_of H client)) c ≡ false
    not_out c is = elim (cases_Bool (contains (out (pool_notes_of H client)) c)) [
      | inl there ↦ absurd (false≢true (sym (fits_to_take clients size H e fits c is).0 ∙ (out_is_owned clients size H was.legal).is_out client c there))
      | inr absent ↦ absent
    ]

    by_note : (n : PoolNote) → e.note ≡ n → TakesFreshFrom (out (pool_notes_of H client)) (n ∷ [])
    by_note (PoolNote.Taken c) is = (not_out c is, tt)
    by_note PoolNote.Empty is = tt
    by_note (PoolNote.Given c) is = tt

takes_fresh : (clients size client : ℕ) (H : List PoolEntry) → PoolLegal clients size H → TakesFresh (pool_notes_of H client)
takes_fresh clients size client H legal =
    (PoolLegal-along clients size (TakenFresh clients size client) (record { legal = tt; fresh = tt }) (takes_more clients size client) H legal).fresh

-- ---- the store

all_push : (p : ℕ → Type 0) (xs : List ℕ) (t : ℕ) → AllByRecursion p xs → p t → AllByRecursion p (xs ++ t ∷ [])
all_push p [] t all new = (new, tt)
all_push p (x ∷ xs) t all new = (all.0, all_push p xs t all.1 new)

distinct_push : (xs : List ℕ) (t : ℕ) → IsDistinct ◌==◌ xs → contains xs t ≡ false → IsDistinct ◌==◌ (xs ++ t ∷ [])
unfolding IsDistinct
distinct_push [] t apart absent = (tt, tt)
distinct_push (x ∷ xs) t apart absent =
    let parts = or_none (x == t) (contains xs t) absent in (all_push (λ y. (x == y) ≡ false) xs t apart.0 parts.0, distinct_push xs t apart.1 parts.1)

begins_push : (notes : List StoreNote) (n : StoreNote) → BeginsFresh notes → ((t : ℕ) → n ≡ StoreNote.Begin t → contains (begun notes) t ≡ false) → BeginsFresh (notes ++ n ∷ [])
begins_push notes n fresh new = subst (IsDistinct ◌==◌) (sym (begun-push notes n)) (by_note n new)
  where
    same : IsDistinct ◌==◌ (begun notes ++ [])
    same = subst (IsDistinct ◌==◌) (sym (append-nil (begun notes))) fresh

    by_note : (m : StoreNote) → ((t : ℕ) → m ≡ StoreNote.Begin t → contains (begun notes) t ≡ false) → IsDistinct ◌==◌ (begun notes ++ begun (m ∷ []))
    by_note (StoreNote.Begin t) h = distinct_push (begun notes) t fresh (h t refl)
    by_note n h = same

record BegunFresh (clients : ℕ) (facts : StoreFacts) (client : ℕ) (H : List StoreEntry) : Type 0 where
  legal : StoreLegal clients facts H
  fresh : BeginsFresh (store_notes_of H client)

begins_more : (clients : ℕ) (facts : StoreFacts) (client : ℕ) (H : List StoreEntry) (e : StoreEntry)
    → BegunFresh clients facts client H → StoreFits clients facts H e → BegunFresh clients facts client (H ++ e ∷ [])
begins_more clients facts client H e was fits = record {
  legal = StoreLegal-push clients facts H e was.legal fits;
  fresh = elim (cases_eq e.client client) [
    | inl own ↦ subst BeginsFresh (sym (store_notes_of-push H e client own)) (begins_push (store_notes_of H client) e.note was.fresh not_begun)
    | inr other ↦ subst BeginsFresh (sym (store_notes_of-push_other H e client other)) was.fresh
  ];
}
  where
    not_begun : (t : ℕ) → e.note ≡ StoreNote.Begin t → contains (begun (store_notes_of H client)) t ≡ false
    not_begun t is =
        let number : t ≡ length (begun (store_notes H)) + 1 = begin_number facts H t (subst (λ n. store_reply facts H (store_want n) ≡ Some n) is fits.reply) in
        begun_none (store_notes_of H client) t (none_of (names t) H client (unnamed clients facts H was.legal t (omega arith)))

begins_fresh : (clients : ℕ) (facts : StoreFacts) (client : ℕ) (H : List StoreEntry) → StoreLegal clients facts H → BeginsFresh (store_notes_of H client)
unfolding IsDistinct
begins_fresh clients facts client H legal =
    (StoreLegal-along clients facts (BegunFresh clients facts client) (record { legal = tt; fresh = tt }) (begins_more clients facts client) H legal).fresh

pub own_notes_fresh : OwnNotesFresh
own_notes_fresh clients client = (λ size history legal. takes_fresh clients size client history legal, λ facts history legal. begins_fresh clients facts client history legal)
