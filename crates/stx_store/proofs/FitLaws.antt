-- Each call's entry fits after those before it, and the store keeps room for what it owes.
use Rattle.std.proofs.Common.{◌≡◌, ℕ, ◌+◌, ◌^◌, ◌<◌, ◌≤◌, IsTrue, List, [], ◌∷◌, ◌++◌, Some, length, refl, sym, ap, ◌∙◌, subst, arith}
use Rattle.stx_base.specs.declared.facts.StoreFacts.{StoreFacts}
use Rattle.stx_base.specs.declared.call.Want.{Want}
use Rattle.stx_base.specs.declared.history.Access.{Access}
use Rattle.stx_base.specs.declared.history.Answer.{Answer}
use Rattle.stx_base.specs.declared.history.StoreNote.{StoreNote}
use Rattle.stx_base.specs.declared.history.StoreEntry.{StoreEntry}
use Rattle.stx_base.specs.Limits.{most_clients}
use Rattle.stx_base.specs.Histories.{store_notes}
use Rattle.stx_base.specs.Stores.{begun, journal, store_reply, access_answer, auto_answer}
use Rattle.stx_base.specs.Legal.{StoreFits, StoreLegal}
use Rattle.stx_base.proofs.LegalLaws.{StoreLegal-push}
use Rattle.stx_base.proofs.StoreLaws.{unnamed, few_begun}
use Rattle.stx_store.specs.Store.{Store}
use Rattle.stx_store.specs.inner.Owed.{more_owed, was_owed, owed_all, KeepsStore}
use Rattle.stx_store.proofs.OwedLaws.{owed-more, owed-spent}

-- ---- the fields of a store, and what contracts see of it

abbrev pub store_of : StoreFacts → List StoreEntry → Store
store_of facts H = record { facts = facts; entries = H }

-- what is worked out from the fields is worked out from the store
pub seen : {A : Type 0} (f : StoreFacts → List StoreEntry → A) (facts : StoreFacts) (H es : List StoreEntry) (old : Store) (a : A)
    → store_of facts H ≡ old → es ≡ H → a ≡ f facts es → a ≡ f old.facts old.entries
seen f facts H es old a is same found = subst (λ s. a ≡ f s.facts s.entries) is (found ∙ ap (f facts) same)

pub fits_inside : (facts : StoreFacts) (H : List StoreEntry) (old : Store) (e : StoreEntry) → store_of facts H ≡ old → StoreFits most_clients old.facts old.entries e → StoreFits most_clients facts H e
fits_inside facts H old e is fits = subst (λ s. StoreFits most_clients s.facts s.entries e) (sym is) fits

-- ---- replies

pub begin-reply : (facts : StoreFacts) (H : List StoreEntry) (u : ℕ) → u ≡ length (begun (store_notes H)) + 1 → store_reply facts H Want.Begin ≡ Some (StoreNote.Begin u)
unfolding store_reply
begin-reply facts H u is = ap (λ m. Some (StoreNote.Begin m)) (sym is)

pub access-reply : (facts : StoreFacts) (H : List StoreEntry) (t : ℕ) (a : Access) (answer : Answer) → answer ≡ access_answer facts H t a → store_reply facts H (Want.Access t a) ≡ Some (StoreNote.Access t a answer)
unfolding store_reply
access-reply facts H t a answer is = ap (λ r. Some (StoreNote.Access t a r)) (sym is)

pub auto-reply : (facts : StoreFacts) (H : List StoreEntry) (a : Access) (answer : Answer) → answer ≡ auto_answer facts H a → store_reply facts H (Want.Auto a) ≡ Some (StoreNote.Auto a answer)
unfolding store_reply
auto-reply facts H a answer is = ap (λ r. Some (StoreNote.Auto a r)) (sym is)

pub commit-reply : (facts : StoreFacts) (H : List StoreEntry) (t m : ℕ) → m ≡ length (journal H) + 1 → store_reply facts H (Want.Commit t) ≡ Some (StoreNote.Commit t m)
unfolding store_reply
commit-reply facts H t m is = ap (λ k. Some (StoreNote.Commit t k)) (sym is)

pub rollback-reply : (facts : StoreFacts) (H : List StoreEntry) (t : ℕ) → store_reply facts H (Want.Rollback t) ≡ Some (StoreNote.Rollback t)
unfolding store_reply
rollback-reply facts H t = refl

-- ---- what stays kept

nothing_owed : owed_all [] ≡ 0
unfolding owed_all
nothing_owed = refl

pub new-kept : (facts : StoreFacts) (H : List StoreEntry) (len capacity : ℕ) → H ≡ [] → len ≡ 0 → KeepsStore facts H 0 len capacity
new-kept facts H len capacity none empty = record {
  legal = subst (StoreLegal most_clients facts) (sym none) tt;
  owes = let same : owed_all H ≡ 0 = ap owed_all none ∙ nothing_owed in omega arith;
  room = omega arith;
}

-- so few were begun that their numbers fit 32 bits
pub few_begins : (facts : StoreFacts) (H : List StoreEntry) (owed len capacity : ℕ) → KeepsStore facts H owed len capacity → length (begun (store_notes H)) + 1 < 2 ^ 32
few_begins facts H owed len capacity kept = let few = few_begun 64 facts H kept.legal in omega arith

owes_more : (facts : StoreFacts) (H : List StoreEntry) (e : StoreEntry) → StoreLegal most_clients facts H → StoreFits most_clients facts H e → owed_all (H ++ e ∷ []) ≤ owed_all H + more_owed e.note
unfolding owed_all
owes_more facts H e legal fits = owed-more 64 facts H e (unnamed 64 facts H legal) fits

pub owes_less : (facts : StoreFacts) (H : List StoreEntry) (e : StoreEntry) → StoreLegal most_clients facts H → StoreFits most_clients facts H e → IsTrue (was_owed e.note) → owed_all (H ++ e ∷ []) + 1 ≤ owed_all H
unfolding owed_all
owes_less facts H e legal fits owed = owed-spent 64 facts H e (unnamed 64 facts H legal) fits owed

pub added-kept : (facts : StoreFacts) (H : List StoreEntry) (owed len capacity : ℕ) → KeepsStore facts H owed len capacity
    → (e : StoreEntry) → StoreFits most_clients facts H e
    → (items : List StoreEntry) (now len' capacity' : ℕ) → items ≡ H ++ e ∷ [] → now ≡ owed + more_owed e.note → len' + now ≤ capacity' → KeepsStore facts items now len' capacity'
added-kept facts H owed len capacity kept e fits items now len' capacity' more is room = record {
  legal = subst (StoreLegal most_clients facts) (sym more) (StoreLegal-push 64 facts H e kept.legal fits);
  owes = subst (λ es. owed_all es ≤ now) (sym more) (let owes = owes_more facts H e kept.legal fits in omega (arith, kept.owes));
  room = room;
}

-- what was owed there is room for
pub some_owed : (facts : StoreFacts) (H : List StoreEntry) (owed len capacity : ℕ) → KeepsStore facts H owed len capacity
    → (e : StoreEntry) → StoreFits most_clients facts H e → IsTrue (was_owed e.note) → 1 ≤ owed
some_owed facts H owed len capacity kept e fits was = let less = owes_less facts H e kept.legal fits was in omega (arith, kept.owes)

pub spent-kept : (facts : StoreFacts) (H : List StoreEntry) (owed len capacity : ℕ) → KeepsStore facts H owed len capacity
    → (e : StoreEntry) → StoreFits most_clients facts H e → IsTrue (was_owed e.note)
    → (items : List StoreEntry) (now len' capacity' : ℕ) → items ≡ H ++ e ∷ [] → now + 1 ≡ owed → len' ≡ len + 1 → capacity' ≡ capacity → KeepsStore facts items now len' capacity'
spent-kept facts H owed len capacity kept e fits was items now len' capacity' more less longer same = record {
  legal = subst (StoreLegal most_clients facts) (sym more) (StoreLegal-push 64 facts H e kept.legal fits);
  owes = subst (λ es. owed_all es ≤ now) (sym more) (let owes = owes_less facts H e kept.legal fits was in omega (arith, kept.owes));
  room = omega (arith, kept.room);
}
