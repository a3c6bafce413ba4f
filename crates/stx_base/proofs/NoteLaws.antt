-- What a pool and a store reply answers the call, and with it makes the note.
use Rattle.std.proofs.Common.{◌≡◌, ℕ, ℤ, ◌+◌, ◌==◌, true, List, Option, Some, None, length, refl, subst, eq-eqb, ap, ◌∙◌}
use Rattle.std.proofs.lemmas.Bool.Decides.{Decides-int_eq}
use Rattle.std.specs.Option.{option_map}
use Rattle.stx_scenario.specs.declared.numbers.RowNo.{RowNo}
use Rattle.stx_base.specs.declared.call.PoolAnswer.{PoolAnswer}
use Rattle.stx_base.specs.declared.call.Reply.{Reply}
use Rattle.stx_base.specs.declared.call.StoreAnswer.{StoreAnswer}
use Rattle.stx_base.specs.declared.call.Want.{Want}
use Rattle.stx_base.specs.declared.facts.StoreFacts.{StoreFacts}
use Rattle.stx_base.specs.declared.history.Access.{Access}
use Rattle.stx_base.specs.declared.history.Answer.{Answer}
use Rattle.stx_base.specs.declared.history.Note.{Note}
use Rattle.stx_base.specs.declared.history.PoolNote.{PoolNote}
use Rattle.stx_base.specs.declared.history.PoolEntry.{PoolEntry}
use Rattle.stx_base.specs.declared.history.StoreNote.{StoreNote}
use Rattle.stx_base.specs.declared.history.StoreEntry.{StoreEntry}
use Rattle.stx_base.specs.Alone.{RowMap, finds, found_or_absent}
use Rattle.stx_base.specs.Histories.{store_notes}
use Rattle.stx_base.specs.Pools.{taken_or_empty, pool_reply}
use Rattle.stx_base.specs.Stores.{begun, journal, busy_or, access_answer, auto_answer, store_reply}
use Rattle.stx_base.specs.Notes.{same_access, suits, pool_answers, store_answers, pool_note, store_note, is_answer_if, is_reply_to}

pub itself : (n : ℕ) → (n == n) ≡ true
itself n = eq-eqb n n refl

pub same_itself : (a : Access) → same_access a a ≡ true
same_itself (Access.Read k) = itself k.0
same_itself (Access.Write k v) = rw (itself k.0, (Decides-int_eq v v).1 refl)
same_itself (Access.Erase k) = itself k.0

suits_found : (k : RowNo) (o : Option ℤ) → suits (Access.Read k) (found_or_absent o) ≡ true
suits_found k (Some v) = refl
suits_found k None = refl

suits_finds : (rows : RowMap) (a : Access) → suits a (finds rows a) ≡ true
suits_finds rows (Access.Read k) = suits_found k _
suits_finds rows (Access.Write k v) = refl
suits_finds rows (Access.Erase k) = refl

suits_busy : (a : Access) (o : Option ℕ) (r : Answer) → suits a r ≡ true → suits a (busy_or o r) ≡ true
suits_busy a None r suited = suited
suits_busy (Access.Read k) (Some t) r suited = refl
suits_busy (Access.Write k v) (Some t) r suited = refl
suits_busy (Access.Erase k) (Some t) r suited = refl

access_answers : (t : ℕ) (a : Access) (r : Answer) → suits a r ≡ true → store_answers (Want.Access t a) (StoreNote.Access t a r) ≡ true
access_answers t a r suited = rw (itself t, same_itself a, suited) refl

auto_answers : (a : Access) (r : Answer) → suits a r ≡ true → store_answers (Want.Auto a) (StoreNote.Auto a r) ≡ true
auto_answers a r suited = rw (same_itself a, suited) refl

pub store_reply-answers : (facts : StoreFacts) (before : List StoreEntry) (want : Want) (note : StoreNote) → store_reply facts before want ≡ Some note → store_answers want note ≡ true
unfolding store_reply
store_reply-answers facts before Want.Begin note h =
    let is : StoreNote.Begin (length (begun (store_notes before)) + 1) ≡ note = cc in subst (λ n. store_answers Want.Begin n ≡ true) is refl
store_reply-answers facts before (Want.Access t a) note h =
    let is : StoreNote.Access t a (access_answer facts before t a) ≡ note = cc in
    subst (λ n. store_answers (Want.Access t a) n ≡ true) is (access_answers t a _ (suits_busy a _ _ (suits_finds _ a)))
store_reply-answers facts before (Want.Point t) note h = let is : StoreNote.Point t ≡ note = cc in subst (λ n. store_answers (Want.Point t) n ≡ true) is (itself t)
store_reply-answers facts before (Want.BackTo t) note h = let is : StoreNote.BackTo t ≡ note = cc in subst (λ n. store_answers (Want.BackTo t) n ≡ true) is (itself t)
store_reply-answers facts before (Want.Release t) note h = let is : StoreNote.Release t ≡ note = cc in subst (λ n. store_answers (Want.Release t) n ≡ true) is (itself t)
store_reply-answers facts before (Want.Commit t) note h =
    let is : StoreNote.Commit t (length (journal before) + 1) ≡ note = cc in subst (λ n. store_answers (Want.Commit t) n ≡ true) is (itself t)
store_reply-answers facts before (Want.Rollback t) note h = let is : StoreNote.Rollback t ≡ note = cc in subst (λ n. store_answers (Want.Rollback t) n ≡ true) is (itself t)
store_reply-answers facts before (Want.Auto a) note h =
    let is : StoreNote.Auto a (auto_answer facts before a) ≡ note = cc in
    subst (λ n. store_answers (Want.Auto a) n ≡ true) is (auto_answers a _ (suits_busy a _ _ (suits_finds _ a)))
store_reply-answers facts before want note h = cc

taken_answers : (free : Option ℕ) (note : PoolNote) → Some (taken_or_empty free) ≡ Some note → pool_answers Want.Take note ≡ true
taken_answers (Some c) note h = let is : PoolNote.Taken c ≡ note = cc in subst (λ n. pool_answers Want.Take n ≡ true) is refl
taken_answers None note h = let is : PoolNote.Empty ≡ note = cc in subst (λ n. pool_answers Want.Take n ≡ true) is refl

pub pool_reply-answers : (size : ℕ) (before : List PoolEntry) (want : Want) (note : PoolNote) → pool_reply size before want ≡ Some note → pool_answers want note ≡ true
unfolding pool_reply
pool_reply-answers size before Want.Take note h = taken_answers _ note h
pool_reply-answers size before (Want.Give c) note h = let is : PoolNote.Given c ≡ note = cc in subst (λ n. pool_answers (Want.Give c) n ≡ true) is (itself c)
pool_reply-answers size before want note h = cc

-- ---- the answer to a call is a reply of its kind

pub pool_suits : (size : ℕ) (before : List PoolEntry) (want : Want) (answer : PoolAnswer) (note : PoolNote)
    → pool_note want answer ≡ Some note → pool_reply size before want ≡ Some note → is_reply_to want (Reply.Pool answer) ≡ true
pool_suits size before want answer note made reply = ap (λ o. is_answer_if want (option_map Note.Pool o)) made ∙ pool_reply-answers size before want note reply

pub store_suits : (facts : StoreFacts) (before : List StoreEntry) (want : Want) (answer : StoreAnswer) (note : StoreNote)
    → store_note want answer ≡ Some note → store_reply facts before want ≡ Some note → is_reply_to want (Reply.Store answer) ≡ true
store_suits facts before want answer note made reply = ap (λ o. is_answer_if want (option_map Note.Store o)) made ∙ store_reply-answers facts before want note reply
