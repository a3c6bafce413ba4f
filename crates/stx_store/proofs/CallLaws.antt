-- What a call that was answered leaves, for callers: the store stays legal, and only its client's notes grow.
use Rattle.std.proofs.Common.{◌≡◌, ◌≢◌, ℕ, ◌<◌, IsTrue, [], ◌∷◌, ◌++◌, refl, sym, ap, ◌∙◌, subst}
use Rattle.stx_base.specs.declared.call.Want.{Want}
use Rattle.stx_base.specs.declared.history.StoreNote.{StoreNote}
use Rattle.stx_base.specs.Histories.{store_notes_of}
use Rattle.stx_base.specs.Stores.{store_proper}
use Rattle.stx_base.specs.Legal.{StoreLegal}
use Rattle.stx_base.proofs.HistoryLaws.{store_notes_of-push, store_notes_of-push_other}
use Rattle.stx_base.proofs.LegalLaws.{StoreFits-reply, StoreLegal-push}
use Rattle.stx_store.specs.Store.{Store, StoreReplies}
use Rattle.stx_store.proofs.OwedLaws.{entry}

pub Replies-legal : (n : ℕ) (old new : Store) (c : ℕ) (want : Want) (note : StoreNote) → StoreReplies old new c want note
    → c < n → IsTrue (store_proper (store_notes_of old.entries c) want) → StoreLegal n old.facts old.entries → StoreLegal n new.facts new.entries
Replies-legal n old new c want note replies below proper legal =
    subst (λ s. StoreLegal n s.facts s.entries) (sym replies.kept)
    (StoreLegal-push n old.facts old.entries (entry c note) legal (StoreFits-reply n old.facts old.entries c want note below proper replies.reply))

pub Replies-own : (old new : Store) (c : ℕ) (want : Want) (note : StoreNote) → StoreReplies old new c want note → store_notes_of new.entries c ≡ store_notes_of old.entries c ++ note ∷ []
Replies-own old new c want note replies = ap (λ s. store_notes_of s.entries c) replies.kept ∙ store_notes_of-push old.entries (entry c note) c refl

pub Replies-other : (old new : Store) (c d : ℕ) (want : Want) (note : StoreNote) → StoreReplies old new c want note → d ≢ c → store_notes_of new.entries d ≡ store_notes_of old.entries d
Replies-other old new c d want note replies differs =
    ap (λ s. store_notes_of s.entries d) replies.kept ∙ store_notes_of-push_other old.entries (entry c note) d (λ same. differs (sym same))
