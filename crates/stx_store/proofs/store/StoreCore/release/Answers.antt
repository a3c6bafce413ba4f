-- Room was kept for the entry.
use Rattle.std.proofs.Common.{refl}
use Rattle.stx_base.specs.declared.call.Want.{Want}
use Rattle.stx_base.specs.declared.history.StoreNote.{StoreNote}
use Rattle.stx_store.proofs.OwedLaws.{entry}
use Rattle.stx_store.proofs.CoreLaws.{proper_in, fits-release, owed-one, core-released}
use Rattle.stx_store.proofs.store.StoreCore.release.Goals as goal

pub keep_owed-requires-clause-some : goal.keep_owed-requires-clause-some
keep_owed-requires-clause-some c = owed-one c.self.inside.facts c.self.inside.entries.items c.self.inside.owed _ _ c.self.inside.begun c.self.inside.locks c.self.inside.rows c.self.inside.journal c.self.invariant (entry c.args.client (StoreNote.Release c.args.tx)) (fits-release c.self.inside.facts c.self.inside.entries.items c.self.inside.owed _ _ c.self.inside.begun c.self.inside.locks c.self.inside.rows c.self.inside.journal c.self.invariant c.args.client c.args.tx c.requires.client (proper_in c.self.inside.facts c.self.inside.entries.items _ c.args.client (Want.Release c.args.tx) c.self.view_is c.requires.proper)) refl

pub invariant_of-self : goal.invariant_of-self
invariant_of-self c =
    core-released c.self.inside.facts c.self.inside.entries.items c.self.inside.owed _ _ c.self.inside.begun c.self.inside.locks c.self.inside.rows c.self.inside.journal c.self.invariant c.args.client c.args.tx (fits-release c.self.inside.facts c.self.inside.entries.items c.self.inside.owed _ _ c.self.inside.begun c.self.inside.locks c.self.inside.rows c.self.inside.journal c.self.invariant c.args.client c.args.tx c.requires.client (proper_in c.self.inside.facts c.self.inside.entries.items _ c.args.client (Want.Release c.args.tx) c.self.view_is c.requires.proper)) _ _ _ _ c.forget.new.self c.keep_owed.ensures.items c.keep_owed.ensures.owed c.keep_owed.ensures.len c.keep_owed.ensures.capacity c.forget.ensures.values c.forget.ensures.older
