-- Each opening of the table.
use Rattle.std.proofs.Common.{◌∙◌, sym, ap}
use Rattle.stx_base.specs.declared.call.Want.{Want}
use Rattle.stx_model.specs.Meanings.{ask, on_take}
use Rattle.stx_model.specs.Scopes.{opens}
use Rattle.stx_context.specs.Carrying.{context_of}
use Rattle.stx_machine.specs.Machine.{attribute_of, fresh_begun, onward_caught, state_before}
use Rattle.stx_machine.proofs.OpeningLaws.{opened_so, none_of, refused_known, fresh_bare, empty_free, point_live, some_of, suspended_either, told_fresh}
use Rattle.stx_machine.proofs.Places.{built_in_known}
use Rattle.stx_machine.proofs.machine.Machine.open.Goals as goal

pub open_empty-requires-clause-free : goal.open_empty-requires-clause-free
open_empty-requires-clause-free c owns not =
    let S = c.args.setup.now.scenario in
    let carried = c.args.self.now.context in
    none_of carried.syncs (empty_free S.settings (attribute_of S c.args.method) (context_of carried) _ _ (sym c.opening_of.ensures ∙ c.in-Empty.is) owns not)

pub open_point-requires-clause-bound : goal.open_point-requires-clause-bound
open_point-requires-clause-bound c =
    let S = c.args.setup.now.scenario in
    let carried = c.args.self.now.context in
    some_of carried.tx (point_live S.settings (attribute_of S c.args.method) (context_of carried) (sym c.opening_of.ensures ∙ c.in-Point.is))

pub open_fresh-requires-clause-told : goal.open_fresh-requires-clause-told
open_fresh-requires-clause-told c =
    c.requires.told
    ∙ told_fresh c.args.setup.now.scenario c.args.method c.args.catch (context_of c.args.self.now.context) _ _ (sym c.opening_of.ensures ∙ c.in-Fresh.is)

pub returns-in-Refuse-clause-sound : goal.returns-in-Refuse-clause-sound
returns-in-Refuse-clause-sound c =
    let S = c.args.setup.now.scenario in
    let less = refused_known S.settings (attribute_of S c.args.method) (context_of c.args.self.now.context) c.in-Refuse.class (sym c.opening_of.ensures ∙ c.in-Refuse.is) in
    c.refuse.ensures.sound S c.requires.call (built_in_known S c.in-Refuse.class c.requires.playable less) c.requires.within

pub returns-in-Fresh-clause-goes : goal.returns-in-Fresh-clause-goes
unfolding opens
returns-in-Fresh-clause-goes c n pool store =
    let S = c.args.setup.now.scenario in
    let m = c.args.self.now in
    let context = context_of m.context in
    let is = sym c.opening_of.ensures ∙ c.in-Fresh.is in
    opened_so S n m c.args.method c.args.catch _ pool store is
    ∙ ap (λ st. onward_caught S n m c.args.catch (ask Want.Take (on_take (fresh_begun S c.args.method c.in-Fresh.owns context)) st))
    (suspended_either c.in-Fresh.suspends (state_before m pool store) (fresh_bare S.settings (attribute_of S c.args.method) context _ _ is))
    ∙ c.open_fresh.ensures.goes S n pool store
