-- The scope is open, with what it suspended, and with its synchronisation if it owns one.
use Rattle.std.proofs.Common.{◌≡◌, ◌∙◌, Bool, true, false, None, refl, sym, ap}
use Rattle.std.specs.Prelude.{Option}
use Rattle.std.specs.Option.{option_map}
use Rattle.stx_base.specs.declared.manager.Kind.{Kind}
use Rattle.stx_model.specs.Contexts.{Context}
use Rattle.stx_model.specs.Meanings.{State, Result}
use Rattle.stx_model.specs.Scopes.{in_scope, empty, older_if}
use Rattle.stx_context.specs.Carrying.{bare, context_of}
use Rattle.stx_machine.specs.declared.machine.Machine.{Machine}
use Rattle.stx_machine.specs.Machine.{inside, attribute_of, statements, started, state_before, state_with, onward_caught}
use Rattle.stx_machine.proofs.machine.Machine.open_empty.Goals as goal

pub start_syncs_if-requires : goal.start_syncs_if-requires
start_syncs_if-requires c =
    record { free = λ owns. by_suspension c.args.suspends (c.requires.free owns) c.suspend_if-suspended.ensures.free c.suspend_if-suspended.ensures.kept refl }
  where
    by_suspension : (b : Bool) → (b ≡ false → c.args.self.now.context.syncs ≡ None) → (b ≡ true → c.suspend_if-suspended.new.self.context ≡ bare)
        → (b ≡ false → c.suspend_if-suspended.new.self.context ≡ c.args.self.now.context) → b ≡ b → c.suspend_if-suspended.new.self.context.syncs ≡ None
    by_suspension true free suspended kept is = ap (λ x. x.syncs) (suspended refl)
    by_suspension false free suspended kept is = ap (λ x. x.syncs) (kept refl) ∙ free refl

pub returns-clause-goes : goal.returns-clause-goes
returns-clause-goes c S n pool store =
    let m = c.args.self.now in
    let method = c.args.method in
    let owns = c.args.owns in
    let held = c.suspend_if-suspended.new.self in
    let before = c.start_syncs_if.new.self in
    let ensures = c.suspend_if-suspended.ensures in
    let at : Machine → Result → Result = λ z r. onward_caught S n z c.args.catch r in
    let opens : Option Context → State → Result = λ older st. empty S (inside S method) method (attribute_of S method) (statements S method 0) owns older st in
    let older = option_map context_of c.suspend_if-suspended.result in
    let opened : Machine → Context → Result =
    λ z context.
    in_scope S (inside S method) (record { method = method; kind = Kind.Empty; owns = owns; older = older; outer = z.local }) (attribute_of S method) (statements S method 0)
    (state_with z context pool store) in
    ap (λ st. at m (opens (older_if c.args.suspends (context_of m.context)) st)) (ensures.suspends.state pool store)
    ∙ ap (λ z. at z (opens (older_if c.args.suspends (context_of m.context)) (state_before held pool store))) (sym ensures.suspends.rest)
    ∙ ap (λ o. at held (opens o (state_before held pool store))) (sym ensures.older)
    ∙ ap (λ context. at held (opened held context)) (sym c.start_syncs_if.ensures.started)
    ∙ ap (λ z. at z (opened z (context_of before.context))) (sym c.start_syncs_if.ensures.rest)
    ∙ ap (λ scope. at before (started S method scope (state_before before pool store))) (sym c.new.ensures)
    ∙ c.start.ensures.goes S n pool store
