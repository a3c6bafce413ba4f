-- What a call means: through the proxy, and of the same bean.
use Rattle.std.proofs.Common.{◌≡◌, Option, Some, None, sym, ap, ◌∙◌}
use Rattle.std.specs.Prelude.{unwrap_or}
use Rattle.stx_scenario.specs.declared.numbers.ClassNo.{ClassNo}
use Rattle.stx_scenario.specs.declared.numbers.MethodNo.{MethodNo}
use Rattle.stx_scenario.specs.declared.scenario.Scenario.{Scenario}
use Rattle.stx_scenario.specs.declared.scenario.TxAttr.{TxAttr}
use Rattle.stx_base.specs.declared.line.Line.{Line}
use Rattle.stx_base.specs.Attributes.{attribute}
use Rattle.stx_model.specs.Meanings.{State, Over, finally, say}
use Rattle.stx_model.specs.Opening.{opening}
use Rattle.stx_model.specs.Scopes.{opens, intercepted}
use Rattle.stx_model.specs.Script.{proxied, invoked}
use Rattle.stx_model.specs.Statements.{caught}
use Rattle.stx_machine.specs.Machine.{attribute_of, default_attribute, called, inside, opened, statements, body_after}

pub attribute_is : (S : Scenario) (m : MethodNo) (a : TxAttr) → attribute S m ≡ Some a → attribute_of S m ≡ a
unfolding attribute_of
attribute_is S m a is = ap (λ o. unwrap_or o default_attribute) is

module _ (S : Scenario) (m : MethodNo) (catch : Option ClassNo) (st : State) where
  -- a method with an attribute is intercepted
  pub called_with : (a : TxAttr) → attribute S m ≡ Some a → called S m catch st ≡ finally (opened S m (say (Line.Call m a.propagation a.read_only) st)) (caught S catch)
  unfolding invoked intercepted
  called_with a is =
      ap (λ o. finally (proxied S (inside S m) m o st) (caught S catch)) is
      ∙ ap (λ b. finally (opens S (inside S m) m b (statements S m 0) (opening S.settings b st.context) (say (Line.Call m a.propagation a.read_only) st)) (caught S catch)) (sym (attribute_is S m a is))

  -- one without runs in its caller's context
  pub called_without : attribute S m ≡ None → called S m catch st ≡ body_after S m 0 catch None (Over None (say (Line.Plain m) st))
  unfolding invoked
  called_without is = ap (λ o. finally (proxied S (inside S m) m o st) (caught S catch)) is
