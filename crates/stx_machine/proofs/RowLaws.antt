-- Statements on rows: their first access, and what is done with its answer.
use Rattle.std.proofs.Common.{◌≡◌, ℕ, Option, Some, None, refl, subst}
use Rattle.stx_scenario.specs.declared.scenario.Scenario.{Scenario}
use Rattle.stx_scenario.specs.declared.scenario.Stmt.{Stmt}
use Rattle.stx_base.specs.declared.call.Want.{Want}
use Rattle.stx_base.specs.declared.history.Access.{Access}
use Rattle.stx_model.specs.Contexts.{Live}
use Rattle.stx_model.specs.Meanings.{State, ask, on_take}
use Rattle.stx_model.specs.Rounds.{Calls, callback_statement}
use Rattle.stx_model.specs.Script.{statement}
use Rattle.stx_model.specs.Statements.{RowAccess, on_row, access_row, in_transaction, on_connection, connected, row_statement}
use Rattle.stx_machine.specs.declared.stage.Then.{Then}
use Rattle.stx_machine.specs.Machine.{access_in, does, connects, row_in}

row_with : (s : Stmt) (a : Access) (d : Then) → ((at : RowAccess) (st : State) → on_row at s st ≡ access_row at a (does at d) st)
    → (tx : Option Live) (st : State) → row_statement tx s st ≡ row_in tx a d st
row_with s a d same (Some live) st = same (in_transaction live.transaction) st
row_with s a d same None st = λ i. ask Want.Take (on_take (λ o after. connects_as o after i)) st
  where
    connects_as : (o : Option ℕ) (after : State) → connected s o after ≡ connects a d o after
    connects_as (Some c) after = same (on_connection c) after
    connects_as None after = refl

module _ (S : Scenario) (calls : Calls) (st : State) where
  -- of a method's statement as of a callback's
  abbrev Is : Stmt → Access × Then → Type 0
  Is s p = (statement S calls s st ≡ row_in st.context.tx p.0 p.1 st) × (callback_statement S calls s st ≡ row_in st.context.tx p.0 p.1 st)

  moved : (s : Stmt) (p q : Access × Then) → ◌≡◌ {A = Option (Access × Then)} (Some p) (Some q) → Is s p → Is s q
  moved s p q is here =
      let same : p ≡ q = cc in subst (Is s) same here

  twice : {A : Type 0} → A → A × A
  twice same = (same, same)

  both_are : (s : Stmt) (a : Access) (d : Then) → access_in s ≡ Some (a, d) → Is s (a, d)
  unfolding statement callback_statement
  both_are (Stmt.Read k) a d is = moved (Stmt.Read k) (Access.Read k, Then.Nothing) (a, d) is (twice (row_with (Stmt.Read k) (Access.Read k) Then.Nothing (λ at after. refl) st.context.tx st))
  both_are (Stmt.Write k v) a d is = moved (Stmt.Write k v) (Access.Write k v, Then.Nothing) (a, d) is (twice (row_with (Stmt.Write k v) (Access.Write k v) Then.Nothing (λ at after. refl) st.context.tx st))
  both_are (Stmt.Erase k) a d is = moved (Stmt.Erase k) (Access.Erase k, Then.Nothing) (a, d) is (twice (row_with (Stmt.Erase k) (Access.Erase k) Then.Nothing (λ at after. refl) st.context.tx st))
  both_are (Stmt.Need k n) a d is = moved (Stmt.Need k n) (Access.Read k, Then.Need n) (a, d) is (twice (row_with (Stmt.Need k n) (Access.Read k) (Then.Need n) (λ at after. refl) st.context.tx st))
  both_are (Stmt.Add k n) a d is = moved (Stmt.Add k n) (Access.Read k, Then.Add k n) (a, d) is (twice (row_with (Stmt.Add k n) (Access.Read k) (Then.Add k n) (λ at after. refl) st.context.tx st))
  both_are (Stmt.Call m catch) a d is = cc
  both_are (Stmt.This m catch) a d is = cc
  both_are (Stmt.Throw x) a d is = cc
  both_are Stmt.Mark a d is = cc
  both_are (Stmt.Publish e) a d is = cc
  both_are (Stmt.Register r) a d is = cc

  -- a statement on a row is its first access, and what is done with the answer
  pub row_is : (s : Stmt) (a : Access) (d : Then) → access_in s ≡ Some (a, d) → statement S calls s st ≡ row_in st.context.tx a d st
  row_is s a d is = (both_are s a d is).0

  pub row_called : (s : Stmt) (a : Access) (d : Then) → access_in s ≡ Some (a, d) → callback_statement S calls s st ≡ row_in st.context.tx a d st
  row_called s a d is = (both_are s a d is).1
