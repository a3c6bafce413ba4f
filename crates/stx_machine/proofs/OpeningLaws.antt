-- What the table of openings tells of the context.
use Rattle.std.proofs.Common.{◌≡◌, ℕ, ◌<◌, [], Bool, true, false, List, Option, Some, None, refl, sym, ap, ◌∙◌, subst, arith}
use Rattle.std.specs.Prelude.{IsSome}
use Rattle.std.specs.Option.{is_some, option_map}
use Rattle.stx_conn.specs.Bindings.{Binding, live}
use Rattle.stx_sync.specs.Registries.{Registrations}
use Rattle.std.proofs.lemmas.Bool.{false≢true}
use Rattle.stx_scenario.specs.declared.numbers.ClassNo.{ClassNo}
use Rattle.stx_scenario.specs.declared.scenario.Propagation.{Propagation}
use Rattle.stx_scenario.specs.declared.scenario.Settings.{Settings}
use Rattle.stx_scenario.specs.declared.scenario.SyncMode.{SyncMode}
use Rattle.stx_scenario.specs.declared.scenario.TxAttr.{TxAttr}
use Rattle.stx_base.specs.declared.history.PoolNote.{PoolNote}
use Rattle.stx_base.specs.declared.history.StoreNote.{StoreNote}
use Rattle.stx_base.specs.declared.manager.Opening.{Opening}
use Rattle.stx_scenario.specs.declared.numbers.MethodNo.{MethodNo}
use Rattle.stx_scenario.specs.declared.scenario.Scenario.{Scenario}
use Rattle.stx_machine.specs.declared.stage.Stage.{Stage}
use Rattle.stx_machine.specs.declared.machine.Machine.{Machine}
use Rattle.stx_machine.specs.Machine.{attribute_of, inside, onward_caught, opened, state_before, statements, suspends, told_by}
use Rattle.stx_model.specs.Contexts.{Context, Live, Registration, bare, ordered, registered}
use Rattle.stx_model.specs.Meanings.{State}
use Rattle.stx_model.specs.Opening.{opening, opening_in, opening_without, opening_within, owns_empty}
use Rattle.stx_model.specs.Scopes.{opens, suspend, suspended}
use Rattle.stx_context.specs.Carrying.{context_of}

module _ (settings : Settings) where
  -- ---- refusals

  known : (x y : ClassNo) → Opening.Refuse x ≡ Opening.Refuse y → x.0 < 17 → y.0 < 17
  known x y is less =
      let same : x ≡ y = cc in subst (λ z. z.0 < 17) same less

  -- a nested call is refused, or opens a savepoint
  nested_is : (nested mark : Bool) (x y : ClassNo) (o : Opening) {X : Type 0} → (Opening.Refuse x ≡ o → X) → (Opening.Refuse y ≡ o → X) → (Opening.Point ≡ o → X)
      → elim nested as (λ _. Opening) [ false ↦ Opening.Refuse x | true ↦ elim mark as (λ _. Opening) [ true ↦ Opening.Refuse y | false ↦ Opening.Point ] ] ≡ o → X
  nested_is false mark x y o refused marked opened is = refused is
  nested_is true true x y o refused marked opened is = marked is
  nested_is true false x y o refused marked opened is = opened is

  known_within : (live : Live) (p : Propagation) (x : ClassNo) → opening_within settings live p ≡ Opening.Refuse x → x.0 < 17
  known_within live Propagation.Required x is = cc
  known_within live Propagation.Supports x is = cc
  known_within live Propagation.Mandatory x is = cc
  known_within live Propagation.RequiresNew x is = cc
  known_within live Propagation.NotSupported x is = cc
  known_within live Propagation.Never x is = known _ x is (omega arith)
  known_within live Propagation.Nested x is = nested_is settings.nested live.mark _ _ _ (λ same. known _ x same (omega arith)) (λ same. known _ x same (omega arith)) (λ same. cc) is

  known_without : (context : Context) (p : Propagation) (x : ClassNo) → opening_without settings context p ≡ Opening.Refuse x → x.0 < 17
  known_without context Propagation.Required x is = cc
  known_without context Propagation.Supports x is = cc
  known_without context Propagation.Mandatory x is = known _ x is (omega arith)
  known_without context Propagation.RequiresNew x is = cc
  known_without context Propagation.NotSupported x is = cc
  known_without context Propagation.Never x is = cc
  known_without context Propagation.Nested x is = cc

  known_in : (a : TxAttr) (context : Context) (tx : Option Live) (x : ClassNo) → opening_in settings a context tx ≡ Opening.Refuse x → x.0 < 17
  known_in a context (Some live) x is = known_within live a.propagation x is
  known_in a context None x is = known_without context a.propagation x is

  -- a class with which a call is refused is built in
  pub refused_known : (a : TxAttr) (context : Context) (x : ClassNo) → opening settings a context ≡ Opening.Refuse x → x.0 < 17
  unfolding opening
  refused_known a context x is = known_in a context context.tx x is

  -- ---- fresh scopes

  none_active : (syncs : Option (List Registration)) (owns o s : Bool) → Opening.Fresh (is_some syncs) owns ≡ Opening.Fresh s o → s ≡ false → syncs ≡ None
  none_active None owns o s is not = refl
  none_active (Some list) owns o s is not =
      let same : true ≡ s = cc in absurd (false≢true (sym not ∙ sym same))

  always : (owns o s : Bool) {X : Type 0} → Opening.Fresh true owns ≡ Opening.Fresh s o → s ≡ false → X
  always owns o s is not =
      let same : true ≡ s = cc in absurd (false≢true (sym not ∙ sym same))

  fresh_within : (live : Live) (p : Propagation) (s o : Bool) {X : Type 0} → opening_within settings live p ≡ Opening.Fresh s o → s ≡ false → X
  fresh_within live Propagation.Required s o is not = cc
  fresh_within live Propagation.Supports s o is not = cc
  fresh_within live Propagation.Mandatory s o is not = cc
  fresh_within live Propagation.RequiresNew s o is not = always _ o s is not
  fresh_within live Propagation.NotSupported s o is not = cc
  fresh_within live Propagation.Never s o is not = cc
  fresh_within live Propagation.Nested s o is not = nested_is settings.nested live.mark _ _ _ (λ same. cc) (λ same. cc) (λ same. cc) is

  fresh_without : (context : Context) (p : Propagation) (s o : Bool) → opening_without settings context p ≡ Opening.Fresh s o → s ≡ false → context.syncs ≡ None
  fresh_without context Propagation.Required s o is not = none_active context.syncs _ o s is not
  fresh_without context Propagation.Supports s o is not = cc
  fresh_without context Propagation.Mandatory s o is not = cc
  fresh_without context Propagation.RequiresNew s o is not = none_active context.syncs _ o s is not
  fresh_without context Propagation.NotSupported s o is not = cc
  fresh_without context Propagation.Never s o is not = cc
  fresh_without context Propagation.Nested s o is not = none_active context.syncs _ o s is not

  -- a fresh scope that suspends nothing opens where nothing is carried
  fresh_in : (a : TxAttr) (tx : Option Live) (syncs : Option (List Registration)) (s o : Bool)
      → opening_in settings a (record { tx = tx; syncs = syncs }) tx ≡ Opening.Fresh s o → s ≡ false → ◌≡◌ {A = Context} (record { tx = tx; syncs = syncs }) bare
  fresh_in a (Some live) syncs s o is not = fresh_within live a.propagation s o is not
  fresh_in a None syncs s o is not =
      λ i. record { tx = None; syncs = fresh_without (record { tx = None; syncs = syncs }) a.propagation s o is not i }

  pub fresh_bare : (a : TxAttr) (context : Context) (s o : Bool) → opening settings a context ≡ Opening.Fresh s o → s ≡ false → context ≡ bare
  unfolding opening
  fresh_bare a context s o is not = fresh_in a context.tx context.syncs s o is not

  -- ---- empty scopes

  owns_inactive : (mode : SyncMode) (syncs : Option (List Registration)) → owns_empty mode (is_some syncs) ≡ true → syncs ≡ None
  owns_inactive SyncMode.Always None is = refl
  owns_inactive SyncMode.Always (Some list) is = absurd (false≢true is)
  owns_inactive SyncMode.Actual syncs is = absurd (false≢true is)
  owns_inactive SyncMode.Never syncs is = absurd (false≢true is)

  owner : (mode : SyncMode) (syncs : Option (List Registration)) (s o : Bool) → Opening.Empty false (owns_empty mode (is_some syncs)) ≡ Opening.Empty s o → o ≡ true → syncs ≡ None
  owner mode syncs s o is owns =
      let same : owns_empty mode (is_some syncs) ≡ o = cc in owns_inactive mode syncs (same ∙ owns)

  apart : (owns s o : Bool) {X : Type 0} → Opening.Empty true owns ≡ Opening.Empty s o → s ≡ false → X
  apart owns s o is not =
      let same : true ≡ s = cc in absurd (false≢true (sym not ∙ sym same))

  empty_in : (a : TxAttr) (context : Context) (tx : Option Live) (s o : Bool) → opening_in settings a context tx ≡ Opening.Empty s o → o ≡ true → s ≡ false → context.syncs ≡ None
  empty_in a context (Some live) s o is owns not = within a.propagation is
    where
      within : (p : Propagation) → opening_within settings live p ≡ Opening.Empty s o → context.syncs ≡ None
      within Propagation.Required is = cc
      within Propagation.Supports is = cc
      within Propagation.Mandatory is = cc
      within Propagation.RequiresNew is = cc
      within Propagation.NotSupported is = apart _ s o is not
      within Propagation.Never is = cc
      within Propagation.Nested is = nested_is settings.nested live.mark _ _ _ (λ same. cc) (λ same. cc) (λ same. cc) is
  empty_in a context None s o is owns not = without a.propagation is
    where
      without : (p : Propagation) → opening_without settings context p ≡ Opening.Empty s o → context.syncs ≡ None
      without Propagation.Required is = cc
      without Propagation.Supports is = owner settings.mode context.syncs s o is owns
      without Propagation.Mandatory is = cc
      without Propagation.RequiresNew is = cc
      without Propagation.NotSupported is = owner settings.mode context.syncs s o is owns
      without Propagation.Never is = owner settings.mode context.syncs s o is owns
      without Propagation.Nested is = cc

  -- an empty scope that owns synchronisation and suspends nothing opens where none is active
  pub empty_free : (a : TxAttr) (context : Context) (s o : Bool) → opening settings a context ≡ Opening.Empty s o → o ≡ true → s ≡ false → context.syncs ≡ None
  unfolding opening
  empty_free a context s o is owns not = empty_in a context context.tx s o is owns not

  -- ---- savepoints

  point_without : (context : Context) (p : Propagation) → opening_without settings context p ≡ Opening.Point → ⊥
  point_without context Propagation.Required is = cc
  point_without context Propagation.Supports is = cc
  point_without context Propagation.Mandatory is = cc
  point_without context Propagation.RequiresNew is = cc
  point_without context Propagation.NotSupported is = cc
  point_without context Propagation.Never is = cc
  point_without context Propagation.Nested is = cc

  point_in : (a : TxAttr) (context : Context) (tx : Option Live) → opening_in settings a context tx ≡ Opening.Point → IsSome tx
  point_in a context (Some live) is = refl
  point_in a context None is = absurd (point_without context a.propagation is)

  -- a savepoint is opened only in a transaction
  pub point_live : (a : TxAttr) (context : Context) → opening settings a context ≡ Opening.Point → IsSome context.tx
  unfolding opening
  point_live a context is = point_in a context context.tx is

-- ---- suspension

-- where nothing is carried, suspension changes nothing
suspended_bare : (st : State) → st.context ≡ bare → st ≡ suspend st
suspended_bare st is =
    let at : Context → State = λ context. record { lines = st.lines; context = context; local = st.local; pool = st.pool; store = st.store } in
    subst (λ context. at context ≡ suspend (at context)) (sym is) refl

pub suspended_either : (b : Bool) (st : State) → (b ≡ false → st.context ≡ bare) → suspended b st ≡ suspend st
suspended_either true st is = refl
suspended_either false st is = suspended_bare st (is refl)

-- where the scope of a call is opened so
pub opened_so : (S : Scenario) (n : ℕ) (m : Machine) (method : MethodNo) (catch : Option ClassNo) (o : Opening) (pool : List PoolNote) (store : List StoreNote)
    → opening S.settings (attribute_of S method) (context_of m.context) ≡ o
    → onward_caught S n m catch (opened S method (state_before m pool store))
    ≡ onward_caught S n m catch (opens S (inside S method) method (attribute_of S method) (statements S method 0) o (state_before m pool store))
opened_so S n m method catch o pool store is =
    ap (λ z. onward_caught S n m catch (opens S (inside S method) method (attribute_of S method) (statements S method 0) z (state_before m pool store))) is

-- where the script has no active synchronisation, the client carries none
pub none_of : (syncs : Option Registrations) → option_map (λ r. r.list) syncs ≡ None → syncs ≡ None
none_of None is = refl
none_of (Some r) is = cc

-- and where it has a live transaction, the client carries one
pub some_of : (tx : Option Binding) → IsSome (option_map live tx) → IsSome tx
some_of (Some binding) is = refl
some_of None is = cc

-- ---- what an opening tells

-- a fresh scope tells all registrations, since where it suspends nothing there are none
pub told_fresh : (S : Scenario) (m : MethodNo) (catch : Option ClassNo) (context : Context) (s o : Bool) → opening S.settings (attribute_of S m) context ≡ Opening.Fresh s o
    → told_by S (Stage.Opening m catch) context ≡ ordered (registered context.syncs)
told_fresh S m catch context true o is = ap (λ z. elim (suspends z) as (λ _. List Registration) [ true ↦ ordered (registered context.syncs) | false ↦ [] ]) is
told_fresh S m catch context false o is =
    ap (λ z. elim (suspends z) as (λ _. List Registration) [ true ↦ ordered (registered context.syncs) | false ↦ [] ]) is
    ∙ ap (λ k. ordered (registered k.syncs)) (sym (fresh_bare S.settings (attribute_of S m) context false o is refl))
