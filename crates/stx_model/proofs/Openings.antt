-- What each opening tells of the context in which a call opened so: one table, read off the table of openings.
use Rattle.std.proofs.Common.{◌≡◌, Bool, true, false, List, Option, Some, None, refl, subst}
use Rattle.std.specs.Prelude.{⊤}
use Rattle.std.specs.Option.{is_some}
use Rattle.stx_scenario.specs.declared.scenario.Propagation.{Propagation}
use Rattle.stx_scenario.specs.declared.scenario.Settings.{Settings}
use Rattle.stx_scenario.specs.declared.scenario.SyncMode.{SyncMode}
use Rattle.stx_scenario.specs.declared.scenario.TxAttr.{TxAttr}
use Rattle.stx_base.specs.declared.manager.Opening.{Opening}
use Rattle.stx_model.specs.Contexts.{Context, Live, Registration, is_active}
use Rattle.stx_model.specs.Opening.{opening, opening_in, opening_within, opening_without, opens_fresh, opens_empty, opens_point, owns_empty}

-- a fresh scope that suspends nothing meets a bare context; an empty one that suspends nothing meets no transaction, and no
-- active synchronisation where it owns some; a savepoint is made in a transaction that isn't marked
abbrev pub Tells : Opening → Context → Type 0
Tells (Opening.Fresh false owns) context = (context.tx ≡ None) × (context.syncs ≡ None)
Tells (Opening.Empty false owns) context = (context.tx ≡ None) × (owns ≡ true → context.syncs ≡ None)
Tells Opening.Point context = (live : Live) × (context.tx ≡ Some live) × (live.mark ≡ false)
Tells _ context = ⊤

fresh_tells : (settings : Settings) (context : Context) → context.tx ≡ None → Tells (opens_fresh settings (is_active context)) context
fresh_tells settings context none = by context.syncs refl
  where
    by : (syncs : Option (List Registration)) → context.syncs ≡ syncs → Tells (opens_fresh settings (is_some syncs)) context
    by None inactive = (none, inactive)
    by (Some list) active = tt

empty_tells : (settings : Settings) (context : Context) → context.tx ≡ None → Tells (opens_empty settings context) context
empty_tells settings context none = (none, inactive context.syncs settings.mode)
  where
    inactive : (syncs : Option (List Registration)) (mode : SyncMode) → owns_empty mode (is_some syncs) ≡ true → syncs ≡ None
    inactive None mode e = refl
    inactive (Some list) SyncMode.Always e = cc
    inactive (Some list) SyncMode.Actual e = cc
    inactive (Some list) SyncMode.Never e = cc

point_tells : (settings : Settings) (context : Context) (live : Live) → context.tx ≡ Some live → Tells (opens_point settings live) context
point_tells settings context live some = by settings.nested live.mark refl
  where
    by : (nested mark : Bool) → live.mark ≡ mark → Tells (opens_point (record settings { nested = nested }) (record live { mark = mark })) context
    by false mark of = tt
    by true true of = tt
    by true false of = (live, some, of)

pub opening_tells : (settings : Settings) (a : TxAttr) (context : Context) (o : Opening) → opening settings a context ≡ o → Tells o context
unfolding opening
opening_tells settings a context o is = subst (λ o. Tells o context) is (by context.tx refl)
  where
    without : context.tx ≡ None → (p : Propagation) → Tells (opening_without settings context p) context
    without none Propagation.Required = fresh_tells settings context none
    without none Propagation.Supports = empty_tells settings context none
    without none Propagation.Mandatory = tt
    without none Propagation.RequiresNew = fresh_tells settings context none
    without none Propagation.NotSupported = empty_tells settings context none
    without none Propagation.Never = empty_tells settings context none
    without none Propagation.Nested = fresh_tells settings context none

    within : (live : Live) → context.tx ≡ Some live → (p : Propagation) → Tells (opening_within settings live p) context
    within live some Propagation.Nested = point_tells settings context live some
    within live some p = tt

    by : (tx : Option Live) → context.tx ≡ tx → Tells (opening_in settings a context tx) context
    by None none = without none a.propagation
    by (Some live) some = within live some a.propagation
