-- A play before its first turn.
use Rattle.std.proofs.Common.{◌≡◌, false, List, length, map, sym, subst, refl}
use Rattle.std.specs.List.{range_with_len}
use Rattle.stx_scenario.specs.declared.scenario.Scenario.{Scenario}
use Rattle.stx_base.specs.Stores.{store_facts}
use Rattle.stx_model.specs.Playable.{IsPlayable}
use Rattle.stx_client.specs.View.{ClientView, new_client}
use Rattle.stx_pool.specs.Pool.{Pool, new_pool}
use Rattle.stx_store.specs.Store.{Store, new_store}
use Rattle.stx_play.specs.inner.Turning.{KeepsPlay, HaveReadNothing}

pub new_keeps : (S : Scenario) (pool : Pool) (store : Store) (views : List ClientView) → IsPlayable S → pool ≡ new_pool S.settings.pool → store ≡ new_store (store_facts S)
    → views ≡ map (new_client S) (range_with_len 0 (length S.clients)) → HaveReadNothing S (length S.clients) → KeepsPlay S false pool store views
new_keeps S pool store views playable pool_is store_is clients read =
    subst (λ p. KeepsPlay S false p store views) (sym pool_is)
    (subst (λ s. KeepsPlay S false (new_pool S.settings.pool) s views) (sym store_is)
    (record {
      playable = playable;
      going = λ _. record { cores = record { size = refl; facts = refl; pool_legal = tt; store_legal = tt }; clients = clients; reads = read };
    }))
