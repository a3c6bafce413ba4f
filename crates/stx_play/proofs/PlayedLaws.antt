-- The clients of a play, and what a turn leaves.
use Rattle.std.proofs.Common.{◌≡◌, ℕ, zero, suc, ◌<◌, ◌≤◌, ◌-◌, Bool, false, true, List, map, length, get_or, Some, refl, sym, ap, ◌∙◌, subst, arith, eqb, ◌≢◌, ◌⊎◌, inl, inr, ◌+◌, [], ◌∷◌}
use Rattle.std.specs.Prelude.{slice_set}
use Rattle.std.specs.List.{range_with_len}
use Rattle.std.proofs.lemmas.List.FromFn.{length-map-range_with_len, get_or-map-range_with_len}
use Rattle.stx_scenario.specs.declared.scenario.Scenario.{Scenario}
use Rattle.stx_base.specs.declared.call.Want.{Want}
use Rattle.stx_model.specs.Playable.{IsPlayable}
use Rattle.stx_model.specs.Meanings.{stop_of}
use Rattle.stx_model.specs.Played.{Turns, turn, turns, run_out, want_so_far, most_calls, lines_so_far, outcome_of}
use Rattle.stx_model.specs.Faithful.{Faithful}
use Rattle.stx_model.proofs.PlayedLaw.{faithful_if_done}
use Rattle.stx_model.proofs.Turns.{turns_done}
use Rattle.stx_client.specs.View.{lines_of_script, ClientView, script_of, HasReadAll}
use Rattle.std.proofs.lemmas.Bool.Decides.{eqb_tells}
use Rattle.stx_model.proofs.EntriesLaw.{entries_within}
use Rattle.stx_pool.specs.Pool.{Pool}
use Rattle.stx_store.specs.Store.{Store}
use Rattle.stx_play.specs.Play.{PlayView, IsClientDone, AllDone}
use Rattle.stx_play.specs.inner.Turning.{turns_of, count_entries, client_so_far, HasRead, IsGoing, IsReady, KeepsPlay, HasTurned, EachEnded}
use Rattle.stx_play.proofs.RangeLaws.{set_range}

module _ (S : Scenario) (pool : Pool) (store : Store) (views : List ClientView) (going : IsGoing S pool store views) where
  pub count : length views ≡ length S.clients
  count = ap length going.clients ∙ length-map-range_with_len (client_so_far S (turns_of pool store)) 0 (length S.clients)

  pub view_at : (c : ℕ) (d : ClientView) → c < length S.clients → get_or views c d ≡ client_so_far S (turns_of pool store) c
  view_at c d below =
      let here : 0 + c ≡ c = omega arith in
      ap (λ vs. get_or vs c d) going.clients ∙ get_or-map-range_with_len (client_so_far S (turns_of pool store)) 0 (length S.clients) c c d below here

  pub ready_at : IsPlayable S → (c : ℕ) (client : ClientView) → c < length S.clients → client ≡ get_or views c client → IsReady S client c pool store
  ready_at playable c client below is = record {
    playable = playable;
    below = below;
    cores = going.cores;
    own = is ∙ view_at c client below;
    read = going.reads c below;
  }

  -- after a turn of one client all go on
  pub going_after : (c : ℕ) (new_pool : Pool) (new_store : Store) (client : ClientView) → c < length S.clients → HasTurned S c pool store new_pool new_store client
      → IsGoing S new_pool new_store (slice_set views c client)
  going_after c new_pool new_store client below turned =
      let new = client_so_far S (turns_of new_pool new_store) in
      record {
        cores = turned.cores;
        clients = (λ i. slice_set (going.clients i) c (turned.own i)) ∙ set_range (client_so_far S (turns_of pool store)) new (length S.clients) c below turned.others;
        reads = λ d inside. either d inside (eqb_tells d c);
      }
    where
      either : (d : ℕ) → d < length S.clients → ((eqb d c ≡ true) × (d ≡ c)) ⊎ ((eqb d c ≡ false) × (d ≢ c)) → HasRead S (turns_of new_pool new_store) d
      either d inside (inl (tells, same)) = subst (HasRead S (turns_of new_pool new_store)) (sym same) turned.read
      either d inside (inr (tells, differs)) = subst HasReadAll (sym (turned.others d differs)) (going.reads d inside)

  -- where every client is done, its machine has ended
  pub each_ended : AllDone S (turns_of pool store) → EachEnded views
  each_ended done k d inside =
      let below : k < length S.clients = subst (λ n. k < n) count inside in
      let own = view_at k d below in
      (ap (λ v. v.failed) own, ap (λ v. stop_of (script_of v)) own ∙ done k below)

  -- and the lines are those of the scripts
  pub lines_are : map lines_of_script views ≡ map (lines_so_far S (turns_of pool store)) (range_with_len 0 (length S.clients))
  lines_are = ap (map lines_of_script) going.clients ∙ twice (range_with_len 0 (length S.clients))
    where
      twice : (cs : List ℕ) → map lines_of_script (map (client_so_far S (turns_of pool store)) cs) ≡ map (lines_so_far S (turns_of pool store)) cs
      twice [] = refl
      twice (c ∷ cs) = ap (λ ls. lines_so_far S (turns_of pool store) c ∷ ls) (twice cs)

  pub faithful : AllDone S (turns_of pool store) → Faithful S (outcome_of S (turns_of pool store))
  faithful done = faithful_if_done S (turns_of pool store) going.cores.pool_legal going.cores.store_legal going.reads done

  -- the histories are within what the weight allows
  pub within : IsPlayable S → count_entries (turns_of pool store) ≤ most_calls S
  within playable = entries_within S playable.order.range playable.order.acyclic pool.entries store.entries going.cores.pool_legal going.cores.store_legal going.reads

  -- what a client wants, its script wants
  pub want_at : (c : ℕ) (client : ClientView) (w : Want) → c < length S.clients → client ≡ get_or views c client → (client.failed ≡ false → stop_of (script_of client) ≡ Some w)
      → want_so_far S (turns_of pool store) c ≡ Some w
  want_at c client w below is want =
      let own = is ∙ view_at c client below in
      ap (λ v. stop_of (script_of v)) (sym own) ∙ want (ap (λ v. v.failed) own)

-- ---- what the view tells

abbrev pub view_of : Scenario → Pool → Store → Bool → PlayView
view_of S pool store failed = record { scenario = S; so_far = turns_of pool store; failed = failed }

-- a client of a play that goes on
pub record AtClient (S : Scenario) (pool : Pool) (store : Store) (views : List ClientView) (c : ℕ) : Type 0 where
  pub going : IsGoing S pool store views
  pub below : c < length S.clients
  pub inside : c < length views

module _ {S : Scenario} {failed : Bool} {pool : Pool} {store : Store} {views : List ClientView} (keeps : KeepsPlay S failed pool store views) (play : PlayView)
    (view : view_of S pool store failed ≡ play) (ok : play.failed ≡ false) where
  pub goes_on : IsGoing S pool store views
  goes_on = keeps.going (ap (λ v. v.failed) view ∙ ok)

  pub at_client : (c : ℕ) → c < length play.scenario.clients → AtClient S pool store views c
  at_client c low =
      let below : c < length S.clients = subst (λ v. c < length v.scenario.clients) (sym view) low in
      record { going = goes_on; below = below; inside = subst (λ n. c < n) (sym (count S pool store views goes_on)) below }

-- ---- turns one after the other

pub turns_add : (S : Scenario) (c k n : ℕ) (so_far : Turns) → turns S c (k + n) so_far ≡ turns S c n (turns S c k so_far)
unfolding turns
turns_add S c zero n so_far =
    let here : 0 + n ≡ n = omega arith in
    ap (λ m. turns S c m so_far) here
turns_add S c (suc k) n so_far =
    let here : suc k + n ≡ suc (k + n) = omega arith in
    ap (λ m. turns S c m so_far) here ∙ turns_add S c k n (turn S so_far c)

pub turns_one : (S : Scenario) (c k : ℕ) (so_far : Turns) → turns S c (k + 1) so_far ≡ turn S (turns S c k so_far) c
unfolding turns
turns_one S c k so_far = turns_add S c k 1 so_far

-- all turns to the end are those that were made, and then some that do nothing
pub turns_to_end : (S : Scenario) (c made : ℕ) (start so_far : Turns) → turns S c made start ≡ so_far → made ≤ most_calls S → IsClientDone S so_far c → run_out S start c ≡ so_far
turns_to_end S c made start so_far is few done =
    let all : most_calls S ≡ made + (most_calls S - made) = omega (arith, few) in
    ap (λ m. turns S c m start) all ∙ turns_add S c made (most_calls S - made) start ∙ ap (turns S c (most_calls S - made)) is ∙ turns_done S c (most_calls S - made) so_far done
