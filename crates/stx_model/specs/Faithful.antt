-- When an outcome is a faithful run of a scenario.
use Rattle.std.specs.Prelude.{◌≡◌, ℕ, ◌<◌, List, [], map, length, Some, slice_get}
use Rattle.stx_scenario.specs.declared.scenario.Scenario.{Scenario}
use Rattle.stx_base.specs.declared.call.Want.{Want}
use Rattle.stx_base.specs.declared.line.Line.{Line}
use Rattle.stx_base.specs.declared.outcome.Outcome.{Outcome}
use Rattle.stx_base.specs.Histories.{pool_notes, store_notes, pool_notes_of, store_notes_of}
use Rattle.stx_base.specs.Pools.{out}
use Rattle.stx_base.specs.Stores.{live, store_facts}
use Rattle.stx_base.specs.Legal.{PoolLegal, StoreLegal}
use Rattle.stx_base.specs.Serial.{Serial}
use Rattle.stx_model.specs.Brackets.{IsBalanced, connection_bracket}
use Rattle.stx_model.specs.Meanings.{Result, state_of, stop_of}
use Rattle.stx_model.specs.Script.{script}

-- ---- each client's lines are its script

-- the script of client c over its own notes in the outcome
abbrev pub script_in : Scenario → Outcome → ℕ → Result
script_in S O c = script S c (pool_notes_of O.pool c) (store_notes_of O.store c)

-- it is done, has read every note, and its lines are those of the outcome
pub record IsPlayedOut (S : Scenario) (O : Outcome) (c : ℕ) : Type 0 where
  pub done : stop_of (script_in S O c) ≡ Some Want.Done
  pub pool_read : (state_of (script_in S O c)).pool ≡ []
  pub store_read : (state_of (script_in S O c)).store ≡ []
  pub lines : slice_get O.lines c ≡ Some (state_of (script_in S O c)).lines

-- ---- the whole

-- everything is given back: no connection is out, no transaction lives, and in each top-level call of each client
-- the takes and gives are balanced brackets
pub record IsBack (O : Outcome) : Type 0 where
  pub pool : out (pool_notes O.pool) ≡ []
  pub store : live (store_notes O.store) ≡ []
  pub calls : (c : ℕ) (lines : List Line) → slice_get O.lines c ≡ Some lines → IsBalanced (map connection_bracket lines)

-- the histories are legal, each client's lines are its script over its own notes, the committed transactions are
-- serial in the order of the journal, and everything is back
pub record Faithful (S : Scenario) (O : Outcome) : Type 0 where
  pub pool_legal : PoolLegal (length S.clients) S.settings.pool O.pool
  pub store_legal : StoreLegal (length S.clients) (store_facts S) O.store
  pub one_trace_each : length O.lines ≡ length S.clients
  pub scripts : (c : ℕ) → c < length S.clients → IsPlayedOut S O c
  pub serial : Serial (store_facts S) O.store
  pub back : IsBack O
