-- Worked rows: notes that are fresh and notes that aren't, the law on proper wants at work, a run over stale notes whose
-- want isn't proper, lines that aren't balanced, and labels that aren't resumed in order or completed once.
use Rattle.std.proofs.Common.{◌≡◌, ℕ, pos, ◌≤◌, false, List, [], ◌∷◌, map, Some, refl, sym, arith, IsTrue}
use Rattle.std.specs.Prelude.{◌++◌}
use Rattle.std.specs.List.{IsDistinct, filter_map}
use Rattle.std.proofs.lemmas.Bool.{false≢true}
use Rattle.stx_scenario.specs.declared.scenario.Propagation.{Propagation}
use Rattle.stx_base.specs.declared.call.Want.{Want}
use Rattle.stx_base.specs.declared.history.Access.{Access}
use Rattle.stx_base.specs.declared.history.PoolNote.{PoolNote}
use Rattle.stx_base.specs.declared.history.StoreNote.{StoreNote}
use Rattle.stx_base.specs.declared.line.Label.{Label}
use Rattle.stx_base.specs.declared.line.Line.{Line}
use Rattle.stx_base.specs.Stores.{store_proper}
use Rattle.stx_base.specs.declared.manager.Kind.{Kind}
use Rattle.stx_model.specs.Contexts.{Context}
use Rattle.stx_model.specs.Brackets.{IsBalanced, connection_bracket, transaction_bracket, binding_bracket, IsResumedInOrder, IsCompletedOnce, top_calls}
use Rattle.stx_model.proofs.BracketLaws.{once_if_settled}
use Rattle.stx_model.specs.Reads.{TakesFresh, BeginsFresh}
use Rattle.stx_model.specs.Faithful.{Faithful}
use Rattle.stx_model.specs.Played.{played}
use Rattle.stx_model.proofs.PlayedFaithful.{played_is_faithful}
use Rattle.stx_model.proofs.ProperLaws.{wants_proper}
use Rattle.stx_model.proofs.ValidRow.{twice, twice_is_valid}
use Rattle.stx_model.proofs.FlatRows.{written_and_read}
use Rattle.stx_model.proofs.NoteRows.{Stands}
use Rattle.stx_model.proofs.ShopRow.{placed}
use Rattle.stx_model.proofs.Small.{m, n, a, pool_note, store_note}
use Rattle.stx_model.proofs.Traces.{top, call, leave, opened_sync, take, give, begin, rollback, unbind, bind, suspend, resume, register, after_completion_committed}

-- ---- fresh notes

-- a connection may be taken again once it was given
pub taken_again : TakesFresh (PoolNote.Taken 1 ∷ PoolNote.Given 1 ∷ PoolNote.Taken 1 ∷ [])
taken_again = (refl, (refl, tt))

pub taken_twice : ¬ TakesFresh (PoolNote.Taken 1 ∷ PoolNote.Taken 1 ∷ [])
taken_twice h = false≢true (sym h.1.0)

-- ---- a second call, whose transaction bears this number

abbrev second_begun : ℕ → List Line
second_begun t = written_and_read ++ top 1 ∷ call m Propagation.Required ∷ take 1 ∷ begin t ∷ opened_sync Kind.Fresh ∷ []

abbrev notes : ℕ → List StoreNote
notes t = filter_map store_note (second_begun t)

abbrev write_of : ℕ → Want
write_of t = Want.Access t (Access.Write a (pos 5))

abbrev bound : ℕ → Context
bound t = record { tx = Some (record { connection = 1; transaction = t; read_only = false; mark = false }); syncs = Some [] }

-- whatever the number, nothing is unread, and it wants its first access
pub second_wants : (t : ℕ) → Stands twice (second_begun t) (write_of t) (bound t) (Some false)
unfolding Stands
second_wants t = refl

pub begun_anew : BeginsFresh (notes 2)
unfolding IsDistinct
begun_anew = ((refl, tt), (tt, tt))

-- the law's premises can be met
pub law_applies : IsTrue (store_proper (notes 2) (write_of 2))
unfolding Stands
law_applies = wants_proper twice twice_is_valid 0 (filter_map pool_note (second_begun 2)) (notes 2) (write_of 2)
    (record { lines = second_begun 2; context = bound 2; local = Some false; pool = []; store = [] }) (second_wants 2) refl refl begun_anew

-- and so can those of the law on plays
pub every_play_is_faithful : (schedule : List ℕ) → Faithful twice (played twice schedule)
every_play_is_faithful schedule = played_is_faithful twice twice_is_valid schedule

-- a number may not be begun again, not even after its end
pub begun_twice : ¬ BeginsFresh (notes 1)
unfolding IsDistinct
begun_twice h = false≢true (sym h.0.0)

-- over those notes the law's other premises hold, but the access names a transaction that has ended
pub stale_is_improper : store_proper (notes 1) (write_of 1) ≡ false
unfolding store_proper
stale_is_improper = refl

-- ---- brackets

pub takes_and_gives_balance : IsBalanced (map connection_bracket written_and_read)
takes_and_gives_balance = refl

pub begins_and_ends_balance : IsBalanced (map transaction_bracket written_and_read)
begins_and_ends_balance = refl

-- a connection that is out where a top-level call begins is no balance
pub kept_is_unbalanced : ¬ IsBalanced (map connection_bracket (top 0 ∷ take 1 ∷ top 1 ∷ give 1 ∷ []))
kept_is_unbalanced h = cc

-- nor is a transaction that lives there, or a connection that is unbound there
pub begun_before_is_unbalanced : ¬ IsBalanced (map transaction_bracket (top 0 ∷ begin 1 ∷ top 1 ∷ rollback 1 ∷ []))
begun_before_is_unbalanced h = cc

pub unbound_before_is_unbalanced : ¬ IsBalanced (map binding_bracket (top 0 ∷ unbind 1 ∷ top 1 ∷ bind 1 ∷ []))
unbound_before_is_unbalanced h = cc

-- nor are connections that are given in the order in which they were taken
pub crossed_is_unbalanced : ¬ IsBalanced (map connection_bracket (top 0 ∷ take 1 ∷ take 2 ∷ give 1 ∷ give 2 ∷ []))
crossed_is_unbalanced h = cc

-- nor is a transaction that no line ends
pub unended_is_unbalanced : ¬ IsBalanced (map transaction_bracket (top 0 ∷ begin 1 ∷ []))
unended_is_unbalanced h = cc

-- ---- suspension, and completions

abbrev first_sync : Label
first_sync = Label.Sync (record { 0 = 0 })

abbrev second_sync : Label
second_sync = Label.Sync (record { 0 = 1 })

abbrev first_listener : Label
first_listener = Label.Listener (record { 0 = 0 })

abbrev suspending : List Line → List Line
suspending inside = top 0 ∷ call m Propagation.RequiresNew ∷ suspend first_sync ∷ suspend second_sync ∷ inside

pub resumed_in_turn : IsResumedInOrder (suspending (resume first_sync ∷ resume second_sync ∷ leave m ∷ []))
resumed_in_turn = refl

pub resumed_out_of_turn : ¬ IsResumedInOrder (suspending (resume second_sync ∷ resume first_sync ∷ leave m ∷ []))
resumed_out_of_turn h = cc

-- a call that leaves with a label suspended
pub left_suspended : ¬ IsResumedInOrder (suspending (resume first_sync ∷ leave m ∷ []))
left_suspended h = cc

-- a call inside that resumes what the call round it suspended
pub resumed_inside : ¬ IsResumedInOrder (suspending (call n Propagation.Required ∷ resume first_sync ∷ resume second_sync ∷ leave n ∷ leave m ∷ []))
resumed_inside h = cc

-- a call that hasn't left where a top-level call begins
pub left_later : ¬ IsResumedInOrder (top 0 ∷ call m Propagation.Required ∷ top 1 ∷ leave m ∷ [])
left_later h = cc

pub completed_for_each : IsCompletedOnce first_sync (top 0 ∷ register first_sync ∷ after_completion_committed first_sync ∷ [])
completed_for_each = once_if_settled first_sync (top 0 ∷ register first_sync ∷ after_completion_committed first_sync ∷ []) refl

-- a completion for a label that isn't registered, or not yet
pub completed_for_none : ¬ IsCompletedOnce first_sync (top 0 ∷ register second_sync ∷ after_completion_committed first_sync ∷ [])
completed_for_none h = let no : 1 ≡ 0 = h.all in omega (arith, no)

-- a listener is never a synchronisation, though both have the same number
pub completed_for_a_listener : ¬ IsCompletedOnce first_sync (top 0 ∷ register first_sync ∷ after_completion_committed first_listener ∷ [])
completed_for_a_listener h = let no : 0 ≡ 1 = h.all in omega (arith, no)

pub completed_early : ¬ IsCompletedOnce first_sync (after_completion_committed first_sync ∷ register first_sync ∷ [])
completed_early h = let no : 1 ≤ 0 = h.never_more (after_completion_committed first_sync ∷ []) (register first_sync ∷ []) refl in omega (arith, no)

-- each top-level call is one list of lines
pub two_top_calls : top_calls (top 0 ∷ leave m ∷ top 1 ∷ leave m ∷ []) ≡ (top 0 ∷ leave m ∷ []) ∷ (top 1 ∷ leave m ∷ []) ∷ []
two_top_calls = refl

-- ---- a whole order, with two calls that stand apart, a savepoint and a listener

pub an_order_gives_back : IsBalanced (map connection_bracket placed)
an_order_gives_back = refl

pub an_order_ends_what_it_began : IsBalanced (map transaction_bracket placed)
an_order_ends_what_it_began = refl

pub an_order_binds_again : IsBalanced (map binding_bracket placed)
an_order_binds_again = refl

pub an_order_resumes : IsResumedInOrder placed
an_order_resumes = refl

pub an_order_completes_its_listener : IsCompletedOnce (Label.Listener (record { 0 = 0 })) placed
an_order_completes_its_listener = once_if_settled (Label.Listener (record { 0 = 0 })) placed refl
