-- A turn of a client that is done does nothing.
use Rattle.std.proofs.Common.{◌≡◌, List, [], ◌∷◌, length, slice_get, None, refl, sym, ap, ◌∙◌}
use Rattle.std.specs.List.{list_any}
use Rattle.std.specs.Option.{is_some}
use Rattle.stx_journal.specs.Journal.{committed_in}
use Rattle.stx_play.specs.Play.{gained, is_commit}
use Rattle.stx_model.proofs.Turns.{done_stays}
use Rattle.stx_play.proofs.CommitLaws.{turn_told, nothing_told}
use Rattle.stx_play.proofs.played.Played.step.Goals as goal

at_end : {A : Type 0} (xs : List A) → None ≡ slice_get xs (length xs)
at_end [] = refl
at_end (x ∷ xs) = at_end xs

pub returns-then-is_done-clause-turn : goal.returns-then-is_done-clause-turn
returns-then-is_done-clause-turn c =
    let play = c.args.self.now in
    let done = c.if-is_done.ensures.0 refl in
    ap (λ t. record { scenario = play.scenario; so_far = t; failed = play.failed }) (sym (done_stays play.scenario play.so_far c.args.client done))

pub returns-then-is_done-clause-committed : goal.returns-then-is_done-clause-committed
returns-then-is_done-clause-committed c = at_end (committed_in c.args.self.now.scenario.values c.args.self.now.so_far.store)

pub returns-then-is_done-clause-told : goal.returns-then-is_done-clause-told
returns-then-is_done-clause-told c = nothing_told c.args.self.now.so_far.store

pub returns-in-Ok-clause-told : goal.returns-in-Ok-clause-told
returns-in-Ok-clause-told c =
    let old = c.args.self.now in
    let new = c.make_call.new.self in
    let turned = c.in_ok-make_call.ensures.turn in
    ap is_some c.in-Ok.ensures
    ∙ ap (λ n. is_some (slice_get (committed_in new.scenario.values new.so_far.store) n)) c.count_committed-before.ensures
    ∙ ap (λ v. is_some (slice_get (committed_in v.scenario.values v.so_far.store) (length (committed_in old.scenario.values old.so_far.store)))) turned
    ∙ turn_told old.scenario old.scenario.values old.so_far c.args.client
    ∙ ap (λ v. list_any is_commit (gained old v)) (sym turned)
