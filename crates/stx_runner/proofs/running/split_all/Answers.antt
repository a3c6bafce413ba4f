-- One backend more, and all of them.
use Rattle.std.proofs.Common.{rules, ◌≡◌, ◌+◌, ◌++◌, ◌∷◌, [], length, refl, sym, ap, ◌∙◌, subst, length-append}
use Rattle.stx_runner.specs.Driving.{IsFresh}
use Rattle.stx_runner.specs.inner.Lists.{EachFrom}
use Rattle.stx_runner.proofs.DriveLaws.{fresh_seats}
use Rattle.stx_runner.proofs.ListLaws.{each_place, each_push}
use Rattle.stx_shared.specs.declared.asking.SharedBackend.{SharedBackend}
use Rattle.stx_turn.specs.Seats.{after_split}
use Rattle.stx_runner.proofs.running.split_all.Goals as goal

pub loop-number-preserved : goal.loop-number-preserved
loop-number-preserved c =
    let (split, fresh, count) = c.loop-number.invariant in
    let number = c.loop-number.number in
    let backend : SharedBackend = record { number = number; pool = c.split-pool.result; store = c.split-store.result } in
    let grown : c.push.new.self ≡ c.loop-number.backends ++ backend ∷ [] = c.in_ok-push.ensures.ok in
    let one = fresh_seats c.args.cells.now number c.loop-number.first backend split refl c.split-pool.ensures.seat c.split-store.ensures.seat in (
      record {
        pool = c.split-pool.ensures.from ∙ ap (λ seat. after_split seat (number + 1)) split.pool;
        store = c.split-store.ensures.from ∙ ap (λ seat. after_split seat (number + 1)) split.store;
      },
      subst (EachFrom (IsFresh c.args.cells.now) 0) (sym grown)
          (each_push (IsFresh c.args.cells.now) c.loop-number.backends backend fresh (subst (λ k. IsFresh c.args.cells.now k backend) (sym count) one)),
      ap length grown ∙ length-append c.loop-number.backends (backend ∷ []) ∙ ap (λ k. k + 1) count,
    )

pub returns-clause-fresh : goal.returns-clause-fresh
returns-clause-fresh c =
    let (split, fresh, count) = c.loop-number.invariant in
    record {
      count = let last : c.loop-number.number ≡ length c.args.setup.now.scenario.clients = search rules in count ∙ last;
      each = each_place (IsFresh c.args.cells.now) c.loop-number.backends fresh;
    }
