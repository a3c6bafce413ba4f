-- A name that is seen again, one more, and none left.
use Rattle.std.proofs.Common.{◌∙◌}
use Rattle.stx_names.proofs.DuplicateLaws.{seen_again, not_seen, all_so_far, none_seen}
use Rattle.stx_names.proofs.duplicates.first_seen.Goals as goal

pub returns-then-not-branch-clause-place : goal.returns-then-not-branch-clause-place
returns-then-not-branch-clause-place c =
    seen_again c.args.names.now c.loop-at.at c.as_str.result.now _ c.loop-at.numbers c.in_ok-add.field-0 _ c.loop-at-test.true
    (c.as_str.ensures ∙ c.index-names-at.is) c.in_ok-add.ensures.new c.if-not-branch.true c.loop-at.invariant.0

pub loop-at-preserved : goal.loop-at-preserved
loop-at-preserved c = (
  not_seen c.args.names.now c.loop-at.at c.as_str.result.now _ c.loop-at.numbers c.in_ok-add.field-0 _ _ c.loop-at-test.true
      (c.as_str.ensures ∙ c.index-names-at.is) c.in_ok-add.ensures.new c.if-not-branch.false c.in_ok-add.ensures.names c.loop-at.invariant.0,
  all_so_far c.args.names.now c.loop-at.at c.as_str.result.now _ c.loop-at.numbers c.in_ok-add.field-0 _ _ c.loop-at-test.true
      (c.as_str.ensures ∙ c.index-names-at.is) c.in_ok-add.ensures.new c.if-not-branch.false c.in_ok-add.ensures.names c.loop-at.invariant.1,
)

pub returns-clause-place : goal.returns-clause-place
returns-clause-place c = none_seen c.args.names.now c.loop-at.at c.loop-at.numbers _ c.loop-at-test.false c.loop-at.invariant.0
