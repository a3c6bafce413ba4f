use Rattle.std.proofs.Common.{◌<◌, List, [], length, fold, ap, ◌∙◌, arith}
use Rattle.stx_scenario.specs.declared.numbers.MethodNo.{MethodNo}
use Rattle.stx_graph.specs.inner.Rows.{with_method}
use Rattle.stx_graph.proofs.SearchLaws.{search_starts, search_goes_on, search_ends, row_read}
use Rattle.stx_graph.proofs.cycles.reached.Goals as goal

pub loop-at-init : goal.loop-at-init
loop-at-init c =
    let rows = c.args.rows.now in
    let row = row_read _ rows c.args.start.0 _ _ c.rows.view_is c.requires.start c.index.ensures c.as_slice.ensures in
    record {
      bound = let a = c.in_ok-add_all.ensures.bound in let b = c.in_ok-set.ensures.bound in let d = c.len.ensures in omega (arith, a, b, d);
      searches =
          search_starts rows c.args.start _
          (c.in_ok-add_all.ensures.order ∙ ap (λ (ms : List MethodNo). fold with_method ms c.as_slice.result.now) c.in_ok-set.ensures.empty
          ∙ ap (fold with_method []) row);
    }

pub loop-at-preserved : goal.loop-at-preserved
loop-at-preserved c =
    let rows = c.args.rows.now in
    let order = c.loop-at.set.order.items in
    let method = c.index-method.result.now in
    let turn = c.loop-at-test.true in
    let count = c.len-in-loop-at.ensures in
    let within : c.loop-at.at < length order = omega (arith, turn, count) in
    let bound = c.loop-at.invariant.bound in
    let low = c.loop-at.set.marked.within c.loop-at.at method within in
    let here = c.index-method.ensures in
    let same = ap (λ (m : MethodNo). m.0) here in
    let below : method.0 < length rows = omega (arith, low, same, bound) in
    let row = row_read _ rows method.0 _ _ c.rows.view_is below c.index-in-loop-at.ensures c.as_slice-in-loop-at.ensures in
    record {
      bound = let a = c.in_ok-add_all-2.ensures.bound in omega (arith, a, bound);
      searches =
          search_goes_on rows c.args.start order _ c.loop-at.at method c.loop-at.invariant.searches within here
          (c.in_ok-add_all-2.ensures.order ∙ ap (fold with_method order) row);
    }

pub returns-clause-reached : goal.returns-clause-reached
returns-clause-reached c =
    search_ends _ _ _ c.loop-at.at c.loop-at.invariant.searches
    (let count = c.len-in-loop-at.ensures in let over = c.loop-at-test.false in omega (arith, count, over))
