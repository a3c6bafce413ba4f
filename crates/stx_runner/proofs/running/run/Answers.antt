-- All seats are taken in, and the run is faithful.
use Rattle.std.proofs.Common.{◌∙◌, ap, refl}
use Rattle.stx_runner.proofs.RunLaws.{HaveAll, have_all, joinable, all_of_pool, all_of_store, is_faithful}
use Rattle.stx_runner.proofs.running.run.Goals as goal

pub join_all-requires-clause-each : goal.join_all-requires-clause-each
join_all-requires-clause-each g c = joinable c.args.setup.now.scenario c.in_ok-cells.cells c.in_ok-driven.driven.lines c.in_ok-driven.driven.backends c.in_ok-driven.ensures

pub close-requires-clause-all : goal.close-requires-clause-all
close-requires-clause-all g c =
    let S = c.args.setup.now.scenario in
    let cells = c.in_ok-cells.cells in
    let driven = c.in_ok-driven.driven in
    let all : HaveAll S driven.backends c.join_all.new.first = have_all S cells c.split_all.new.first c.join_all.new.first driven.backends c.in_ok-cells.ensures.cells c.in_ok-backends.ensures.first c.join_all.ensures in
    all_of_pool S cells driven.lines driven.backends c.in_ok-driven.ensures c.join_all.new.first all

pub close-requires-2-clause-all : goal.close-requires-2-clause-all
close-requires-2-clause-all g c =
    let S = c.args.setup.now.scenario in
    let cells = c.in_ok-cells.cells in
    let driven = c.in_ok-driven.driven in
    let all : HaveAll S driven.backends c.join_all.new.first = have_all S cells c.split_all.new.first c.join_all.new.first driven.backends c.in_ok-cells.ensures.cells c.in_ok-backends.ensures.first c.join_all.ensures in
    all_of_store S cells driven.lines driven.backends c.in_ok-driven.ensures c.join_all.new.first all

pub returns : goal.returns
returns g c =
    let S = c.args.setup.now.scenario in
    let cells = c.in_ok-cells.cells in
    let driven = c.in_ok-driven.driven in
    let all : HaveAll S driven.backends c.join_all.new.first = have_all S cells c.split_all.new.first c.join_all.new.first driven.backends c.in_ok-cells.ensures.cells c.in_ok-backends.ensures.first c.join_all.ensures in
    is_faithful S cells driven.lines driven.backends c.in_ok-driven.ensures c.join_all.new.first all c.close.result c.close-2.result c.close.ensures c.close-2.ensures
    (record { lines = driven.lines; pool = c.into_entries.result; store = c.into_entries-2.result }) refl
    (c.into_entries.ensures ∙ ap (λ p. p.entries) c.into_core.ensures) (c.into_entries-2.ensures ∙ ap (λ s. s.entries) c.into_core-2.ensures)
