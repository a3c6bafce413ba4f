-- All worked rows, by one theorem of each file: an answer that names `rows_compute` has all of them checked.
use Rattle.stx_model.proofs.Tables.{openings_in_the_mode_always}
use Rattle.stx_model.proofs.JoinRows.{a_joined_failure_is_unexpected}
use Rattle.stx_model.proofs.PointRows.{a_nested_commit_releases_its_savepoint}
use Rattle.stx_model.proofs.SuspensionRows.{an_empty_pool_resumes_the_outer_transaction}
use Rattle.stx_model.proofs.CallbackRows.{lower_order_values_come_first_and_ties_as_registered}
use Rattle.stx_model.proofs.ListenerRows.{an_after_commit_listener_runs_after_completion_and_what_it_throws_is_swallowed}
use Rattle.stx_model.proofs.PlainRows.{a_call_of_the_same_bean_is_not_intercepted}
use Rattle.stx_model.proofs.FlatRows.{a_transaction_writes_reads_and_commits}
use Rattle.stx_model.proofs.NoteRows.{a_fresh_scope_first_wants_a_connection}
use Rattle.stx_model.proofs.ReadsRows.{law_applies}
use Rattle.stx_model.proofs.ShopRow.{an_order_is_placed}
use Rattle.stx_model.proofs.ReportRows.{one_method_printed}
use Rattle.stx_model.proofs.SerialRows.{kept_locks_serial}
use Rattle.stx_model.proofs.SerialCounterexample.{store_refuses_it}

pub rows_compute : Unit {0}
rows_compute =
    let tables = openings_in_the_mode_always in
    let joins = a_joined_failure_is_unexpected in
    let points = a_nested_commit_releases_its_savepoint in
    let suspensions = an_empty_pool_resumes_the_outer_transaction in
    let callbacks = lower_order_values_come_first_and_ties_as_registered in
    let listeners = an_after_commit_listener_runs_after_completion_and_what_it_throws_is_swallowed in
    let plain = a_call_of_the_same_bean_is_not_intercepted in
    let flat = a_transaction_writes_reads_and_commits in
    let notes = a_fresh_scope_first_wants_a_connection in
    let reads = law_applies in
    let shop = an_order_is_placed in
    let reports = one_method_printed in
    let serial = kept_locks_serial in
    let counterexample = store_refuses_it in
    tt
