-- One value more, a statement or none, and all of them.
use Rattle.std.proofs.Common.{◌∙◌, Option, sym, refl, ap, map, take, option_copied}
use Rattle.std.specs.List.{filter_map}
use Rattle.std.specs.Option.{option_and_then}
use Rattle.toml.specs.Data.{Data, as_str}
use Rattle.toml.specs.View.{view, table_view}
use Rattle.stx_names.specs.declared.sentence.Sentence.{Sentence}
use Rattle.stx_names.specs.Sentences.{sentence_in}
use Rattle.stx_draft.specs.Draft.{stated}
use Rattle.stx_draft.specs.Parts.{array_at}
use Rattle.stx_draft.specs.inner.Growing.{grown}
use Rattle.stx_draft.proofs.PartLaws.{kept_more, kept_same, kept_all}
use Rattle.stx_draft.proofs.GrowthLaws.{statement_more, sentences_kept}
use Rattle.stx_draft.proofs.draft.statements.body_at.Goals as goal
use Rattle.stx_draft.proofs.draft.statements.body_at.Goals.{in-Some+in_ok-stated+in_ok-push, in_default}

pub loop-value-preserved : goal.loop-value-preserved
loop-value-preserved c =
    let h : Data → Option Sentence = λ d. option_and_then sentence_in (as_str d) in
    let values = c.array_at-value-items.result.now in
    let i = c.loop-value.value-index in
    let done = filter_map h (map view (take i values)) in
    elim c.match-sentence_of.branch [
      | in-Some+in_ok-stated+in_ok-push w ↦
          let more = kept_more view h values i c.value-item.result _ w.in-Some.sentence done c.loop-value-test.true c.value-item.is (sym c.sentence_of.ensures ∙ w.in-Some.is) refl in
          rw (w.names-is, w.body-is, w.in_ok-push.ensures.ok, ← more)
          (statement_more (option_copied c.args.bean) c.args.names.now c.loop-value.names w.stated.new.names done w.in-Some.sentence c.loop-value.body w.in_ok-stated.field-0
          c.loop-value.invariant w.in_ok-stated.ensures.names w.in_ok-stated.ensures.statement)
      | in_default w ↦
          let same = kept_same view h values i c.value-item.result _ done c.loop-value-test.true c.value-item.is (sym c.sentence_of.ensures ∙ w.in_default.is) refl in
          rw (w.names-is, w.body-is, ← same) c.loop-value.invariant
    ]

pub returns-clause-names : goal.returns-clause-names
returns-clause-names c =
    c.loop-value.invariant.0 ∙ ap (grown c.args.names.now) (
    kept_all view (λ d. option_and_then sentence_in (as_str d)) c.array_at-value-items.result.now c.loop-value.value-index _ c.loop-value-test.false c.array_at-value-items.ensures
    ∙ sentences_kept as_str sentence_in (array_at c.args.key.now (table_view c.args.table.now)))

pub returns-clause-body : goal.returns-clause-body
returns-clause-body c = λ more.
    c.loop-value.invariant.1 more
    ∙ ap (map (stated (grown c.loop-value.names more) (option_copied c.args.bean))) (
    kept_all view (λ d. option_and_then sentence_in (as_str d)) c.array_at-value-items.result.now c.loop-value.value-index _ c.loop-value-test.false c.array_at-value-items.ensures
    ∙ sentences_kept as_str sentence_in (array_at c.args.key.now (table_view c.args.table.now)))
