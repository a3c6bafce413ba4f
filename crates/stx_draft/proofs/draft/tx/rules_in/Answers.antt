-- One text more, a rule or none, and all of them.
use Rattle.std.proofs.Common.{◌∙◌, sym, ap, map, refl}
use Rattle.stx_names.specs.Sentences.{rule_in}
use Rattle.stx_draft.specs.Draft.{rule_of}
use Rattle.stx_draft.proofs.PartLaws.{made_more, made_same, kept_all}
use Rattle.stx_draft.proofs.draft.tx.rules_in.Goals as goal
use Rattle.stx_draft.proofs.draft.tx.rules_in.Goals.{in-Some+in_ok-rule_of+in_ok-push, in_default}

pub loop-text-preserved : goal.loop-text-preserved
loop-text-preserved c =
    elim c.match-rule_in.branch [
      | in-Some+in_ok-rule_of+in_ok-push w ↦
          rw (w.rules-is, w.in_ok-push.ensures.ok, w.in_ok-rule_of.ensures)
          (made_more (λ text. text.now) rule_in c.as_slice-text-items.result.now c.loop-text.text-index (rule_of c.args.names.now) _ _ _ w.in-Some.rule c.loop-text-test.true refl
          (sym c.rule_in.ensures ∙ w.in-Some.is) c.loop-text.invariant)
      | in_default w ↦
          rw w.rules-is
          (made_same (λ text. text.now) rule_in c.as_slice-text-items.result.now c.loop-text.text-index (rule_of c.args.names.now) _ _ _ c.loop-text-test.true refl
          (sym c.rule_in.ensures ∙ w.in_default.is) c.loop-text.invariant)
    ]

pub returns : goal.returns
returns c =
    c.loop-text.invariant
    ∙ ap (map (rule_of c.args.names.now)) (kept_all (λ text. text.now) rule_in c.as_slice-text-items.result.now c.loop-text.text-index _ c.loop-text-test.false
    (ap (map (λ text. text.now)) c.as_slice-text-items.ensures.value ∙ c.in_ok-texts.ensures))
