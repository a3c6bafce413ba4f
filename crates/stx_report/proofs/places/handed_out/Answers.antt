-- One entry more, and none left.
use Rattle.std.proofs.Common.{◌≡◌, ◌+◌, length, get_or, ap, ◌∙◌, arith}
use Rattle.stx_report.specs.inner.Places.{placed}
use Rattle.stx_report.proofs.SliceLaws.{whole-write}
use Rattle.stx_report.proofs.PlaceLaws.{handed_none, handed_more, handed_all}
use Rattle.stx_report.proofs.places.handed_out.Goals as goal

pub loop-index-init : goal.loop-index-init
loop-index-init c = handed_none c.args.makers.now c.args.clients c.in_ok-places.places.items c.in_ok-places.ensures

pub loop-index-preserved : goal.loop-index-preserved
loop-index-preserved c =
    let long : length c.hand_out.new.places ≡ c.loop-index.places.len = omega arith in
    let grown = whole-write c.hand_out.new.places c.loop-index.places.items c.loop-index.places.len long
    ∙ c.in_ok-hand_out.ensures
    ∙ ap (λ places. placed places (get_or c.args.makers.now c.loop-index.index 0) (c.loop-index.index + 1)) c.deref_mut.ensures.value in
    handed_more c.args.makers.now c.loop-index.index 0 c.args.clients c.loop-index.places.items _ c.loop-index-test.true grown c.loop-index.invariant

pub returns : goal.returns
returns c = handed_all c.args.makers.now c.loop-index.index c.args.clients c.loop-index.places.items c.loop-index-test.false c.loop-index.invariant
