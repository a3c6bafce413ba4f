-- A piece was written after all that came before it.
use Rattle.std.proofs.Common.{◌≤◌, length, take, drop, ◌∙◌, arith, length-drop}
use Rattle.std.proofs.Math.Seq.{take-add}
use Rattle.std.proofs.lemmas.List.{take_rest}
use Rattle.stx_outside.proofs.Pieces.{GainsEnd-append}
use Rattle.stx_outside.proofs.whole.write_whole.Goals as goal

pub pieces-preserved : goal.pieces-preserved
pieces-preserved g c =
    let count = c.in_ok-written.field-0 in
    let bound : count ≤ length (drop c.pieces.written c.args.bytes.now) =
    rw (take_rest c.args.bytes.now c.pieces.written) at c.in_ok-written.ensures.bytes.bound in
    record {
      end = rw (take-add c.pieces.written count c.args.bytes.now)
          (GainsEnd-append
          (g.K.Sink.taken c.args.sink.now) (g.K.Sink.taken c.pieces.sink) (g.K.Sink.taken c.write.new.self)
          (take c.pieces.written c.args.bytes.now) (take count (drop c.pieces.written c.args.bytes.now))
          c.pieces.invariant.end (rw (take_rest c.args.bytes.now c.pieces.written) at c.in_ok-written.ensures.bytes.appended));
      within = omega (arith, bound, length-drop c.pieces.written c.args.bytes.now);
      kept = c.in_ok-written.ensures.cause.kept ∙ c.pieces.invariant.kept;
    }
