-- The path isn't the root's.
use Rattle.std.proofs.Common.{◌≡◌, ◌==◌, length, false, sym, ◌∙◌}
use Rattle.stx_refusals.proofs.PathLaws.{under_inner}
use Rattle.stx_refusals.proofs.path.under.Goals as goal

pub returns : goal.returns
returns c =
    let inner : (length c.args.path.now == 0) ≡ false = sym c.if-is_empty.ensures in
    c.from_text-2.ensures ∙ c.in_ok-format.ensures.ok ∙ under_inner c.args.path.now c.args.key.now inner
