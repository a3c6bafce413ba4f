-- One account more.
use Rattle.std.proofs.Common.{◌∙◌}
use Rattle.stx_load.specs.Generated.{account_name}
use Rattle.stx_load.proofs.DrawLaws.{grown}
use Rattle.stx_load.proofs.rows.row_names.Goals as goal

pub loop-account-preserved : goal.loop-account-preserved
loop-account-preserved c =
    c.in_ok-push.ensures.ok ∙ grown account_name c.loop-account.names c.loop-account.account _ c.loop-account.invariant c.in_ok-numbered.ensures
