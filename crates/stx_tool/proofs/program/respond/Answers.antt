use Rattle.std.proofs.Common.{refl, subst, ap, ◌∙◌}
use Rattle.stx_tool.specs.Programs.{needs_input, IsResponse}
use Rattle.stx_tool.proofs.ResponseLaws.{no_job, no_input, no_response, responds}
use Rattle.stx_tool.proofs.program.respond.Goals as goal

pub returns-in_err-job : goal.returns-in_err-job
returns-in_err-job g c =
    no_job _ _ _ _ _ _ _ _ _ c.from_residual.result c.in_err-job.field-0.0 c.from_residual.ensures.1 c.in_err-job.ensures.usage refl refl refl

pub returns-in_err-bytes : goal.returns-in_err-bytes
returns-in_err-bytes g c =
    no_input _ _ _ _ _ _ _ _ _ c.in_ok-job.job c.in_ok-job.ensures.ok c.read_input.result _ (c.needs_input.ensures ∙ ap needs_input c.load_of-load.ensures) c.read_input.ensures.source
    c.from_residual-in_err-bytes.result c.in_err-bytes.field-0.0 c.from_residual-in_err-bytes.ensures.1 c.in_err-bytes.was

pub returns-in_err-answer : goal.returns-in_err-answer
returns-in_err-answer g c =
    no_response _ _ _ _ _ _ _ _ _ c.in_ok-job.job c.in_ok-job.ensures.ok c.read_input.result _ (c.needs_input.ensures ∙ ap needs_input c.load_of-load.ensures) c.read_input.ensures.source
    c.from_residual-in_err-answer.result c.in_err-answer.field-0.0 c.in_ok-bytes.bytes c.from_residual-in_err-answer.ensures.1 c.in_ok-bytes.was

pub returns : goal.returns
returns g c =
    responds _ _ _ _ _ _ _ _ _ c.in_ok-job.job c.in_ok-job.ensures.ok c.read_input.result _ (c.needs_input.ensures ∙ ap needs_input c.load_of-load.ensures) c.read_input.ensures.source
    c.in_ok-answer.answer c.in_ok-bytes.bytes.items c.in_ok-bytes.bytes c.in_ok-bytes.was c.in_ok-bytes.ensures.read
    (subst (λ bytes. IsResponse g.P.Program.jobs c.in_ok-job.job bytes c.in_ok-answer.answer) c.deref.ensures.value c.in_ok-answer.ensures)
