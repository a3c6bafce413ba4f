use Rattle.std.proofs.Common.{◌≡◌, ◌∷◌, rules, map, string_bytes}
use Rattle.stx_words.proofs.JobLaws.{fault_or_job, job_or_fault, job_refused, job_taken}
use Rattle.stx_words.proofs.command.job_in_words.Goals as goal

pub returns-in-Ok-clause-ok : goal.returns-in-Ok-clause-ok
returns-in-Ok-clause-ok g c =
    let named : map (λ word. word.now) c.as_slice.result.now ≡ c.args.name.now ∷ map string_bytes c.args.words.now = search rules in
    rw c.ok_or.ensures.value (job_or_fault _ c.job_by.result
    (job_taken _ _ _ _ _ _ _ c.in_ok-command_named.ensures named c.in-Ok.ensures.sound c.in-Ok.ensures.rows c.job_by.ensures.job))

pub returns-in-Ok-clause-usage : goal.returns-in-Ok-clause-usage
returns-in-Ok-clause-usage g c =
    let named : map (λ word. word.now) c.as_slice.result.now ≡ c.args.name.now ∷ map string_bytes c.args.words.now = search rules in
    rw c.ok_or.ensures.value (fault_or_job _ c.job_by.result
    (job_taken _ _ _ _ _ _ _ c.in_ok-command_named.ensures named c.in-Ok.ensures.sound c.in-Ok.ensures.rows c.job_by.ensures.job))

pub returns-clause-usage : goal.returns-clause-usage
returns-clause-usage g c = λ usage.
    let named : map (λ word. word.now) c.as_slice.result.now ≡ c.args.name.now ∷ map string_bytes c.args.words.now = search rules in
    job_refused _ _ _ _ _ c.in_ok-command_named.ensures named (c.in-Err.ensures.usage usage)
