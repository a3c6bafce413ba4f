-- The job that a program's command line gives, and where it gives none.
use Rattle.std.proofs.Common.{◌≡◌, ◌≢◌, ℕ, List, [], ◌∷◌, Option, Some, None, refl, sym, ap, ◌∙◌}
use Rattle.std.specs.Option.{ok_or}
use Rattle.std.specs.Prelude.{IfOk, IfErr}
use Rattle.clap.specs.Words.{App, Kinds, Row, fault_of, matches_of}
use Rattle.stx_words.specs.Jobs.{app_named, job_stated, job_unless}
use Rattle.stx_words.specs.declared.fault.WordsFault.{WordsFault}

module _ {J : Type 0} (name : List ℕ) (by : List Row → Option J) where
  without_fault : (kinds : Kinds) (rows : List Row) → kinds ≡ [] → job_unless by kinds rows ≡ by rows
  without_fault kinds rows none = rw none refl

  with_fault : (kinds : Kinds) (rows : List Row) → kinds ≢ [] → job_unless by kinds rows ≡ None
  with_fault [] rows some = absurd (some refl)
  with_fault (fault ∷ more) rows some = refl

  -- the command line takes the words, and this is what their rows state
  pub job_taken : (app : App) (all words : List (List ℕ)) (rows : List Row) (found : Option J) → app ≡ app_named name → all ≡ name ∷ words
      → fault_of app all ≡ [] → rows ≡ matches_of app all → found ≡ by rows → job_stated name by words ≡ found
  unfolding job_stated
  job_taken app all words rows found own named none gives states =
      let taken : fault_of (app_named name) (name ∷ words) ≡ [] = rw (own, named) at none in
      let given : rows ≡ matches_of (app_named name) (name ∷ words) = rw (own, named) at gives in
      without_fault _ _ taken ∙ ap by (sym given) ∙ sym states

  -- the command line finds a fault in the words
  pub job_refused : (app : App) (all words : List (List ℕ)) → app ≡ app_named name → all ≡ name ∷ words
      → fault_of app all ≢ [] → job_stated name by words ≡ None
  unfolding job_stated
  job_refused app all words own named some =
      let refused : fault_of (app_named name) (name ∷ words) ≢ [] = rw (own, named) at some in
      with_fault _ _ refused

-- what stands under `--do`, or a fault where it names no job
pub job_or_fault : {J : Type 0} (stated found : Option J) → stated ≡ found → IfOk (ok_or found WordsFault.Usage) (λ job. stated ≡ Some job)
job_or_fault stated None same = tt
job_or_fault stated (Some job) same = same

pub fault_or_job : {J : Type 0} (stated found : Option J) → stated ≡ found → IfErr (ok_or found WordsFault.Usage) (λ fault. fault ≡ WordsFault.Usage → stated ≡ None)
fault_or_job stated None same = λ _. same
fault_or_job stated (Some job) same = tt
