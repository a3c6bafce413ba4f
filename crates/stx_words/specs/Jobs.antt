-- The jobs that the words after a program's name state, by `clap`'s own definition of what it makes of them.
use Rattle.std.specs.Prelude.{if◌then◌else◌, ℕ, List, [], ◌∷◌, codes, map, Option, Some, None, option_and_then, String, string_bytes}
use Rattle.std.specs.Str.{bytes_eq}
use Rattle.std.specs.declared.alloc.Global.{Global}
use Rattle.clap.specs.Words.{App, Kinds, Row, fault_of, matches_of, with_rule}
use Rattle.stx_words.specs.Options.{plain_app, do_rule, seed_rule, clients_rule, job_in, seed_in, clients_in, IsClientCount}
use Rattle.stx_words.specs.declared.job.Job.{Job}
use Rattle.stx_words.specs.declared.load.Load.{Load}
use Rattle.stx_words.specs.declared.run_job.RunJob.{RunJob}

-- a load has a count of clients that can be
abbrev pub CanLoad : Option Load → Type 0
CanLoad (Some load) = IsClientCount load.clients
CanLoad None = Unit {0}

-- ---- the jobs of `springtx`

-- the job that a word under `--do` names; a load is of these numbers
abbrev pub job_named : Load → List ℕ → Option Job
job_named load word =
    if bytes_eq word (codes "play") then Some Job.Play
    else (if bytes_eq word (codes "check") then Some Job.Check
    else (if bytes_eq word (codes "rules") then Some Job.Rules
    else (if bytes_eq word (codes "load") then Some (Job.Load load.seed load.clients)
    else None)))

-- what its scenario is generated from; none where it is read
abbrev pub load_of : Job → Option Load
load_of (Job.Load seed clients) = Some (record { seed = seed; clients = clients })
load_of _ = None

abbrev pub HasClients : Job → Type 0
HasClients job = CanLoad (load_of job)

-- ---- the jobs of `springtx_run`

abbrev pub run_job_named : Load → List ℕ → Option RunJob
run_job_named load word =
    if bytes_eq word (codes "run") then Some RunJob.Run
    else (if bytes_eq word (codes "load") then Some (RunJob.Load load.seed load.clients)
    else None)

abbrev pub run_load_of : RunJob → Option Load
run_load_of RunJob.Run = None
run_load_of (RunJob.Load seed clients) = Some (record { seed = seed; clients = clients })

abbrev pub RunHasClients : RunJob → Type 0
RunHasClients job = CanLoad (run_load_of job)

-- ---- of any program

-- the numbers that the values of the options state
abbrev pub load_in : List Row → Load
load_in rows = record { seed = seed_in rows; clients = clients_in rows }

-- the job that the values of the options state
abbrev pub job_by : {J : Type 0} → (Load → List ℕ → Option J) → List Row → Option J
job_by named rows = option_and_then (named (load_in rows)) (job_in rows)

-- the command line of a program of this name, without groups of options and rules between them
abbrev pub app_named : List ℕ → App
app_named name = with_rule (with_rule (with_rule (plain_app name) do_rule) seed_rule) clients_rule

-- none where `clap` finds a fault in the words
abbrev pub job_unless : {J : Type 0} → (List Row → Option J) → Kinds → List Row → Option J
job_unless by [] rows = by rows
job_unless by (fault ∷ more) rows = None

-- the job that the bytes of the words state to the program of this name; `clap` takes the name before them
unfoldable pub job_stated : {J : Type 0} → List ℕ → (List Row → Option J) → List (List ℕ) → Option J
job_stated name by words =
    let all = name ∷ words in
    job_unless by (fault_of (app_named name) all) (matches_of (app_named name) all)

-- the job that the words state to `springtx`, if they state one
abbrev pub job_of : List (String Global) → Option Job
job_of words = job_stated (codes "springtx") (job_by job_named) (map string_bytes words)

-- and to `springtx_run`
abbrev pub run_job_of : List (String Global) → Option RunJob
run_job_of words = job_stated (codes "springtx_run") (job_by run_job_named) (map string_bytes words)
