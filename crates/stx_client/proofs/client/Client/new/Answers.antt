-- A client begins with its first call.
use Rattle.std.proofs.Common.{◌≡◌, ◌∙◌, ◌++◌, [], false, None, sym, ap}
use Rattle.stx_model.specs.Contexts.{bare}
use Rattle.stx_model.specs.Meanings.{state_of}
use Rattle.stx_model.specs.Script.{script}
use Rattle.stx_context.specs.Carrying.{context_of}
use Rattle.stx_machine.specs.Machine.{falls, has_failed, stack, tops_from}
use Rattle.stx_machine.specs.Sound.{held}
use Rattle.stx_client.specs.inner.Keeps.{IsWaiting, RunsOn}
use Rattle.stx_client.proofs.ClientLaws.{is_going, reads_now, said_now, starts_now}
use Rattle.stx_client.proofs.client.Client.new.Goals as goal

runs_first : (c : goal.In_ok-fall) → RunsOn c.args.setup.now.scenario c.args.number c.fall.new.machine c.in_ok-notes.notes.pool.items c.in_ok-notes.notes.store.items
unfolding script
runs_first c p s =
    let S = c.args.setup.now.scenario in
    let n = c.args.number in
    let roomy = c.reserve.new.self in
    let lines_are : roomy.lines.items ≡ [] = c.reserve.ensures.said ∙ c.new-machine.ensures.lines in
    let context_is : context_of roomy.context ≡ bare = ap (λ m. context_of m.context) c.reserve.ensures.rest ∙ ap context_of c.new-machine.ensures.context in
    let local_is : roomy.local ≡ None = ap (λ m. m.local) c.reserve.ensures.rest ∙ c.new-machine.ensures.local in
    (λ i. script S n (c.in_ok-notes.ensures.pool.0 i ++ p) (c.in_ok-notes.ensures.store.0 i ++ s))
    ∙ (λ i. tops_from S n 0 (record { lines = sym lines_are i; context = sym context_is i; local = sym local_is i; pool = p; store = s }))
    ∙ c.call_at.ensures.goes p s ∙ c.fall.ensures.goes p s

waits : (c : goal.In_ok-fall) → falls c.fall.new.machine.stage ≡ false → IsWaiting c.args.setup.now.scenario c.fall.new.machine (held c.fall.new.machine.stage)
waits c still =
    let m = c.fall.new.machine in
    record {
      sound = c.fall.ensures.sound;
      waits = still;
      going = is_going c.args.setup.now.scenario m.stage m.context (stack m.frames) c.fall.ensures.sound.stage;
    }

pub invariant_of-result : goal.invariant_of-result
invariant_of-result c = (
  record {
    playable = c.requires.playable;
    client = c.requires.client;
    waiting = λ _. waits c c.in_ok-fall.ensures.waits;
    runs = λ _. runs_first c;
    starts = starts_now c.args.setup.now.scenario c.args.number c.fall.new.machine c.in_ok-notes.notes.pool.items c.in_ok-notes.notes.store.items (runs_first c);
  },
  record { pool = λ _. c.in_ok-notes.ensures.pool.1; store = λ _. c.in_ok-notes.ensures.store.1 },
)

pub returns-clause-client : goal.returns-clause-client
returns-clause-client c =
    let S = c.args.setup.now.scenario in
    let n = c.args.number in
    let m = c.fall.new.machine in
    let no_pool = c.in_ok-notes.ensures.pool.0 in
    let no_store = c.in_ok-notes.ensures.store.0 in
    let ok : has_failed m.stage ≡ false = (waits c c.in_ok-fall.ensures.waits).going in
    let told : m.lines.items ≡ (state_of (script S n [] [])).lines =
    said_now S n m c.in_ok-notes.notes.pool.items c.in_ok-notes.notes.store.items (runs_first c) (held m.stage) (waits c c.in_ok-fall.ensures.waits)
    ∙ (λ i. (state_of (script S n (no_pool i) (no_store i))).lines) in
    λ i. record { scenario = S; number = n; pool = no_pool i; store = no_store i; out = None; failed = ok i; said = told i }

pub returns-clause-read : goal.returns-clause-read
returns-clause-read c =
    reads_now c.args.setup.now.scenario c.args.number c.fall.new.machine c.in_ok-notes.notes.pool.items c.in_ok-notes.notes.store.items (runs_first c)
    (held c.fall.new.machine.stage) (waits c c.in_ok-fall.ensures.waits)
