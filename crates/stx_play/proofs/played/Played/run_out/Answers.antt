-- One turn more, and the last.
use Rattle.std.proofs.Common.{◌≡◌, ◌∙◌, ◌+◌, ◌≤◌, refl, sym, ap, subst, arith}
use Rattle.stx_model.specs.Played.{turn, turns, most_calls}
use Rattle.stx_play.specs.Play.{IsClientDone}
use Rattle.stx_play.specs.inner.Turning.{count_entries}
use Rattle.stx_play.proofs.PlayedLaws.{turns_one, turns_to_end}
use Rattle.stx_play.proofs.played.Played.run_out.Goals as goal

pub loop-alloc-init : goal.loop-alloc-init
unfolding turns
loop-alloc-init c = (c.requires.going, refl, 0, refl, omega arith, omega arith)

pub loop-alloc-preserved : goal.loop-alloc-preserved
loop-alloc-preserved c =
    let S = c.args.self.now.scenario in
    let start = c.args.self.now.so_far in
    let old = c.loop-alloc.self in
    let new = c.make_call.new.self in
    let client = c.args.client in
    let (going, same, made, turned, few, counted) = c.loop-alloc.invariant in
    let is = c.in_ok-make_call.ensures.turn in
    let more = c.in_ok-make_call.ensures.one_more in
    let bound : count_entries new.so_far ≤ most_calls S = subst (λ s. count_entries new.so_far ≤ most_calls s) same more.within in
    let next : turns S client (made + 1) start ≡ new.so_far =
    turns_one S client made start ∙ (λ i. turn (sym same i) (turned i) client) ∙ sym (ap (λ v. v.so_far) is) in (
      ap (λ v. v.failed) is ∙ going,
      ap (λ v. v.scenario) is ∙ same,
      made + 1,
      next,
      omega (arith, bound, more.one_more, counted),
      omega (arith, more.one_more, counted),
    )

pub returns-clause-turns : goal.returns-clause-turns
returns-clause-turns c =
    let S = c.args.self.now.scenario in
    let (going, same, made, turned, few, counted) = c.loop-alloc.invariant in
    let here = c.loop-alloc-test.ensures.0 refl in
    let done : IsClientDone S c.loop-alloc.self.so_far c.args.client = subst (λ s. IsClientDone s c.loop-alloc.self.so_far c.args.client) same here in
    let last = turns_to_end S c.args.client made c.args.self.now.so_far c.loop-alloc.self.so_far turned few done in
    λ i. record { scenario = same i; so_far = sym last i; failed = (going ∙ sym c.requires.going) i }
