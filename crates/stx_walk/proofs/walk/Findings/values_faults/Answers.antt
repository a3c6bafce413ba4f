-- The array's fault, if any, and those of its items.
use Rattle.std.proofs.Common.{◌≡◌, Some, length, sym, ap, ◌∙◌}
use Rattle.toml.specs.Data.{as_array}
use Rattle.toml.specs.View.{view, items_view}
use Rattle.stx_walk.specs.inner.Places.{place_path}
use Rattle.stx_walk.proofs.WalkLaws.{values_begin}
use Rattle.stx_walk.proofs.walk.Findings.values_faults.Goals as goal

pub returns : goal.returns
returns c =
    let items = c.deref.result.now in
    let is : Some (items_view items) ≡ as_array (view c.args.value.now) = ap (λ vs. Some (items_view vs)) c.deref.ensures.value ∙ c.in-Some.ensures in
    let many : c.len.result ≡ length items = c.len.ensures ∙ sym c.deref.ensures.len in
    rw (← values_begin (place_path c.args.place) c.len.result items c.refuse_at-2.new.self.faults c.args.self.now.faults c.args.leaf c.args.most (view c.args.value.now) is many (rw c.count_stage.ensures at c.in_ok-refuse_at.ensures)) (rw (c.as_str.ensures, c.in_ok-path.ensures) at c.items_faults.ensures)
