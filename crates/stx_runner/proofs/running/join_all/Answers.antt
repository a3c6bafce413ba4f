-- The seats of one client more.
use Rattle.std.proofs.Common.{rules, ◌≡◌, ◌∙◌, ◌++◌, ◌∷◌, [], All, sym, ap, subst, append_assoc}
use Rattle.std.proofs.lemmas.List.Elements.{All-tail}
use Rattle.stx_runner.specs.inner.Seats.{IsJoinable}
use Rattle.stx_runner.proofs.DriveLaws.{joined_more}
use Rattle.stx_runner.proofs.running.join_all.Goals as goal

pub loop-backend-preserved : goal.loop-backend-preserved
loop-backend-preserved c =
    let (joined, all, each) = c.loop-backend.invariant in
    let backend = c.in-Some.backend in
    let later = c.next.new.self.rest.items in
    let rest : c.loop-backend.backend-iterator.rest.items ≡ backend ∷ later = search rules in (
      joined_more c.args.first.now c.loop-backend.first (record { pool = c.join.new.into; store = c.join-in-loop-backend.new.into }) c.loop-backend.yielded backend joined c.join.ensures c.join-in-loop-backend.ensures,
      append_assoc c.loop-backend.yielded (backend ∷ []) later ∙ ap (λ xs. c.loop-backend.yielded ++ xs) (sym rest) ∙ all,
      All-tail (IsJoinable c.args.cells.now) backend later (subst (All (IsJoinable c.args.cells.now)) rest each),
    )
