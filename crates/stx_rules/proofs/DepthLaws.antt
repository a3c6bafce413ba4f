-- As many parents as classes.
use Rattle.std.proofs.Common.{◌≡◌, ℕ, ◌<◌, ◌≤◌, List, length, sym, subst}
use Rattle.std.proofs.lemmas.List.{length-map}
use Rattle.stx_scenario.specs.declared.scenario.ClassDecl.{ClassDecl}
use Rattle.stx_base.specs.Classes.{parents_of}

as_many : (classes : List ClassDecl) → length (parents_of classes) ≡ length classes
as_many classes = length-map classes _

pub within_map : (classes : List ClassDecl) {n : ℕ} → n < length classes → n < length (parents_of classes)
within_map classes {n} in_range = subst (λ k. n < k) (sym (as_many classes)) in_range

pub past_map : (classes : List ClassDecl) {n : ℕ} → length classes ≤ n → length (parents_of classes) ≤ n
past_map classes {n} past = subst (λ k. k ≤ n) (sym (as_many classes)) past
