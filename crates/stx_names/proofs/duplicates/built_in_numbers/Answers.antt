-- The built-in names all differ.
use Rattle.std.proofs.Common.{◌≡◌, ◌∙◌, ap, map}
use Rattle.stx_scenario.specs.Names.{built_in_names}
use Rattle.stx_names.proofs.DuplicateLaws.{built_in_differ}
use Rattle.stx_names.proofs.duplicates.built_in_numbers.Goals as goal

pub with_names-requires : goal.with_names-requires
with_names-requires c =
    let names : c.as_slice-2.result.now ≡ built_in_names =
    c.as_slice-2.ensures ∙ c.in_ok-names.ensures ∙ ap (map (λ class. class.name)) (c.as_slice.ensures ∙ c.in_ok-classes.ensures.classes) in
    rw (c.new.ensures, names) built_in_differ
