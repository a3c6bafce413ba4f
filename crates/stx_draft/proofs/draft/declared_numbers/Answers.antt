-- The names of a document all differ, group by group.
use Rattle.std.proofs.Common.{◌∙◌, ap}
use Rattle.stx_names.specs.Duplicates.{duplicate_among}
use Rattle.stx_draft.specs.Draft.{numbered_by}
use Rattle.stx_draft.proofs.draft.declared_numbers.Goals as goal

pub numbered-requires : goal.numbered-requires
numbered-requires c = ap duplicate_among c.in_ok-named.ensures ∙ c.requires

pub returns : goal.returns
returns c = c.in_ok-names.ensures ∙ ap (λ named. numbered_by named named.rows) c.in_ok-named.ensures
