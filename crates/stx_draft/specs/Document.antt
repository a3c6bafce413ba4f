-- The document that the bytes of a file are, and what is refused in it before there is a scenario.
use Rattle.std.specs.Prelude.{ℕ, if◌then◌else◌, List, [], ◌∷◌, Option, None}
use Rattle.std.specs.Str.{is_utf8}
use Rattle.toml.specs.Data.{Members}
use Rattle.toml.specs.Parse.{parse_document}
use Rattle.stx_refusals.specs.declared.fault.Fault.{Fault}
use Rattle.stx_refusals.specs.declared.fault.ReadFault.{ReadFault}
use Rattle.stx_refusals.specs.declared.fault.Stage.{Stage}
use Rattle.stx_refusals.specs.Faults.{first_at, first_some}
use Rattle.stx_walk.specs.Walk.{document_faults}
use Rattle.stx_names.specs.Duplicates.{duplicate_among}
use Rattle.stx_draft.specs.DeclaredNames.{names_in}

-- the document that the bytes are
abbrev pub document_of : List ℕ → Option Members
document_of bytes = if is_utf8 bytes then parse_document bytes else None

-- what the stages on single places refuse up to names that stand twice: keys, types, names and numbers
abbrev pub early_refusal : List Fault → Option ReadFault
early_refusal faults = first_some (
    first_at Stage.UnknownKey faults
    ∷ first_at Stage.Missing faults
    ∷ first_at Stage.WrongType faults
    ∷ first_at Stage.BadName faults
    ∷ first_at Stage.OutOfRange faults
    ∷ first_at Stage.TooMany faults
    ∷ [])

-- what the stages refuse before there is a scenario: these, names that stand twice, and words
unfoldable pub refused_in : Members → Option ReadFault
refused_in root = first_some (
    early_refusal (document_faults root)
    ∷ duplicate_among (names_in root)
    ∷ first_at Stage.BadWord (document_faults root)
    ∷ [])
