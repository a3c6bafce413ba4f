-- Bytes that are a document, and bytes that are none.
use Rattle.std.proofs.Common.{◌≡◌, ℕ, List, Some, None, inl, inr}
use Rattle.std.specs.Str.{IsUtf8, is_utf8}
use Rattle.std.proofs.lemmas.Str.{IsUtf8-from_is_utf8, is_utf8-from_IsUtf8}
use Rattle.std.proofs.lemmas.Bool.{cases_Bool}
use Rattle.toml.specs.Data.{Members}
use Rattle.toml.specs.Parse.{parse_document}
use Rattle.stx_draft.specs.Document.{document_of, early_refusal, refused_in}
use Rattle.stx_refusals.proofs.QuietLaws.{some_none}
use Rattle.stx_names.specs.Duplicates.{duplicate_among}
use Rattle.stx_walk.specs.Walk.{document_faults}
use Rattle.stx_draft.specs.DeclaredNames.{names_in}

pub document_read : (bytes : List ℕ) (ms : Members) → IsUtf8 bytes × (parse_document bytes ≡ Some ms) → document_of bytes ≡ Some ms
document_read bytes ms read = rw (is_utf8-from_IsUtf8 bytes read.0) read.1

pub document_refused : (bytes : List ℕ) → (IsUtf8 bytes → parse_document bytes ≡ None) → document_of bytes ≡ None
document_refused bytes none =
    elim (cases_Bool (is_utf8 bytes)) [
      | inl text ↦ rw text (none (IsUtf8-from_is_utf8 bytes text))
      | inr other ↦ rw other
    ]

-- without a refusal no name stands twice
pub none_twice : (root : Members) → refused_in root ≡ None → duplicate_among (names_in root) ≡ None
unfolding refused_in
none_twice root none =
    let early = some_none (early_refusal (document_faults root)) _ none in
    (some_none (duplicate_among (names_in root)) _ early.1).0
