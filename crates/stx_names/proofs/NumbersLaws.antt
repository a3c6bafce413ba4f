-- Names that are kept as texts, beside the same names as bytes.
use Rattle.std.proofs.Common.{◌≡◌, ℕ, ◌+◌, Bool, true, false, not, List, [], ◌∷◌, ◌++◌, map, Some, None, String, Global, string_bytes, string_eq, refl, sym, ap, ◌∙◌, inl, inr}
use Rattle.std.proofs.lemmas.Bool.{cases_Bool}
use Rattle.std.proofs.lemmas.Iterator.Adapters.{position_from-zero}
use Rattle.std.proofs.lemmas.Bool.Decides.{same_from_decides, Decides-like}
use Rattle.std.proofs.lemmas.Slice.Eq.{bytes_eq-Decides}
use Rattle.std.proofs.lemmas.List.{map-append, length-map}
use Rattle.std.specs.List.{list_any, position, position_from, prefix_len}
use Rattle.std.specs.Str.{bytes_eq}
use Rattle.indexmap.specs.IndexSet.{insert_key}
use Rattle.stx_scenario.specs.Names.{has_name}
use Rattle.stx_names.specs.Numbers.{with_name, number_of, nothing}

pub bytes_eq-sym : (xs ys : List ℕ) → bytes_eq xs ys ≡ bytes_eq ys xs
bytes_eq-sym xs ys = same_from_decides _ _ (bytes_eq-Decides xs ys) (Decides-like _ (λ same. sym same) (λ same. sym same) (bytes_eq-Decides ys xs))

-- a name is found among texts as among their bytes
pub found-among : (name : List ℕ) (ks : List (String Global)) → list_any (λ k. bytes_eq name (string_bytes k)) ks ≡ has_name (map string_bytes ks) name
found-among name [] = refl
found-among name (k ∷ ks) = rw (bytes_eq-sym name (string_bytes k), found-among name ks)

before-among : (name : List ℕ) (ks : List (String Global))
    → prefix_len (λ k. not (bytes_eq name (string_bytes k))) ks ≡ prefix_len (λ n. not (bytes_eq n name)) (map string_bytes ks)
before-among name [] = refl
before-among name (k ∷ ks) = rw (bytes_eq-sym name (string_bytes k), before-among name ks)

place-among : (name : List ℕ) (ks : List (String Global)) → position (λ k. bytes_eq name (string_bytes k)) ks ≡ position (λ n. bytes_eq n name) (map string_bytes ks)
place-among name ks = rw (before-among name ks, length-map ks string_bytes)

found_at : (p : String Global → Bool) (ks : List (String Global)) (i n : ℕ) → position_from p i ks ≡ Some n → list_any p ks ≡ true
found_at p [] i n at = cc
found_at p (k ∷ ks) i n at =
    elim (cases_Bool (p k)) [
      | inl here ↦ rw here
      | inr not_here ↦ rw not_here (found_at p ks (i + 1) n (rw not_here at at))
    ]

-- the same for names that are seen as the bytes of these texts
module _ (name : List ℕ) (ks : List (String Global)) (names : List (List ℕ)) where
  pub number-among : (n : ℕ) → names ≡ map string_bytes ks → position (λ k. bytes_eq name (string_bytes k)) ks ≡ Some n → n ≡ number_of names name
  number-among n seen at = rw (seen, ← place-among name ks, at)

  pub number-nothing : names ≡ map string_bytes ks → position (λ k. bytes_eq name (string_bytes k)) ks ≡ None → nothing ≡ number_of names name
  number-nothing seen none = rw (seen, ← place-among name ks, none)

  -- a name that has a place is there
  pub with-found : (n : ℕ) → names ≡ map string_bytes ks → position (λ k. bytes_eq name (string_bytes k)) ks ≡ Some n → names ≡ with_name names name
  with-found n seen at =
      let p : String Global → Bool = λ k. bytes_eq name (string_bytes k) in
      let there : has_name names name ≡ true = rw seen (sym (found-among name ks) ∙ found_at p ks 0 n (sym (position_from-zero p ks) ∙ at)) in
      rw there

  -- a text that goes to the end of the texts is a name that goes to the end of the names
  pub added-name : (k : String Global) → names ≡ map string_bytes ks → string_bytes k ≡ name → has_name names name ≡ false
      → map string_bytes (insert_key string_eq ks k) ≡ with_name names name
  added-name k seen text new =
      let new' : has_name (map string_bytes ks) name ≡ false = rw seen at new in
      let absent : list_any (string_eq k) ks ≡ false = found-among (string_bytes k) ks ∙ rw text new' in
      rw (absent, seen, new') (map-append string_bytes ks (k ∷ []) ∙ ap (λ n. map string_bytes ks ++ n ∷ []) text)
