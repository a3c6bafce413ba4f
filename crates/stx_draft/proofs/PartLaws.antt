-- Arrays of a document beside slices of its values, and loops that keep what they look for.
use Rattle.std.proofs.Common.{◌≡◌, ℕ, ◌+◌, ◌<◌, ◌≤◌, List, [], ◌∷◌, ◌++◌, length, map, take, get_or, Option, Some, None, refl, ap, ◌∙◌, append-nil}
use Rattle.std.proofs.lemmas.List.{take_more, map-append, take_all}
use Rattle.std.proofs.lemmas.Simd.{map-map}
use Rattle.std.proofs.lemmas.List.Elements.{filter_map-append}
use Rattle.std.specs.List.{filter_map}
use Rattle.toml.specs.View.{view, items_view}
use Rattle.toml.specs.declared.value.Value.{Value}
use Rattle.stx_draft.specs.Parts.{entries}

pub entries_of_values : (vs : List Value) → entries (items_view vs) ≡ map view vs
entries_of_values [] = refl
entries_of_values (v ∷ vs) = ap (λ ds. view v ∷ ds) (entries_of_values vs)

-- a loop over xs that keeps, in order, what h finds in the data of each
module _ {X D B : Type 0} (seen : X → D) (h : D → Option B) (xs : List X) (i : ℕ) where
  kept_so_far : (x d : X) → i < length xs → x ≡ get_or xs i d
      → filter_map h (map seen (take (i + 1) xs)) ≡ filter_map h (map seen (take i xs)) ++ filter_map h (seen x ∷ [])
  kept_so_far x d below here =
      rw (take_more xs i d below, ← here, map-append seen (take i xs) (x ∷ [])) (filter_map-append h (map seen (take i xs)) (seen x ∷ []))

  pub kept_more : (x d : X) (b : B) (bs : List B) → i < length xs → x ≡ get_or xs i d → h (seen x) ≡ Some b
      → bs ≡ filter_map h (map seen (take i xs)) → bs ++ b ∷ [] ≡ filter_map h (map seen (take (i + 1) xs))
  kept_more x d b bs below here found so_far = rw (kept_so_far x d below here, found, so_far)

  pub kept_same : (x d : X) (bs : List B) → i < length xs → x ≡ get_or xs i d → h (seen x) ≡ None
      → bs ≡ filter_map h (map seen (take i xs)) → bs ≡ filter_map h (map seen (take (i + 1) xs))
  kept_same x d bs below here found so_far = rw (kept_so_far x d below here, found, so_far, append-nil)

  pub kept_all : (ds : List D) → length xs ≤ i → map seen xs ≡ ds → filter_map h (map seen (take i xs)) ≡ filter_map h ds
  kept_all ds past all = ap (filter_map h) (ap (map seen) (take_all i xs past) ∙ all)

  -- and makes f of what is found
  module _ {C : Type 0} (f : B → C) (cs : List C) where
    pub made_more : (x d : X) (b : B) → i < length xs → x ≡ get_or xs i d → h (seen x) ≡ Some b
        → cs ≡ map f (filter_map h (map seen (take i xs))) → cs ++ f b ∷ [] ≡ map f (filter_map h (map seen (take (i + 1) xs)))
    made_more x d b below here found so_far =
        rw (kept_so_far x d below here, found, map-append f (filter_map h (map seen (take i xs))) (b ∷ []), so_far)

    pub made_same : (x d : X) → i < length xs → x ≡ get_or xs i d → h (seen x) ≡ None
        → cs ≡ map f (filter_map h (map seen (take i xs))) → cs ≡ map f (filter_map h (map seen (take (i + 1) xs)))
    made_same x d below here found so_far = rw (kept_so_far x d below here, found, append-nil, so_far)

-- a loop over xs that has made f of the data of each is done
pub mapped_all : {X D B : Type 0} (seen : X → D) (f : D → B) (xs : List X) (i : ℕ) (ds : List D) (bs : List B) → length xs ≤ i
    → map seen xs ≡ ds → bs ≡ map (λ x. f (seen x)) (take i xs) → bs ≡ map f ds
mapped_all seen f xs i ds bs past all so_far = rw (← all, map-map f seen xs) (rw (take_all i xs past) at so_far)

pub mapped_so : {X D B : Type 0} (seen : X → D) (f : D → B) (xs : List X) (ds : List D) → map seen xs ≡ ds → map (λ x. f (seen x)) xs ≡ map f ds
mapped_so seen f xs ds all = rw (← all, map-map f seen xs)
