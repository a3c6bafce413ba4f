-- Names that all differ in a document differ in its draft, where all that is named is there: methods are told apart by the
-- numbers of their beans as by their names.
use Rattle.std.proofs.Common.{◌≡◌, ℕ, ◌+◌, ◌<◌, ◌≤◌, ◌^◌, ◌%◌, ◌==◌, true, false, List, [], ◌∷◌, ◌++◌, codes, length, map, get_or, Option, Some, None, unwrap_or, inl, inr, refl, sym, ap, ◌∙◌, subst, arith, append_assoc}
use Rattle.std.proofs.lemmas.Bool.{cases_Bool, false≢true}
use Rattle.std.proofs.lemmas.Bool.Decides.{nat_tests}
use Rattle.std.proofs.lemmas.Fmt.{decimal_by_steps, decimal_injective}
use Rattle.std.proofs.lemmas.List.{length-map, map-append}
use Rattle.std.proofs.lemmas.List.Elements.{All-nil, All-cons, All-head, All-tail}
use Rattle.std.proofs.lemmas.List.Quantifiers.{position-Some}
use Rattle.std.proofs.lemmas.List.Splits.{slice_split_at, join_with_byte-slice_split}
use Rattle.std.proofs.lemmas.Option.{none-some}
use Rattle.std.proofs.lemmas.Simd.{map-map}
use Rattle.std.proofs.lemmas.Slice.Eq.{bytes_eq-Decides}
use Rattle.std.specs.Fmt.{decimal}
use Rattle.std.specs.List.{All, slice_split, join_with_byte, position, drop-map}
use Rattle.std.specs.Str.{bytes_eq}
use Rattle.toml.specs.Data.{Members}
use Rattle.stx_scenario.specs.declared.scenario.ClassDecl.{ClassDecl}
use Rattle.stx_scenario.specs.declared.scenario.Bean.{Bean}
use Rattle.stx_scenario.specs.declared.scenario.SyncDecl.{SyncDecl}
use Rattle.stx_scenario.specs.declared.scenario.Listener.{Listener}
use Rattle.stx_scenario.specs.BuiltIn.{built_in}
use Rattle.stx_scenario.specs.Names.{has_name, duplicate_from, built_in_names}
use Rattle.stx_base.specs.Valid.{MethodInOrder, PlacesInOrder}
use Rattle.stx_names.specs.declared.named.Named.{Named}
use Rattle.stx_names.specs.Numbers.{number_of, nothing}
use Rattle.stx_names.specs.Duplicates.{duplicate_among, names_of, method_text, number_of_method}
use Rattle.stx_names.proofs.DuplicateLaws.{AllDiffer, all_differ}
use Rattle.stx_draft.specs.DeclaredNames.{names_in, text_of_method}
use Rattle.stx_draft.specs.Draft
use Rattle.stx_draft.specs.Draft.{drafted, all_names}
use Rattle.stx_draft.specs.Parts.{text_at, tables_at}
use Rattle.stx_draft.proofs.DraftLaws.{drop-first}
use Rattle.stx_read.proofs.QuietDrafts.{rows_of_draft}

-- ---- names by two texts, where the same first text means the same second one

same_text : (xs ys : List ℕ) → bytes_eq xs ys ≡ true → xs ≡ ys
same_text xs ys same = (bytes_eq-Decides xs ys).0 same

module _ {A : Type 0} (f g : A → List ℕ) (P : A → Type 0) (tells : (x y : A) → P x → P y → f x ≡ f y → g x ≡ g y) where
  seen_too : (seen : List A) (x : A) → All P seen → P x → has_name (map f seen) (f x) ≡ true → has_name (map g seen) (g x) ≡ true
  seen_too [] x all here found = absurd (false≢true found)
  seen_too (y ∷ seen) x all here found = elim (cases_Bool (bytes_eq (f y) (f x))) [
    | inl same ↦
        let equal : bytes_eq (g y) (g x) ≡ true = (bytes_eq-Decides (g y) (g x)).1 (tells y x (All-head P y seen all) here (same_text (f y) (f x) same)) in
        rw equal
    | inr other ↦
        let later : has_name (map f seen) (f x) ≡ true = rw other at found in
        let rest : has_name (map g seen) (g x) ≡ true = seen_too seen x (All-tail P y seen all) here later in
        elim (cases_Bool (bytes_eq (g y) (g x))) [
          | inl equal ↦ rw equal
          | inr alien ↦ rw alien rest
        ]
  ]

  pushed : (seen : List A) (x : A) → All P seen → P x → All P (seen ++ x ∷ [])
  pushed [] x all here = All-cons P x [] here (All-nil P)
  pushed (y ∷ seen) x all here = All-cons P y (seen ++ x ∷ []) (All-head P y seen all) (pushed seen x (All-tail P y seen all) here)

  pub differ_too : (seen xs : List A) (n : ℕ) → All P seen → All P xs → duplicate_from (map g seen) n (map g xs) ≡ None → duplicate_from (map f seen) n (map f xs) ≡ None
  unfolding duplicate_from
  differ_too seen [] n before all none = refl
  differ_too seen (x ∷ xs) n before all none = elim (cases_Bool (has_name (map g seen) (g x))) [
    | inl again ↦ absurd (none-some n (sym (rw again at none)))
    | inr new ↦
        let here : P x = All-head P x xs all in
        let fresh : has_name (map f seen) (f x) ≡ false = elim (cases_Bool (has_name (map f seen) (f x))) [
          | inl found ↦ absurd (false≢true (sym new ∙ seen_too seen x before here found))
          | inr unseen ↦ unseen
        ] in
        let rest : duplicate_from (map g seen ++ g x ∷ []) (n + 1) (map g xs) ≡ None = rw new at none in
        let same_g : map g seen ++ g x ∷ [] ≡ map g (seen ++ x ∷ []) = sym (map-append g seen (x ∷ [])) in
        let same_f : map f seen ++ f x ∷ [] ≡ map f (seen ++ x ∷ []) = sym (map-append f seen (x ∷ [])) in
        let tail : duplicate_from (map f (seen ++ x ∷ [])) (n + 1) (map f xs) ≡ None =
        differ_too (seen ++ x ∷ []) xs (n + 1) (pushed seen x before here) (All-tail P x xs all) (subst (λ (s : List (List ℕ)). duplicate_from s (n + 1) (map g xs) ≡ None) same_g rest) in
        rw fresh (subst (λ (s : List (List ℕ)). duplicate_from s (n + 1) (map f xs) ≡ None) (sym same_f) tail)
  ]

-- ---- a number and a name joined by a dot

no_dot : (n : ℕ) → n < 2 ^ 64 → All (λ b. (b == 46) ≡ false) (decimal n)
no_dot n small = decimal_by_steps (λ k ds. All (λ b. (b == 46) ≡ false) ds) one more n small
  where
    one : (k : ℕ) → k < 10 → All (λ b. (b == 46) ≡ false) ((48 + k) ∷ [])
    one k digit = All-cons (λ b. (b == 46) ≡ false) (48 + k) [] (grind (arith, nat_tests)) (All-nil (λ b. (b == 46) ≡ false))

    append : (ds : List ℕ) (b : ℕ) → All (λ b. (b == 46) ≡ false) ds → (b == 46) ≡ false → All (λ b. (b == 46) ≡ false) (ds ++ b ∷ [])
    append [] b all here = All-cons (λ b. (b == 46) ≡ false) b [] here (All-nil (λ b. (b == 46) ≡ false))
    append (d ∷ ds) b all here =
        All-cons (λ b. (b == 46) ≡ false) d (ds ++ b ∷ []) (All-head (λ b. (b == 46) ≡ false) d ds all) (append ds b (All-tail (λ b. (b == 46) ≡ false) d ds all) here)

    more : (k : ℕ) (ds : List ℕ) → 10 ≤ k → All (λ b. (b == 46) ≡ false) ds → All (λ b. (b == 46) ≡ false) (ds ++ (48 + k % 10) ∷ [])
    more k ds many all = append ds (48 + k % 10) all (grind (arith, nat_tests))

abbrev first_of : {A : Type 0} (d : A) → List A → A
first_of d [] = d
first_of d (x ∷ xs) = x

abbrev tail_of : {A : Type 0} → List A → List A
tail_of [] = []
tail_of (x ∷ xs) = xs

numbered_parts : (a b : ℕ) (m n : List ℕ) → a < 2 ^ 64 → b < 2 ^ 64 → method_text (decimal a) m ≡ method_text (decimal b) n → (a ≡ b) × (m ≡ n)
numbered_parts a b m n small low same =
    let cut : (k : ℕ) (name : List ℕ) → k < 2 ^ 64 → slice_split (λ c. c == 46) (method_text (decimal k) name) ≡ decimal k ∷ slice_split (λ c. c == 46) name
    = λ k name fits. ap (slice_split (λ c. c == 46)) (append_assoc (decimal k) (codes ".") name) ∙ slice_split_at (λ c. c == 46) (decimal k) 46 name (no_dot k fits) refl in
    let parts : decimal a ∷ slice_split (λ c. c == 46) m ≡ decimal b ∷ slice_split (λ c. c == 46) n = sym (cut a m small) ∙ ap (slice_split (λ c. c == 46)) same ∙ cut b n low in (
      decimal_injective a b small low (ap (first_of []) parts),
      sym (join_with_byte-slice_split 46 m) ∙ ap (join_with_byte 46) (ap tail_of parts) ∙ join_with_byte-slice_split 46 n,
    )

-- ---- a name by its place

named_at : (names : List (List ℕ)) (name : List ℕ) → number_of names name < length names → length names < nothing → get_or names (number_of names name) [] ≡ name
named_at names name within few = by (position (λ n. bytes_eq n name) names) refl within
  where
    by : (place : Option ℕ) → position (λ n. bytes_eq n name) names ≡ place → unwrap_or place nothing < length names → get_or names (unwrap_or place nothing) [] ≡ name
    by None is within = absurd (omega arith)
    by (Some k) is within = same_text (get_or names k []) name (position-Some (λ n. bytes_eq n name) names k [] is).1

same_named : (names : List (List ℕ)) (x y : List ℕ) → length names < nothing → number_of names x < length names → number_of names y < length names
    → number_of names x ≡ number_of names y → x ≡ y
same_named names x y few in_x in_y same = sym (named_at names x in_x few) ∙ ap (λ (k : ℕ). get_or names k []) same ∙ named_at names y in_y few

-- ---- the methods of a draft

module _ (root : Members) where
  abbrev BeanIsThere : Members → Type 0
  BeanIsThere table = number_of (all_names root).beans (text_at (codes "bean") table) < length (all_names root).beans

  number_text : Members → List ℕ
  number_text table = number_of_method (Draft.method_in_table (all_names root) table)

  tells_methods : length (all_names root).beans < nothing → (x y : Members) → BeanIsThere x → BeanIsThere y → number_text x ≡ number_text y → text_of_method x ≡ text_of_method y
  unfolding number_text
  tells_methods few x y in_x in_y same =
      let beans = (all_names root).beans in
      let parts = numbered_parts (number_of beans (text_at (codes "bean") x)) (number_of beans (text_at (codes "bean") y)) _ _ (omega (arith, in_x, few)) (omega (arith, in_y, few)) same in
      let bean = same_named beans (text_at (codes "bean") x) (text_at (codes "bean") y) few in_x in_y parts.0 in
      rw (bean, parts.1)

unmapped : {A B : Type 0} (Q : B → Type 0) (f : A → B) (xs : List A) → All Q (map f xs) → All (λ x. Q (f x)) xs
unmapped Q f [] all = All-nil (λ x. Q (f x))
unmapped Q f (x ∷ xs) all = All-cons (λ x. Q (f x)) x xs (All-head Q (f x) (map f xs) all) (unmapped Q f xs (All-tail Q (f x) (map f xs) all))

methods_differ : (root : Members) → PlacesInOrder (drafted root) → duplicate_from [] 0 (names_in root).methods ≡ None → duplicate_from [] 0 (map number_of_method (drafted root).methods) ≡ None
unfolding drafted number_text
methods_differ root order none =
    let tables = tables_at (codes "methods") root in
    let many : length (map (Draft.bean_in (all_names root)) (tables_at (codes "beans") root)) ≡ length (all_names root).beans =
    length-map (tables_at (codes "beans") root) (Draft.bean_in (all_names root)) ∙ sym (length-map (tables_at (codes "beans") root) (text_at (codes "name"))) in
    let few : length (all_names root).beans < nothing = omega (arith, many, order.few_beans) in
    let there : All (BeanIsThere root) tables = λ k d within.
    let method = unmapped (MethodInOrder (drafted root)) (Draft.method_in_table (all_names root)) tables order.methods k d within in
    omega (arith, many, method.bean) in
    let by_numbers = differ_too (number_text root) text_of_method (BeanIsThere root) (tells_methods root few) [] tables 0 (All-nil (BeanIsThere root)) there none in
    ap (duplicate_from [] 0) (map-map number_of_method (Draft.method_in_table (all_names root)) tables) ∙ by_numbers

-- ---- all groups

none_among : (named : Named) → AllDiffer named → duplicate_among named ≡ None
none_among named d = rw (d.events, d.rows, d.classes, d.beans, d.methods, d.syncs, d.listeners)

pub drafts_differ : (root : Members) → duplicate_among (names_in root) ≡ None → PlacesInOrder (drafted root) → duplicate_among (names_of (drafted root)) ≡ None
unfolding drafted
drafts_differ root none order =
    let d = all_differ (names_in root) none in
    let names = all_names root in
    none_among (names_of (drafted root)) (record {
      events = d.events;
      rows = ap (duplicate_from [] 0) (rows_of_draft root) ∙ d.rows;
      classes = ap (duplicate_from built_in_names 0) (drop-map (λ (class : ClassDecl). class.name) (length built_in) (drafted root).classes ∙ ap (map (λ (class : ClassDecl). class.name)) (drop-first built_in (map (Draft.class_in names) (tables_at (codes "classes") root))) ∙ map-map (λ (class : ClassDecl). class.name) (Draft.class_in names) (tables_at (codes "classes") root)) ∙ d.classes;
      beans = ap (duplicate_from [] 0) (map-map (λ (bean : Bean). bean.name) (Draft.bean_in names) (tables_at (codes "beans") root)) ∙ d.beans;
      methods = methods_differ root order d.methods;
      syncs = ap (duplicate_from [] 0) (map-map (λ (sync : SyncDecl). sync.name) (Draft.sync_in names) (tables_at (codes "syncs") root)) ∙ d.syncs;
      listeners =
          ap (λ (s : List (List ℕ)). duplicate_from s 0 (map (λ (listener : Listener). listener.name) (drafted root).listeners)) (map-map (λ (sync : SyncDecl). sync.name) (Draft.sync_in names) (tables_at (codes "syncs") root))
          ∙ ap (duplicate_from (names_in root).syncs 0) (map-map (λ (listener : Listener). listener.name) (Draft.listener_in names) (tables_at (codes "listeners") root)) ∙ d.listeners;
    })
