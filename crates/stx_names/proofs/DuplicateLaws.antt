-- The names of a scenario group by group, and names among which none stands twice.
use Rattle.std.proofs.Common.{◌≡◌, ℕ, ◌+◌, ◌<◌, ◌≤◌, Bool, true, false, not, List, [], ◌∷◌, ◌++◌, map, take, drop, get_or, length, Option, Some, None, refl, sym, ap, ◌∙◌, append_assoc}
use Rattle.std.proofs.lemmas.List.{map-id, at_drop_more, at_drop_all, take_more}
use Rattle.std.specs.List.{drop-map}
use Rattle.stx_scenario.specs.declared.scenario.Scenario.{Scenario}
use Rattle.stx_names.specs.declared.named.Named.{Named}
use Rattle.stx_refusals.proofs.QuietLaws.{none_at, mapped_none}
use Rattle.stx_names.specs.Duplicates.{names_of, number_of_method, duplicates, duplicate_among}
use Rattle.stx_scenario.specs.Names.{has_name, duplicate_from, built_in_names}
use Rattle.stx_names.specs.Numbers.{with_name}

pub named_so : (S : Scenario) (events rows classes beans methods syncs listeners : List (List ℕ))
    → events ≡ map (λ name. name) S.events
    → rows ≡ map (λ name. name) (take (length S.values) S.row_names)
    → classes ≡ map (λ class. class.name) (drop 17 S.classes)
    → beans ≡ map (λ bean. bean.name) S.beans
    → methods ≡ map number_of_method S.methods
    → syncs ≡ map (λ sync. sync.name) S.syncs
    → listeners ≡ map (λ listener. listener.name) S.listeners
    → record { events = events; rows = rows; classes = classes; beans = beans; methods = methods; syncs = syncs; listeners = listeners } ≡ names_of S
named_so S events rows classes beans methods syncs listeners e r c b m s l =
    rw (e, r, c, b, m, s, l, map-id S.events, map-id (take (length S.values) S.row_names), drop-map (λ class. class.name) 17 S.classes)

-- ---- a walk over names, that puts each new one among those seen

seen_from_new : (new seen : Bool) → new ≡ not seen → new ≡ false → seen ≡ true
seen_from_new new true says old = refl
seen_from_new new false says old = sym old ∙ says

new_from_new : (new seen : Bool) → new ≡ not seen → new ≡ true → seen ≡ false
new_from_new new true says fresh = sym fresh ∙ says
new_from_new new false says fresh = refl

module _ (names : List (List ℕ)) (i : ℕ) (name d : List ℕ) (seen : List (List ℕ)) (new : Bool) where
  from_here : i < length names → name ≡ get_or names i d → duplicate_from seen i (drop i names) ≡ duplicate_from seen i (name ∷ drop (i + 1) names)
  from_here below here = rw here (at_drop_more (duplicate_from seen i) names i d below)

  pub seen_again : (whole : Option ℕ) → i < length names → name ≡ get_or names i d → new ≡ not (has_name seen name) → new ≡ false
      → duplicate_from seen i (drop i names) ≡ whole → Some i ≡ whole
  unfolding duplicate_from
  seen_again whole below here says old so_far =
      let again : has_name seen name ≡ true = seen_from_new new _ says old in
      let found : duplicate_from seen i (name ∷ drop (i + 1) names) ≡ Some i = rw again in
      sym found ∙ sym (from_here below here) ∙ so_far

  pub not_seen : (whole : Option ℕ) (next : List (List ℕ)) → i < length names → name ≡ get_or names i d → new ≡ not (has_name seen name) → new ≡ true
      → next ≡ with_name seen name → duplicate_from seen i (drop i names) ≡ whole → duplicate_from next (i + 1) (drop (i + 1) names) ≡ whole
  unfolding duplicate_from
  not_seen whole next below here says fresh added so_far =
      let other : has_name seen name ≡ false = new_from_new new _ says fresh in
      let passed : duplicate_from seen i (name ∷ drop (i + 1) names) ≡ duplicate_from (with_name seen name) (i + 1) (drop (i + 1) names) = rw other in
      rw added (sym passed ∙ sym (from_here below here) ∙ so_far)

  pub all_so_far : (first next : List (List ℕ)) → i < length names → name ≡ get_or names i d → new ≡ not (has_name seen name) → new ≡ true
      → next ≡ with_name seen name → seen ≡ first ++ take i names → next ≡ first ++ take (i + 1) names
  all_so_far first next below here says fresh added so_far =
      let other : has_name seen name ≡ false = new_from_new new _ says fresh in
      let more : with_name seen name ≡ seen ++ name ∷ [] = rw other in
      added ∙ more ∙ ap (λ s. s ++ name ∷ []) so_far ∙ append_assoc first (take i names) (name ∷ [])
      ∙ ap (λ t. first ++ t) (ap (λ n. take i names ++ n ∷ []) here ∙ sym (take_more names i d below))

pub none_seen : (names : List (List ℕ)) (i : ℕ) (seen : List (List ℕ)) (whole : Option ℕ) → length names ≤ i → duplicate_from seen i (drop i names) ≡ whole → None ≡ whole
unfolding duplicate_from
none_seen names i seen whole past so_far = sym (at_drop_all (duplicate_from seen i) names i past) ∙ so_far

pub built_in_differ : duplicate_from [] 0 built_in_names ≡ None
unfolding duplicate_from
built_in_differ = refl

-- ---- names among which none stands twice

pub record AllDiffer (named : Named) : Type 0 where
  pub events : duplicate_from [] 0 named.events ≡ None
  pub rows : duplicate_from [] 0 named.rows ≡ None
  pub classes : duplicate_from built_in_names 0 named.classes ≡ None
  pub beans : duplicate_from [] 0 named.beans ≡ None
  pub methods : duplicate_from [] 0 named.methods ≡ None
  pub syncs : duplicate_from [] 0 named.syncs ≡ None
  pub listeners : duplicate_from named.syncs 0 named.listeners ≡ None

pub all_differ : (named : Named) → duplicate_among named ≡ None → AllDiffer named
all_differ named none =
    let without = λ (n : ℕ). none_at n (duplicates named) none in
    record {
      events = mapped_none _ _ (without 0);
      rows = mapped_none _ _ (without 1);
      classes = mapped_none _ _ (without 2);
      beans = mapped_none _ _ (without 3);
      methods = mapped_none _ _ (without 4);
      syncs = mapped_none _ _ (without 5);
      listeners = mapped_none _ _ (without 6);
    }
