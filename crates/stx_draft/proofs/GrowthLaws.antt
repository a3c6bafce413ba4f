-- Names to which rows are added keep their numbers, so what is made by them lasts.
use Rattle.std.proofs.Common.{◌≡◌, ℕ, ◌+◌, ℤ, Bool, true, false, ◌<◌, ◌||◌, List, [], ◌∷◌, ◌++◌, codes, length, map, take, get_or, fold, Option, Some, None, unwrap_or, refl, sym, ap, ◌∙◌, inl, inr, append-nil}
use Rattle.std.proofs.lemmas.Bool.{cases_Bool}
use Rattle.std.proofs.lemmas.List.{map-append, take_more}
use Rattle.std.proofs.lemmas.List.Concat.{flat_map-cons}
use Rattle.std.proofs.lemmas.List.Folds.{list_any-append}
use Rattle.std.proofs.lemmas.Iterator.Adapters.{position_from-zero}
use Rattle.std.proofs.lemmas.Grind.{fold-append, flat_map-append}
use Rattle.std.specs.List.{list_any, position_from, flat_map, filter_map}
use Rattle.std.specs.Option.{option_map, option_and_then}
use Rattle.std.specs.Str.{bytes_eq}
use Rattle.std.proofs.lemmas.Slice.Eq.{bytes_eq-Decides}
use Rattle.toml.specs.Data.{Members}
use Rattle.stx_names.specs.declared.numbered.Numbered.{Numbered}
use Rattle.stx_names.specs.declared.sentence.Sentence.{Sentence}
use Rattle.stx_names.specs.declared.sentence.RuleSentence.{RuleSentence}
use Rattle.stx_names.specs.declared.sentence.Matched.{Matched}
use Rattle.stx_names.specs.Sentences.{rule_in}
use Rattle.stx_names.specs.Words.{phase_in}
use Rattle.stx_scenario.specs.declared.scenario.TxAttr.{TxAttr}
use Rattle.stx_scenario.specs.declared.scenario.Phase.{Phase}
use Rattle.stx_scenario.specs.declared.scenario.Stmt.{Stmt}
use Rattle.stx_scenario.specs.Names.{has_name}
use Rattle.stx_names.specs.Numbers.{with_name, number_of, nothing}
use Rattle.stx_draft.specs.Draft.{row_said, with_rows, stated, body_at, matched_by, rule_of, tx_in, tx_at, order_at, method_in_table, sync_in, listener_in}
use Rattle.stx_draft.specs.Parts.{text_at, flag_at, table_at, texts_at}
use Rattle.stx_draft.specs.inner.Growing.{grown, Lasts}

-- ---- a name keeps its number

place_kept : (p : List ℕ → Bool) (xs ys : List (List ℕ)) (i : ℕ) → list_any p xs ≡ true → position_from p i (xs ++ ys) ≡ position_from p i xs
place_kept p [] ys i there = cc
place_kept p (x ∷ xs) ys i there =
    elim (cases_Bool (p x)) [
      | inl here ↦ rw here
      | inr not_here ↦ rw not_here (place_kept p xs ys (i + 1) (rw not_here at there))
    ]

number_kept : (names more : List (List ℕ)) (name : List ℕ) → has_name names name ≡ true → number_of (names ++ more) name ≡ number_of names name
number_kept names more name there =
    let p : List ℕ → Bool = λ n. bytes_eq n name in
    ap (λ place. unwrap_or place nothing) (position_from-zero p (names ++ more) ∙ place_kept p names more 0 there ∙ sym (position_from-zero p names))

still_there : (names : List (List ℕ)) (other name : List ℕ) → has_name names name ≡ true → has_name (with_name names other) name ≡ true
still_there names other name there =
    elim (cases_Bool (has_name names other)) [
      | inl old ↦ rw old there
      | inr new ↦ rw new (list_any-append (λ n. bytes_eq n name) names (other ∷ []) ∙ ap (λ b. b || has_name (other ∷ []) name) there)
    ]

number_still : (names : List (List ℕ)) (other name : List ℕ) → has_name names name ≡ true → number_of (with_name names other) name ≡ number_of names name
number_still names other name there =
    elim (cases_Bool (has_name names other)) [
      | inl old ↦ rw old
      | inr new ↦ rw new (number_kept names (other ∷ []) name there)
    ]

number_stays : (more names : List (List ℕ)) (name : List ℕ) → has_name names name ≡ true → number_of names name ≡ number_of (fold with_name names more) name
number_stays [] names name there = refl
number_stays (other ∷ more) names name there =
    sym (number_still names other name there) ∙ number_stays more (with_name names other) name (still_there names other name there)

is_itself : (name : List ℕ) → bytes_eq name name ≡ true
is_itself name = (bytes_eq-Decides name name).1 refl

now_there : (names : List (List ℕ)) (name : List ℕ) → has_name (with_name names name) name ≡ true
now_there names name =
    elim (cases_Bool (has_name names name)) [
      | inl old ↦ rw old old
      | inr new ↦ rw new (list_any-append (λ n. bytes_eq n name) names (name ∷ []) ∙ rw (new, is_itself name) refl)
    ]

row_stays : (rows more : List (List ℕ)) (row : List ℕ) → number_of (with_name rows row) row ≡ number_of (fold with_name (with_name rows row) more) row
row_stays rows more row = number_stays more (with_name rows row) row (now_there rows row)

-- ---- a statement lasts, once its row is among the rows

pub statement_lasts : (names : Numbered) (bean : Option (List ℕ)) (s : Sentence) → Lasts (λ N. stated N bean s) (grown names (s ∷ [])) (stated (grown names (s ∷ [])) bean s)
statement_lasts names bean (Sentence.Read row) = λ more. ap (λ n. Stmt.Read (record { 0 = n })) (row_stays names.rows (flat_map row_said more) row)
statement_lasts names bean (Sentence.Write row v) = λ more. ap (λ n. Stmt.Write (record { 0 = n }) v) (row_stays names.rows (flat_map row_said more) row)
statement_lasts names bean (Sentence.Erase row) = λ more. ap (λ n. Stmt.Erase (record { 0 = n })) (row_stays names.rows (flat_map row_said more) row)
statement_lasts names bean (Sentence.Add row v) = λ more. ap (λ n. Stmt.Add (record { 0 = n }) v) (row_stays names.rows (flat_map row_said more) row)
statement_lasts names bean (Sentence.Need row v) = λ more. ap (λ n. Stmt.Need (record { 0 = n }) v) (row_stays names.rows (flat_map row_said more) row)
statement_lasts names bean (Sentence.Call called method catch) = λ more. refl
statement_lasts names bean (Sentence.This method catch) = λ more. refl
statement_lasts names bean (Sentence.Throw class) = λ more. refl
statement_lasts names bean Sentence.Mark = λ more. refl
statement_lasts names bean (Sentence.Publish event) = λ more. refl
statement_lasts names bean (Sentence.Register sync) = λ more. refl

-- ---- what is made in turn

with_rows-append : (rows : List (List ℕ)) (a b : List Sentence) → with_rows rows (a ++ b) ≡ with_rows (with_rows rows a) b
with_rows-append rows a b = rw (flat_map-append row_said a b) (fold-append with_name rows (flat_map row_said a) (flat_map row_said b))

pub grown_more : (names : Numbered) (a b : List Sentence) → grown (grown names a) b ≡ grown names (a ++ b)
grown_more names a b = rw (with_rows-append names.rows a b)

module _ {D A : Type 0} (states : Numbered → D → A) (names next : Numbered) (said : List Sentence) where
  -- one more at the end
  pub lasts_more : (done : List D) (y : D) (all : List A) (a : A) → next ≡ grown names said → Lasts (λ N. states N y) next a
      → Lasts (λ N. map (states N) done) names all → Lasts (λ N. map (states N) (done ++ y ∷ [])) next (all ++ a ∷ [])
  lasts_more done y all a grows one so_far = λ more.
      let names' : grown names (said ++ more) ≡ grown next more = sym (grown_more names said more) ∙ ap (λ N. grown N more) (sym grows) in
      ap (λ l. l ++ a ∷ []) (so_far (said ++ more) ∙ ap (λ N. map (states N) done) names')
      ∙ ap (λ b. map (states (grown next more)) done ++ b ∷ []) (one more)
      ∙ sym (map-append (states (grown next more)) done (y ∷ []))

pub seen_more : {X D : Type 0} (seen : X → D) (xs : List X) (i : ℕ) (x d : X) → i < length xs → x ≡ get_or xs i d
    → map seen (take (i + 1) xs) ≡ map seen (take i xs) ++ seen x ∷ []
seen_more seen xs i x d below here = rw (take_more xs i d below, ← here) (map-append seen (take i xs) (x ∷ []))

-- one table more
pub table_more : {A : Type 0} (said : Members → List Sentence) (states : Numbered → Members → A) (first names next : Numbered) (done : List Members) (y : Members) (all : List A) (a : A)
    → (names ≡ grown first (flat_map said done)) × Lasts (λ N. map (states N) done) names all → next ≡ grown names (said y) → Lasts (λ N. states N y) next a
    → (next ≡ grown first (flat_map said (done ++ y ∷ []))) × Lasts (λ N. map (states N) (done ++ y ∷ [])) next (all ++ a ∷ [])
table_more said states first names next done y all a so_far grows one = (
  grows ∙ ap (λ N. grown N (said y)) so_far.0 ∙ grown_more first (flat_map said done) (said y)
      ∙ ap (grown first) (sym (flat_map-append said done (y ∷ []) ∙ ap (λ l. flat_map said done ++ l) (flat_map-cons said y [] ∙ append-nil (said y)))),
  lasts_more states names next (said y) done y all a grows one so_far.1,
)

-- one statement more
pub statement_more : (bean : Option (List ℕ)) (first names next : Numbered) (done : List Sentence) (s : Sentence) (body : List Stmt) (a : Stmt)
    → (names ≡ grown first done) × Lasts (λ N. map (stated N bean) done) names body → next ≡ grown names (s ∷ []) → a ≡ stated next bean s
    → (next ≡ grown first (done ++ s ∷ [])) × Lasts (λ N. map (stated N bean) (done ++ s ∷ [])) next (body ++ a ∷ [])
statement_more bean first names next done s body a so_far grows is = (
  grows ∙ ap (λ N. grown N (s ∷ [])) so_far.0 ∙ grown_more first done (s ∷ []),
  lasts_more (λ N. stated N bean) names next (s ∷ []) done s body a grows
      (λ more. is ∙ ap (λ N. stated N bean s) grows ∙ statement_lasts names bean s more ∙ ap (λ N. stated (grown N more) bean s) (sym grows)) so_far.1,
)

-- what is made by these names lasts while more rows are added
pub lasts_on : {A : Type 0} (made : Numbered → A) (names next : Numbered) (said : List Sentence) (a : A) → next ≡ grown names said → Lasts made names a → Lasts made next a
lasts_on made names next said a grows lasts = λ more.
    lasts (said ++ more) ∙ ap made (sym (grown_more names said more) ∙ ap (λ N. grown N more) (sym grows))

pub lasts_now : {A : Type 0} (made : Numbered → A) (names : Numbered) (a : A) → Lasts made names a → a ≡ made names
lasts_now made names a lasts = lasts []

-- ---- attributes name no rows

by_same : (names : Numbered) (said : List Sentence) (matched : Matched) → matched_by (grown names said) matched ≡ matched_by names matched
by_same names said (Matched.Class class) = refl
by_same names said (Matched.Pattern pattern) = refl

rules_same : (names : Numbered) (said : List Sentence) (rules : List RuleSentence) → map (rule_of (grown names said)) rules ≡ map (rule_of names) rules
rules_same names said [] = refl
rules_same names said (rule ∷ rules) = rw (by_same names said rule.by, rules_same names said rules)

tx_same : (names : Numbered) (said : List Sentence) (table : Members) → tx_at (grown names said) table ≡ tx_at names table
tx_same names said table = by (table_at (codes "tx") table)
  where
    by : (tx : Option Members) → option_map (tx_in (grown names said)) tx ≡ option_map (tx_in names) tx
    by None = refl
    by (Some inner) = rw (rules_same names said (filter_map rule_in (texts_at (codes "rules") inner)))

-- ---- tables with statements, part by part

module _ (names next : Numbered) (said : List Sentence) (grows : next ≡ grown names said) (table : Members) (name : List ℕ) (named : name ≡ text_at (codes "name") table) where
  pub method_lasts : (bean : ℕ) (tx : Option TxAttr) (body : List Stmt) → bean ≡ number_of names.beans (text_at (codes "bean") table) → tx ≡ tx_at names table
      → Lasts (λ N. body_at N (Some (text_at (codes "bean") table)) (codes "body") table) next body
      → Lasts (λ N. method_in_table N table) next (record { bean = record { 0 = bean }; name = name; tx = tx; body = body })
  method_lasts bean tx body of attributed lasts = λ more.
      let of' : bean ≡ number_of next.beans (text_at (codes "bean") table) = of ∙ ap (λ N. number_of N.beans (text_at (codes "bean") table)) (sym grows) in
      let tx' : tx ≡ tx_at (grown next more) table
      = attributed ∙ sym (tx_same names said table) ∙ ap (λ N. tx_at N table) (sym grows) ∙ sym (tx_same next more table) in
      rw (of', named, tx', lasts more)

  pub listener_lasts : (event : ℕ) (phase : Phase) (order : ℤ) (fallback : Bool) (body : List Stmt) → event ≡ number_of names.events (text_at (codes "event") table)
      → phase ≡ unwrap_or (phase_in (text_at (codes "phase") table)) Phase.AfterCommit → order ≡ order_at table → fallback ≡ flag_at (codes "fallback") false table
      → Lasts (λ N. body_at N None (codes "body") table) next body
      → Lasts (λ N. listener_in N table) next (record { name = name; event = record { 0 = event }; phase = phase; order = order; fallback = fallback; body = body })
  listener_lasts event phase order fallback body of timed ordered backed lasts = λ more.
      let of' : event ≡ number_of next.events (text_at (codes "event") table) = of ∙ ap (λ N. number_of N.events (text_at (codes "event") table)) (sym grows) in
      rw (named, of', timed, ordered, backed, lasts more)

pub sync_lasts : (next : Numbered) (table : Members) (name : List ℕ) (order : ℤ) (b1 b2 b3 b4 : List Stmt) → name ≡ text_at (codes "name") table → order ≡ order_at table
    → Lasts (λ N. body_at N None (codes "before_commit") table) next b1 → Lasts (λ N. body_at N None (codes "before_completion") table) next b2
    → Lasts (λ N. body_at N None (codes "after_commit") table) next b3 → Lasts (λ N. body_at N None (codes "after_completion") table) next b4
    → Lasts (λ N. sync_in N table) next (record { name = name; order = order; before_commit = b1; before_completion = b2; after_commit = b3; after_completion = b4 })
sync_lasts next table name order b1 b2 b3 b4 named ordered l1 l2 l3 l4 = λ more. rw (named, ordered, l1 more, l2 more, l3 more, l4 more)

-- ---- values that are statements

pub sentences_kept : {D : Type 0} (f : D → Option (List ℕ)) (h : List ℕ → Option Sentence) (ds : List D)
    → filter_map (λ d. option_and_then h (f d)) ds ≡ filter_map h (filter_map f ds)
sentences_kept f h [] = refl
sentences_kept f h (d ∷ ds) = by (f d) refl (sentences_kept f h ds)
  where
    by : (found : Option (List ℕ)) → f d ≡ found → filter_map (λ e. option_and_then h (f e)) ds ≡ filter_map h (filter_map f ds)
        → filter_map (λ e. option_and_then h (f e)) (d ∷ ds) ≡ filter_map h (filter_map f (d ∷ ds))
    by None is rest = rw (is, rest)
    by (Some text) is rest = rw (is, rest)
