-- The scenario that a document states: the rows that only statements name are names, and each is new.
use Rattle.std.proofs.Common.{◌≡◌, ℕ, ◌+◌, ℤ, pos, Bool, true, false, ◌&&◌, List, [], ◌∷◌, ◌++◌, codes, length, map, take, drop, fold, if◌then◌else◌, Option, Some, None, refl, sym, ap, ◌∙◌, subst, append_assoc, append-nil, inl, inr}
use Rattle.std.proofs.lemmas.Bool.{cases_Bool, and_parts}
use Rattle.std.proofs.lemmas.List.Concat.{flat_map-cons}
use Rattle.std.proofs.lemmas.List.Folds.{list_all-append}
use Rattle.std.proofs.lemmas.Grind.{flat_map-append}
use Rattle.std.specs.List.{list_all, flat_map, filter_map, cons_option}
use Rattle.std.specs.Option.{option_map, option_and_then}
use Rattle.std.specs.Str.{bytes_eq}
use Rattle.toml.specs.Data.{Members}
use Rattle.stx_scenario.specs.declared.scenario.ClassDecl.{ClassDecl}
use Rattle.stx_scenario.specs.declared.scenario.Settings.{Settings}
use Rattle.stx_scenario.specs.declared.scenario.Bean.{Bean}
use Rattle.stx_scenario.specs.declared.scenario.Method.{Method}
use Rattle.stx_scenario.specs.declared.scenario.SyncDecl.{SyncDecl}
use Rattle.stx_scenario.specs.declared.scenario.Listener.{Listener}
use Rattle.stx_scenario.specs.declared.numbers.MethodNo.{MethodNo}
use Rattle.stx_scenario.specs.BuiltIn.{built_in}
use Rattle.stx_names.specs.declared.numbered.Numbered.{Numbered}
use Rattle.stx_names.specs.declared.sentence.Sentence.{Sentence}
use Rattle.stx_scenario.specs.Names.{is_name, has_name, duplicate_from}
use Rattle.stx_names.specs.Integers.{number_in}
use Rattle.stx_names.specs.Sentences.{name_in, class_in, method_in, call_of, about, of_value, with_value, catching, with_catch, sentence_of, sentence_in, words_of}
use Rattle.stx_draft.specs.Parts.{texts_at, tables_at, numbers_at, number_at}
use Rattle.stx_draft.specs.Draft.{row_said, sentences_at, callback_sentences, sentences_of, all_names, class_in as class_stated, bean_in, method_in_table, sync_in, listener_in, calls_in, natural, settings_of, drafted}
use Rattle.stx_names.specs.Numbers.{with_name}

-- ---- a statement's row is a name

-- the row that a statement names, where it is one
row_is_name : Option Sentence → Bool
row_is_name None = true
row_is_name (Some s) = list_all is_name (row_said s)

one_of : (c : Bool) (x y : Option Sentence) → row_is_name x ≡ true → row_is_name y ≡ true → row_is_name (if c then x else y) ≡ true
one_of true x y first second = first
one_of false x y first second = second

none-row : row_is_name None ≡ true
unfolding row_is_name
none-row = refl

no-row : {A : Type 0} (f : A → Sentence) → ((a : A) → row_said (f a) ≡ []) → (o : Option A) → row_is_name (option_map f o) ≡ true
unfolding row_is_name
no-row f none None = refl
no-row f none (Some a) = ap (list_all is_name) (none a)

named-row : (s : Sentence) (row : List ℕ) → row_said s ≡ row ∷ [] → is_name row ≡ true → row_is_name (Some s) ≡ true
unfolding row_is_name
named-row s row says named = ap (list_all is_name) says ∙ ap (λ b. b && true) named

a-row : (f : List ℕ → Sentence) → ((k : List ℕ) → row_said (f k) ≡ k ∷ []) → (row : List ℕ) → row_is_name (option_map f (name_in row)) ≡ true
a-row f says row =
    elim (cases_Bool (is_name row)) [
      | inl named ↦ rw named (named-row (f row) row (says row) named)
      | inr other ↦ rw other none-row
    ]

a-value : (f : List ℕ → ℤ → Sentence) → ((k : List ℕ) (z : ℤ) → row_said (f k z) ≡ k ∷ []) → (row value : List ℕ) → row_is_name (of_value f row value) ≡ true
a-value f says row value =
    elim (cases_Bool (is_name row)) [
      | inl named ↦ rw named (by (number_in value) named)
      | inr other ↦ rw other none-row
    ]
  where
    by : (number : Option ℤ) → is_name row ≡ true → row_is_name (option_map (f row) number) ≡ true
    by None named = none-row
    by (Some z) named = named-row (f row z) row (says row z) named

call-row : (catch : Option (List ℕ)) (object : List ℕ) → row_is_name (option_map (call_of catch) (method_in object)) ≡ true
call-row catch object = no-row (call_of catch) (λ m. refl) (method_in object)

this-row : (catch : Option (List ℕ)) (object : List ℕ) → row_is_name (option_map (λ m. Sentence.This m catch) (name_in object)) ≡ true
this-row catch object = no-row (λ m. Sentence.This m catch) (λ m. refl) (name_in object)

about-row : (verb object : List ℕ) → row_is_name (about verb object) ≡ true
about-row verb object =
    one_of (bytes_eq verb (codes "read")) _ _ (a-row Sentence.Read (λ k. refl) object)
    (one_of (bytes_eq verb (codes "erase")) _ _ (a-row Sentence.Erase (λ k. refl) object)
    (one_of (bytes_eq verb (codes "call")) _ _ (call-row None object)
    (one_of (bytes_eq verb (codes "this")) _ _ (this-row None object)
    (one_of (bytes_eq verb (codes "throw")) _ _ (no-row Sentence.Throw (λ k. refl) (class_in object))
    (one_of (bytes_eq verb (codes "publish")) _ _ (no-row Sentence.Publish (λ k. refl) (name_in object))
    (one_of (bytes_eq verb (codes "register")) _ _ (no-row Sentence.Register (λ k. refl) (name_in object)) none-row))))))

value-row : (verb row value : List ℕ) → row_is_name (with_value verb row value) ≡ true
value-row verb row value =
    one_of (bytes_eq verb (codes "write")) _ _ (a-value Sentence.Write (λ k z. refl) row value)
    (one_of (bytes_eq verb (codes "add")) _ _ (a-value Sentence.Add (λ k z. refl) row value)
    (one_of (bytes_eq verb (codes "need")) _ _ (a-value Sentence.Need (λ k z. refl) row value) none-row))

catching-row : (verb object class : List ℕ) → row_is_name (catching verb object class) ≡ true
catching-row verb object class =
    one_of (bytes_eq verb (codes "call")) _ _ (call-row (Some class) object)
    (one_of (bytes_eq verb (codes "this")) _ _ (this-row (Some class) object) none-row)

catch-row : (verb object word class : List ℕ) → row_is_name (with_catch verb object word class) ≡ true
catch-row verb object word class = one_of (bytes_eq word (codes "catch")) _ _ (by (class_in class)) none-row
  where
    by : (caught : Option (List ℕ)) → row_is_name (option_and_then (catching verb object) caught) ≡ true
    by None = none-row
    by (Some c) = catching-row verb object c

words-row : (words : List (List ℕ)) → row_is_name (sentence_of words) ≡ true
words-row [] = none-row
words-row (verb ∷ []) = one_of (bytes_eq verb (codes "mark")) _ _ (no-row (λ (u : ℕ). Sentence.Mark) (λ u. refl) (Some 0)) none-row
words-row (verb ∷ object ∷ []) = about-row verb object
words-row (verb ∷ row ∷ value ∷ []) = value-row verb row value
words-row (verb ∷ object ∷ word ∷ class ∷ []) = catch-row verb object word class
words-row (a ∷ b ∷ c ∷ d ∷ e ∷ more) = none-row

sentence-row : (text : List ℕ) → row_is_name (sentence_in text) ≡ true
unfolding sentence_in
sentence-row text = words-row (words_of text)

-- ---- all rows that a document's statements name are names

abbrev pub AreNames : List Sentence → Type 0
AreNames said = list_all is_name (flat_map row_said said) ≡ true

both : (a b : Bool) → a ≡ true → b ≡ true → (a && b) ≡ true
both true b first second = second
both false b first second = first

are_names-append : (a b : List Sentence) → AreNames a → AreNames b → AreNames (a ++ b)
are_names-append a b first second =
    ap (list_all is_name) (flat_map-append row_said a b)
    ∙ list_all-append is_name (flat_map row_said a) (flat_map row_said b)
    ∙ both _ _ first second

are_names-one : (o : Option Sentence) (rest : List Sentence) → row_is_name o ≡ true → AreNames rest → AreNames (cons_option o rest)
unfolding row_is_name
are_names-one None rest named others = others
are_names-one (Some s) rest named others =
    ap (list_all is_name) (flat_map-cons row_said s rest)
    ∙ list_all-append is_name (row_said s) (flat_map row_said rest)
    ∙ both _ _ named others

are_names-texts : (texts : List (List ℕ)) → AreNames (filter_map sentence_in texts)
are_names-texts [] = refl
are_names-texts (text ∷ texts) = are_names-one (sentence_in text) (filter_map sentence_in texts) (sentence-row text) (are_names-texts texts)

are_names-tables : (said : Members → List Sentence) → ((table : Members) → AreNames (said table)) → (tables : List Members) → AreNames (flat_map said tables)
are_names-tables said each [] = refl
are_names-tables said each (table ∷ tables) =
    subst AreNames (sym (flat_map-cons said table tables))
    (are_names-append (said table) (flat_map said tables) (each table) (are_names-tables said each tables))

are_names-at : (key : List ℕ) (table : Members) → AreNames (sentences_at key table)
are_names-at key table = are_names-texts (texts_at key table)

are_names-callback : (sync : Members) → AreNames (callback_sentences sync)
are_names-callback sync =
    let a = sentences_at (codes "before_commit") sync in
    let b = sentences_at (codes "before_completion") sync in
    let c = sentences_at (codes "after_commit") sync in
    let d = sentences_at (codes "after_completion") sync in
    are_names-append (a ++ b ++ c) d
    (are_names-append (a ++ b) c
    (are_names-append a b (are_names-at (codes "before_commit") sync) (are_names-at (codes "before_completion") sync))
    (are_names-at (codes "after_commit") sync))
    (are_names-at (codes "after_completion") sync)

pub are_names-document : (root : Members) → AreNames (sentences_of root)
are_names-document root =
    let a = flat_map (sentences_at (codes "body")) (tables_at (codes "methods") root) in
    let b = flat_map callback_sentences (tables_at (codes "syncs") root) in
    let c = flat_map (sentences_at (codes "body")) (tables_at (codes "listeners") root) in
    are_names-append (a ++ b) c
    (are_names-append a b
    (are_names-tables (sentences_at (codes "body")) (are_names-at (codes "body")) (tables_at (codes "methods") root))
    (are_names-tables callback_sentences are_names-callback (tables_at (codes "syncs") root)))
    (are_names-tables (sentences_at (codes "body")) (are_names-at (codes "body")) (tables_at (codes "listeners") root))

-- ---- names that come after others, each new and a name

pub record Added (rows all : List (List ℕ)) : Type 0 where
  pub more : List (List ℕ)
  pub is : all ≡ rows ++ more
  pub names : list_all is_name more ≡ true
  pub new : (n : ℕ) → duplicate_from rows n more ≡ None

nothing_new : (rows : List (List ℕ)) (n : ℕ) → duplicate_from rows n [] ≡ None
unfolding duplicate_from
nothing_new rows n = refl

one_new : (rows more : List (List ℕ)) (name : List ℕ) (n : ℕ) → has_name rows name ≡ false → duplicate_from (rows ++ name ∷ []) (n + 1) more ≡ None
    → duplicate_from rows n (name ∷ more) ≡ None
unfolding duplicate_from
one_new rows more name n new others = rw new others

added-one : (rows : List (List ℕ)) (name : List ℕ) (all : List (List ℕ)) → has_name rows name ≡ false → is_name name ≡ true → Added (rows ++ name ∷ []) all → Added rows all
added-one rows name all new named rest = record {
  more = name ∷ rest.more;
  is = rest.is ∙ append_assoc rows (name ∷ []) rest.more;
  names = both _ _ named rest.names;
  new = λ n. one_new rows rest.more name n new (rest.new (n + 1));
}

pub added : (said rows : List (List ℕ)) → list_all is_name said ≡ true → Added rows (fold with_name rows said)
added [] rows named = record { more = []; is = sym (append-nil rows); names = refl; new = nothing_new rows }
added (name ∷ said) rows named =
    let parts = and_parts _ _ named in
    elim (cases_Bool (has_name rows name)) [
      | inl there ↦ subst (λ (r : List (List ℕ)). Added rows (fold with_name r said)) (sym (with-there there)) (added said rows parts.1)
      | inr new ↦
          added-one rows name _ new parts.0
          (subst (λ (r : List (List ℕ)). Added (rows ++ name ∷ []) (fold with_name r said)) (sym (with-new new)) (added said (rows ++ name ∷ []) parts.1))
    ]
  where
    with-there : has_name rows name ≡ true → with_name rows name ≡ rows
    with-there there = rw there

    with-new : has_name rows name ≡ false → with_name rows name ≡ rows ++ name ∷ []
    with-new new = rw new

-- ---- the scenario

pub take-first : {A : Type 0} (xs ys : List A) → take (length xs) (xs ++ ys) ≡ xs
take-first [] ys = refl
take-first (x ∷ xs) ys = ap (λ t. x ∷ t) (take-first xs ys)

pub drop-first : {A : Type 0} (xs ys : List A) → drop (length xs) (xs ++ ys) ≡ ys
drop-first [] ys = refl
drop-first (x ∷ xs) ys = drop-first xs ys

-- the parts of a scenario, one by one
pub drafted_so : (root : Members) (names : Numbered) (settings : Settings) (events row_names : List (List ℕ)) (schedule : List ℕ) (values : List ℤ) (classes : List ClassDecl)
    (beans : List Bean) (methods : List Method) (syncs : List SyncDecl) (listeners : List Listener) (clients : List (List MethodNo))
    → names ≡ all_names root
    → settings ≡ settings_of root
    → events ≡ names.events
    → schedule ≡ map natural (numbers_at (codes "schedule") root)
    → row_names ≡ names.rows
    → values ≡ map (number_at (codes "value") (pos 0)) (tables_at (codes "rows") root)
    → classes ≡ built_in ++ map (class_stated names) (tables_at (codes "classes") root)
    → beans ≡ map (bean_in names) (tables_at (codes "beans") root)
    → methods ≡ map (method_in_table names) (tables_at (codes "methods") root)
    → syncs ≡ map (sync_in names) (tables_at (codes "syncs") root)
    → listeners ≡ map (listener_in names) (tables_at (codes "listeners") root)
    → clients ≡ map (calls_in names) (tables_at (codes "clients") root)
    → record { settings = settings; events = events; schedule = schedule; row_names = row_names; values = values; classes = classes; beans = beans; methods = methods; syncs = syncs; listeners = listeners; clients = clients } ≡ drafted root
unfolding drafted
drafted_so root names settings events row_names schedule values classes beans methods syncs listeners clients n s e t r v c b m y l k =
    rw (s, e, t, r, v, c, b, m, y, l, k, n)
