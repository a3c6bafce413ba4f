-- When a scenario that is a value is valid, and else why it is refused: the stages after the types, with the paths that
-- the scenario's text would have.
use Rattle.std.specs.Prelude.{◌≡◌, ℕ, pos, Bool, ◌&&◌, nat_lt, List, [], ◌∷◌, ◌++◌, codes, length, Option, Some, None}
use Rattle.std.specs.Option.{option_map}
use Rattle.stx_scenario.specs.declared.numbers.BeanNo.{BeanNo}
use Rattle.stx_scenario.specs.declared.numbers.ClassNo.{ClassNo}
use Rattle.stx_scenario.specs.declared.numbers.MethodNo.{MethodNo}
use Rattle.stx_scenario.specs.declared.scenario.Scenario.{Scenario}
use Rattle.stx_scenario.specs.declared.scenario.ClassDecl.{ClassDecl}
use Rattle.stx_scenario.specs.declared.scenario.Bean.{Bean}
use Rattle.stx_scenario.specs.declared.scenario.Method.{Method}
use Rattle.stx_scenario.specs.declared.scenario.TxAttr.{TxAttr}
use Rattle.stx_scenario.specs.declared.scenario.Rule.{Rule}
use Rattle.stx_scenario.specs.declared.scenario.RuleBy.{RuleBy}
use Rattle.stx_scenario.specs.declared.scenario.SyncDecl.{SyncDecl}
use Rattle.stx_scenario.specs.declared.scenario.Listener.{Listener}
use Rattle.stx_scenario.specs.declared.scenario.Stmt.{Stmt}
use Rattle.stx_scenario.specs.declared.limits.TheConstants.{MOST_BEANS, MOST_CALLS, MOST_CLASSES, MOST_CLIENTS, MOST_EVENTS, MOST_LISTENERS, MOST_METHODS, MOST_ROWS, MOST_RULES, MOST_STATEMENTS, MOST_SYNCS, MOST_TURNS}
use Rattle.stx_base.specs.Classes.{first_own_ancestor, first_too_deep}
use Rattle.stx_base.specs.Valid.{is_class, is_method, names_known, own_known, parent_known, first_rows, own_classes, allowed_before_commit, allowed_around, allowed_in, IsShaped}
use Rattle.stx_base.specs.Lines.{class_name}
use Rattle.stx_refusals.specs.declared.fault.Fault.{Fault}
use Rattle.stx_refusals.specs.declared.fault.ReadFault.{ReadFault}
use Rattle.stx_refusals.specs.declared.fault.Stage.{Stage}
use Rattle.stx_scenario.specs.Names.{is_name, is_class_name, is_pattern}
use Rattle.stx_refusals.specs.Faults.{under, entry, refused, unless, each_from, count_faults, first_at, first_some, count_stage}
use Rattle.stx_names.specs.Integers.{is_pool}
use Rattle.stx_names.specs.Duplicates.{duplicate_among, names_of}
use Rattle.stx_judge.specs.Calls.{call_cycle, call_depth, too_large}

-- ---- what is refused at single places

abbrev pub name_faults : List ℕ → List ℕ → List Fault
name_faults path name = refused (under path (codes "name")) (unless (is_name name) Stage.BadName)

-- a rule names a class that is there, or is a pattern
abbrev pub rule_stage : Scenario → RuleBy → Option Stage
rule_stage S (RuleBy.Class class) = unless (is_class S class) Stage.UnknownRef
rule_stage S (RuleBy.Pattern pattern) = unless (is_pattern pattern) Stage.BadWord

abbrev pub rules_faults : Scenario → List ℕ → List Rule → List Fault
rules_faults S path rules = count_faults MOST_RULES path (length rules) ++ each_from (λ n rule. refused (entry path n) (rule_stage S rule.by)) 0 rules

abbrev pub tx_faults : Scenario → List ℕ → Option TxAttr → List Fault
tx_faults S path None = []
tx_faults S path (Some tx) = rules_faults S (under (under path (codes "tx")) (codes "rules")) tx.rules

-- the statements of a method of a bean
abbrev pub body_faults : Scenario → BeanNo → List ℕ → List Stmt → List Fault
body_faults S bean path body =
    count_faults MOST_STATEMENTS path (length body)
    ++ each_from (λ n s. refused (entry path n) (unless (names_known S s && own_known S bean s) Stage.UnknownRef)) 0 body

-- the statements of a callback
abbrev pub callback_body_faults : Scenario → List ℕ → List Stmt → List Fault
callback_body_faults S path body =
    count_faults MOST_STATEMENTS path (length body)
    ++ each_from (λ n s. refused (entry path n) (unless (names_known S s) Stage.UnknownRef)) 0 body

-- a turn is a client's
abbrev pub turn_faults : Scenario → ℕ → ℕ → List Fault
turn_faults S n client =
    refused (entry (codes "schedule") n) (unless (nat_lt client MOST_CLIENTS) Stage.OutOfRange)
    ++ refused (entry (codes "schedule") n) (unless (nat_lt client (length S.clients)) Stage.UnknownRef)

-- a class that isn't built in
abbrev pub class_faults : Scenario → ℕ → ClassDecl → List Fault
class_faults S n class = let path = entry (codes "classes") n in
    refused (under path (codes "name")) (unless (is_class_name class.name) Stage.BadName)
    ++ refused (under path (codes "parent")) (unless (parent_known S class.parent) Stage.UnknownRef)

abbrev pub bean_faults : Scenario → ℕ → Bean → List Fault
bean_faults S n bean = let path = entry (codes "beans") n in name_faults path bean.name ++ tx_faults S path bean.tx

abbrev pub method_faults : Scenario → ℕ → Method → List Fault
method_faults S n method = let path = entry (codes "methods") n in
    refused (under path (codes "bean")) (unless (nat_lt method.bean.0 (length S.beans)) Stage.UnknownRef)
    ++ name_faults path method.name
    ++ tx_faults S path method.tx
    ++ body_faults S method.bean (under path (codes "body")) method.body

abbrev pub sync_faults : Scenario → ℕ → SyncDecl → List Fault
sync_faults S n sync = let path = entry (codes "syncs") n in
    name_faults path sync.name
    ++ callback_body_faults S (under path (codes "before_commit")) sync.before_commit
    ++ callback_body_faults S (under path (codes "before_completion")) sync.before_completion
    ++ callback_body_faults S (under path (codes "after_commit")) sync.after_commit
    ++ callback_body_faults S (under path (codes "after_completion")) sync.after_completion

abbrev pub listener_faults : Scenario → ℕ → Listener → List Fault
listener_faults S n listener = let path = entry (codes "listeners") n in
    name_faults path listener.name
    ++ refused (under path (codes "event")) (unless (nat_lt listener.event.0 (length S.events)) Stage.UnknownRef)
    ++ callback_body_faults S (under path (codes "body")) listener.body

abbrev pub client_faults : Scenario → ℕ → List MethodNo → List Fault
client_faults S n calls = let path = under (entry (codes "clients") n) (codes "calls") in
    count_faults MOST_CALLS path (length calls)
    ++ each_from (λ k m. refused (entry path k) (unless (is_method S m) Stage.UnknownRef)) 0 calls

-- ---- all places in walk order, array by array

abbrev pub events_faults : Scenario → List Fault
events_faults S =
    count_faults MOST_EVENTS (codes "events") (length S.events)
    ++ each_from (λ n name. refused (entry (codes "events") n) (unless (is_name name) Stage.BadName)) 0 S.events

abbrev pub schedule_faults : Scenario → List Fault
schedule_faults S = count_faults MOST_TURNS (codes "schedule") (length S.schedule) ++ each_from (turn_faults S) 0 S.schedule

abbrev pub settings_faults : Scenario → List Fault
settings_faults S = refused (codes "settings.pool") (unless (is_pool (pos S.settings.pool)) Stage.OutOfRange)

abbrev pub rows_faults : Scenario → List Fault
rows_faults S =
    count_faults MOST_ROWS (codes "rows") (length S.values)
    ++ each_from (λ n name. name_faults (entry (codes "rows") n) name) 0 (first_rows S)

abbrev pub classes_faults : Scenario → List Fault
classes_faults S = count_faults MOST_CLASSES (codes "classes") (length (own_classes S)) ++ each_from (class_faults S) 0 (own_classes S)

abbrev pub beans_faults : Scenario → List Fault
beans_faults S = count_faults MOST_BEANS (codes "beans") (length S.beans) ++ each_from (bean_faults S) 0 S.beans

abbrev pub methods_faults : Scenario → List Fault
methods_faults S = count_faults MOST_METHODS (codes "methods") (length S.methods) ++ each_from (method_faults S) 0 S.methods

abbrev pub syncs_faults : Scenario → List Fault
syncs_faults S = count_faults MOST_SYNCS (codes "syncs") (length S.syncs) ++ each_from (sync_faults S) 0 S.syncs

abbrev pub listeners_faults : Scenario → List Fault
listeners_faults S = count_faults MOST_LISTENERS (codes "listeners") (length S.listeners) ++ each_from (listener_faults S) 0 S.listeners

abbrev pub clients_faults : Scenario → List Fault
clients_faults S = refused (codes "clients") (count_stage 1 MOST_CLIENTS (length S.clients)) ++ each_from (client_faults S) 0 S.clients

unfoldable pub scenario_faults : Scenario → List Fault
scenario_faults S =
    events_faults S ++ schedule_faults S ++ settings_faults S ++ rows_faults S ++ classes_faults S ++ beans_faults S
    ++ methods_faults S ++ syncs_faults S ++ listeners_faults S ++ clients_faults S

-- ---- callback bodies

abbrev pub disallowed : (Stmt → Bool) → List ℕ → List Stmt → List Fault
disallowed allowed path body = each_from (λ n s. refused (entry path n) (unless (allowed s) Stage.CallbackBody)) 0 body

abbrev pub sync_callback_faults : Scenario → ℕ → SyncDecl → List Fault
sync_callback_faults S n sync = let path = entry (codes "syncs") n in
    disallowed (allowed_before_commit S) (under path (codes "before_commit")) sync.before_commit
    ++ disallowed (allowed_around S) (under path (codes "before_completion")) sync.before_completion
    ++ disallowed (allowed_around S) (under path (codes "after_commit")) sync.after_commit
    ++ disallowed (allowed_around S) (under path (codes "after_completion")) sync.after_completion

abbrev pub listener_callback_faults : Scenario → ℕ → Listener → List Fault
listener_callback_faults S n listener =
    disallowed (allowed_in listener.phase S) (under (entry (codes "listeners") n) (codes "body")) listener.body

unfoldable pub callback_faults : Scenario → List Fault
callback_faults S = each_from (sync_callback_faults S) 0 S.syncs ++ each_from (listener_callback_faults S) 0 S.listeners

-- ---- classes

abbrev pub numbered_class : ℕ → ClassNo
numbered_class n = record { 0 = n }

abbrev pub class_cycle : Scenario → Option ReadFault
class_cycle S = option_map (λ n. ReadFault.ClassCycle (class_name S (numbered_class n))) (first_own_ancestor S.classes)

abbrev pub class_depth : Scenario → Option ReadFault
class_depth S = option_map (λ n. ReadFault.ClassDepth (class_name S (numbered_class n))) (first_too_deep S.classes)

-- ---- the stages, one after the other

-- names, numbers and words at single places, and what is named there
abbrev pub place_stages : Scenario → List (Option ReadFault)
place_stages S =
    first_at Stage.BadName (scenario_faults S)
    ∷ first_at Stage.OutOfRange (scenario_faults S)
    ∷ first_at Stage.TooMany (scenario_faults S)
    ∷ duplicate_among (names_of S)
    ∷ first_at Stage.BadWord (scenario_faults S)
    ∷ first_at Stage.UnknownRef (scenario_faults S)
    ∷ []

abbrev pub class_stages : Scenario → List (Option ReadFault)
class_stages S = class_cycle S ∷ class_depth S ∷ []

abbrev pub call_stages : Scenario → List (Option ReadFault)
call_stages S = call_cycle S ∷ call_depth S ∷ too_large S ∷ []

-- how classes, callbacks and calls hang together
abbrev pub linked_stages : Scenario → List (Option ReadFault)
linked_stages S = class_stages S ++ first_at Stage.CallbackBody (callback_faults S) ∷ call_stages S

-- the first stage that refuses anything, at its first place
unfoldable pub judged : Scenario → Option ReadFault
judged S = first_some (place_stages S ++ linked_stages S)

-- shaped, and refused by no stage
pub record IsValid (S : Scenario) : Type 0 where
  pub shaped : IsShaped S
  pub accepted : judged S ≡ None
