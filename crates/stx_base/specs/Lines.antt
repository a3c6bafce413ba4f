-- The text of each line of a trace.
use Rattle.std.specs.Prelude.{ℕ, Bool, true, false, List, [], ◌∷◌, ◌++◌, codes, Option, Some, None, slice_get, unwrap_or}
use Rattle.std.specs.Option.{option_map}
use Rattle.std.specs.Fmt.{decimal, signed_decimal}
use Rattle.stx_scenario.specs.declared.numbers.ClassNo.{ClassNo}
use Rattle.stx_scenario.specs.declared.numbers.MethodNo.{MethodNo}
use Rattle.stx_scenario.specs.declared.numbers.RowNo.{RowNo}
use Rattle.stx_scenario.specs.declared.numbers.SyncNo.{SyncNo}
use Rattle.stx_scenario.specs.declared.numbers.ListenerNo.{ListenerNo}
use Rattle.stx_scenario.specs.declared.numbers.EventNo.{EventNo}
use Rattle.stx_scenario.specs.declared.numbers.BeanNo.{BeanNo}
use Rattle.stx_scenario.specs.declared.scenario.Scenario.{Scenario}
use Rattle.stx_scenario.specs.declared.scenario.Method.{Method}
use Rattle.stx_scenario.specs.declared.scenario.Propagation.{Propagation}
use Rattle.stx_base.specs.declared.history.Access.{Access}
use Rattle.stx_base.specs.declared.history.Answer.{Answer}
use Rattle.stx_base.specs.declared.line.Label.{Label}
use Rattle.stx_base.specs.declared.line.Line.{Line}
use Rattle.stx_base.specs.declared.manager.Kind.{Kind}
use Rattle.stx_base.specs.declared.manager.Ending.{Ending}

-- ---- names, by number

abbrev pub bean_name : Scenario → BeanNo → List ℕ
bean_name S b = unwrap_or (option_map (λ bean. bean.name) (slice_get S.beans b.0)) []

abbrev pub method_text : Scenario → Method → List ℕ
method_text S method = bean_name S method.bean ++ codes "." ++ method.name

-- a method by its bean and its name
abbrev pub method_name : Scenario → MethodNo → List ℕ
method_name S m = unwrap_or (option_map (method_text S) (slice_get S.methods m.0)) []

abbrev pub class_name : Scenario → ClassNo → List ℕ
class_name S x = unwrap_or (option_map (λ class. class.name) (slice_get S.classes x.0)) []

abbrev pub sync_name : Scenario → SyncNo → List ℕ
sync_name S s = unwrap_or (option_map (λ sync. sync.name) (slice_get S.syncs s.0)) []

abbrev pub listener_name : Scenario → ListenerNo → List ℕ
listener_name S l = unwrap_or (option_map (λ listener. listener.name) (slice_get S.listeners l.0)) []

abbrev pub event_name : Scenario → EventNo → List ℕ
event_name S e = unwrap_or (slice_get S.events e.0) []

abbrev pub row_name : Scenario → RowNo → List ℕ
row_name S k = unwrap_or (slice_get S.row_names k.0) []

abbrev pub label_name : Scenario → Label → List ℕ
label_name S (Label.Sync s) = sync_name S s
label_name S (Label.Listener l) = listener_name S l

-- ---- parts of lines

abbrev pub propagation_word : Propagation → List ℕ
propagation_word Propagation.Required = codes "required"
propagation_word Propagation.Supports = codes "supports"
propagation_word Propagation.Mandatory = codes "mandatory"
propagation_word Propagation.RequiresNew = codes "requires_new"
propagation_word Propagation.NotSupported = codes "not_supported"
propagation_word Propagation.Never = codes "never"
propagation_word Propagation.Nested = codes "nested"

abbrev pub kind_word : Kind → List ℕ
kind_word Kind.Fresh = codes "fresh"
kind_word Kind.Join = codes "join"
kind_word Kind.Point = codes "point"
kind_word Kind.Empty = codes "empty"

abbrev pub ending_word : Ending → List ℕ
ending_word Ending.Commit = codes "commit"
ending_word Ending.Rollback = codes "rollback"
ending_word Ending.Unexpected = codes "unexpected"

-- the text where the flag is set
abbrev pub where_set : Bool → List ℕ → List ℕ
where_set true text = text
where_set false text = []

abbrev pub access_text : Scenario → Access → List ℕ
access_text S (Access.Read k) = codes "read " ++ row_name S k
access_text S (Access.Write k v) = codes "write " ++ row_name S k ++ codes " " ++ signed_decimal v
access_text S (Access.Erase k) = codes "erase " ++ row_name S k

abbrev pub answer_text : Answer → List ℕ
answer_text (Answer.Found v) = codes " found " ++ signed_decimal v
answer_text Answer.Absent = codes " absent"
answer_text Answer.Done = codes " done"
answer_text (Answer.Busy t) = codes " busy " ++ decimal t

abbrev pub connection_text : Option ℕ → List ℕ
connection_text (Some c) = decimal c
connection_text None = codes "empty"

abbrev pub decision_word : Bool → List ℕ
decision_word true = codes "rollback"
decision_word false = codes "keep"

abbrev pub winner_text : Option ℕ → List ℕ
winner_text (Some n) = decimal n
winner_text None = codes "default"

abbrev pub thrown_text : Scenario → Option ClassNo → List ℕ
thrown_text S (Some x) = codes " throws " ++ class_name S x
thrown_text S None = []

abbrev pub completion_word : Bool → List ℕ
completion_word true = codes "committed"
completion_word false = codes "rolled_back"

-- ---- lines

-- the words of a line, without its place
unfoldable pub line_words : Scenario → Line → List ℕ
line_words S (Line.Top k) = codes "top " ++ decimal k
line_words S (Line.Call m p read_only) =
    codes "call " ++ method_name S m ++ codes " " ++ propagation_word p ++ where_set read_only (codes " read_only")
line_words S (Line.Plain m) = codes "call " ++ method_name S m ++ codes " plain"
line_words S (Line.This m) = codes "this " ++ method_name S m
line_words S (Line.Suspend l) = codes "suspend " ++ label_name S l
line_words S (Line.Resume l) = codes "resume " ++ label_name S l
line_words S (Line.Unbind c) = codes "unbind " ++ decimal c
line_words S (Line.Bind c) = codes "bind " ++ decimal c
line_words S (Line.Take c) = codes "take " ++ connection_text c
line_words S (Line.Give c) = codes "give " ++ decimal c
line_words S (Line.Begin t) = codes "begin " ++ decimal t
line_words S (Line.Row t a r) = access_text S a ++ answer_text r
line_words S (Line.Auto a r) = codes "auto " ++ access_text S a ++ answer_text r
line_words S (Line.Savepoint t) = codes "savepoint"
line_words S (Line.BackTo t) = codes "back_to"
line_words S (Line.Release t) = codes "release"
line_words S (Line.Commit t n) = codes "commit " ++ decimal n
line_words S (Line.Rollback t) = codes "rollback"
line_words S (Line.Opened kind owns) = codes "open " ++ kind_word kind ++ where_set owns (codes " sync")
line_words S (Line.Throw x) = codes "throw " ++ class_name S x
line_words S (Line.Rules rollback winner) = codes "rules " ++ decision_word rollback ++ codes " by " ++ winner_text winner
line_words S (Line.End ending) = codes "end " ++ ending_word ending
line_words S Line.MarkGlobal = codes "mark_global"
line_words S Line.Mark = codes "mark"
line_words S (Line.Register l) = codes "register " ++ label_name S l
line_words S (Line.Publish e) = codes "publish " ++ event_name S e
line_words S (Line.Skip l) = codes "skip " ++ listener_name S l
line_words S (Line.Listen l) = codes "listen " ++ listener_name S l
line_words S (Line.BeforeCommit l) = codes "before_commit " ++ label_name S l
line_words S (Line.BeforeCompletion l) = codes "before_completion " ++ label_name S l
line_words S (Line.AfterCommit l) = codes "after_commit " ++ label_name S l
line_words S (Line.AfterCompletion l committed) = codes "after_completion " ++ label_name S l ++ codes " " ++ completion_word committed
line_words S (Line.Swallow x) = codes "swallow " ++ class_name S x
line_words S (Line.Catch x) = codes "catch " ++ class_name S x
line_words S (Line.Leave m thrown) = codes "leave " ++ method_name S m ++ thrown_text S thrown

-- whose history a line has its place in
pub data Shared : Type 0 where
  OfPool : Shared
  OfStore : Shared
  OfNeither : Shared

abbrev pub shared_by : Line → Shared
shared_by (Line.Take c) = OfPool
shared_by (Line.Give c) = OfPool
shared_by (Line.Begin t) = OfStore
shared_by (Line.Row t a r) = OfStore
shared_by (Line.Auto a r) = OfStore
shared_by (Line.Savepoint t) = OfStore
shared_by (Line.BackTo t) = OfStore
shared_by (Line.Release t) = OfStore
shared_by (Line.Commit t n) = OfStore
shared_by (Line.Rollback t) = OfStore
shared_by _ = OfNeither

-- the place of a shared call's entry, from 1
abbrev pub place_text : Shared → Option ℕ → List ℕ
place_text OfPool (Some n) = codes " @p" ++ decimal n
place_text OfStore (Some n) = codes " @s" ++ decimal n
place_text _ _ = []

abbrev pub line_feed : List ℕ
line_feed = 10 ∷ []

-- a line with its place, and a line feed
abbrev pub line_text : Scenario → Line → Option ℕ → List ℕ
line_text S line place = line_words S line ++ place_text (shared_by line) place ++ line_feed
