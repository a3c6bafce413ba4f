-- The laws that public functions carry.
use Rattle.std.specs.Prelude.{◌≡◌, ℕ, ◌+◌, ◌*◌, ◌<◌, ◌≤◌, List, [], ◌∷◌, ◌++◌, map, length, true, false}
use Rattle.std.specs.List.{All, list_any}
use Rattle.stx_scenario.specs.declared.scenario.Scenario.{Scenario}
use Rattle.stx_base.specs.declared.facts.StoreFacts.{StoreFacts}
use Rattle.stx_base.specs.declared.call.Want.{Want}
use Rattle.stx_base.specs.declared.history.PoolNote.{PoolNote}
use Rattle.stx_base.specs.declared.history.PoolEntry.{PoolEntry}
use Rattle.stx_base.specs.declared.history.StoreNote.{StoreNote}
use Rattle.stx_base.specs.declared.history.StoreEntry.{StoreEntry}
use Rattle.stx_base.specs.declared.line.Line.{Line}
use Rattle.stx_base.specs.declared.line.Label.{Label}
use Rattle.stx_model.specs.Faithful.{Faithful}
use Rattle.stx_model.specs.Brackets.{IsBalanced, connection_bracket, transaction_bracket, binding_bracket, IsResumedInOrder, IsCompletedOnce, top_calls, is_rollback}
use Rattle.stx_model.specs.Played.{Turns, IsClientDone, outcome_of, played}
use Rattle.stx_base.specs.Limits.{notes_a_unit}
use Rattle.stx_base.specs.Histories.{pool_notes_of, store_notes_of, sum_below}
use Rattle.stx_base.specs.Legal.{PoolLegal, StoreLegal}
use Rattle.stx_base.specs.declared.history.Note.{Note}
use Rattle.stx_base.specs.Notes.{is_answer}
use Rattle.stx_model.specs.Meanings.{State, Stops, Breaks, state_of}
use Rattle.stx_base.specs.Pools.{out}
use Rattle.stx_model.specs.Reads.{IsEndOf, StartsWith, BrokeAtNote, pool_with, store_with, ReadsAll, notes_read, TakesFresh, BeginsFresh, IsProperAfter}
use Rattle.stx_model.specs.Script.{script}
use Rattle.stx_base.specs.Serial.{Serial}
use Rattle.stx_base.specs.Stores.{live, store_facts}
use Rattle.stx_base.specs.Valid.{IsInOrder}
use Rattle.stx_base.specs.Weight.{InRange, HasNoCycle, leads, weight}

-- a legal history of the store is serial
abbrev pub JournalIsSerial : Type 0
JournalIsSerial = (clients : ℕ) (facts : StoreFacts) (history : List StoreEntry) → StoreLegal clients facts history → Serial facts history

-- where no method leads to itself: over any notes, the scripts of all clients together read at most eight notes for each
-- unit of weight
abbrev pub ReadsWithin : Type 0
ReadsWithin = (S : Scenario) → InRange S → HasNoCycle (leads S) (length S.methods) → (pool : ℕ → List PoolNote) (store : ℕ → List StoreNote)
    → sum_below (length S.clients) (λ c. notes_read S c (pool c) (store c)) ≤ notes_a_unit * weight S

-- the lines that scripts say for each unit of weight
abbrev pub lines_a_unit : ℕ
lines_a_unit = 16

-- where no method leads to itself: over any notes, the scripts of all clients together say at most sixteen lines for each
-- unit of weight
abbrev pub SaysWithin : Type 0
SaysWithin = (S : Scenario) → InRange S → HasNoCycle (leads S) (length S.methods) → (pool : ℕ → List PoolNote) (store : ℕ → List StoreNote)
    → sum_below (length S.clients) (λ c. length (state_of (script S c (pool c) (store c))).lines) ≤ lines_a_unit * weight S

-- where no method leads to itself: legal histories whose notes the clients' scripts have all read have at most eight
-- entries for each unit of weight
abbrev pub EntriesWithin : Type 0
EntriesWithin = (S : Scenario) → InRange S → HasNoCycle (leads S) (length S.methods) → (pool : List PoolEntry) (store : List StoreEntry)
    → PoolLegal (length S.clients) S.settings.pool pool → StoreLegal (length S.clients) (store_facts S) store
    → ((c : ℕ) → c < length S.clients → ReadsAll S c (pool_notes_of pool c) (store_notes_of store c))
    → length pool + length store ≤ notes_a_unit * weight S

-- a script only grows with its notes: its lines over some notes are the first of its lines over these and more
abbrev pub ScriptsGrow : Type 0
ScriptsGrow = (S : Scenario) (c : ℕ) (pool more_pool : List PoolNote) (store more_store : List StoreNote)
    → StartsWith (state_of (script S c (pool ++ more_pool) (store ++ more_store))).lines (state_of (script S c pool store)).lines

-- what a script leaves unread is the end of the notes it was given, whatever its own end
abbrev pub ReadsInOrder : Type 0
ReadsInOrder = (S : Scenario) (c : ℕ) (pool : List PoolNote) (store : List StoreNote)
    → IsEndOf (state_of (script S c pool store)).pool pool × IsEndOf (state_of (script S c pool store)).store store

-- where a script stops at a want with no note unread, and a note answers this want, the script over the notes with this
-- one reads it and all before
abbrev pub AnswersAreRead : Type 0
AnswersAreRead = (S : Scenario) (c : ℕ) (pool : List PoolNote) (store : List StoreNote) (want : Want) (end : State) (n : Note)
    → script S c pool store ≡ Stops want end → end.pool ≡ [] → end.store ≡ [] → is_answer want n ≡ true
    → ReadsAll S c (pool_with pool n) (store_with store n)

-- in a valid scenario a script breaks only at a note that doesn't answer what it wants
abbrev pub BreaksAtWrongNotes : Type 0
BreaksAtWrongNotes = (S : Scenario) → IsInOrder S → (c : ℕ) (pool : List PoolNote) (store : List StoreNote) (end : State)
    → script S c pool store ≡ Breaks end → BrokeAtNote S c pool store end

-- a client's own notes in legal histories take no connection that it has out, and begin no number twice
abbrev pub OwnNotesFresh : Type 0
OwnNotesFresh = (clients client : ℕ)
    → ((size : ℕ) (history : List PoolEntry) → PoolLegal clients size history → TakesFresh (pool_notes_of history client))
    × ((facts : StoreFacts) (history : List StoreEntry) → StoreLegal clients facts history → BeginsFresh (store_notes_of history client))

-- in a valid scenario: where a script wants a call and leaves no note unread, the call is proper after them
abbrev pub WantsProper : Type 0
WantsProper = (S : Scenario) → IsInOrder S → (c : ℕ) (pool : List PoolNote) (store : List StoreNote) (want : Want) (end : State)
    → script S c pool store ≡ Stops want end → end.pool ≡ [] → end.store ≡ [] → IsProperAfter pool store want

-- in the lines of a script that is done, takes and gives are brackets, and so are the begins and the ends of transactions,
-- and the unbinding and the binding of connections; all are closed where a top-level call begins
abbrev pub Balanced : Type 0
Balanced = (S : Scenario) (c : ℕ) (pool : List PoolNote) (store : List StoreNote) (end : State) → script S c pool store ≡ Stops Want.Done end
    → IsBalanced (map connection_bracket end.lines) × IsBalanced (map transaction_bracket end.lines) × IsBalanced (map binding_bracket end.lines)

-- in each top-level call of a script that is done each label is completed as often as it was registered, and at no time
-- more often
abbrev pub CompletedOnce : Type 0
CompletedOnce = (S : Scenario) (c : ℕ) (pool : List PoolNote) (store : List StoreNote) (end : State) → script S c pool store ≡ Stops Want.Done end
    → (l : Label) → All (IsCompletedOnce l) (top_calls end.lines)

-- in the lines of a script that is done each call resumes what it suspended before it leaves, in the same order, and
-- innermost calls resume first
abbrev pub ResumesInOrder : Type 0
ResumesInOrder = (S : Scenario) (c : ℕ) (pool : List PoolNote) (store : List StoreNote) (end : State) → script S c pool store ≡ Stops Want.Done end
    → IsResumedInOrder end.lines

-- where no transaction number is begun twice: beside the line of a transaction's commit no line, before it or after it, is
-- its rollback
abbrev pub CommittedStaysCommitted : Type 0
CommittedStaysCommitted = (S : Scenario) (c : ℕ) (pool : List PoolNote) (store : List StoreNote) → BeginsFresh store
    → (first rest : List Line) (t n : ℕ) → (state_of (script S c pool store)).lines ≡ first ++ Line.Commit t n ∷ rest → list_any (is_rollback t) (first ++ rest) ≡ false

-- a script that is done and leaves no note unread has given back what it took and ended what it began
abbrev pub GivesAllBack : Type 0
GivesAllBack = (S : Scenario) (c : ℕ) (pool : List PoolNote) (store : List StoreNote) (end : State)
    → script S c pool store ≡ Stops Want.Done end → end.pool ≡ [] → end.store ≡ []
    → (TakesFresh pool → out pool ≡ []) × (BeginsFresh store → live store ≡ [])

-- what a play leaves is a faithful run, where the histories are legal, each script has read all of its notes, and each is
-- done
abbrev pub DoneIsFaithful : Type 0
DoneIsFaithful = (S : Scenario) (so_far : Turns)
    → PoolLegal (length S.clients) S.settings.pool so_far.pool → StoreLegal (length S.clients) (store_facts S) so_far.store
    → ((c : ℕ) → c < length S.clients → ReadsAll S c (pool_notes_of so_far.pool c) (store_notes_of so_far.store c))
    → ((c : ℕ) → c < length S.clients → IsClientDone S so_far c)
    → Faithful S (outcome_of S so_far)

-- what a schedule plays in a valid scenario is a faithful run
abbrev pub PlayedIsFaithful : Type 0
PlayedIsFaithful = (S : Scenario) → IsInOrder S → (schedule : List ℕ) → Faithful S (played S schedule)
