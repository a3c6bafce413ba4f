-- How each line, each change of the context and each shared call moves the ledger.
use Rattle.std.proofs.Common.{◌≡◌, ℕ, ◌+◌, ◌==◌, ◌∷◌, ◌++◌, [], Bool, true, false, List, Option, Some, None, refl, sym, ap, ◌∙◌, subst, eq-eqb, eqb-true}
use Rattle.std.specs.Prelude.{⊤, drop, slice_get}
use Rattle.std.specs.Option.{option_map}
use Rattle.std.proofs.lemmas.Bool.{false≢true, or_left}
use Rattle.std.proofs.lemmas.Option.{same_Some}
use Rattle.stx_scenario.specs.declared.numbers.ClassNo.{ClassNo}
use Rattle.stx_scenario.specs.declared.scenario.Scenario.{Scenario}
use Rattle.stx_base.specs.declared.call.Want.{Want}
use Rattle.stx_base.specs.declared.history.Access.{Access}
use Rattle.stx_base.specs.declared.history.Answer.{Answer}
use Rattle.stx_base.specs.declared.history.PoolNote.{PoolNote}
use Rattle.stx_base.specs.declared.history.StoreNote.{StoreNote}
use Rattle.stx_base.specs.declared.history.Note.{Note}
use Rattle.stx_base.specs.declared.line.Line.{Line}
use Rattle.stx_base.specs.declared.line.Label.{Label}
use Rattle.stx_base.specs.Notes.{is_answer, pool_line, store_line}
use Rattle.stx_base.specs.Pools.{contains}
use Rattle.stx_base.specs.Stores.{begun, ends, pointed, can_go_back, is_pointed}
use Rattle.stx_model.specs.Brackets.{OpenCall}
use Rattle.stx_model.specs.Contexts.{Context, Live, registered, is_active}
use Rattle.stx_model.specs.Meanings.{State, Result, Over, Stops, Breaks, Meaning, finally, and_then, say, hear, ask, answered, on_take, on_begin, on_access}
use Rattle.stx_model.specs.Scopes.{live_in}
use Rattle.stx_model.proofs.Ledgers.{tallied, tally, tally_push, Bound, bound, Ledger, carried, opened, PoolRead, reads_empty, reads_taken, reads_given, is_end, IsSound, StoreRead, silent, reads_other, reads_begin, begin_unpointed, reads_end}

-- a scenario, the notes of one of its clients, and a label that is watched
pub record World : Type 0 where
  pub scenario : Scenario
  pub pool : List PoolNote
  pub store : List StoreNote
  pub label : Label

abbrev pub Sound : World → Type 0
Sound W = IsSound W.scenario W.store

-- with the savepoints as this note leaves them
abbrev pub noted : StoreNote → Ledger → Ledger
noted n L = record L { points = λ u. pointed u (L.points u) n }

-- ---- the notes of savepoints

-- the one note that answers a call on a savepoint
abbrev point_note : Want → Option StoreNote
point_note (Want.Point t) = Some (StoreNote.Point t)
point_note (Want.BackTo t) = Some (StoreNote.BackTo t)
point_note (Want.Release t) = Some (StoreNote.Release t)
point_note _ = None

only_note : (w : Want) (made n : StoreNote) → point_note w ≡ Some made → is_answer w (Note.Store n) ≡ true → made ≡ n
only_note (Want.Point t) made (StoreNote.Point u) is_made is = let same = eqb-true u t is in cc
only_note (Want.BackTo t) made (StoreNote.BackTo u) is_made is = let same = eqb-true u t is in cc
only_note (Want.Release t) made (StoreNote.Release u) is_made is = let same = eqb-true u t is in cc
only_note (Want.Point t) made n is_made is = absurd (false≢true is)
only_note (Want.BackTo t) made n is_made is = absurd (false≢true is)
only_note (Want.Release t) made n is_made is = absurd (false≢true is)
only_note _ made n is_made is = cc

-- where no savepoint is open, a return and a release leave none
none_opened : (t u : ℕ) (b : Bool) → (t == u) ≡ b → (pointed u [] (StoreNote.BackTo t) ≡ []) × (pointed u [] (StoreNote.Release t) ≡ [])
none_opened t u true e = (rw e refl, rw e refl)
none_opened t u false e = (rw e refl, rw e refl)

-- ---- what may be asked for

abbrev pub alive_in : List ℕ → Option Bound → Type 0
alive_in transactions None = ⊤
alive_in transactions (Some b) = contains transactions b.transaction ≡ true

-- the transaction of the context lives, if it has one
abbrev pub IsAlive : Ledger → Type 0
IsAlive L = alive_in L.transactions L.tx

pub record IsSettled (L : Ledger) : Type 0 where
  pub connections : L.connections ≡ []
  pub transactions : L.transactions ≡ []
  pub unbound : L.unbound ≡ []
  pub calls : L.calls ≡ []
  pub owed : L.owed ≡ 0
  pub active : L.active ≡ false

-- the calls that may be asked for with this outstanding
abbrev pub Allows : World → Ledger → Want → Type 0
Allows W L Want.Take = ⊤
Allows W L (Want.Give c) = contains L.connections c ≡ true
Allows W L Want.Begin = ⊤
Allows W L (Want.Access t a) = Sound W → contains L.transactions t ≡ true
Allows W L (Want.Point t) = Sound W → contains L.transactions t ≡ true
Allows W L (Want.BackTo t) = Sound W → (contains L.transactions t ≡ true) × (can_go_back (L.points t) ≡ true)
Allows W L (Want.Release t) = Sound W → (contains L.transactions t ≡ true) × (is_pointed (L.points t) ≡ true)
Allows W L (Want.Commit t) = Sound W → (contains L.transactions t ≡ true) × (L.points t ≡ [])
Allows W L (Want.Rollback t) = Sound W → (contains L.transactions t ≡ true) × (L.points t ≡ [])
Allows W L (Want.Auto a) = ⊤
Allows W L Want.Done = IsSettled L
Allows W L Want.Failed = ⊥

module _ (W : World) where
  -- the ledger is just what the lines, the context and the notes have outstanding
  pub record Holds (L : Ledger) (lines : List Line) (context : Context) (pool_left : List PoolNote) (store_left : List StoreNote) : Type 0 where
    pub tallies : tally W.label lines ≡ opened W.label L context
    pub tx : bound context.tx ≡ L.tx
    pub active : is_active context ≡ L.active
    pub pools : PoolRead W.pool L.connections pool_left
    pub stores : StoreRead W.scenario W.store L.transactions L.points lines store_left

  abbrev pub AtIn : Ledger → Context → State → Type 0
  AtIn L context st = Holds L st.lines context st.pool st.store

  abbrev pub At : Ledger → State → Type 0
  At L st = AtIn L st.context st

  pub record StopsAt (w : Want) (st : State) : Type 0 where
    pub ledger : Ledger
    pub holds : At ledger st
    pub allowed : Allows W ledger w

  pub record BreaksAt (st : State) : Type 0 where
    pub ledger : Ledger
    pub holds : At ledger st

  -- it ends with this outstanding, stops at a call that is allowed, or breaks
  abbrev pub Ends : Ledger → Result → Type 0
  Ends L (Over x st) = At L st
  Ends L (Stops w st) = StopsAt w st
  Ends L (Breaks st) = BreaksAt st

  -- with this outstanding before and after
  abbrev pub Keeps : Ledger → Meaning → Type 0
  Keeps L meaning = (st : State) → At L st → Ends L (meaning st)

  -- ---- joining pieces

  pub finally_ends : (M E : Ledger) (r : Result) (next : Option ClassNo → Meaning) → Ends M r → ((x : Option ClassNo) (st : State) → At M st → Ends E (next x st)) → Ends E (finally r next)
  finally_ends M E (Over x st) next first then = then x st first
  finally_ends M E (Stops w st) next first then = first
  finally_ends M E (Breaks st) next first then = first

  pub and_then_ends : (E : Ledger) (r : Result) (next : Meaning) → Ends E r → Keeps E next → Ends E (and_then r next)
  and_then_ends E (Over None st) next first then = then st first
  and_then_ends E (Over (Some x) st) next first then = first
  and_then_ends E (Stops w st) next first then = first
  and_then_ends E (Breaks st) next first then = first

  pub either_ends : (E : Ledger) (b : Bool) (first second : Result) → (b ≡ true → Ends E first) → (b ≡ false → Ends E second) → Ends E (elim b [ true ↦ first | false ↦ second ])
  either_ends E true first second h i = h refl
  either_ends E false first second h i = i refl

  -- with the live transaction, of which what is said of the ledger's holds
  pub live_in_ends : (P : Bound → Type 0) (E : Ledger) (b : Bound) (tx : Option Live) (next : Live → Meaning) (st : State) → bound tx ≡ Some b → P b
      → ((live : Live) → P (record { connection = live.connection; transaction = live.transaction }) → Ends E (next live st)) → Ends E (live_in tx next st)
  live_in_ends P E b (Some live) next st is may then = then live (subst P (sym (same_Some _ b is)) may)
  live_in_ends P E b None next st is may then = absurd cc

  -- ---- lines and contexts

  -- a line that opens or closes no more than a call or a binding, and changes what is owed, by itself or by the registrations
  pub moved : (line : Line) (L : Ledger) (unbound : List ℕ) (calls : List OpenCall) (owed : ℕ) (old new : Context) (st : State) → ((u : ℕ) → is_end u line ≡ false)
      → new.tx ≡ old.tx → is_active new ≡ is_active old
      → tallied W.label (opened W.label L old) line ≡ opened W.label (record L { unbound = unbound; calls = calls; owed = owed }) new
      → AtIn L old st → AtIn (record L { unbound = unbound; calls = calls; owed = owed }) new (say line st)
  moved line L unbound calls owed old new st ends_none same_tx same_active step h = record {
    tallies = tally_push W.label st.lines line ∙ ap (λ t. tallied W.label t line) h.tallies ∙ step;
    tx = ap bound same_tx ∙ h.tx;
    active = same_active ∙ h.active;
    pools = h.pools;
    stores = silent W.scenario W.store L.transactions L.points st.lines st.store line ends_none h.stores;
  }

  pub said : (line : Line) (L : Ledger) (unbound : List ℕ) (calls : List OpenCall) (context : Context) (st : State) → ((u : ℕ) → is_end u line ≡ false)
      → tallied W.label (opened W.label L context) line ≡ opened W.label (record L { unbound = unbound; calls = calls }) context
      → AtIn L context st → AtIn (record L { unbound = unbound; calls = calls }) context (say line st)
  said line L unbound calls context st ends_none step h = moved line L unbound calls L.owed context context st ends_none refl refl step h

  pub in_context : (L : Ledger) (owed : ℕ) (tx : Option Bound) (active : Bool) (old new : Context) (st : State)
      → L.owed + carried W.label (registered old.syncs) ≡ owed + carried W.label (registered new.syncs) → bound new.tx ≡ tx → is_active new ≡ active
      → AtIn L old st → AtIn (record L { owed = owed; tx = tx; active = active }) new st
  in_context L owed tx active old new st same tx_is active_is h = record {
    tallies = h.tallies
        ∙ ap (λ n. record { connections = Some L.connections; transactions = Some L.transactions; bindings = Some L.unbound; calls = Some L.calls; owed = Some n }) same;
    tx = tx_is;
    active = active_is;
    pools = h.pools;
    stores = h.stores;
  }

  -- savepoints that are the same, one by one
  pub same_points : (L : Ledger) (points : ℕ → List Bool) (context : Context) (st : State) → ((u : ℕ) → L.points u ≡ points u) → AtIn L context st → AtIn (record L { points = points }) context st
  same_points L points context st same h = record {
    tallies = h.tallies;
    tx = h.tx;
    active = h.active;
    pools = h.pools;
    stores = record {
      read = h.stores.read;
      is = h.stores.is;
      points_are = λ u. h.stores.points_are u ∙ same u;
      lives = h.stores.lives;
      apart = h.stores.apart;
      unended = h.stores.unended;
      unpointed = λ sound u absent. sym (same u) ∙ h.stores.unpointed sound u absent;
      said = h.stores.said;
      once = h.stores.once;
    };
  }

  -- ---- notes

  hears_pool : (n : PoolNote) (L : Ledger) (cs : List ℕ) (context : Context) (st : State) → ((u : ℕ) → is_end u (pool_line n) ≡ false)
      → tallied W.label (opened W.label L context) (pool_line n) ≡ opened W.label (record L { connections = cs }) context → PoolRead W.pool cs (drop 1 st.pool)
      → AtIn L context st → AtIn (record L { connections = cs }) context (hear (Note.Pool n) st)
  hears_pool n L cs context st ends_none step pools h = record {
    tallies = tally_push W.label st.lines (pool_line n) ∙ ap (λ t. tallied W.label t (pool_line n)) h.tallies ∙ step;
    tx = h.tx;
    active = h.active;
    pools = pools;
    stores = silent W.scenario W.store L.transactions L.points st.lines st.store (pool_line n) ends_none h.stores;
  }

  hears_store : (n : StoreNote) (L : Ledger) (ts : List ℕ) (points : ℕ → List Bool) (context : Context) (st : State)
      → tallied W.label (opened W.label L context) (store_line n) ≡ opened W.label (record L { transactions = ts; points = points }) context
      → StoreRead W.scenario W.store ts points (st.lines ++ store_line n ∷ []) (drop 1 st.store)
      → AtIn L context st → AtIn (record L { transactions = ts; points = points }) context (hear (Note.Store n) st)
  hears_store n L ts points context st step stores h = record {
    tallies = tally_push W.label st.lines (store_line n) ∙ ap (λ t. tallied W.label t (store_line n)) h.tallies ∙ step;
    tx = h.tx;
    active = h.active;
    pools = h.pools;
    stores = stores;
  }

  -- ---- calls

  -- the first of the notes that are left answers the call, or none is left, or it is of something else
  asked : {N : Type 0} (note : N → Note) (E : Ledger) (w : Want) (next : Note → Meaning) (st : State) (left : List N) → StopsAt w st
      → ((n : N) → left ≡ n ∷ drop 1 left → is_answer w (note n) ≡ true → Ends E (next (note n) (hear (note n) st)))
      → Ends E (answered w next st (option_map note (slice_get left 0)))
  asked note E w next st [] stops goes = stops
  asked note E w next st (n ∷ ns) stops goes =
      either_ends E (is_answer w (note n)) (next (note n) (hear (note n) st)) (Breaks st) (goes n refl) (λ _. record { ledger = stops.ledger; holds = stops.holds })

  module _ (E L : Ledger) (st : State) (h : At L st) where
    stops : (w : Want) → Allows W L w → StopsAt w st
    stops w allowed = record { ledger = L; holds = h; allowed = allowed }

    pub ask_take : (next : Option ℕ → Meaning) → ((c : ℕ) (after : State) → At (record L { connections = c ∷ L.connections }) after → Ends E (next (Some c) after))
        → ((after : State) → At L after → Ends E (next None after)) → Ends E (ask Want.Take (on_take next) st)
    unfolding ask
    ask_take next some none = asked Note.Pool E Want.Take (on_take next) st st.pool (stops Want.Take tt) by_note
      where
        by_note : (n : PoolNote) → st.pool ≡ n ∷ drop 1 st.pool → is_answer Want.Take (Note.Pool n) ≡ true → Ends E (on_take next (Note.Pool n) (hear (Note.Pool n) st))
        by_note (PoolNote.Taken c) first is =
            some c _ (hears_pool (PoolNote.Taken c) L (c ∷ L.connections) st.context st (λ u. refl) refl (reads_taken W.pool L.connections st.pool c first h.pools) h)
        by_note PoolNote.Empty first is = none _ (hears_pool PoolNote.Empty L L.connections st.context st (λ u. refl) refl (reads_empty W.pool L.connections st.pool first h.pools) h)
        by_note (PoolNote.Given c) first is = absurd (false≢true is)

    pub ask_give : (c : ℕ) (cs : List ℕ) (next : Meaning) → L.connections ≡ c ∷ cs → ((after : State) → At (record L { connections = cs }) after → Ends E (next after))
        → Ends E (ask (Want.Give c) (λ _. next) st)
    unfolding ask
    ask_give c cs next newest then =
        asked Note.Pool E (Want.Give c) (λ _. next) st st.pool (stops (Want.Give c) (ap (λ ns. contains ns c) newest ∙ or_left (c == c) (contains cs c) (eq-eqb c c refl))) by_note
      where
        by_note : (n : PoolNote) → st.pool ≡ n ∷ drop 1 st.pool → is_answer (Want.Give c) (Note.Pool n) ≡ true → Ends E (next (hear (Note.Pool n) st))
        by_note (PoolNote.Given d) first is =
            let newest_d : L.connections ≡ d ∷ cs = newest ∙ ap (λ n. n ∷ cs) (sym (eqb-true d c is)) in
            then _ (hears_pool (PoolNote.Given d) L cs st.context st (λ u. refl) (rw (newest_d, eq-eqb d d refl) refl)
            (reads_given W.pool cs st.pool d first (subst (λ ns. PoolRead W.pool ns st.pool) newest_d h.pools)) h)
        by_note (PoolNote.Taken d) first is = absurd (false≢true is)
        by_note PoolNote.Empty first is = absurd (false≢true is)

    pub ask_begin : (next : ℕ → Meaning) → ((t : ℕ) (after : State) → (Sound W → L.points t ≡ []) → At (record L { transactions = t ∷ L.transactions }) after → Ends E (next t after))
        → Ends E (ask Want.Begin (on_begin next) st)
    unfolding ask
    ask_begin next then = asked Note.Store E Want.Begin (on_begin next) st st.store (stops Want.Begin tt) by_note
      where
        by_note : (n : StoreNote) → st.store ≡ n ∷ drop 1 st.store → is_answer Want.Begin (Note.Store n) ≡ true → Ends E (on_begin next (Note.Store n) (hear (Note.Store n) st))
        by_note (StoreNote.Begin t) first is =
            then t _ (begin_unpointed W.scenario W.store L.transactions L.points st.lines st.store t first h.stores)
            (hears_store (StoreNote.Begin t) L (t ∷ L.transactions) L.points st.context st refl
            (reads_begin W.scenario W.store L.transactions L.points st.lines st.store t first h.stores) h)
        by_note n first is = absurd (false≢true is)

    -- a note that changes no transaction
    other : (n : StoreNote) → begun (n ∷ []) ≡ [] → ((u : ℕ) → ends u n ≡ false) → ((u : ℕ) → is_end u (store_line n) ≡ false)
        → tallied W.label (opened W.label L st.context) (store_line n) ≡ opened W.label L st.context → st.store ≡ n ∷ drop 1 st.store
        → (Sound W → (u : ℕ) → L.points u ≡ [] → contains L.transactions u ≡ false → pointed u [] n ≡ [])
        → At (noted n L) (hear (Note.Store n) st)
    other n nothing ends_none line_ends_none step first kept =
        hears_store n L L.transactions (λ u. pointed u (L.points u) n) st.context st step
        (reads_other W.scenario W.store L.transactions L.points st.lines st.store n nothing ends_none line_ends_none first kept h.stores) h

    pub ask_access : (t : ℕ) (a : Access) (next : Answer → Meaning) → (Sound W → contains L.transactions t ≡ true) → ((r : Answer) (after : State) → At L after → Ends E (next r after))
        → Ends E (ask (Want.Access t a) (on_access next) st)
    unfolding ask
    ask_access t a next lives then = asked Note.Store E (Want.Access t a) (on_access next) st st.store (stops (Want.Access t a) lives) by_note
      where
        by_note : (n : StoreNote) → st.store ≡ n ∷ drop 1 st.store → is_answer (Want.Access t a) (Note.Store n) ≡ true → Ends E (on_access next (Note.Store n) (hear (Note.Store n) st))
        by_note (StoreNote.Access u b r) first is = then r _ (other (StoreNote.Access u b r) refl (λ v. refl) (λ v. refl) refl first (λ sound v none dead. refl))
        by_note n first is = absurd (false≢true is)

    pub ask_auto : (a : Access) (next : Answer → Meaning) → ((r : Answer) (after : State) → At L after → Ends E (next r after)) → Ends E (ask (Want.Auto a) (on_access next) st)
    unfolding ask
    ask_auto a next then = asked Note.Store E (Want.Auto a) (on_access next) st st.store (stops (Want.Auto a) tt) by_note
      where
        by_note : (n : StoreNote) → st.store ≡ n ∷ drop 1 st.store → is_answer (Want.Auto a) (Note.Store n) ≡ true → Ends E (on_access next (Note.Store n) (hear (Note.Store n) st))
        by_note (StoreNote.Auto b r) first is = then r _ (other (StoreNote.Auto b r) refl (λ v. refl) (λ v. refl) refl first (λ sound v none dead. refl))
        by_note n first is = absurd (false≢true is)

    -- the calls on savepoints, each of which one note alone answers
    at_point : (w : Want) (made : StoreNote) (next : Meaning) → point_note w ≡ Some made → Allows W L w
        → (Sound W → (u : ℕ) → contains L.transactions u ≡ false → pointed u [] made ≡ [])
        → ((after : State) → At (noted made L) after → Ends E (next after)) → Ends E (answered w (λ _. next) st (option_map Note.Store (slice_get st.store 0)))
    at_point w made next is_made allowed kept then = asked Note.Store E w (λ _. next) st st.store (stops w allowed) by_note
      where
        moved : (w : Want) (made : StoreNote) → point_note w ≡ Some made → st.store ≡ made ∷ drop 1 st.store
            → (Sound W → (u : ℕ) → contains L.transactions u ≡ false → pointed u [] made ≡ []) → At (noted made L) (hear (Note.Store made) st)
        moved (Want.Point t) (StoreNote.Point u) is first kept = other (StoreNote.Point u) refl (λ u. refl) (λ u. refl) refl first (λ sound u none dead. kept sound u dead)
        moved (Want.BackTo t) (StoreNote.BackTo u) is first kept = other (StoreNote.BackTo u) refl (λ u. refl) (λ u. refl) refl first (λ sound u none dead. kept sound u dead)
        moved (Want.Release t) (StoreNote.Release u) is first kept = other (StoreNote.Release u) refl (λ u. refl) (λ u. refl) refl first (λ sound u none dead. kept sound u dead)
        moved _ _ is first kept = cc

        by_note : (n : StoreNote) → st.store ≡ n ∷ drop 1 st.store → is_answer w (Note.Store n) ≡ true → Ends E (next (hear (Note.Store n) st))
        by_note n first is =
            let same : made ≡ n = only_note w made n is_made is in
            subst (λ m. Ends E (next (hear (Note.Store m) st))) same (then _ (moved w made is_made (subst (λ m. st.store ≡ m ∷ drop 1 st.store) (sym same) first) kept))

    pub ask_point : (t : ℕ) (next : Meaning) → (Sound W → contains L.transactions t ≡ true)
        → ((after : State) → At (noted (StoreNote.Point t) L) after → Ends E (next after)) → Ends E (ask (Want.Point t) (λ _. next) st)
    unfolding ask
    ask_point t next lives then = at_point (Want.Point t) (StoreNote.Point t) next refl lives (λ sound u dead. kept sound u dead (t == u) refl) then
      where
        kept : Sound W → (u : ℕ) → contains L.transactions u ≡ false → (b : Bool) → (t == u) ≡ b → pointed u [] (StoreNote.Point t) ≡ []
        kept sound u dead false e = rw e refl
        kept sound u dead true e = absurd (false≢true (sym dead ∙ ap (contains L.transactions) (sym (eqb-true t u e)) ∙ lives sound))

    pub ask_back : (t : ℕ) (next : Meaning) → (Sound W → (contains L.transactions t ≡ true) × (can_go_back (L.points t) ≡ true))
        → ((after : State) → At (noted (StoreNote.BackTo t) L) after → Ends E (next after)) → Ends E (ask (Want.BackTo t) (λ _. next) st)
    unfolding ask
    ask_back t next may then = at_point (Want.BackTo t) (StoreNote.BackTo t) next refl may (λ sound u dead. (none_opened t u (t == u) refl).0) then

    pub ask_release : (t : ℕ) (next : Meaning) → (Sound W → (contains L.transactions t ≡ true) × (is_pointed (L.points t) ≡ true))
        → ((after : State) → At (noted (StoreNote.Release t) L) after → Ends E (next after)) → Ends E (ask (Want.Release t) (λ _. next) st)
    unfolding ask
    ask_release t next may then = at_point (Want.Release t) (StoreNote.Release t) next refl may (λ sound u dead. (none_opened t u (t == u) refl).1) then

    module _ (t : ℕ) (ts : List ℕ) (next : Meaning) (newest : L.transactions ≡ t ∷ ts) (unpointed : Sound W → L.points t ≡ [])
        (then : (after : State) → At (record L { transactions = ts }) after → Ends E (next after)) where
      may_end : Sound W → (contains L.transactions t ≡ true) × (L.points t ≡ [])
      may_end sound = (ap (λ ns. contains ns t) newest ∙ or_left (t == t) (contains ts t) (eq-eqb t t refl), unpointed sound)

      newest_as : (v : ℕ) → (v == t) ≡ true → L.transactions ≡ v ∷ ts
      newest_as v is = newest ∙ ap (λ n. n ∷ ts) (sym (eqb-true v t is))

      stores_as : (v : ℕ) → (v == t) ≡ true → StoreRead W.scenario W.store (v ∷ ts) L.points st.lines st.store
      stores_as v is = subst (λ ns. StoreRead W.scenario W.store ns L.points st.lines st.store) (newest_as v is) h.stores

      pub ask_commit : Ends E (ask (Want.Commit t) (λ _. next) st)
      unfolding ask
      ask_commit = asked Note.Store E (Want.Commit t) (λ _. next) st st.store (stops (Want.Commit t) may_end) by_note
        where
          by_note : (n : StoreNote) → st.store ≡ n ∷ drop 1 st.store → is_answer (Want.Commit t) (Note.Store n) ≡ true → Ends E (next (hear (Note.Store n) st))
          by_note (StoreNote.Commit v k) first is =
              then _ (hears_store (StoreNote.Commit v k) L ts L.points st.context st (rw (newest_as v is, eq-eqb v v refl) refl)
              (reads_end W.scenario W.store v ts L.points st.lines st.store (StoreNote.Commit v k) refl (λ u. refl) (λ u. refl) (λ u. refl) first (stores_as v is)) h)
          by_note n first is = absurd (false≢true is)

      pub ask_rollback : Ends E (ask (Want.Rollback t) (λ _. next) st)
      unfolding ask
      ask_rollback = asked Note.Store E (Want.Rollback t) (λ _. next) st st.store (stops (Want.Rollback t) may_end) by_note
        where
          by_note : (n : StoreNote) → st.store ≡ n ∷ drop 1 st.store → is_answer (Want.Rollback t) (Note.Store n) ≡ true → Ends E (next (hear (Note.Store n) st))
          by_note (StoreNote.Rollback v) first is =
              then _ (hears_store (StoreNote.Rollback v) L ts L.points st.context st (rw (newest_as v is, eq-eqb v v refl) refl)
              (reads_end W.scenario W.store v ts L.points st.lines st.store (StoreNote.Rollback v) refl (λ u. refl) (λ u. refl) (λ u. refl) first (stores_as v is)) h)
          by_note n first is = absurd (false≢true is)
