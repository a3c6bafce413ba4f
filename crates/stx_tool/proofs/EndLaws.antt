-- What was responded and written gives the end of a top call.
use Rattle.std.proofs.Common.{◌≡◌, ◌⊎◌, ℕ, Bool, true, false, IsTrue, List, Option, Some, None, Result, Ok, Err, is_some, refl, sym, ap, subst, ◌∙◌, inl, inr, arith}
use Rattle.std.proofs.lemmas.Bool.{false≢true, cases_eq}
use Rattle.stx_scenario.specs.Memory.{no_memory}
use Rattle.stx_base.specs.declared.outcome.Report.{Report}
use Rattle.stx_base.specs.declared.outcome.ToolEnd.{ToolEnd}
use Rattle.stx_outside.specs.Streams.{Rose, GainsEnd, GainsPrefix}
use Rattle.stx_tool.specs.declared.early.Early.{Early}
use Rattle.stx_tool.specs.declared.response.Response.{Response}
use Rattle.stx_tool.specs.Early.{status_of}
use Rattle.stx_tool.specs.Ends.{is_status, is_early, is_input_needed, IsAnswered, IsDone, IsRefused, IsCutShort, IsAccepted, IsEnd}
use Rattle.stx_tool.specs.Responses.{IsResponded, IsTold, IsWritten}
use Rattle.stx_tool.proofs.InputLaws.{not_refused, not_too_long}

-- ---- statuses

only_usage : (early : Early) → status_of early ≡ 2 → early ≡ Early.Usage
only_usage Early.Usage is = refl
only_usage Early.ReadFault is = absurd (omega (arith, is))
only_usage Early.TooLong is = absurd (omega (arith, is))
only_usage (Early.NoMemory refused) is = absurd (omega (arith, is))

only_read_fault : (early : Early) → status_of early ≡ 3 → early ≡ Early.ReadFault
only_read_fault Early.ReadFault is = refl
only_read_fault Early.Usage is = absurd (omega (arith, is))
only_read_fault Early.TooLong is = absurd (omega (arith, is))
only_read_fault (Early.NoMemory refused) is = absurd (omega (arith, is))

only_too_long : (early : Early) → status_of early ≡ 7 → early ≡ Early.TooLong
only_too_long Early.TooLong is = refl
only_too_long Early.Usage is = absurd (omega (arith, is))
only_too_long Early.ReadFault is = absurd (omega (arith, is))
only_too_long (Early.NoMemory refused) is = absurd (omega (arith, is))

early_status : (early : Early) → IsTrue (is_status (status_of early))
early_status Early.Usage = refl
early_status Early.ReadFault = refl
early_status Early.TooLong = refl
early_status (Early.NoMemory refused) = refl

early_early : (early : Early) → IsTrue (is_early (status_of early))
early_early Early.Usage = refl
early_early Early.ReadFault = refl
early_early Early.TooLong = refl
early_early (Early.NoMemory refused) = refl

-- a status after a write is none of an early end
not_late : (status late : ℕ) → is_early late ≡ false → IsTrue (is_early status) → status ≡ late → ⊥
not_late status late after early same = false≢true (sym after ∙ sym (ap is_early same) ∙ early)

abbrev ended : Early → Result Response Early
ended early = Err early

unstated_status : (early : Early) → (ended early ≡ ended Early.Usage) ⊎ (ended early ≡ ended (Early.NoMemory no_memory)) → (status_of early ≡ 2) ⊎ (status_of early ≡ 6)
unstated_status Early.Usage which = inl refl
unstated_status (Early.NoMemory refused) which = inr refl
unstated_status Early.ReadFault which = elim which [
  | inl same ↦ absurd cc
  | inr same ↦ absurd cc
]
unstated_status Early.TooLong which = elim which [
  | inl same ↦ absurd cc
  | inr same ↦ absurd cc
]

as_early : (early other : Early) → ended early ≡ ended other → early ≡ other
as_early early other same = cc

-- a text is written with its status, or with 5
told_status : (status : ℕ) (report : Option Report) (text : List ℕ) (taken_before taken_now : Option (List ℕ)) (before now : ℕ) (end : ToolEnd)
    → IsTold status report text taken_before taken_now before now end → (end.status ≡ status) ⊎ (end.status ≡ 5)
told_status status report text taken_before taken_now before now end told = elim (cases_eq end.status status) [
  | inl same ↦ inl same
  | inr other ↦ inr (told.other other)
]

answered_so : {J : Type 0} (needs_input : J → Bool) (stated : Option J) (left_before left_now : Option (List ℕ)) (A B : J → List ℕ → Type 0)
    → IsAnswered needs_input stated left_before left_now A → ((job : J) (bytes : List ℕ) → A job bytes → B job bytes) → IsAnswered needs_input stated left_before left_now B
answered_so needs_input stated left_before left_now A B answered so = record {
  job = answered.job;
  stated_so = answered.stated_so;
  bytes = answered.bytes;
  read = answered.read;
  answered = so answered.job answered.bytes answered.answered;
}

module _ {J : Type 0} (needs_input : J → Bool) (Fulfils : J → List ℕ → Option Report → List ℕ → Type 0) (refusal : J → List ℕ → Option (List ℕ)) (stated : Option J) (Untouched : Type 0) (left_before left_now : Option (List ℕ)) (source_before source_now : ℕ) (taken_before taken_now : Option (List ℕ)) (sink_before sink_now : ℕ) where
  abbrev Responded : Result Response Early → Type 0
  Responded = IsResponded needs_input Fulfils refusal stated Untouched left_before left_now source_before source_now

  abbrev Told : ℕ → Option Report → List ℕ → ToolEnd → Type 0
  Told status report text = IsTold status report text taken_before taken_now sink_before sink_now

  abbrev Answered : (J → List ℕ → Type 0) → Type 0
  Answered = IsAnswered needs_input stated left_before left_now

  abbrev End : ToolEnd → Type 0
  End = IsEnd needs_input Fulfils refusal stated Untouched left_before left_now source_before source_now taken_before taken_now sink_before sink_now

  -- ---- an early end

  -- what is accepted has an early end for want of memory alone
  accepted_early : (early : Early) → Responded (Err early) → IsAccepted needs_input stated refusal left_before → ¬ (Rose source_before source_now) → (status_of early ≡ 0) ⊎ (status_of early ≡ 6)
  accepted_early Early.Usage responded accepted quiet =
      absurd (false≢true (sym (responded.usage refl) ∙ ap is_some accepted.stated_so))
  accepted_early Early.ReadFault responded accepted quiet = absurd (quiet (responded.read_fault refl))
  accepted_early Early.TooLong responded accepted quiet =
      let needed : needs_input accepted.job ≡ true = sym (ap (is_input_needed needs_input) accepted.stated_so) ∙ responded.needed refl in
      absurd (not_too_long needs_input stated refusal left_before left_now accepted accepted.job accepted.stated_so needed (responded.too_long refl))
  accepted_early (Early.NoMemory refused) responded accepted quiet = inr refl

  early_end : (early : Early) → Responded (Err early) → taken_now ≡ taken_before → End (record { status = status_of early; report = None })
  early_end early responded same =
      let early_at : IsTrue (is_early (status_of early)) = early_early early in
      record {
        status = early_status early;
        usage = λ two. responded.usage (ap ended (only_usage early two));
        unstated = λ none. unstated_status early (responded.unstated none);
        unread = responded.unread;
        read_fault = λ three. responded.read_fault (ap ended (only_read_fault early three));
        read_well = λ other. responded.read_well (λ is. other (ap status_of (as_early early Early.ReadFault is)));
        refused = λ four. absurd (not_late (status_of early) 4 refl early_at four);
        write_fault = λ five. absurd (not_late (status_of early) 5 refl early_at five);
        cut_short = λ five. absurd (not_late (status_of early) 5 refl early_at five);
        too_long = λ seven. responded.too_long (ap ended (only_too_long early seven));
        no_longer = λ other. responded.no_longer (λ is. other (ap status_of (as_early early Early.TooLong is)));
        needed = λ seven. responded.needed (ap ended (only_too_long early seven));
        nothing = λ _. same;
        unreported = λ _. refl;
        complete = λ accepted quiet _. accepted_early early responded accepted quiet;
      }

  -- ---- a text

  told_end : (response : Response) (status : ℕ) (report : Option Report) (text : List ℕ) (end : ToolEnd) → is_early status ≡ false → is_status status ≡ true
      → Responded (Ok response) → Told status report text end
      → (end.status ≡ 4 → Answered (IsRefused refusal (GainsEnd taken_before taken_now) end.report))
      → (end.status ≡ 5 → Answered (IsCutShort Fulfils refusal (GainsPrefix taken_before taken_now) end.report))
      → (IsAccepted needs_input stated refusal left_before → end.status ≡ status → (end.status ≡ 0) ⊎ (end.status ≡ 6))
      → End end
  told_end response status report text end late known responded told refused cut_short complete =
      let one = told_status status report text taken_before taken_now sink_before sink_now end told in
      let not_early : IsTrue (is_early end.status) → ⊥ = λ early. elim one [
        | inl same ↦ not_late end.status status late early same
        | inr five ↦ not_late end.status 5 refl early five
      ] in
      record {
        status = elim one [
          | inl same ↦ ap is_status same ∙ known
          | inr five ↦ ap is_status five
        ];
        usage = λ two. absurd (not_early (ap is_early two));
        unstated = λ none. elim (responded.unstated none) [
          | inl same ↦ absurd cc
          | inr same ↦ absurd cc
        ];
        unread = responded.unread;
        read_fault = λ three. absurd (not_early (ap is_early three));
        read_well = λ _. responded.read_well (λ is. cc);
        refused = refused;
        write_fault = told.fault;
        cut_short = cut_short;
        too_long = λ seven. absurd (not_early (ap is_early seven));
        no_longer = λ _. responded.no_longer (λ is. cc);
        needed = λ seven. absurd (not_early (ap is_early seven));
        nothing = λ early. absurd (not_early early);
        unreported = λ early. absurd (not_early early);
        complete = λ accepted _ quiet. elim one [
          | inl same ↦ complete accepted same
          | inr five ↦ absurd (quiet (told.fault five))
        ];
      }

  done_so : (report : Option Report) (text : List ℕ) (end : ToolEnd) (Wrote : List ℕ → Type 0) → Told 0 report text end → Wrote text
      → Answered (λ job bytes. Fulfils job bytes report text) → Answered (IsDone Fulfils Wrote end.report)
  done_so report text end Wrote told written answered =
      answered_so needs_input stated left_before left_now (λ job bytes. Fulfils job bytes report text) (IsDone Fulfils Wrote end.report) answered
      (λ job bytes done. record { text = text; done = subst (λ r. Fulfils job bytes r text) (sym told.reported) done; written = written })

  refused_so : (text : List ℕ) (end : ToolEnd) (Wrote : List ℕ → Type 0) → Told 4 None text end → Wrote text
      → Answered (λ job bytes. refusal job bytes ≡ Some text) → Answered (IsRefused refusal Wrote end.report)
  refused_so text end Wrote told written answered =
      answered_so needs_input stated left_before left_now (λ job bytes. refusal job bytes ≡ Some text) (IsRefused refusal Wrote end.report) answered
      (λ job bytes refused. record { text = text; refused = refused; unreported = told.reported; written = written })

  -- what is to have been done at status 0
  pub done : (responded : Result Response Early) (end : ToolEnd) → Responded responded → IsWritten taken_before taken_now sink_before sink_now responded end
      → end.status ≡ 0 → Answered (IsDone Fulfils (GainsEnd taken_before taken_now) end.report)
  done (Ok (Response.Done report text)) end responded told zero = done_so report text.items end (GainsEnd taken_before taken_now) told (told.whole zero) responded.answered
  done (Ok (Response.Refused text)) end responded told zero = elim (told_status 4 None text.items taken_before taken_now sink_before sink_now end told) [
    | inl four ↦ absurd (omega (arith, zero, four))
    | inr five ↦ absurd (omega (arith, zero, five))
  ]
  done (Err early) end responded written zero = absurd (not_late (status_of early) 0 refl (early_early early) (sym (ap (λ (e : ToolEnd). e.status) written.0) ∙ zero))

  -- and the rest
  pub ends : (responded : Result Response Early) (end : ToolEnd) → Responded responded → IsWritten taken_before taken_now sink_before sink_now responded end → End end
  ends (Ok (Response.Done report text)) end responded told =
      told_end (Response.Done report text) 0 report text.items end refl refl responded told
      (λ four. elim (told_status 0 report text.items taken_before taken_now sink_before sink_now end told) [
        | inl zero ↦ absurd (omega (arith, zero, four))
        | inr five ↦ absurd (omega (arith, five, four))
      ])
      (λ five. answered_so needs_input stated left_before left_now (IsDone Fulfils (GainsPrefix taken_before taken_now) end.report) (IsCutShort Fulfils refusal (GainsPrefix taken_before taken_now) end.report)
      (done_so report text.items end (GainsPrefix taken_before taken_now) told (told.prefix five) responded.answered) (λ job bytes done. inl done))
      (λ accepted zero. inl zero)
  ends (Ok (Response.Refused text)) end responded told =
      told_end (Response.Refused text) 4 None text.items end refl refl responded told
      (λ four. refused_so text.items end (GainsEnd taken_before taken_now) told (told.whole four) responded.answered)
      (λ five. answered_so needs_input stated left_before left_now (IsRefused refusal (GainsPrefix taken_before taken_now) end.report) (IsCutShort Fulfils refusal (GainsPrefix taken_before taken_now) end.report)
      (refused_so text.items end (GainsPrefix taken_before taken_now) told (told.prefix five) responded.answered) (λ job bytes refused. inr refused))
      (λ accepted four.
      let a = responded.answered in
      absurd (not_refused needs_input stated refusal left_before left_now accepted a.job a.stated_so a.bytes text.items a.read a.answered))
  ends (Err early) end responded written = subst End (sym written.0) (early_end early responded written.1)
