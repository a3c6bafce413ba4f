-- Where a top call goes no further, and where it responds.
use Rattle.std.proofs.Common.{◌≡◌, ◌≢◌, ◌⊎◌, ℕ, Bool, false, List, Option, Some, None, IsNone, Result, Ok, Err, IfOk, IsErrAnd, is_some, refl, sym, ap, subst, ◌∙◌, inl, inr}
use Rattle.std.proofs.lemmas.Bool.{false≢true}
use Rattle.stx_scenario.specs.Memory.{no_memory}
use Rattle.stx_scenario.specs.declared.memory.NoMemory.{NoMemory}
use Rattle.stx_scenario.specs.declared.limits.TheConstants.{MOST_INPUT_BYTES}
use Rattle.stx_base.specs.declared.outcome.Report.{Report}
use Rattle.stx_outside.specs.declared.whole.ReadEnd.{ReadEnd}
use Rattle.stx_outside.specs.Streams.{LosesWithin}
use Rattle.stx_words.specs.declared.fault.WordsFault.{WordsFault}
use Rattle.stx_tool.specs.declared.early.Early.{Early}
use Rattle.stx_tool.specs.declared.response.Response.{Response}
use Rattle.stx_tool.specs.Early.{of_words, of_input}
use Rattle.stx_tool.specs.Ends.{HasInput, IsAnswered, IsResponse, is_input_needed}
use Rattle.stx_tool.specs.Responses.{IsResponded, IsRead}
use Rattle.stx_tool.proofs.InputLaws.{none_within}

module _ {J : Type 0} (needs_input : J → Bool) (Fulfils : J → List ℕ → Option Report → List ℕ → Type 0) (refusal : J → List ℕ → Option (List ℕ)) (stated : Option J) (Untouched : Type 0) (left_before left_now : Option (List ℕ)) (faults_before faults_now : ℕ) where
  abbrev Responded : Result Response Early → Type 0
  Responded = IsResponded needs_input Fulfils refusal stated Untouched left_before left_now faults_before faults_now

  abbrev ended : Early → Result Response Early
  ended early = Err early

  -- an early end goes by its cause
  failed : (responded : Result Response Early) (early : Early) → IsErrAnd responded (λ e. e ≡ early) → Responded (ended early) → Responded responded
  failed (Ok response) early is so = absurd is
  failed (Err other) early is so = subst (λ e. Responded (ended e)) (sym is) so

  no_input_yet : (early : Early) → (ended early ≡ ended Early.Usage → IsNone stated) → (ended early ≡ ended Early.Usage) ⊎ (ended early ≡ ended (Early.NoMemory no_memory))
      → ended early ≢ ended Early.ReadFault → ended early ≢ ended Early.TooLong → Untouched → left_now ≡ left_before → faults_now ≡ faults_before → Responded (ended early)
  no_input_yet early usage which no_fault no_more untouched left faults = record {
    usage = usage;
    unstated = λ _. which;
    unread = λ _. untouched;
    read_fault = λ same. absurd (no_fault same);
    read_well = λ _. faults;
    needed = λ same. absurd (no_more same);
    too_long = λ same. absurd (no_more same);
    no_longer = λ _. subst (LosesWithin MOST_INPUT_BYTES left_before) (sym left) (none_within MOST_INPUT_BYTES left_before);
    answered = tt;
  }

  -- the words state no job, or memory ran out
  unstated : (fault : WordsFault) → (fault ≡ WordsFault.Usage → stated ≡ None) → Untouched → left_now ≡ left_before → faults_now ≡ faults_before → Responded (ended (of_words fault))
  unstated WordsFault.Usage usage = no_input_yet Early.Usage (λ _. ap is_some (usage refl)) (inl refl) (λ same. cc) (λ same. cc)
  unstated (WordsFault.NoMemory refused) usage = no_input_yet (Early.NoMemory refused) (λ same. absurd cc) (inr refl) (λ same. cc) (λ same. cc)

  pub no_job : (responded : Result Response Early) (fault : WordsFault) → IsErrAnd responded (λ e. e ≡ of_words fault)
      → (fault ≡ WordsFault.Usage → stated ≡ None) → Untouched → left_now ≡ left_before → faults_now ≡ faults_before → Responded responded
  no_job responded fault is usage untouched left faults = failed responded (of_words fault) is (unstated fault usage untouched left faults)

  module _ {V : Type 0} (job : J) (is : stated ≡ Some job) (input : Result V ReadEnd) (needed : Bool) (needs : needed ≡ needs_input job) (read_so : IsRead needed Untouched left_before left_now faults_before faults_now input) where
    read : IsRead (needs_input job) Untouched left_before left_now faults_before faults_now input
    read = subst (λ n. IsRead n Untouched left_before left_now faults_before faults_now input) needs read_so

    any_job : IsNone stated → ⊥
    any_job none = false≢true (sym none ∙ ap is_some is)

    unread : is_input_needed needs_input stated ≡ false → Untouched
    unread none = read.unread (sym (ap (is_input_needed needs_input) is) ∙ none)

    -- neither did a read fail, nor came too much
    well_read : input ≢ Err ReadEnd.Fault → input ≢ Err ReadEnd.TooLong → (responded : Result Response Early) → responded ≢ ended Early.Usage → responded ≢ ended Early.ReadFault → responded ≢ ended Early.TooLong
        → IfOk responded (λ response. IsAnswered needs_input stated left_before left_now (λ job bytes. IsResponse Fulfils refusal job bytes response)) → Responded responded
    well_read well within responded no_usage no_fault no_more answered = record {
      usage = λ same. absurd (no_usage same);
      unstated = λ none. absurd (any_job none);
      unread = unread;
      read_fault = λ same. absurd (no_fault same);
      read_well = λ _. read.kept well;
      needed = λ same. absurd (no_more same);
      too_long = λ same. absurd (no_more same);
      no_longer = λ _. read.no_longer within;
      answered = answered;
    }

    not_read : (end : ReadEnd) → input ≡ Err end → Responded (ended (of_input end))
    not_read ReadEnd.Fault so = record {
      usage = λ same. absurd cc;
      unstated = λ none. absurd (any_job none);
      unread = unread;
      read_fault = λ _. read.fault so;
      read_well = λ other. absurd (other refl);
      needed = λ same. absurd cc;
      too_long = λ same. absurd cc;
      no_longer = λ _. read.no_longer (λ same. cc);
      answered = tt;
    }
    not_read ReadEnd.TooLong so = record {
      usage = λ same. absurd cc;
      unstated = λ none. absurd (any_job none);
      unread = unread;
      read_fault = λ same. absurd cc;
      read_well = λ _. read.kept (λ same. cc);
      needed = λ _. ap (is_input_needed needs_input) is ∙ read.wanted so;
      too_long = λ _. read.too_long so;
      no_longer = λ other. absurd (other refl);
      answered = tt;
    }
    not_read (ReadEnd.NoMemory refused) so = well_read (λ same. cc) (λ same. cc) (ended (Early.NoMemory refused)) (λ same. cc) (λ same. cc) (λ same. cc) tt

    -- the input wasn't read
    pub no_input : (responded : Result Response Early) (end : ReadEnd) → IsErrAnd responded (λ e. e ≡ of_input end) → input ≡ Err end → Responded responded
    no_input responded end is_err so = failed responded (of_input end) is_err (not_read end so)

    -- memory ran out before there was a response
    pub no_response : (responded : Result Response Early) (refused : NoMemory) (given : V) → IsErrAnd responded (λ e. e ≡ Early.NoMemory refused) → input ≡ Ok given → Responded responded
    no_response responded refused given is_err so =
        failed responded (Early.NoMemory refused) is_err (well_read (λ same. cc) (λ same. cc) (ended (Early.NoMemory refused)) (λ same. cc) (λ same. cc) (λ same. cc) tt)

    pub responds : (response : Response) (bytes : List ℕ) (given : V) → input ≡ Ok given → HasInput needed left_before left_now bytes → IsResponse Fulfils refusal job bytes response → Responded (Ok response)
    responds response bytes given so has responded =
        let read_all : HasInput (needs_input job) left_before left_now bytes = subst (λ n. HasInput n left_before left_now bytes) needs has in
        well_read (λ same. cc) (λ same. cc) (Ok response) (λ same. cc) (λ same. cc) (λ same. cc)
        (record { job = job; stated_so = is; bytes = bytes; read = read_all; answered = responded })
