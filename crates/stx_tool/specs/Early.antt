-- Why a top call ends before it writes anything, and with which status.
use Rattle.std.specs.Prelude.{ℕ}
use Rattle.stx_outside.specs.declared.whole.ReadEnd.{ReadEnd}
use Rattle.stx_words.specs.declared.fault.WordsFault.{WordsFault}
use Rattle.stx_tool.specs.declared.early.Early.{Early}

abbrev pub status_of : Early → ℕ
status_of Early.Usage = 2
status_of Early.ReadFault = 3
status_of (Early.NoMemory refused) = 6
status_of Early.TooLong = 7

-- the words state no job, or memory ran out
abbrev pub of_words : WordsFault → Early
of_words WordsFault.Usage = Early.Usage
of_words (WordsFault.NoMemory refused) = Early.NoMemory refused

-- the input wasn't read whole
abbrev pub of_input : ReadEnd → Early
of_input ReadEnd.Fault = Early.ReadFault
of_input ReadEnd.TooLong = Early.TooLong
of_input (ReadEnd.NoMemory refused) = Early.NoMemory refused
