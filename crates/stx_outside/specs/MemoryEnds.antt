-- A source and a sink over bytes in memory, as contracts see them.
use Rattle.std.specs.Prelude.{◌≡◌, ℕ, ◌-◌, ◌<◌, ◌⊎◌, min, List, ◌++◌, length, take, drop, Contains, Result, Ok, Err}
use Rattle.stx_outside.specs.Streams.{one_more}

-- a source: the bytes to come, the most bytes that a read gives, the numbers of the reads that fail,
-- and how many reads were made and how many failed
pub record SourceState : Type 0 where
  pub left : List ℕ
  pub chunk : ℕ
  pub fail_at : List ℕ
  pub calls : ℕ
  pub faults : ℕ

-- the list has the number of the next read, counted from 1
abbrev pub ReadFails : SourceState → Type 0
ReadFails source = Contains source.fail_at (one_more source.calls)

-- how many bytes a read with this much room gives, where it doesn't fail
abbrev pub read_count : SourceState → ℕ → ℕ
read_count source room = min source.chunk (min room (length source.left))

-- the source after a read
abbrev pub after_read : {E : Type 0} → SourceState → Result ℕ E → SourceState
after_read source (Ok count) = record source { left = drop count source.left; calls = one_more source.calls }
after_read source (Err _) = record source { calls = one_more source.calls; faults = one_more source.faults }

-- a sink: the bytes taken, the most bytes that a write takes, the numbers of the writes that fail,
-- the most bytes in all, and how many writes were made and how many failed
pub record SinkState : Type 0 where
  pub taken : List ℕ
  pub chunk : ℕ
  pub fail_at : List ℕ
  pub room : ℕ
  pub calls : ℕ
  pub faults : ℕ

-- the list has the number of the next write, counted from 1, or there are bytes to write and no room
abbrev pub WriteFails : SinkState → List ℕ → Type 0
WriteFails sink from = Contains sink.fail_at (one_more sink.calls) ⊎ ((0 < length from) × (length sink.taken ≡ sink.room))

-- how many of these bytes a write takes, where it doesn't fail
abbrev pub write_count : SinkState → List ℕ → ℕ
write_count sink from = min sink.chunk (min (length from) (sink.room - length sink.taken))

-- the sink after a write of these bytes
abbrev pub after_write : {E : Type 0} → SinkState → Result ℕ E → List ℕ → SinkState
after_write sink (Ok count) from = record sink { taken = sink.taken ++ take count from; calls = one_more sink.calls }
after_write sink (Err _) from = record sink { calls = one_more sink.calls; faults = one_more sink.faults }
