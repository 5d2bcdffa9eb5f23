-- A source and a sink in memory, as contracts see them.
use Rattle.std.specs.Prelude.{◌⊎◌, ◌≡◌, ℕ, ◌<◌, List, length, Contains}
use Rattle.mcp_outside.specs.Causes.{next_count}

-- the bytes left, how many a call gives at most, the numbers of the calls that fail, the number of the last call, the faults
pub record SourceState : Type 0 where
  pub left : List ℕ
  pub step : ℕ
  pub failing : List ℕ
  pub calls : ℕ
  pub faults : ℕ

-- the bytes written, for how many more there is room, how many a call takes at most, and as above
pub record SinkState : Type 0 where
  pub written : List ℕ
  pub room : ℕ
  pub step : ℕ
  pub failing : List ℕ
  pub calls : ℕ
  pub faults : ℕ

-- the next call of the sink fails: its number is listed, or there is no room for one byte of a piece that isn't empty
abbrev pub MustFail : SinkState → List ℕ → Type 0
MustFail sink piece = Contains sink.failing (next_count sink.calls) ⊎ ((sink.room ≡ 0) × (0 < length piece))
