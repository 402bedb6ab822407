-- The forms over memory, as contracts see them, and what a call leaves of them.
-- `step` is the most bytes that a call handles, `fails` the numbers of the calls that fail, `calls` how many were made.
use Rattle.std.specs.Prelude.{◌+◌, ℕ, List, ◌++◌, drop}
use Rattle.pq_io.specs.Faults.{one_more}

pub record SourceInMemory : Type 0 where
  pub left : List ℕ
  pub step : ℕ
  pub fails : List ℕ
  pub calls : ℕ
  pub faults : ℕ

-- after a call that gave n bytes
abbrev pub after_read : SourceInMemory → ℕ → SourceInMemory
after_read s n = record s { left = drop n s.left; calls = one_more s.calls }

-- after a call that failed
abbrev pub after_failed_read : SourceInMemory → SourceInMemory
after_failed_read s = record s { calls = one_more s.calls; faults = s.faults + 1 }

pub record SinkInMemory : Type 0 where
  pub taken : List ℕ
  pub room : ℕ
  pub step : ℕ
  pub fails : List ℕ
  pub calls : ℕ
  pub faults : ℕ

-- after a call that took these bytes
abbrev pub after_write : SinkInMemory → List ℕ → SinkInMemory
after_write s bytes = record s { taken = s.taken ++ bytes; calls = one_more s.calls }

-- after a call that failed
abbrev pub after_failed_write : SinkInMemory → SinkInMemory
after_failed_write s = record s { calls = one_more s.calls; faults = one_more s.faults }
