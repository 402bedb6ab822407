-- A sink that never fails, as contracts see it.
use Rattle.std.specs.Prelude.{ℕ, Bool, true, false, ◌||◌, ◌+◌, nat_lt, List, ◌++◌, length, take, Option, None, Some}

-- `kept` are the first bytes that it was given, `over` says whether it was given more than its room
pub record SinkThatKeeps : Type 0 where
  pub kept : List ℕ
  pub room : ℕ
  pub over : Bool

-- after a call that was given these bytes
abbrev pub after_gift : SinkThatKeeps → List ℕ → SinkThatKeeps
after_gift s bytes = record s { kept = take s.room (s.kept ++ bytes); over = s.over || nat_lt s.room (length s.kept + length bytes) }

abbrev pub told : Bool → List ℕ → Option (List ℕ)
told true kept = None
told false kept = Some kept
