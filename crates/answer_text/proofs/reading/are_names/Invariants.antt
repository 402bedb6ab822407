use Rattle.std.proofs.Common.{◌<◌, ℕ, List, get_or}
use Rattle.pq_base.specs.Name.{IsName}
use Rattle.answer_text.proofs.reading.are_names.Given as goal

-- those before this place are
abbrev pub invariant-loop-name : goal.invariant-loop-name
invariant-loop-name l = (k : ℕ) (d : List ℕ) → k < l.name-index → IsName (get_or l.names k d)
