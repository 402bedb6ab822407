-- What the parts of the want order are made of.
use Rattle.std.specs.Prelude.{ℕ, Bool, true, false, ◌&&◌, not, List, filter}
use Rattle.pq_base.specs.Answer.{Answer, Definition as Source}
use Rattle.pq_base.specs.Canonical.{is_among, is_qualifying}

-- at class k: no definition, and qualifying or not, as the truth value says
abbrev pub is_wanted : Answer → ℕ → Bool → Source → Bool
is_wanted A k true d = is_qualifying A k d && not (is_among d A.definitions)
is_wanted A k false d = not (is_qualifying A k d) && not (is_among d A.definitions)

-- such entries of a list
abbrev pub wanted : Answer → ℕ → Bool → List Source → List Source
wanted A k first ds = filter (is_wanted A k first) ds
