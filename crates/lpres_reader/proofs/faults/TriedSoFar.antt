-- The trials of what a line has so far: the trials of any line that begins so begin with these.
use Rattle.std.specs.Prelude.{ℕ, suc, List, [], ◌∷◌, ◌++◌, length, Option, Some, None}
use Rattle.pq_base.specs.LPresentation.{LPresentation}
use Rattle.lpres_reader.specs.Limits.{total_letters}
use Rattle.lpres_reader.specs.Trees.{WordTree}
use Rattle.lpres_reader.specs.Parser.{Place, as_factor, as_exponent, Entered, none, first, several, Outer, in_relators, in_arrows, Around}
use Rattle.lpres_reader.specs.Parser.{outside, in_round, in_square, State, at_name, at_arrow, at_factor, at_exponent, at_digits, behind}
use Rattle.lpres_reader.specs.Trials.{Trial, tried, Endos, word_trials, factor_trials, entries_trials, relators_trials, arrows_trials}
use Rattle.lpres_reader.specs.Trials.{relators_of}

-- of a word that something may follow
abbrev pub start_trials : List (List ℕ) → Option WordTree → List Trial
start_trials names None = []
start_trials names (Some w) = word_trials names w

abbrev pub entered_trials : List (List ℕ) → Entered → List Trial
entered_trials names none = []
entered_trials names (first u) = word_trials names u
entered_trials names (several e) = entries_trials names e

abbrev pub place_trials : List (List ℕ) → Place → List Trial
place_trials names (as_factor s) = start_trials names s
place_trials names (as_exponent s f) = start_trials names s ++ factor_trials names f

abbrev pub outer_trials : LPresentation → Outer → List Trial
outer_trials M (in_relators s rs left) =
    relators_trials M.names s (length (relators_of M s)) (total_letters M) rs ++ start_trials M.names left
outer_trials M (in_arrows qs n) = tried Endos (suc (length M.endos)) ∷ arrows_trials M.names (total_letters M) qs

abbrev pub around_trials : LPresentation → Around → List Trial
around_trials M (outside o) = outer_trials M o
around_trials M (in_round p a) = around_trials M a ++ place_trials M.names p
around_trials M (in_square p e a) = around_trials M a ++ (place_trials M.names p ++ entered_trials M.names e)

abbrev pub state_trials : LPresentation → State → List Trial
state_trials M (at_name qs) = outer_trials M (in_arrows qs [])
state_trials M (at_arrow qs n) = outer_trials M (in_arrows qs n)
state_trials M (at_factor a s) = around_trials M a ++ start_trials M.names s
state_trials M (at_exponent a s f) = around_trials M a ++ (start_trials M.names s ++ factor_trials M.names f)
state_trials M (at_digits a s f) = around_trials M a ++ (start_trials M.names s ++ factor_trials M.names f)
state_trials M (behind a s f) = around_trials M a ++ (start_trials M.names s ++ factor_trials M.names f)
