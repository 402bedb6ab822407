-- What the tree of a line gives, counted and measured together with the lines before it.
use Rattle.std.specs.Prelude.{ℕ, ◌+◌, List, [], ◌∷◌, ◌++◌, length, map, sum_by}
use Rattle.pq_base.specs.LPresentation.{LPresentation}
use Rattle.lpres_reader.specs.declared.fault.Which.{Which}
use Rattle.lpres_reader.specs.declared.fault.Which.TheVariants as which
use Rattle.lpres_reader.specs.declared.gathered.Arrow.{Arrow}
use Rattle.lpres_reader.specs.Gatherings.{Gathering}
use Rattle.lpres_reader.specs.Limits.{letters_in, total_letters}
use Rattle.lpres_reader.specs.Trees.{RelatorTree, ArrowTree, ItemTree, relators, arrows, Sort, fixed_sort, iterated_sort, place_of}
use Rattle.lpres_reader.specs.Trees.{known_place, word_meaning, relator_meaning}
use Rattle.lpres_reader.specs.Trials.{relators_of}

abbrev pub arrow_value : List (List ℕ) → ArrowTree → Arrow
arrow_value names q = record { from = known_place (place_of names q.from); to = word_meaning names q.to }

abbrev pub sort_which : Sort → Which
sort_which fixed_sort = which.Fixed
sort_which iterated_sort = which.Iterated

abbrev pub relators_gathered : LPresentation → Sort → List RelatorTree → Gathering
relators_gathered M s rs = record {
  which = sort_which s;
  count = length (relators_of M s) + length rs;
  total = total_letters M + letters_in (map (relator_meaning M.names) rs);
  relators = map (relator_meaning M.names) rs;
  arrows = [];
}

abbrev pub arrows_gathered : LPresentation → List ArrowTree → Gathering
arrows_gathered M qs = record {
  which = which.Endos;
  count = 0;
  total = total_letters M + sum_by (λ q. length (word_meaning M.names q.to)) qs;
  relators = [];
  arrows = map (arrow_value M.names) qs;
}

-- what the tree of a line gives
abbrev pub gathered_of : LPresentation → ItemTree → Gathering
gathered_of M (relators s rs r) = relators_gathered M s (rs ++ r ∷ [])
gathered_of M (arrows qs q) = arrows_gathered M (qs ++ q ∷ [])
