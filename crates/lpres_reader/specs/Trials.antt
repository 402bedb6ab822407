-- The trials of a line: what is measured against which limit, in order. The parts of a line are tried in the order of
-- their last bytes, and of parts with one last byte the inner one first. So what stands in a part is tried before it.
use Rattle.std.specs.Prelude.{◌≡◌, ◌<◌, ◌≤◌, ℕ, suc, ◌+◌, min, ℤ, List, [], ◌∷◌, ◌++◌, length}
use Rattle.std.specs.List.{AllByRecursion}
use Rattle.pq_base.specs.LPresentation.{LPresentation}
use Rattle.lpres_reader.specs.Words.{letter_limit, exponent_limit}
use Rattle.lpres_reader.specs.Items.{Item, fixed, iterated, endo}
use Rattle.lpres_reader.specs.Limits.{total_letters}
use Rattle.lpres_reader.specs.Trees.{WordTree, alone, times, FactorTree, one, unit, to_power, conjugated, UnitTree, named, round, square}
use Rattle.lpres_reader.specs.Trees.{EntriesTree, two, and_one, RelatorTree, word, equation, ArrowTree, Sort, fixed_sort, iterated_sort}
use Rattle.lpres_reader.specs.Trees.{ItemTree, relators, arrows, exponent_size, word_meaning, factor_meaning, entries_meaning}
use Rattle.lpres_reader.specs.Trees.{relator_meaning}

-- what is limited
pub data Which : Type 0 where
  Name : Which
  Generators : Which
  Fixed : Which
  Iterated : Which
  Endos : Which
  Exponent : Which
  Letters : Which
  Total : Which

abbrev pub most : Which → ℕ
most Name = 32
most Generators = 32
most Fixed = 4096
most Iterated = 4096
most Endos = 16
most Exponent = exponent_limit
most Letters = letter_limit
most Total = 4194304

pub record Trial : Type 0 where
  pub limit : Which
  pub size : ℕ

abbrev pub tried : Which → ℕ → Trial
tried limit size = record { limit = limit; size = size }

abbrev pub Keeps : Trial → Type 0
Keeps t = t.size ≤ most t.limit

abbrev pub AreKept : List Trial → Type 0
AreKept ts = AllByRecursion Keeps ts

-- the first trial that does not keep its limit
pub record IsFirstPassed (ts : List Trial) (t : Trial) : Type 0 where
  pub before : List Trial
  pub after : List Trial
  pub place : ts ≡ before ++ t ∷ after
  pub kept : AreKept before
  pub passed : most t.limit < t.size

-- the number that comes with it: exponents are as large as they are written, and a larger one than this is given as this
abbrev pub reported : Which → ℕ → ℕ
reported Exponent size = min size 999999999999999999
reported limit size = size

abbrev pub letters_tried : List ℤ → List Trial
letters_tried w = tried Letters (length w) ∷ []

abbrev mutual
  pub word_trials : List (List ℕ) → WordTree → List Trial
  word_trials names (alone f) = factor_trials names f
  word_trials names (times w f) = word_trials names w ++ (factor_trials names f ++ letters_tried (word_meaning names (times w f)))

  pub factor_trials : List (List ℕ) → FactorTree → List Trial
  factor_trials names one = []
  factor_trials names (unit u) = unit_trials names u
  factor_trials names (to_power f e) =
      factor_trials names f ++ (tried Exponent (exponent_size e) ∷ letters_tried (factor_meaning names (to_power f e)))
  factor_trials names (conjugated f u) =
      factor_trials names f ++ (unit_trials names u ++ letters_tried (factor_meaning names (conjugated f u)))

  pub unit_trials : List (List ℕ) → UnitTree → List Trial
  unit_trials names (named n) = []
  unit_trials names (round w) = word_trials names w
  unit_trials names (square e) = entries_trials names e

  pub entries_trials : List (List ℕ) → EntriesTree → List Trial
  entries_trials names (two u v) = word_trials names u ++ (word_trials names v ++ letters_tried (entries_meaning names (two u v)))
  entries_trials names (and_one e v) =
      entries_trials names e ++ (word_trials names v ++ letters_tried (entries_meaning names (and_one e v)))

abbrev pub relator_trials : List (List ℕ) → RelatorTree → List Trial
relator_trials names (word w) = word_trials names w
relator_trials names (equation u v) = word_trials names u ++ (word_trials names v ++ letters_tried (relator_meaning names (equation u v)))

abbrev pub sort_limit : Sort → Which
sort_limit fixed_sort = Fixed
sort_limit iterated_sort = Iterated

-- relators behind `count` others of their sort and `total` letters
abbrev pub relators_trials : List (List ℕ) → Sort → ℕ → ℕ → List RelatorTree → List Trial
relators_trials names s count total [] = []
relators_trials names s count total (r ∷ rs) =
    relator_trials names r ++ (tried (sort_limit s) (suc count) ∷ tried Total (total + length (relator_meaning names r))
    ∷ relators_trials names s (suc count) (total + length (relator_meaning names r)) rs)

abbrev pub arrows_trials : List (List ℕ) → ℕ → List ArrowTree → List Trial
arrows_trials names total [] = []
arrows_trials names total (q ∷ qs) =
    word_trials names q.to ++ (tried Total (total + length (word_meaning names q.to))
    ∷ arrows_trials names (total + length (word_meaning names q.to)) qs)

abbrev pub relators_of : LPresentation → Sort → List (List ℤ)
relators_of M fixed_sort = M.fixed
relators_of M iterated_sort = M.iterated

-- a line behind others that are M
abbrev pub item_trials : LPresentation → ItemTree → List Trial
item_trials M (relators s rs r) = relators_trials M.names s (length (relators_of M s)) (total_letters M) (rs ++ r ∷ [])
item_trials M (arrows qs q) = tried Endos (suc (length M.endos)) ∷ arrows_trials M.names (total_letters M) (qs ++ q ∷ [])

-- names behind `count` others
abbrev pub names_trials : ℕ → List (List ℕ) → List Trial
names_trials count [] = []
names_trials count (n ∷ ns) = tried Name (length n) ∷ tried Generators (suc count) ∷ names_trials (suc count) ns

-- a presentation with one item more
abbrev pub added : LPresentation → Item → LPresentation
added M (fixed ws) = record M { fixed = M.fixed ++ ws }
added M (iterated ws) = record M { iterated = M.iterated ++ ws }
added M (endo f) = record M { endos = M.endos ++ f ∷ [] }
