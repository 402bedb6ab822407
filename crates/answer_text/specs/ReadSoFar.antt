-- What a reader has found so far: lines that have their form, or the first that has none.
use Rattle.std.specs.Prelude.{◌≡◌, ◌≤◌, ◌+◌, ℕ, suc, List, [], ◌∷◌, ◌++◌, codes, decimal}
use Rattle.pq_base.specs.Limits.{max_class}
use Rattle.pq_base.specs.Lines.{text_of_lines}
use Rattle.pc_presentation.specs.declared.syllable.Syllable.{Syllable}
use Rattle.answer_text.specs.declared.source.Source.{Source}
use Rattle.answer_text.specs.declared.fault.AnswerFault.{AnswerFault}
use Rattle.answer_text.specs.declared.fault.AnswerFault.TheVariants.{Line, NoMemory}
use Rattle.answer_text.specs.AnswerText.{head_lines}
use Rattle.answer_text.specs.AnswerPlaces.{Place, IsScale, IsSource, source_line, word_line}
use Rattle.answer_text.specs.AnswerFaults.{IsFirstBad}

-- the first line without its form, where lines count from a first number
abbrev pub IsBadAt : Place → List ℕ → ℕ → AnswerFault → Type 0
IsBadAt P bytes first (Line n) = (k : ℕ) × (n ≡ first + k) × IsFirstBad P bytes k
IsBadAt P bytes first NoMemory = Unit {0}

-- the bytes begin with the lines up to the order, for this prime and rank
abbrev pub IsHead : ℕ → ℕ → List ℕ → List ℕ → Type 0
IsHead p n bytes rest = (c : ℕ) × IsScale p n × (c ≤ max_class) × (bytes ≡ text_of_lines (head_lines p c n) ++ rest)

-- the same, behind the line of the prime
abbrev pub IsSize : ℕ → ℕ → List ℕ → List ℕ → Type 0
IsSize p n text rest = (c : ℕ) × IsScale p n × (c ≤ max_class)
    × (text ≡ text_of_lines ((codes "class " ++ decimal c) ∷ (codes "rank " ++ decimal n)
    ∷ (codes "order " ++ (decimal p ++ (codes "^" ++ decimal n))) ∷ []) ++ rest)

-- the lines of the generators after number k
abbrev pub source_lines : ℕ → ℕ → List ℕ → List Source → List (List ℕ)
source_lines p k [] ss = []
source_lines p k (w ∷ ws) [] = []
source_lines p k (w ∷ ws) (s ∷ ss) = source_line p (suc k) w s ∷ source_lines p (suc k) ws ss

-- weights and definitions that lines can hold
abbrev pub AreSources : ℕ → List ℕ → List Source → Type 0
AreSources n [] ss = Unit {0}
AreSources n (w ∷ ws) [] = Unit {0}
AreSources n (w ∷ ws) (s ∷ ss) = (1 ≤ w) × (w ≤ max_class) × IsSource n s × AreSources n ws ss

-- the lines of images
abbrev pub word_lines : List (List ℕ) → List (List Syllable) → List (List ℕ)
word_lines [] ws = []
word_lines (n ∷ ns) [] = []
word_lines (n ∷ ns) (w ∷ ws) = word_line n w ∷ word_lines ns ws
