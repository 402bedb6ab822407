-- The canonical text of a presentation: one line for its generators, one for each relator, and one for each endomorphism.
use Rattle.std.specs.Prelude.{ℕ, suc, ℤ, pos, negsuc, unsigned_abs, ◌==◌, if◌then◌else◌, List, [], ◌∷◌, ◌++◌, map, codes, decimal}
use Rattle.pq_base.specs.LPresentation.{LPresentation}
use Rattle.pq_base.specs.Lines.{text_of_lines}
use Rattle.pq_base.specs.Name.{name_text}
use Rattle.lpres_reader.specs.declared.canonical.Run.{Run}
use Rattle.lpres_reader.specs.Runs.{runs_of}

-- the texts, each behind the same bytes
abbrev pub preceded : List ℕ → List (List ℕ) → List ℕ
preceded s [] = []
preceded s (t ∷ ts) = s ++ (t ++ preceded s ts)

-- the texts, with the same bytes between any two
abbrev pub separated : List ℕ → List (List ℕ) → List ℕ
separated s [] = []
separated s (t ∷ ts) = t ++ preceded s ts

-- the exponent of a run, which is left out for one generator
abbrev pub exponent_text : ℤ → ℕ → List ℕ
exponent_text (pos k) n = if n == 1 then [] else codes "^" ++ decimal n
exponent_text (negsuc k) n = codes "^-" ++ decimal n

abbrev pub run_text : List (List ℕ) → Run → List ℕ
run_text names r = name_text names (unsigned_abs r.letter) ++ exponent_text r.letter r.size

abbrev pub runs_text : List (List ℕ) → List Run → List ℕ
runs_text names [] = codes "1"
runs_text names (r ∷ rs) = separated (codes "*") (map (run_text names) (r ∷ rs))

unfoldable pub word_text : List (List ℕ) → List ℤ → List ℕ
word_text names w = runs_text names (runs_of w)

abbrev pub generators_line : List (List ℕ) → List ℕ
generators_line names = codes "generators" ++ preceded (codes " ") names

-- the lines of relators behind the same keyword
abbrev pub relator_lines : List ℕ → List (List ℕ) → List (List ℤ) → List (List ℕ)
relator_lines keyword names [] = []
relator_lines keyword names (w ∷ ws) = (keyword ++ word_text names w) ∷ relator_lines keyword names ws

-- from generator number i, counted from 1, to a word
abbrev pub arrow_text : List (List ℕ) → ℕ → List ℤ → List ℕ
arrow_text names i w = name_text names i ++ (codes " -> " ++ word_text names w)

-- from the generators after number i, in order, to the words
abbrev pub arrow_texts : List (List ℕ) → ℕ → List (List ℤ) → List (List ℕ)
arrow_texts names i [] = []
arrow_texts names i (w ∷ ws) = arrow_text names (suc i) w ∷ arrow_texts names (suc i) ws

abbrev pub endo_line : List (List ℕ) → List (List ℤ) → List ℕ
endo_line names f = codes "endo " ++ separated (codes ", ") (arrow_texts names 0 f)

abbrev pub endo_lines : List (List ℕ) → List (List (List ℤ)) → List (List ℕ)
endo_lines names [] = []
endo_lines names (f ∷ fs) = endo_line names f ∷ endo_lines names fs

abbrev pub canonical_lines : LPresentation → List (List ℕ)
canonical_lines L =
    generators_line L.names
    ∷ (relator_lines (codes "fixed ") L.names L.fixed
    ++ (relator_lines (codes "iterated ") L.names L.iterated
    ++ endo_lines L.names L.endos))

unfoldable pub canonical_text : LPresentation → List ℕ
canonical_text L = text_of_lines (canonical_lines L)
