-- Texts of lines, and what their verdicts tell.
use Rattle.std.proofs.Common.{◌≡◌, ℕ, List, [], ◌∷◌, ◌++◌, Ok, Err}
use Rattle.pq_base.specs.LPresentation.{LPresentation}
use Rattle.lpres_reader.specs.Reads.{Reads}
use Rattle.lpres_reader.specs.Faults.{Kind, FirstFault}
use Rattle.lpres_reader.specs.Verdicts.{text_verdict}
use Rattle.lpres_reader.proofs.faults.ReaderLaws.{verdicts_are_right}

-- each line with a newline behind it
abbrev pub text : List (List ℕ) → List ℕ
text [] = []
text (line ∷ lines) = line ++ 10 ∷ text lines

pub reads_as : (t : List ℕ) (L : LPresentation) → text_verdict t ≡ Ok L → Reads t L
reads_as t L = ((verdicts_are_right t).presentation L).0

pub fails_at : (t : List ℕ) (n : ℕ) (kind : Kind) → text_verdict t ≡ Err (n, kind) → FirstFault t n kind
fails_at t n kind = ((verdicts_are_right t).fault n kind).0
