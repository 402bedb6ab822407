-- What a reader has found so far: lines that have their form, or the first that has none.
use Rattle.std.specs.List.{AllByRecursion}
use Rattle.std.specs.Prelude.{◌≡◌, ◌+◌, ℕ, suc, true, List, [], ◌∷◌, ◌++◌, ◌≤◌}
use Rattle.std.specs.Prelude.{◌⊎◌, Bool, cond, zero, false, eqb, get_or, length, map, reverse, codes}
use Rattle.pq_base.specs.Lines.{text_of_lines}
use Rattle.pq_base.specs.LPresentation.{LPresentation}
use Rattle.derivation_log.specs.declared.source.Run.{Run}
use Rattle.pq_base.specs.Limits.{max_class}
use Rattle.answer_text.specs.AnswerPlaces.{prime_line, class_line}
use Rattle.answer_text.specs.Lines.{avoids}
use Rattle.derivation_log.specs.declared.source.Run.TheVariants.{Iterated, Whole}
use Rattle.derivation_log.specs.declared.source.RowSource.{RowSource}
use Rattle.derivation_log.specs.Certificates.{TailLine, StepLines, has_two_runs}
use Rattle.derivation_log.specs.CertificateForms.{is_source_in, are_sources_in, are_tail_lines, are_steps_in}
use Rattle.cert_text.specs.declared.fault.CertFault.{CertFault}
use Rattle.cert_text.specs.declared.fault.CertFault.TheVariants.{Line, NoMemory}
use Rattle.lpres_reader.specs.CanonicalText.{canonical_text, canonical_lines}
use Rattle.cert_text.specs.CertificateText.{HasText, version_line, run_line, run_lines, iterated_lines, source_line, tail_line, steps_lines}
use Rattle.answer_text.specs.LineByLine.{IsFirstBad}
use Rattle.cert_text.specs.CertificatePlaces.{Place, HasForm, IsEnd, Head, IsHead}

-- the first line without its form, where lines count from a first number
abbrev pub IsBadAt : Place → List ℕ → ℕ → CertFault → Type 0
IsBadAt P bytes first (Line n) = (k : ℕ) × (n ≡ first + k) × IsFirstBad Place HasForm IsEnd P bytes k
IsBadAt P bytes first NoMemory = Unit {0}

-- the line of no source that the run may name comes next
abbrev pub HasNoSource : LPresentation → Run → List ℕ → Type 0
HasNoSource L run rest = (a : RowSource) (more : List ℕ) → is_source_in L run a ≡ true → ¬ (rest ≡ source_line a ++ 10 ∷ more)

-- the line of no tail that may stand behind these in a step of n sources comes next
abbrev pub HasNoTail : ℕ → ℕ → List TailLine → List ℕ → Type 0
HasNoTail p n lines rest = (l : TailLine) (more : List ℕ) → are_tail_lines p n (lines ++ l ∷ []) 1 (lines ++ l ∷ []) ≡ true
    → ¬ (rest ≡ tail_line l ++ 10 ∷ more)

-- no line of a step comes next
pub record HasNoneOf (L : LPresentation) (p : ℕ) (run : Run) (s : StepLines) (rest : List ℕ) : Type 0 where
  pub no_source : s.tails ≡ [] → HasNoSource L run rest
  pub no_tail : HasNoTail p (length s.sources) s.tails rest

-- the text is the lines of a step behind its first, and the rest, before which no line of the step comes
pub record IsStepRead (L : LPresentation) (p : ℕ) (run : Run) (text : List ℕ) (s : StepLines) (rest : List ℕ) : Type 0 where
  pub sources : are_sources_in L run s.sources ≡ true
  pub tails : are_tail_lines p (length s.sources) s.tails 1 s.tails ≡ true
  pub lines : text ≡ text_of_lines (map source_line s.sources ++ map tail_line s.tails) ++ rest
  pub none : HasNoneOf L p run s rest

-- no line of the last of some steps comes next, where the last comes first
abbrev pub HasNoMore : LPresentation → ℕ → Run → List StepLines → List ℕ → Type 0
HasNoMore L p run [] rest = Unit {0}
HasNoMore L p run (s ∷ ss) rest = HasNoneOf L p run s rest

-- the text is the lines of some steps of a run, and the rest, which begins with the line of this number, before which no line of the last
-- step comes
pub record AreStepsRead (L : LPresentation) (p : ℕ) (run : Run) (text : List ℕ) (first : ℕ) (ss : List StepLines)
    (rest : List ℕ) (number : ℕ) : Type 0 where
  pub steps : are_steps_in L p run ss ≡ true
  pub lines : text ≡ text_of_lines (steps_lines 0 ss) ++ rest
  pub numbered : number ≡ first + length (steps_lines 0 ss)
  pub none : HasNoMore L p run (reverse ss) rest

-- the line behind the steps of a run
abbrev pub end_line : Run → List ℕ
end_line Iterated = run_line Whole
end_line Whole = codes "answer"

-- the text is the lines of the steps of a run, the line behind them, and the rest, which begins with the line of this number
pub record IsRunRead (L : LPresentation) (p : ℕ) (run : Run) (text : List ℕ) (first : ℕ) (ss : List StepLines)
    (rest : List ℕ) (number : ℕ) : Type 0 where
  pub steps : are_steps_in L p run ss ≡ true
  pub lines : text ≡ text_of_lines (steps_lines 0 ss) ++ (end_line run ++ 10 ∷ rest)
  pub numbered : number ≡ first + suc (length (steps_lines 0 ss))

-- the text is the lines of all runs, the line in front of the answer, and the rest, which begins with the line of this number
pub record AreRunsRead (L : LPresentation) (p : ℕ) (text : List ℕ) (first : ℕ) (iterated whole : List StepLines)
    (rest : List ℕ) (number : ℕ) : Type 0 where
  pub one_run : has_two_runs L ≡ false → iterated ≡ []
  pub iterated_steps : are_steps_in L p Iterated iterated ≡ true
  pub whole_steps : are_steps_in L p Whole whole ≡ true
  pub lines : text ≡ text_of_lines (iterated_lines (has_two_runs L) iterated ++ run_lines Whole whole) ++ (codes "answer" ++ 10 ∷ rest)
  pub numbered : number ≡ first + suc (length (iterated_lines (has_two_runs L) iterated ++ run_lines Whole whole))

-- the line begins with `p`
abbrev pub begins_with_p : List ℕ → Bool
begins_with_p line = eqb (get_or line 0 0) 112

-- the next line, where there is one, begins so
abbrev pub GoesOnWithP : List ℕ → Type 0
GoesOnWithP text = (l more : List ℕ) → avoids 10 l ≡ true → text ≡ l ++ 10 ∷ more → begins_with_p l ≡ true

-- the text is the lines of this prime and this class, and the rest
pub record IsSizeRead (text : List ℕ) (p c : ℕ) (rest : List ℕ) : Type 0 where
  pub from_one : 1 ≤ c
  pub limit : c ≤ max_class
  pub lines : text ≡ prime_line p ++ 10 ∷ (class_line c ++ 10 ∷ rest)

-- a line that has no newline in it and doesn't begin with `p`
abbrev pub IsItemLine : List ℕ → Type 0
IsItemLine l = (avoids 10 l ≡ true) × (begins_with_p l ≡ false)

-- the text is as many such lines, and the rest
abbrev pub AreItemLines : List ℕ → ℕ → List ℕ → Type 0
AreItemLines text count rest = (ls : List (List ℕ)) × AllByRecursion IsItemLine ls × (length ls ≡ count) × (text ≡ text_of_lines ls ++ rest)

-- the first k lines of a text
abbrev pub first_lines : ℕ → List ℕ → List ℕ
first_lines k [] = []
first_lines zero (b ∷ text) = []
first_lines (suc k) (b ∷ text) = b ∷ first_lines (cond (eqb b 10) k (suc k)) text

-- the text is the canonical text of a presentation
abbrev pub IsCanonical : List ℕ → Type 0
IsCanonical text = (L : LPresentation) × HasText L × (text ≡ canonical_text L)

-- the first k lines of a text are a canonical text or none, and those up to the next aren't one
pub record IsCanonicalTo (text : List ℕ) (k : ℕ) : Type 0 where
  pub lines : (k ≡ 0) ⊎ IsCanonical (first_lines k text)
  pub no_further : ¬ IsCanonical (first_lines (suc k) text)

-- the text is the lines of the canonical text of a presentation, and the rest, which begins with the line of this number
pub record IsPresentationRead (text : List ℕ) (first : ℕ) (L : LPresentation) (rest : List ℕ) (number : ℕ) : Type 0 where
  pub presentation : HasText L
  pub lines : text ≡ text_of_lines (canonical_lines L) ++ rest
  pub numbered : number ≡ first + length (canonical_lines L)
  pub goes_on : GoesOnWithP rest

-- what stands in front of the answer of a certificate is in range
pub record IsFront (H : Head) (iterated whole : List StepLines) : Type 0 where
  pub head : IsHead H
  pub from_one : 1 ≤ H.class
  pub limit : H.class ≤ max_class
  pub one_run : has_two_runs H.presentation ≡ false → iterated ≡ []
  pub iterated_steps : are_steps_in H.presentation H.prime Iterated iterated ≡ true
  pub whole_steps : are_steps_in H.presentation H.prime Whole whole ≡ true

-- its lines
abbrev pub lines_in_front : Head → List StepLines → List StepLines → List (List ℕ)
lines_in_front H iterated whole =
    version_line 1
    ∷ (canonical_lines H.presentation
    ++ (prime_line H.prime ∷ class_line H.class ∷ (iterated_lines (has_two_runs H.presentation) iterated ++ run_lines Whole whole)))

-- the bytes are its lines, the line in front of the answer, and the rest, which begins with the line of this number
pub record IsFrontRead (bytes : List ℕ) (H : Head) (iterated whole : List StepLines) (rest : List ℕ) (number : ℕ) : Type 0 where
  pub front : IsFront H iterated whole
  pub lines : bytes ≡ text_of_lines (lines_in_front H iterated whole) ++ (codes "answer" ++ 10 ∷ rest)
  pub numbered : number ≡ length (lines_in_front H iterated whole) + 2

-- how many newlines are in a text
abbrev pub newlines : List ℕ → ℕ
newlines [] = 0
newlines (b ∷ text) = cond (eqb b 10) (suc (newlines text)) (newlines text)
