-- Where the first line without its form stands: behind lines that have theirs, and at each place of the head and the runs.
use Rattle.std.proofs.Common.{◌≡◌, ◌≤◌, ◌+◌, ℕ, suc, Bool, true, false, List, [], ◌∷◌, ◌++◌, length, refl, ap, sym, subst, ◌∙◌}
use Rattle.std.proofs.Common.{append_assoc, append-nil, arith}
use Rattle.std.specs.Prelude.{codes, reverse}
use Rattle.std.proofs.lemmas.List.{length-append, reverse-reverse}
use Rattle.pq_base.specs.LPresentation.{LPresentation}
use Rattle.pq_base.specs.Limits.{max_class}
use Rattle.pq_base.specs.Lines.{text_of_lines}
use Rattle.pq_base.specs.Prime.{IsOffered}
use Rattle.pq_base.proofs.LineLaws.{text_of_lines-append}
use Rattle.answer_text.specs.AnswerPlaces.{prime_line, class_line}
use Rattle.answer_text.proofs.Splits.{avoids}
use Rattle.derivation_log.specs.declared.source.Run.TheVariants.{Iterated, Whole}
use Rattle.derivation_log.specs.Certificates.{StepLines, has_two_runs}
use Rattle.derivation_log.specs.CertificateForms.{are_steps_in}
use Rattle.cert_text.specs.declared.fault.CertFault.{CertFault}
use Rattle.cert_text.specs.declared.fault.CertFault.TheVariants.{Line, NoMemory}
use Rattle.cert_text.specs.CertificateText.{run_line, run_lines, steps_lines, iterated_lines}
use Rattle.answer_text.specs.LineByLine.{Leads, IsFirstBad}
use Rattle.cert_text.specs.CertificatePlaces.{Place, HasForm, IsEnd, Head, IsHead}
use Rattle.cert_text.specs.CertificatePlaces.Place.{in_presentation, for_class, for_run, in_run}
use Rattle.cert_text.specs.CertificatePlaces.HasForm.{prime, first_of_two_runs, second_run}
use Rattle.cert_text.specs.ReadSoFar.{IsBadAt, IsRunRead, AreRunsRead, GoesOnWithP}
use Rattle.cert_text.proofs.lines.FormLaws.{tells_places}
use Rattle.answer_text.proofs.lines.LineByLine.{Leads-append}
use Rattle.answer_text.proofs.lines.FaultSteps.{IsStuck, IsFirstBad-here, IsFirstBad-behind, IsStuck-no_line, IsStuck-line}
use Rattle.cert_text.proofs.lines.RunLeads.{steps-lead}
use Rattle.cert_text.proofs.lines.StuckPlaces.{first_run, no-prime, no-class, no-run}

-- behind lines that lead on
pub IsBadAt-behind : (P Q : Place) (ls : List (List ℕ)) (text rest : List ℕ) (first next : ℕ) (fault : CertFault)
    → Leads Place HasForm P ls Q → text ≡ text_of_lines ls ++ rest → next ≡ first + length ls
    → IsBadAt Q rest next fault → IsBadAt P text first fault
IsBadAt-behind P Q ls text rest first next NoMemory lead e count bad = tt
IsBadAt-behind P Q ls text rest first next (Line n) lead e count bad =
    let k : ℕ = bad.0 in
    let is : n ≡ next + k = bad.1 in (
      length ls + k,
      omega arith,
      subst (λ (t : List ℕ). IsFirstBad Place HasForm IsEnd P t (length ls + k)) (sym e)
          (IsFirstBad-behind Place HasForm IsEnd tells_places P Q ls rest k lead bad.2),
    )

-- behind a line that leads on
pub IsBadAt-next : (P Q : Place) (l text rest : List ℕ) (first next : ℕ) (fault : CertFault) → HasForm P l Q → text ≡ l ++ 10 ∷ rest
    → next ≡ first + 1
    → IsBadAt Q rest next fault → IsBadAt P text first fault
IsBadAt-next P Q l text rest first next fault f e count bad =
    IsBadAt-behind P Q (l ∷ []) text rest first next fault (Q, f, refl) (e ∙ sym (append_assoc l (10 ∷ []) rest)) count bad

-- here
pub IsBadAt-here : (P : Place) (text : List ℕ) (first : ℕ) → IsStuck Place HasForm IsEnd tells_places P text → (IsEnd P → ⊥)
    → IsBadAt P text first (Line first)
IsBadAt-here P text first stuck unfinished =
    (0, omega arith, IsFirstBad-here Place HasForm IsEnd tells_places P text stuck (λ end none. unfinished end))

-- the line of the prime
pub no_line-bad : (P : Place) (text : List ℕ) (first : ℕ) → avoids 10 text ≡ true → (IsEnd P → ⊥) → IsBadAt P text first (Line first)
no_line-bad P text first none unfinished =
    IsBadAt-here P text first (IsStuck-no_line Place HasForm IsEnd tells_places P text none) unfinished

pub line-bad : (P : Place) (text l rest : List ℕ) (first : ℕ) → text ≡ l ++ 10 ∷ rest → avoids 10 l ≡ true
    → ((Q : Place) → HasForm P l Q → ⊥) → (IsEnd P → ⊥) → IsBadAt P text first (Line first)
line-bad P text l rest first cut one none unfinished =
    IsBadAt-here P text first (IsStuck-line Place HasForm IsEnd tells_places P text l rest cut one none) unfinished

pub prime-bad : (L : LPresentation) (text l rest : List ℕ) (first : ℕ) → GoesOnWithP text → text ≡ l ++ 10 ∷ rest → avoids 10 l ≡ true
    → ((p : ℕ) → IsOffered p → ¬ (l ≡ prime_line p))
    → IsBadAt (in_presentation L) text first (Line first)
prime-bad L text l rest first goes_on cut one none =
    line-bad (in_presentation L) text l rest first cut one (no-prime L l (goes_on l rest one cut) none) (λ end. end)

-- and behind it that of the class
pub behind-prime : (L : LPresentation) (p : ℕ) (text rest : List ℕ) (first next : ℕ) (fault : CertFault) → IsOffered p
    → text ≡ prime_line p ++ 10 ∷ rest → next ≡ first + 1
    → IsBadAt (for_class L p) rest next fault → IsBadAt (in_presentation L) text first fault
behind-prime L p text rest first next fault offered cut count bad =
    IsBadAt-next (in_presentation L) (for_class L p) (prime_line p) text rest first next fault (prime L p offered) cut count bad

pub class-bad : (L : LPresentation) (p : ℕ) (text l rest : List ℕ) (first : ℕ) → text ≡ l ++ 10 ∷ rest → avoids 10 l ≡ true
    → ((c : ℕ) → 1 ≤ c → c ≤ max_class → ¬ (l ≡ class_line c))
    → IsBadAt (for_class L p) text first (Line first)
class-bad L p text l rest first cut one none = line-bad (for_class L p) text l rest first cut one (no-class L p l none) (λ end. end)

-- the line of the run that comes first
pub run_line-bad : (H : Head) (two : Bool) (text : List ℕ) (first : ℕ) → has_two_runs H.presentation ≡ two
    → ((rest : List ℕ) → ¬ (text ≡ run_line (first_run two) ++ 10 ∷ rest))
    → IsBadAt (for_run H) text first (Line first)
run_line-bad H two text first e none =
    IsBadAt-here (for_run H) text first (λ l rest Q f cut.
    no-run H l (λ same. none rest (cut ∙ ap (λ (x : List ℕ). x ++ 10 ∷ rest) (same ∙ ap (λ (b : Bool). run_line (first_run b)) e))) Q
    f) (λ end. end)

module _ (H : Head) (head : IsHead H) (iterated : List StepLines) (are : are_steps_in H.presentation H.prime Iterated iterated ≡ true) where
  -- the lines of the first of two runs lead to the second
  pub first-leads : Leads Place HasForm (in_run H Iterated [] []) (steps_lines 0 iterated ++ run_line Whole ∷ [])
      (in_run H Whole iterated [])
  first-leads =
      Leads-append Place HasForm IsEnd tells_places (in_run H Iterated [] []) (in_run H Iterated [] (reverse iterated))
      (in_run H Whole iterated []) (steps_lines 0 iterated) (run_line Whole ∷ [])
      (subst (λ (xs : List StepLines). Leads Place HasForm (in_run H Iterated [] []) (steps_lines 0 iterated) (in_run H Iterated [] xs))
      (append-nil (reverse iterated))
      (steps-lead H head Iterated [] [] iterated are)) (
        in_run H Whole iterated [],
        subst (λ (xs : List StepLines). HasForm (in_run H Iterated [] (reverse iterated)) (run_line Whole) (in_run H Whole xs []))
            (reverse-reverse iterated) (second_run H (reverse iterated)),
        refl,
      )

-- a text of lines, a line and the rest
pub lines-and-line : (text rest l : List ℕ) (ls : List (List ℕ)) → text ≡ text_of_lines ls ++ (l ++ 10 ∷ rest)
    → text ≡ text_of_lines (ls ++ l ∷ []) ++ rest
lines-and-line text rest l ls e =
    e ∙ ap (λ (t : List ℕ). text_of_lines ls ++ t) (sym (append_assoc l (10 ∷ []) rest))
    ∙ sym (append_assoc (text_of_lines ls) (l ++ 10 ∷ []) rest)
    ∙ ap (λ (t : List ℕ). t ++ rest) (sym (text_of_lines-append ls (l ∷ [])))

-- the second of two runs has the fault
pub second-bad : (H : Head) → IsHead H → (text lines rest : List ℕ) (first next number : ℕ) (iterated : List StepLines) (fault : CertFault)
    → has_two_runs H.presentation ≡ true → text ≡ run_line Iterated ++ 10 ∷ lines → next ≡ first + 1
    → IsRunRead H.presentation H.prime Iterated lines next iterated rest number → IsBadAt (in_run H Whole iterated []) rest number fault
    → IsBadAt (for_run H) text first fault
second-bad H head text lines rest first next number iterated fault two cut count read bad =
    IsBadAt-next (for_run H) (in_run H Iterated [] []) (run_line Iterated) text lines first next fault (first_of_two_runs H two) cut count
    (IsBadAt-behind (in_run H Iterated [] []) (in_run H Whole iterated []) (steps_lines 0 iterated ++ run_line Whole ∷ []) lines rest
    next number fault
    (first-leads H head iterated read.steps) (lines-and-line lines rest (run_line Whole) (steps_lines 0 iterated) read.lines)
    counted bad) where
      counted : number ≡ next + length (steps_lines 0 iterated ++ run_line Whole ∷ [])
      counted =
          let longer : length (steps_lines 0 iterated ++ run_line Whole ∷ []) ≡ length (steps_lines 0 iterated) + 1 =
          length-append (steps_lines 0 iterated) (run_line Whole ∷ []) in
          let is : number ≡ next + suc (length (steps_lines 0 iterated)) = read.numbered in
          omega arith

-- one run was read, or two
pub only-run-read : (L : LPresentation) (p : ℕ) (text lines rest : List ℕ) (first next number : ℕ) (iterated whole : List StepLines)
    → has_two_runs L ≡ false → iterated ≡ []
    → text ≡ run_line Whole ++ 10 ∷ lines → next ≡ first + 1 → IsRunRead L p Whole lines next whole rest number
    → AreRunsRead L p text first iterated whole rest number
only-run-read L p text lines rest first next number iterated whole one none cut count read = record {
  one_run = λ e. none;
  iterated_steps = ap (λ (xs : List StepLines). are_steps_in L p Iterated xs) none;
  whole_steps = read.steps;
  lines = lines_are;
  numbered = numbered;
} where
  runs : iterated_lines (has_two_runs L) iterated ++ run_lines Whole whole ≡ run_lines Whole whole
  runs = ap (λ (b : Bool). iterated_lines b iterated ++ run_lines Whole whole) one

  lines_are : text ≡ text_of_lines (iterated_lines (has_two_runs L) iterated ++ run_lines Whole whole) ++ (codes "answer" ++ 10 ∷ rest)
  lines_are =
      cut ∙ ap (λ (t : List ℕ). run_line Whole ++ 10 ∷ t) read.lines
      ∙ sym (append_assoc (run_line Whole) (10 ∷ text_of_lines (steps_lines 0 whole)) (codes "answer" ++ 10 ∷ rest))
      ∙ ap (λ (ls : List (List ℕ)). text_of_lines ls ++ (codes "answer" ++ 10 ∷ rest)) (sym runs)

  numbered : number ≡ first + suc (length (iterated_lines (has_two_runs L) iterated ++ run_lines Whole whole))
  numbered =
      let is : number ≡ next + suc (length (steps_lines 0 whole)) = read.numbered in
      let longer : length (iterated_lines (has_two_runs L) iterated ++ run_lines Whole whole) ≡ suc (length (steps_lines 0 whole)) =
      ap (λ (ls : List (List ℕ)). length ls) runs in
      omega arith

pub two-runs-read : (L : LPresentation) (p : ℕ) (text lines middle rest : List ℕ) (first next between number : ℕ)
    (iterated whole : List StepLines) → has_two_runs L ≡ true
    → text ≡ run_line Iterated ++ 10 ∷ lines → next ≡ first + 1 → IsRunRead L p Iterated lines next iterated middle between
    → IsRunRead L p Whole middle between whole rest number
    → AreRunsRead L p text first iterated whole rest number
two-runs-read L p text lines middle rest first next between number iterated whole two cut count read more = record {
  one_run = λ one. let bad : true ≡ false = sym two ∙ one in cc;
  iterated_steps = read.steps;
  whole_steps = more.steps;
  lines = lines_are;
  numbered = numbered;
} where
  runs : iterated_lines (has_two_runs L) iterated ++ run_lines Whole whole ≡ run_lines Iterated iterated ++ run_lines Whole whole
  runs = ap (λ (b : Bool). iterated_lines b iterated ++ run_lines Whole whole) two

  whole_are : middle ≡ text_of_lines (steps_lines 0 whole) ++ (codes "answer" ++ 10 ∷ rest)
  whole_are = more.lines

  lines_are : text ≡ text_of_lines (iterated_lines (has_two_runs L) iterated ++ run_lines Whole whole) ++ (codes "answer" ++ 10 ∷ rest)
  lines_are =
      cut ∙ ap (λ (t : List ℕ). run_line Iterated ++ 10 ∷ t)
      (read.lines ∙ ap (λ (t : List ℕ). text_of_lines (steps_lines 0 iterated) ++ (run_line Whole ++ 10 ∷ t)) whole_are)
      ∙ grouped (run_line Iterated) (run_line Whole) (steps_lines 0 iterated) (steps_lines 0 whole) (codes "answer" ++ 10 ∷ rest)
      ∙ ap (λ (ls : List (List ℕ)). text_of_lines ls ++ (codes "answer" ++ 10 ∷ rest)) (sym runs) where
        grouped : (a b : List ℕ) (ls ks : List (List ℕ)) (t : List ℕ)
            → a ++ 10 ∷ (text_of_lines ls ++ (b ++ 10 ∷ (text_of_lines ks ++ t))) ≡ text_of_lines ((a ∷ ls) ++ (b ∷ ks)) ++ t
        grouped a b ls ks t = simp (text_of_lines-append, append_assoc)

  numbered : number ≡ first + suc (length (iterated_lines (has_two_runs L) iterated ++ run_lines Whole whole))
  numbered =
      let is : number ≡ between + suc (length (steps_lines 0 whole)) = more.numbered in
      let before : between ≡ next + suc (length (steps_lines 0 iterated)) = read.numbered in
      let longer : length (iterated_lines (has_two_runs L) iterated ++ run_lines Whole whole)
      ≡ length (run_lines Iterated iterated ++ run_lines Whole whole) = ap (λ (ls : List (List ℕ)). length ls) runs in
      let parts : length (run_lines Iterated iterated ++ run_lines Whole whole) ≡ suc (length (steps_lines 0 iterated)) + suc
      (length (steps_lines 0 whole)) =
      length-append (run_lines Iterated iterated) (run_lines Whole whole) in
      omega arith
