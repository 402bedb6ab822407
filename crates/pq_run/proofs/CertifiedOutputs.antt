-- A full log that was told of a tower by the plain rule gives a valid certificate of the tower's answer.
use Rattle.std.proofs.Common.{◌≡◌, ◌≢◌, ◌<◌, ◌≤◌, ℕ, Bool, true, false, ltb, ◌&&◌, ℤ, List, [], ◌∷◌, length, refl, ap, sym, subst, arith}
use Rattle.std.proofs.lemmas.Bool.{ltb-true, ltb-false}
use Rattle.pq_base.specs.Limits.{max_rank}
use Rattle.pq_base.specs.Prime.{IsOffered}
use Rattle.pq_base.specs.LPresentation.{LPresentation, IsLPresentation, part}
use Rattle.pq_base.specs.LPresentation.Part.{iterated_part}
use Rattle.pq_base.specs.Answer.{Answer}
use Rattle.pq_base.specs.Largest.{HasOrder}
use Rattle.pq_base.proofs.PrimeLaws.{offered-two}
use Rattle.pc_presentation.specs.Collection.{plain_push}
use Rattle.derivation_log.specs.declared.source.Run.{Run}
use Rattle.derivation_log.specs.declared.source.Run.TheVariants.{Iterated, Whole}
use Rattle.derivation_log.specs.HeldSteps.{KeepsTheSame}
use Rattle.derivation_log.specs.HeldLines.{LinesOfRuns, AreLinesOf, KeepsLines, HoldsFitting}
use Rattle.derivation_log.specs.Certificates.{StepLines, Certificate, has_two_runs, steps_of}
use Rattle.derivation_log.specs.CertificateForms.{first_version}
use Rattle.derivation_log.specs.CertificateParts.{full_kind}
use Rattle.certified_runs.specs.RunLaws.{NamesFewSources, IsRunToLargest, HasFirstRun, IsMadeOfRuns}
use Rattle.certified_runs.proofs.GivenRuns.{run-given, rank-within}
use Rattle.certified_runs.proofs.FittingRuns.{whole-fits, iterated-fits}
use Rattle.certified_runs.proofs.FewSources.{runs_name_few_sources}
use Rattle.certified_runs.proofs.CertifiedRuns.{certificates_of_runs_are_valid}
use Rattle.tower.specs.StepKinds.{IsTested}
use Rattle.tower.specs.Answers.{IsQuotient}
use Rattle.tower.specs.LoggedRuns.{HoldsRun}
use Rattle.tower.specs.TwoRuns.{TakesTwoRuns, HasSmallPart, HoldsPart}
use Rattle.pq_run.specs.Output.{Certifies}

-- a log that keeps no step yet
abbrev pub none_kept : LinesOfRuns
none_kept = record { iterated = []; whole = [] }

pub keeps-none : (run : Run) → KeepsLines none_kept run []
keeps-none Iterated = record { are = refl; told = tt }
keeps-none Whole = record { are = refl; told = tt }

-- lines of no step are none
no-lines : (lines : List StepLines) → AreLinesOf lines [] → lines ≡ []
no-lines lines none = none.are

-- both kinds of lists, or one is empty
some-list : (X : Type 0) (xs : List X) → ltb 0 (length xs) ≡ true → xs ≢ []
some-list X [] e same = absurd (let h = ltb-true 0 (length {A = X} []) e in omega arith)
some-list X (x ∷ xs) e same = cc

no-list : (X : Type 0) (xs : List X) → ltb 0 (length xs) ≡ false → xs ≡ []
no-list X [] e = refl
no-list X (x ∷ xs) e = absurd (let h = ltb-false 0 (length (x ∷ xs)) e in omega arith)

two_runs : (L : LPresentation) → has_two_runs L ≡ true → TakesTwoRuns L
two_runs L e = both (ltb 0 (length L.fixed)) (ltb 0 (length L.endos)) refl refl e
  where
    both : (a b : Bool) → ltb 0 (length L.fixed) ≡ a → ltb 0 (length L.endos) ≡ b → (a && b) ≡ true → TakesTwoRuns L
    both true true x y e = (some-list (List ℤ) L.fixed x, some-list (List (List ℤ)) L.endos y)
    both true false x y e = cc
    both false b x y e = cc

not_two_runs : (L : LPresentation) → has_two_runs L ≡ false → ¬ TakesTwoRuns L
not_two_runs L e takes = either (ltb 0 (length L.fixed)) (ltb 0 (length L.endos)) refl refl e
  where
    either : (a b : Bool) → ltb 0 (length L.fixed) ≡ a → ltb 0 (length L.endos) ≡ b → (a && b) ≡ false → ⊥
    either true true x y e = cc
    either true false x y e = takes.1 (no-list (List (List ℤ)) L.endos y)
    either false b x y e = takes.0 (no-list (List ℤ) L.fixed x)

-- what the log holds after a tower
pub record HoldsTower (L : LPresentation) (p c : ℕ) (log : LinesOfRuns) (A : Answer) : Type 0 where
  pub quotient : IsQuotient L p c A
  pub small : HasSmallPart L p c
  pub other : ¬ TakesTwoRuns L → KeepsTheSame (KeepsLines none_kept Iterated) (KeepsLines log Iterated)
  pub held : HoldsRun true L plain_push p c (KeepsLines log Whole) A
  pub held_part : TakesTwoRuns L → HoldsPart true L plain_push p c (KeepsLines log Iterated)

-- where it kept no step before
pub holds-tower : (before log : LinesOfRuns) (L : LPresentation) (p c : ℕ) (A : Answer) → before ≡ none_kept → IsQuotient L p c A
    → HasSmallPart L p c
    → (¬ TakesTwoRuns L → KeepsTheSame (KeepsLines before Iterated) (KeepsLines log Iterated))
    → (KeepsLines before Whole [] → HoldsRun true L plain_push p c (KeepsLines log Whole) A)
    → (TakesTwoRuns L → KeepsLines before Iterated [] → HoldsPart true L plain_push p c (KeepsLines log Iterated)) → HoldsTower L p c log A
holds-tower before log L p c A none quotient small other held held_part = record {
  quotient = quotient;
  small = small;
  other = subst (λ (l : LinesOfRuns). ¬ TakesTwoRuns L → KeepsTheSame (KeepsLines l Iterated) (KeepsLines log Iterated)) none other;
  held = held (subst (λ (l : LinesOfRuns). KeepsLines l Whole []) (sym none) (keeps-none Whole));
  held_part = λ takes. held_part takes (subst (λ (l : LinesOfRuns). KeepsLines l Iterated []) (sym none) (keeps-none Iterated));
}

module _ (L : LPresentation) (p c : ℕ) (log : LinesOfRuns) (A : Answer) (offered : IsOffered p) (some : 1 ≤ c) (words : IsLPresentation L)
    (holds : HoldsTower L p c log A) where
  few : (r : ℕ) → max_rank < r → ¬ HasOrder L p c r
  few r large = holds.quotient.small c r (omega arith) large

  few_part : TakesTwoRuns L → (r : ℕ) → max_rank < r → ¬ HasOrder (part L iterated_part) p c r
  few_part takes r large = holds.small takes c r (omega arith) large

  pub one_run : has_two_runs L ≡ false → log.iterated ≡ []
  one_run e = no-lines log.iterated ((holds.other (not_two_runs L e) []).0 (keeps-none Iterated))

  fits_iterated : (two : Bool) → has_two_runs L ≡ two → HoldsFitting L p Iterated (KeepsLines log Iterated)
  fits_iterated true e =
      let takes = two_runs L e in
      let first = holds.held_part takes in
      record {
        steps = first.holds.steps;
        kept = first.holds.kept;
        fit =
            iterated-fits L plain_push (IsTested true) p c first.holds.steps first.answer first.holds.made
            (rank-within (part L iterated_part) p c first.answer (offered-two p offered) first.largest (few_part takes));
      }
  fits_iterated false e = record {
    steps = [];
    kept = (holds.other (not_two_runs L e) []).0 (keeps-none Iterated);
    fit = tt;
  }

  pub fits : (run : Run) → HoldsFitting L p run (KeepsLines log run)
  fits Iterated = fits_iterated (has_two_runs L) refl
  fits Whole = record {
    steps = holds.held.steps;
    kept = holds.held.kept;
    fit =
        whole-fits L plain_push (IsTested true) p c holds.held.steps A holds.held.made
        (rank-within L p c A (offered-two p offered) holds.quotient.largest few);
  }

  abbrev C : Certificate
  C = first_version L p c log.iterated log.whole A

  whole_run : IsRunToLargest C Whole A
  whole_run =
      run-given (IsTested true) C Whole A holds.held.steps offered some holds.held.kept holds.held.made holds.quotient.largest few

  first_run : has_two_runs L ≡ true → HasFirstRun C
  first_run e =
      let takes = two_runs L e in
      let first = holds.held_part takes in
      record {
        answer = first.answer;
        run =
            run-given (IsTested true) C Iterated first.answer first.holds.steps offered some first.holds.kept first.holds.made first.largest
            (few_part takes);
      }

  -- no step names more sources than its cover has tails
  few_iterated : (two : Bool) → has_two_runs L ≡ two → (k : ℕ) → 1 ≤ k → k ≤ length log.iterated
      → NamesFewSources full_kind.cover C Iterated k
  few_iterated true e k first last = let run = first_run e in runs_name_few_sources C Iterated run.answer run.run.made k first last
  few_iterated false e k first last =
      let none : length log.iterated ≡ 0 = ap (λ (ls : List StepLines). length ls) (one_run e) in
      absurd (omega arith)

  few_sources : (run : Run) (k : ℕ) → 1 ≤ k → k ≤ length (steps_of C run) → NamesFewSources full_kind.cover C run k
  few_sources Iterated k first last = few_iterated (has_two_runs L) refl k first last
  few_sources Whole k first last = runs_name_few_sources C Whole A whole_run.made k first last

  made : IsMadeOfRuns C
  made = record { words = words; offered = offered; whole = whole_run; iterated = first_run }

  first_certifies : Certifies L p c C
  first_certifies = record {
    presentation = refl;
    prime = refl;
    asked = refl;
    valid = certificates_of_runs_are_valid C made;
    few_sources = few_sources;
    largest = holds.quotient.largest;
    canonical = holds.quotient.canonical;
    class = holds.quotient.class;
    exact = holds.quotient.exact;
  }

  -- so does the certificate that is made of the log
  pub certifies : (D : Certificate) → D ≡ first_version L p c log.iterated log.whole A → Certifies L p c D
  certifies D e = subst (Certifies L p c) (sym e) first_certifies
