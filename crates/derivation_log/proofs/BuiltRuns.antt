-- The steps of a certificate build what the held steps with the same lines lead to.
use Rattle.std.proofs.Common.{◌≡◌, ◌≢◌, ◌-◌, ◌<◌, ◌≤◌, ℕ, zero, suc, List, [], ◌∷◌, ◌++◌, get_or, length, refl, ap, ap₂, sym, ◌∙◌, subst}
use Rattle.std.proofs.Common.{arith}
use Rattle.std.proofs.lemmas.List.{get_or-map, length-append, get_or_append_left}
use Rattle.pq_base.specs.LPresentation.{LPresentation}
use Rattle.pq_base.specs.Answer.{Answer}
use Rattle.pc_presentation.specs.Rowed.{RowedPresentation}
use Rattle.pc_presentation.specs.Collection.{State}
use Rattle.pc_presentation.specs.Parts.{trivial_answer}
use Rattle.pc_presentation.specs.declared.overlap.Overlap.{Overlap}
use Rattle.p_cover.specs.Covers.{CoverOf}
use Rattle.cover_quotient.specs.NextAnswer.{eliminated}
use Rattle.derivation_log.specs.declared.source.Run.{Run}
use Rattle.derivation_log.specs.HeldSteps.{HeldStep}
use Rattle.derivation_log.specs.HeldRuns.{IsHeldStep, kept_by, AreHeldSteps}
use Rattle.derivation_log.specs.Certificates.{StepLines, Certificate, steps_of, step_of}
use Rattle.derivation_log.specs.CertificateRuns.{kept_in, next_where, next_by, answer_after, cover_at, kept_at}
use Rattle.derivation_log.specs.HeldLines.{held_lines, IsTold, AreTold, AreLinesOf}
use Rattle.derivation_log.specs.CertificateParts.{IsNotExtra}
use Rattle.derivation_log.proofs.HeldCombinations.{held_lines_make_what_the_basis_makes}

-- where a tail is kept the next answer is another, and where none is, the same
pub next_where-kept : (ts : List ℕ) (A N : Answer) → ts ≢ [] → next_where ts A N ≡ N
next_where-kept [] A N some = absurd (some refl)
next_where-kept (t ∷ ts) A N some = refl

pub next_where-none : (ts : List ℕ) (A N : Answer) → ts ≡ [] → next_where ts A N ≡ A
next_where-none [] A N none = refl
next_where-none (t ∷ ts) A N none = cc

module _ (L : LPresentation) (meaning : RowedPresentation → State → ℕ → State) (cover : Answer → CoverOf)
    (tested : Answer → Overlap → Type 0) (same_answer : (A : Answer) → (cover A).answer ≡ A) where
  -- the answer after some of the steps
  abbrev pub answer_of : Answer → List HeldStep → ℕ → Answer
  answer_of A ss zero = A
  answer_of A [] (suc k) = A
  answer_of A (s ∷ ss) (suc k) = answer_of (eliminated (cover A) s.rows) ss k

  -- what held steps say of one of them
  pub record IsKeptStep (A : Answer) (s : HeldStep) : Type 0 where
    pub is : IsHeldStep L meaning (cover A) (tested A) s
    pub kept : kept_by (cover A) s ≢ []

  pub held-at : (ss : List HeldStep) (A B : Answer) (k : ℕ) (d : HeldStep) → AreHeldSteps L meaning cover tested A ss B → k < length ss
      → IsKeptStep (answer_of A ss k) (get_or ss k d)
  held-at [] A B k d held l = absurd (omega arith)
  held-at (s ∷ ss) A B zero d held l = record { is = held.0; kept = held.1 }
  held-at (s ∷ ss) A B (suc k) d held l = held-at ss (eliminated (cover A) s.rows) B k d held.2 (omega arith)

  answer_of-last : (ss : List HeldStep) (A B : Answer) → AreHeldSteps L meaning cover tested A ss B → answer_of A ss (length ss) ≡ B
  answer_of-last [] A B held = held
  answer_of-last (s ∷ ss) A B held = answer_of-last ss (eliminated (cover A) s.rows) B held.2

  answer_of-next : (ss : List HeldStep) (A : Answer) (k : ℕ) (d : HeldStep) → k < length ss
      → answer_of A ss (suc k) ≡ eliminated (cover (answer_of A ss k)) (get_or ss k d).rows
  answer_of-next [] A k d l = absurd (omega arith)
  answer_of-next (s ∷ ss) A zero d l = refl
  answer_of-next (s ∷ ss) A (suc k) d l = answer_of-next ss (eliminated (cover A) s.rows) k d (omega arith)

  pub told-at : (ss : List HeldStep) (k : ℕ) (d : HeldStep) → AreTold ss → k < length ss → IsTold (get_or ss k d)
  told-at [] k d told l = absurd (omega arith)
  told-at (s ∷ ss) zero d told l = told.0
  told-at (s ∷ ss) (suc k) d told l = told-at ss k d told.1 (omega arith)

  -- one step of lines
  next-kept : (A : Answer) (s : HeldStep) → IsKeptStep A s → IsTold s → next_by (cover A) (held_lines s) ≡ eliminated (cover A) s.rows
  next-kept A s step told =
      (held_lines_make_what_the_basis_makes (cover A) s told step.is.prime step.is.width).next
      ∙ next_where-kept (kept_by (cover A) s) (cover A).answer (eliminated (cover A) s.rows) step.kept

  pub next-none : (A : Answer) (s : HeldStep) → IsHeldStep L meaning (cover A) (tested A) s → kept_by (cover A) s ≡ [] → IsTold s
      → next_by (cover A) (held_lines s) ≡ A
  next-none A s is none told =
      (held_lines_make_what_the_basis_makes (cover A) s told is.prime is.width).next
      ∙ next_where-none (kept_by (cover A) s) (cover A).answer (eliminated (cover A) s.rows) none ∙ same_answer A

  -- the certificate's run has the lines of these steps, each of which keeps a tail, and of more behind them
  module _ (c : Certificate) (run : Run) (kept more : List HeldStep) (B : Answer) (lines : AreLinesOf (steps_of c run) (kept ++ more))
      (held : AreHeldSteps L meaning cover tested (trivial_answer c.prime c.presentation.names) kept B) where
    abbrev pub start : Answer
    start = trivial_answer c.prime c.presentation.names

    abbrev pub none : HeldStep
    none = record { sources = []; prime = 0; width = 0; added = []; rows = [] }

    pub line-at : (k : ℕ) → k < length (kept ++ more) → step_of c run (suc k) ≡ held_lines (get_or (kept ++ more) k none)
    line-at k l =
        let place : suc k - 1 ≡ k = omega arith in
        let empty : StepLines = record { sources = []; tails = [] } in
        ap (λ (i : ℕ). get_or (steps_of c run) i empty) place
        ∙ ap (λ (ls : List StepLines). get_or ls k empty) lines.are
        ∙ get_or-map held_lines (kept ++ more) k none empty l

    shorter : (k : ℕ) → k < length kept → k < length (kept ++ more)
    shorter k l = let long = length-append kept more in omega (arith, long, l)

    pub step-is : (k : ℕ) → k < length kept → step_of c run (suc k) ≡ held_lines (get_or kept k none)
    step-is k l = line-at k (shorter k l) ∙ ap held_lines (get_or_append_left kept more none k l)

    pub step-told : (k : ℕ) → k < length kept → IsTold (get_or kept k none)
    step-told k l = subst IsTold (get_or_append_left kept more none k l) (told-at (kept ++ more) k none lines.told (shorter k l))

    pub built : (k : ℕ) → k ≤ length kept → answer_after cover c run k ≡ answer_of start kept k
    built zero l = refl
    built (suc k) l =
        let before : k < length kept = omega (arith, l) in
        ap₂ (λ (A : Answer) (s : StepLines). next_by (cover A) s) (built k (omega arith)) (step-is k before)
        ∙ next-kept (answer_of start kept k) (get_or kept k none) (held-at kept start B k none held before) (step-told k before)
        ∙ sym (answer_of-next kept start k none before)

    pub built-kept : answer_after cover c run (length kept) ≡ B
    built-kept = built (length kept) (omega arith) ∙ answer_of-last kept start B held

    -- the cover of a step, and what it keeps
    pub cover-is : (k : ℕ) → k ≤ length kept → cover_at cover c run (suc k) ≡ cover (answer_of start kept k)
    cover-is k l =
        let place : suc k - 1 ≡ k = omega arith in
        ap cover (ap (answer_after cover c run) place ∙ built k l)

    keeps-some : (k : ℕ) → k < length kept → kept_at cover c run (suc k) ≢ []
    keeps-some k l =
        let step = held-at kept start B k none held l in
        let made = held_lines_make_what_the_basis_makes (cover (answer_of start kept k)) (get_or kept k none)
        (step-told k l) step.is.prime step.is.width in
        λ e. step.kept (sym made.kept ∙ sym (ap₂ kept_in (cover-is k (omega (arith, l))) (step-is k l)) ∙ e)

    -- each step up to the one behind these has only steps before it that keep a tail
    pub not_extra : (k : ℕ) → k ≤ length kept → suc k ≤ c.class → IsNotExtra cover c run (suc k)
    not_extra k l within = record { class = within; earlier = earlier } where
      earlier : (j : ℕ) → 1 ≤ j → j < suc k → kept_at cover c run j ≢ []
      earlier zero first before = absurd (omega arith)
      earlier (suc j) first before = keeps-some j (omega arith)
