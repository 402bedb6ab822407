-- A run of held steps over the plain rule, written as lines, passes what is judged of its steps but for the ranks, reaches its class, and
-- builds the answer that the held steps lead to.
use Rattle.std.proofs.Common.{◌≡◌, ◌⊎◌, ◌-◌, ◌<◌, ◌≤◌, ℕ, zero, suc, List, [], ◌∷◌, ◌++◌, get_or, length, refl, ap, ap₂, sym, ◌∙◌, subst}
use Rattle.std.proofs.Common.{arith, inl, inr, append-nil}
use Rattle.std.proofs.lemmas.Bool.{cases_lt}
use Rattle.std.proofs.lemmas.List.{length-append, length-map}
use Rattle.std.proofs.Math.Seq.{get_or-append_seam}
use Rattle.pq_base.specs.LPresentation.{LPresentation}
use Rattle.pq_base.specs.Answer.{Answer}
use Rattle.pc_presentation.specs.Rowed.{RowedPresentation}
use Rattle.pc_presentation.specs.Collection.{State, plain_push}
use Rattle.pc_presentation.specs.Parts.{trivial_answer}
use Rattle.pc_presentation.specs.Tailed.{rowed_presentation}
use Rattle.pc_presentation.specs.declared.overlap.Overlap.{Overlap}
use Rattle.p_cover.specs.Covers.{CoverOf, cover_presentation}
use Rattle.derivation_log.specs.declared.source.Run.{Run}
use Rattle.derivation_log.specs.declared.source.Run.TheVariants.{Iterated, Whole}
use Rattle.derivation_log.specs.declared.source.RowSource.{RowSource}
use Rattle.derivation_log.specs.declared.source.RowSource.TheVariants as source
use Rattle.derivation_log.specs.HeldSteps.{HeldStep}
use Rattle.derivation_log.specs.HeldRuns.{IsTestedSource, IsHeldStep, kept_by, AreHeldSteps, AreStoppedSteps, IsHeldRun}
use Rattle.derivation_log.specs.Certificates.{StepLines, Certificate, steps_of, step_of, presentation_of}
use Rattle.derivation_log.specs.CertificateRuns.{kept_in, next_by, answer_after, cover_at, kept_at}
use Rattle.derivation_log.specs.CertificateParts.{CertificateKind, IsNotExtra, HavePlainRows, AreSumsOfRows, IsNotShort, built_by}
use Rattle.derivation_log.specs.HeldLines.{held_lines, IsTold, AreLinesOf}
use Rattle.derivation_log.proofs.RowSources.{rows_of-at}
use Rattle.derivation_log.proofs.HeldSums.{held_lines_are_sums}
use Rattle.derivation_log.proofs.HeldCombinations.{held_lines_make_what_the_basis_makes}
use Rattle.derivation_log.proofs.BuiltRuns.{answer_of, held-at, next-none, line-at, step-is, step-told, built-kept, cover-is, not_extra}
use Rattle.derivation_log.proofs.BuiltRuns.{told-at}

-- what is judged of step k of a run before the rank
pub record PassesStep (kind : CertificateKind) (c : Certificate) (run : Run) (k : ℕ) : Type 0 where
  pub extra : IsNotExtra kind.cover c run k
  pub rows : HavePlainRows kind (presentation_of c run) (cover_at kind.cover c run k) (step_of c run k)
  pub sums : AreSumsOfRows (presentation_of c run) (cover_at kind.cover c run k) (step_of c run k)

-- of all its steps, and of its end
pub record PassesSteps (kind : CertificateKind) (c : Certificate) (run : Run) (B : Answer) : Type 0 where
  pub steps : (k : ℕ) → 1 ≤ k → k ≤ length (steps_of c run) → PassesStep kind c run k
  pub short : IsNotShort kind.cover c run
  pub builds : built_by kind.cover c run ≡ B

-- the presentation of each run has the same names
pub presentation_of-names : (c : Certificate) (run : Run) → (presentation_of c run).names ≡ c.presentation.names
presentation_of-names c Iterated = refl
presentation_of-names c Whole = refl

abbrev plainly : RowedPresentation → State → ℕ → State
plainly Y = plain_push Y

-- one held step
module _ (kind : CertificateKind) (tested : Answer → Overlap → Type 0)
    (allowed : (A : Answer) (o : Overlap) → tested A o
    → kind.tested A o) (L : LPresentation) (C : CoverOf) (A : Answer) (same : C.answer ≡ A)
    (s : HeldStep) (is : IsHeldStep L plainly C (tested A) s) (told : IsTold s) where
  allowed-source : (r : RowSource) → IsTestedSource (tested A) r → IsTestedSource (kind.tested C.answer) r
  allowed-source (source.Test o) t = subst (λ (B : Answer). kind.tested B o) (sym same) (allowed A o t)
  allowed-source (source.Fixed i) t = tt
  allowed-source (source.Iterated i path) t = tt

  held-rows : HavePlainRows kind L C (held_lines s)
  held-rows = record {
    rows = λ k d l. record {
      row = get_or s.added k [];
      is = rows_of-at L C (plain_push (rowed_presentation (cover_presentation C))) s.sources s.added k d [] is.rows l;
    };
    tested = λ k d l. allowed-source (get_or s.sources k d) (is.tests k d l);
  }

  held-sums : AreSumsOfRows L C (held_lines s)
  held-sums = record { rows = s.added; are = is.rows; lines = held_lines_are_sums C s told is.prime is.width }

module _ (kind : CertificateKind) (same_answer : (A : Answer) → (kind.cover A).answer ≡ A) (tested : Answer → Overlap → Type 0)
    (allowed : (A : Answer) (o : Overlap) → tested A o → kind.tested A o) (c : Certificate) (run : Run) where
  abbrev L : LPresentation
  L = presentation_of c run

  abbrev first : Answer
  first = trivial_answer c.prime c.presentation.names

  -- a held step at its place
  placed : (k : ℕ) (A : Answer) (s : HeldStep) → IsHeldStep L plainly (kind.cover A) (tested A) s → IsTold s
      → cover_at kind.cover c run k ≡ kind.cover A → step_of c run k ≡ held_lines s → IsNotExtra kind.cover c run k
      → PassesStep kind c run k
  placed k A s is told cover line extra = record {
    extra = extra;
    rows = subst (λ (C : CoverOf). HavePlainRows kind L C (step_of c run k)) (sym cover)
        (subst (λ (l : StepLines). HavePlainRows kind L (kind.cover A) l) (sym line)
        (held-rows kind tested allowed L (kind.cover A) A (same_answer A) s is told));
    sums = subst (λ (C : CoverOf). AreSumsOfRows L C (step_of c run k)) (sym cover)
        (subst (λ (l : StepLines). AreSumsOfRows L (kind.cover A) l) (sym line)
        (held-sums kind tested allowed L (kind.cover A) A (same_answer A) s is told));
  }

  module _ (kept more : List HeldStep) (B : Answer) (lines : AreLinesOf (steps_of c run) (kept ++ more))
      (held : AreHeldSteps L plainly kind.cover tested first kept B) where
    abbrev unused : HeldStep
    unused = record { sources = []; prime = 0; width = 0; added = []; rows = [] }

    -- a step that keeps a tail
    passes-kept : (k : ℕ) → k < length kept → suc k ≤ c.class → PassesStep kind c run (suc k)
    passes-kept k l within =
        placed (suc k) (answer_of L plainly kind.cover tested same_answer first kept k) (get_or kept k unused)
        (held-at L plainly kind.cover tested same_answer kept first B k unused held l).is
        (step-told L plainly kind.cover tested same_answer c run kept more B lines held k l)
        (cover-is L plainly kind.cover tested same_answer c run kept more B lines held k (omega (arith, l)))
        (step-is L plainly kind.cover tested same_answer c run kept more B lines held k l)
        (not_extra L plainly kind.cover tested same_answer c run kept more B lines held k (omega (arith, l)) within)

    count : length (steps_of c run) ≡ length (kept ++ more)
    count = ap (λ (ls : List StepLines). length ls) lines.are ∙ length-map (kept ++ more) held_lines

  -- all steps keep a tail, and there is one for each class
  all-kept : (steps : List HeldStep) (B : Answer) → AreLinesOf (steps_of c run) steps
      → AreHeldSteps L plainly kind.cover tested first steps B
      → length steps ≡ c.class → PassesSteps kind c run B
  all-kept steps B lines held full =
      let with_none : AreLinesOf (steps_of c run) (steps ++ []) = subst (AreLinesOf (steps_of c run)) (sym (append-nil steps)) lines in
      let long : length (steps_of c run) ≡ length steps = ap (λ (ls : List StepLines). length ls) lines.are ∙ length-map steps held_lines in
      record {
        steps = λ k from_one l. step-of steps B with_none held k from_one (omega (arith, l, long)) full;
        short = inl (omega (arith, full, long));
        builds = ap (answer_after kind.cover c run) long
            ∙ built-kept L plainly kind.cover tested same_answer c run steps [] B with_none held;
      } where
        step-of : (steps : List HeldStep) (B : Answer) (lines : AreLinesOf (steps_of c run) (steps ++ []))
            (held : AreHeldSteps L plainly kind.cover tested first steps B) (k : ℕ) → 1 ≤ k → k ≤ length steps → length steps ≡ c.class
            → PassesStep kind c run k
        step-of steps B lines held zero from_one l full = absurd (omega arith)
        step-of steps B lines held (suc k) from_one l full = passes-kept steps [] B lines held k (omega (arith, l)) (omega (arith, l, full))

  -- the last step keeps no tail
  module _ (earlier : List HeldStep) (last : HeldStep) (B : Answer) (lines : AreLinesOf (steps_of c run) (earlier ++ last ∷ []))
      (held : AreHeldSteps L plainly kind.cover tested first earlier B) (few : length earlier < c.class)
      (is : IsHeldStep L plainly (kind.cover B) (tested B) last) (none_kept : kept_by (kind.cover B) last ≡ []) where
    long : length (steps_of c run) ≡ suc (length earlier)
    long =
        let two = length-append earlier (last ∷ []) in
        count earlier (last ∷ []) B lines held ∙ omega (arith, two)

    inside : length earlier < length (earlier ++ last ∷ [])
    inside = let two = length-append earlier (last ∷ []) in omega (arith, two)

    last-told : IsTold last
    last-told =
        subst IsTold (get_or-append_seam earlier last [] last)
        (told-at L plainly kind.cover tested same_answer (earlier ++ last ∷ []) (length earlier) last lines.told inside)

    last-line : step_of c run (suc (length earlier)) ≡ held_lines last
    last-line =
        line-at L plainly kind.cover tested same_answer c run earlier (last ∷ []) B lines held (length earlier) inside
        ∙ ap held_lines (get_or-append_seam earlier last [] (record { sources = []; prime = 0; width = 0; added = []; rows = [] }))

    before-last : answer_after kind.cover c run (length earlier) ≡ B
    before-last = built-kept L plainly kind.cover tested same_answer c run earlier (last ∷ []) B lines held

    last-cover : cover_at kind.cover c run (suc (length earlier)) ≡ kind.cover B
    last-cover =
        let place : suc (length earlier) - 1 ≡ length earlier = omega arith in
        ap kind.cover (ap (answer_after kind.cover c run) place ∙ before-last)

    passes-last : PassesStep kind c run (suc (length earlier))
    passes-last =
        placed (suc (length earlier)) B last is last-told last-cover last-line
        (not_extra L plainly kind.cover tested same_answer c run earlier (last ∷ []) B lines held (length earlier) (omega arith)
        (omega (arith, few)))

    passes-each : (k : ℕ) → 1 ≤ k → k ≤ suc (length earlier) → PassesStep kind c run k
    passes-each zero from_one l = absurd (omega arith)
    passes-each (suc k) from_one l = elim (cases_lt k (length earlier)) [
      | inl before ↦ passes-kept earlier (last ∷ []) B lines held k before (omega (arith, before, few))
      | inr after ↦
          let here : length earlier ≡ k = omega (arith, after, l) in
          subst (λ (j : ℕ). PassesStep kind c run (suc j)) here passes-last
    ]

    last-keeps_none : kept_at kind.cover c run (suc (length earlier)) ≡ []
    last-keeps_none =
        ap₂ kept_in last-cover last-line
        ∙ (held_lines_make_what_the_basis_makes (kind.cover B) last last-told is.prime is.width).kept ∙ none_kept

    builds-last : answer_after kind.cover c run (suc (length earlier)) ≡ B
    builds-last =
        ap₂ (λ (A : Answer) (s : StepLines). next_by (kind.cover A) s) before-last last-line
        ∙ next-none L plainly kind.cover tested same_answer B last is none_kept last-told

    all-but-last-kept : PassesSteps kind c run B
    all-but-last-kept = record {
      steps = λ k from_one l. passes-each k from_one (omega (arith, l, long));
      short = inr ((omega (arith, long)), ap (kept_at kind.cover c run) long ∙ last-keeps_none);
      builds = ap (answer_after kind.cover c run) long ∙ builds-last;
    }

  named : (steps : List HeldStep) (B : Answer) → IsHeldRun L plainly kind.cover tested c.prime c.class steps B → (first_of : Answer)
      → first_of ≡ trivial_answer c.prime L.names
      → (AreHeldSteps L plainly kind.cover tested first_of steps B × (length steps ≡ c.class))
      ⊎ AreStoppedSteps L plainly kind.cover tested c.class first_of steps B
  named steps B h first_of same =
      subst (λ (A : Answer). (AreHeldSteps L plainly kind.cover tested A steps B × (length steps ≡ c.class))
      ⊎ AreStoppedSteps L plainly kind.cover tested c.class A steps B) (sym same) h

  pub held-run-passes : (steps : List HeldStep) (B : Answer) → AreLinesOf (steps_of c run) steps
      → IsHeldRun L plainly kind.cover tested c.prime c.class steps B → PassesSteps kind c run B
  held-run-passes steps B lines h =
      elim (named steps B h first (ap (trivial_answer c.prime) (sym (presentation_of-names c run)))) [
        | inl all ↦ all-kept steps B lines all.0 all.1
        | inr stopped ↦
            all-but-last-kept stopped.earlier stopped.last B
            (subst (AreLinesOf (steps_of c run)) stopped.all lines) stopped.held stopped.few
            stopped.is_step stopped.none_kept
      ]
