-- A run whose steps pass builds an answer that all elements that obey its presentation fit up to the class that is asked for: step by
-- step, and where a step keeps no tail, at every later level.
use Rattle.std.proofs.Common.{◌≡◌, ◌≢◌, ◌⊎◌, ◌-◌, ◌<◌, ◌≤◌, ℕ, zero, suc, true, ◌&&◌, List, [], ◌∷◌, get_or, length, refl, ap, sym, ◌∙◌}
use Rattle.std.proofs.Common.{subst, arith, inl, inr}
use Rattle.std.proofs.lemmas.Bool.{and_parts, cases_lt}
use Rattle.pq_base.specs.Limits.{max_class, max_names}
use Rattle.pq_base.specs.LPresentation.{LPresentation, IsLPresentation}
use Rattle.pq_base.specs.Series.{HasClass}
use Rattle.pq_base.specs.Answer.{Answer}
use Rattle.pq_base.specs.Canonical.{up_to_class}
use Rattle.pq_base.proofs.SeriesLaws.{class-weaken}
use Rattle.pq_base.proofs.Restrictions.{restrictions_are_whole}
use Rattle.pc_presentation.specs.Parts.{trivial_answer}
use Rattle.p_cover.specs.Covers.{CoverOf}
use Rattle.cover_quotient.specs.AnswerLaws.{IsNextAnswer}
use Rattle.cover_quotient.specs.Stages.{IsFitted}
use Rattle.cover_quotient.proofs.next_answers.AnswerLaws.{next_answers_keep_the_classes_before}
use Rattle.cover_quotient.proofs.stages.FirstStages.{trivial_answers_are_stages, stages_have_their_class}
use Rattle.cover_quotient.proofs.stages.FittedSteps.{stages_are_fitted}
use Rattle.derivation_log.specs.declared.source.Run.{Run}
use Rattle.derivation_log.specs.declared.source.Run.TheVariants.{Iterated, Whole}
use Rattle.derivation_log.specs.Certificates.{StepLines, Certificate, steps_of, step_of, presentation_of}
use Rattle.derivation_log.specs.CertificateForms.{are_sources_in, are_tail_lines, are_steps_in}
use Rattle.derivation_log.specs.CertificateRuns.{kept_in, answer_after, cover_at, kept_at}
use Rattle.derivation_log.specs.CertificateParts.{CertificateKind, IsNotExtra, AreSumsOfRows, GiveAnswer, built_by}
use Rattle.derivation_log.specs.ValidParts.{KeepsRun}
use Rattle.derivation_log.proofs.PassedRuns.{presentation_of-names}
use Rattle.valid_certificates.specs.ReachedAnswers.{HasForm, IsSoundKind, IsReached, IsHandedOn}
use Rattle.valid_certificates.specs.ValidRuns.{KeepTailsBefore, IsAnswerAfter, IsBuilt}
use Rattle.valid_certificates.proofs.PassedStep.{PassesOver, step_basis, step-over, kept_allowed, step-count, step-makes, step-reaches}
use Rattle.valid_certificates.proofs.PassedStep.{step-is_next, step-stays, step-fitted}

pub words-of : (c : Certificate) (run : Run) → IsLPresentation c.presentation → IsLPresentation (presentation_of c run)
words-of c Iterated is = record {
  distinct = is.distinct;
  fixed_words = tt;
  iterated_words = is.iterated_words;
  endo_words = is.endo_words;
}
words-of c Whole is = is

-- the form of a step
abbrev none : StepLines
none = record { sources = []; tails = [] }

step-form : (L : LPresentation) (p : ℕ) (run : Run) (ss : List StepLines) (k : ℕ) → are_steps_in L p run ss ≡ true → k < length ss
    → are_tail_lines p (length (get_or ss k none).sources) (get_or ss k none).tails 1 (get_or ss k none).tails ≡ true
step-form L p run [] k form l = absurd (omega arith)
step-form L p run (s ∷ ss) zero form l =
    (and_parts (are_tail_lines p (length s.sources) s.tails 1 s.tails) (are_steps_in L p run ss)
    (and_parts (are_sources_in L run s.sources)
    (are_tail_lines p (length s.sources) s.tails 1 s.tails && are_steps_in L p run ss) form).1).0
step-form L p run (s ∷ ss) (suc k) form l =
    step-form L p run ss k
    (and_parts (are_tail_lines p (length s.sources) s.tails 1 s.tails) (are_steps_in L p run ss)
    (and_parts (are_sources_in L run s.sources)
    (are_tail_lines p (length s.sources) s.tails 1 s.tails && are_steps_in L p run ss) form).1).1
    (omega arith)

steps-form : (c : Certificate) (run : Run) → HasForm c → are_steps_in c.presentation c.prime run (steps_of c run) ≡ true
steps-form c Iterated form = form.form.iterated_steps
steps-form c Whole form = form.form.whole_steps

no_tail : (ts : List ℕ) → (ts ≡ []) ⊎ (ts ≢ [])
no_tail [] = inl refl
no_tail (t ∷ ts) = inr (λ e. let h : t ∷ ts ≡ [] = e in cc)

module _ (kind : CertificateKind) (sound : IsSoundKind kind) (Holds : Answer → Type 0) (handed : IsHandedOn kind Holds) (c : Certificate)
    (form : HasForm c) (run : Run) (keeps : KeepsRun kind c run) where
  abbrev L : LPresentation
  L = presentation_of c run

  abbrev after : ℕ → Answer
  after k = answer_after kind.cover c run k

  abbrev cover : ℕ → CoverOf
  cover k = kind.cover (answer_after kind.cover c run k)

  abbrev step : ℕ → StepLines
  step k = step_of c run (suc k)

  cover-is : (k : ℕ) → cover_at kind.cover c run (suc k) ≡ cover k
  cover-is k = let place : suc k - 1 ≡ k = omega arith in ap cover place

  pub kept-is : (k : ℕ) → kept_at kind.cover c run (suc k) ≡ kept_in (cover k) (step k)
  kept-is k = ap (λ (C : CoverOf). kept_in C (step k)) (cover-is k)

  words : IsLPresentation L
  words = words-of c run form.words

  -- the start
  start : IsReached L c.prime 0 (after 0)
  start =
      let stage = trivial_answers_are_stages L c.prime form.offered
      (subst (λ (ns : List (List ℕ)). 1 ≤ length ns) (sym (presentation_of-names c run)) form.some_name)
      (subst (λ (ns : List (List ℕ)). length ns ≤ max_names) (sym (presentation_of-names c run)) form.name_limit)
      words.distinct in
      subst (IsReached L c.prime 0) (ap (trivial_answer c.prime) (presentation_of-names c run))
      (record {
        fitted = stages_are_fitted L c.prime 0 (trivial_answer c.prime L.names) stage;
        shows = refl;
        class = stages_have_their_class L c.prime 0 (trivial_answer c.prime L.names) stage;
      })

  -- a step that passes, over the answer that was reached
  pub passes : (k : ℕ) → k < length (steps_of c run) → IsReached L c.prime k (after k) → Holds (after k)
      → PassesOver kind L c.prime k (cover k) (step k)
  passes k l reached holds =
      let passed = keeps.steps (suc k) (omega arith) l in
      let place : suc k - 1 ≡ k = omega arith in
      record {
        reached = subst (IsReached L c.prime k) (sym (sound.same_answer (after k))) reached;
        owes = handed.owes L c.prime k (after k) reached holds;
        form = subst (λ (i : ℕ). are_tail_lines c.prime (length (get_or (steps_of c run) i none).sources)
            (get_or (steps_of c run) i none).tails 1 (get_or (steps_of c run) i none).tails ≡ true) (sym place)
            (step-form c.presentation c.prime run (steps_of c run) k (steps-form c run form) l);
        sums = subst (λ (C : CoverOf). AreSumsOfRows L C (step k)) (cover-is k) passed.sums;
        rank = subst (λ (C : CoverOf). GiveAnswer kind C (step k)) (cover-is k) passed.rank;
      }

  -- an answer that was reached, cut to its class, is itself
  whole-cut : (k : ℕ) → IsReached L c.prime k (after k) → up_to_class (after k) k ≡ after k
  whole-cut k reached = let shows = reached.shows in restrictions_are_whole (after k) reached.fitted.answer k (omega (arith, shows))

  pub few : (k : ℕ) → k < c.class → k < max_class
  few k l = let limit = form.form.class_limit in omega (arith, limit, l)

  -- what stands after k steps that keep tails
  pub record Stands (k : ℕ) : Type 0 where
    pub is : IsAnswerAfter kind c run k
    pub holds : Holds (answer_after kind.cover c run k)

  -- one step more that keeps a tail
  module _ (k : ℕ) (l : k < length (steps_of c run)) (within : k < c.class) (before : Stands k)
      (keeps_some : kept_in (kind.cover (answer_after kind.cover c run k)) (step_of c run (suc k)) ≢ []) where
    over : PassesOver kind L c.prime k (cover k) (step k)
    over = passes k l before.is.reached before.holds

    next-is : IsNextAnswer (after k) (after (suc k))
    next-is =
        subst (λ (B : Answer). IsNextAnswer B (after (suc k))) (sound.same_answer (after k))
        (step-is_next kind sound L words c.prime k (cover k) (step k) over keeps_some (few k within))

    next-reached : IsReached L c.prime (suc k) (after (suc k))
    next-reached = step-reaches kind sound L words c.prime k (cover k) (step k) over keeps_some (few k within)

    next-holds : Holds (after (suc k))
    next-holds =
        let shows = over.reached.shows in
        let small = few k within in
        subst Holds (sym (step-makes kind sound L words c.prime k (cover k) (step k) over keeps_some))
        (handed.grows (after k) (step_basis kind sound L words c.prime k (cover k) (step k) over).basis
        (step-over kind sound L words c.prime k (cover k) (step k) over) (omega (arith, shows, small))
        (step-count kind sound L words c.prime k (cover k) (step k) over keeps_some)
        (kept_allowed kind sound L words c.prime k (cover k) (step k) over) before.holds)

    cuts-next : (j : ℕ) → j ≤ suc k → up_to_class (after (suc k)) j ≡ after j
    cuts-next j h = elim (cases_lt j (suc k)) [
      | inl earlier ↦
          let shows = before.is.reached.shows in
          next_answers_keep_the_classes_before (after k) (after (suc k)) next-is j (omega (arith, shows, earlier))
          ∙ before.is.cuts j (omega (arith, earlier))
      | inr last ↦
          let same : suc k ≡ j = omega (arith, last, h) in
          subst (λ (i : ℕ). up_to_class (after (suc k)) i ≡ after i) same (whole-cut (suc k) next-reached)
    ]

    after-next : Stands (suc k)
    after-next = record { is = record { reached = next-reached; cuts = cuts-next }; holds = next-holds }

  after-start : Stands 0
  after-start = record {
    is = record {
      reached = start;
      cuts = λ j l.
          let same : 0 ≡ j = omega arith in subst (λ (i : ℕ). up_to_class (after 0) i ≡ after i) same (whole-cut 0 start);
    };
    holds = handed.start c.prime c.presentation.names;
  }

  -- so after all first steps that keep tails
  pub answers-after : (k : ℕ) → k ≤ length (steps_of c run) → k ≤ c.class → KeepTailsBefore kind c run k → Stands k
  answers-after zero l within kept = after-start
  answers-after (suc k) l within kept =
      after-next k l within (answers-after k (omega arith) (omega arith) (λ j first last. kept j first (omega arith)))
      (λ e. kept (suc k) (omega arith) (omega arith) (kept-is k ∙ e))

  -- the last step keeps a tail, or it keeps none
  module _ (m : ℕ) (count : length (steps_of c run) ≡ suc m) where
    extra : IsNotExtra kind.cover c run (suc m)
    extra = (keeps.steps (suc m) (omega arith) (omega arith)).extra

    keep-before : KeepTailsBefore kind c run m
    keep-before j first last = extra.earlier j first (omega arith)

    inside : m < length (steps_of c run)
    inside = omega arith

    within : m < c.class
    within = extra.class

    before-last : Stands m
    before-last = answers-after m (omega arith) (let w = within in omega arith) keep-before

    built-last : built_by kind.cover c run ≡ after (suc m)
    built-last = ap after count

    stopped : kept_in (cover m) (step m) ≡ [] → IsBuilt kind c run
    stopped none_kept =
        let w = within in
        let over = passes m inside before-last.is.reached before-last.holds in
        let stays = step-stays kind sound L words c.prime m (cover m) (step m) over none_kept ∙ sound.same_answer (after m) in
        let last : built_by kind.cover c run ≡ after m = built-last ∙ stays in
        record {
          kept = m;
          limit = omega arith;
          count = let e = count in omega arith;
          keep = keep-before;
          last = last;
          after = before-last.is;
          fitted = subst (IsFitted L c.prime c.class) (sym built-last)
              (step-fitted kind sound L words c.prime m (cover m) (step m) over none_kept c.class (omega arith));
          class = subst (λ (A : Answer). HasClass A.presentation c.class) (sym last)
              (class-weaken (after m).presentation m c.class (omega arith) before-last.is.reached.class);
        }

    full : kept_in (cover m) (step m) ≢ [] → IsBuilt kind c run
    full keeps_some =
        let w = within in
        let last_after = after-next m inside within before-last keeps_some in
        let all : suc m ≡ c.class = elim keeps.short [
          | inl enough ↦ let e = count in omega (arith, enough, e, w)
          | inr short ↦ absurd (keeps_some (sym (kept-is m) ∙ ap (kept_at kind.cover c run) (sym count) ∙ short.1))
        ] in
        record {
          kept = suc m;
          limit = w;
          count = let e = count in omega arith;
          keep = λ j first last. elim (cases_lt j (suc m)) [
            | inl earlier ↦ keep-before j first (omega (arith, earlier))
            | inr here ↦
                let same : suc m ≡ j = omega (arith, here, last) in
                subst (λ (i : ℕ). kept_at kind.cover c run i ≢ []) same (λ e. keeps_some (sym (kept-is m) ∙ e))
          ];
          last = built-last;
          after = last_after.is;
          fitted = subst (IsFitted L c.prime c.class) (sym built-last)
              (subst (λ (k : ℕ). IsFitted L c.prime k (after (suc m))) all last_after.is.reached.fitted);
          class = subst (λ (A : Answer). HasClass A.presentation c.class) (sym built-last)
              (subst (λ (k : ℕ). HasClass (after (suc m)).presentation k) all last_after.is.reached.class);
        }

    built-from_last : IsBuilt kind c run
    built-from_last = elim (no_tail (kept_in (cover m) (step m))) [ inl none_kept ↦ stopped none_kept | inr keeps_some ↦ full keeps_some ]

  some-step : 1 ≤ length (steps_of c run)
  some-step = let one = form.form.class_from_one in elim keeps.short [ inl enough ↦ omega (arith, enough, one) | inr short ↦ short.0 ]

  pub run-builds : IsBuilt kind c run
  run-builds =
      let some = some-step in
      let n : ℕ = length (steps_of c run) in
      let count : length (steps_of c run) ≡ suc (n - 1) = omega arith in
      built-from_last (length (steps_of c run) - 1) count
