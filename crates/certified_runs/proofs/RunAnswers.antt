-- What a run builds are answers, and each step keeps tails that may be kept, within the limit on ranks: where the last answer is one.
use Rattle.std.proofs.Common.{◌≡◌, ◌≢◌, ◌⊎◌, ℕ, zero, suc, ◌+◌, ◌-◌, ◌<◌, ◌≤◌, List, [], ◌∷◌, ◌++◌, length, get_or, refl, ap, sym, ◌∙◌}
use Rattle.std.proofs.Common.{subst, arith, inl, inr, ⊎_elim, length-append}
use Rattle.std.specs.List.{All}
use Rattle.std.proofs.lemmas.Bool.{cases_lt}
use Rattle.std.proofs.lemmas.List.{append-nil, length-map, get_or-append-add}
use Rattle.std.proofs.lemmas.List.Elements.{All-nil}
use Rattle.pq_base.specs.Limits.{max_rank}
use Rattle.pq_base.specs.LPresentation.{LPresentation, AreDistinct}
use Rattle.pq_base.specs.Prime.{IsOffered}
use Rattle.pq_base.specs.Answer.{Answer, IsAnswer, class_of}
use Rattle.pq_base.proofs.PrimeLaws.{offered-two}
use Rattle.fp_echelon.specs.Reduced.{IsReduced}
use Rattle.pc_presentation.specs.Collection.{plain_push}
use Rattle.pc_presentation.specs.Parts.{trivial_answer}
use Rattle.pc_presentation.specs.declared.overlap.Overlap.{Overlap}
use Rattle.p_cover.specs.Covers.{CoverOf, all_sources}
use Rattle.p_cover.proofs.PartLaws.{part_of_itself}
use Rattle.cover_quotient.specs.AnswerLaws.{IsBasisOver, IsNextAnswer}
use Rattle.cover_quotient.specs.Defining.{MayBeKept}
use Rattle.cover_quotient.specs.NextAnswer.{sources_at, kept_sources, eliminated}
use Rattle.cover_quotient.specs.Stages.{full_cover_of}
use Rattle.cover_quotient.proofs.next_answers.AnswerLaws.{next_answers_are_answers}
use Rattle.cover_quotient.proofs.stages.FirstStages.{trivial_answers_are_stages}
use Rattle.derivation_log.specs.declared.source.Run.{Run}
use Rattle.derivation_log.specs.HeldSteps.{HeldStep}
use Rattle.derivation_log.specs.HeldRuns.{IsHeldStep, kept_by, AreHeldSteps, AreStoppedSteps}
use Rattle.derivation_log.specs.HeldLines.{held_lines, IsTold, AreLinesOf}
use Rattle.derivation_log.specs.Certificates.{StepLines, Certificate, steps_of, step_of}
use Rattle.derivation_log.specs.CertificateRuns.{kept_in, cover_at}
use Rattle.derivation_log.specs.CertificateParts.{full_kind, GiveAnswer}
use Rattle.derivation_log.proofs.HeldCombinations.{held_lines_make_what_the_basis_makes}
use Rattle.derivation_log.proofs.BuiltRuns.{answer_of, IsKeptStep, held-at, told-at, line-at, step-is, step-told, cover-is}
use Rattle.certified_runs.proofs.Extensions.{IsShaped, Extends, answer-shaped, extends-self, extends-trans, shaped-next, extends-next}
use Rattle.certified_runs.proofs.KeptSources.{kept-may_be_kept, kept-few}

some-length : (ks : List ℕ) → ks ≢ [] → 1 ≤ length ks
some-length [] some = absurd (some refl)
some-length (k ∷ ks) some = omega arith

-- the one source of what an answer is covered by
abbrev own : (A : Answer) → (full_cover_of A).answer ≡ A
own A = refl

-- a step that keeps no tail gives its answer again
stopped-gives : (L : LPresentation) (A : Answer) (test : Overlap → Type 0) (s : HeldStep) → IsTold s
    → IsHeldStep L plain_push (full_cover_of A) test s → kept_by (full_cover_of A) s ≡ [] → A.presentation.rank ≤ max_rank
    → GiveAnswer full_kind (full_cover_of A) (held_lines s)
stopped-gives L A test s told held none small =
    let same : kept_in (full_cover_of A) (held_lines s) ≡ [] =
    (held_lines_make_what_the_basis_makes (full_cover_of A) s told held.prime held.width).kept ∙ none in
    let nothing : length (kept_in (full_cover_of A) (held_lines s)) ≡ 0 = ap (λ (ks : List ℕ). length ks) same in
    record {
      limit = omega arith;
      may_keep =
          subst (All (MayBeKept A (class_of A))) (sym (ap (λ (ks : List ℕ). sources_at ks (all_sources A)) same))
          (All-nil (MayBeKept A (class_of A)));
    }

module _ (tested : Answer → Overlap → Type 0) (L : LPresentation) (c : Certificate) (run : Run) (kept more : List HeldStep) (B : Answer)
    (lines : AreLinesOf (steps_of c run) (kept ++ more))
    (held : AreHeldSteps L plain_push full_cover_of tested (trivial_answer c.prime c.presentation.names) kept B)
    (offered : IsOffered c.prime) (answer : IsAnswer B) (names : B.names ≡ c.presentation.names) where
  abbrev start : Answer
  start = trivial_answer c.prime c.presentation.names

  abbrev none : HeldStep
  none = record { sources = []; prime = 0; width = 0; added = []; rows = [] }

  -- the answer after some steps, and the step from it
  abbrev a : ℕ → Answer
  a k = answer_of L plain_push full_cover_of tested own (trivial_answer c.prime c.presentation.names) kept k

  abbrev s : ℕ → HeldStep
  s k = get_or kept k (record { sources = []; prime = 0; width = 0; added = []; rows = [] })

  abbrev C : ℕ → CoverOf
  C k = full_cover_of (a k)

  step-at : (k : ℕ) → k < length kept → IsKeptStep L plain_push full_cover_of tested own (a k) (s k)
  step-at k l = held-at L plain_push full_cover_of tested own kept start B k none held l

  some-kept : (k : ℕ) → k < length kept → 1 ≤ length (kept_by (C k) (s k))
  some-kept k l = some-length (kept_by (C k) (s k)) (step-at k l).kept

  answer-next : (ss : List HeldStep) (A : Answer) (k : ℕ) → k < length ss
      → answer_of L plain_push full_cover_of tested own A ss (suc k)
      ≡ eliminated (full_cover_of (answer_of L plain_push full_cover_of tested own A ss k)) (get_or ss k none).rows
  answer-next [] A k l = absurd (omega arith)
  answer-next (t ∷ ss) A zero l = refl
  answer-next (t ∷ ss) A (suc k) l = answer-next ss (eliminated (full_cover_of A) t.rows) k (omega arith)

  next-is : (k : ℕ) → k < length kept → a (suc k) ≡ eliminated (C k) (s k).rows
  next-is k l = answer-next kept start k l

  answer-last : (ss : List HeldStep) (A : Answer) → AreHeldSteps L plain_push full_cover_of tested A ss B
      → answer_of L plain_push full_cover_of tested own A ss (length ss) ≡ B
  answer-last [] A all = all
  answer-last (t ∷ ss) A all = answer-last ss (eliminated (full_cover_of A) t.rows) all.2

  last-is : a (length kept) ≡ B
  last-is = answer-last kept start held

  first-answer : IsAnswer (trivial_answer c.prime c.presentation.names)
  first-answer =
      let e : length B.names ≡ length c.presentation.names = ap (λ (ns : List (List ℕ)). length ns) names in
      let some = answer.some_name in
      let limit = answer.name_limit in
      (trivial_answers_are_stages c.presentation c.prime offered (omega arith) (omega arith)
      (subst (λ (ns : List (List ℕ)). AreDistinct ns) names answer.distinct)).answer

  shaped : (k : ℕ) → k ≤ length kept → IsShaped (a k)
  shaped zero l = answer-shaped start first-answer
  shaped (suc k) l = subst IsShaped (sym (next-is k (omega arith))) (shaped-next (C k) (s k).rows (shaped k (omega arith)))

  -- the last answer extends each before it, by how many steps are left
  extends-left : (m k : ℕ) → k + m ≡ length kept → Extends (a k).presentation.rank (a k) B
  extends-left zero k e =
      let same : length kept ≡ k = omega arith in
      subst (λ (A : Answer). Extends A.presentation.rank A B) (sym (sym (ap a same) ∙ last-is)) (extends-self B.presentation.rank B)
  extends-left (suc m) k e =
      let step : Extends (a k).presentation.rank (a k) (a (suc k)) =
      subst (Extends (a k).presentation.rank (a k)) (sym (next-is k (omega arith)))
      (extends-next (C k) (s k).rows (shaped k (omega arith))) in
      extends-trans (a k).presentation.rank (a (suc k)).presentation.rank (a k) (a (suc k)) B step.rank step
      (extends-left m (suc k) (omega arith))

  next-extends : (k : ℕ) → k < length kept
      → Extends (eliminated (C k) (s k).rows).presentation.rank (eliminated (C k) (s k).rows) B
  next-extends k l =
      let m : ℕ = length kept - suc k in
      subst (λ (A : Answer). Extends A.presentation.rank A B) (next-is k l) (extends-left m (suc k) (omega arith))

  -- the answer after some steps is one, of the prime
  record IsGood (k : ℕ) : Type 0 where
    pub answered : IsAnswer (a k)
    pub prime : (a k).presentation.prime ≡ c.prime

  basis-over : (k : ℕ) → k < length kept → IsGood k → IsBasisOver (C k) (s k).rows
  basis-over k l good =
      let step = (step-at k l).is in
      record {
        cover = record { answer = good.answered; sources = part_of_itself (all_sources (a k)) };
        prime = subst IsOffered (sym good.prime) offered;
        reduced =
            subst (λ (q : ℕ). IsReduced q (length (all_sources (a k))) (s k).rows) step.prime
            (subst (λ (n : ℕ). IsReduced (s k).prime n (s k).rows) step.width step.basis.reduced);
      }

  big-at : (k : ℕ) → IsGood k → 1 < (a k).presentation.prime
  big-at k good = offered-two (a k).presentation.prime (subst IsOffered (sym good.prime) offered)

  may-at : (k : ℕ) (l : k < length kept) (good : IsGood k) → All (MayBeKept (a k) (class_of (a k))) (kept_sources (C k) (s k).rows)
  may-at k l good =
      kept-may_be_kept (C k) (s k).rows (basis-over k l good) (big-at k good) B answer (next-extends k l)
      (extends-next (C k) (s k).rows (answer-shaped (a k) good.answered))

  good-next : (k : ℕ) → k < length kept → IsGood k → IsNextAnswer (a k) (eliminated (C k) (s k).rows)
  good-next k l good =
      next_answers_are_answers (C k) (s k).rows (basis-over k l good) (may-at k l good)
      (kept-few (C k) (s k).rows (basis-over k l good) (big-at k good) B answer (next-extends k l)
      (extends-next (C k) (s k).rows (answer-shaped (a k) good.answered)) (some-kept k l)) (some-kept k l)

  good : (k : ℕ) → k ≤ length kept → IsGood k
  good zero l = record { answered = first-answer; prime = refl }
  good (suc k) l =
      let before = good k (omega arith) in
      let next : a (suc k) ≡ eliminated (C k) (s k).rows = next-is k (omega arith) in
      record {
        answered = subst IsAnswer (sym next) (good-next k (omega arith) before).answer;
        prime = ap (λ (A : Answer). A.presentation.prime) next ∙ before.prime;
      }

  -- a step that keeps a tail gives an answer
  give-at : (k : ℕ) → k < length kept → B.presentation.rank ≤ max_rank → GiveAnswer full_kind (C k) (held_lines (s k))
  give-at k l small =
      let step = (step-at k l).is in
      let told = step-told L plain_push full_cover_of tested own c run kept more B lines held k l in
      let same : kept_in (C k) (held_lines (s k)) ≡ kept_by (C k) (s k) =
      (held_lines_make_what_the_basis_makes (C k) (s k) told step.prime step.width).kept in
      let ranks = (next-extends k l).rank in
      let count : length (kept_in (C k) (held_lines (s k))) ≡ length (kept_by (C k) (s k)) = ap (λ (ks : List ℕ). length ks) same in
      record {
        limit = omega arith;
        may_keep =
            subst (All (MayBeKept (a k) (class_of (a k)))) (sym (ap (λ (ks : List ℕ). sources_at ks (all_sources (a k))) same))
            (may-at k l (good k (omega arith)));
      }

  -- by the certificate's own names of the cover and the lines
  named : (k : ℕ) (A : Answer) (t : HeldStep) → cover_at full_cover_of c run k ≡ full_cover_of A → step_of c run k ≡ held_lines t
      → GiveAnswer full_kind (full_cover_of A) (held_lines t) → GiveAnswer full_kind (cover_at full_cover_of c run k) (step_of c run k)
  named k A t cover line gives =
      subst (λ (D : CoverOf). GiveAnswer full_kind D (step_of c run k)) (sym cover)
      (subst (GiveAnswer full_kind (full_cover_of A)) (sym line) gives)

  pub gives-kept : (k : ℕ) → k < length kept → B.presentation.rank ≤ max_rank
      → GiveAnswer full_kind (cover_at full_cover_of c run (suc k)) (step_of c run (suc k))
  gives-kept k l small =
      named (suc k) (a k) (s k) (cover-is L plain_push full_cover_of tested own c run kept more B lines held k (omega arith))
      (step-is L plain_push full_cover_of tested own c run kept more B lines held k l) (give-at k l small)

  -- the step behind them that keeps none
  pub gives-stopped : (t : HeldStep) (rest : List HeldStep) → more ≡ t ∷ rest → IsHeldStep L plain_push (full_cover_of B) (tested B) t
      → kept_by (full_cover_of B) t ≡ [] → B.presentation.rank ≤ max_rank
      → GiveAnswer full_kind (cover_at full_cover_of c run (suc (length kept))) (step_of c run (suc (length kept)))
  gives-stopped t rest e is none_kept small =
      let long : length (kept ++ more) ≡ length kept + length more = length-append kept more in
      let one : length more ≡ suc (length rest) = ap (λ (ss : List HeldStep). length ss) e in
      let inside : length kept < length (kept ++ more) = omega arith in
      let place : length kept ≡ length kept + 0 = omega arith in
      let last : get_or (kept ++ more) (length kept) none ≡ t =
      ap (λ (k : ℕ). get_or (kept ++ more) k none) place ∙ get_or-append-add kept more 0 none
      ∙ ap (λ (ss : List HeldStep). get_or ss 0 none) e in
      let told : IsTold t =
      subst IsTold last (told-at L plain_push full_cover_of tested own (kept ++ more) (length kept) none lines.told inside) in
      named (suc (length kept)) B t
      (cover-is L plain_push full_cover_of tested own c run kept more B lines held (length kept) (omega arith)
      ∙ ap full_cover_of last-is)
      (line-at L plain_push full_cover_of tested own c run kept more B lines held (length kept) inside ∙ ap held_lines last)
      (stopped-gives L B (tested B) t told is none_kept small)

-- each step of a run
pub give-answers : (tested : Answer → Overlap → Type 0) (L : LPresentation) (c : Certificate) (run : Run) (steps : List HeldStep)
    (B : Answer) → AreLinesOf (steps_of c run) steps
    → (AreHeldSteps L plain_push full_cover_of tested (trivial_answer c.prime c.presentation.names) steps B × (length steps ≡ c.class))
    ⊎ AreStoppedSteps L plain_push full_cover_of tested c.class (trivial_answer c.prime c.presentation.names) steps B
    → IsOffered c.prime → IsAnswer B → B.names ≡ c.presentation.names → B.presentation.rank ≤ max_rank
    → (k : ℕ) → 1 ≤ k → k ≤ length (steps_of c run) → GiveAnswer full_kind (cover_at full_cover_of c run k) (step_of c run k)
give-answers tested L c run steps B lines held offered answer names small zero first l = absurd (omega arith)
give-answers tested L c run steps B lines (inl all) offered answer names small (suc k) first l =
    let long : length (steps_of c run) ≡ length steps = ap (λ (ls : List StepLines). length ls) lines.are ∙ length-map steps held_lines in
    gives-kept tested L c run steps [] B (subst (AreLinesOf (steps_of c run)) (sym (append-nil steps)) lines) all.0 offered answer names k
    (omega arith) small
give-answers tested L c run steps B lines (inr h) offered answer names small (suc k) first l =
    let e : steps ≡ h.earlier ++ h.last ∷ [] = h.all in
    let longer : length steps ≡ length h.earlier + 1 = ap (λ (ss : List HeldStep). length ss) e ∙ length-append h.earlier (h.last ∷ []) in
    let long : length (steps_of c run) ≡ length steps = ap (λ (ls : List StepLines). length ls) lines.are ∙ length-map steps held_lines in
    let here : AreLinesOf (steps_of c run) (h.earlier ++ h.last ∷ []) = subst (AreLinesOf (steps_of c run)) e lines in
    ⊎_elim
    (λ before. gives-kept tested L c run h.earlier (h.last ∷ []) B here h.held offered answer names k before small)
    (λ not_before.
    let last : length h.earlier ≡ k = omega arith in
    subst (λ (j : ℕ). GiveAnswer full_kind (cover_at full_cover_of c run (suc j)) (step_of c run (suc j))) last
    (gives-stopped tested L c run h.earlier (h.last ∷ []) B here h.held offered answer names h.last [] refl h.is_step h.none_kept small))
    (cases_lt k (length h.earlier))
