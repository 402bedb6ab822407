-- What is found of a step says which of its parts pass.
use Rattle.std.proofs.Common.{◌≡◌, ◌↔◌, ◌≤◌, ◌+◌, ◌-◌, ℕ, zero, suc, Bool, true, IsTrue, Result, Ok, Err, IsErrAnd, IfErr, OnOk, List, []}
use Rattle.std.proofs.Common.{◌∷◌, ◌++◌, get_or, length, ap, ap₂, sym, ◌∙◌, subst, arith}
use Rattle.std.specs.List.{All}
use Rattle.std.proofs.lemmas.List.{length-map, get_or_default}
use Rattle.std.proofs.lemmas.List.Elements.{All-nil, All-cons}
use Rattle.pq_base.specs.Limits.{max_rank}
use Rattle.pq_base.specs.LPresentation.{LPresentation}
use Rattle.pq_base.specs.Answer.{class_of}
use Rattle.fp_rows.specs.Row.{PrimeRow}
use Rattle.pc_presentation.specs.Collection.{plain_push}
use Rattle.pc_presentation.specs.Pcp.{IsTailedPresentation}
use Rattle.pc_presentation.specs.Tailed.{rowed_presentation}
use Rattle.p_cover.specs.Covers.{CoverOf, cover_presentation}
use Rattle.cover_quotient.specs.NextAnswer.{sources_at}
use Rattle.cover_quotient.specs.Defining.{MayBeKept}
use Rattle.cover_quotient.specs.Stages.{full_cover_of}
use Rattle.derivation_log.specs.declared.part.Part.{Part}
use Rattle.derivation_log.specs.declared.part.Part.TheVariants as part
use Rattle.derivation_log.specs.declared.source.Run.{Run}
use Rattle.derivation_log.specs.declared.source.RowSource.{RowSource}
use Rattle.derivation_log.specs.declared.source.RowSource.TheVariants as source
use Rattle.derivation_log.specs.RowSources.{AreRowsOf}
use Rattle.derivation_log.specs.HeldRuns.{IsTestedSource}
use Rattle.derivation_log.specs.Certificates.{TailLine, StepLines, Certificate, steps_of, step_of, presentation_of}
use Rattle.derivation_log.specs.CertificateForms.{are_sources_in, IsCertificate}
use Rattle.derivation_log.specs.CertificateRuns.{kept_in, next_by, answer_after, cover_at, kept_at}
use Rattle.derivation_log.specs.CertificateParts.{full_kind, HasPlainRow, HavePlainRows, IsSumOfRows, AreSumsOfRows, GiveAnswer}
use Rattle.derivation_log.specs.Validity.{Trial, Keeps}
use Rattle.cert_checker.specs.declared.refusal.CheckRefusal.{CheckRefusal}
use Rattle.derivation_log.proofs.RowSources.{rows_of-length}
use Rattle.cert_checker.specs.StepRows.{NamesRelator, entries_of, IsRowFor, ArePlainRows}
use Rattle.cert_checker.specs.SumLines.{IsLineOver}
use Rattle.cert_checker.proofs.judging.BuiltAnswers.{built-prime, built-names, built-class}
use Rattle.cert_checker.specs.Judging.{AllPass, IsRefusedAt, parts_at, BuiltSoFar, HasBuilt}
use Rattle.cert_checker.proofs.found_rows.OneRow.{one_list_of_rows}
use Rattle.cert_checker.proofs.found_rows.SourceRows.{plain_arithmetic}
use Rattle.cert_checker.proofs.judging.StepForms.{have-rows, are-rows, step-sources, step-lines, all-named}
use Rattle.cert_checker.proofs.judging.Judging.{refused-before, refused-behind, one-passes, both-pass}

-- the rank
pub gives-decided : (C : CoverOf) (s : StepLines) (kept : List ℕ) → kept ≡ kept_in C s → C.answer.presentation.rank + length kept ≤ max_rank
    → (b : Bool) → (IsTrue b ↔ All (MayBeKept C.answer (class_of C.answer)) (sources_at kept C.sources))
    → (IsTrue b ↔ GiveAnswer full_kind C s)
gives-decided C s kept is limit b h = (
  (λ t. record {
    limit = subst (λ (ts : List ℕ). C.answer.presentation.rank + length ts ≤ max_rank) is limit;
    may_keep = subst (λ (ts : List ℕ). All (MayBeKept C.answer (class_of C.answer)) (sources_at ts C.sources)) is (h.0 t);
  }),
  (λ gives. h.1 (subst (λ (ts : List ℕ). All (MayBeKept C.answer (class_of C.answer)) (sources_at ts C.sources)) (sym is) gives.may_keep)),
)

-- results of parts that are judged in turn
module _ (c : Certificate) (ts us : List Trial) where
  pub pass-behind : {X : Type 0} (r : Result X CheckRefusal) → AllPass c ts → OnOk r (AllPass c us) → OnOk r (AllPass c (ts ++ us))
  pass-behind (Ok x) before behind = both-pass c ts us before behind
  pass-behind (Err e) before behind = tt

  pub refuse-behind : {X : Type 0} (r : Result X CheckRefusal) → AllPass c ts → IfErr r (IsRefusedAt c us)
      → IfErr r (IsRefusedAt c (ts ++ us))
  refuse-behind (Ok x) before behind = tt
  refuse-behind (Err e) before behind = refused-behind c ts us e before behind

  -- a refusal that is handed on
  pub refuse-before : {X : Type 0} (r : Result X CheckRefusal) (e : CheckRefusal) → IsErrAnd r (λ d. d ≡ e) → IsRefusedAt c ts e
      → IfErr r (IsRefusedAt c (ts ++ us))
  refuse-before (Ok x) e is refused = absurd is
  refuse-before (Err d) e is refused = subst (IsRefusedAt c (ts ++ us)) (sym is) (refused-before c ts us e refused)

pub part-passes : (c : Certificate) (run : Run) (k : ℕ) (p : Part) {X : Type 0} (r : Result X CheckRefusal)
    → OnOk r (Keeps full_kind c run k p) → OnOk r (AllPass c (parts_at run k (p ∷ [])))
part-passes c run k p (Ok x) keeps = one-passes c run k p keeps
part-passes c run k p (Err e) keeps = tt

-- no more is asked of sources by the full kind
tested-all : (ss : List RowSource) → All (IsTestedSource (λ o. Unit {0})) ss
tested-all [] = All-nil (IsTestedSource (λ o. Unit {0}))
tested-all (source.Test o ∷ ss) = All-cons (IsTestedSource (λ o. Unit {0})) (source.Test o) ss tt (tested-all ss)
tested-all (source.Fixed i ∷ ss) = All-cons (IsTestedSource (λ o. Unit {0})) (source.Fixed i) ss tt (tested-all ss)
tested-all (source.Iterated i s ∷ ss) = All-cons (IsTestedSource (λ o. Unit {0})) (source.Iterated i s) ss tt (tested-all ss)

-- sources that have rows
pub have-all : (L : LPresentation) (C : CoverOf) (ss : List RowSource) (xs : List (List ℕ))
    → AreRowsOf L C (plain_push (rowed_presentation (cover_presentation C))) ss xs → All (HasPlainRow L C) ss
have-all L C [] xs rows = All-nil (HasPlainRow L C)
have-all L C (s ∷ ss) [] rows = absurd rows
have-all L C (s ∷ ss) (x ∷ xs) rows =
    All-cons (HasPlainRow L C) s ss (record { row = x; is = rows.0 }) (have-all L C ss xs rows.1)

-- a step over its cover
module _ (c : Certificate) (run : Run) (k : ℕ) (C : CoverOf) (s : StepLines) (cover : C ≡ cover_at full_cover_of c run k)
    (step : s ≡ step_of c run k) (sources : are_sources_in c.presentation run s.sources ≡ true) where
  pub rows-keep : All (HasPlainRow c.presentation C) s.sources → Keeps full_kind c run k part.Row
  rows-keep all =
      subst (λ (D : CoverOf). HavePlainRows full_kind (presentation_of c run) D (step_of c run k)) cover
      (subst (HavePlainRows full_kind (presentation_of c run) C) step
      (record { rows = (have-rows c C run s.sources sources).0 all; tested = tested-all s.sources }))

  pub rows-have : Keeps full_kind c run k part.Row → All (HasPlainRow c.presentation C) s.sources
  rows-have keeps =
      let here = subst (HavePlainRows full_kind (presentation_of c run) C) (sym step)
      (subst (λ (D : CoverOf). HavePlainRows full_kind (presentation_of c run) D (step_of c run k)) (sym cover) keeps) in
      (have-rows c C run s.sources sources).1 here.rows

  module _ (is : IsTailedPresentation (cover_presentation C)) (rows : List PrimeRow)
      (found : ArePlainRows c.presentation C s.sources rows) where
    plain-rows : AreRowsOf (presentation_of c run) C (plain_push (rowed_presentation (cover_presentation C))) s.sources (entries_of rows)
    plain-rows = are-rows c C run s.sources (entries_of rows) sources found.are

    pub sums-decided : (b : Bool) → (IsTrue b ↔ All (IsSumOfRows C (entries_of rows)) s.tails)
        → (IsTrue b ↔ Keeps full_kind c run k part.Sum)
    sums-decided b h = (
      (λ t. subst (λ (D : CoverOf). AreSumsOfRows (presentation_of c run) D (step_of c run k)) cover
          (subst (AreSumsOfRows (presentation_of c run) C) step
          (record { rows = entries_of rows; are = plain-rows; lines = h.0 t }))),
      (λ keeps.
          let here = subst (AreSumsOfRows (presentation_of c run) C) (sym step)
          (subst (λ (D : CoverOf). AreSumsOfRows (presentation_of c run) D (step_of c run k)) (sym cover) keeps) in
          h.1 (subst (λ (xs : List (List ℕ)). All (IsSumOfRows C xs) s.tails)
          (one_list_of_rows C (plain_push (rowed_presentation (cover_presentation C))) (plain_arithmetic (cover_presentation C) is)
          (presentation_of c run) s.sources here.rows (entries_of rows) here.are plain-rows) here.lines)),
    )

-- the step of a certificate over the cover of the answer before it
module _ (c : Certificate) (is : IsCertificate c) (run : Run) (k : ℕ) (first : 1 ≤ k) (last : k ≤ length (steps_of c run)) (C : CoverOf)
    (s : StepLines) (cover : C ≡ cover_at full_cover_of c run k) (step : s ≡ step_of c run k) where
  pub over-names : (L : LPresentation) → L ≡ c.presentation → C.answer.names ≡ L.names
  over-names L same =
      ap (λ (D : CoverOf). D.answer.names) cover ∙ built-names c run (k - 1) ∙ ap (λ (M : LPresentation). M.names) (sym same)

  pub over-prime : C.answer.presentation.prime ≡ c.prime
  over-prime = ap (λ (D : CoverOf). D.answer.presentation.prime) cover ∙ built-prime c run (k - 1)

  pub over-class : class_of C.answer ≤ k - 1
  over-class = subst (λ (D : CoverOf). class_of D.answer ≤ k - 1) (sym cover) (built-class c run (k - 1))

  pub over-sources : are_sources_in c.presentation run s.sources ≡ true
  over-sources =
      subst (λ (t : StepLines). are_sources_in c.presentation run t.sources ≡ true) (sym step) (step-sources c is run k first last)

  pub over-named : (L : LPresentation) → L ≡ c.presentation → (ss : List RowSource) → ss ≡ s.sources → All (NamesRelator L) ss
  over-named L same ss these =
      subst (λ (M : LPresentation). All (NamesRelator M) ss) (sym same)
      (subst (All (NamesRelator c.presentation)) (sym these) (all-named c.presentation run s.sources over-sources))

  pub over-lines : (n : ℕ) → n ≡ length s.sources → (ls : List TailLine) → ls ≡ s.tails
      → All (IsLineOver C.answer.presentation.prime n) ls
  over-lines n count ls these =
      subst (All (IsLineOver C.answer.presentation.prime n)) (sym these)
      (subst (λ (m : ℕ). All (IsLineOver C.answer.presentation.prime m) s.tails) (sym count)
      (subst (λ (p : ℕ). All (IsLineOver p (length s.sources)) s.tails) (sym over-prime)
      (subst (λ (t : StepLines). All (IsLineOver c.prime (length t.sources)) t.tails) (sym step) (step-lines c is run k first last))))

  -- rows that were found
  module _ (L : LPresentation) (same : L ≡ c.presentation) (ss : List RowSource) (these : ss ≡ s.sources) (rows given : List PrimeRow)
      (found : ArePlainRows L C ss rows) (are : given ≡ rows) where
    found-here : ArePlainRows c.presentation C s.sources rows
    found-here = subst (λ (ts : List RowSource). ArePlainRows c.presentation C ts rows) these
        (subst (λ (M : LPresentation). ArePlainRows M C ss rows) same found)

    pub over-shapes : All (IsRowFor C) given
    over-shapes = subst (All (IsRowFor C)) (sym are) found.shapes

    pub over-count : length given ≡ length s.sources
    over-count =
        ap (λ (rs : List PrimeRow). length rs) are ∙ sym (length-map rows (λ (r : PrimeRow). r.entries))
        ∙ sym (rows_of-length c.presentation C (plain_push (rowed_presentation (cover_presentation C))) s.sources (entries_of rows)
        found-here.are)

    pub over-rows : Keeps full_kind c run k part.Row
    over-rows = rows-keep c run k C s cover step over-sources (have-all c.presentation C s.sources (entries_of rows) found-here.are)

    pub over-sums : IsTailedPresentation (cover_presentation C) → (ls : List TailLine) → ls ≡ s.tails → (b : Bool)
        → (IsTrue b ↔ All (IsSumOfRows C (entries_of given)) ls) → (IsTrue b ↔ Keeps full_kind c run k part.Sum)
    over-sums tailed ls lines b h =
        sums-decided c run k C s cover step over-sources tailed rows found-here b
        (subst (λ (ts : List TailLine). IsTrue b ↔ All (IsSumOfRows C (entries_of rows)) ts) lines
        (subst (λ (rs : List PrimeRow). IsTrue b ↔ All (IsSumOfRows C (entries_of rs)) ls) are h))

  -- and where a source has none
  pub over-none : (L : LPresentation) → L ≡ c.presentation → (ss : List RowSource) → ss ≡ s.sources → ¬ All (HasPlainRow L C) ss
      → ¬ Keeps full_kind c run k part.Row
  over-none L same ss these none keeps =
      none (subst (λ (M : LPresentation). All (HasPlainRow M C) ss) (sym same)
      (subst (All (HasPlainRow c.presentation C)) (sym these) (rows-have c run k C s cover step over-sources keeps)))

-- step k is at place k - 1
pub step-here : (c : Certificate) (run : Run) (k : ℕ) (ls : List StepLines) (s : StepLines) → 1 ≤ k → k ≤ length (steps_of c run)
    → ls ≡ steps_of c run → s ≡ get_or ls (k - 1) s → s ≡ step_of c run k
step-here c run k ls s first last same is =
    is ∙ ap (λ (ts : List StepLines). get_or ts (k - 1) s) same
    ∙ get_or_default (steps_of c run) (k - 1) s (record { sources = []; tails = [] }) (omega arith)

-- what a step builds
pub built-next : (c : Certificate) (run : Run) (k : ℕ) (C : CoverOf) (s : StepLines) → 1 ≤ k → C ≡ cover_at full_cover_of c run k
    → s ≡ step_of c run k → (b : BuiltSoFar) → b.answer ≡ next_by C s → (IsTrue b.stopped ↔ (kept_in C s ≡ [])) → HasBuilt c run k b
built-next c run zero C s first cover step b answer stopped = absurd (omega arith)
built-next c run (suc k) C s first cover step b answer stopped =
    let place : suc k - 1 ≡ k = omega arith in
    let kept : kept_in C s ≡ kept_at full_cover_of c run (suc k) = ap₂ kept_in cover step in
    record {
      answer = answer ∙ ap₂ next_by cover step
          ∙ ap (λ (i : ℕ). next_by (full_cover_of (answer_after full_cover_of c run i)) (step_of c run (suc k))) place;
      stopped = ((λ t. (first, sym kept ∙ stopped.0 t)), (λ stops. stopped.1 (kept ∙ stops.1)));
    }

-- the cover of the next step
pub cover-next : (c : Certificate) (run : Run) (k : ℕ) (b : BuiltSoFar) (C : CoverOf) → HasBuilt c run k b → C ≡ full_cover_of b.answer
    → C ≡ cover_at full_cover_of c run (k + 1)
cover-next c run k b C built is =
    let place : k ≡ k + 1 - 1 = omega arith in
    is ∙ ap full_cover_of (built.answer ∙ ap (answer_after full_cover_of c run) place)
