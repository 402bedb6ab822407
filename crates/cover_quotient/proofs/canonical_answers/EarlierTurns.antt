-- The turns of the next answer at the classes before its last are those of the answer.
use Rattle.std.proofs.Common.{◌≡◌, ℕ, zero, suc, ◌+◌, ◌-◌, ◌<◌, ◌≤◌, Bool, not, List, [], ◌∷◌, ◌++◌, get_or, length, filter, inl, inr, ap}
use Rattle.std.proofs.Common.{ap₂, sym, ◌∙◌, arith}
use Rattle.std.specs.List.{All}
use Rattle.std.proofs.lemmas.List.Elements.{All-head, All-tail, All-append, All-filter}
use Rattle.pq_base.specs.Answer.{Answer, Definition as Source, definition_at}
use Rattle.pq_base.specs.Answer.Definition.{image, commutator, power}
use Rattle.pq_base.specs.Canonical.{is_among, all_commutators, all_powers, all_images, is_qualifying, preferred, want_order, rank_up_to}
use Rattle.pq_base.specs.Canonical.{new_count, unit, up_to_class, DefinesNext, DefinesNone, AreMet}
use Rattle.p_cover.specs.RowedAnswer.{RowedAnswer, IsRowedAnswer}
use Rattle.p_cover.specs.CoverLaws.{IsSource}
use Rattle.p_cover.proofs.WantMembers.{all_commutators-sources, all_powers-sources, all_images-sources}
use Rattle.p_cover.proofs.SourceNumbers.{source-by_place}
use Rattle.cover_quotient.specs.NextAnswer.{next_answer}
use Rattle.cover_quotient.proofs.canonical_answers.ClassesByWeight.{rank-within}
use Rattle.cover_quotient.proofs.next_answers.NextEntries.{old-definition, allowed-same, part-same}

-- the want order at any class holds relations and images alone
preferred-sources : (A : Answer) (k : ℕ) → All (IsSource A) (preferred A k)
preferred-sources A zero = all_images-sources A
preferred-sources A (suc k) =
    let cs = all_commutators A.presentation.rank in
    let ps = all_powers A.presentation.rank in
    let now = is_qualifying A (suc k) in
    let later : Source → Bool = λ d. not (is_qualifying A (suc k) d) in
    All-append (IsSource A) (filter now cs) (filter now ps ++ (filter later cs ++ (filter later ps ++ all_images (length A.names))))
    (All-filter now (IsSource A) cs (all_commutators-sources A))
    (All-append (IsSource A) (filter now ps) (filter later cs ++ (filter later ps ++ all_images (length A.names)))
    (All-filter now (IsSource A) ps (all_powers-sources A))
    (All-append (IsSource A) (filter later cs) (filter later ps ++ all_images (length A.names))
    (All-filter later (IsSource A) cs (all_commutators-sources A))
    (All-append (IsSource A) (filter later ps) (all_images (length A.names))
    (All-filter later (IsSource A) ps (all_powers-sources A))
    (all_images-sources A))))

pub wanted-sources : (A : Answer) (k : ℕ) → All (IsSource A) (want_order A k)
wanted-sources A k = All-filter (λ d. not (is_among d A.definitions)) (IsSource A) (preferred A k) (preferred-sources A k)

-- sources of the generators up to a class
source-whole : (A : Answer) (k : ℕ) → rank_up_to A k ≤ A.presentation.rank → (d : Source) → IsSource (up_to_class A k) d → IsSource A d
source-whole A k l (image i) s = s
source-whole A k l (commutator j i) s = let last = s.2 in (s.0, s.1, omega arith)
source-whole A k l (power j) s = let last = s.1 in (s.0, omega arith)

module _ (Y : RowedAnswer) (is : IsRowedAnswer Y) (sources : List Source) (k : ℕ)
    (start : rank_up_to (next_answer Y sources) k ≡ rank_up_to Y.answer k)
    (stop : rank_up_to (next_answer Y sources) (suc k) ≡ rank_up_to Y.answer (suc k)) where
  abbrev A : Answer
  A = Y.answer

  abbrev N : Answer
  N = next_answer Y sources

  same-count : new_count N k ≡ new_count A k
  same-count = ap₂ (λ (a b : ℕ). a - b) stop start

  same-definition : (g : ℕ) → g < new_count A k → definition_at N (rank_up_to N k + g) ≡ definition_at A (rank_up_to A k + g)
  same-definition g l =
      let fits = rank-within Y.answer is.answer (suc k) in
      ap (λ (r : ℕ). definition_at (next_answer Y sources) (r + g)) start
      ∙ old-definition Y is sources (rank_up_to Y.answer k + g) (omega arith)

  defines-next : (met : ℕ) (d : Source) → IsSource (up_to_class A k) d → DefinesNext A k met d → DefinesNext N k met d
  defines-next met d s h =
      let count = same-count in
      let fits = rank-within Y.answer is.answer k in
      let room = h.one_left in
      record {
        one_left = omega arith;
        defined = same-definition met h.one_left ∙ h.defined;
        new_generator = part-same Y is sources k start stop d s ∙ h.new_generator ∙ ap (λ (c : ℕ). unit c met) (sym same-count);
        allowed = allowed-same Y is sources k d (source-by_place Y.answer is.answer d (source-whole Y.answer k fits d s)) h.allowed;
      }

  defines-none : (met : ℕ) (d : Source) → IsSource (up_to_class A k) d → DefinesNone A k met d → DefinesNone N k met d
  defines-none met d s h = record {
    none_defined = λ g l e.
        let count = same-count in
        let room : g < new_count Y.answer k = omega arith in
        h.none_defined g room (sym (same-definition g room) ∙ e);
    met_alone = λ g l. ap (λ (x : List ℕ). get_or x g 0) (part-same Y is sources k start stop d s) ∙ h.met_alone g l;
  }

  pub turns-kept : (met : ℕ) (ds : List Source) → All (IsSource (up_to_class Y.answer k)) ds → AreMet Y.answer k met ds
      → AreMet (next_answer Y sources) k met ds
  turns-kept met [] all h = h ∙ sym same-count
  turns-kept met (d ∷ ds) all (inl h) =
      inl (
        defines-next met d (All-head (IsSource (up_to_class A k)) d ds all) h.0,
        turns-kept (suc met) ds (All-tail (IsSource (up_to_class A k)) d ds all) h.1,
      )
  turns-kept met (d ∷ ds) all (inr h) =
      inr (
        defines-none met d (All-head (IsSource (up_to_class A k)) d ds all) h.0,
        turns-kept met ds (All-tail (IsSource (up_to_class A k)) d ds all) h.1,
      )
