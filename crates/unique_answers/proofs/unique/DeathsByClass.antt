-- In a canonical and consistent answer that is cut to class k just those words die whose values in the answer lie in level k of its
-- series: the cut answer has class k, and a word whose cut is trivial is a product of generators of weight above k.
use Rattle.std.proofs.Common.{◌≡◌, ℕ, suc, ◌+◌, ◌-◌, ◌<◌, ◌≤◌, ℤ, List, [], ◌∷◌, length, sym, subst, arith}
use Rattle.pq_base.specs.SignedWord.{copies, sub, HasLetters}
use Rattle.pq_base.specs.Presentation.{letter, word_from}
use Rattle.pq_base.specs.Joined.{IsConsistent}
use Rattle.pq_base.specs.Series.{InSeries, HasClass}
use Rattle.pq_base.specs.Answer.{Answer, IsAnswer, weight_at, image_words}
use Rattle.pq_base.specs.Canonical.{rank_up_to, up_to_class, IsCanonical}
use Rattle.pq_base.proofs.words.LetterLaws.{HasLetters-letter, HasLetters-sub}
use Rattle.pq_base.proofs.words.JoinedLaws.{joined-from_equal, joined-sym, joined-trans}
use Rattle.pq_base.proofs.SeriesLaws.{series-nil, series-append, series-copies, series-fall}
use Rattle.pq_base.proofs.WeightLaws.{weights-past_count}
use Rattle.pc_presentation.specs.CutLaws.{cut_word}
use Rattle.pc_presentation.proofs.cuts.CutSides.{series-cut}
use Rattle.pc_presentation.proofs.cuts.Cuts.{cut_words_are_later}
use Rattle.pc_presentation.proofs.rows.Projections.{sub-projection, series-projected}
use Rattle.p_cover.specs.RowedAnswer.{RowedAnswer, IsRowedAnswer, rowed}
use Rattle.p_cover.specs.Covers.{all_sources, cover_on}
use Rattle.p_cover.proofs.PartLaws.{part_of_itself}
use Rattle.p_cover.proofs.CoverRows.{covers_are_rowed_answers}
use Rattle.cover_quotient.proofs.canonical_answers.ClassesByWeight.{rank-within, weights-class}
use Rattle.cover_quotient.proofs.canonical_answers.HeavyTails.{letter-level}
use Rattle.cover_quotient.proofs.stages.ImageNumbers.{AreWords-image_words}
use Rattle.unique_answers.specs.UniqueLaws.{DiesIn}
use Rattle.unique_answers.proofs.unique.CarriedDeaths.{level-joined}
use Rattle.unique_answers.proofs.unique.CutParts.{cut-value}

module _ (A : Answer) (is : IsAnswer A) (canonical : IsCanonical A) where
  -- a generator of weight k + 1 lies in level k, as it does with its tails
  generator-lies : (l k : ℕ) → l < A.presentation.rank → weight_at A l ≡ suc k → InSeries A.presentation k (letter l)
  generator-lies l k b w =
      let X : RowedAnswer = cover_on A (all_sources A) in
      let rows : IsRowedAnswer (cover_on A (all_sources A)) =
      (covers_are_rowed_answers A (all_sources A) is (part_of_itself (all_sources A))).0 in
      subst (InSeries A.presentation k) (sub-projection A.presentation.rank X.width (letter l) (HasLetters-letter A.presentation.rank l b))
      (series-projected (rowed X) rows.presentation k (letter l) (letter-level X rows canonical l k b w))

  module _ (k : ℕ) where
    heavy-lies : (l : ℕ) → rank_up_to A k ≤ l → l < A.presentation.rank → InSeries A.presentation k (letter l)
    heavy-lies l a b =
        let count : length A.weights ≡ A.presentation.rank = is.weight_count in
        let heavy = weights-past_count 1 k A.weights is.weights l a (omega arith) in
        let more : ℕ = weight_at A l - suc k in
        let level : k + more ≡ weight_at A l - 1 = omega arith in
        let weight : weight_at A l ≡ suc (weight_at A l - 1) = omega arith in
        series-fall A.presentation k more (letter l)
        (subst (λ (j : ℕ). InSeries A.presentation j (letter l)) (sym level) (generator-lies l (weight_at A l - 1) b weight))

    -- products of generators of weight above k
    heavy_word-lies : (s : ℕ) (e : List ℕ) → rank_up_to A k ≤ s → s + length e ≤ A.presentation.rank
        → InSeries A.presentation k (word_from s e)
    heavy_word-lies s [] a b = series-nil A.presentation k
    heavy_word-lies s (x ∷ e) a b =
        series-append A.presentation k (copies (letter s) x) (word_from (suc s) e)
        (series-copies A.presentation k (letter s) x (heavy-lies s a (omega arith)))
        (heavy_word-lies (suc s) e (omega arith) (omega arith))

  module _ (consistent : IsConsistent A.presentation) (k : ℕ) (w : List ℤ) where
    letters : HasLetters A.presentation.rank (sub w (image_words A))
    letters = HasLetters-sub A.presentation.rank w (image_words A) (AreWords-image_words A is consistent)

    pub level-from_death : DiesIn (up_to_class A k) w → InSeries A.presentation k (sub w (image_words A))
    level-from_death dies =
        let fits = rank-within A is k in
        let u : List ℤ = sub w (image_words A) in
        let later = cut_words_are_later A.presentation (rank_up_to A k) is.presentation fits u letters
        (joined-trans (joined-from_equal (up_to_class A k).presentation (sym (cut-value A is k w))) dies) in
        let long : length later.exponents ≡ A.presentation.rank - rank_up_to A k = later.normal.count in
        level-joined A.presentation k (word_from (rank_up_to A k) later.exponents) u (joined-sym later.joined) letters
        (heavy_word-lies k (rank_up_to A k) later.exponents (omega arith) (omega arith))

    pub death-from_level : InSeries A.presentation k (sub w (image_words A)) → DiesIn (up_to_class A k) w
    death-from_level s =
        let fits = rank-within A is k in
        let u : List ℤ = sub w (image_words A) in
        let class : HasClass (up_to_class A k).presentation k = weights-class A is canonical.weights k in
        joined-trans (joined-from_equal (up_to_class A k).presentation (cut-value A is k w))
        (class (cut_word (rank_up_to A k) A.presentation u) (series-cut A.presentation is.presentation (rank_up_to A k) fits k u s))
