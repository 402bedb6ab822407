-- Canonical and consistent answers in which the same words die have one class, and cut to any class the same words die in them.
use Rattle.std.proofs.Common.{◌≡◌, ℕ, ◌<◌, ℤ, List, length, inl, inr, ap, sym, subst, arith}
use Rattle.std.proofs.lemmas.Bool.{cases_lt}
use Rattle.pq_base.specs.SignedWord.{sub, HasLetters}
use Rattle.pq_base.specs.Joined.{Joined, IsConsistent}
use Rattle.pq_base.specs.Series.{InSeries, HasClass}
use Rattle.pq_base.specs.Answer.{Answer, IsAnswer, class_of, image_words}
use Rattle.pq_base.specs.Canonical.{up_to_class, IsCanonical}
use Rattle.pq_base.specs.EntryWords.{spelling_words}
use Rattle.pq_base.proofs.SeriesLaws.{series-letters}
use Rattle.pq_base.proofs.words.LetterLaws.{HasLetters-sub}
use Rattle.pq_base.proofs.words.JoinedLaws.{joined-sym, joined-trans}
use Rattle.cover_quotient.proofs.canonical_answers.ExactClasses.{own-class, canonical_answers_have_no_smaller_class}
use Rattle.cover_quotient.proofs.stages.ImageNumbers.{AreWords-image_words}
use Rattle.unique_answers.specs.UniqueLaws.{DiesIn, KillTheSame}
use Rattle.unique_answers.proofs.unique.CarriedDeaths.{spelled-back, spelled-letters, level-joined, level-carried}
use Rattle.unique_answers.proofs.unique.DeathsByClass.{level-from_death, death-from_level}

-- what is asked of an answer
pub record IsFit (A : Answer) : Type 0 where
  pub answer : IsAnswer A
  pub canonical : IsCanonical A
  pub consistent : IsConsistent A.presentation

turned : (A B : Answer) → KillTheSame A B → KillTheSame B A
turned A B h = record {
  prime = sym h.prime;
  names = sym h.names;
  words = λ w l.
      let both = h.words w (subst (λ (n : ℕ). HasLetters n w) (ap length (sym h.names)) l) in
      (both.1, both.0);
}

module _ (A B : Answer) (a : IsFit A) (b : IsFit B) (same : KillTheSame A B) where
  along : (w : List ℤ) → HasLetters (length A.names) w → DiesIn A w → DiesIn B w
  along w h = (same.words w h).0

  back : (w : List ℤ) → HasLetters (length B.names) w → DiesIn B w → DiesIn A w
  back w h = ((turned A B same).words w h).0

  -- levels hold the values of the same words
  same-level : (k : ℕ) (w : List ℤ) → HasLetters (length A.names) w → InSeries A.presentation k (sub w (image_words A))
      → InSeries B.presentation k (sub w (image_words B))
  same-level k w h s = level-carried A B a.answer b.answer along same.prime b.consistent k w h s

  dies-cut : (k : ℕ) (w : List ℤ) → HasLetters (length A.names) w → DiesIn (up_to_class A k) w → DiesIn (up_to_class B k) w
  dies-cut k w h dies =
      death-from_level B b.answer b.canonical b.consistent k w
      (same-level k w h (level-from_death A a.answer a.canonical a.consistent k w dies))

  -- a class of the second is a class of the first
  class-carried : (k : ℕ) → HasClass B.presentation k → HasClass A.presentation k
  class-carried k class u s =
      let w : List ℤ = sub u (spelling_words A) in
      let letters : HasLetters (length A.names) (sub u (spelling_words A)) = spelled-letters A a.answer u in
      let spelled : Joined A.presentation (sub w (image_words A)) u = spelled-back A a.answer u (series-letters A.presentation k u s) in
      let level : InSeries A.presentation k (sub w (image_words A)) =
      level-joined A.presentation k u (sub w (image_words A)) (joined-sym spelled)
      (HasLetters-sub A.presentation.rank w (image_words A) (AreWords-image_words A a.answer a.consistent)) s in
      joined-trans (joined-sym spelled)
      ((same.words w letters).1 (class (sub w (image_words B)) (same-level k w letters level)))

  no_smaller : ¬ (class_of B < class_of A)
  no_smaller l =
      canonical_answers_have_no_smaller_class A a.answer a.canonical a.consistent (class_of B) l
      (class-carried (class_of B) (own-class B b.answer b.canonical.weights))

pub same-class : (A B : Answer) → IsFit A → IsFit B → KillTheSame A B → class_of A ≡ class_of B
same-class A B a b same = elim (cases_lt (class_of A) (class_of B)) [
  | inl less ↦ absurd (no_smaller B A b a (turned A B same) less)
  | inr rest ↦ elim (cases_lt (class_of B) (class_of A)) [
    | inl less ↦ absurd (no_smaller A B a b same less)
    | inr equal ↦ omega arith
  ]
]

pub cuts-kill_the_same : (A B : Answer) → IsFit A → IsFit B → KillTheSame A B → (k : ℕ) → KillTheSame (up_to_class A k) (up_to_class B k)
cuts-kill_the_same A B a b same k = record {
  prime = same.prime;
  names = same.names;
  words = λ w h. (
    dies-cut A B a b same k w h,
    dies-cut B A b a (turned A B same) k w (subst (λ (n : ℕ). HasLetters n w) (ap length same.names) h),
  );
}
