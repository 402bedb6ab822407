-- Where the words that die in one answer die in another, the substitution of a generator by what it spells in the other carries joined
-- words to joined words, and values of words to their values. So it carries levels of the series.
use Rattle.std.proofs.Common.{◌≡◌, ℕ, zero, suc, ℤ, List, [], ◌∷◌, ◌++◌, length, map, ap, sym, ◌∙◌, subst}
use Rattle.pq_base.specs.SignedWord.{inv, sub, HasLetters}
use Rattle.pq_base.specs.LPresentation.{AreWords}
use Rattle.pq_base.specs.Presentation.{Presentation, IsRelatorOf}
use Rattle.pq_base.specs.Joined.{Joined, IsConsistent}
use Rattle.pq_base.specs.Series.{InSeries}
use Rattle.pq_base.specs.Answer.{Answer, IsAnswer, image_words}
use Rattle.pq_base.specs.EntryWords.{spelling_words}
use Rattle.pq_base.proofs.Generated.{generated}
use Rattle.pq_base.proofs.CarryLaws.{series-sub}
use Rattle.pq_base.proofs.SeriesLaws.{series-joined, series-letters}
use Rattle.pq_base.proofs.words.WordLaws.{sub-append, sub-inv, sub-sub}
use Rattle.pq_base.proofs.words.LetterLaws.{HasLetters-append, HasLetters-inv, HasLetters-sub, HasLetters-relator}
use Rattle.pq_base.proofs.words.JoinedLaws.{joined-from_equal, joined-trans, joined-quotient, joined-from_quotient, relator-joined}
use Rattle.pq_base.proofs.words.SpelledBack.{spelled_words-back}
use Rattle.pq_base.proofs.words.SpellingLetters.{AreWords-spelling_words}
use Rattle.cover_quotient.proofs.stages.ImageNumbers.{AreWords-image_words}
use Rattle.unique_answers.specs.UniqueLaws.{DiesIn}

-- a word in spelled generators has the value of the word
pub spelled-back : (A : Answer) → IsAnswer A → (u : List ℤ) → HasLetters A.presentation.rank u
    → Joined A.presentation (sub (sub u (spelling_words A)) (image_words A)) u
spelled-back A is u h =
    spelled_words-back A.presentation A.presentation.rank (spelling_words A) (image_words A) (generated A is) u h

-- spelled generators are words over the given ones
pub spelled-letters : (A : Answer) → IsAnswer A → (u : List ℤ) → HasLetters (length A.names) (sub u (spelling_words A))
spelled-letters A is u =
    subst (λ (n : ℕ). HasLetters n (sub u (spelling_words A))) is.image_count
    (HasLetters-sub (length A.images) u (spelling_words A) (AreWords-spelling_words A is))

-- every level holds the words over the generators that are joined to one of its own
pub level-joined : (P : Presentation) (k : ℕ) (u v : List ℤ) → Joined P u v → HasLetters P.rank v → InSeries P k u → InSeries P k v
level-joined P zero u v c h s = h
level-joined P (suc k) u v c h s = series-joined P k u v c h s

AreWords-map_sub : (n : ℕ) (ws f : List (List ℤ)) → AreWords n f → AreWords n (map (λ (u : List ℤ). sub u f) ws)
AreWords-map_sub n [] f h = tt
AreWords-map_sub n (w ∷ ws) f h = (HasLetters-sub n w f h, AreWords-map_sub n ws f h)

-- words of one value in the one answer have one value in the other
pub values-carried : (A B : Answer) → ((w : List ℤ) → HasLetters (length A.names) w → DiesIn A w → DiesIn B w)
    → (v w : List ℤ) → HasLetters (length A.names) v → HasLetters (length A.names) w
    → Joined A.presentation (sub v (image_words A)) (sub w (image_words A))
    → Joined B.presentation (sub v (image_words B)) (sub w (image_words B))
values-carried A B dies v w h i c =
    let split : (f : List (List ℤ)) → sub (v ++ inv w) f ≡ sub v f ++ inv (sub w f) =
    λ f. sub-append v (inv w) f ∙ ap (λ (u : List ℤ). sub v f ++ u) (sub-inv w f) in
    joined-from_quotient (sub v (image_words B)) (sub w (image_words B))
    (joined-trans (joined-from_equal B.presentation (sym (split (image_words B))))
    (dies (v ++ inv w) (HasLetters-append (length A.names) v (inv w) h (HasLetters-inv (length A.names) w i))
    (joined-trans (joined-from_equal A.presentation (split (image_words A))) (joined-quotient c))))

module _ (A B : Answer) (a : IsAnswer A) (b : IsAnswer B)
    (dies : (w : List ℤ) → HasLetters (length A.names) w → DiesIn A w → DiesIn B w) where
  -- what the generators of the one spell in the other
  abbrev carried : List (List ℤ)
  carried = map (λ (s : List ℤ). sub s (image_words B)) (spelling_words A)

  carried-word : (u : List ℤ) → sub u carried ≡ sub (sub u (spelling_words A)) (image_words B)
  carried-word u = sym (sub-sub u (spelling_words A) (image_words B))

  relators-carried : (r : List ℤ) → IsRelatorOf A.presentation r → Joined B.presentation (sub r carried) []
  relators-carried r h =
      joined-trans (joined-from_equal B.presentation (carried-word r))
      (dies (sub r (spelling_words A)) (spelled-letters A a r)
      (joined-trans (spelled-back A a r (HasLetters-relator A.presentation a.presentation h)) (relator-joined A.presentation h)))

  module _ (w : List ℤ) (letters : HasLetters (length A.names) w) (inside : HasLetters A.presentation.rank (sub w (image_words A))) where
    value-carried : Joined B.presentation (sub (sub w (image_words A)) carried) (sub w (image_words B))
    value-carried =
        let u : List ℤ = sub w (image_words A) in
        joined-trans (joined-from_equal B.presentation (carried-word u))
        (values-carried A B dies (sub u (spelling_words A)) w (spelled-letters A a u) letters (spelled-back A a u inside))

  module _ (prime : A.presentation.prime ≡ B.presentation.prime) (consistent : IsConsistent B.presentation) (k : ℕ) (w : List ℤ)
      (letters : HasLetters (length A.names) w) where
    pub level-carried : InSeries A.presentation k (sub w (image_words A)) → InSeries B.presentation k (sub w (image_words B))
    level-carried s =
        let words : AreWords B.presentation.rank (image_words B) = AreWords-image_words B b consistent in
        level-joined B.presentation k (sub (sub w (image_words A)) carried) (sub w (image_words B))
        (value-carried w letters (series-letters A.presentation k (sub w (image_words A)) s))
        (HasLetters-sub B.presentation.rank w (image_words B) words)
        (series-sub A.presentation B.presentation carried prime
        (AreWords-map_sub B.presentation.rank (spelling_words A) (image_words B) words)
        relators-carried k (sub w (image_words A)) s)
