-- The right sides of a presentation that is cut after some generator, and their words: it is a presentation, and leaving
-- out the letters that are cut off carries its relators to trivial words.
use Rattle.std.proofs.Common.{◌≡◌, ℕ, zero, suc, ◌+◌, ◌-◌, ◌<◌, ◌≤◌, ℤ, List, [], ◌∷◌, ◌++◌, get_or, length, map, take, replicate, refl, ap}
use Rattle.std.proofs.Common.{ap₂, sym, ◌∙◌, subst, arith, inl, inr}
use Rattle.std.proofs.lemmas.List.{length-take-le, length-map}
use Rattle.std.proofs.lemmas.Bool.{cases_lt}
use Rattle.std.proofs.Math.ListN.{get_or-map}
use Rattle.pq_base.specs.SignedWord.{inv, copies, comm, sub}
use Rattle.pq_base.specs.Presentation.{Presentation, IsPresentation, IsLaterSide, IsRelatorOf, letter, word_from, normal_word, power_side}
use Rattle.pq_base.specs.Presentation.{commutator_side, power_word, commutator_word}
use Rattle.pq_base.specs.Presentation.IsRelatorOf.{power_relator, commutator_relator}
use Rattle.pq_base.specs.Joined.{Joined}
use Rattle.pq_base.specs.Series.{InSeries}
use Rattle.pq_base.specs.Canonical.{cut_powers, cut_commutators, first_generators}
use Rattle.pq_base.proofs.words.WordLaws.{copies-nil, sub-append, sub-inv, sub-copies, sub-comm, sub-letter, word_from-zeros-append}
use Rattle.pq_base.proofs.words.LetterLaws.{HasLetters-letter, HasLetters-copies, HasLetters-comm}
use Rattle.pq_base.proofs.words.JoinedLaws.{joined-from_equal, joined-trans, joined-quotient, inv-append-joined, power-joined}
use Rattle.pq_base.proofs.words.JoinedLaws.{commutator-joined}
use Rattle.pq_base.proofs.words.WordGroup.{joined-sub}
use Rattle.pq_base.proofs.CarryLaws.{series-sub}
use Rattle.fp_rows.proofs.BelowLaws.{AllBelow-take}
use Rattle.pc_presentation.specs.RowedLaws.{projection}
use Rattle.pc_presentation.proofs.rows.Projections.{get_or-projection, get_or-projection_past, AreWords-projection, sub-projection}
use Rattle.pc_presentation.proofs.rows.Projections.{sub-row_word}
use Rattle.pc_presentation.specs.CutLaws.{cut_word, CutsCarryJoinedWords, CutsArePresentations}

-- sides that are cut
take-nil : (r : ℕ) → take {A = ℕ} r [] ≡ []
take-nil zero = refl
take-nil (suc r) = refl

get_or-cut_powers : (n i r : ℕ) (sides : List (List ℕ)) → suc i + r ≡ n → get_or (cut_powers n sides) i [] ≡ take r (get_or sides i [])
get_or-cut_powers zero i r sides e = absurd (omega arith)
get_or-cut_powers (suc n) i r [] e = sym (take-nil r)
get_or-cut_powers (suc n) zero r (s ∷ sides) e = let same : n ≡ r = omega arith in ap (λ (k : ℕ). take k s) same
get_or-cut_powers (suc n) (suc i) r (s ∷ sides) e = get_or-cut_powers n i r sides (omega arith)

length-cut_powers : (n : ℕ) (sides : List (List ℕ)) → n ≤ length sides → length (cut_powers n sides) ≡ n
length-cut_powers zero sides l = refl
length-cut_powers (suc n) [] l = absurd (omega arith)
length-cut_powers (suc n) (s ∷ sides) l = ap suc (length-cut_powers n sides (omega arith))

get_or-cut_commutators : (n j r : ℕ) (rows : List (List (List ℕ))) → suc j + r ≡ n
    → get_or (cut_commutators n rows) j [] ≡ map (take r) (get_or rows j [])
get_or-cut_commutators zero j r rows e = absurd (omega arith)
get_or-cut_commutators (suc n) j r [] e = refl
get_or-cut_commutators (suc n) zero r (row ∷ rows) e = let same : n ≡ r = omega arith in ap (λ (k : ℕ). map (take k) row) same
get_or-cut_commutators (suc n) (suc j) r (row ∷ rows) e = get_or-cut_commutators n j r rows (omega arith)

length-cut_commutators : (n : ℕ) (rows : List (List (List ℕ))) → n ≤ length rows → length (cut_commutators n rows) ≡ n
length-cut_commutators zero rows l = refl
length-cut_commutators (suc n) [] l = absurd (omega arith)
length-cut_commutators (suc n) (row ∷ rows) l = ap suc (length-cut_commutators n rows (omega arith))

-- words of exponents without the letters after the first m generators
sub-beyond : (m q k : ℕ) (e : List ℕ) → m ≤ k → sub (word_from k e) (projection m q) ≡ []
sub-beyond m q k e l =
    let place : k ≡ m + (k - m) = omega arith in
    ap (λ (n : ℕ). sub (word_from n e) (projection m q)) place
    ∙ ap (λ (w : List ℤ). sub w (projection m q)) (sym (word_from-zeros-append m (k - m) e))
    ∙ sub-row_word m q (replicate (k - m) 0 ++ e)

sub-letter_beyond : (m q i : ℕ) → m ≤ i → sub (letter i) (projection m q) ≡ []
sub-letter_beyond m q i l =
    let place : i ≡ m + (i - m) = omega arith in
    sub-letter i (projection m q) ∙ ap (λ (n : ℕ). get_or (projection m q) n []) place ∙ get_or-projection_past m q (i - m)

pub sub-word_from : (m q k r : ℕ) (e : List ℕ) → k + r ≡ m → sub (word_from k e) (projection m q) ≡ word_from k (take r e)
sub-word_from m q k zero e c = sub-beyond m q k e (omega arith)
sub-word_from m q k (suc r) [] c = refl
sub-word_from m q k (suc r) (x ∷ e) c =
    let stays : sub (letter k) (projection m q) ≡ letter k = sub-letter k (projection m q) ∙ get_or-projection m q k (omega arith) in
    sub-append (copies (letter k) x) (word_from (suc k) e) (projection m q)
    ∙ ap₂ (λ (u v : List ℤ). u ++ v)
    (sub-copies (letter k) x (projection m q) ∙ ap (λ (w : List ℤ). copies w x) stays)
    (sub-word_from m q (suc k) r e (omega arith))

-- the words of several lists
pub images-cut : (m q : ℕ) (es : List (List ℕ))
    → map (λ (u : List ℤ). sub u (projection m q)) (map normal_word es) ≡ map normal_word (map (take m) es)
images-cut m q [] = refl
images-cut m q (e ∷ es) =
    ap₂ (λ (w : List ℤ) (ws : List (List ℤ)). w ∷ ws) (sub-word_from m q 0 m e (omega arith)) (images-cut m q es)

module _ (P : Presentation) (is : IsPresentation P) (m : ℕ) (within : m ≤ P.rank) where
  abbrev C : Presentation
  C = first_generators m P

  abbrev f : List (List ℤ)
  f = projection m (P.rank - m)

  -- right sides
  pub power_side-cut : (i : ℕ) → i < m → power_side (first_generators m P) i ≡ take (m - suc i) (power_side P i)
  power_side-cut i l = get_or-cut_powers m i (m - suc i) P.powers (omega arith)

  commutators-cut : (j : ℕ) → j < m → get_or (first_generators m P).commutators j [] ≡ map (take (m - suc j)) (get_or P.commutators j [])
  commutators-cut j l = get_or-cut_commutators m j (m - suc j) P.commutators (omega arith)

  pub commutator_side-cut : (j i : ℕ) → j < m → commutator_side (first_generators m P) j i ≡ take (m - suc j) (commutator_side P j i)
  commutator_side-cut j i l =
      ap (λ (row : List (List ℕ)). get_or row i []) (commutators-cut j l)
      ∙ ap (λ (d : List ℕ). get_or (map (take (m - suc j)) (get_or P.commutators j [])) i d) (sym (take-nil (m - suc j)))
      ∙ get_or-map (take (m - suc j)) (get_or P.commutators j []) i []

  side-cut : (i : ℕ) (e : List ℕ) → i < m → IsLaterSide P i e → IsLaterSide (first_generators m P) i (take (m - suc i) e)
  side-cut i e l h =
      let c = h.count in
      let long : length (take (m - suc i) e) ≡ m - suc i = length-take-le (m - suc i) e (omega arith) in
      record { count = omega arith; below = AllBelow-take P.prime (m - suc i) e h.below }

  pub cut-presentation : IsPresentation (first_generators m P)
  cut-presentation =
      let a = is.power_count in
      let b = is.commutator_count in
      record {
        prime = is.prime;
        power_count = length-cut_powers m P.powers (omega arith);
        power_sides = λ i l.
            subst (λ (e : List ℕ). IsLaterSide C i e) (sym (power_side-cut i l))
            (side-cut i (power_side P i) l (is.power_sides i (omega arith)));
        commutator_count = length-cut_commutators m P.commutators (omega arith);
        commutator_counts = λ j l.
            ap length (commutators-cut j l)
            ∙ length-map (get_or P.commutators j []) (take (m - suc j)) ∙ is.commutator_counts j (omega arith);
        commutator_sides = λ j i l b.
            subst (λ (e : List ℕ). IsLaterSide C j e) (sym (commutator_side-cut j i l))
            (side-cut j (commutator_side P j i) l (is.commutator_sides j i (omega arith) b));
      }

  -- both sides of a relation, cut, are joined
  power-cut : (i : ℕ) → i < P.rank → Joined C (sub (copies (letter i) P.prime) f) (sub (power_word P i) f)
  power-cut i l = elim (cases_lt i m) [
    | inl h ↦
        let left : sub (copies (letter i) P.prime) (projection m (P.rank - m)) ≡ copies (letter i) P.prime =
        sub-projection m (P.rank - m) (copies (letter i) P.prime) (HasLetters-copies m (letter i) P.prime (HasLetters-letter m i h)) in
        let right : sub (power_word P i) (projection m (P.rank - m)) ≡ power_word (first_generators m P) i =
        sub-word_from m (P.rank - m) (suc i) (m - suc i) (power_side P i) (omega arith)
        ∙ ap (word_from (suc i)) (sym (power_side-cut i h)) in
        joined-trans (joined-from_equal C left) (joined-trans (power-joined C i h) (joined-from_equal C (sym right)))
    | inr h ↦
        joined-from_equal C
        (sub-copies (letter i) P.prime f
        ∙ ap (λ (w : List ℤ). copies w P.prime) (sub-letter_beyond m (P.rank - m) i h) ∙ copies-nil P.prime
        ∙ sym (sub-beyond m (P.rank - m) (suc i) (power_side P i) (omega arith)))
  ]

  commutator-cut : (j i : ℕ) → j < P.rank → i < j → Joined C (sub (comm (letter j) (letter i)) f) (sub (commutator_word P j i) f)
  commutator-cut j i l b = elim (cases_lt j m) [
    | inl h ↦
        let left : sub (comm (letter j) (letter i)) (projection m (P.rank - m)) ≡ comm (letter j) (letter i) =
        sub-projection m (P.rank - m) (comm (letter j) (letter i))
        (HasLetters-comm m (letter j) (letter i) (HasLetters-letter m j h) (HasLetters-letter m i (omega arith))) in
        let right : sub (commutator_word P j i) (projection m (P.rank - m)) ≡ commutator_word (first_generators m P) j i =
        sub-word_from m (P.rank - m) (suc j) (m - suc j) (commutator_side P j i) (omega arith)
        ∙ ap (word_from (suc j)) (sym (commutator_side-cut j i h)) in
        joined-trans (joined-from_equal C left) (joined-trans (commutator-joined C j i h b) (joined-from_equal C (sym right)))
    | inr h ↦
        let left : sub (comm (letter j) (letter i)) (projection m (P.rank - m)) ≡ comm [] (sub (letter i) (projection m (P.rank - m))) =
        sub-comm (letter j) (letter i) f
        ∙ ap (λ (w : List ℤ). comm w (sub (letter i) (projection m (P.rank - m)))) (sub-letter_beyond m (P.rank - m) j h) in
        joined-trans (joined-from_equal C left)
        (joined-trans (inv-append-joined C (sub (letter i) f))
        (joined-from_equal C (sym (sub-beyond m (P.rank - m) (suc j) (commutator_side P j i) (omega arith)))))
  ]

  quotient-cut : (u v : List ℤ) → Joined C (sub u f) (sub v f) → Joined C (sub (u ++ inv v) f) []
  quotient-cut u v c =
      joined-trans
      (joined-from_equal C (sub-append u (inv v) f ∙ ap (λ (w : List ℤ). sub u (projection m (P.rank - m)) ++ w) (sub-inv v f)))
      (joined-quotient c)

  pub relator-cut : (r : List ℤ) → IsRelatorOf P r → Joined (first_generators m P) (sub r (projection m (P.rank - m))) []
  relator-cut r (power_relator i l) = quotient-cut (copies (letter i) P.prime) (power_word P i) (power-cut i l)
  relator-cut r (commutator_relator j i l b) = quotient-cut (comm (letter j) (letter i)) (commutator_word P j i) (commutator-cut j i l b)

  pub joined-cut : {u v : List ℤ} → Joined P u v → Joined (first_generators m P) (cut_word m P u) (cut_word m P v)
  joined-cut c = joined-sub P C f relator-cut c

  pub series-cut : (k : ℕ) (w : List ℤ) → InSeries P k w → InSeries (first_generators m P) k (cut_word m P w)
  series-cut k w s = series-sub P C f refl (AreWords-projection m (P.rank - m)) relator-cut k w s

pub cuts_carry_joined_words : CutsCarryJoinedWords
cuts_carry_joined_words P m is within u v c = joined-cut P is m within c

pub cuts_are_presentations : CutsArePresentations
cuts_are_presentations P m is within = cut-presentation P is m within
