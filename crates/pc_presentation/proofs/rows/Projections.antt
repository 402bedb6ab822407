-- Leaving out the tails carries each relator of the flat reading to a word that is trivial in the base, so it carries joined
-- words to joined words, and levels of the series to levels.
use Rattle.std.proofs.Common.{◌≡◌, ℕ, zero, suc, ◌+◌, ◌-◌, ◌<◌, ◌≤◌, ℤ, List, [], ◌∷◌, ◌++◌, get_or, length, replicate, refl, ap, sym, ◌∙◌}
use Rattle.std.proofs.Common.{subst, arith, inl, inr}
use Rattle.std.proofs.Math.Nat.{zero-add}
use Rattle.std.proofs.lemmas.List.{append-nil, get_or_append_left, get_or-append-add}
use Rattle.std.proofs.lemmas.Bool.{cases_lt}
use Rattle.pq_base.specs.SignedWord.{inv, copies, comm, sub, HasLetters}
use Rattle.pq_base.specs.LPresentation.{AreWords}
use Rattle.pq_base.specs.Presentation.{IsRelatorOf, letter, word_from, normal_word, power_word, commutator_word}
use Rattle.pq_base.specs.Presentation.IsRelatorOf.{power_relator, commutator_relator}
use Rattle.pq_base.specs.Joined.{Joined}
use Rattle.pq_base.specs.Series.{InSeries}
use Rattle.pq_base.proofs.words.WordLaws.{sub-append, sub-inv, sub-copies, sub-comm, sub-letter, copies-nil}
use Rattle.pq_base.proofs.words.LetterLaws.{sub_same, HasLetters-sub, HasLetters-letter, HasLetters-copies, HasLetters-comm}
use Rattle.pq_base.proofs.words.LetterLaws.{HasLetters-normal_word, HasLetters-power_word, HasLetters-commutator_word}
use Rattle.pq_base.proofs.words.JoinedLaws.{joined-from_equal, joined-trans, joined-quotient, inv-append-joined, power-joined}
use Rattle.pq_base.proofs.words.JoinedLaws.{commutator-joined}
use Rattle.pq_base.proofs.words.RangeLaws.{generators, get_or-generators, sub-generators}
use Rattle.pq_base.proofs.words.WordGroup.{joined-sub}
use Rattle.pq_base.proofs.CarryLaws.{series-sub}
use Rattle.pc_presentation.specs.Rowed.{RowedPresentation, IsRowed, power_row, commutator_row, flat}
use Rattle.pc_presentation.specs.Collection.{State}
use Rattle.pc_presentation.specs.Arithmetic.{word_of}
use Rattle.pc_presentation.specs.NormalTable.{list_from}
use Rattle.pc_presentation.proofs.rows.SingleRows.{length-list_from, get_or-list_from}
use Rattle.pc_presentation.proofs.consistent.LetterWords.{letters-spelled}
use Rattle.pc_presentation.specs.RowedLaws.{projection, projected, ProjectionsCarryJoinedWords, StatesProject}
use Rattle.pc_presentation.proofs.rows.FlatWords.{power_word-flat, commutator_word-flat, power_word-tail, commutator_word-tail}

-- the images of generators and tails
pub get_or-projection : (n q i : ℕ) → i < n → get_or (projection n q) i [] ≡ letter i
get_or-projection n q i l =
    let long : length (list_from letter 0 n) ≡ n = length-list_from letter 0 n in
    get_or_append_left (list_from letter 0 n) (replicate q []) [] i (omega arith) ∙ get_or-list_from letter 0 n i [] l
    ∙ ap letter (zero-add i)

get_or-empty_words : (q t : ℕ) → get_or (replicate {A = List ℤ} q []) t [] ≡ []
get_or-empty_words zero t = refl
get_or-empty_words (suc q) zero = refl
get_or-empty_words (suc q) (suc t) = get_or-empty_words q t

pub get_or-projection_past : (n q t : ℕ) → get_or (projection n q) (n + t) [] ≡ []
get_or-projection_past n q t =
    ap (λ (m : ℕ). get_or (list_from letter 0 n ++ replicate q []) (m + t) []) (sym (length-list_from letter 0 n))
    ∙ get_or-append-add (list_from letter 0 n) (replicate q []) t []
    ∙ get_or-empty_words q t

AreWords-empty_words : (n q : ℕ) → AreWords n (replicate q [])
AreWords-empty_words n zero = tt
AreWords-empty_words n (suc q) = (tt, AreWords-empty_words n q)

AreWords-letters_then : (n q k m : ℕ) → k + m ≤ n → AreWords n (list_from letter k m ++ replicate q [])
AreWords-letters_then n q k zero l = AreWords-empty_words n q
AreWords-letters_then n q k (suc m) l = (HasLetters-letter n k (omega arith), AreWords-letters_then n q (suc k) m (omega arith))

pub AreWords-projection : (n q : ℕ) → AreWords n (projection n q)
AreWords-projection n q = AreWords-letters_then n q 0 n (omega arith)

pub HasLetters-projection : (n q : ℕ) (w : List ℤ) → HasLetters n (sub w (projection n q))
HasLetters-projection n q w = HasLetters-sub n w (projection n q) (AreWords-projection n q)

-- words over the generators stay
pub sub-projection : (n q : ℕ) (w : List ℤ) → HasLetters n w → sub w (projection n q) ≡ w
sub-projection n q w h =
    sub_same n w (projection n q) (generators n) h (λ i l. get_or-projection n q i l ∙ sym (get_or-generators n i l))
    ∙ sub-generators n w h

-- words of tails go
sub-tail : (n q t : ℕ) → sub (letter (n + t)) (projection n q) ≡ []
sub-tail n q t = sub-letter (n + t) (projection n q) ∙ get_or-projection_past n q t

sub-tail_copies : (n q t a : ℕ) → sub (copies (letter (n + t)) a) (projection n q) ≡ []
sub-tail_copies n q t a =
    sub-copies (letter (n + t)) a (projection n q) ∙ ap (λ (w : List ℤ). copies w a) (sub-tail n q t) ∙ copies-nil a

sub-tails_from : (n q t : ℕ) (x : List ℕ) → sub (word_from (n + t) x) (projection n q) ≡ []
sub-tails_from n q t [] = refl
sub-tails_from n q t (a ∷ x) =
    let next : suc (n + t) ≡ n + suc t = omega arith in
    sub-append (copies (letter (n + t)) a) (word_from (suc (n + t)) x) (projection n q)
    ∙ ap (λ (w : List ℤ). w ++ sub (word_from (suc (n + t)) x) (projection n q)) (sub-tail_copies n q t a)
    ∙ ap (λ (m : ℕ). sub (word_from m x) (projection n q)) next
    ∙ sub-tails_from n q (suc t) x

pub sub-row_word : (n q : ℕ) (x : List ℕ) → sub (word_from n x) (projection n q) ≡ []
sub-row_word n q x =
    let first : n ≡ n + 0 = omega arith in
    ap (λ (m : ℕ). sub (word_from m x) (projection n q)) first ∙ sub-tails_from n q 0 x

-- a word over the generators and a row
pub sub-with_row : (n q : ℕ) (w : List ℤ) (x : List ℕ) → HasLetters n w → sub (w ++ word_from n x) (projection n q) ≡ w
sub-with_row n q w x h =
    sub-append w (word_from n x) (projection n q)
    ∙ ap (λ (y : List ℤ). sub w (projection n q) ++ y) (sub-row_word n q x)
    ∙ append-nil (sub w (projection n q)) ∙ sub-projection n q w h

pub sub-state : (Z : RowedPresentation) (s : State) → length s.exponents ≡ Z.base.rank → projected Z (word_of Z s) ≡ normal_word s.exponents
sub-state Z s c =
    ap (λ (w : List ℤ). projected Z (w ++ word_from Z.base.rank s.row)) (letters-spelled 0 s.exponents)
    ∙ sub-with_row Z.base.rank Z.width (normal_word s.exponents) s.row (HasLetters-normal_word Z.base.rank s.exponents (omega arith))

module _ (Z : RowedPresentation) (is : IsRowed Z) where
  -- both sides of a relation, without tails, are joined
  power-projected : (i : ℕ) → i < Z.base.rank + Z.width
      → Joined Z.base (projected Z (copies (letter i) Z.base.prime)) (projected Z (power_word (flat Z) i))
  power-projected i l = elim (cases_lt i Z.base.rank) [
    | inl h ↦
        let left : projected Z (copies (letter i) Z.base.prime) ≡ copies (letter i) Z.base.prime =
        sub-projection Z.base.rank Z.width (copies (letter i) Z.base.prime)
        (HasLetters-copies Z.base.rank (letter i) Z.base.prime (HasLetters-letter Z.base.rank i h)) in
        let right : projected Z (power_word (flat Z) i) ≡ power_word Z.base i =
        ap (projected Z) (power_word-flat Z is i h)
        ∙ sub-with_row Z.base.rank Z.width (power_word Z.base i) (power_row Z i) (HasLetters-power_word Z.base is.base i h) in
        joined-trans (joined-from_equal Z.base left) (joined-trans (power-joined Z.base i h) (joined-from_equal Z.base (sym right)))
    | inr h ↦
        let t : ℕ = i - Z.base.rank in
        let place : Z.base.rank + t ≡ i = omega arith in
        subst (λ (m : ℕ). Joined Z.base (projected Z (copies (letter m) Z.base.prime)) (projected Z (power_word (flat Z) m))) place
        (joined-from_equal Z.base
        (sub-tail_copies Z.base.rank Z.width t Z.base.prime ∙ sym (ap (projected Z) (power_word-tail Z is t (omega arith)))))
  ]

  commutator-projected : (j i : ℕ) → j < Z.base.rank + Z.width → i < j
      → Joined Z.base (projected Z (comm (letter j) (letter i))) (projected Z (commutator_word (flat Z) j i))
  commutator-projected j i l m = elim (cases_lt j Z.base.rank) [
    | inl h ↦
        let left : projected Z (comm (letter j) (letter i)) ≡ comm (letter j) (letter i) =
        sub-projection Z.base.rank Z.width (comm (letter j) (letter i))
        (HasLetters-comm Z.base.rank (letter j) (letter i) (HasLetters-letter Z.base.rank j h)
        (HasLetters-letter Z.base.rank i (omega arith))) in
        let right : projected Z (commutator_word (flat Z) j i) ≡ commutator_word Z.base j i =
        ap (projected Z) (commutator_word-flat Z is j i h m)
        ∙ sub-with_row Z.base.rank Z.width (commutator_word Z.base j i) (commutator_row Z j i)
        (HasLetters-commutator_word Z.base is.base j i h m) in
        joined-trans (joined-from_equal Z.base left)
        (joined-trans (commutator-joined Z.base j i h m) (joined-from_equal Z.base (sym right)))
    | inr h ↦
        let t : ℕ = j - Z.base.rank in
        let place : Z.base.rank + t ≡ j = omega arith in
        let before : i < Z.base.rank + t = omega arith in
        let left : projected Z (comm (letter (Z.base.rank + t)) (letter i)) ≡ inv (projected Z (letter i)) ++ projected Z (letter i) =
        sub-comm (letter (Z.base.rank + t)) (letter i) (projection Z.base.rank Z.width)
        ∙ ap (λ (w : List ℤ). comm w (projected Z (letter i))) (sub-tail Z.base.rank Z.width t) in
        subst (λ (k : ℕ). Joined Z.base (projected Z (comm (letter k) (letter i))) (projected Z (commutator_word (flat Z) k i))) place
        (joined-trans (joined-from_equal Z.base left)
        (joined-trans (inv-append-joined Z.base (projected Z (letter i)))
        (joined-from_equal Z.base (sym (ap (projected Z) (commutator_word-tail Z is t i (omega arith) before))))))
  ]

  -- so each relator is trivial
  quotient-projected : (u v : List ℤ) → Joined Z.base (projected Z u) (projected Z v) → Joined Z.base (projected Z (u ++ inv v)) []
  quotient-projected u v c =
      joined-trans
      (joined-from_equal Z.base
      (sub-append u (inv v) (projection Z.base.rank Z.width)
      ∙ ap (λ (w : List ℤ). projected Z u ++ w) (sub-inv v (projection Z.base.rank Z.width))))
      (joined-quotient c)

  pub relator-projected : (r : List ℤ) → IsRelatorOf (flat Z) r → Joined Z.base (projected Z r) []
  relator-projected r (power_relator i l) =
      quotient-projected (copies (letter i) Z.base.prime) (power_word (flat Z) i) (power-projected i l)
  relator-projected r (commutator_relator j i l m) =
      quotient-projected (comm (letter j) (letter i)) (commutator_word (flat Z) j i) (commutator-projected j i l m)

  pub joined-projected : {u v : List ℤ} → Joined (flat Z) u v → Joined Z.base (projected Z u) (projected Z v)
  joined-projected c = joined-sub (flat Z) Z.base (projection Z.base.rank Z.width) relator-projected c

  pub series-projected : (k : ℕ) (w : List ℤ) → InSeries (flat Z) k w → InSeries Z.base k (projected Z w)
  series-projected k w s =
      series-sub (flat Z) Z.base (projection Z.base.rank Z.width) refl (AreWords-projection Z.base.rank Z.width) relator-projected k w s

pub projections_carry_joined_words : ProjectionsCarryJoinedWords
projections_carry_joined_words Z is u v c = joined-projected Z is c

pub states_project : StatesProject
states_project Z s h = sub-state Z s h.exponents.count
