-- The relators and the images of a sample are words in its generators; none has many letters, and together they have few.
use Rattle.std.proofs.Common.{◌≡◌, ◌≤◌, ◌+◌, ◌*◌, ℕ, zero, suc, ℤ, pos, negsuc, List, [], ◌∷◌, length, map, All, refl, ap, ◌∙◌, arith}
use Rattle.std.proofs.lemmas.List.{length-map}
use Rattle.std.proofs.lemmas.List.Elements.{All-nil, All-cons, All-head, All-tail}
use Rattle.std.proofs.lemmas.List.Sums.{sum_by-cons}
use Rattle.pq_base.specs.SignedWord.{inv, IsLetter, HasLetters}
use Rattle.pq_base.specs.LPresentation.{AreWords}
use Rattle.pq_base.proofs.words.LetterLaws.{HasLetters-weaken, HasLetters-inv}
use Rattle.free_words.proofs.Lengths.{length-inv}
use Rattle.lpres_reader.specs.Limits.{AreShort, letters_in}
use Rattle.samples.specs.Samples.{relators_from, exchanged, exchange}
use Rattle.samples.specs.Pieces.{IsDrawn}

-- relators
pub AreWords-relators_from : (n i : ℕ) (ws : List (List ℤ)) → All IsDrawn ws → 2 ≤ n → 1 ≤ i → i + length ws ≤ suc n
    → AreWords n (relators_from i ws)
AreWords-relators_from n i [] drawn two one room = tt
AreWords-relators_from n zero (w ∷ ws) drawn two one room = absurd (omega arith)
AreWords-relators_from n (suc i) (w ∷ ws) drawn two one room =
    let here = All-head IsDrawn w ws drawn in (
      (omega arith, HasLetters-inv n w (HasLetters-weaken 2 n w two here.letters)),
      AreWords-relators_from n (suc (suc i)) ws (All-tail IsDrawn w ws drawn) two (omega arith) (omega arith),
    )

pub length-relators_from : (i : ℕ) (ws : List (List ℤ)) → length (relators_from i ws) ≡ length ws
length-relators_from i [] = refl
length-relators_from i (w ∷ ws) = ap suc (length-relators_from (suc i) ws)

length-relator : (i : ℕ) (w : List ℤ) → IsDrawn w → length (pos i ∷ inv w) ≡ 201
length-relator i w drawn = omega (arith, length-inv w, drawn.count)

pub AreShort-relators_from : (i : ℕ) (ws : List (List ℤ)) → All IsDrawn ws → AreShort (relators_from i ws)
AreShort-relators_from i [] drawn = All-nil (λ w. length w ≤ 65536)
AreShort-relators_from i (w ∷ ws) drawn =
    All-cons (λ u. length u ≤ 65536) (pos i ∷ inv w) (relators_from (suc i) ws)
    (let long = length-relator i w (All-head IsDrawn w ws drawn) in omega arith)
    (AreShort-relators_from (suc i) ws (All-tail IsDrawn w ws drawn))

pub letters_in-relators_from : (i : ℕ) (ws : List (List ℤ)) → All IsDrawn ws → letters_in (relators_from i ws) ≡ 201 * length ws
letters_in-relators_from i [] drawn = refl
letters_in-relators_from i (w ∷ ws) drawn =
    let here = length-relator i w (All-head IsDrawn w ws drawn) in
    let rest = letters_in-relators_from (suc i) ws (All-tail IsDrawn w ws drawn) in
    let both = sum_by-cons length (pos i ∷ inv w) (relators_from (suc i) ws) in
    omega arith

-- the exchange
pub IsLetter-exchanged : (n : ℕ) (k : ℤ) → 2 ≤ n → IsLetter n k → IsLetter n (exchanged k)
IsLetter-exchanged n (pos zero) two h = h
IsLetter-exchanged n (pos (suc zero)) two h = omega arith
IsLetter-exchanged n (pos (suc (suc zero))) two h = omega arith
IsLetter-exchanged n (pos (suc (suc (suc k)))) two h = h
IsLetter-exchanged n (negsuc zero) two h = omega arith
IsLetter-exchanged n (negsuc (suc zero)) two h = omega arith
IsLetter-exchanged n (negsuc (suc (suc k))) two h = h

pub HasLetters-exchanged : (n : ℕ) (w : List ℤ) → 2 ≤ n → HasLetters n w → HasLetters n (map exchanged w)
HasLetters-exchanged n [] two h = tt
HasLetters-exchanged n (k ∷ w) two h = (IsLetter-exchanged n k two h.0, HasLetters-exchanged n w two h.1)

AreWords-exchanged : (n : ℕ) (ws : List (List ℤ)) → All IsDrawn ws → 2 ≤ n → AreWords n (map (λ w. map exchanged w) ws)
AreWords-exchanged n [] drawn two = tt
AreWords-exchanged n (w ∷ ws) drawn two = (
  HasLetters-exchanged n w two (HasLetters-weaken 2 n w two (All-head IsDrawn w ws drawn).letters),
  AreWords-exchanged n ws (All-tail IsDrawn w ws drawn) two,
)

pub AreWords-exchange : (n : ℕ) (ws : List (List ℤ)) → All IsDrawn ws → 2 ≤ n → AreWords n (exchange ws)
AreWords-exchange n ws drawn two = ((omega arith, tt), ((omega arith, tt), AreWords-exchanged n ws drawn two))

pub length-exchange : (ws : List (List ℤ)) → length (exchange ws) ≡ 2 + length ws
length-exchange ws = omega (arith, length-map ws (λ (w : List ℤ). map exchanged w))

length-exchanged : (w : List ℤ) → IsDrawn w → length (map exchanged w) ≡ 200
length-exchanged w drawn = length-map w exchanged ∙ drawn.count

AreShort-exchanged : (ws : List (List ℤ)) → All IsDrawn ws → AreShort (map (λ w. map exchanged w) ws)
AreShort-exchanged [] drawn = All-nil (λ w. length w ≤ 65536)
AreShort-exchanged (w ∷ ws) drawn =
    All-cons (λ u. length u ≤ 65536) (map exchanged w) (map (λ u. map exchanged u) ws)
    (let long = length-exchanged w (All-head IsDrawn w ws drawn) in omega arith)
    (AreShort-exchanged ws (All-tail IsDrawn w ws drawn))

pub AreShort-exchange : (ws : List (List ℤ)) → All IsDrawn ws → AreShort (exchange ws)
AreShort-exchange ws drawn =
    All-cons (λ u. length u ≤ 65536) (pos 2 ∷ []) ((pos 1 ∷ []) ∷ map (λ u. map exchanged u) ws) (omega arith)
    (All-cons (λ u. length u ≤ 65536) (pos 1 ∷ []) (map (λ u. map exchanged u) ws) (omega arith) (AreShort-exchanged ws drawn))

letters_in-exchanged : (ws : List (List ℤ)) → All IsDrawn ws → letters_in (map (λ w. map exchanged w) ws) ≡ 200 * length ws
letters_in-exchanged [] drawn = refl
letters_in-exchanged (w ∷ ws) drawn =
    let here = length-exchanged w (All-head IsDrawn w ws drawn) in
    let rest = letters_in-exchanged ws (All-tail IsDrawn w ws drawn) in
    let both = sum_by-cons length (map exchanged w) (map (λ u. map exchanged u) ws) in
    omega arith

pub letters_in-exchange : (ws : List (List ℤ)) → All IsDrawn ws → letters_in (exchange ws) ≡ 2 + 200 * length ws
letters_in-exchange ws drawn =
    let rest = letters_in-exchanged ws drawn in
    let one = sum_by-cons length (pos 2 ∷ []) ((pos 1 ∷ []) ∷ map (λ u. map exchanged u) ws) in
    let two = sum_by-cons length (pos 1 ∷ []) (map (λ u. map exchanged u) ws) in
    omega arith
