-- What a tree means is a word over the generators. A name that is not known stands for the empty word.
use Rattle.std.proofs.Common.{◌≡◌, ℕ, List, [], ◌∷◌, map, length, Option, Some, None, refl}
use Rattle.std.specs.List.{AllByRecursion}
use Rattle.pq_base.specs.SignedWord.{inv, HasLetters}
use Rattle.pq_base.specs.LPresentation.{AreWords}
use Rattle.pq_base.proofs.words.LetterLaws.{HasLetters-append, HasLetters-inv, HasLetters-pow, HasLetters-conj, HasLetters-comm}
use Rattle.lpres_reader.specs.Trees.{WordTree, alone, times, FactorTree, one, unit, to_power, conjugated, UnitTree, named, round, square}
use Rattle.lpres_reader.specs.Trees.{EntriesTree, two, and_one, RelatorTree, word, equation, ArrowTree, place_of, letter_at, exponent_value}
use Rattle.lpres_reader.specs.Trees.{word_meaning, factor_meaning, unit_meaning, entries_meaning, relator_meaning, arrow_meaning}
use Rattle.lpres_reader.proofs.names.Places.{place_of-Some}

module _ (names : List (List ℕ)) where
  letter_letters : (n : List ℕ) (o : Option ℕ) → place_of names n ≡ o → HasLetters (length names) (letter_at o)
  letter_letters n None e = tt
  letter_letters n (Some k) e = ((place_of-Some names n k e).0, tt)

  mutual
    pub word_letters : (w : WordTree) → HasLetters (length names) (word_meaning names w)
    word_letters (alone f) = factor_letters f
    word_letters (times w f) =
        HasLetters-append (length names) (word_meaning names w) (factor_meaning names f) (word_letters w) (factor_letters f)

    factor_letters : (f : FactorTree) → HasLetters (length names) (factor_meaning names f)
    factor_letters one = tt
    factor_letters (unit u) = unit_letters u
    factor_letters (to_power f e) = HasLetters-pow (length names) (factor_meaning names f) (exponent_value e) (factor_letters f)
    factor_letters (conjugated f u) =
        HasLetters-conj (length names) (factor_meaning names f) (unit_meaning names u) (factor_letters f) (unit_letters u)

    unit_letters : (u : UnitTree) → HasLetters (length names) (unit_meaning names u)
    unit_letters (named n) = letter_letters n (place_of names n) refl
    unit_letters (round w) = word_letters w
    unit_letters (square e) = entries_letters e

    entries_letters : (e : EntriesTree) → HasLetters (length names) (entries_meaning names e)
    entries_letters (two u v) =
        HasLetters-comm (length names) (word_meaning names u) (word_meaning names v) (word_letters u) (word_letters v)
    entries_letters (and_one e v) =
        HasLetters-comm (length names) (entries_meaning names e) (word_meaning names v) (entries_letters e) (word_letters v)

  relator_letters : (r : RelatorTree) → HasLetters (length names) (relator_meaning names r)
  relator_letters (word w) = word_letters w
  relator_letters (equation u v) =
      HasLetters-append (length names) (word_meaning names u) (inv (word_meaning names v)) (word_letters u)
      (HasLetters-inv (length names) (word_meaning names v) (word_letters v))

  pub relators_letters : (rs : List RelatorTree) → AreWords (length names) (map (relator_meaning names) rs)
  relators_letters [] = tt
  relators_letters (r ∷ rs) = (relator_letters r, relators_letters rs)

  pub arrows_letters : (qs : List ArrowTree) → AllByRecursion (λ m. HasLetters (length names) m.to) (map (arrow_meaning names) qs)
  arrows_letters [] = tt
  arrows_letters (q ∷ qs) = (word_letters q.to, arrows_letters qs)
