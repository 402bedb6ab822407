-- Named relators are words over the generators, and the relators of the presentation that has them alone.
use Rattle.std.proofs.Common.{◌≡◌, ℕ, ◌<◌, ℤ, List, [], ◌∷◌, get_or, length, map, ap, sym, ◌∙◌, subst, arith}
use Rattle.std.specs.List.{All, Contains}
use Rattle.std.proofs.lemmas.List.{length-map, get_or-map, get_or_default}
use Rattle.pq_base.specs.SignedWord.{HasLetters}
use Rattle.pq_base.specs.LPresentation.{LPresentation, IsLPresentation, IsRelator, AreWords}
use Rattle.pq_base.specs.LPresentation.IsRelator.{fixed_relator, iterated_relator}
use Rattle.pq_base.proofs.words.LetterLaws.{HasLetters-get_or}
use Rattle.derivation_log.proofs.RowSources.{source_word-letters}
use Rattle.tower.specs.declared.relator.Relator.{Relator}
use Rattle.tower.specs.NamedParts.{named_word, named_part, recorded_source}

-- a word of a list of words, by its place
pub listed-word : (ws vs : List (List ℤ)) (i : ℕ) (w : List ℤ) → vs ≡ ws → i < length vs → w ≡ get_or vs i w → get_or ws i [] ≡ w
listed-word ws vs i w same l is = sym (is ∙ get_or_default vs i w [] l ∙ ap (λ (us : List (List ℤ)). get_or us i []) same)

pub listed-letters : (n : ℕ) (names : List (List ℕ)) (ws vs : List (List ℤ)) (i : ℕ) (w : List ℤ) → n ≡ length names → AreWords n ws
    → vs ≡ ws
    → i < length vs → w ≡ get_or vs i w → HasLetters (length names) w
listed-letters n names ws vs i w count words same l is =
    subst (λ (m : ℕ). HasLetters m w) count (subst (HasLetters n) (listed-word ws vs i w same l is) (HasLetters-get_or n ws i words))

named-words : (L : LPresentation) → IsLPresentation L → (rs : List Relator) → AreWords (length L.names) (map (named_word L) rs)
named-words L is [] = tt
named-words L is (r ∷ rs) = (source_word-letters L is (recorded_source r), named-words L is rs)

pub named-part_is : (L : LPresentation) → IsLPresentation L → (rs : List Relator) → IsLPresentation (named_part L rs)
named-part_is L is rs = record { distinct = is.distinct; fixed_words = named-words L is rs; iterated_words = tt; endo_words = tt }

-- each named relator is one of the part
pub named-relator : (L : LPresentation) (rs : List Relator) (r : Relator) → Contains rs r → IsRelator (named_part L rs) (named_word L r)
named-relator L rs r c =
    let l : c.0 < length (map (named_word L) rs) = subst (λ (n : ℕ). c.0 < n) (sym (length-map rs (named_word L))) c.1 in
    let at : IsRelator (named_part L rs) (get_or (map (named_word L) rs) c.0 []) = fixed_relator c.0 l in
    subst (IsRelator (named_part L rs)) (get_or-map (named_word L) rs c.0 r [] c.1 ∙ ap (named_word L) c.2) at

-- and nothing else is
pub named-all : (L : LPresentation) (rs : List Relator) (Q : List ℤ → Type 0) → All (λ (r : Relator). Q (named_word L r)) rs
    → (w : List ℤ) → IsRelator (named_part L rs) w → Q w
named-all L rs Q all w (fixed_relator i l) =
    let within : i < length rs = subst (λ (n : ℕ). i < n) (length-map rs (named_word L)) l in
    some rs within all
  where
    some : (ss : List Relator) → i < length ss → All (λ (r : Relator). Q (named_word L r)) ss → Q (get_or (map (named_word L) ss) i [])
    some [] m h = absurd (omega arith)
    some (s ∷ ss) m h =
        subst Q (sym (get_or-map (named_word L) (s ∷ ss) i s [] m)) (h i s m)
named-all L rs Q all w (iterated_relator s i e l) = absurd (omega arith)
