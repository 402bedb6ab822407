-- Words over the generators of a presentation that are joined are joined by a chain of words over its generators: leaving
-- out all other letters takes any chain to such a one.
use Rattle.std.proofs.Common.{◌≡◌, ◌⊎◌, inl, inr, ℕ, zero, suc, ◌+◌, ◌<◌, ◌≤◌, ℤ, pos, negsuc, List, [], ◌∷◌, ◌++◌, get_or, length, refl}
use Rattle.std.proofs.Common.{ap, ◌∙◌, arith}
use Rattle.std.proofs.lemmas.List.{get_or_past}
use Rattle.std.proofs.Math.Nat.{zero-add}
use native.Mathlib.Decide.{dec_lt}
use Rattle.pq_base.specs.SignedWord.{sub, HasLetters}
use Rattle.pq_base.specs.LPresentation.{AreWords}
use Rattle.pq_base.specs.Presentation.{Presentation, IsPresentation, letter}
use Rattle.pq_base.specs.Joined.{IsTrivial, Chain, Joined}
use Rattle.pq_base.specs.Joined.IsTrivial.{pair, relator}
use Rattle.pq_base.specs.Joined.Move.{insert}
use Rattle.pq_base.specs.Joined.Chain.{done, step}
use Rattle.pq_base.specs.Laws.{ChainWithin, JoinedWordsNeedNoOtherLetters}
use Rattle.pq_base.specs.Laws.ChainWithin.{stop, move}
use Rattle.pq_base.proofs.words.WordLaws.{sub-append}
use Rattle.pq_base.proofs.words.LetterLaws.{HasLetters-sub, HasLetters-relator}
use Rattle.pq_base.proofs.words.ChainLaws.{IsWordEquivalence, chain-induction, move-sym}

-- n generators from place k on, as words
abbrev pub letters_from : ℕ → ℕ → List (List ℤ)
letters_from k zero = []
letters_from k (suc n) = letter k ∷ letters_from (suc k) n

pub length-letters_from : (k n : ℕ) → length (letters_from k n) ≡ n
length-letters_from k zero = refl
length-letters_from k (suc n) = ap suc (length-letters_from (suc k) n)

pub get_or-letters_from : (k n i : ℕ) → i < n → get_or (letters_from k n) i [] ≡ letter (k + i)
get_or-letters_from k zero i l = absurd (omega arith)
get_or-letters_from k (suc n) zero l = ap letter (omega arith)
get_or-letters_from k (suc n) (suc i) l = get_or-letters_from (suc k) n i (omega arith) ∙ ap letter (omega arith)

pub AreWords-letters_from : (n k m : ℕ) → k + m ≤ n → AreWords n (letters_from k m)
AreWords-letters_from n k zero l = tt
AreWords-letters_from n k (suc m) l = ((omega arith, tt), AreWords-letters_from n (suc k) m (omega arith))

-- the generators of words over n generators
abbrev pub generators : ℕ → List (List ℤ)
generators n = letters_from 0 n

pub get_or-generators : (n i : ℕ) → i < n → get_or (generators n) i [] ≡ letter i
get_or-generators n i l = get_or-letters_from 0 n i l ∙ ap letter (zero-add i)

pub get_or-generators_past : (n i : ℕ) → n ≤ i → get_or (generators n) i [] ≡ []
get_or-generators_past n i l = let e = length-letters_from 0 n in get_or_past (generators n) i [] (omega arith)

-- generators for generators change nothing, and leave out all other letters
pub sub-generators : (n : ℕ) (w : List ℤ) → HasLetters n w → sub w (generators n) ≡ w
sub-generators n [] h = refl
sub-generators n (pos zero ∷ w) h = absurd h.0
sub-generators n (pos (suc k) ∷ w) h = rw (get_or-generators n k h.0, sub-generators n w h.1)
sub-generators n (negsuc k ∷ w) h = rw (get_or-generators n k h.0, sub-generators n w h.1)

pub HasLetters-sub_generators : (n : ℕ) (w : List ℤ) → HasLetters n (sub w (generators n))
HasLetters-sub_generators n w = HasLetters-sub n w (generators n) (AreWords-letters_from n 0 n (omega arith))

module _ (n : ℕ) (E : List ℤ → Type 0) where
  within-trans : {u v w : List ℤ} → ChainWithin n E u v → ChainWithin n E v w → ChainWithin n E u w
  within-trans (stop h) c = c
  within-trans (move h m d) c = move h m (within-trans d c)

  within-start : {u v : List ℤ} → ChainWithin n E u v → HasLetters n u
  within-start (stop h) = h
  within-start (move h m d) = h

  within-sym : {u v : List ℤ} → ChainWithin n E u v → ChainWithin n E v u
  within-sym (stop h) = stop h
  within-sym (move h m d) = within-trans (within-sym d) (move (within-start d) (move-sym m) (stop h))

  pub chain-from_within : {u v : List ℤ} → ChainWithin n E u v → Chain E u v
  chain-from_within (stop h) = done
  chain-from_within (move h m d) = step m (chain-from_within d)

  -- a trivial word over the generators, or none, put between words over the generators
  within-insert : (a x b : List ℤ) → HasLetters n (a ++ b) → HasLetters n (a ++ (x ++ b)) → E x → ChainWithin n E (a ++ b) (a ++ (x ++ b))
  within-insert a x b h i e = move h (insert a x b e) (stop i)

-- a trivial word without the other letters is a trivial word, or none
stays : (P : Presentation) → IsPresentation P → (x : List ℤ) → IsTrivial P x
    → IsTrivial P (sub x (generators P.rank)) ⊎ (sub x (generators P.rank) ≡ [])
stays P p x (relator r h) = inl (rw (sub-generators P.rank r (HasLetters-relator P p h)) (relator r h))
stays P p x (pair (pos zero)) = inr refl
stays P p x (pair (pos (suc i))) = elim (dec_lt i P.rank) [
  | yes l ↦ inl (rw (sub-generators P.rank (pos (suc i) ∷ negsuc i ∷ []) (l, (l, tt))) (pair (pos (suc i))))
  | no l ↦ inr (rw (get_or-generators_past P.rank i (omega arith)) refl)
]
stays P p x (pair (negsuc i)) = elim (dec_lt i P.rank) [
  | yes l ↦ inl (rw (sub-generators P.rank (negsuc i ∷ pos (suc i) ∷ []) (l, (l, tt))) (pair (negsuc i)))
  | no l ↦ inr (rw (get_or-generators_past P.rank i (omega arith)) refl)
]

-- the chain without the other letters
within-joined : (P : Presentation) → IsPresentation P → {u v : List ℤ} → Joined P u v
    → ChainWithin P.rank (IsTrivial P) (sub u (generators P.rank)) (sub v (generators P.rank))
within-joined P p c = chain-induction R equivalence at_insertion c
  where
    R : List ℤ → List ℤ → Type 0
    R x y = ChainWithin P.rank (IsTrivial P) (sub x (generators P.rank)) (sub y (generators P.rank))

    equivalence : IsWordEquivalence R
    equivalence = record {
      reflexive = λ x. stop (HasLetters-sub_generators P.rank x);
      symmetric = λ x y d. within-sym P.rank (IsTrivial P) d;
      transitive = λ x y z d e. within-trans P.rank (IsTrivial P) d e;
    }

    at_insertion : (a x b : List ℤ) → IsTrivial P x → R (a ++ b) (a ++ (x ++ b))
    at_insertion a x b t =
        let f = generators P.rank in
        let h : HasLetters P.rank (sub a f ++ sub b f) = rw sub-append at (HasLetters-sub_generators P.rank (a ++ b)) in
        let i : HasLetters P.rank (sub a f ++ (sub x f ++ sub b f)) =
        simp sub-append at (HasLetters-sub_generators P.rank (a ++ (x ++ b))) in
        let d : ChainWithin P.rank (IsTrivial P) (sub a f ++ sub b f) (sub a f ++ (sub x f ++ sub b f)) = elim (stays P p x t) [
          | inl e ↦ within-insert P.rank (IsTrivial P) (sub a f) (sub x f) (sub b f) h i e
          | inr e ↦ rw e (stop h)
        ] in
        simp sub-append d

pub joined_words_need_no_other_letters : JoinedWordsNeedNoOtherLetters
joined_words_need_no_other_letters P p u v h i =
    (λ c. rw (sub-generators P.rank u h, sub-generators P.rank v i) at (within-joined P p c), λ c. chain-from_within P.rank (IsTrivial P) c)
