-- Where the definition of each generator holds as an equation of joined words, each generator is joined to the word that it
-- spells under the images.
use Rattle.std.proofs.Common.{◌≡◌, ℕ, zero, suc, ◌+◌, ◌<◌, ℤ, List, [], ◌∷◌, ◌++◌, get_or, length, refl, sym, subst, arith, length-append}
use Rattle.std.proofs.Common.{inl, inr}
use Rattle.std.proofs.lemmas.List.{append-nil, get_or_push, get_or_append_left}
use Rattle.std.proofs.lemmas.Bool.{cases_lt}
use Rattle.pq_base.specs.SignedWord.{copies, comm, sub}
use Rattle.pq_base.specs.Presentation.{Presentation, letter}
use Rattle.pq_base.specs.Joined.{Joined}
use Rattle.pq_base.specs.Answer.{Definition, spelled, spellings}
use Rattle.pq_base.specs.Answer.Definition.{image, commutator, power}
use Rattle.pq_base.proofs.words.WordLaws.{sub-comm, sub-copies}
use Rattle.pq_base.proofs.words.JoinedLaws.{joined-from_equal, joined-trans, joined-comm, joined-copies}

-- the generator at place k is joined to what defines it; p is the exponent of powers
abbrev pub IsDefinedBy : Presentation → List (List ℤ) → ℕ → ℕ → Definition → Type 0
IsDefinedBy Q images p k (image zero) = ⊥
IsDefinedBy Q images p k (image (suc i)) = Joined Q (letter k) (get_or images i [])
IsDefinedBy Q images p k (commutator zero i) = ⊥
IsDefinedBy Q images p k (commutator (suc j) zero) = ⊥
IsDefinedBy Q images p k (commutator (suc j) (suc i)) = (i < j) × (j < k) × Joined Q (letter k) (comm (letter j) (letter i))
IsDefinedBy Q images p k (power zero) = ⊥
IsDefinedBy Q images p k (power (suc j)) = (j < k) × Joined Q (letter k) (copies (letter j) p)

-- each of the generators before place k is joined to its word under the images
pub record AreSpelledIn (Q : Presentation) (images : List (List ℤ)) (k : ℕ) (words : List (List ℤ)) : Type 0 where
  pub count : length words ≡ k
  pub each : (m : ℕ) → m < k → Joined Q (letter m) (sub (get_or words m []) images)

module _ (Q : Presentation) (images : List (List ℤ)) (p : ℕ) where
  -- the word of one definition
  spelled-joined : (k : ℕ) (words : List (List ℤ)) (d : Definition) → AreSpelledIn Q images k words → IsDefinedBy Q images p k d
      → Joined Q (letter k) (sub (spelled p words d) images)
  spelled-joined k words (image zero) s d = absurd d
  spelled-joined k words (image (suc i)) s d = joined-trans d (joined-from_equal Q (sym (append-nil (get_or images i []))))
  spelled-joined k words (commutator zero i) s d = absurd d
  spelled-joined k words (commutator (suc j) zero) s d = absurd d
  spelled-joined k words (commutator (suc j) (suc i)) s d =
      let below : i < j = d.0 in
      let before : j < k = d.1 in
      joined-trans d.2
      (joined-trans (joined-comm (s.each j before) (s.each i (omega arith)))
      (joined-from_equal Q (sym (sub-comm (get_or words j []) (get_or words i []) images))))
  spelled-joined k words (power zero) s d = absurd d
  spelled-joined k words (power (suc j)) s d =
      joined-trans d.1
      (joined-trans (joined-copies p (s.each j d.0)) (joined-from_equal Q (sym (sub-copies (get_or words j []) p images))))

  -- one definition more
  one_more : (k : ℕ) (words : List (List ℤ)) (d : Definition) → AreSpelledIn Q images k words → IsDefinedBy Q images p k d
      → AreSpelledIn Q images (suc k) (words ++ spelled p words d ∷ [])
  one_more k words d s has =
      let word : List ℤ = spelled p words d in
      let long : length words ≡ k = s.count in
      record {
        count = omega (arith, length-append words (word ∷ []));
        each = λ m below. elim (cases_lt m k) as (λ x. Joined Q (letter m) (sub (get_or (words ++ word ∷ []) m []) images)) [
          | inl before ↦
              subst (λ (w : List ℤ). Joined Q (letter m) (sub w images))
              (sym (get_or_append_left words (word ∷ []) [] m (omega arith))) (s.each m before)
          | inr after ↦
              let place : k ≡ m = omega arith in
              subst (λ (x : ℕ). Joined Q (letter x) (sub (get_or (words ++ word ∷ []) x []) images)) place
              (subst (λ (w : List ℤ). Joined Q (letter k) (sub w images))
              (sym (get_or_push words word [] k long)) (spelled-joined k words d s has))
        ];
      }

  -- along a list of definitions of the generators from place k on
  along_definitions : (k : ℕ) (words : List (List ℤ)) (ds : List Definition)
      → ((m : ℕ) → m < length ds → IsDefinedBy Q images p (k + m) (get_or ds m (image 0))) → AreSpelledIn Q images k words
      → AreSpelledIn Q images (k + length ds) (spellings p words ds)
  along_definitions k words [] has s =
      let all : k ≡ k + 0 = omega arith in
      subst (λ (n : ℕ). AreSpelledIn Q images n words) all s
  along_definitions k words (d ∷ ds) has s =
      let first : k + 0 ≡ k = omega arith in
      let here : IsDefinedBy Q images p k d = subst (λ (n : ℕ). IsDefinedBy Q images p n d) first (has 0 (omega arith)) in
      let all : suc k + length ds ≡ k + suc (length ds) = omega arith in
      subst (λ (n : ℕ). AreSpelledIn Q images n (spellings p (words ++ spelled p words d ∷ []) ds)) all
      (along_definitions (suc k) (words ++ spelled p words d ∷ []) ds
      (λ m below.
      let place : k + suc m ≡ suc k + m = omega arith in
      subst (λ (n : ℕ). IsDefinedBy Q images p n (get_or ds m (image 0))) place (has (suc m) (omega arith)))
      (one_more k words d s here))

  pub definitions-spelled : (ds : List Definition) → ((m : ℕ) → m < length ds → IsDefinedBy Q images p m (get_or ds m (image 0)))
      → AreSpelledIn Q images (length ds) (spellings p [] ds)
  definitions-spelled ds has =
      let none : AreSpelledIn Q images 0 [] = record { count = refl; each = λ m below. absurd (omega arith) } in
      let all : 0 + length ds ≡ length ds = omega arith in
      subst (λ (n : ℕ). AreSpelledIn Q images n (spellings p [] ds)) all
      (along_definitions 0 [] ds
      (λ m below.
      let place : m ≡ 0 + m = omega arith in
      subst (λ (n : ℕ). IsDefinedBy Q images p n (get_or ds m (image 0))) place (has m below))
      none)
