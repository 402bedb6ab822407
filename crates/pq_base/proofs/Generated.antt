-- In every answer the images generate: each generator is joined to the word that its definition spells, under the images.
use Rattle.std.proofs.Common.{◌≡◌, ℕ, zero, suc, ◌+◌, ◌<◌, ℤ, List, [], ◌∷◌, ◌++◌, get_or, length, refl, sym, ◌∙◌, subst, arith}
use Rattle.std.proofs.Common.{length-append, inl, inr}
use Rattle.std.proofs.lemmas.List.{append-nil, get_or_push, get_or_append_left}
use Rattle.std.proofs.lemmas.Bool.{cases_lt}
use Rattle.pq_base.specs.SignedWord.{copies, comm, sub}
use Rattle.pq_base.specs.Presentation.{letter}
use Rattle.pq_base.specs.Joined.{Joined}
use Rattle.pq_base.specs.Answer.{Answer, Definition, HasDefinition, image_words, definition_at, spelled, spellings}
use Rattle.pq_base.specs.Answer.Definition.{image, commutator, power}
use Rattle.pq_base.specs.ClassOne.{AnswersAreGenerated}
use Rattle.pq_base.proofs.words.WordLaws.{sub-comm, sub-copies}
use Rattle.pq_base.proofs.words.JoinedLaws.{joined-from_equal, joined-sym, joined-trans, joined-comm, joined-copies, power-joined}
use Rattle.pq_base.proofs.words.JoinedLaws.{commutator-joined}

-- each of the generators before place k is joined to its word under the images
pub record AreSpelled (A : Answer) (k : ℕ) (words : List (List ℤ)) : Type 0 where
  pub count : length words ≡ k
  pub each : (m : ℕ) → m < k → Joined A.presentation (letter m) (sub (get_or words m []) (image_words A))

-- the word of one definition
spelled-joined : (A : Answer) (k : ℕ) (words : List (List ℤ)) (d : Definition) → k < A.presentation.rank → AreSpelled A k words
    → HasDefinition A k d → Joined A.presentation (letter k) (sub (spelled A.presentation.prime words d) (image_words A))
spelled-joined A k words (image zero) h s d = absurd d
spelled-joined A k words (image (suc i)) h s d =
    joined-from_equal A.presentation (sym (append-nil (get_or (image_words A) i []) ∙ d.2))
spelled-joined A k words (commutator zero i) h s d = absurd d
spelled-joined A k words (commutator (suc j) zero) h s d = absurd d
spelled-joined A k words (commutator (suc j) (suc i)) h s d =
    let below : i < j = d.1 in
    let before : j < k = d.2 in
    let relation : Joined A.presentation (comm (letter j) (letter i)) (letter k) =
    subst (λ (w : List ℤ). Joined A.presentation (comm (letter j) (letter i)) w) d.3
    (commutator-joined A.presentation j i (omega arith) below) in
    joined-trans (joined-sym relation)
    (joined-trans (joined-comm (s.each j before) (s.each i (omega arith)))
    (joined-from_equal A.presentation (sym (sub-comm (get_or words j []) (get_or words i []) (image_words A)))))
spelled-joined A k words (power zero) h s d = absurd d
spelled-joined A k words (power (suc j)) h s d =
    let before : j < k = d.1 in
    let relation : Joined A.presentation (copies (letter j) A.presentation.prime) (letter k) =
    subst (λ (w : List ℤ). Joined A.presentation (copies (letter j) A.presentation.prime) w) d.2
    (power-joined A.presentation j (omega arith)) in
    joined-trans (joined-sym relation)
    (joined-trans (joined-copies A.presentation.prime (s.each j before))
    (joined-from_equal A.presentation (sym (sub-copies (get_or words j []) A.presentation.prime (image_words A)))))

-- one definition more
one_more : (A : Answer) (k : ℕ) (words : List (List ℤ)) (d : Definition) → k < A.presentation.rank → AreSpelled A k words
    → HasDefinition A k d → AreSpelled A (suc k) (words ++ spelled A.presentation.prime words d ∷ [])
one_more A k words d h s has =
    let word : List ℤ = spelled A.presentation.prime words d in
    let long : length words ≡ k = s.count in
    record {
      count = omega (arith, length-append words (word ∷ []));
      each = λ m below. elim (cases_lt m k)
          as (λ x. Joined A.presentation (letter m) (sub (get_or (words ++ word ∷ []) m []) (image_words A))) [
            | inl before ↦ subst (λ (w : List ℤ). Joined A.presentation (letter m) (sub w (image_words A)))
                (sym (get_or_append_left words (word ∷ []) [] m (omega arith))) (s.each m before)
            | inr after ↦
                let place : k ≡ m = omega arith in
                subst (λ (x : ℕ). Joined A.presentation (letter x) (sub (get_or (words ++ word ∷ []) x []) (image_words A))) place
                (subst (λ (w : List ℤ). Joined A.presentation (letter k) (sub w (image_words A)))
                (sym (get_or_push words word [] k long)) (spelled-joined A k words d h s has))
          ];
    }

-- along a list of definitions of the generators from place k on
along_definitions : (A : Answer) (k : ℕ) (words : List (List ℤ)) (ds : List Definition) → k + length ds ≡ A.presentation.rank
    → ((m : ℕ) → m < length ds → HasDefinition A (k + m) (get_or ds m (image 0))) → AreSpelled A k words
    → AreSpelled A A.presentation.rank (spellings A.presentation.prime words ds)
along_definitions A k words [] e has s =
    let all : k ≡ A.presentation.rank = omega arith in
    subst (λ (n : ℕ). AreSpelled A n words) all s
along_definitions A k words (d ∷ ds) e has s =
    let first : k + 0 ≡ k = omega arith in
    let here : HasDefinition A k d = subst (λ (n : ℕ). HasDefinition A n d) first (has 0 (omega arith)) in
    along_definitions A (suc k) (words ++ spelled A.presentation.prime words d ∷ []) ds (omega arith)
    (λ m below.
    let place : k + suc m ≡ suc k + m = omega arith in
    subst (λ (n : ℕ). HasDefinition A n (get_or ds m (image 0))) place (has (suc m) (omega arith)))
    (one_more A k words d (omega arith) s here)

pub generated : AnswersAreGenerated
generated A is =
    let none : AreSpelled A 0 [] = record { count = refl; each = λ m below. absurd (omega arith) } in
    let count : length A.definitions ≡ A.presentation.rank = is.definition_count in
    let all : AreSpelled A A.presentation.rank (spellings A.presentation.prime [] A.definitions) =
    along_definitions A 0 [] A.definitions (omega arith)
    (λ m below.
    let place : m ≡ 0 + m = omega arith in
    subst (λ (n : ℕ). HasDefinition A n (definition_at A m)) place (is.definitions m (omega arith)))
    none in
    all.each
