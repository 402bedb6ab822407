-- One text has one answer: the text tells the head, the generators, the relations and the images, part by part.
use Rattle.std.proofs.Common.{◌≡◌, ◌<◌, ◌≤◌, ◌+◌, ℕ, zero, suc, List, [], ◌∷◌, ◌++◌, get_or, length, map, ap, sym, subst, ◌∙◌, arith}
use Rattle.pq_base.specs.Limits.{max_class, max_rank}
use Rattle.pq_base.specs.Table.{AllBelow}
use Rattle.pq_base.specs.Presentation.{Presentation, IsPresentation, IsLaterSide, power_side, commutator_side}
use Rattle.pq_base.specs.Answer.{Answer, Definition, HasDefinition, AreWeights, AreNormal, last_or_zero, class_of, definition_at}
use Rattle.pq_base.specs.Answer.Definition.{image, commutator, power}
use Rattle.pq_base.specs.Lines.{text_of_lines}
use Rattle.pq_base.proofs.PrimeLaws.{offered-small}
use Rattle.pq_base.proofs.Restrictions.{same_presentations}
use Rattle.answer_text.specs.AnswerText.{definition_text, generator_lines, power_text, power_lines, commutator_text, commutator_lines}
use Rattle.answer_text.specs.OneText.{IsWritable, OneTextOneAnswer}
use Rattle.answer_text.proofs.lines.AnswerLines.{answer_text-parts}
use Rattle.answer_text.proofs.texts.RelationTexts.{NoRelation, AreAlike, SidesAlike, RowsAlike, power-commutator-apart}
use Rattle.answer_text.proofs.RelationsTold.{AreShortRows, powers-same, rows-same, NoRelation-rows}
use Rattle.answer_text.proofs.ImagesTold.{images_text, NoRelation-images, images-same}
use Rattle.answer_text.proofs.GeneratorsTold.{IsTold, AreTold, definitions-same, generators-same}
use Rattle.answer_text.proofs.HeadTold.{head-same}

pub last-small : (least : ℕ) (ws : List ℕ) → AreWeights least ws → last_or_zero ws ≤ max_class
last-small least [] a = omega arith
last-small least (w ∷ []) a = a.1
last-small least (w ∷ v ∷ ws) a = last-small w (v ∷ ws) a.2

sides-alike : (p : ℕ) (es fs : List (List ℕ)) → length es ≡ length fs
    → ((i : ℕ) → i < length es → AreAlike p (get_or es i []) (get_or fs i [])) → SidesAlike p es fs
sides-alike p [] [] long alike = tt
sides-alike p [] (f ∷ fs) long alike = absurd (omega arith)
sides-alike p (e ∷ es) [] long alike = absurd (omega arith)
sides-alike p (e ∷ es) (f ∷ fs) long alike = (alike 0 (omega arith), sides-alike p es fs (omega arith) (λ i l. alike (suc i) (omega arith)))

rows-alike : (p : ℕ) (es fs : List (List (List ℕ))) → length es ≡ length fs
    → ((i : ℕ) → i < length es → SidesAlike p (get_or es i []) (get_or fs i [])) → RowsAlike p es fs
rows-alike p [] [] long alike = tt
rows-alike p [] (f ∷ fs) long alike = absurd (omega arith)
rows-alike p (e ∷ es) [] long alike = absurd (omega arith)
rows-alike p (e ∷ es) (f ∷ fs) long alike = (alike 0 (omega arith), rows-alike p es fs (omega arith) (λ i l. alike (suc i) (omega arith)))

-- two presentations with one prime and one rank
module _ (P Q : Presentation) (prime : P.prime ≡ Q.prime) (rank : P.rank ≡ Q.rank) (limit : P.rank ≤ max_rank) (a : IsPresentation P)
    (b : IsPresentation Q) where
  later-alike : (i : ℕ) (e f : List ℕ) → IsLaterSide P i e → IsLaterSide Q i f → AreAlike P.prime e f
  later-alike i e f l m =
      let one : suc i + length e ≡ P.rank = l.count in
      let two : suc i + length f ≡ Q.rank = m.count in
      record { long = omega arith; short = omega arith; left = l.below; right = subst (λ (q : ℕ). AllBelow q f) (sym prime) m.below }

  pub powers-alike : SidesAlike P.prime P.powers Q.powers
  powers-alike =
      let one : length P.powers ≡ P.rank = a.power_count in
      let two : length Q.powers ≡ Q.rank = b.power_count in
      sides-alike P.prime P.powers Q.powers (omega arith)
      (λ i l. later-alike i (power_side P i) (power_side Q i) (a.power_sides i (omega arith)) (b.power_sides i (omega arith)))

  pub commutators-alike : RowsAlike P.prime P.commutators Q.commutators
  commutators-alike =
      let one : length P.commutators ≡ P.rank = a.commutator_count in
      let two : length Q.commutators ≡ Q.rank = b.commutator_count in
      rows-alike P.prime P.commutators Q.commutators (omega arith)
      (λ j l.
      let three : length (get_or P.commutators j []) ≡ j = a.commutator_counts j (omega arith) in
      let four : length (get_or Q.commutators j []) ≡ j = b.commutator_counts j (omega arith) in
      sides-alike P.prime (get_or P.commutators j []) (get_or Q.commutators j []) (omega arith)
      (λ i m. later-alike j (commutator_side P j i) (commutator_side Q j i) (a.commutator_sides j i (omega arith) (omega arith))
      (b.commutator_sides j i (omega arith) (omega arith))))

pub short-rows : (P : Presentation) → P.rank ≤ max_rank → IsPresentation P → AreShortRows P.commutators
short-rows P limit a i l =
    let long : length P.commutators ≡ P.rank = a.commutator_count in
    let entries : length (get_or P.commutators i []) ≡ i = a.commutator_counts i (omega arith) in
    omega arith

told : (A : Answer) (k : ℕ) (d : Definition) → k < max_rank → length A.images ≡ length A.names → HasDefinition A k d → IsTold A.names d
told A k (image zero) l same h = absurd h
told A k (image (suc i)) l same h = (omega arith, omega (arith, h.1, same))
told A k (commutator zero i) l same h = absurd h
told A k (commutator (suc j) zero) l same h = absurd h
told A k (commutator (suc j) (suc i)) l same h = (omega (arith, h.1, h.2), omega (arith, h.1, h.2))
told A k (power zero) l same h = absurd h
told A k (power (suc j)) l same h = omega (arith, h.1)

AreTold-each : (names : List (List ℕ)) (ds : List Definition) → ((k : ℕ) → k < length ds → IsTold names (get_or ds k (image 0)))
    → AreTold names ds
AreTold-each names [] h = tt
AreTold-each names (d ∷ ds) h = (h 0 (omega arith), AreTold-each names ds (λ k l. h (suc k) (omega arith)))

all-told : (A : Answer) → IsWritable A → AreTold A.names A.definitions
all-told A w =
    let count : length A.definitions ≡ A.presentation.rank = w.answer.definition_count in
    let limit : A.presentation.rank ≤ max_rank = w.rank_limit in
    AreTold-each A.names A.definitions
    (λ k l. told A k (definition_at A k) (omega arith) w.answer.image_count (w.answer.definitions k (omega arith)))

pub answer-same : (A B : Answer) → A.presentation ≡ B.presentation → A.weights ≡ B.weights → A.names ≡ B.names
    → A.definitions ≡ B.definitions → A.images ≡ B.images → A ≡ B
answer-same A B e1 e2 e3 e4 e5 = λ i. record { presentation = e1 i; weights = e2 i; names = e3 i; definitions = e4 i; images = e5 i }

-- what follows the powers, and what follows the head, where the prime is p
abbrev after_powers : Answer → List ℕ
after_powers A = text_of_lines (commutator_lines 0 A.presentation.commutators) ++ images_text A.names A.images

abbrev after_head : ℕ → Answer → List ℕ
after_head p A =
    text_of_lines (generator_lines p A.names 0 A.weights A.definitions)
    ++ (text_of_lines (power_lines p 0 A.presentation.powers) ++ after_powers A)

no_power : (A : Answer) (p : ℕ) → AreShortRows A.presentation.commutators → (j : ℕ) → NoRelation (power_text p (suc j)) (after_powers A)
no_power A p short j =
    NoRelation-rows (power_text p (suc j)) 0 A.presentation.commutators (images_text A.names A.images) short
    (λ k i l m n. power-commutator-apart p (suc j) (suc k) (suc i)) (NoRelation-images (power_text p (suc j)) A.names A.images)

-- the parts after the head
module _ (A B : Answer) (v : IsWritable A) (w : IsWritable B) (prime : A.presentation.prime ≡ B.presentation.prime)
    (rank : A.presentation.rank ≡ B.presentation.rank)
    (rest : after_head A.presentation.prime A ≡ after_head B.presentation.prime B) where
  rest-same : A ≡ B
  rest-same =
      let p : ℕ = A.presentation.prime in
      let small : p < 100 = omega (arith, offered-small p v.prime) in
      let limit : A.presentation.rank ≤ max_rank = v.rank_limit in
      let also : B.presentation.rank ≤ max_rank = w.rank_limit in
      let lists : length A.weights ≡ A.presentation.rank = v.answer.weight_count in
      let others : length B.weights ≡ B.presentation.rank = w.answer.weight_count in
      let defined : length A.definitions ≡ A.presentation.rank = v.answer.definition_count in
      let known : length B.definitions ≡ B.presentation.rank = w.answer.definition_count in
      let short = short-rows A.presentation limit v.answer.presentation in
      let brief = short-rows B.presentation also w.answer.presentation in
      let power_count : length A.presentation.powers ≡ A.presentation.rank = v.answer.presentation.power_count in
      let row_count : length A.presentation.commutators ≡ A.presentation.rank = v.answer.presentation.commutator_count in
      let same_prime : after_head p A ≡ after_head p B = rest ∙ ap (λ (q : ℕ). after_head q B) (sym prime) in
      let gens = generators-same p A.names B.names 0 1 1 A.weights B.weights A.definitions B.definitions
      (text_of_lines (power_lines p 0 A.presentation.powers) ++ after_powers A)
      (text_of_lines (power_lines p 0 B.presentation.powers) ++ after_powers B)
      small (omega arith) v.names w.names (omega arith) (omega arith) (omega arith) v.answer.weights w.answer.weights (all-told A v)
      (all-told B w) same_prime in
      let pows = powers-same p 0 A.presentation.powers B.presentation.powers (after_powers A) (after_powers B) small (omega arith)
      (powers-alike A.presentation B.presentation prime rank limit v.answer.presentation w.answer.presentation)
      (λ j l. no_power A p short j) (λ j l. no_power B p brief j) gens.2 in
      let comms =
      rows-same p 0 A.presentation.commutators B.presentation.commutators (images_text A.names A.images)
      (images_text B.names B.images) small (omega arith)
      (commutators-alike A.presentation B.presentation prime rank limit v.answer.presentation w.answer.presentation) short brief
      (λ j i l m. NoRelation-images (commutator_text (suc j) (suc i)) A.names A.images)
      (λ j i l m. NoRelation-images (commutator_text (suc j) (suc i)) B.names B.images) pows.1 in
      let normal : AreNormal p A.presentation.rank B.images =
      subst (λ (q : ℕ). AreNormal q A.presentation.rank B.images) (sym prime)
      (subst (λ (m : ℕ). AreNormal B.presentation.prime m B.images) (sym rank) w.answer.images) in
      let imgs =
      images-same p A.presentation.rank A.names A.images B.names B.images small limit v.names w.names v.answer.image_count
      w.answer.image_count v.answer.images normal comms.1 in
      let definitions =
      definitions-same p A.names A.definitions B.definitions v.answer.distinct (all-told A v)
      (subst (λ (ns : List (List ℕ)). AreTold ns B.definitions) (sym imgs.0) (all-told B w))
      (gens.1 ∙ ap (λ (ns : List (List ℕ)). map (definition_text p ns) B.definitions) (sym imgs.0)) in
      answer-same A B (same_presentations A.presentation B.presentation prime rank pows.0 comms.0) gens.0 imgs.0 definitions imgs.1

pub one_text_one_answer : OneTextOneAnswer
one_text_one_answer A B v w h =
    let limit : A.presentation.rank ≤ max_rank = v.rank_limit in
    let also : B.presentation.rank ≤ max_rank = w.rank_limit in
    let small : A.presentation.prime < 100 = omega (arith, offered-small A.presentation.prime v.prime) in
    let low : B.presentation.prime < 100 = omega (arith, offered-small B.presentation.prime w.prime) in
    let class : class_of A ≤ max_class = last-small 1 A.weights v.answer.weights in
    let other : class_of B ≤ max_class = last-small 1 B.weights w.answer.weights in
    let head = head-same A.presentation.prime (class_of A) A.presentation.rank B.presentation.prime (class_of B) B.presentation.rank
    (after_head A.presentation.prime A) (after_head B.presentation.prime B) (omega arith) (omega arith) (omega arith) (omega arith)
    (omega arith) (omega arith)
    (sym (answer_text-parts A) ∙ h ∙ answer_text-parts B) in
    rest-same A B v w head.0 head.1 head.2
