-- The lines of an answer all have the form of a line in their place, up to the end.
use Rattle.std.proofs.Common.{◌≡◌, ◌<◌, ◌≤◌, ◌+◌, ℕ, zero, suc, List, [], ◌∷◌, ◌++◌, get_or, length, refl, sym, subst, inl, inr, arith}
use Rattle.std.specs.Prelude.{codes}
use Rattle.pq_base.specs.Limits.{max_rank}
use Rattle.pq_base.specs.Name.{IsName}
use Rattle.pq_base.specs.Table.{AllBelow}
use Rattle.pq_base.specs.Answer.{Answer, Definition, HasDefinition, AreNormal, class_of, definition_at}
use Rattle.pq_base.specs.Answer.Definition.{image, commutator, power}
use Rattle.pc_presentation.specs.Syllable.{syllables_of}
use Rattle.pc_presentation.proofs.presentations.SyllableLaws.{AreSyllables-syllables_of}
use Rattle.answer_text.specs.AnswerText.{answer_lines, answer_text, generator_lines, power_lines, commutator_lines, image_lines}
use Rattle.answer_text.specs.OneText.{AreNames, IsWritable}
use Rattle.answer_text.specs.AnswerPlaces.{IsScale}
use Rattle.answer_text.specs.AnswerPlaces.Place.{for_prime, for_class, for_rank, for_order, in_body, at_end}
use Rattle.answer_text.specs.AnswerPlaces.HasForm.{prime, class, rank, order, image as image_form, last}
use Rattle.answer_text.specs.AnswerFaults.{IsWhole, FaultsAreNoAnswers}
use Rattle.answer_text.specs.BodyRead.{Leads}
use Rattle.answer_text.proofs.OneText.{last-small}
use Rattle.answer_text.proofs.lines.LineLeads.{AreFit, ArePowers, AreRow, AreRows, IsFit, IsWhole-Leads, Leads-append, generators-lead}
use Rattle.answer_text.proofs.lines.LineLeads.{powers-reach, rows-reach}

images-lead : (p n m : ℕ) (names es : List (List ℕ)) → IsScale p n → AreNames names → AreNormal p n es
    → Leads (in_body p n zero m) (image_lines names es ++ codes "end" ∷ []) at_end
images-lead p n m [] es z a b = (at_end, last p n m, refl)
images-lead p n m (name ∷ names) [] z a b = (at_end, last p n m, refl)
images-lead p n m (name ∷ names) (e ∷ es) z a b =
    let long : length e ≡ n = b.0.count in (
      in_body p n zero 1000000,
      image_form p n m name (syllables_of 0 e) z a.0 (AreSyllables-syllables_of p n 0 e (omega arith) b.0.below),
      images-lead p n 1000000 names es z a.1 b.1,
    )

ArePowers-each : (p n k : ℕ) (es : List (List ℕ))
    → ((i : ℕ) → i < length es → (suc (k + i) + length (get_or es i []) ≡ n) × AllBelow p (get_or es i [])) → ArePowers p n k es
ArePowers-each p n k [] h = tt
ArePowers-each p n k (e ∷ es) h = (
  omega (arith, (h 0 (omega arith)).0),
  (h 0 (omega arith)).1,
  ArePowers-each p n (suc k) es (λ i l. (omega (arith, (h (suc i) (omega arith)).0), (h (suc i) (omega arith)).1)),
)

AreRow-each : (p n j : ℕ) (es : List (List ℕ)) → ((i : ℕ) → i < length es → (j + length (get_or es i []) ≡ n) × AllBelow p (get_or es i []))
    → AreRow p n j es
AreRow-each p n j [] h = tt
AreRow-each p n j (e ∷ es) h = ((h 0 (omega arith)).0, (h 0 (omega arith)).1, AreRow-each p n j es (λ i l. h (suc i) (omega arith)))

AreRows-each : (p n k : ℕ) (rows : List (List (List ℕ)))
    → ((j : ℕ) → j < length rows → (length (get_or rows j []) ≡ k + j) × AreRow p n (suc (k + j)) (get_or rows j [])) → AreRows p n k rows
AreRows-each p n k [] h = tt
AreRows-each p n k (row ∷ rows) h =
    let first = h 0 (omega arith) in
    let same : suc (k + 0) ≡ suc k = omega arith in
    let here : AreRow p n (suc k) row = subst (λ (x : ℕ). AreRow p n x row) same first.1 in (
      omega (arith, first.0),
      here,
      AreRows-each p n (suc k) rows (λ j l.
          let next = h (suc j) (omega arith) in
          let moved : suc (k + suc j) ≡ suc (suc k + j) = omega arith in
          (omega (arith, next.0), subst (λ (x : ℕ). AreRow p n x (get_or rows j [])) moved next.1)),
    )

pub nth-name : (names : List (List ℕ)) (i : ℕ) → AreNames names → i < length names → IsName (get_or names i [])
nth-name [] i a h = absurd (omega arith)
nth-name (n ∷ ns) zero a h = a.0
nth-name (n ∷ ns) (suc i) a h = nth-name ns i a.1 (omega arith)

fit : (A : Answer) (k : ℕ) (d : Definition) → k < A.presentation.rank → AreNames A.names → length A.images ≡ length A.names
    → HasDefinition A k d → IsFit A.presentation.rank A.names d
fit A k (image zero) l names same h = absurd h
fit A k (image (suc i)) l names same h = nth-name A.names i names (omega (arith, h.1))
fit A k (commutator zero i) l names same h = absurd h
fit A k (commutator (suc j) zero) l names same h = absurd h
fit A k (commutator (suc j) (suc i)) l names same h = (omega arith, omega (arith, h.1), omega (arith, h.2))
fit A k (power zero) l names same h = absurd h
fit A k (power (suc j)) l names same h = (omega arith, omega (arith, h.1))

AreFit-each : (n : ℕ) (names : List (List ℕ)) (ds : List Definition) → ((k : ℕ) → k < length ds → IsFit n names (get_or ds k (image 0)))
    → AreFit n names ds
AreFit-each n names [] h = tt
AreFit-each n names (d ∷ ds) h = (h 0 (omega arith), AreFit-each n names ds (λ k l. h (suc k) (omega arith)))

body-lead : (A : Answer) → IsWritable A → Leads (in_body A.presentation.prime A.presentation.rank zero 0)
    (power_lines A.presentation.prime 0 A.presentation.powers
    ++ (commutator_lines 0 A.presentation.commutators ++ (image_lines A.names A.images ++ codes "end" ∷ []))) at_end
body-lead A w =
    let p : ℕ = A.presentation.prime in
    let n : ℕ = A.presentation.rank in
    let limit : n ≤ max_rank = w.rank_limit in
    let z : IsScale p n = record { offered = w.prime; limit = limit } in
    let is = w.answer.presentation in
    let power_count : length A.presentation.powers ≡ n = is.power_count in
    let row_count : length A.presentation.commutators ≡ n = is.commutator_count in
    let powers = powers-reach p n 0 0 A.presentation.powers z (omega arith) (omega arith)
    (ArePowers-each p n 0 A.presentation.powers
    (λ i l. let side = is.power_sides i (omega arith) in (omega (arith, side.count), side.below))) in
    let rows = rows-reach p n 0 powers.0 A.presentation.commutators z (omega (arith, powers.1)) (omega arith)
    (AreRows-each p n 0 A.presentation.commutators (λ j l.
    let long : length (get_or A.presentation.commutators j []) ≡ j = is.commutator_counts j (omega arith) in (
      omega arith,
      AreRow-each p n (suc (0 + j)) (get_or A.presentation.commutators j [])
          (λ i m. let side = is.commutator_sides j i (omega arith) (omega arith) in (omega (arith, side.count), side.below)),
    ))) in
    Leads-append (in_body p n zero 0) (in_body p n zero powers.0) at_end (power_lines p 0 A.presentation.powers)
    (commutator_lines 0 A.presentation.commutators ++ (image_lines A.names A.images ++ codes "end" ∷ [])) powers.2
    (Leads-append (in_body p n zero powers.0) (in_body p n zero rows.0) at_end (commutator_lines 0 A.presentation.commutators)
    (image_lines A.names A.images ++ codes "end" ∷ []) rows.2
    (images-lead p n rows.0 A.names A.images z w.names w.answer.images))

answer-leads : (A : Answer) → IsWritable A → Leads for_prime (answer_lines A) at_end
answer-leads A w =
    let p : ℕ = A.presentation.prime in
    let n : ℕ = A.presentation.rank in
    let limit : n ≤ max_rank = w.rank_limit in
    let z : IsScale p n = record { offered = w.prime; limit = limit } in
    let count : length A.weights ≡ n = w.answer.weight_count in
    let definition_count : length A.definitions ≡ n = w.answer.definition_count in
    let fits : AreFit n A.names A.definitions =
    AreFit-each n A.names A.definitions
    (λ k l. fit A k (definition_at A k) (omega arith) w.names w.answer.image_count (w.answer.definitions k (omega arith))) in
    let gens = generators-lead p n A.names 0 1 A.weights A.definitions z (omega arith) (omega arith) (omega arith) w.answer.weights fits in
    let gens_from : Leads (in_body p n n 0) (generator_lines p A.names 0 A.weights A.definitions) (in_body p n zero 0) =
    subst (λ (x : ℕ). Leads (in_body p n x 0) (generator_lines p A.names 0 A.weights A.definitions) (in_body p n zero 0)) count gens in (
      for_class p,
      prime p w.prime,
      (
        for_rank p,
        class p (class_of A) (last-small 1 A.weights w.answer.weights),
        (
          for_order p n,
          rank p n limit,
          (
            in_body p n n 0,
            order p n z,
            Leads-append (in_body p n n 0) (in_body p n zero 0) at_end (generator_lines p A.names 0 A.weights A.definitions)
                (power_lines p 0 A.presentation.powers
                ++ (commutator_lines 0 A.presentation.commutators ++ (image_lines A.names A.images ++ codes "end" ∷ []))) gens_from
                (body-lead A w),
          ),
        ),
      ),
    )

pub IsWhole-answer_text : (A : Answer) → IsWritable A → IsWhole for_prime (answer_text A) (length (answer_lines A))
unfolding answer_text
IsWhole-answer_text A w = IsWhole-Leads for_prime (answer_lines A) (answer-leads A w)

pub faults_are_no_answers : FaultsAreNoAnswers
faults_are_no_answers bytes zero f a = absurd f
faults_are_no_answers bytes (suc k) (inl bad) a =
    bad.not_whole (length (answer_lines a.0))
    (subst (λ (t : List ℕ). IsWhole for_prime t (length (answer_lines a.0))) (sym a.2) (IsWhole-answer_text a.0 a.1))
faults_are_no_answers bytes (suc k) (inr other) a = other.1 a
