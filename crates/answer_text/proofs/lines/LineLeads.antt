-- Where the lines of generators and of relations lead to.
use Rattle.std.proofs.Common.{◌≡◌, ◌<◌, ◌≤◌, ◌+◌, ◌*◌, ℕ, zero, suc, List, [], ◌∷◌, ◌++◌, get_or, length, refl, arith}
use Rattle.pq_base.specs.Limits.{max_class, max_rank}
use Rattle.pq_base.specs.Name.{IsName}
use Rattle.pq_base.specs.Table.{AllBelow}
use Rattle.pq_base.specs.Answer.{Definition, AreWeights}
use Rattle.pq_base.specs.Answer.Definition.{image, commutator, power}
use Rattle.pq_base.specs.Lines.{text_of_lines}
use Rattle.pc_presentation.specs.declared.syllable.Syllable.{Syllable}
use Rattle.pc_presentation.specs.declared.relation.Relation.{Relation}
use Rattle.pc_presentation.specs.declared.relation.Relation.TheVariants.{Power, Commutator}
use Rattle.pc_presentation.specs.Syllable.{AreSyllables, syllables_of}
use Rattle.pc_presentation.specs.Relation.{IsRelation, side_start}
use Rattle.pc_presentation.proofs.presentations.SyllableLaws.{AreSyllables-syllables_of}
use Rattle.answer_text.specs.declared.source.Source.TheVariants.{Image, RightSide}
use Rattle.answer_text.specs.AnswerText.{generator_line, generator_lines, relation_lines, power_text, power_lines, commutator_text}
use Rattle.answer_text.specs.AnswerText.{commutator_row_lines, commutator_lines}
use Rattle.answer_text.specs.AnswerPlaces.{Place, HasForm, IsScale, left_text, order_of}
use Rattle.answer_text.specs.AnswerPlaces.Place.{in_body, at_end}
use Rattle.answer_text.specs.AnswerPlaces.HasForm.{generator, relation}
use Rattle.answer_text.specs.AnswerFaults.{IsEnd, IsWhole}
use Rattle.answer_text.specs.BodyRead.{Leads}
use Rattle.answer_text.proofs.FormLaws.{tells_places}
use Rattle.answer_text.proofs.lines.LineByLine as line_by_line

pub Leads-append : (P Q R : Place) (ls ks : List (List ℕ)) → Leads P ls Q → Leads Q ks R → Leads P (ls ++ ks) R
Leads-append = line_by_line.Leads-append Place HasForm IsEnd tells_places

pub IsWhole-Leads : (P : Place) (ls : List (List ℕ)) → Leads P ls at_end → IsWhole P (text_of_lines ls) (length ls)
IsWhole-Leads P [] a = (a, refl)
IsWhole-Leads P (l ∷ ls) a = (l, a.0, text_of_lines ls, a.1, refl, IsWhole-Leads a.0 ls a.2)

-- a definition that stands in a line
abbrev pub IsFit : ℕ → List (List ℕ) → Definition → Type 0
IsFit n names (image zero) = ⊥
IsFit n names (image (suc i)) = IsName (get_or names i [])
IsFit n names (commutator j i) = IsRelation n (Commutator j i)
IsFit n names (power j) = IsRelation n (Power j)

abbrev pub AreFit : ℕ → List (List ℕ) → List Definition → Type 0
AreFit n names [] = Unit {0}
AreFit n names (d ∷ ds) = IsFit n names d × AreFit n names ds

definition-form : (p n left k w : ℕ) (names : List (List ℕ)) (d : Definition) → IsScale p n → suc k + left ≡ n → 1 ≤ w → w ≤ max_class
    → IsFit n names d
    → HasForm (in_body p n (suc left) 0) (generator_line p names (suc k) w d) (in_body p n left 0)
definition-form p n left k w names (image zero) z inside one top fit = absurd fit
definition-form p n left k w names (image (suc i)) z inside one top fit =
    generator p n 0 left k w (Image (get_or names i [])) z inside one top fit
definition-form p n left k w names (commutator j i) z inside one top fit =
    generator p n 0 left k w (RightSide (Commutator j i)) z inside one top fit
definition-form p n left k w names (power j) z inside one top fit = generator p n 0 left k w (RightSide (Power j)) z inside one top fit

pub generators-lead : (p n : ℕ) (names : List (List ℕ)) (k least : ℕ) (ws : List ℕ) (ds : List Definition) → IsScale p n → 1 ≤ least
    → k + length ws ≡ n
    → length ds ≡ length ws → AreWeights least ws → AreFit n names ds
    → Leads (in_body p n (length ws) 0) (generator_lines p names k ws ds) (in_body p n zero 0)
generators-lead p n names k least [] ds z one inside long weights fit = refl
generators-lead p n names k least (w ∷ ws) [] z one inside long weights fit = absurd (omega arith)
generators-lead p n names k least (w ∷ ws) (d ∷ ds) z one inside long weights fit =
    let low : 1 ≤ w = omega (arith, weights.0) in (
      in_body p n (length ws) 0,
      definition-form p n (length ws) k w names d z (omega arith) low weights.1 fit.0,
      generators-lead p n names (suc k) w ws ds z low (omega arith) (omega arith) weights.2 fit.1,
    )

-- from behind one relation to behind another, which isn't behind b
abbrev Reaches : ℕ → ℕ → ℕ → List (List ℕ) → ℕ → Type 0
Reaches p n m ls b = (e : ℕ) × (e ≤ b) × Leads (in_body p n zero m) ls (in_body p n zero e)

Reaches-append : (p n m a b : ℕ) (ls ks : List (List ℕ)) → Reaches p n m ls a → ((e : ℕ) → e ≤ a → Reaches p n e ks b)
    → Reaches p n m (ls ++ ks) b
Reaches-append p n m a b ls ks first more =
    let next = more first.0 first.1 in
    (next.0, next.1, Leads-append (in_body p n zero m) (in_body p n zero first.0) (in_body p n zero next.0) ls ks first.2 next.2)

relation-reaches : (p n m b : ℕ) (r : Relation) (w : List Syllable) → IsScale p n → IsRelation n r → m < order_of r → order_of r ≤ b
    → AreSyllables p n (side_start r) w
    → Reaches p n m (relation_lines (left_text p r) w) b
relation-reaches p n m b r [] z is rises inside a = (m, omega arith, refl)
relation-reaches p n m b r (s ∷ ss) z is rises inside a =
    (order_of r, inside, (in_body p n zero (order_of r), relation p n m r (s ∷ ss) z is rises (omega arith) a, refl))

abbrev pub ArePowers : ℕ → ℕ → ℕ → List (List ℕ) → Type 0
ArePowers p n k [] = Unit {0}
ArePowers p n k (e ∷ es) = (suc k + length e ≡ n) × AllBelow p e × ArePowers p n (suc k) es

pub powers-reach : (p n k m : ℕ) (es : List (List ℕ)) → IsScale p n → m ≤ k → k + length es ≡ n → ArePowers p n k es
    → Reaches p n m (power_lines p k es) n
powers-reach p n k m [] z low inside a = (m, omega arith, refl)
powers-reach p n k m (e ∷ es) z low inside a =
    Reaches-append p n m (suc k) n (relation_lines (power_text p (suc k)) (syllables_of (suc k) e)) (power_lines p (suc k) es)
    (relation-reaches p n m (suc k) (Power (suc k)) (syllables_of (suc k) e) z (omega arith, omega arith) (omega arith) (omega arith)
    (AreSyllables-syllables_of p n (suc k) e (omega (arith, a.0)) a.1))
    (λ x h. powers-reach p n (suc k) x es z h (omega arith) a.2)

abbrev pub AreRow : ℕ → ℕ → ℕ → List (List ℕ) → Type 0
AreRow p n j [] = Unit {0}
AreRow p n j (e ∷ es) = (j + length e ≡ n) × AllBelow p e × AreRow p n j es

row-reaches : (p n j k m : ℕ) (es : List (List ℕ)) → IsScale p n → m ≤ 1000 * j + k → k + length es < j → j ≤ n → AreRow p n j es
    → Reaches p n m (commutator_row_lines j k es) (1000 * j + (k + length es))
row-reaches p n j k m [] z low inside limit a = (m, omega arith, refl)
row-reaches p n j k m (e ∷ es) z low inside limit a =
    Reaches-append p n m (1000 * j + suc k) (1000 * j + (k + length (e ∷ es)))
    (relation_lines (commutator_text j (suc k)) (syllables_of j e)) (commutator_row_lines j (suc k) es)
    (relation-reaches p n m (1000 * j + suc k) (Commutator j (suc k)) (syllables_of j e) z (omega arith, omega arith, limit) (omega arith)
    (omega arith)
    (AreSyllables-syllables_of p n j e (omega (arith, a.0)) a.1))
    (λ x h. let more = row-reaches p n j (suc k) x es z h (omega arith) limit a.2 in (more.0, omega (arith, more.1), more.2))

abbrev pub AreRows : ℕ → ℕ → ℕ → List (List (List ℕ)) → Type 0
AreRows p n k [] = Unit {0}
AreRows p n k (row ∷ rows) = (length row ≡ k) × AreRow p n (suc k) row × AreRows p n (suc k) rows

pub rows-reach : (p n k m : ℕ) (rows : List (List (List ℕ))) → IsScale p n → m ≤ 1000 * suc k → k + length rows ≡ n → AreRows p n k rows
    → Reaches p n m (commutator_lines k rows) (1000 * suc n)
rows-reach p n k m [] z low inside a = (m, omega arith, refl)
rows-reach p n k m (row ∷ rows) z low inside a =
    let limit : n ≤ max_rank = z.limit in
    Reaches-append p n m (1000 * suc k + (0 + length row)) (1000 * suc n) (commutator_row_lines (suc k) 0 row)
    (commutator_lines (suc k) rows)
    (row-reaches p n (suc k) 0 m row z (omega arith) (omega (arith, a.0)) (omega arith) a.1)
    (λ x h. rows-reach p n (suc k) x rows z (omega (arith, a.0)) (omega arith) a.2)
