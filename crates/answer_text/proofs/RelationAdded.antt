-- A relation behind all that were given adds its line, and no relation behind it is given.
use Rattle.std.proofs.Common.{◌≡◌, ◌<◌, ◌≤◌, ◌+◌, ◌-◌, ◌*◌, ℕ, suc, List, [], ◌∷◌, ◌++◌, get_or, length, slice_set, refl, ap, ap₂, sym}
use Rattle.std.proofs.Common.{subst, ◌∙◌, arith, append_assoc, append-nil}
use Rattle.pq_base.specs.Limits.{max_rank}
use Rattle.pq_base.specs.Presentation.{Presentation}
use Rattle.pc_presentation.specs.declared.syllable.Syllable.{Syllable}
use Rattle.pc_presentation.specs.declared.relation.Relation.{Relation}
use Rattle.pc_presentation.specs.declared.relation.Relation.TheVariants.{Power, Commutator}
use Rattle.pc_presentation.specs.Syllable.{AreSyllables, spread, syllables_of}
use Rattle.pc_presentation.specs.Relation.{IsRelation, side_start}
use Rattle.pc_presentation.specs.Pcp.{HasShape, sides_of, with_side}
use Rattle.pc_presentation.proofs.presentations.SyllableLaws.{syllables_of-spread}
pub use Rattle.answer_text.specs.Drafts.{all_lines, IsBlankBehind}
use Rattle.answer_text.specs.AnswerText.{relation_lines, power_text, power_lines, commutator_text, commutator_lines}
use Rattle.answer_text.specs.AnswerPlaces.{left_text, order_of, relation_line}
use Rattle.answer_text.proofs.RelationAppends.{PowersBlank, PowersBlank-later, power_lines-set, PowersBlank-set, RowsBlank-later}
use Rattle.answer_text.proofs.RelationAppends.{rows-blank, commutator_lines-set}

one-line : (p : ℕ) (r : Relation) (w : List Syllable) → 1 ≤ length w → relation_lines (left_text p r) w ≡ relation_line p r w ∷ []
one-line p r [] h = absurd (omega arith)
one-line p r (s ∷ w) h = refl

pub relation-added : (p n last : ℕ) (P : Presentation) (r : Relation) (w : List Syllable) → n ≤ max_rank → HasShape n (sides_of P)
    → IsBlankBehind last P → IsRelation n r → last < order_of r
    → 1 ≤ length w → AreSyllables p n (side_start r) w
    → (all_lines p (with_side P r (spread (n - side_start r) (side_start r) w)) ≡ all_lines p P ++ relation_line p r w ∷ [])
    × IsBlankBehind (order_of r) (with_side P r (spread (n - side_start r) (side_start r) w))
relation-added p n last P (Power i) w limit shape blank is rises some a =
    let count : length P.powers ≡ n = shape.power_count in
    let one : 1 ≤ i = is.0 in
    let inside : i ≤ n = is.1 in
    let e : List ℕ = spread (n - i) i w in
    let word : syllables_of i e ≡ w = syllables_of-spread p n (n - i) i w (omega arith) a in
    let free : PowersBlank 0 (i - 1) P.powers = PowersBlank-later 0 last (i - 1) P.powers (omega arith) blank.0 in
    let lines = power_lines-set p 0 (i - 1) i P.powers e (omega arith) (omega arith) free in
    let none : commutator_lines 0 P.commutators ≡ [] = rows-blank 0 last P.commutators (omega arith) blank.1 in
    let line : relation_lines (power_text p i) (syllables_of i e) ≡ relation_line p (Power i) w ∷ [] =
    ap (λ (v : List Syllable). relation_lines (power_text p i) v) word ∙ one-line p (Power i) w some in
    let next : suc (i - 1) ≡ i = omega arith in (
      ap₂ (λ (s t : List (List ℕ)). s ++ t) (lines ∙ ap (λ (t : List (List ℕ)). power_lines p 0 P.powers ++ t) line) none
          ∙ append-nil (power_lines p 0 P.powers ++ relation_line p (Power i) w ∷ [])
          ∙ ap (λ (t : List (List ℕ)). t ++ relation_line p (Power i) w ∷ [])
          (sym (append-nil (power_lines p 0 P.powers)) ∙ ap (λ (t : List (List ℕ)). power_lines p 0 P.powers ++ t) (sym none)),
      (
        subst (λ (x : ℕ). PowersBlank 0 x (slice_set P.powers (i - 1) e)) next (PowersBlank-set 0 (i - 1) P.powers e free),
        RowsBlank-later 0 last i P.commutators (omega arith) blank.1,
      ),
    )
relation-added p n last P (Commutator j i) w limit shape blank is rises some a =
    let count : length P.commutators ≡ n = shape.row_count in
    let one : 1 ≤ i = is.0 in
    let less : i < j = is.1 in
    let inside : j ≤ n = is.2 in
    let long : length (get_or P.commutators (j - 1) []) ≡ j - 1 = shape.row_lengths (j - 1) (omega arith) in
    let e : List ℕ = spread (n - j) j w in
    let word : syllables_of j e ≡ w = syllables_of-spread p n (n - j) j w (omega arith) a in
    let rows =
    commutator_lines-set 0 (j - 1) (i - 1) j i last P.commutators e (omega arith) (omega arith) (omega arith) (omega arith) (omega arith)
    (omega arith) blank.1 in
    let line : relation_lines (commutator_text j i) (syllables_of j e) ≡ relation_line p (Commutator j i) w ∷ [] =
    ap (λ (v : List Syllable). relation_lines (commutator_text j i) v) word ∙ one-line p (Commutator j i) w some in (
      ap (λ (t : List (List ℕ)). power_lines p 0 P.powers ++ t)
          (rows.0 ∙ ap (λ (t : List (List ℕ)). commutator_lines 0 P.commutators ++ t) line)
          ∙ sym (append_assoc (power_lines p 0 P.powers) (commutator_lines 0 P.commutators) (relation_line p (Commutator j i) w ∷ [])),
      (PowersBlank-later 0 last (1000 * j + i) P.powers (omega arith) blank.0, rows.1),
    )
