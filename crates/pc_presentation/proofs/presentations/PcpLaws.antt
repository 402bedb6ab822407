-- What is kept of a presentation is one: entries with sparse words over later generators make a presentation with tails,
-- whose right sides are those words.
use Rattle.std.proofs.Common.{◌≡◌, ℕ, suc, ◌+◌, ◌-◌, ◌≤◌, None, List, [], length, refl, ap, sym, ◌∙◌, subst, arith}
use Rattle.pq_base.specs.Limits.{max_rank}
use Rattle.pq_base.specs.Prime.{IsOffered}
use Rattle.pq_base.specs.Table.{AllBelow}
use Rattle.pq_base.specs.Presentation.{IsLaterSide, power_side, commutator_side}
use Rattle.pq_base.proofs.PrimeLaws.{offered-two, offered-positive}
use Rattle.pc_presentation.specs.declared.relation.Relation.{Relation}
use Rattle.pc_presentation.specs.declared.relation.Relation.TheVariants.{Power, Commutator}
use Rattle.pc_presentation.specs.Syllable.{spread, syllables_of}
use Rattle.pc_presentation.specs.Relation.{IsRelation, IsTail, side_start, per_relation}
use Rattle.pc_presentation.specs.Store.{Entry, stored_at, AreEntries}
use Rattle.pc_presentation.specs.Pcp.{TailedPresentation, IsTailedPresentation, HasShape, tailed_presentation, right_side, side_word}
use Rattle.pc_presentation.specs.Pcp.{tail_of}
use Rattle.pc_presentation.proofs.presentations.SyllableLaws.{length-spread, AllBelow-spread, syllables_of-spread}
use Rattle.pc_presentation.proofs.presentations.RelationTables.{entry_at-per_relation, per_relation-shape}

pub one_less : (i : ℕ) → i ≡ suc i - 1
one_less i = omega arith

pub side_start-below : (n : ℕ) (r : Relation) → IsRelation n r → side_start r ≤ n
side_start-below n (Power i) h = h.1
side_start-below n (Commutator j i) h = h.2

-- the right side of a relation of n generators that is kept as an entry
abbrev pub side_of : ℕ → List Entry → Relation → List ℕ
side_of n entries r = spread (n - side_start r) (side_start r) (stored_at n entries r).word

module _ (p tails : ℕ) (weights : List ℕ) (entries : List Entry) where
  pub right_side-tailed : (r : Relation) → IsRelation (length weights) r
      → right_side (tailed_presentation p weights tails entries).presentation r ≡ side_of (length weights) entries r
  right_side-tailed r h = entry_at-per_relation (length weights) (side_of (length weights) entries) [] r h

  pub tail_of-tailed : (r : Relation) → IsRelation (length weights) r
      → tail_of (tailed_presentation p weights tails entries) r ≡ (stored_at (length weights) entries r).tail
  tail_of-tailed r h = entry_at-per_relation (length weights) (λ q. (stored_at (length weights) entries q).tail) None r h

  pub syllables_of-right_side : AreEntries p (length weights) tails entries → (r : Relation) → IsRelation (length weights) r
      → side_word (tailed_presentation p weights tails entries).presentation r
      ≡ (stored_at (length weights) entries r).word
  syllables_of-right_side a r h =
      let n : ℕ = length weights in
      let inside : side_start r ≤ n = side_start-below n r h in
      ap (syllables_of (side_start r)) (right_side-tailed r h)
      ∙ syllables_of-spread p n (n - side_start r) (side_start r) (stored_at n entries r).word (omega arith) (a.words r h)

  later_side : AreEntries p (length weights) tails entries → 1 ≤ p → (r : Relation) (i : ℕ) (e : List ℕ) → IsRelation (length weights) r
      → side_start r ≡ suc i
      → e ≡ right_side (tailed_presentation p weights tails entries).presentation r
      → IsLaterSide (tailed_presentation p weights tails entries).presentation i e
  later_side a h r i e relation start is =
      let n : ℕ = length weights in
      let T : TailedPresentation = tailed_presentation p weights tails entries in
      let inside : side_start r ≤ n = side_start-below n r relation in
      let long : length (side_of n entries r) ≡ n - side_start r =
      length-spread (n - side_start r) (side_start r) (stored_at n entries r).word in
      let total : suc i + (n - side_start r) ≡ n = omega arith in
      record {
        count = ap (λ (x : List ℕ). suc i + length x) (is ∙ right_side-tailed r relation) ∙ ap (λ (m : ℕ). suc i + m) long ∙ total;
        below = subst (AllBelow p) (sym (is ∙ right_side-tailed r relation))
            (AllBelow-spread p n (n - side_start r) (side_start r) (stored_at n entries r).word h (a.words r relation));
      }

  pub tailed_presentation-is : AreEntries p (length weights) tails entries → IsOffered p → length weights ≤ max_rank
      → IsTailedPresentation (tailed_presentation p weights tails entries)
  tailed_presentation-is a offered limit =
      let h : 1 ≤ p = offered-positive p offered in
      let n : ℕ = length weights in
      let T : TailedPresentation = tailed_presentation p weights tails entries in
      let shape : HasShape n (per_relation n (side_of n entries)) = per_relation-shape n (side_of n entries) in
      record {
        prime = offered;
        presentation = record {
          prime = offered-two p offered;
          power_count = shape.power_count;
          power_sides = λ i l.
              later_side a h (Power (suc i)) i (power_side T.presentation i) (omega arith, omega arith) refl
              (ap (λ (k : ℕ). power_side T.presentation k) (one_less i));
          commutator_count = shape.row_count;
          commutator_counts = shape.row_lengths;
          commutator_sides = λ j i l m.
              later_side a h (Commutator (suc j) (suc i)) j (commutator_side T.presentation j i)
              (omega arith, omega arith, omega arith) refl
              (ap (λ (k : ℕ). commutator_side T.presentation k i) (one_less j)
              ∙ ap (λ (k : ℕ). commutator_side T.presentation (suc j - 1) k) (one_less i));
        };
        rank_limit = limit;
        weight_count = refl;
        tail_shape = per_relation-shape n (λ q. (stored_at n entries q).tail);
        tails = λ r l. subst (IsTail tails) (sym (tail_of-tailed r l)) (a.in_range r l);
      }
