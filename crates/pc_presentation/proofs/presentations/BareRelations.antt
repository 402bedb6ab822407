-- Bare relations, those with an empty right side and no tail: all are bare where all words are empty, and one relation more
-- leaves the others what they were. The bare commutators are those of generators that commute.
use Rattle.std.proofs.Common.{◌≡◌, ◌≢◌, ℕ, zero, suc, ◌-◌, ◌<◌, ◌≤◌, Option, None, Some, List, [], get_or, length, replicate, refl, ap, sym}
use Rattle.std.proofs.Common.{◌∙◌, subst, arith}
use Rattle.pq_base.specs.Presentation.{commutator_side}
use Rattle.pc_presentation.specs.declared.syllable.Syllable.{Syllable}
use Rattle.pc_presentation.specs.declared.relation.Relation.{Relation}
use Rattle.pc_presentation.specs.declared.relation.Relation.TheVariants.{Commutator}
use Rattle.pc_presentation.specs.Syllable.{spread, syllables_of, AreSyllables}
use Rattle.pc_presentation.specs.Relation.{IsRelation, IsTail, side_start, PerRelation, entry_at}
use Rattle.pc_presentation.specs.Store.{Entry, blank}
use Rattle.pc_presentation.specs.Pcp.{TailedPresentation, IsTailedPresentation, IsBareRelation, HasShape, sides_of, right_side, tail_of}
use Rattle.pc_presentation.specs.Pcp.{unit_row, row_of, tail_rows, with_relation, plain_presentation}
use Rattle.pc_presentation.specs.Rowed.{commutator_row}
use Rattle.pc_presentation.specs.Tailed.{rowed_presentation}
use Rattle.pc_presentation.specs.Commuting.{IsBare}
use Rattle.pc_presentation.proofs.presentations.SyllableLaws.{syllables_of-spread}
use Rattle.pc_presentation.proofs.presentations.SyllableParts.{syllables_of-zeros}
use Rattle.pc_presentation.proofs.presentations.PcpLaws.{one_less, side_start-below, right_side-tailed, tail_of-tailed}
use Rattle.pc_presentation.proofs.presentations.PlainLaws.{spread-nil, plain-tailed}
use Rattle.pc_presentation.proofs.normal_tables.EntryLaws.{entry_at-with_entry_same, entry_at-with_entry_other}
use Rattle.pc_presentation.proofs.rows.TailRowLaws.{entry_at-tail_rows}

pub IsBareRelation-plain : (p tails : ℕ) (weights : List ℕ) (r : Relation) → IsRelation (length weights) r
    → IsBareRelation (plain_presentation p weights tails) r
IsBareRelation-plain p tails weights r h =
    let n : ℕ = length weights in
    let none : List Entry = replicate 0 blank in
    subst (λ (T : TailedPresentation). IsBareRelation T r) (plain-tailed p tails 0 weights) (record {
      side = right_side-tailed p tails weights none r h ∙ spread-nil (n - side_start r) (side_start r);
      tail = tail_of-tailed p tails weights none r h;
    })

module _ (T : TailedPresentation) (is : IsTailedPresentation T) (r : Relation) (word : List Syllable) (tail : Option ℕ)
    (h : IsRelation T.presentation.rank r) where
  abbrev one_more : TailedPresentation
  one_more = with_relation T r word tail

  shape : HasShape T.presentation.rank (sides_of T.presentation)
  shape = record {
    power_count = is.presentation.power_count;
    row_count = is.presentation.commutator_count;
    row_lengths = is.presentation.commutator_counts;
  }

  abbrev side : List ℕ
  side = spread (T.presentation.rank - side_start r) (side_start r) word

  side_here : right_side one_more.presentation r ≡ side
  side_here = entry_at-with_entry_same T.presentation.rank (sides_of T.presentation) [] shape r side h

  tail_here : tail_of one_more r ≡ tail
  tail_here = entry_at-with_entry_same T.presentation.rank T.tail_table None is.tail_shape r tail h

  side_elsewhere : (q : Relation) → IsRelation T.presentation.rank q → q ≢ r
      → right_side one_more.presentation q ≡ right_side T.presentation q
  side_elsewhere q l ne = entry_at-with_entry_other T.presentation.rank (sides_of T.presentation) [] shape r side h q l ne

  tail_elsewhere : (q : Relation) → IsRelation T.presentation.rank q → q ≢ r → tail_of one_more q ≡ tail_of T q
  tail_elsewhere q l ne = entry_at-with_entry_other T.presentation.rank T.tail_table None is.tail_shape r tail h q l ne

  -- the other relations
  pub IsBareRelation-with_other : (q : Relation) → IsRelation T.presentation.rank q → q ≢ r → IsBareRelation T q
      → IsBareRelation (with_relation T r word tail) q
  IsBareRelation-with_other q l ne b = record { side = side_elsewhere q l ne ∙ b.side; tail = tail_elsewhere q l ne ∙ b.tail }

  pub IsBareRelation-without_other : (q : Relation) → IsRelation T.presentation.rank q → q ≢ r
      → IsBareRelation (with_relation T r word tail) q → IsBareRelation T q
  IsBareRelation-without_other q l ne b =
      record { side = sym (side_elsewhere q l ne) ∙ b.side; tail = sym (tail_elsewhere q l ne) ∙ b.tail }

  -- the relation itself
  pub IsBareRelation-with_nothing : word ≡ [] → tail ≡ None → IsBareRelation (with_relation T r word tail) r
  IsBareRelation-with_nothing e f = record {
    side = side_here ∙ ap (spread (T.presentation.rank - side_start r) (side_start r)) e
        ∙ spread-nil (T.presentation.rank - side_start r) (side_start r);
    tail = tail_here ∙ f;
  }

  pub nothing-IsBareRelation : AreSyllables T.presentation.prime T.presentation.rank (side_start r) word
      → IsBareRelation (with_relation T r word tail) r
      → (word ≡ []) × (tail ≡ None)
  nothing-IsBareRelation a b =
      let n : ℕ = T.presentation.rank in
      let inside : side_start r ≤ n = side_start-below n r h in (
        sym (syllables_of-spread T.presentation.prime n (n - side_start r) (side_start r) word (omega arith) a)
            ∙ ap (syllables_of (side_start r)) (sym side_here ∙ b.side) ∙ syllables_of-zeros (side_start r) (n - side_start r),
        sym tail_here ∙ b.tail,
      )

-- a tail's row isn't that of no tail
unit_row-no_zeros : (n t : ℕ) → 1 ≤ t → t ≤ n → unit_row n t ≢ replicate n 0
unit_row-no_zeros zero t h l = absurd (omega arith)
unit_row-no_zeros (suc n) zero h l = absurd (omega arith)
unit_row-no_zeros (suc n) (suc zero) h l = λ e. cc
unit_row-no_zeros (suc n) (suc (suc t)) h l = λ e.
    let later : unit_row n (suc (suc t) - 1) ≡ replicate n 0 = cc in
    unit_row-no_zeros n (suc (suc t) - 1) (omega arith) (omega arith) later

row_of-zeros : (n : ℕ) (t : Option ℕ) → IsTail n t → row_of n t ≡ replicate n 0 → t ≡ None
row_of-zeros n None h e = refl
row_of-zeros n (Some t) h e = absurd (unit_row-no_zeros n t h.0 h.1 e)

-- the commutator of the generators at places l > k
module _ (T : TailedPresentation) (is : IsTailedPresentation T) (l k : ℕ) (h : l < T.presentation.rank) (m : k < l) where
  commutator_at : (t : PerRelation (List ℕ)) → get_or (get_or t.commutators l []) k [] ≡ entry_at [] t (Commutator (suc l) (suc k))
  commutator_at t =
      ap (λ (i : ℕ). get_or (get_or t.commutators i []) k []) (one_less l)
      ∙ ap (λ (i : ℕ). get_or (get_or t.commutators (suc l - 1) []) i []) (one_less k)

  relation : IsRelation T.presentation.rank (Commutator (suc l) (suc k))
  relation = (omega arith, omega arith, omega arith)

  side_at : commutator_side T.presentation l k ≡ right_side T.presentation (Commutator (suc l) (suc k))
  side_at = commutator_at (sides_of T.presentation)

  row_at : commutator_row (rowed_presentation T) l k ≡ row_of T.tails (tail_of T (Commutator (suc l) (suc k)))
  row_at = commutator_at (tail_rows T) ∙ entry_at-tail_rows T is (Commutator (suc l) (suc k)) relation

  pub IsBare-relation : IsBareRelation T (Commutator (suc l) (suc k)) → IsBare (rowed_presentation T) l k
  IsBare-relation b = record { side = side_at ∙ b.side; row = row_at ∙ ap (row_of T.tails) b.tail }

  pub IsBareRelation-bare : IsBare (rowed_presentation T) l k → IsBareRelation T (Commutator (suc l) (suc k))
  IsBareRelation-bare b = record {
    side = sym side_at ∙ b.side;
    tail = row_of-zeros T.tails (tail_of T (Commutator (suc l) (suc k))) (is.tails (Commutator (suc l) (suc k)) relation)
        (sym row_at ∙ b.row);
  }
