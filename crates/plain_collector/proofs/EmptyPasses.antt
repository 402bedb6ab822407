-- Letters that pass a generator with which they have an empty word are pushed alone, and leave their tails.
use Rattle.std.proofs.Common.{◌≡◌, ℕ, zero, suc, ◌-◌, ◌<◌, ◌≤◌, List, [], replicate, refl, ap, sym, ◌∙◌}
use Rattle.pq_base.specs.Presentation.{commutator_side}
use Rattle.pc_presentation.specs.declared.relation.Relation.TheVariants.{Commutator}
use Rattle.pc_presentation.specs.Pcp.{TailedPresentation, IsTailedPresentation, right_side, tail_of, row_of}
use Rattle.pc_presentation.specs.Rowed.{RowedPresentation, commutator_row}
use Rattle.pc_presentation.specs.Collection.{Configuration, State, spelled, add_row, push_word, push_configuration, plain_push}
use Rattle.pc_presentation.specs.PushSteps.{passed}
use Rattle.pc_presentation.specs.Tailed.{Element, rowed_presentation, with_state, side_with_tail}
use Rattle.pc_presentation.proofs.presentations.RelationSides.{commutator_side-numbered}
use Rattle.pc_presentation.proofs.collecting.PushLaws.{push_word-add_row}
use Rattle.pc_presentation.proofs.collecting.PlainRule.{plain-rides, spelled-zeros}
use Rattle.pc_presentation.proofs.quotients.PushesLeft.{after}
use Rattle.pc_presentation.specs.AddedRows.{add_row_times}

-- letters that are passed with an empty word
module _ (Y : RowedPresentation) (j i : ℕ) (c : Configuration)
    (side : record { word = spelled (suc j) (commutator_side Y.base j i); row = commutator_row Y j i } ≡ c) (empty : c.word ≡ []) where
  passed-empty : (s : State) → passed Y i s j ≡ add_row Y.base.prime c.row (plain_push Y s j)
  passed-empty s =
      ap (push_configuration Y (plain_push Y) (plain_push Y s j)) side
      ∙ ap (λ (w : List ℕ). add_row Y.base.prime c.row (push_word (plain_push Y) (plain_push Y s j) w)) empty

  copies-passed : (n : ℕ) (s : State)
      → push_word (passed Y i) s (replicate n j) ≡ add_row_times Y.base.prime c.row n (push_word (plain_push Y) s (replicate n j))
  copies-passed zero s = refl
  copies-passed (suc n) s =
      ap (λ (t : State). push_word (passed Y i) t (replicate n j)) (passed-empty s)
      ∙ copies-passed n (add_row Y.base.prime c.row (plain_push Y s j))
      ∙ ap (add_row_times Y.base.prime c.row n)
      (push_word-add_row Y.base.prime (plain_push Y) (plain-rides Y Y.base.rank 0) c.row (plain_push Y s j) (replicate n j))

-- of an element
pub passed-together : (T : TailedPresentation) → IsTailedPresentation T → (e m e' : Element) (j i n : ℕ) → 1 ≤ i → i < j
    → j ≤ T.presentation.rank
    → right_side T.presentation (Commutator j i) ≡ replicate (T.presentation.rank - j) 0
    → m ≡ after (plain_push (rowed_presentation T)) e (replicate n (j - 1))
    → e' ≡ with_state m (add_row_times T.presentation.prime (row_of T.tails (tail_of T (Commutator j i))) n m.state)
    → e' ≡ after (passed (rowed_presentation T) (i - 1)) e (replicate n (j - 1))
passed-together T is e m e' j i n one less last zeros p q =
    let row : List ℕ = row_of T.tails (tail_of T (Commutator j i)) in
    q
    ∙ ap (λ (z : Element). with_state z (add_row_times T.presentation.prime row n z.state)) p
    ∙ ap (with_state e)
    (sym (copies-passed (rowed_presentation T) (j - 1) (i - 1) (side_with_tail T (Commutator j i))
    (sym (commutator_side-numbered T is j i one less last))
    (ap (spelled j) zeros ∙ spelled-zeros j (T.presentation.rank - j)) n e.state))
