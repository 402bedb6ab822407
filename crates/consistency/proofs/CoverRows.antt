-- Overlaps over a collector in a presentation with tails: over a consistent presentation the exponents of both ways agree,
-- and where they do the row is as wide as the tails are many, and trivial.
use Rattle.std.proofs.Common.{◌≡◌, ℕ, ◌-◌, ◌<◌, Bool, true, false, IsTrue, IsFalse, [], length, refl, ap, ◌∙◌, subst}
use Rattle.pq_base.specs.Joined.{Joined, IsConsistent}
use Rattle.pq_base.specs.Presentation.{word_from}
use Rattle.pc_presentation.specs.declared.overlap.Overlap.{Overlap}
use Rattle.pc_presentation.specs.OverlapNumbers.{AreOverlapNumbers, overlap_of}
use Rattle.pc_presentation.specs.Pcp.{TailedPresentation, IsTailedPresentation}
use Rattle.pc_presentation.specs.Rowed.{IsRowed, RowedPresentation, flat}
use Rattle.pc_presentation.specs.Collection.{State}
use Rattle.pc_presentation.specs.Arithmetic.{IsMeaning}
use Rattle.pc_presentation.specs.Overlaps.{Overlap as OverlapOfPlaces}
use Rattle.pc_presentation.specs.Tailed.{Element, rowed_presentation}
use Rattle.pc_presentation.proofs.quotients.TailedLaws.{rowed_presentation-is}
use Rattle.pc_presentation.proofs.consistent.OverlapNumberLaws.{overlap_of-is}
use Rattle.pc_presentation.specs.OverlapRows.{ExponentsAgree, overlap_row}
use Rattle.pc_presentation.proofs.consistent.OverlapRows.{overlap_row-row, overlap_row-trivial, ends-agree}
use Rattle.consistency.specs.ConsistencyLaws.{OverlapRowsAreTrivial}

module _ (T : TailedPresentation) (is : IsTailedPresentation T) (push : State → ℕ → State)
    (reaches : IsRowed (rowed_presentation T) → IsMeaning (rowed_presentation T) push)
    (o : Overlap) (numbers : AreOverlapNumbers T.presentation.rank o) where
  big : 1 < T.presentation.prime
  big = is.presentation.prime

  meaning : IsMeaning (rowed_presentation T) push
  meaning = reaches (rowed_presentation-is T is)

  pub exponents-agree : IsConsistent T.presentation → ExponentsAgree (rowed_presentation T) push (overlap_of o)
  exponents-agree consistent =
      ends-agree (rowed_presentation T) (rowed_presentation-is T is) big push meaning (overlap_of o)
      (overlap_of-is T.presentation.rank o numbers) consistent

  pub overlap_row-length : length (overlap_row (rowed_presentation T) push (overlap_of o)) ≡ T.tails
  overlap_row-length =
      (overlap_row-row (rowed_presentation T) (rowed_presentation-is T is) big push meaning (overlap_of o)
      (overlap_of-is T.presentation.rank o numbers)).count

  pub cover_row-trivial : ExponentsAgree (rowed_presentation T) push (overlap_of o)
      → Joined (flat (rowed_presentation T)) (word_from T.presentation.rank (overlap_row (rowed_presentation T) push (overlap_of o))) []
  cover_row-trivial same =
      overlap_row-trivial (rowed_presentation T) (rowed_presentation-is T is) big push meaning (overlap_of o)
      (overlap_of-is T.presentation.rank o numbers) same

-- the state of an element is the end of a way in one presentation, and so in one that is equal to it
pub end-in_cover : (end : RowedPresentation → (State → ℕ → State) → OverlapOfPlaces → State)
    (meaning : RowedPresentation → State → ℕ → State)
    (T U : TailedPresentation) (o : OverlapOfPlaces) (e f : Element) → e ≡ f → U ≡ T
    → f.state ≡ end (rowed_presentation U) (meaning (rowed_presentation U)) o
    → e.state ≡ end (rowed_presentation T) (meaning (rowed_presentation T)) o
end-in_cover end meaning T U o e f same presentation reached =
    ap (λ (d : Element). d.state) same
    ∙ subst (λ (V : TailedPresentation). f.state ≡ end (rowed_presentation V) (meaning (rowed_presentation V)) o) presentation reached

-- a fact that holds in either case
pub either_way : (b : Bool) (P : Type 0) → (IsTrue b → P) → (IsFalse b → P) → P
either_way true P h i = h refl
either_way false P h i = i refl

pub overlap_rows_are_trivial : OverlapRowsAreTrivial
overlap_rows_are_trivial Y rowed push meaning o h same = overlap_row-trivial Y rowed rowed.base.prime push meaning o h same
