-- Numbers of generators name an overlap, and each overlap has numbers.
use Rattle.std.proofs.Common.{◌≡◌, ℕ, suc, ◌-◌, ap, ◌∙◌, arith}
use Rattle.pc_presentation.specs.declared.overlap.Overlap.{Overlap}
use Rattle.pc_presentation.specs.declared.overlap.Overlap.TheVariants.{Triple, Left, Right, Own}
use Rattle.pc_presentation.specs.Overlaps.{Overlap as OverlapOfPlaces, IsOverlap, triple, left, right, own}
use Rattle.pc_presentation.specs.OverlapNumbers.{AreOverlapNumbers, overlap_of}

pub overlap_of-is : (n : ℕ) (o : Overlap) → AreOverlapNumbers n o → IsOverlap n (overlap_of o)
overlap_of-is n (Triple k j i) h = let a = h.0 in let b = h.1 in let c = h.2 in let d = h.3 in (omega arith, omega arith, omega arith)
overlap_of-is n (Left j i) h = let a = h.0 in let b = h.1 in let c = h.2 in (omega arith, omega arith)
overlap_of-is n (Right j i) h = let a = h.0 in let b = h.1 in let c = h.2 in (omega arith, omega arith)
overlap_of-is n (Own i) h = let a = h.0 in let b = h.1 in omega arith

-- the numbers of places
abbrev pub numbered : OverlapOfPlaces → Overlap
numbered (triple k j i) = Triple (suc k) (suc j) (suc i)
numbered (left j i) = Left (suc j) (suc i)
numbered (right j i) = Right (suc j) (suc i)
numbered (own i) = Own (suc i)

pub numbered-is : (n : ℕ) (o : OverlapOfPlaces) → IsOverlap n o → AreOverlapNumbers n (numbered o)
numbered-is n (triple k j i) h = let a = h.0 in let b = h.1 in let c = h.2 in (omega arith, omega arith, omega arith, omega arith)
numbered-is n (left j i) h = let a = h.0 in let b = h.1 in (omega arith, omega arith, omega arith)
numbered-is n (right j i) h = let a = h.0 in let b = h.1 in (omega arith, omega arith, omega arith)
numbered-is n (own i) h = (omega arith, omega arith)

one_less : (i : ℕ) → suc i - 1 ≡ i
one_less i = omega arith

pub overlap_of-numbered : (o : OverlapOfPlaces) → overlap_of (numbered o) ≡ o
overlap_of-numbered (triple k j i) =
    ap (λ (z : ℕ). triple z (suc j - 1) (suc i - 1)) (one_less k) ∙ ap (λ (z : ℕ). triple k z (suc i - 1)) (one_less j)
    ∙ ap (triple k j) (one_less i)
overlap_of-numbered (left j i) = ap (λ (z : ℕ). left z (suc i - 1)) (one_less j) ∙ ap (left j) (one_less i)
overlap_of-numbered (right j i) = ap (λ (z : ℕ). right z (suc i - 1)) (one_less j) ∙ ap (right j) (one_less i)
overlap_of-numbered (own i) = ap own (one_less i)
