-- Lists whose entries are all below a number: parts, joined lists and single entries.
use Rattle.std.proofs.Common.{ℕ, zero, suc, ◌<◌, List, [], ◌∷◌, ◌++◌, length, get_or, take, drop, arith}
use Rattle.std.proofs.Math.ListN.{set}
use Rattle.pq_base.specs.Table.{AllBelow}

pub AllBelow-append : (p : ℕ) (xs ys : List ℕ) → AllBelow p xs → AllBelow p ys → AllBelow p (xs ++ ys)
AllBelow-append p [] ys below below' = below'
AllBelow-append p (x ∷ xs) ys below below' = (below.0, AllBelow-append p xs ys below.1 below')

pub AllBelow-take : (p n : ℕ) (xs : List ℕ) → AllBelow p xs → AllBelow p (take n xs)
AllBelow-take p zero xs below = tt
AllBelow-take p (suc n) [] below = tt
AllBelow-take p (suc n) (x ∷ xs) below = (below.0, AllBelow-take p n xs below.1)

pub AllBelow-drop : (p n : ℕ) (xs : List ℕ) → AllBelow p xs → AllBelow p (drop n xs)
AllBelow-drop p zero xs below = below
AllBelow-drop p (suc n) [] below = tt
AllBelow-drop p (suc n) (x ∷ xs) below = AllBelow-drop p n xs below.1

pub AllBelow-set : (p : ℕ) (xs : List ℕ) (i x : ℕ) → x < p → AllBelow p xs → AllBelow p (set xs i x)
AllBelow-set p [] i x h below = tt
AllBelow-set p (y ∷ xs) zero x h below = (h, below.1)
AllBelow-set p (y ∷ xs) (suc i) x h below = (below.0, AllBelow-set p xs i x h below.1)

pub get_or-below_within : (p : ℕ) (xs : List ℕ) (i d : ℕ) → i < length xs → AllBelow p xs → get_or xs i d < p
get_or-below_within p [] i d h below = absurd (omega arith)
get_or-below_within p (x ∷ xs) zero d h below = below.0
get_or-below_within p (x ∷ xs) (suc i) d h below = get_or-below_within p xs i d (omega arith) below.1
