-- The first slot with a pivot holds the row of the basis with this pivot, and there is one exactly where there is such a row.
use Rattle.std.proofs.Common.{◌≡◌, ◌≢◌, ◌↔◌, ℕ, zero, suc, ◌+◌, ◌<◌, ◌≤◌, Bool, true, false, cond, IsTrue, IsSome, is_some, Option, Some}
use Rattle.std.proofs.Common.{None, IfSome, IfNone, List, [], ◌∷◌, length, get_or, eqb, inl, inr, refl, ap, sym, ◌∙◌, arith, eq-eqb, ne_eqb}
use Rattle.fp_echelon.specs.Reduced.{BasisRow, IsPivot, at_pivot}
use Rattle.fp_echelon.specs.Slots.{Slot, seen, all_seen, pivot_at, IsPlaceOf}

pub at_pivot-head : (c : ℕ) (b : BasisRow) (bs : List BasisRow) → b.pivot ≡ c → at_pivot c (b ∷ bs) ≡ b
at_pivot-head c b bs e = ap (λ (t : Bool). cond t b (at_pivot c bs)) (eq-eqb b.pivot c e)

pub at_pivot-tail : (c : ℕ) (b : BasisRow) (bs : List BasisRow) → b.pivot ≢ c → at_pivot c (b ∷ bs) ≡ at_pivot c bs
at_pivot-tail c b bs ne = ap (λ (t : Bool). cond t b (at_pivot c bs)) (ne_eqb b.pivot c ne)

IsPlaceOf-tail : (c : ℕ) (s : Slot) (slots : List Slot) (i : ℕ) → IsPlaceOf c (s ∷ slots) (suc i) → IsPlaceOf c slots i
IsPlaceOf-tail c s slots i place =
    let within = place.within in
    record { within = omega arith; pivot = place.pivot; first = λ k h. place.first (suc k) (omega arith) }

pub at_pivot-place : (c n : ℕ) (slots : List Slot) (i : ℕ) (d : Slot) → IsPlaceOf c slots i
    → at_pivot c (all_seen n slots) ≡ seen n (get_or slots i d)
at_pivot-place c n [] i d place = let within = place.within in absurd (omega arith)
at_pivot-place c n (s ∷ slots) zero d place = at_pivot-head c (seen n s) (all_seen n slots) place.pivot
at_pivot-place c n (s ∷ slots) (suc i) d place =
    at_pivot-tail c (seen n s) (all_seen n slots) (place.first 0 (omega arith))
    ∙ at_pivot-place c n slots i d (IsPlaceOf-tail c s slots i place)

pub IsPivot-place : (c n : ℕ) (slots : List Slot) (i : ℕ) → IsPlaceOf c slots i → IsPivot c (all_seen n slots)
IsPivot-place c n [] i place = let within = place.within in absurd (omega arith)
IsPivot-place c n (s ∷ slots) zero place = inl place.pivot
IsPivot-place c n (s ∷ slots) (suc i) place = inr (IsPivot-place c n slots i (IsPlaceOf-tail c s slots i place))

pub no_place : (c n : ℕ) (slots : List Slot) → ((k : ℕ) → k < length slots → pivot_at slots k ≢ c) → IsPivot c (all_seen n slots) → ⊥
no_place c n [] none h = elim h [ ]
no_place c n (s ∷ slots) none (inl e) = none 0 (omega arith) e
no_place c n (s ∷ slots) none (inr h) = no_place c n slots (λ k l. none (suc k) (omega arith)) h

pub IsPivot-found : (c n : ℕ) (slots : List Slot) (o : Option ℕ) → IfSome o (λ i. IsPlaceOf c slots i)
    → IfNone o ((k : ℕ) → k < length slots → pivot_at slots k ≢ c) → IsSome o ↔ IsPivot c (all_seen n slots)
IsPivot-found c n slots None some none = (λ h. cc, λ h. absurd (no_place c n slots none h))
IsPivot-found c n slots (Some i) some none = (λ h. IsPivot-place c n slots i some, λ h. refl)

-- the number of coefficients does not matter
pub IsPivot-seen : (c n m : ℕ) (slots : List Slot) → IsPivot c (all_seen n slots) → IsPivot c (all_seen m slots)
IsPivot-seen c n m [] h = h
IsPivot-seen c n m (s ∷ slots) (inl e) = inl e
IsPivot-seen c n m (s ∷ slots) (inr h) = inr (IsPivot-seen c n m slots h)
