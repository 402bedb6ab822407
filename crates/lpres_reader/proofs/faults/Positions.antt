-- Where no element passes a test.
use Rattle.std.proofs.Common.{◌≡◌, ℕ, ◌<◌, ◌≤◌, Bool, false, cond, ltb, List, length, get_or, position, Some, None, sym, ap, ◌∙◌, inl, inr}
use Rattle.std.proofs.Common.{arith}
use Rattle.std.specs.List.{position_or_len}
use Rattle.std.proofs.lemmas.Bool.{cases_Bool, ltb-false}
use Rattle.std.proofs.lemmas.List.Sums.{fails_before_first}

pub position-none : {X : Type 0} (p : X → Bool) (xs : List X) (k : ℕ) (d : X) → position p xs ≡ None → k < length xs
    → p (get_or xs k d) ≡ false
position-none p xs k d e h =
    let n = position_or_len p xs in
    let none : ltb n (length xs) ≡ false = elim (cases_Bool (ltb n (length xs))) [
      | inl t ↦ absurd (let f : Some n ≡ None = ap (λ (b : Bool). cond b (Some n) None) (sym t) ∙ e in cc)
      | inr f ↦ f
    ] in
    let long : length xs ≤ n = ltb-false n (length xs) none in
    fails_before_first p xs k d (omega arith)
