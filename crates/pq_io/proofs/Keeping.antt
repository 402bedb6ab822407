-- The bytes that have room beside those kept are the first bytes of all that was given, and all of them if none are over.
use Rattle.std.proofs.Common.{◌≡◌, ◌+◌, ◌-◌, ◌≤◌, nat_lt, ℕ, zero, suc, min, List, [], ◌∷◌, ◌++◌, length, take, ◌∙◌, ap, arith}
use Rattle.std.proofs.lemmas.List.{take_min}
use Rattle.std.proofs.lemmas.Bool.Decides.{nat_tests}

pub kept_of : (kept piece : List ℕ) (room : ℕ) → length kept ≤ room
    → kept ++ take (min (length piece) (room - length kept)) piece ≡ take room (kept ++ piece)
kept_of [] piece room fits =
    let same : min (length piece) (room - 0) ≡ min room (length piece) = omega arith in
    ap (λ (n : ℕ). take n piece) same ∙ take_min room piece
kept_of (b ∷ kept) piece zero fits = absurd (omega arith)
kept_of (b ∷ kept) piece (suc room) fits =
    let same : min (length piece) (suc room - suc (length kept)) ≡ min (length piece) (room - length kept) = omega arith in
    ap (λ (l : List ℕ). b ∷ l) (ap (λ (n : ℕ). kept ++ take n piece) same ∙ kept_of kept piece room (omega arith))

pub over_of : (kept given room : ℕ) → kept ≤ room → nat_lt (room - kept) given ≡ nat_lt room (kept + given)
over_of kept given room fits = grind (arith, nat_tests)

pub ruleset keeping = (kept_of, over_of)
