-- Each entry of a list of normal words is one.
use Rattle.std.proofs.Common.{ℕ, zero, suc, ◌<◌, List, [], ◌∷◌, get_or, length, arith}
use Rattle.pq_base.specs.Presentation.{IsNormal}
use Rattle.pq_base.specs.Answer.{AreNormal}

pub normal-entry : (p n : ℕ) (xs : List (List ℕ)) (i : ℕ) → AreNormal p n xs → i < length xs → IsNormal p n (get_or xs i [])
normal-entry p n [] i h l = absurd (omega arith)
normal-entry p n (x ∷ xs) zero h l = h.0
normal-entry p n (x ∷ xs) (suc i) h l = normal-entry p n xs i h.1 (omega arith)
