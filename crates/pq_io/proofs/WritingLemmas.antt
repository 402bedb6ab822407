-- Gains add up, as long as a sink that has stopped telling never tells again.
use Rattle.std.proofs.Common.{ℕ, List, ◌++◌, Option, None, Some, IsNone, refl, ◌∙◌, ap, append_assoc}
use Rattle.pq_io.specs.Writing.{Gains}

pub Gains-append : (a b c : Option (List ℕ)) (xs ys : List ℕ) → Gains a b xs → Gains b c ys → (IsNone b → IsNone c) → Gains a c (xs ++ ys)
Gains-append None b c xs ys first second silent = tt
Gains-append (Some old) b None xs ys first second silent = tt
Gains-append (Some old) None (Some new) xs ys first second silent = cc (silent refl)
Gains-append (Some old) (Some mid) (Some new) xs ys first second silent =
    second ∙ ap (λ (l : List ℕ). l ++ ys) first ∙ append_assoc old xs ys
