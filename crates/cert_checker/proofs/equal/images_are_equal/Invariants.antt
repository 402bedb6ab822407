use Rattle.std.proofs.Common.{◌≡◌, ◌<◌, ℕ, get_or, []}
use Rattle.cert_checker.proofs.equal.images_are_equal.Given as goal

abbrev pub invariant-loop-i : goal.invariant-loop-i
invariant-loop-i l =
    (i : ℕ) → i < l.i → get_or l.left.images i [] ≡ get_or l.right.images i []
