use Rattle.std.proofs.Common.{◌≡◌, ◌++◌, drop, codes}
use Rattle.lpres_reader.specs.CanonicalText.{arrow_texts}
use Rattle.lpres_reader.proofs.items.ArrowTexts.{left_after}
use Rattle.lpres_reader.proofs.canonical.push_arrows.Given as goal

-- what is written, and the arrows that are left, are all
abbrev pub invariant-loop-place : goal.invariant-loop-place
invariant-loop-place l =
    l.out.items ++ left_after l.place (codes ", ") (arrow_texts l.names l.place (drop l.place l.images))
    ≡ l.initial.out.items ++ left_after 0 (codes ", ") (arrow_texts l.names 0 l.images)
