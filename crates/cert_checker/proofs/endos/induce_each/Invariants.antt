use Rattle.std.proofs.Common.{◌≡◌, All, length, take}
use Rattle.std.specs.List.{All as Each}
use Rattle.pc_presentation.specs.Tailed.{IsElement}
use Rattle.p_cover.specs.Covers.{cover_presentation}
use Rattle.derivation_log.specs.PlainValues.{InducesPlainly}
use Rattle.cert_checker.specs.MapWords.{IsBench}
use Rattle.cert_checker.proofs.endos.induce_each.Given as goal

abbrev pub invariant-loop-e : goal.invariant-loop-e
invariant-loop-e l =
    IsBench (cover_presentation l.cover) l.bench
    × All (IsElement (cover_presentation l.cover)) l.values
    × (length l.values ≡ length l.cover.answer.names)
    × All (IsElement (cover_presentation l.cover)) l.elements
    × (length l.elements ≡ l.cover.answer.presentation.rank)
    × Each (InducesPlainly l.cover.answer) (take l.e l.pres.endos)
