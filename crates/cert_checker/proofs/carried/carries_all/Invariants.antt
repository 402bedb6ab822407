use Rattle.std.proofs.Common.{◌≡◌, length, take}
use Rattle.std.specs.List.{All}
use Rattle.pc_presentation.specs.Scratch.{IsScratch}
use Rattle.p_cover.specs.Covers.{cover_presentation}
use Rattle.derivation_log.specs.PlainValues.{IsCarriedToIdentity}
use Rattle.cert_checker.proofs.carried.carries_all.Given as goal

abbrev pub invariant-loop-word : goal.invariant-loop-word
invariant-loop-word l =
    IsScratch (cover_presentation l.cover) l.s
    × (l.row.prime ≡ l.cover.answer.presentation.prime)
    × (length l.row.entries ≡ length l.cover.sources)
    × All (IsCarriedToIdentity l.cover.answer) (take l.word-index l.words)
