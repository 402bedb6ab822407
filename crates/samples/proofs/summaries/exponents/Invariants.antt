use Rattle.std.proofs.Common.{◌≡◌, ◌≤◌, ◌*◌, take, sum_by}
use Rattle.pc_presentation.specs.declared.syllable.Syllable.{Syllable}
use Rattle.samples.proofs.summaries.exponents.Given as goal

-- the exponents so far
abbrev pub invariant-loop-s : goal.invariant-loop-s
invariant-loop-s l = (l.total ≡ sum_by (λ (s : Syllable). s.exponent) (take l.s-index l.word)) × (l.total ≤ 255 * l.s-index)
