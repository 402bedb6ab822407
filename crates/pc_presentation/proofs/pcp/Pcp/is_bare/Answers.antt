use Rattle.std.proofs.Common.{◌≡◌, List, length, ap, arith}
use Rattle.std.proofs.lemmas.Bool.{both_ways}
use Rattle.pc_presentation.specs.declared.syllable.Syllable.{Syllable}
use Rattle.pc_presentation.proofs.commuting.EmptySides.{bare-empty, empty-bare, is_none-bare}
use Rattle.pc_presentation.proofs.pcp.Pcp.is_bare.Goals as goal

pub returns-then-is_empty : goal.returns-then-is_empty
returns-then-is_empty c = (
  λ t. bare-empty c.args.self.now c.rank-presentation.ensures.presentation c.args.r c.word.result.now c.tail.result c.is_none.result
      c.requires
      c.word.ensures (grind (arith, c.is_empty.ensures, c.if-is_empty.true)) c.tail.ensures c.is_none.ensures t,
  λ b. is_none-bare c.args.self.now c.args.r c.tail.result c.is_none.result c.tail.ensures c.is_none.ensures b,
)

pub returns-else-is_empty : goal.returns-else-is_empty
returns-else-is_empty c = (
  λ t. absurd (both_ways c.is_empty.result c.if-is_empty.false t),
  λ b. let none : length c.word.result.now ≡ 0 =
      ap (λ (w : List Syllable). length w) (empty-bare c.args.self.now c.args.r c.word.result.now c.word.ensures b) in
      grind (arith, c.is_empty.ensures, none),
)
