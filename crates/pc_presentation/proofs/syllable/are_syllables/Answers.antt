use Rattle.std.proofs.Common.{sym, ◌∙◌}
use Rattle.std.proofs.lemmas.Bool.{both_ways}
use Rattle.pc_presentation.proofs.presentations.WordTests.{AreLater-zero, AreSyllables-from_tests, AreGenerators-AreSyllables}
use Rattle.pc_presentation.proofs.presentations.WordTests.{normal_from-AreSyllables}
use Rattle.pc_presentation.proofs.syllable.are_syllables.Goals as goal

pub returns-then-are_generators : goal.returns-then-are_generators
returns-then-are_generators c =
    let generators = c.are_generators.ensures.0 c.if-are_generators.true in (
      λ t. AreSyllables-from_tests c.args.prime c.args.rank 0 0 c.args.word.now generators (sym c.is_normal.ensures ∙ t)
          (AreLater-zero c.args.rank c.args.word.now generators),
      λ a. c.is_normal.ensures ∙ normal_from-AreSyllables c.args.prime c.args.rank 0 c.args.word.now a,
    )

pub returns-else-are_generators : goal.returns-else-are_generators
returns-else-are_generators c = (
  λ t. absurd (both_ways c.are_generators.result c.if-are_generators.false t),
  λ a. c.are_generators.ensures.1 (AreGenerators-AreSyllables c.args.prime c.args.rank 0 c.args.word.now a),
)
