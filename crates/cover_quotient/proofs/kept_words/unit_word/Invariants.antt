use Rattle.std.proofs.Common.{cond, eqb, []}
use Rattle.pc_presentation.proofs.presentations.SyllableParts.{Written}
use Rattle.cover_quotient.proofs.kept_words.unit_word.Given as goal

abbrev pub invariant-loop-k : goal.invariant-loop-k
invariant-loop-k l = Written (λ c. cond (eqb l.tail c) 1 0) 0 l.kept [] l.k l.word.items
