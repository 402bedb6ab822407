use Rattle.std.proofs.Common.{[]}
use Rattle.pc_presentation.proofs.presentations.SyllableParts.{Written}
use Rattle.derivation_log.specs.CertificateRuns.{coefficient_in}
use Rattle.cert_checker.proofs.combining.word_of_pairs.Given as goal

abbrev pub invariant-loop-k : goal.invariant-loop-k
invariant-loop-k l = Written (coefficient_in l.pairs) 0 l.kept [] l.k l.word.items
