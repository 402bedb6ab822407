use Rattle.std.proofs.Common.{◌≡◌, ◌++◌, drop}
use Rattle.cert_text.specs.CertificateText.{further_pairs_text}
use Rattle.cert_text.proofs.tail_lines.push_further_pairs.Given as goal

-- what is written, and the pairs that are left, are all
abbrev pub invariant-loop-pair : goal.invariant-loop-pair
invariant-loop-pair l = l.out.items ++ further_pairs_text (drop l.pair-index l.pairs) ≡ l.initial.out.items ++ further_pairs_text l.pairs
