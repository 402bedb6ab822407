use Rattle.std.proofs.Common.{◌≡◌, ◌++◌, ℕ, List, length}
use Rattle.pq_base.specs.Table.{AllBelow}
use Rattle.cert_text.specs.CertificateText.{numbers_text}
use Rattle.cert_text.proofs.numbers_reading.numbers.Given as goal

-- the numbers that were read, and what is left, are the text, and where the text is one of numbers, what is left is one too
abbrev pub invariant-loop-rest : goal.invariant-loop-rest
invariant-loop-rest l = record {
  read : numbers_text l.numbers.items ++ l.rest ≡ l.fn.text;
  small : AllBelow 65536 l.numbers.items;
  left : (ns : List ℕ) → AllBelow 65536 ns → l.fn.text ≡ numbers_text ns → (ks : List ℕ) × AllBelow 65536 ks × (l.rest ≡ numbers_text ks);
}

abbrev pub decreases-loop-rest : goal.decreases-loop-rest
decreases-loop-rest l = length l.rest
