use Rattle.std.proofs.Common.{◌≡◌, ◌++◌, drop}
use Rattle.cert_text.specs.CertificateText.{numbers_text}
use Rattle.cert_text.proofs.numbers.push_path.Given as goal

-- what is written, and the numbers that are left, are all
abbrev pub invariant-loop-number : goal.invariant-loop-number
invariant-loop-number l = l.out.items ++ numbers_text (drop l.number-index l.path) ≡ l.initial.out.items ++ numbers_text l.path
