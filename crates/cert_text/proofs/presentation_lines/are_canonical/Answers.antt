use Rattle.std.proofs.Common.{◌≡◌, ℕ, List, length, ap, arith}
use Rattle.cert_text.proofs.lines.FirstLines.{first_lines-shorter}
use Rattle.cert_text.proofs.presentation_lines.are_canonical.Goals as goal

pub canonical-requires : goal.canonical-requires
canonical-requires c =
    let same : length c.first_lines.result.now ≡ _ = ap (λ (t : List ℕ). length t) c.first_lines.ensures in
    omega (arith, same, first_lines-shorter c.args.count c.args.text.now, c.requires)
