use Rattle.std.proofs.Common.{◌≡◌, ℕ, List, length, true, false, sym, ap, ◌∙◌}
use Rattle.std.specs.Prelude.{◌==◌}
use Rattle.cert_text.proofs.texts.SourcesRead.{fixed-read}
use Rattle.cert_text.proofs.source_reading.fixed_behind.Goals as goal

pub returns-else-is_empty-clause-none : goal.returns-else-is_empty-clause-none
returns-else-is_empty-clause-none c i h same =
    let rest : List ℕ = c.in_ok-relator.rest.now in
    let none = fixed-read c.args.text.now rest c.in_ok-relator.relator i c.in_ok-relator.ensures.some c.in_ok-relator.ensures.small
    c.in_ok-relator.ensures.stops h same in
    let bad : true ≡ false = ap (λ (t : List ℕ). length t == 0) (sym none) ∙ sym c.if-is_empty.ensures in
    cc
