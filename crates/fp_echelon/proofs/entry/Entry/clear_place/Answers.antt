use Rattle.std.proofs.Common.{◌<◌, ℕ, length, get_or, ap, arith}
use Rattle.fp_rows.proofs.BelowLaws.{AllBelow-set, get_or-below_within}
use Rattle.fp_echelon.specs.Slots.{Slot}
use Rattle.fp_echelon.proofs.entry.Entry.clear_place.Goals as goal

pub invariant_of-self : goal.invariant_of-self
invariant_of-self c =
    let long = ap (λ (s : Slot). length s.coefficients) c.self.view_is in
    let low =
    get_or-below_within c.self.inside.row.prime c.self.inside.coefficients.items c.args.place 0
    (omega (arith, long)) c.self.invariant.1 in (
      c.self.invariant.0,
      AllBelow-set c.self.inside.row.prime c.self.inside.coefficients.items c.args.place 0 (omega (arith, low)) c.self.invariant.1,
    )
