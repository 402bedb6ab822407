use Rattle.std.proofs.Common.{◌-◌, ◌<◌, ℕ, List, length, ap, ap₂, ◌∙◌, arith}
use Rattle.pq_base.specs.Prime.{prime_value}
use Rattle.fp_echelon.specs.Slots.{Slot}
use Rattle.fp_echelon.proofs.BasisReading.{added_read, prime_read}
use Rattle.fp_echelon.proofs.basis.Basis.added.Goals as goal

pub returns : goal.returns
returns c =
    let low : c.args.number - 1 < length c.args.self.now.added = omega (arith, c.requires.first, c.requires.last) in
    c.added.ensures
    ∙ ap₂ (λ (p : ℕ) (l : List ℕ). record { prime = p; entries = l })
    (ap (λ (s : Slot). s.prime) c.index.ensures
    ∙ prime_read (prime_value c.self.inside.prime) c.self.inside.width c.self.inside.rank c.self.inside.spare c.self.inside.entries.items
    c.args.self.now c.self.view_is c.self.invariant.0 (c.args.number - 1) c.index.result.now low)
    (ap (λ (s : Slot). s.added) c.index.ensures
    ∙ added_read (prime_value c.self.inside.prime) c.self.inside.width c.self.inside.rank c.self.inside.spare c.self.inside.entries.items
    c.args.self.now c.self.view_is c.self.invariant.0 (c.args.number - 1) c.index.result.now low)
