use Rattle.std.proofs.Common.{◌≡◌, ◌<◌, ◌-◌, length, ap, subst, sym, ℕ, arith}
use Rattle.pq_base.specs.Prime.{prime_value}
use Rattle.fp_rows.specs.Row.{PrimeRow}
use Rattle.fp_rows.proofs.BelowLaws.{get_or-below_within}
use Rattle.fp_rows.proofs.row.Row.get.Goals as goal

pub returns-clause-residue : goal.returns-clause-residue
returns-clause-residue c =
    let long : length c.self.inside.entries.items ≡ length c.args.self.now.entries =
    ap (λ (r : PrimeRow). length r.entries) c.self.view_is in
    let low : c.index.result.now < prime_value c.self.inside.prime =
    subst (λ (n : ℕ). n < prime_value c.self.inside.prime) (sym c.index.ensures)
    (get_or-below_within (prime_value c.self.inside.prime) c.self.inside.entries.items (c.args.column - 1) c.index.result.now
    (omega (arith, c.requires.first, c.requires.last)) c.self.invariant.0) in
    subst (λ (r : PrimeRow). c.index.result.now < r.prime) c.self.view_is low
