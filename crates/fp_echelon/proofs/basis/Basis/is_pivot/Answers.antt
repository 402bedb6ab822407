use Rattle.std.proofs.Common.{IsTrue, take, sym, subst}
use Rattle.pq_base.specs.Prime.{prime_value}
use Rattle.fp_echelon.proofs.PlaceLaws.{IsPivot-found}
use Rattle.fp_echelon.proofs.BasisReading.{pivot_given, pivot_read}
use Rattle.fp_echelon.proofs.basis.Basis.is_pivot.Goals as goal

pub returns-clause-pivot : goal.returns-clause-pivot
returns-clause-pivot c =
    let found =
    IsPivot-found c.args.column 0 (take c.self.inside.rank c.deref.result.now) c.place_of.result c.place_of.ensures.some
    c.place_of.ensures.none in (
      λ h. pivot_read (prime_value c.self.inside.prime) c.self.inside.width c.self.inside.rank c.self.inside.spare
          c.self.inside.entries.items
          c.args.self.now c.self.view_is c.self.invariant.0 c.deref.result.now c.deref.ensures.value c.args.column 0
          (found.0 (subst IsTrue c.is_some.ensures h)),
      λ h. subst IsTrue (sym c.is_some.ensures)
          (found.1 (pivot_given (prime_value c.self.inside.prime) c.self.inside.width c.self.inside.rank c.self.inside.spare
          c.self.inside.entries.items c.args.self.now c.self.view_is c.self.invariant.0 c.deref.result.now c.deref.ensures.value
          c.args.column 0 h)),
    )
