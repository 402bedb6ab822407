use Rattle.std.proofs.Common.{ℕ, length, take, ap, sym, ◌∙◌, subst}
use Rattle.pq_base.specs.Prime.{prime_value}
use Rattle.fp_rows.specs.Rows.{IsRow}
use Rattle.fp_rows.specs.Row.{PrimeRow}
use Rattle.fp_echelon.specs.Reduction.{reduce_by}
use Rattle.fp_echelon.specs.Basis.{Echelon}
use Rattle.fp_echelon.specs.Slots.{all_seen}
use Rattle.fp_echelon.proofs.BasisReading.{given_to_reduce, pivots_to_reduce, representative_left, zero_in_span}
use Rattle.fp_echelon.proofs.basis.Basis.reduces_to_zero.Goals as goal

pub reduce-requires-clause-slots : goal.reduce-requires-clause-slots
reduce-requires-clause-slots c =
    given_to_reduce (prime_value c.self.inside.prime) c.self.inside.width c.self.inside.rank c.self.inside.spare c.self.inside.entries.items
    c.args.self.now c.self.view_is c.self.invariant.0 c.deref.result.now c.deref.ensures.value c.copy_from.new.self
    (ap (λ (r : PrimeRow). r.prime) c.copy_from.ensures ∙ c.requires.prime)
    (ap (λ (r : PrimeRow). length r.entries) c.copy_from.ensures ∙ c.requires.width)

pub reduce-requires-clause-pivots : goal.reduce-requires-clause-pivots
reduce-requires-clause-pivots c =
    pivots_to_reduce (prime_value c.self.inside.prime) c.self.inside.width c.self.inside.rank c.self.inside.spare
    c.self.inside.entries.items
    c.args.self.now c.self.view_is c.self.invariant.0 c.deref.result.now c.deref.ensures.value c.copy_from.new.self
    (ap (λ (r : PrimeRow). r.prime) c.copy_from.ensures ∙ c.requires.prime)
    (ap (λ (r : PrimeRow). length r.entries) c.copy_from.ensures ∙ c.requires.width)

pub invariant_of-self : goal.invariant_of-self
invariant_of-self c =
    let row =
    subst (λ (w : ℕ). IsRow c.args.row.now.prime w c.args.row.now.entries) c.width-width.ensures.width c.width-width.ensures.row in
    let left =
    representative_left (prime_value c.self.inside.prime) c.self.inside.width c.self.inside.rank c.self.inside.spare
    c.self.inside.entries.items
    c.args.self.now c.self.view_is c.self.invariant.0 c.deref.result.now c.deref.ensures.value c.args.row.now c.requires.prime
    c.requires.width
    c.reduce.new.row row (c.reduce.ensures c.self.inside.rank ∙ ap (λ (r : PrimeRow). record r {
      entries = reduce_by r.prime (all_seen c.self.inside.rank (take c.self.inside.rank c.deref.result.now)) r.entries;
    }) c.copy_from.ensures) in (
      c.self.invariant.0,
      ap (λ (r : PrimeRow). r.prime) (c.reduce.ensures 0)
          ∙ ap (λ (r : PrimeRow). r.prime) c.copy_from.ensures
          ∙ c.requires.prime
          ∙ sym (ap (λ (B : Echelon). B.prime) c.self.view_is),
      left.fits.count ∙ sym (ap (λ (B : Echelon). B.width) c.self.view_is),
    )

pub returns-clause-span : goal.returns-clause-span
returns-clause-span c = λ t.
    let row =
    subst (λ (w : ℕ). IsRow c.args.row.now.prime w c.args.row.now.entries) c.width-width.ensures.width c.width-width.ensures.row in
    zero_in_span (prime_value c.self.inside.prime) c.self.inside.width c.self.inside.rank c.self.inside.spare c.self.inside.entries.items
    c.args.self.now c.self.view_is c.self.invariant.0 c.deref.result.now c.deref.ensures.value c.args.row.now c.requires.prime
    c.requires.width
    c.reduce.new.row row (c.reduce.ensures c.self.inside.rank ∙ ap (λ (r : PrimeRow). record r {
      entries = reduce_by r.prime (all_seen c.self.inside.rank (take c.self.inside.rank c.deref.result.now)) r.entries;
    }) c.copy_from.ensures)
    (c.is_zero.ensures.0 t)
