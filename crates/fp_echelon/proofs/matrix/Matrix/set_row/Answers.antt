use Rattle.std.proofs.Common.{◌≡◌, ◌-◌, ℕ, List, ap, sym, ◌∙◌, subst, arith}
use Rattle.std.proofs.Math.ListN.{set}
use Rattle.std.proofs.lemmas.List.{map-set}
use Rattle.pq_base.specs.Prime.{prime_value}
use Rattle.fp_rows.specs.Row.{PrimeRow}
use Rattle.fp_rows.specs.Rows.{IsRow}
use Rattle.fp_echelon.specs.Matrix.{PrimeMatrix, entries_of}
use Rattle.fp_echelon.proofs.MatrixStorage.{IsKept, HoldsMatrix-at, HoldsMatrix-set}
use Rattle.fp_echelon.proofs.matrix.Matrix.set_row.Goals as goal

pub copy_from-requires-clause-prime : goal.copy_from-requires-clause-prime
copy_from-requires-clause-prime c =
    let same : prime_value c.self.inside.prime ≡ c.args.self.now.prime = ap (λ (m : PrimeMatrix). m.prime) c.self.view_is in
    let wide : c.self.inside.width ≡ c.args.self.now.width = ap (λ (m : PrimeMatrix). m.width) c.self.view_is in
    let here =
    HoldsMatrix-at (prime_value c.self.inside.prime) c.self.inside.width c.self.inside.rows.items (c.args.number - 1) c.index_mut.result.now
    (omega (arith, c.requires.first, c.requires.last, wide)) c.self.invariant c.index_mut.ensures.value in
    c.requires.prime ∙ sym same ∙ sym here.prime

pub copy_from-requires-clause-width : goal.copy_from-requires-clause-width
copy_from-requires-clause-width c =
    let wide : c.self.inside.width ≡ c.args.self.now.width = ap (λ (m : PrimeMatrix). m.width) c.self.view_is in
    let here =
    HoldsMatrix-at (prime_value c.self.inside.prime) c.self.inside.width c.self.inside.rows.items (c.args.number - 1) c.index_mut.result.now
    (omega (arith, c.requires.first, c.requires.last, wide)) c.self.invariant c.index_mut.ensures.value in
    c.requires.width ∙ sym wide ∙ sym here.row.count

pub invariant_of-self : goal.invariant_of-self
invariant_of-self c =
    let same : prime_value c.self.inside.prime ≡ c.args.self.now.prime = ap (λ (m : PrimeMatrix). m.prime) c.self.view_is in
    let wide : c.self.inside.width ≡ c.args.self.now.width = ap (λ (m : PrimeMatrix). m.width) c.self.view_is in
    let prime : c.args.row.now.prime ≡ prime_value c.self.inside.prime = c.requires.prime ∙ sym same in
    let row : IsRow (prime_value c.self.inside.prime) c.self.inside.width c.args.row.now.entries =
    subst (λ (n : ℕ). IsRow n c.self.inside.width c.args.row.now.entries) prime
    (subst (λ (n : ℕ). IsRow c.args.row.now.prime n c.args.row.now.entries)
    (c.width-width.ensures.width ∙ c.requires.width ∙ sym wide) c.width-width.ensures.row) in
    let is : IsKept (prime_value c.self.inside.prime) c.self.inside.width c.copy_from.new.self =
    subst (λ (r : PrimeRow). IsKept (prime_value c.self.inside.prime) c.self.inside.width r) (sym c.copy_from.ensures)
    (record { prime = prime; row = row }) in
    HoldsMatrix-set (prime_value c.self.inside.prime) c.self.inside.width c.self.inside.rows.items
    (c.args.number - 1) c.copy_from.new.self is c.self.invariant

pub returns : goal.returns
returns c =
    let entries : List (List ℕ) = set c.args.self.now.rows (c.args.number - 1) c.args.row.now.entries in
    let set_there : entries_of (set c.self.inside.rows.items (c.args.number - 1) c.copy_from.new.self)
    ≡ set (entries_of c.self.inside.rows.items) (c.args.number - 1) c.args.row.now.entries =
    map-set (λ (r : PrimeRow). r.entries) c.self.inside.rows.items (c.args.number - 1) c.copy_from.new.self
    ∙ ap (λ (r : PrimeRow). set (entries_of c.self.inside.rows.items) (c.args.number - 1) r.entries) c.copy_from.ensures in
    ap (λ (l : List (List ℕ)). record { prime = prime_value c.self.inside.prime; width = c.self.inside.width; rows = l }) set_there
    ∙ ap (λ (m : PrimeMatrix). record { prime = m.prime; width = m.width; rows = set m.rows (c.args.number - 1) c.args.row.now.entries })
    c.self.view_is
