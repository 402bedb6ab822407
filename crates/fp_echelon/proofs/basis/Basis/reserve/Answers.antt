use Rattle.std.proofs.Common.{◌≡◌, ℕ, max, ap, sym, ◌∙◌, arith}
use Rattle.std.proofs.lemmas.Result.{err_from_is_err_and}
use Rattle.pq_base.specs.Prime.{prime_value}
use Rattle.fp_rows.proofs.RowStorage.{prime_value-pos}
use Rattle.fp_echelon.specs.Basis.{Echelon}
use Rattle.fp_echelon.proofs.GrownSlots.{grown_same, grown_held, whole_same, whole_held}
use Rattle.fp_echelon.proofs.basis.Basis.reserve.Goals as goal

pub invariant_of-self : goal.invariant_of-self
invariant_of-self c = (
  grown_held (prime_value c.self.inside.prime) c.self.inside.width (prime_value-pos c.self.inside.prime) c.self.inside.rank
      c.self.inside.spare c.args.rows c.self.inside.entries.items c.make_room.new.entries.items c.self.invariant.0 (omega arith)
      c.in_err-make_room.ensures.grown,
  c.self.invariant.1,
  c.self.invariant.2,
)

pub returns-in_err-make_room-clause-err : goal.returns-in_err-make_room-clause-err
returns-in_err-make_room-clause-err c =
    let p = err_from_is_err_and c.from_residual.result c.from_residual.ensures.1 in
    rw p.1
    (grown_same (prime_value c.self.inside.prime) c.self.inside.width (prime_value-pos c.self.inside.prime) c.self.inside.rank
    c.self.inside.spare c.args.rows c.self.inside.entries.items c.make_room.new.entries.items c.self.invariant.0 (omega arith)
    c.in_err-make_room.ensures.grown
    ∙ c.self.view_is)

pub invariant_of-self-then-rows-self : goal.invariant_of-self-then-rows-self
invariant_of-self-then-rows-self c = (
  whole_held (prime_value c.self.inside.prime) c.self.inside.width (prime_value-pos c.self.inside.prime) c.self.inside.rank
      c.self.inside.spare c.args.rows c.self.inside.entries.items c.make_room.new.entries.items c.self.invariant.0
      c.in_ok-make_room.ensures.whole,
  c.self.invariant.1,
  c.self.invariant.2,
)

pub returns-in_ok-make_room-clause-ok : goal.returns-in_ok-make_room-clause-ok
returns-in_ok-make_room-clause-ok c =
    let spare = ap (λ (B : Echelon). B.spare) c.self.view_is in
    let most : max c.args.self.now.spare c.args.rows ≡ c.args.rows = omega arith in
    whole_same (prime_value c.self.inside.prime) c.self.inside.width (prime_value-pos c.self.inside.prime) c.self.inside.rank
    c.self.inside.spare c.args.rows c.self.inside.entries.items c.make_room.new.entries.items c.self.invariant.0
    c.in_ok-make_room.ensures.whole
    ∙ ap (λ (B : Echelon). record B { spare = c.args.rows }) c.self.view_is
    ∙ ap (λ (n : ℕ). record c.args.self.now { spare = n }) (sym most)
