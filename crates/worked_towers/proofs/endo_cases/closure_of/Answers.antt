use Rattle.std.proofs.Common.{rules, ◌≡◌, ℕ, List, [], ◌∷◌, ap, sym, subst}
use Rattle.fp_echelon.specs.Basis.{Echelon}
use Rattle.relator_spin.specs.Closure.{IsClosed}
use Rattle.worked_towers.proofs.EmptySpans.{no_rows-closed}
use Rattle.worked_towers.proofs.endo_cases.closure_of.Goals as goal

pub close-requires-clause-closed : goal.close-requires-clause-closed
close-requires-clause-closed c =
    let B = c.in_ok-basis.basis in
    let empty : B.added ≡ [] = ap (λ (E : Echelon). E.added) c.in_ok-basis.ensures.empty in
    let prime : c.args.matrix.prime ≡ B.prime = search rules in
    let width : c.args.matrix.width ≡ B.width = search rules in
    subst (λ (rows : List (List ℕ)). IsClosed B.prime B.width (c.args.matrix ∷ []) rows) (sym empty)
    (no_rows-closed B.prime B.width c.args.matrix c.requires.matrix.matrix prime width)
