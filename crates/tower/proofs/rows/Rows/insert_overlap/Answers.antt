use Rattle.std.proofs.Common.{rules, ◌≡◌, ◌≤◌, sym, subst}
use Rattle.std.specs.Prelude.{IsTrue}
use Rattle.fp_echelon.specs.Basis.{Echelon}
use Rattle.pc_presentation.specs.Tailed.{rowed_presentation}
use Rattle.p_cover.specs.Covers.{cover_presentation}
use Rattle.derivation_log.specs.declared.source.RowSource.TheVariants.{Test}
use Rattle.tower.proofs.TakenRows.{over-spare, over-inserted, taken-inserted}
use Rattle.tower.proofs.rows.Rows.insert_overlap.Goals as goal

pub insert-requires-clause-spare : goal.insert-requires-clause-spare
insert-requires-clause-spare g c =
    let same : c.self.inside.basis ≡ c.args.self.now.basis = search rules in
    subst (λ (B : Echelon). 1 ≤ B.spare) (sym same) (over-spare c.args.cover.now c.args.self.now c.requires.over)

pub returns-clause-over : goal.returns-clause-over
returns-clause-over g c =
    over-inserted c.args.cover.now c.args.self.now _ c.insert.new.self (Test c.args.test) c.requires.over (search rules) (search rules)
    (search rules)
    c.row-agrees.ensures.prime c.row-agrees.ensures.width c.insert.ensures

pub returns-clause-taken : goal.returns-clause-taken
returns-clause-taken g c = λ L.
    let push = g.C.Collect.meaning (rowed_presentation (cover_presentation c.args.cover.now)) in
    let found : IsTrue c.row-agrees.result = c.row-agrees.ensures.consistent c.requires.consistent in
    taken-inserted c.args.cover.now c.args.self.now _ c.insert.new.self (Test c.args.test) c.requires.over (search rules) (search rules)
    (search rules)
    c.row-agrees.ensures.prime c.row-agrees.ensures.width c.insert.ensures L push
    (record {
      numbers = c.requires.overlap;
      row = record { agree = c.row-agrees.ensures.agrees.0 found; row = c.row-agrees.ensures.difference found };
    })
