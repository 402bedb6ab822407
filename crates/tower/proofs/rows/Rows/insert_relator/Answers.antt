use Rattle.std.proofs.Common.{rules, ◌≡◌, ◌≤◌, length, sym, ◌∙◌, subst}
use Rattle.fp_echelon.specs.Basis.{Echelon}
use Rattle.pc_presentation.specs.Tailed.{rowed_presentation}
use Rattle.p_cover.specs.Covers.{cover_presentation}
use Rattle.tower.proofs.TakenRows.{over-spare, over-inserted, taken-inserted}
use Rattle.tower.proofs.rows.Rows.insert_relator.Goals as goal

pub insert-requires-clause-spare : goal.insert-requires-clause-spare
insert-requires-clause-spare g c =
    let same : c.self.inside.basis ≡ c.args.self.now.basis = search rules in
    subst (λ (B : Echelon). 1 ≤ B.spare) (sym same) (over-spare c.args.cover.now c.args.self.now c.requires.over)

pub returns-clause-over : goal.returns-clause-over
returns-clause-over g c =
    let row_prime : c.self.inside.row.prime ≡ c.args.cover.now.answer.presentation.prime = search rules in
    let row_width : length c.self.inside.row.entries ≡ length c.args.cover.now.sources = search rules in
    over-inserted c.args.cover.now c.args.self.now _ c.insert.new.self c.args.source c.requires.over (search rules) (search rules)
    (search rules)
    (c.find_row.ensures.prime ∙ row_prime) (c.find_row.ensures.width ∙ row_width) c.insert.ensures

pub returns-clause-taken : goal.returns-clause-taken
returns-clause-taken g c =
    let push = g.C.Collect.meaning (rowed_presentation (cover_presentation c.args.cover.now)) in
    let row_prime : c.self.inside.row.prime ≡ c.args.cover.now.answer.presentation.prime = search rules in
    let row_width : length c.self.inside.row.entries ≡ length c.args.cover.now.sources = search rules in
    taken-inserted c.args.cover.now c.args.self.now _ c.insert.new.self c.args.source c.requires.over (search rules) (search rules)
    (search rules)
    (c.find_row.ensures.prime ∙ row_prime) (c.find_row.ensures.width ∙ row_width) c.insert.ensures c.args.pres.now push
    c.find_row.ensures.row
