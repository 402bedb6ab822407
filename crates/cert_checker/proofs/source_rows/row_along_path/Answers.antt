use Rattle.std.proofs.Common.{◌≡◌, ◌≤◌, length, sym, subst, arith}
use Rattle.cert_checker.specs.StepRows.{AreToolsFor}
use Rattle.cert_checker.proofs.found_rows.SourceRows.{decided-nowhere, decided-onward}
use Rattle.cert_checker.proofs.source_rows.row_along_path.Goals as goal

pub returns-then-is_empty-clause-decided : goal.returns-then-is_empty-clause-decided
returns-then-is_empty-clause-decided c =
    let C = c.args.cover.now in
    let tools = subst (AreToolsFor C) (sym c.tools.view_is) c.requires.tools in
    let none : length c.args.path.now ≡ 0 = grind (arith, c.is_empty.ensures, c.if-is_empty.true) in
    decided-nowhere C tools.scratch.left.presentation c.args.pres.now.endos c.tools.inside.images tools.images c.args.word.now
    c.relator_row.result c.args.path.now none c.relator_row.ensures.decided

pub returns-else-is_empty-clause-decided : goal.returns-else-is_empty-clause-decided
returns-else-is_empty-clause-decided c =
    let C = c.args.cover.now in
    let tools = subst (AreToolsFor C) (sym c.tools.view_is) c.requires.tools in
    let some : 1 ≤ length c.args.path.now = grind (arith, c.is_empty.ensures, c.if-is_empty.false) in
    decided-onward C tools.scratch.left.presentation c.args.pres.now.endos c.tools.inside.images tools.images c.args.word.now
    c.row_along.result c.args.path.now c.row_along.new.row.entries some c.row_along.ensures.found
