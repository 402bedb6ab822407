use Rattle.std.proofs.Common.{◌≤◌, ℕ, List, Option, option_map, length, sym, subst, arith}
use Rattle.std.specs.Borrow.{Bor}
use Rattle.lpres_reader.specs.Refusals.{IsRefusedBy}
use Rattle.lpres_reader.proofs.texts.TextRuns.{ReadSoFar, nothing_read, line_read, count_small, refused_here, all_read, cut_left}
use Rattle.lpres_reader.proofs.reading.read_lines.Goals as goal

pub loop-left-init : goal.loop-left-init
loop-left-init c = nothing_read c.args.text.now

pub overflow_add-count : goal.overflow_add-count
overflow_add-count c =
    let here =
    subst (λ (o : Option (Bor (List ℕ))). ReadSoFar c.args.text.now c.loop-left.count (option_map (λ t. t.now) o) c.loop-left.so_far)
    c.in-Some.is c.loop-left.invariant in
    let cut = cut_left c.in-Some.text.now c.cut_line.result.0.now c.cut_line.result.1 c.cut_line.ensures.lines in
    let small : c.loop-left.count ≤ length c.args.text.now =
    count_small c.args.text.now c.in-Some.text.now c.cut_line.result.0.now c.loop-left.count
    (option_map (λ t. t.now) c.cut_line.result.1) c.loop-left.so_far here cut in
    omega (arith, c.requires.small)

pub loop-left-preserved : goal.loop-left-preserved
loop-left-preserved c =
    let here =
    subst (λ (o : Option (Bor (List ℕ))). ReadSoFar c.args.text.now c.loop-left.count (option_map (λ t. t.now) o) c.loop-left.so_far)
    c.in-Some.is c.loop-left.invariant in
    let cut = cut_left c.in-Some.text.now c.cut_line.result.0.now c.cut_line.result.1 c.cut_line.ensures.lines in
    line_read c.args.text.now c.in-Some.text.now c.cut_line.result.0.now c.loop-left.count
    (option_map (λ t. t.now) c.cut_line.result.1) c.loop-left.so_far c.in-Ok.next here cut c.in-Ok.ensures

pub returns-in-Err : goal.returns-in-Err
returns-in-Err c =
    let here =
    subst (λ (o : Option (Bor (List ℕ))). ReadSoFar c.args.text.now c.loop-left.count (option_map (λ t. t.now) o) c.loop-left.so_far)
    c.in-Some.is c.loop-left.invariant in
    let cut = cut_left c.in-Some.text.now c.cut_line.result.0.now c.cut_line.result.1 c.cut_line.ensures.lines in
    subst (IsRefusedBy c.args.text.now) (sym c.refusal_at.ensures)
    (refused_here c.args.text.now c.in-Some.text.now c.cut_line.result.0.now c.loop-left.count
    (option_map (λ t. t.now) c.cut_line.result.1) c.loop-left.so_far c.in-Err.stop here cut c.requires.generators c.in-Err.ensures)

pub returns : goal.returns
returns c = all_read c.args.text.now c.loop-left.count c.loop-left.left c.loop-left.so_far c.in_default.not-Some c.loop-left.invariant
