use Rattle.std.proofs.Common.{◌≡◌, ◌≤◌, ◌-◌, ℕ, None, Option, List, map, get_or, length, ap, sym, ◌∙◌, arith}
use Rattle.std.proofs.lemmas.List.{get_or_read}
use Rattle.pq_base.specs.Answer.{Definition as Source}
use Rattle.pc_presentation.specs.Definition.{definition_of}
use Rattle.p_cover.proofs.CoverTails.{image_place, length-tails_of_images, no_image}
use Rattle.p_cover.proofs.cover.Cover.image_tail.Goals as goal
use Rattle.p_cover.proofs.cover.Cover.image_tail.Goals.{else-i-ge1-via-then-i-ge1+else-i-len, else-i-ge1-via-else-i-ge1}

pub returns-then-i-len : goal.returns-then-i-len
returns-then-i-len c =
    let A = c.self.inside.answer in
    let ds : List Source = map definition_of c.self.inside.sources.items in
    let xs : List (Option ℕ) = c.self.inside.image_tails.items in
    let count : length xs ≡ length A.names = ap (length {A = Option ℕ}) c.self.invariant.1 ∙ length-tails_of_images A ds in
    let first : 1 ≤ c.args.i = c.if-i-ge1.true in
    let last : c.args.i ≤ length xs = omega (arith, c.if-i-len.true, c.len.ensures) in
    rw (← c.self.view_is)
    (get_or_read xs (c.args.i - 1) c.index.result.now (omega arith) c.index.ensures None
    ∙ ap (λ (ts : List (Option ℕ)). get_or ts (c.args.i - 1) None) c.self.invariant.1
    ∙ image_place A ds c.args.i first (omega arith))

pub returns-else-i-ge1 : goal.returns-else-i-ge1
returns-else-i-ge1 c =
    let A = c.self.inside.answer in
    let ds : List Source = map definition_of c.self.inside.sources.items in
    let xs : List (Option ℕ) = c.self.inside.image_tails.items in
    let count : length xs ≡ length A.names = ap (length {A = Option ℕ}) c.self.invariant.1 ∙ length-tails_of_images A ds in
    rw (← c.self.view_is)
    (sym (no_image A ds c.self.invariant.2.sources c.args.i (λ first last. elim c.else-i-ge1.branch [
      | else-i-ge1-via-then-i-ge1+else-i-len w ↦ omega (arith, w.if-i-len.false, w.len.ensures)
      | else-i-ge1-via-else-i-ge1 w ↦ omega (arith, w.if-i-ge1.false)
    ])))
