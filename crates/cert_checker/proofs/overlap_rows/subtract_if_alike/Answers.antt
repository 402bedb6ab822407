use Rattle.std.proofs.Common.{◌≡◌, length, ap, sym, ◌∙◌}
use Rattle.fp_rows.specs.Row.{PrimeRow}
use Rattle.fp_rows.proofs.RowLaws.{length-add_scaled}
use Rattle.cert_checker.proofs.overlap_rows.subtract_if_alike.Goals as goal

pub returns-then-alike-clause-width : goal.returns-then-alike-clause-width
returns-then-alike-clause-width c =
    let left : length c.copy_from.new.self.entries ≡ length c.args.row.now.entries =
    ap (λ (r : PrimeRow). length r.entries) (c.copy_from.ensures ∙ c.tail.ensures) ∙ c.requires.left_width in
    let right : length c.tail-then-alike.result.now.entries ≡ length c.args.row.now.entries =
    ap (λ (r : PrimeRow). length r.entries) c.tail-then-alike.ensures ∙ c.requires.right_width in
    ap (λ (r : PrimeRow). length r.entries) c.add_scaled.ensures
    ∙ length-add_scaled _ _ c.copy_from.new.self.entries c.tail-then-alike.result.now.entries (left ∙ sym right) ∙ left
