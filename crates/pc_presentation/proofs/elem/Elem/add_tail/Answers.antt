use Rattle.std.proofs.Common.{ℕ, ◌+◌, ◌%◌, ap, ◌∙◌}
use Rattle.pq_base.specs.Prime.{prime_value}
use Rattle.fp_rows.specs.Row.{at_column}
use Rattle.pc_presentation.proofs.quotients.ElementLaws.{add_tail-is}
use Rattle.pc_presentation.proofs.elem.Elem.add_tail.Goals as goal

pub returns : goal.returns
returns c =
    add_tail-is c.self.inside.exponents.items c.self.inside.tails c.set.new.self c.args.self.now c.args.column c.next_residue-next.result
    c.self.view_is
    c.set.ensures
    (c.next_residue-next.ensures ∙ ap (λ (n : ℕ). (n + 1) % prime_value c.prime.result) c.get.ensures.entry
    ∙ ap (λ (p : ℕ). (at_column c.self.inside.tails.entries c.args.column + 1) % p) c.prime.ensures.prime)
    c.requires c.prime.ensures.row.below
