-- x and a number of few digits are a name.
use Rattle.std.proofs.Common.{sym, subst, ◌∙◌, arith}
use Rattle.pq_base.specs.Name.{IsName}
use Rattle.samples.proofs.SampleNames.{IsName-of_number}
use Rattle.samples.proofs.names.name.Goals as goal

pub unreachable-requires : goal.unreachable-requires
unreachable-requires c =
    c.in-None.ensures.none (subst IsName (sym (c.as_bytes.ensures.value ∙ c.in_ok-text.ensures.ok))
    (IsName-of_number c.args.i (omega arith)))
