-- The names of all numbers.
use Rattle.std.proofs.Common.{◌≡◌, ℕ, map, ap, sym, ◌∙◌, arith}
use Rattle.pq_base.specs.Canonical.{numbers_from}
use Rattle.pq_base.proofs.NumberLists.{map_numbers-more}
use Rattle.samples.specs.Samples.{sample_names}
use Rattle.samples.proofs.SampleNames.{name_of_number}
use Rattle.samples.proofs.names.names.Goals as goal

pub loop-k-preserved : goal.loop-k-preserved
loop-k-preserved c =
    rw (c.in_ok-push.ensures.items, c.loop-k.invariant, c.in_ok-name.ensures) (sym (map_numbers-more name_of_number c.loop-k.k))

pub returns : goal.returns
unfolding sample_names
returns c =
    let all : c.loop-k.k ≡ 32 = omega (arith, c.loop-k-test.false) in
    c.loop-k.invariant ∙ ap (λ (k : ℕ). map name_of_number (numbers_from 1 k)) all
