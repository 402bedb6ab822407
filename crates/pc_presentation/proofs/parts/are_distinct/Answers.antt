use Rattle.std.proofs.Common.{◌≡◌, ◌≢◌, ℕ, ◌+◌, [], get_or, subst, arith, inl, inr}
use Rattle.std.proofs.lemmas.Bool.{cases_lt, false≢true}
use Rattle.std.proofs.lemmas.List.{take_rest}
use Rattle.pq_base.proofs.DistinctNames.{repeated, unrepeated}
use Rattle.pc_presentation.proofs.parts.are_distinct.Goals as goal

pub returns-then-contains : goal.returns-then-contains
returns-then-contains c =
    let again = rw (take_rest c.args.names.now (c.loop-i.i + 1)) at c.if-contains.ensures.cases in (
      λ e. absurd (false≢true e),
      λ distinct. absurd (repeated c.args.names.now c.loop-i.i again.0 c.index-names-i.result c.index-names-i.is again.1 again.2 distinct),
    )

pub loop-i-preserved : goal.loop-i-preserved
loop-i-preserved c j k h l m =
    elim (cases_lt j c.loop-i.i) [
      | inl before ↦ c.loop-i.invariant j k before l m
      | inr after ↦
          let here : c.loop-i.i ≡ j = omega arith in
          let others = rw (take_rest c.args.names.now (c.loop-i.i + 1)) at c.if-contains.ensures.cases in
          subst (λ (i : ℕ). get_or c.args.names.now i [] ≢ get_or c.args.names.now k []) here
          (unrepeated c.args.names.now c.loop-i.i k c.index-names-i.result c.index-names-i.is (omega arith) m
          (λ i d below. others i d (omega arith) below))
    ]
