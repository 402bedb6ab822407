use Rattle.std.proofs.Common.{◌≡◌, ◌≢◌, ℕ, ◌+◌, [], get_or, take, subst, sym, ◌∙◌, arith, inl, inr}
use Rattle.std.proofs.lemmas.Bool.{cases_lt}
use Rattle.std.proofs.lemmas.List.{take_rest, take_more, get_or_default}
use Rattle.std.proofs.lemmas.List.Elements.{All-push}
use Rattle.pq_base.specs.Name.{IsName}
use Rattle.pq_base.proofs.DistinctNames.{repeated, unrepeated}
use Rattle.lpres_reader.proofs.parts.are_distinct.Goals as goal

pub returns-then-contains : goal.returns-then-contains
returns-then-contains c =
    let again = rw (take_rest c.args.names.now (c.loop-i.i + 1)) at c.if-contains.ensures.cases in
    repeated c.args.names.now c.loop-i.i again.0 c.index-names-i.result c.index-names-i.is again.1 again.2

pub loop-i-preserved : goal.loop-i-preserved
loop-i-preserved c =
    let names = c.args.names.now in
    let i = c.loop-i.i in
    let others = rw (take_rest names (i + 1)) at c.if-contains.ensures.cases in
    let here : get_or names i [] ≡ c.index-names-i.result =
    get_or_default names i [] c.index-names-i.result c.loop-i-test.true ∙ sym c.index-names-i.is in
    record {
      each = rw (take_more names i [] c.loop-i-test.true, here)
          (All-push IsName (take i names) c.index-names-i.result c.loop-i.invariant.each c.bytes-bytes.ensures.name);
      distinct = λ j k h l m. elim (cases_lt j i) [
        | inl before ↦ c.loop-i.invariant.distinct j k before l m
        | inr after ↦
            let same : i ≡ j = omega arith in
            subst (λ (n : ℕ). get_or names n [] ≢ get_or names k []) same
            (unrepeated names i k c.index-names-i.result c.index-names-i.is (omega arith) m (λ n d below. others n d (omega arith) below))
      ];
    }
