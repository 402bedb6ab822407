use Rattle.std.proofs.Common.{◌≡◌, ℕ, List, length, true, false, sym, subst, ap, ◌∙◌}
use Rattle.std.specs.Bool.{◌==◌}
use Rattle.pq_base.specs.Table.{AllBelow}
use Rattle.cert_text.proofs.texts.NumbersRead.{AllBelow-next, LeavesNumbers-next, LeavesNumbers-none, numbers_text-next}
use Rattle.cert_text.proofs.numbers_reading.numbers.Goals as goal

pub returns-in_default-clause-none : goal.returns-in_default-clause-none
returns-in_default-clause-none c =
    LeavesNumbers-none c.args.text.now c.loop-rest.rest.now c.loop-rest.invariant.left
    (λ none. let bad : true ≡ false = sym (c.is_empty.ensures ∙ ap (λ (x : List ℕ). length x == 0) none) ∙ c.loop-rest-test.true in cc)
    c.in_default.ensures.none

pub loop-rest-preserved : goal.loop-rest-preserved
loop-rest-preserved c = record {
  read = numbers_text-next c.args.text.now c.loop-rest.rest.now c.in-Some.more.now c.loop-rest.numbers.items c.push.new.self.items
      c.in-Some.number c.in_ok-push.ensures.items c.in-Some.ensures.some c.loop-rest.invariant.read;
  small = subst (AllBelow 65536) (sym c.in_ok-push.ensures.items)
      (AllBelow-next 65536 c.loop-rest.numbers.items c.in-Some.number c.loop-rest.invariant.small c.in-Some.ensures.small);
  left = LeavesNumbers-next c.args.text.now c.loop-rest.rest.now c.in-Some.more.now c.in-Some.number c.in-Some.ensures.small
      c.in-Some.ensures.stops c.in-Some.ensures.some c.loop-rest.invariant.left;
}
