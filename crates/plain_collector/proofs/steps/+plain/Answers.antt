use Rattle.std.proofs.Common.{rules, ◌≤◌, ◌<◌, ◌-◌, ◌+◌, ℕ, List, Option, get_or, length, take, ap, sym, ◌∙◌, subst, arith}
use Rattle.std.proofs.lemmas.List.{length-take-le, get_or-take}
use Rattle.pc_presentation.specs.declared.syllable.Syllable.{Syllable}
use Rattle.pc_presentation.specs.declared.relation.Relation.TheVariants.{Power, Commutator}
use Rattle.pc_presentation.specs.Relation.{IsTail, side_start}
use Rattle.pc_presentation.specs.Pcp.{right_side, row_of}
use Rattle.pc_presentation.specs.Collection.{add_row, plain_push}
use Rattle.pc_presentation.specs.PushSteps.{passed}
use Rattle.pc_presentation.specs.AddedRows.{add_row_times}
use Rattle.pc_presentation.specs.Tailed.{Element, rowed_presentation, IsElement, with_state, side_with_tail, places_of}
use Rattle.pc_presentation.proofs.quotients.TailedLaws.{places_of-syllables_of}
use Rattle.pc_presentation.proofs.quotients.ElementConditions.{exponent-below_prime, set-element, prime-positive}
use Rattle.pc_presentation.proofs.quotients.PushesLeft.{after, copies-left, spelled-left, syllables-left, no_syllables-left}
use Rattle.pc_presentation.proofs.commuting.EmptySides.{side-empty}
use Rattle.pc_presentation.proofs.commuting.Shortcuts.{cleared_between-element, copies-added, copies-wrapped}
use Rattle.pc_presentation.proofs.presentations.RelationSides.{side-generators}
use Rattle.pc_presentation.proofs.presentations.SideLaws.{side-later}
use Rattle.plain_collector.proofs.EmptyPasses.{passed-together}
use Rattle.plain_collector.proofs.CopiesBehind.{copies-behind}
use Rattle.plain_collector.proofs.Progress.{side-pushed, pass-step, push-made}
use Rattle.plain_collector.proofs.steps.+plain.Goals as goal

-- a push
pub push-raise-requires : goal.push-raise-requires
push-raise-requires t c =
    let T = c.args.pcp.now in
    let limit = c.requires.element.presentation.rank_limit in
    let first = c.commuting_from-commuting.ensures in (
      omega arith,
      (
        subst (λ (e : Element). IsElement c.args.pcp.now e) (sym c.clear_between.ensures)
            (cleared_between-element T c.args.at.now c.requires.element (c.args.generator - 1)
            (c.commuting_from-commuting.result - 1) first.after first.within),
        (c.requires.from_one, c.requires.in_range),
      ),
    )

pub push-loop-j-preserved : goal.push-loop-j-preserved
push-loop-j-preserved t c =
    let T = c.args.pcp.now in
    let count = c.requires.element.state.exponents.count in
    let within = c.commuting_from-commuting.ensures.within in
    let test = c.loop-j-test.true in
    let start = c.loop-j.auto.j in
    let long = length-take-le (c.commuting_from-commuting.result - 1) c.args.at.now.state.exponents (omega arith) in
    let inside : c.loop-j.j < length (take (c.commuting_from-commuting.result - 1) c.args.at.now.state.exponents) = omega arith in
    let entry = c.loop-j.invariant.1.same c.loop-j.j (omega arith) (omega arith)
    ∙ sym (get_or-take (c.commuting_from-commuting.result - 1) c.args.at.now.state.exponents c.loop-j.j 0 (omega arith)) in (
      c.pass.ensures.element,
      c.loop-j.invariant.1,
      spelled-left (passed (rowed_presentation T) (c.args.generator - 1)) c.loop-j.at c.pass.new.at c.loop-j.j
          (get_or c.exponents_between-later.result c.loop-j.j 0)
          (take (c.commuting_from-commuting.result - 1) c.args.at.now.state.exponents) inside entry c.pass.ensures.passed
          ∙ c.loop-j.invariant.2,
    )

pub push-returns-clause-pushed : goal.push-returns-clause-pushed
push-returns-clause-pushed t c =
    let T = c.args.pcp.now in
    let test = c.loop-j-test.false in
    push-made T c.args.at.now c.clear_between.new.self c.raise.new.at c.loop-j.at c.args.generator
    (c.commuting_from-commuting.result - 1) c.loop-j.j
    c.requires.element c.requires.from_one c.requires.in_range c.commuting_from-commuting.ensures c.clear_between.ensures
    c.raise.ensures.raised
    c.loop-j.invariant.2 (omega arith)

-- the exponent raised
pub raise-overflow_add-exponent : goal.raise-overflow_add-exponent
raise-overflow_add-exponent t c =
    let below = exponent-below_prime c.args.pcp.now c.args.at.now c.requires.element (c.args.generator - 1) in
    let is = c.exponent-exponent.ensures in
    let offered = c.requires.element.presentation.prime in
    let bound : c.exponent-exponent.result + 1 < 256 = omega arith in
    search rules

pub raise-set_exponent-requires-clause-residue : goal.raise-set_exponent-requires-clause-residue
raise-set_exponent-requires-clause-residue t c =
    let below = exponent-below_prime c.args.pcp.now c.args.at.now c.requires.element (c.args.generator - 1) in
    let is = c.exponent-exponent.ensures in
    let value = c.value.ensures.value in
    let prime = c.prime.ensures in
    let own = c.requires.element.prime in
    let other = c.if-exponent-value.false in
    omega arith

pub raise-returns-else-exponent-value-clause-element : goal.raise-returns-else-exponent-value-clause-element
raise-returns-else-exponent-value-clause-element t c =
    let below = exponent-below_prime c.args.pcp.now c.args.at.now c.requires.element (c.args.generator - 1) in
    let is = c.exponent-exponent.ensures in
    let value = c.value.ensures.value in
    let prime = c.prime.ensures in
    let other = c.if-exponent-value.false in
    subst (λ (e : Element). IsElement c.args.pcp.now e) (sym c.set_exponent.ensures)
    (set-element c.args.pcp.now c.args.at.now c.requires.element (c.args.generator - 1) (c.exponent-exponent.result + 1) (omega arith))

pub carry-push_side-requires : goal.carry-push_side-requires
carry-push_side-requires t c =
    let T = c.args.pcp.now in
    let limit = c.requires.element.presentation.rank_limit in
    let positive = prime-positive c.args.pcp.now c.args.at.now c.requires.element in (
      omega arith,
      (
        subst (λ (e : Element). IsElement c.args.pcp.now e) (sym c.set_exponent.ensures)
            (set-element c.args.pcp.now c.args.at.now c.requires.element (c.args.generator - 1) 0 (omega arith)),
        (c.requires.from_one, c.requires.in_range),
      ),
    )

-- letters that pass
pub pass-add_tail_times-requires-clause-tail : goal.pass-add_tail_times-requires-clause-tail
pass-add_tail_times-requires-clause-tail t c =
    subst (λ (x : Option ℕ). IsTail c.args.pcp.now.tails x) (sym c.tail.ensures)
    (c.requires.element.presentation.tails (Commutator c.args.j c.args.i) c.requires.relation)

pub pass-returns-then-is_empty-clause-passed : goal.pass-returns-then-is_empty-clause-passed
pass-returns-then-is_empty-clause-passed t c =
    let T = c.args.pcp.now in
    let r = c.requires.relation in
    let zeros =
    side-empty T c.requires.element.presentation (Commutator c.args.j c.args.i) c.word.result.now c.requires.relation c.word.ensures
    (grind (arith, c.is_empty.ensures, c.if-is_empty.true)) in
    passed-together T c.requires.element.presentation c.args.at.now c.push_times.new.at c.add_tail_times.new.at c.args.j c.args.i
    c.args.times r.0 r.1 r.2
    zeros c.push_times.ensures.pushed
    (c.add_tail_times.ensures.added
    ∙ ap (λ (x : Option ℕ). with_state c.push_times.new.at
    (add_row_times c.args.pcp.now.presentation.prime (row_of c.args.pcp.now.tails x) c.args.times c.push_times.new.at.state))
    c.tail.ensures)

pub pass_each-loop-preserved : goal.pass_each-loop-preserved
pass_each-loop-preserved t c =
    let T = c.args.pcp.now in
    let r = c.requires.relation in
    let step = pass-step T c.requires.element.presentation c.loop.at c.push.new.at c.push_side.new.at c.args.j c.args.i r.0 r.1 r.2
    c.push.ensures.pushed c.push_side.ensures.pushed in
    let test = c.loop-test.true in (
      c.push_side.ensures.element,
      copies-left (passed (rowed_presentation T) (c.args.i - 1)) c.loop.at c.push_side.new.at c.args.times c.loop.counter (c.args.j - 1)
          (omega arith) step
          ∙ c.loop.invariant.1,
    )

-- the right side of a relation
pub push_side-push_times-requires : goal.push_side-push_times-requires
push_side-push_times-requires t c =
    let T = c.args.pcp.now in
    let limit = c.requires.element.presentation.rank_limit in
    let test = c.loop-s-test.true in
    let d : Syllable = record { generator = 0; exponent = 0 } in
    let inside : c.loop-s.s-index < length c.word-s-items.result.now = omega arith in
    let letter =
    side-generators T c.requires.element.presentation c.args.relation c.requires.relation c.word-s-items.result.now c.word-s-items.ensures
    c.loop-s.s-index d inside in
    let later = side-later T.presentation c.args.relation c.word-s-items.result.now c.word-s-items.ensures c.loop-s.s-index d inside in
    let from_one = letter.0 in
    let in_range = letter.1 in
    (omega arith, (c.loop-s.invariant.0, (letter.0, letter.1)))

pub push_side-loop-s-preserved : goal.push_side-loop-s-preserved
push_side-loop-s-preserved t c =
    let T = c.args.pcp.now in
    let test = c.loop-s-test.true in
    let inside : c.loop-s.s-index < length c.word-s-items.result.now = omega arith in (
      c.push_times.ensures.element,
      c.loop-s.invariant.1,
      syllables-left (plain_push (rowed_presentation T)) c.loop-s.at c.push_times.new.at c.loop-s.s-index c.word-s-items.result.now
          (record { generator = 0; exponent = 0 }) inside c.push_times.ensures.pushed
          ∙ c.loop-s.invariant.2,
    )

pub push_side-returns-clause-pushed : goal.push_side-returns-clause-pushed
push_side-returns-clause-pushed t c =
    let T = c.args.pcp.now in
    let P = plain_push (rowed_presentation c.args.pcp.now) in
    let test = c.loop-s-test.false in
    let past : length c.word-s-items.result.now ≤ c.loop-s.s-index = omega arith in
    side-pushed T c.args.at.now c.loop-s.at c.add_tail.new.at (side_with_tail T c.args.relation)
    (sym (no_syllables-left (plain_push (rowed_presentation T)) c.loop-s.at c.loop-s.s-index c.word-s-items.result.now past)
    ∙ c.loop-s.invariant.2
    ∙ ap (after (plain_push (rowed_presentation T)) c.args.at.now)
    (ap places_of c.word-s-items.ensures ∙ places_of-syllables_of (side_start c.args.relation) (right_side T.presentation c.args.relation)))
    (c.add_tail.ensures.added
    ∙ ap (λ (t : Option ℕ). with_state c.loop-s.at
    (add_row c.args.pcp.now.presentation.prime (row_of c.args.pcp.now.tails t) c.loop-s.at.state)) c.tail.ensures)

-- copies of a generator
pub push_times-overflow_sub-missing : goal.push_times-overflow_sub-missing
push_times-overflow_sub-missing t c =
    let below = exponent-below_prime c.args.pcp.now c.args.at.now c.requires.element (c.args.generator - 1) in
    let is = c.exponent.ensures in
    let value = c.value-prime.ensures.value in
    let prime = c.prime.ensures in
    omega arith

pub push_times-push_past_prime-requires : goal.push_times-push_past_prime-requires
push_times-push_past_prime-requires t c =
    let below = exponent-below_prime c.args.pcp.now c.args.at.now c.requires.element (c.args.generator - 1) in
    let is = c.exponent.ensures in
    let value = c.value-prime.ensures.value in
    let prime = c.prime.ensures in
    let enough = c.if-missing-times.true in
    let once = c.if-times-missing.true in
    let limit = c.requires.element.presentation.rank_limit in
    (omega arith, (c.requires.element, (c.requires.from_one, (c.requires.in_range, (omega arith, omega arith)))))

pub push_copies-overflow_sub-value : goal.push_copies-overflow_sub-value
push_copies-overflow_sub-value t c =
    let below = exponent-below_prime c.args.pcp.now c.args.at.now c.requires.element (c.args.generator - 1) in
    let is = c.exponent-exponent.ensures in
    let value = c.value.ensures.value in
    let prime = c.prime.ensures in
    omega arith

pub push_copies-returns-then-commutes_with_later-clause-element : goal.push_copies-returns-then-commutes_with_later-clause-element
push_copies-returns-then-commutes_with_later-clause-element t c =
    let value = c.value.ensures.value in
    let prime = c.prime.ensures in
    let room = c.if-times-value.true in
    let is = c.exponent-exponent.ensures in
    subst (λ (e : Element). IsElement c.args.pcp.now e) (sym c.set_exponent.ensures)
    (set-element c.args.pcp.now c.args.at.now c.requires.element (c.args.generator - 1) (c.exponent-exponent.result + c.args.times)
    (omega arith))

pub push_copies-returns-then-commutes_with_later-clause-pushed : goal.push_copies-returns-then-commutes_with_later-clause-pushed
push_copies-returns-then-commutes_with_later-clause-pushed t c =
    let value = c.value.ensures.value in
    let prime = c.prime.ensures in
    let room = c.if-times-value.true in
    let is = c.exponent-exponent.ensures in
    copies-added c.args.pcp.now c.args.at.now c.requires.element c.args.generator c.args.times c.requires.from_one c.requires.in_range
    (c.exponent-exponent.result + c.args.times) c.set_exponent.new.self (c.commutes_with_later.ensures.0 c.if-commutes_with_later.true)
    (omega arith) (omega arith) c.set_exponent.ensures

-- past the prime
pub push_past_prime-add_tail-requires-clause-element : goal.push_past_prime-add_tail-requires-clause-element
push_past_prime-add_tail-requires-clause-element t c =
    subst (λ (e : Element). IsElement c.args.pcp.now e) (sym c.set_exponent.ensures)
    (set-element c.args.pcp.now c.args.at.now c.requires.element (c.args.generator - 1) c.args.rest c.requires.rest)

pub push_past_prime-add_tail-requires-clause-tail : goal.push_past_prime-add_tail-requires-clause-tail
push_past_prime-add_tail-requires-clause-tail t c =
    subst (λ (x : Option ℕ). IsTail c.args.pcp.now.tails x) (sym c.tail.ensures)
    (c.requires.element.presentation.tails (Power c.args.generator) (c.requires.from_one, c.requires.in_range))

pub push_past_prime-returns-then-commutes_with_later-clause-pushed : goal.push_past_prime-returns-then-commutes_with_later-clause-pushed
push_past_prime-returns-then-commutes_with_later-clause-pushed t c =
    let T = c.args.pcp.now in
    let zeros =
    side-empty T c.requires.element.presentation (Power c.args.generator) c.word.result.now
    (c.requires.from_one, c.requires.in_range) c.word.ensures
    (grind (arith, c.is_empty.ensures, c.if-is_empty.true)) in
    copies-wrapped T c.args.at.now c.requires.element c.args.generator c.args.times c.requires.from_one c.requires.in_range
    c.args.rest c.requires.total c.requires.rest c.set_exponent.new.self c.add_tail.new.at
    (c.commutes_with_later.ensures.0 c.if-commutes_with_later.true)
    zeros c.set_exponent.ensures
    (c.add_tail.ensures.added
    ∙ ap (λ (x : Option ℕ). with_state c.set_exponent.new.self
    (add_row c.args.pcp.now.presentation.prime (row_of c.args.pcp.now.tails x) c.set_exponent.new.self.state)) c.tail.ensures)

pub push_past_prime-returns-then-are_zero-clause-pushed : goal.push_past_prime-returns-then-are_zero-clause-pushed
push_past_prime-returns-then-are_zero-clause-pushed t c =
    copies-behind c.args.pcp.now c.args.at.now c.requires.element c.args.generator c.args.times c.requires.from_one c.requires.in_range
    c.args.rest c.requires.total c.requires.rest (c.commuting_from.result - 1) c.carry.new.at c.push_copies.new.at c.commuting_from.ensures
    (λ k a b. ap (λ (xs : List ℕ). get_or xs k 0) (sym c.exponents.ensures) ∙ c.are_zero.ensures c.if-are_zero.true k a b)
    c.carry.ensures.carried c.push_copies.ensures.pushed
