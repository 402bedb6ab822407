use Rattle.std.proofs.Common.{◌≡◌, ℕ, List, length, drop, ap, sym, ◌∙◌, arith}
use Rattle.std.proofs.lemmas.List.{drop_all}
use Rattle.pc_presentation.specs.Syllable.{syllable}
use Rattle.pc_presentation.specs.Tailed.{Element, with_state}
use Rattle.pc_presentation.proofs.presentations.WrittenWords.{written, element_written, syllable-facts, written-zeros, same_length}
use Rattle.p_cover.proofs.images.set_exponents.Goals as goal

pub set_exponent-requires-clause-from_one : goal.set_exponent-requires-clause-from_one
set_exponent-requires-clause-from_one c =
    let e = c.args.element.now in
    (syllable-facts e.prime (length e.state.exponents) 0 c.args.word.now c.requires.word c.loop-s.s-index
    (syllable 0 0) c.loop-s-test.true).0

pub set_exponent-requires-clause-in_range : goal.set_exponent-requires-clause-in_range
set_exponent-requires-clause-in_range c =
    let e = c.args.element.now in
    let facts =
    syllable-facts e.prime (length e.state.exponents) 0 c.args.word.now c.requires.word c.loop-s.s-index
    (syllable 0 0) c.loop-s-test.true in
    omega (arith, facts.1, same_length c.loop-s.element e (drop c.loop-s.s-index c.args.word.now) c.args.word.now c.loop-s.invariant)

pub set_exponent-requires-clause-residue : goal.set_exponent-requires-clause-residue
set_exponent-requires-clause-residue c =
    let e = c.args.element.now in
    let facts =
    syllable-facts e.prime (length e.state.exponents) 0 c.args.word.now c.requires.word c.loop-s.s-index
    (syllable 0 0) c.loop-s-test.true in
    let prime : c.loop-s.element.prime ≡ e.prime = ap (λ (x : Element). x.prime) c.loop-s.invariant in
    omega (arith, facts.2)

pub returns : goal.returns
returns c =
    let e = c.args.element.now in
    let w = c.args.word.now in
    ap (element_written c.loop-s.element) (sym (drop_all c.loop-s.s-index w c.loop-s-test.false)) ∙ c.loop-s.invariant
    ∙ ap (λ (x : List ℕ). with_state e (record { exponents = x; row = e.state.row }))
    (ap (λ (x : List ℕ). written x w) c.requires.zeros ∙ written-zeros e.prime (length e.state.exponents) w c.requires.word)
