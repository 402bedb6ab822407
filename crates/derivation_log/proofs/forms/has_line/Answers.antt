use Rattle.std.proofs.Common.{◌≡◌, ◌<◌, ◌+◌, ◌-◌, ◌/◌, ℕ, List, length, sym, ap, ◌∙◌, arith, inl, inr}
use Rattle.std.proofs.lemmas.Bool.{cases_order}
use Rattle.std.proofs.lemmas.List.{get_or_read}
use Rattle.derivation_log.specs.Certificates.{TailLine}
use Rattle.derivation_log.proofs.NextTailLines.{no_line, tail_at, rising-apart, has_line-at, has_line-nowhere}
use Rattle.derivation_log.proofs.forms.has_line.Goals as goal

pub returns-then-tail-t : goal.returns-then-tail-t
returns-then-tail-t c =
    let ls : List TailLine = c.args.lines.now in
    let m : ℕ = c.loop-low.low + (c.loop-low.high - c.loop-low.low) / 2 in
    let inside : m < length ls = omega (arith, c.loop-low-test.true, c.loop-low.invariant.bounds) in
    let line = ap (λ (l : TailLine). l.tail) (get_or_read ls m c.index-lines-middle.result inside c.index-lines-middle.is no_line) in
    sym (has_line-at c.args.t ls m inside (sym line ∙ sym c.tail-tail.ensures ∙ c.if-tail-t.true))

pub loop-low-preserved-then-tail-t-2 : goal.loop-low-preserved-then-tail-t-2
loop-low-preserved-then-tail-t-2 c =
    let ls : List TailLine = c.args.lines.now in
    let m : ℕ = c.loop-low.low + (c.loop-low.high - c.loop-low.low) / 2 in
    let inside : m < length ls = omega (arith, c.loop-low-test.true, c.loop-low.invariant.bounds) in
    let line = ap (λ (l : TailLine). l.tail) (get_or_read ls m c.index-lines-middle.result inside c.index-lines-middle.is no_line) in
    let here : tail_at ls m < c.args.t = omega (arith, c.if-tail-t-2.true, c.tail-tail.ensures, line) in record {
      bounds = c.loop-low.invariant.bounds;
      below = λ i before. elim (cases_order i m) [
        | inl same ↦ let at : tail_at ls i ≡ tail_at ls m = ap (tail_at ls) same in omega arith
        | inr other ↦ elim other [
          | inl less ↦ let less_tail : tail_at ls i < tail_at ls m = rising-apart 1 ls i m c.requires less inside in omega arith
          | inr more ↦ absurd (omega arith)
        ]
      ];
      above = c.loop-low.invariant.above;
    }

pub loop-low-preserved : goal.loop-low-preserved
loop-low-preserved c =
    let ls : List TailLine = c.args.lines.now in
    let m : ℕ = c.loop-low.low + (c.loop-low.high - c.loop-low.low) / 2 in
    let inside : m < length ls = omega (arith, c.loop-low-test.true, c.loop-low.invariant.bounds) in
    let line = ap (λ (l : TailLine). l.tail) (get_or_read ls m c.index-lines-middle.result inside c.index-lines-middle.is no_line) in
    let other : tail_at ls m ≡ c.args.t → ⊥ = λ e. c.if-tail-t.false (c.tail-tail.ensures ∙ line ∙ e) in
    let here : c.args.t < tail_at ls m = omega (arith, c.if-tail-t-2.false, c.tail-tail.ensures, line, other) in record {
      bounds = omega arith;
      below = c.loop-low.invariant.below;
      above = λ i from end. elim (cases_order i m) [
        | inl same ↦ let at : tail_at ls i ≡ tail_at ls m = ap (tail_at ls) same in omega arith
        | inr other ↦ elim other [
          | inl less ↦ absurd (omega arith)
          | inr more ↦ let more_tail : tail_at ls m < tail_at ls i = rising-apart 1 ls m i c.requires more end in omega arith
        ]
      ];
    }

pub returns : goal.returns
returns c =
    let ls : List TailLine = c.args.lines.now in
    let t : ℕ = c.args.t in
    sym (has_line-nowhere t ls (λ i inside e. elim (cases_order i c.loop-low.low) [
      | inl same ↦ let a : t < tail_at ls i = c.loop-low.invariant.above i (omega (arith, c.loop-low-test.false)) inside in omega arith
      | inr other ↦ elim other [
        | inl less ↦ let b : tail_at ls i < t = c.loop-low.invariant.below i less in omega arith
        | inr more ↦ let a : t < tail_at ls i = c.loop-low.invariant.above i (omega (arith, c.loop-low-test.false)) inside in omega arith
      ]
    ]))
