use Rattle.std.proofs.Common.{◌≡◌, ◌<◌, ◌+◌, ℕ, suc, List, [], ◌∷◌, ◌++◌, get_or, take, length, ap, sym, subst, ◌∙◌, arith}
use Rattle.std.proofs.Math.Seq.{take-suc}
use Rattle.pq_base.specs.Table.{AllBelow}
use Rattle.cert_text.proofs.texts.NumbersRead.{AllBelow-at, AllBelow-next}
use Rattle.cert_text.proofs.path_reading.path_of.Goals as goal

pub returns-then-number-gt255-clause-none : goal.returns-then-number-gt255-clause-none
returns-then-number-gt255-clause-none c below =
    let ns : List ℕ = c.args.numbers.now in
    let k : ℕ = c.loop-number.number-index in
    let small : get_or ns k 0 < 256 = AllBelow-at 256 ns k below (omega (arith, c.loop-number-test.true)) in
    omega (arith, c.if-number-gt255.true)

pub loop-number-preserved : goal.loop-number-preserved
loop-number-preserved c =
    let ns : List ℕ = c.args.numbers.now in
    let k : ℕ = c.loop-number.number-index in
    let inside : k < length ns = omega (arith, c.loop-number-test.true) in
    let next : suc k ≡ k + 1 = omega arith in
    record {
      read =
          c.in_ok-push.ensures.items ∙ ap (λ (t : List ℕ). t ++ get_or ns k 0 ∷ []) c.loop-number.invariant.read
          ∙ sym (take-suc ns k 0 inside) ∙ ap (λ (n : ℕ). take n ns) next;
      small = subst (AllBelow 256) (sym c.in_ok-push.ensures.items)
          (AllBelow-next 256 c.loop-number.path.items _ c.loop-number.invariant.small (omega (arith, c.if-number-gt255.false)));
    }
