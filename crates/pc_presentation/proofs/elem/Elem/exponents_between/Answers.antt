use Rattle.std.proofs.Common.{◌≡◌, ◌-◌, ℕ, subst, arith}
use Rattle.pc_presentation.specs.Commuting.{AreBetween}
use Rattle.pc_presentation.proofs.commuting.ExponentsBetween.{between-none}
use Rattle.pc_presentation.proofs.elem.Elem.exponents_between.Goals as goal

pub loop-k-init : goal.loop-k-init
loop-k-init c = between-none c.args.i c.args.self.now.state.exponents

pub returns : goal.returns
returns c =
    let test = c.loop-k-test.false in
    let start = c.loop-k.auto.k in
    let last = c.loop-k.auto.k-end in
    let after = c.requires.after in
    let end : c.loop-k.k ≡ c.args.z - 1 = omega arith in
    subst (λ (k : ℕ). AreBetween c.args.i k c.args.self.now.state.exponents c.loop-k.part) end c.loop-k.invariant
