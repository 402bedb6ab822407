use Rattle.std.proofs.Common.{◌≡◌, ◌<◌, List, ℕ, [], ◌≤◌, ◌+◌, subst, length, refl, ap, arith}
use Rattle.std.specs.Borrow.{Bor}
use Rattle.pq_base.specs.Name.{IsName}
use Rattle.lpres_reader.specs.Faults.{Limit}
use Rattle.lpres_reader.specs.Trials.{tried, Name, Generators}
use Rattle.lpres_reader.proofs.names.NamesSoFar.{names_first, names_next, names_end, name_too_long, names_too_many}
use Rattle.lpres_reader.proofs.generators.names_of.Goals as goal

-- stands for the text at no place
abbrev nowhere : Bor (List ℕ)
nowhere = record { ref_ptr = (0, 0); now = [] }

pub loop-text-init : goal.loop-text-init
loop-text-init c = names_first c.args.texts.now c.new-names.result.keys c.new-names.ensures.empty

pub returns-in_default : goal.returns-in_default
returns-in_default c = (
  tried Name _,
  name_too_long c.args.texts.now c.loop-text.text-index nowhere c.loop-text.names.keys c.loop-text.invariant c.loop-text-test.true
      c.requires.texts c.in_default.ensures.none,
  refl,
)

pub returns-then-len-ge-GENERATORS : goal.returns-then-len-ge-GENERATORS
returns-then-len-ge-GENERATORS c =
    let name = subst IsName c.in-Some.ensures.some c.in-Some.ensures.name in
    let keys = c.loop-text.names.keys in
    let again : c.len-then-len-ge-GENERATORS.result ≡ length keys = c.len-then-len-ge-GENERATORS.ensures.len in
    let full : 32 ≤ length keys = omega (arith, c.len.ensures.len, c.if-len-ge-GENERATORS.true) in (
      tried Generators (length keys + 1),
      names_too_many c.args.texts.now c.loop-text.text-index nowhere keys c.loop-text.invariant c.loop-text-test.true name full,
      ap (λ (n : ℕ). Limit Generators (n + 1)) again,
    )

pub loop-text-preserved : goal.loop-text-preserved
loop-text-preserved c =
    let keys = c.loop-text.names.keys in
    let room : length keys < 32 = omega (arith, c.len.ensures.len, c.if-len-ge-GENERATORS.false) in
    names_next c.args.texts.now c.loop-text.text-index nowhere keys c.insert.new.self.keys c.in-Some.name c.loop-text.invariant
    c.loop-text-test.true c.requires.distinct
    c.in-Some.ensures.some c.in-Some.ensures.name room c.in_ok-insert.ensures.keys

pub returns : goal.returns
returns c = names_end c.args.texts.now c.loop-text.text-index c.loop-text.names.keys c.loop-text.invariant (omega arith) c.requires.distinct
