use Rattle.std.proofs.Common.{◌≡◌, ◌+◌, ℤ, List, [], drop, sym, ap, ◌∙◌}
use Rattle.std.proofs.lemmas.List.{drop_all}
use Rattle.lpres_reader.specs.Recipes.{written}
use Rattle.lpres_reader.proofs.recipes.WritingLaws.{written-next}
use Rattle.lpres_reader.proofs.writing.write_word.Goals as goal

pub loop-step-init : goal.loop-step-init
loop-step-init c = record { written = rw c.in_ok-out.ensures.items c.steps-step-items.ensures; letters = rw c.in_ok-out.ensures.items tt }

pub take_step-requires : goal.take_step-requires
take_step-requires c = c.loop-step.invariant.letters

pub loop-step-preserved : goal.loop-step-preserved
loop-step-preserved c =
    let ss = c.steps-step-items.result.now in
    let i = c.loop-step.step-index in
    record {
      written =
          ap (λ (out : List ℤ). written out (drop (i + 1) ss)) c.in_ok-take_step.ensures.written
          ∙ sym (written-next c.loop-step.out.items ss i _ c.loop-step-test.true) ∙ c.loop-step.invariant.written;
      letters = c.in_ok-take_step.ensures.letters;
    }

pub of-requires : goal.of-requires
of-requires c = rw c.deref.ensures.value c.loop-step.invariant.letters

pub returns-in-Ok : goal.returns-in-Ok
returns-in-Ok c =
    let ss = c.steps-step-items.result.now in
    let none : drop c.loop-step.step-index ss ≡ [] = drop_all c.loop-step.step-index ss c.loop-step-test.false in
    c.in-Ok.ensures.0 ∙ c.deref.ensures.value ∙ ap (written c.loop-step.out.items) (sym none) ∙ c.loop-step.invariant.written
