use Rattle.std.proofs.Common.{◌≡◌, ◌+◌, ◌-◌, ◌++◌, ◌∷◌, [], ℕ, ap, ◌∙◌, arith}
use Rattle.std.proofs.lemmas.List.{get_or_default}
use Rattle.fp_rows.specs.Row.{at_column}
use Rattle.fp_echelon.specs.Reduction.{negative}
use Rattle.pc_presentation.specs.Syllable.{syllables_of}
use Rattle.pc_presentation.proofs.presentations.SyllableParts.{written-more}
use Rattle.class_step.proofs.kept.negated_entries.Goals as goal

pub loop-k-preserved : goal.loop-k-preserved
loop-k-preserved c =
    let same : c.loop-k.k + 1 - 1 ≡ 0 + c.loop-k.k + 1 - 1 = omega arith in
    written-more (λ d. negative c.args.row.now.prime (at_column c.args.row.now.entries d)) 0 c.args.kept.now []
    c.loop-k.k c.negated.result c.loop-k.word.items c.push_power.new.word.items c.loop-k-test.true c.loop-k.invariant
    (c.negated.ensures
    ∙ ap (λ d. negative c.args.row.now.prime (at_column c.args.row.now.entries d))
    (get_or_default c.args.kept.now c.loop-k.k _ 0 c.loop-k-test.true))
    (c.in_ok-push_power.ensures
    ∙ ap (λ (m : ℕ). c.loop-k.word.items ++ syllables_of m (c.negated.result ∷ [])) same)
