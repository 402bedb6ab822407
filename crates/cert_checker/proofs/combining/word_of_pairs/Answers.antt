use Rattle.std.proofs.Common.{◌≡◌, ◌+◌, ◌-◌, ◌++◌, ◌∷◌, [], ℕ, ap, ◌∙◌, arith}
use Rattle.std.proofs.lemmas.List.{get_or_default}
use Rattle.pc_presentation.specs.Syllable.{syllables_of}
use Rattle.pc_presentation.proofs.presentations.SyllableParts.{written-more}
use Rattle.derivation_log.specs.CertificateRuns.{coefficient_in}
use Rattle.cert_checker.proofs.combining.word_of_pairs.Goals as goal

pub loop-k-preserved : goal.loop-k-preserved
loop-k-preserved c =
    let same : c.loop-k.k + 1 - 1 ≡ 0 + c.loop-k.k + 1 - 1 = omega arith in
    written-more (coefficient_in c.args.pairs.now) 0 c.args.kept.now [] c.loop-k.k c.coefficient.result c.loop-k.word.items
    c.push_power.new.word.items c.loop-k-test.true c.loop-k.invariant
    (c.coefficient.ensures ∙ ap (coefficient_in c.args.pairs.now) (get_or_default c.args.kept.now c.loop-k.k _ 0 c.loop-k-test.true))
    (c.in_ok-push_power.ensures
    ∙ ap (λ (m : ℕ). c.loop-k.word.items ++ syllables_of m (c.coefficient.result ∷ [])) same)
