use Rattle.std.proofs.Common.{cond, eqb, ◌≡◌, ◌+◌, ◌-◌, ◌++◌, ◌∷◌, [], ℕ, ap, ◌∙◌, arith}
use Rattle.std.proofs.lemmas.List.{get_or_default}
use Rattle.pc_presentation.specs.Syllable.{syllables_of}
use Rattle.pc_presentation.proofs.presentations.SyllableParts.{written-more}
use Rattle.cover_quotient.proofs.kept_words.unit_word.Goals as goal

pub loop-k-preserved : goal.loop-k-preserved
loop-k-preserved c =
    let same : c.loop-k.k + 1 - 1 ≡ 0 + c.loop-k.k + 1 - 1 = omega arith in
    written-more (λ d. cond (eqb c.args.tail d) 1 0) 0 c.args.kept.now []
    c.loop-k.k c.unit_entry.result c.loop-k.word.items c.push_power.new.word.items c.loop-k-test.true c.loop-k.invariant
    (c.unit_entry.ensures ∙ ap (λ d. cond (eqb c.args.tail d) 1 0) (get_or_default c.args.kept.now c.loop-k.k _ 0 c.loop-k-test.true))
    (c.in_ok-push_power.ensures
    ∙ ap (λ (m : ℕ). c.loop-k.word.items ++ syllables_of m (c.unit_entry.result ∷ [])) same)
