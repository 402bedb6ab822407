use Rattle.std.proofs.Common.{◌≡◌, IfOk, List, length, subst}
use Rattle.pc_presentation.specs.declared.syllable.Syllable.{Syllable}
use Rattle.cert_checker.proofs.summing.LineCombinations.{word-with_line, word-without_line}
use Rattle.cert_checker.proofs.combining.word_of_tail.Goals as goal

pub returns-in-Some : goal.returns-in-Some
returns-in-Some c =
    subst (λ (w : List Syllable). IfOk c.word_of_pairs.result (λ v. v.items ≡ w))
    (word-with_line (length c.args.cover.now.sources) c.args.lines.now c.args.tail c.in-Some.line.now c.in-Some.ensures.some
    c.args.kept.now c.requires.kept c.kept.result.now c.kept.ensures)
    c.word_of_pairs.ensures

pub returns-in-None : goal.returns-in-None
returns-in-None c =
    subst (λ (w : List Syllable). IfOk c.unit_word.result (λ v. v.items ≡ w))
    (word-without_line (length c.args.cover.now.sources) c.args.lines.now c.args.tail c.in-None.ensures.none c.args.kept.now
    c.requires.kept)
    c.unit_word.ensures
