use Rattle.std.proofs.Common.{◌≡◌, ℕ, List, IfSome, length, subst, arith}
use Rattle.std.specs.Prelude.{Option}
use Rattle.std.specs.declared.vec.Vec.{Vec}
use Rattle.std.specs.Global.{Global}
use Rattle.pc_presentation.specs.declared.syllable.Syllable.{Syllable}
use Rattle.pc_presentation.specs.Syllable.{AreSyllables}
use Rattle.answer_text.specs.Words.{word_text}
use Rattle.answer_text.proofs.texts.PieceTexts.{IfNone-at}
use Rattle.answer_text.proofs.lines.LineTexts.{no-relation-word, no-empty-word}
use Rattle.answer_text.proofs.line_reading.relation_line.Goals as goal

pub returns-in_default-2-clause-none : goal.returns-in_default-2-clause-none
returns-in_default-2-clause-none c =
    no-relation-word c.args.prime c.args.rank c.args.line.now c.in-Some.right.now c.in-Some.relation c.requires.prime c.requires.rank
    c.in-Some.ensures.some.0 c.in-Some.ensures.some.1
    (subst (λ (k : ℕ). (w : List Syllable) → AreSyllables c.args.prime c.args.rank k w → ¬ (c.in-Some.right.now ≡ word_text w))
    c.leading.ensures
    (IfNone-at c.in_ok-word.field-0
    ((w : List Syllable) → AreSyllables c.args.prime c.args.rank c.leading.result w → ¬ (c.in-Some.right.now ≡ word_text w))
    c.in_default-2.is c.in_ok-word.ensures.none))

pub returns-then-is_empty-clause-none : goal.returns-then-is_empty-clause-none
returns-then-is_empty-clause-none c =
    let read : AreSyllables c.args.prime c.args.rank c.leading.result c.in-Some-2.word.items
    × (c.in-Some.right.now ≡ word_text c.in-Some-2.word.items) =
    subst (λ (o : Option (Vec Syllable Global)).
    IfSome o (λ v. AreSyllables c.args.prime c.args.rank c.leading.result v.items × (c.in-Some.right.now ≡ word_text v.items)))
    c.in-Some-2.is c.in_ok-word.ensures.some in
    let empty : length c.in-Some-2.word.items ≡ 0 = grind (arith, c.is_empty.ensures, c.if-is_empty.true) in
    no-empty-word c.args.prime c.args.rank c.args.line.now c.in-Some.right.now c.in-Some.relation c.in-Some-2.word.items c.requires.prime
    c.requires.rank c.in-Some.ensures.some.0 c.in-Some.ensures.some.1
    (subst (λ (k : ℕ). AreSyllables c.args.prime c.args.rank k c.in-Some-2.word.items) c.leading.ensures read.0) read.1 empty
