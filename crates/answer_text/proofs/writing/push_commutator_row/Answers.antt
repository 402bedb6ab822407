use Rattle.std.proofs.Common.{◌≡◌, ◌≤◌, ◌+◌, ◌-◌, ◌++◌, [], ℕ, List, get_or, length, drop, drop_of_length-le, ap, ◌∙◌, arith}
use Rattle.pq_base.specs.Presentation.{Presentation}
use Rattle.pq_base.specs.Answer.{Answer}
use Rattle.pq_base.specs.Lines.{text_of_lines}
use Rattle.pc_presentation.specs.declared.relation.Relation.TheVariants.{Commutator}
use Rattle.pc_presentation.specs.declared.syllable.Syllable.{Syllable}
use Rattle.pc_presentation.specs.Syllable.{syllables_of}
use Rattle.answer_text.specs.AnswerText.{commutator_text, relation_lines, commutator_row_lines}
use Rattle.pq_base.proofs.LineLaws.{text_of_lines-part, text_of_lines-done}
use Rattle.answer_text.proofs.lines.NextLines.{commutator_row_lines-next}
use Rattle.answer_text.proofs.texts.SyllableTexts.{AreExponents-right_side}
use Rattle.answer_text.proofs.writing.push_commutator_row.Goals as goal

pub push_commutator_relation-requires : goal.push_commutator_relation-requires
push_commutator_relation-requires c =
    AreExponents-right_side c.pcp-pcp.result.now.presentation (Commutator c.args.j (c.loop-k.k + 1)) c.word.result.now c.word.ensures

pub loop-k-preserved : goal.loop-k-preserved
loop-k-preserved c =
    let k : ℕ = c.loop-k.k in
    let j : ℕ = c.args.j in
    let A : Answer = c.args.answer.now in
    let row : List (List ℕ) = get_or A.presentation.commutators (j - 1) [] in
    let long : length row ≡ j - 1 =
    c.pcp-pcp.ensures.answer.presentation.commutator_counts (j - 1) (omega (arith, c.requires.from_one, c.requires.in_range)) in
    let word : c.word.result.now ≡ syllables_of j (get_or row (k + 1 - 1) []) =
    c.word.ensures ∙ ap (λ (P : Presentation). syllables_of j (get_or (get_or P.commutators (j - 1) []) (k + 1 - 1) []))
    c.pcp-pcp.ensures.presentation in
    let part : List (List ℕ) = relation_lines (commutator_text j (k + 1)) (syllables_of j (get_or row (k + 1 - 1) [])) in
    let written =
    c.in_ok-push_commutator_relation.ensures
    ∙ ap (λ (w : List Syllable). c.loop-k.out.items ++ text_of_lines (relation_lines (commutator_text j (k + 1)) w)) word in
    let next = commutator_row_lines-next j k (k + 1) (k + 1 - 1) row (omega arith) (omega arith) (omega (arith, c.loop-k-test.true)) in
    text_of_lines-part c.loop-k.out.items c.push_commutator_relation.new.out.items _ part _ _ written next c.loop-k.invariant

pub returns : goal.returns
returns c =
    let k : ℕ = c.loop-k.k in
    let j : ℕ = c.args.j in
    let row : List (List ℕ) = get_or c.args.answer.now.presentation.commutators (j - 1) [] in
    let long : length row ≡ j - 1 =
    c.pcp-pcp.ensures.answer.presentation.commutator_counts (j - 1) (omega (arith, c.requires.from_one, c.requires.in_range)) in
    let short : length row ≤ k = omega (arith, c.loop-k-test.false) in
    text_of_lines-done c.loop-k.out.items _ (commutator_row_lines j k (drop k row))
    (ap (λ (r : List (List ℕ)). commutator_row_lines j k r) (drop_of_length-le row short)) c.loop-k.invariant
