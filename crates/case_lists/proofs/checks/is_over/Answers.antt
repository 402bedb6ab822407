use Rattle.std.proofs.Common.{pos, [], ◌∷◌, get_or, take, refl, FitsSigned, w32, rules}
use Rattle.std.proofs.lemmas.Int.{to_z-of_z}
use Rattle.std.proofs.lemmas.List.{take_more}
use Rattle.pq_base.proofs.words.LetterLaws.{HasLetters-append}
use Rattle.case_lists.proofs.checks.is_over.Goals as goal

pub loop-k-preserved : goal.loop-k-preserved
loop-k-preserved c =
    let letters = c.args.word.now in
    let f : FitsSigned w32 (get_or letters c.loop-k.k-index (pos 0)) = search rules in
    let letter = rw (to_z-of_z w32 (get_or letters c.loop-k.k-index (pos 0)) f) at c.if-not-is_letter_of.ensures in
    rw (take_more letters c.loop-k.k-index (pos 0) c.loop-k-test.true)
    (HasLetters-append c.args.generators (take c.loop-k.k-index letters) (get_or letters c.loop-k.k-index (pos 0) ∷ []) c.loop-k.invariant
    (letter refl, tt))
