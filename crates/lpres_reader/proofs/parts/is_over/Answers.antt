use Rattle.std.proofs.Common.{pos, [], ◌∷◌, get_or, take, FitsSigned, w32, rules}
use Rattle.std.proofs.lemmas.Int.{to_z-of_z}
use Rattle.std.proofs.lemmas.List.{take_more}
use Rattle.pq_base.proofs.words.LetterLaws.{HasLetters-append}
use Rattle.pq_base.proofs.words.LetterLaws.{IsLetter-get_or}
use Rattle.lpres_reader.proofs.parts.is_over.Goals as goal

pub returns-then-not-is_letter : goal.returns-then-not-is_letter
returns-then-not-is_letter c h =
    let letters = c.letters-k-items.result.now in
    let f : FitsSigned w32 (get_or letters c.loop-k.k-index (pos 0)) = search rules in
    let outside = rw (to_z-of_z w32 (get_or letters c.loop-k.k-index (pos 0)) f) at c.if-not-is_letter.ensures in
    outside (IsLetter-get_or c.args.generators letters c.loop-k.k-index (pos 0) (rw c.letters-k-items.ensures.value h) c.loop-k-test.true)

pub loop-k-preserved : goal.loop-k-preserved
loop-k-preserved c =
    let letters = c.letters-k-items.result.now in
    let f : FitsSigned w32 (get_or letters c.loop-k.k-index (pos 0)) = search rules in
    let letter = rw (to_z-of_z w32 (get_or letters c.loop-k.k-index (pos 0)) f) at c.if-not-is_letter.ensures in
    rw (take_more letters c.loop-k.k-index (pos 0) c.loop-k-test.true)
    (HasLetters-append c.args.generators (take c.loop-k.k-index letters) (get_or letters c.loop-k.k-index (pos 0) ∷ []) c.loop-k.invariant
    (letter, tt))
