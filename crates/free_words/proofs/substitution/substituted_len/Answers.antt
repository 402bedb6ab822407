use Rattle.std.proofs.Common.{◌≡◌, ◌≤◌, ◌-◌, pos, [], get_or, take, length, unsigned_abs, FitsSigned, w32, ap, ◌∙◌, sym, rules, arith}
use Rattle.std.proofs.lemmas.Int.{to_z-of_z}
use Rattle.std.proofs.lemmas.List.{length-append}
use Rattle.pq_base.specs.Limits.{max_letters}
use Rattle.pq_base.specs.SignedWord.{sub, image_of, IsLetter}
use Rattle.pq_base.proofs.words.LetterLaws.{IsLetter-get_or}
use Rattle.free_words.proofs.Substitutions.{sub-take_more, length-image_of}
use Rattle.free_words.proofs.substitution.substituted_len.Goals as goal

pub image_at-requires : goal.image_at-requires
image_at-requires c =
    let f : FitsSigned w32 (get_or c.args.word.now c.loop-k.k-index (pos 0)) = search rules in
    rw (to_z-of_z w32 (get_or c.args.word.now c.loop-k.k-index (pos 0)) f)
    (IsLetter-get_or (length c.args.images.now) c.args.word.now c.loop-k.k-index (pos 0) c.requires.range c.loop-k-test.true)

pub loop-k-preserved : goal.loop-k-preserved
loop-k-preserved c =
    let f : FitsSigned w32 (get_or c.args.word.now c.loop-k.k-index (pos 0)) = search rules in
    let i : IsLetter (length c.args.images.now) (get_or c.args.word.now c.loop-k.k-index (pos 0)) =
    IsLetter-get_or (length c.args.images.now) c.args.word.now c.loop-k.k-index (pos 0) c.requires.range c.loop-k-test.true in
    let r : c.image_at.result.now ≡ get_or c.args.images.now (unsigned_abs (get_or c.args.word.now c.loop-k.k-index (pos 0)) - 1) [] =
    rw (to_z-of_z w32 (get_or c.args.word.now c.loop-k.k-index (pos 0)) f) at c.image_at.ensures in
    let m : length c.letters.result.now ≡ length (image_of c.args.images.now (get_or c.args.word.now c.loop-k.k-index (pos 0))) =
    ap length (c.letters.ensures.value ∙ r)
    ∙ sym (length-image_of c.args.images.now (length c.args.images.now) (get_or c.args.word.now c.loop-k.k-index (pos 0)) i) in
    let s = ap length (sub-take_more c.args.word.now c.args.images.now c.loop-k.k-index c.loop-k-test.true) in
    let a = length-append (sub (take c.loop-k.k-index c.args.word.now) c.args.images.now)
    (image_of c.args.images.now (get_or c.args.word.now c.loop-k.k-index (pos 0))) in
    let b : length c.letters.result.now ≤ max_letters = rw (← c.letters.ensures.value) at c.letters.ensures.limit in
    (omega (arith, c.loop-k.invariant.0), omega arith)
