use Rattle.std.proofs.Common.{pos, get_or, FitsSigned, w32, rules, arith}
use Rattle.std.proofs.lemmas.Int.{to_z-of_z}
use Rattle.free_words.specs.Letters.{IsWord}
use Rattle.free_words.specs.Reduced.{TakesLetter}
use Rattle.free_words.specs.Reduced.ReducesTo.{same}
use Rattle.pq_base.proofs.words.LetterLaws.{IsLetter-get_or}
use Rattle.free_words.proofs.Reductions.{IsReducing-takes}
use Rattle.free_words.proofs.reduction.reduce_free.Goals as goal

pub loop-k-init : goal.loop-k-init
loop-k-init c =
    let w : IsWord c.letters-word.result.now =
    rw c.letters-word.ensures.value (record { letters = c.letters-word.ensures.letters; limit = c.letters-word.ensures.limit }) in
    rw c.in_ok-letters.ensures.items (w, record { reduced = tt; reached = same; letters = tt; count = omega arith })

pub take_letter-requires : goal.take_letter-requires
take_letter-requires c =
    let f : FitsSigned w32 (get_or c.letters-word.result.now c.loop-k.k-index (pos 0)) = search rules in
    rw (to_z-of_z w32 (get_or c.letters-word.result.now c.loop-k.k-index (pos 0)) f)
    (IsLetter-get_or 2147483647 c.letters-word.result.now c.loop-k.k-index (pos 0) c.loop-k.invariant.0.letters c.loop-k-test.true)

pub loop-k-preserved : goal.loop-k-preserved
loop-k-preserved c =
    let f : FitsSigned w32 (get_or c.letters-word.result.now c.loop-k.k-index (pos 0)) = search rules in
    let t : TakesLetter c.loop-k.letters.items (get_or c.letters-word.result.now c.loop-k.k-index (pos 0)) c.take_letter.new.letters.items =
    rw (to_z-of_z w32 (get_or c.letters-word.result.now c.loop-k.k-index (pos 0)) f) at c.in_ok-take_letter.ensures in (
      c.loop-k.invariant.0,
      IsReducing-takes c.letters-word.result.now c.loop-k.letters.items c.loop-k.k-index c.take_letter.new.letters.items
          c.loop-k.invariant.0.letters c.loop-k-test.true c.loop-k.invariant.1 t,
    )
