-- A generator and the inverse of a word of few letters have few.
use Rattle.std.proofs.Common.{ℤ, List, length, ap, arith}
use Rattle.free_words.proofs.Lengths.{length-inv}
use Rattle.samples.proofs.ShortWords.{short_word}
use Rattle.samples.proofs.words.relator.Goals as goal

pub short-requires : goal.short-requires
short-requires c =
    let one = ap (λ (w : List ℤ). length w) c.in_ok-generator.ensures in
    let rest = ap (λ (w : List ℤ). length w) c.in_ok-inverse.ensures in
    short_word c.product.result c.in_ok-generator.generator c.in_ok-inverse.inverse c.product.ensures
    (omega (arith, one)) (omega (arith, rest, length-inv c.args.word.now, c.requires.few))
