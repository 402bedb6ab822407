-- The exchange keeps letters.
use Rattle.std.proofs.Common.{◌≡◌, ℤ, List, length, map, take, ap, sym, subst, ◌∙◌, arith}
use Rattle.std.proofs.lemmas.List.{take_all}
use Rattle.free_words.specs.Letters.{AreLetters}
use Rattle.samples.specs.Samples.{exchanged}
use Rattle.samples.proofs.Parts.{HasLetters-exchanged}
use Rattle.samples.proofs.words.exchanged_word.Goals as goal

pub word_of-requires-clause-letters : goal.word_of-requires-clause-letters
word_of-requires-clause-letters c =
    let word = c.args.word.now in
    let long = ap (λ (w : List ℤ). length w) c.letters-k-items.ensures.value in
    let all : take c.loop-k.k-index word ≡ word = take_all c.loop-k.k-index word (omega (arith, c.loop-k-test.false)) in
    subst AreLetters (sym (c.deref.ensures.value ∙ c.loop-k.invariant ∙ ap (λ (w : List ℤ). map exchanged w) all))
    (HasLetters-exchanged 2147483647 word (omega arith) c.letters-k-items.ensures.letters)
