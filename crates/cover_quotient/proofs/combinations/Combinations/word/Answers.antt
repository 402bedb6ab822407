use Rattle.std.proofs.Common.{◌≡◌, ◌<◌, ◌≤◌, ◌-◌, [], List, length, map, sym, ◌∙◌, subst, arith}
use Rattle.std.proofs.lemmas.List.{length-map}
use Rattle.pq_base.specs.Prime.{prime_value}
use Rattle.pc_presentation.specs.declared.syllable.Syllable.{Syllable}
use Rattle.pc_presentation.specs.Syllable.{spread, AreSyllables}
use Rattle.pc_presentation.specs.Parts.{words_of}
use Rattle.pc_presentation.proofs.presentations.PartsLaws.{image_at, words_of-at, length-words_of}
use Rattle.cover_quotient.proofs.combinations.Combinations.word.Goals as goal

pub returns-clause-word : goal.returns-clause-word
returns-clause-word c =
    let k = c.self.inside in
    let words = k.words.items in
    let q = length k.kept.items in
    let low : 1 ≤ c.args.tail = c.requires.first in
    let high : c.args.tail ≤ length (map (spread (length k.kept.items) 0) (words_of k.words.items)) =
    rw (← c.self.view_is) at c.requires.last in
    let spread_count = length-map (words_of k.words.items) (spread (length k.kept.items) 0) in
    let word_count : length (words_of words) ≡ length words = length-words_of words in
    let inside : c.args.tail - 1 < length words = omega arith in
    rw (← c.self.view_is)
    (c.as_slice.ensures.value
    ∙ sym (words_of-at words (c.args.tail - 1) c.index.result.now [] inside c.index.ensures)
    ∙ image_at (prime_value k.prime) q (c.args.tail - 1) (words_of words) c.self.invariant (omega arith))

pub returns-clause-normal : goal.returns-clause-normal
returns-clause-normal c =
    let k = c.self.inside in
    let words = k.words.items in
    let q = length k.kept.items in
    let low : 1 ≤ c.args.tail = c.requires.first in
    let high : c.args.tail ≤ length (map (spread (length k.kept.items) 0) (words_of k.words.items)) =
    rw (← c.self.view_is) at c.requires.last in
    let spread_count = length-map (words_of k.words.items) (spread (length k.kept.items) 0) in
    let word_count : length (words_of words) ≡ length words = length-words_of words in
    let inside : c.args.tail - 1 < length words = omega arith in
    rw (← c.self.view_is)
    (subst (AreSyllables (prime_value k.prime) q 0)
    (words_of-at words (c.args.tail - 1) c.index.result.now [] inside c.index.ensures ∙ sym c.as_slice.ensures.value)
    (c.self.invariant (c.args.tail - 1) [] (omega arith)))
