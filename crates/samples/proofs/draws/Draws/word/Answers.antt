-- The letters that are drawn are the word.
use Rattle.std.proofs.Common.{◌≡◌, ◌∷◌, [], ◌++◌, suc, ℤ, ℕ, List, FitsSigned, w32, ap, sym, subst, ◌∙◌, rules, arith}
use Rattle.std.proofs.lemmas.Int.{to_z-of_z}
use Rattle.std.proofs.lemmas.Result.{IfOk-weaker}
use Rattle.pq_base.proofs.words.LetterLaws.{HasLetters-weaken}
use Rattle.samples.specs.Samples.{number_after, drawn_word}
use Rattle.samples.proofs.DrawnWords.{number_after-zero, number_after-suc, HasLetters-drawn_word, length-drawn_word, word_more, word_whole}
use Rattle.samples.proofs.draws.Draws.word.Goals as goal

pub loop-preserved : goal.loop-preserved
loop-preserved c k left =
    let before = c.loop.invariant (suc k) (omega arith) in
    let fits : FitsSigned w32 c.letter.result = search rules in
    let items : c.push.new.self.items ≡ c.loop.letters.items ++ c.letter.result ∷ [] =
    c.in_ok-push.ensures.items ∙ ap (λ (x : ℤ). c.loop.letters.items ++ x ∷ []) (to_z-of_z w32 c.letter.result fits) in (
      subst (λ (ks : List ℤ). ks ++ drawn_word k c.letter.new.self ≡ drawn_word 200 c.args.self.now) (sym items)
          (word_more c.loop.letters.items (drawn_word 200 c.args.self.now) k c.loop.self c.letter.new.self c.letter.result
          c.letter.ensures.number
          c.letter.ensures.letter before.0),
      ap (λ (s : ℕ). number_after k s) c.letter.ensures.number ∙ sym (number_after-suc k c.loop.self) ∙ before.1,
    )

pub word_of-requires-clause-letters : goal.word_of-requires-clause-letters
word_of-requires-clause-letters c =
    let whole = word_whole c.loop.letters.items c.loop.self 200 c.args.self.now (c.loop.invariant 0 (omega arith)).0 in
    rw (c.deref.ensures.value, whole)
    (HasLetters-weaken 2 2147483647 (drawn_word 200 c.args.self.now) (omega arith) (HasLetters-drawn_word 200 c.args.self.now))

pub word_of-requires-clause-few : goal.word_of-requires-clause-few
word_of-requires-clause-few c =
    let whole = word_whole c.loop.letters.items c.loop.self 200 c.args.self.now (c.loop.invariant 0 (omega arith)).0 in
    rw (c.deref.ensures.value, whole) (omega (arith, length-drawn_word 200 c.args.self.now))

pub returns-clause-word : goal.returns-clause-word
returns-clause-word c =
    let whole = word_whole c.loop.letters.items c.loop.self 200 c.args.self.now (c.loop.invariant 0 (omega arith)).0 in
    IfOk-weaker c.word_of.result (λ w. w ≡ c.deref.result.now) (λ w. w ≡ drawn_word 200 c.args.self.now)
    (λ w same. same ∙ c.deref.ensures.value ∙ whole) c.word_of.ensures

pub returns-clause-number : goal.returns-clause-number
returns-clause-number c =
    let last = (c.loop.invariant 0 (omega arith)).1 in
    IfOk-weaker c.word_of.result (λ w. w ≡ c.deref.result.now) (λ w. c.loop.self ≡ number_after 200 c.args.self.now)
    (λ w same. sym (number_after-zero c.loop.self) ∙ last) c.word_of.ensures
