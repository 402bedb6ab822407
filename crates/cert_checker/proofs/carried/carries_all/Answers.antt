use Rattle.std.proofs.Common.{◌∙◌, ℤ, List, [], length, refl, sym, subst}
use Rattle.std.proofs.lemmas.List.{get_or_read, take_all}
use Rattle.std.proofs.lemmas.List.Elements.{All-more}
use Rattle.std.specs.List.{All}
use Rattle.pq_base.specs.SignedWord.{HasLetters}
use Rattle.pq_base.proofs.words.LetterLaws.{HasLetters-get_or}
use Rattle.derivation_log.specs.PlainValues.{IsCarriedToIdentity}
use Rattle.cert_checker.proofs.carried.carries_all.Goals as goal

pub carries_one-requires-clause-letters : goal.carries_one-requires-clause-letters
carries_one-requires-clause-letters c =
    let n = length c.args.cover.now.answer.names in
    subst (HasLetters n) (sym (get_or_read c.args.words.now c.loop-word.word-index c.word-item.result c.loop-word-test.true
    c.word-item.is []))
    (HasLetters-get_or n c.args.words.now c.loop-word.word-index c.requires.letters)

pub loop-word-preserved : goal.loop-word-preserved
loop-word-preserved c =
    let A = c.args.cover.now.answer in (
      c.carries_one.ensures.scratch,
      c.carries_one.ensures.prime ∙ c.loop-word.invariant.1,
      c.carries_one.ensures.width ∙ c.loop-word.invariant.2,
      All-more (IsCarriedToIdentity A) c.args.words.now c.loop-word.word-index [] c.loop-word-test.true c.loop-word.invariant.3
          (subst (IsCarriedToIdentity A)
          (get_or_read c.args.words.now c.loop-word.word-index c.word-item.result c.loop-word-test.true c.word-item.is [])
          (c.carries_one.ensures.carried.0 c.if-not-carries_one.false)),
    )

pub returns : goal.returns
returns c =
    let A = c.args.cover.now.answer in (
      λ h. subst (λ (ws : List (List ℤ)). All (IsCarriedToIdentity A) ws)
          (take_all c.loop-word.word-index c.args.words.now c.loop-word-test.false) c.loop-word.invariant.3,
      λ h. refl,
    )
