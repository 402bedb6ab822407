use Rattle.std.proofs.Common.{◌≡◌, ℕ, [], get_or, sym, ◌∙◌, subst, arith, inl, inr}
use Rattle.std.proofs.lemmas.Bool.{cases_lt, false≢true}
use Rattle.pc_presentation.specs.Syllable.{AreSyllables}
use Rattle.pc_presentation.specs.Parts.{words_of}
use Rattle.pc_presentation.proofs.presentations.PartsLaws.{words_of-at, length-words_of}
use Rattle.pc_presentation.proofs.parts.are_images.Goals as goal

pub returns-then-not-are_syllables : goal.returns-then-not-are_syllables
returns-then-not-are_syllables c =
    let count = length-words_of c.args.images.now in (
      λ e. absurd (false≢true e),
      λ a.
          let place = words_of-at c.args.images.now c.loop-word.word-index c.word-item.result [] (omega arith) c.word-item.is in
          let here : AreSyllables c.args.prime c.args.rank 0 (get_or (words_of c.args.images.now) c.loop-word.word-index []) =
          a c.loop-word.word-index [] (omega arith) in
          let same : get_or (words_of c.args.images.now) c.loop-word.word-index [] ≡ c.deref.result.now =
          place ∙ sym c.deref.ensures.value in
          absurd (false≢true (sym c.if-not-are_syllables.true
          ∙ c.are_syllables.ensures.1 (subst (AreSyllables c.args.prime c.args.rank 0) same here))),
    )

pub loop-word-preserved : goal.loop-word-preserved
loop-word-preserved c k d h =
    elim (cases_lt k c.loop-word.word-index) [
      | inl before ↦ c.loop-word.invariant k d before
      | inr after ↦
          let here : c.loop-word.word-index ≡ k = omega arith in
          let place = words_of-at c.args.images.now c.loop-word.word-index c.word-item.result d (omega arith) c.word-item.is in
          subst (λ (i : ℕ). AreSyllables c.args.prime c.args.rank 0 (get_or (words_of c.args.images.now) i d)) here
          (subst (AreSyllables c.args.prime c.args.rank 0) (c.deref.ensures.value ∙ sym place)
          (c.are_syllables.ensures.0 c.if-not-are_syllables.false))
    ]
