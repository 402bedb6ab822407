-- The parts are those of the sample.
use Rattle.std.proofs.Common.{◌≡◌, ◌∷◌, [], ◌++◌, ℤ, List, Vec, Global, ap, sym, subst, ◌∙◌, arith}
use Rattle.lpres_reader.specs.Parts.{IsPresentationWithinLimits}
use Rattle.samples.specs.Samples.{exchange}
use Rattle.samples.specs.Pieces.{AreDrawn}
use Rattle.samples.proofs.DrawnWords.{drawn_words_are_drawn}
use Rattle.samples.proofs.Samples.{sample_within_limits, made_fixed, made_iterated}
use Rattle.samples.proofs.presentation.sample.Goals as goal

pub relators-requires : goal.relators-requires
relators-requires c = subst AreDrawn (sym (c.deref.ensures.value ∙ c.in_ok-words.ensures)) (drawn_words_are_drawn c.args.n)

pub made-requires : goal.made-requires
made-requires c =
    let made =
    made_fixed c.args.n _ _ _ _ _ c.if-n-eq0.true c.in_ok-names.ensures
    (c.deref.ensures.value ∙ c.in_ok-words.ensures) c.in_ok-relators.ensures
    c.new.ensures.items c.new-then-n-eq0.ensures.items in
    subst IsPresentationWithinLimits (sym made) (sample_within_limits c.args.n)

pub returns-then-n-eq0 : goal.returns-then-n-eq0
returns-then-n-eq0 c =
    c.made.ensures
    ∙ made_fixed c.args.n _ _ _ _ _ c.if-n-eq0.true c.in_ok-names.ensures
    (c.deref.ensures.value ∙ c.in_ok-words.ensures) c.in_ok-relators.ensures
    c.new.ensures.items c.new-then-n-eq0.ensures.items

pub exchange-requires : goal.exchange-requires
exchange-requires c = subst AreDrawn (sym (c.deref-2.ensures.value ∙ c.in_ok-words.ensures)) (drawn_words_are_drawn c.args.n)

pub made-requires-2 : goal.made-requires-2
made-requires-2 c =
    let one : c.push.new.self.items ≡ c.in_ok-exchange.field-0 ∷ [] =
    c.in_ok-push.ensures.items ∙ ap (λ (fs : List (Vec (List ℤ) Global)). fs ++ c.in_ok-exchange.field-0 ∷ []) c.new-endos.ensures.items in
    let images = c.in_ok-exchange.ensures ∙ ap exchange (c.deref-2.ensures.value ∙ sym c.deref.ensures.value) in
    let made =
    made_iterated c.args.n _ c.deref.result.now _ _ _ c.in_ok-exchange.field-0 (omega (arith, c.if-n-eq0.false)) c.in_ok-names.ensures
    (c.deref.ensures.value ∙ c.in_ok-words.ensures) c.new-2.ensures.items c.in_ok-relators.ensures one images in
    subst IsPresentationWithinLimits (sym made) (sample_within_limits c.args.n)

pub returns : goal.returns
returns c =
    let one : c.push.new.self.items ≡ c.in_ok-exchange.field-0 ∷ [] =
    c.in_ok-push.ensures.items ∙ ap (λ (fs : List (Vec (List ℤ) Global)). fs ++ c.in_ok-exchange.field-0 ∷ []) c.new-endos.ensures.items in
    let images = c.in_ok-exchange.ensures ∙ ap exchange (c.deref-2.ensures.value ∙ sym c.deref.ensures.value) in
    c.made-2.ensures
    ∙ made_iterated c.args.n _ c.deref.result.now _ _ _ c.in_ok-exchange.field-0 (omega (arith, c.if-n-eq0.false)) c.in_ok-names.ensures
    (c.deref.ensures.value ∙ c.in_ok-words.ensures) c.new-2.ensures.items c.in_ok-relators.ensures one images
