use Rattle.std.proofs.Common.{◌≡◌, ◌≤◌, [], ◌∷◌, List, ℤ, length, ap, subst, ◌∙◌}
use Rattle.std.proofs.lemmas.Result.{err_from_is_err_and}
use Rattle.pq_base.specs.SignedWord.{sub}
use Rattle.pq_base.specs.LPresentation.{endo_at}
use Rattle.pq_base.proofs.words.LetterLaws.{HasLetters-sub}
use Rattle.lpres_reader.specs.Words.{letter_limit}
use Rattle.lpres_reader.proofs.items.EndoPlaces.{AreEndoNumbers-append_left, AreEndoNumbers-append_right}
use Rattle.lpres_reader.proofs.items.Suffixes.{along_more, along_refused}
use Rattle.lpres_reader.proofs.word_along.along.Goals as goal

pub endo-requires : goal.endo-requires
endo-requires c =
    let numbers = rw c.in-Some.ensures.cases.0 at c.loop-number.invariant.numbers in
    AreEndoNumbers-append_right (length c.args.pres.now.endos) c.in-Some.before.now (c.in-Some.number.now ∷ []) numbers

pub returns-in_err-image-2 : goal.returns-in_err-image-2
returns-in_err-image-2 c =
    let p = err_from_is_err_and c.from_residual-in_err-image-2.result c.from_residual-in_err-image-2.ensures.1 in
    let refused = rw c.endo.ensures.images at c.in_err-image-2.ensures in
    rw (
      p.1,
      p.2,
    ) (along_refused c.args.pres.now.endos c.args.s.now c.args.w.now c.loop-number.rest.now c.in-Some.before.now c.in-Some.number.now
    c.loop-number.image
    c.loop-number.invariant.so_far c.in-Some.ensures.cases.0 _ refused)

pub loop-number-preserved : goal.loop-number-preserved
loop-number-preserved c =
    let endos = c.args.pres.now.endos in
    let last = c.in-Some.ensures.cases.0 in
    let numbers = rw last at c.loop-number.invariant.numbers in
    let next : c.in_ok-image-2.image ≡ sub c.loop-number.image (endo_at endos c.in-Some.number.now) =
    c.in_ok-image-2.ensures.0 ∙ ap (sub c.loop-number.image) c.endo.ensures.images in
    let small : length (sub c.loop-number.image (endo_at endos c.in-Some.number.now)) ≤ letter_limit =
    subst (λ (f : List (List ℤ)). length (sub c.loop-number.image f) ≤ letter_limit) c.endo.ensures.images c.in_ok-image-2.ensures.1 in
    record {
      so_far =
          rw next (along_more endos c.args.s.now c.args.w.now c.loop-number.rest.now c.in-Some.before.now c.in-Some.number.now
          c.loop-number.image c.loop-number.invariant.so_far last small);
      numbers = AreEndoNumbers-append_left (length endos) c.in-Some.before.now (c.in-Some.number.now ∷ []) numbers;
      letters =
          rw c.in_ok-image-2.ensures.0
          (HasLetters-sub (length c.args.pres.now.names) c.loop-number.image c.endo.result.now c.endo.ensures.words);
    }
