use Rattle.std.proofs.Common.{◌≡◌, ◌++◌, ◌<◌, List, ℤ, pos, get_or, take, length, FitsSigned, w32, ap, ◌∙◌, sym, rules, arith}
use Rattle.std.proofs.lemmas.Int.{to_z-of_z}
use Rattle.std.proofs.lemmas.List.{take_all}
use Rattle.pq_base.specs.SignedWord.{sub, image_of}
use Rattle.pq_base.proofs.words.LetterLaws.{HasLetters-append}
use Rattle.pq_base.proofs.words.LetterLaws.{IsLetter-get_or}
use Rattle.free_words.proofs.Substitutions.{sub-take_more}
use Rattle.free_words.proofs.substitution.substitute.Goals as goal

pub push_image-requires : goal.push_image-requires
push_image-requires c =
    let f : FitsSigned w32 (get_or c.letters-word.result.now c.loop-k.k-index (pos 0)) = search rules in
    let b : c.loop-k.k-index < length c.args.w.now = rw c.letters-word.ensures.value at c.loop-k-test.true in
    rw (to_z-of_z w32 (get_or c.letters-word.result.now c.loop-k.k-index (pos 0)) f, c.letters-word.ensures.value)
    (IsLetter-get_or (length c.args.images.now) c.args.w.now c.loop-k.k-index (pos 0) c.requires b)

pub loop-k-preserved : goal.loop-k-preserved
loop-k-preserved c =
    let f : FitsSigned w32 (get_or c.letters-word.result.now c.loop-k.k-index (pos 0)) = search rules in
    let e : c.push_image.new.out.items
    ≡ c.loop-k.letters.items ++ image_of c.args.images.now (get_or c.letters-word.result.now c.loop-k.k-index (pos 0)) =
    rw (to_z-of_z w32 (get_or c.letters-word.result.now c.loop-k.k-index (pos 0)) f) at c.in_ok-push_image.ensures.image in
    let i = rw (to_z-of_z w32 (get_or c.letters-word.result.now c.loop-k.k-index (pos 0)) f) at c.in_ok-push_image.ensures.letters in (
      rw (e, c.loop-k.invariant.0) (sym (sub-take_more c.letters-word.result.now c.args.images.now c.loop-k.k-index c.loop-k-test.true)),
      rw e (HasLetters-append 2147483647 c.loop-k.letters.items
          (image_of c.args.images.now (get_or c.letters-word.result.now c.loop-k.k-index (pos 0))) c.loop-k.invariant.1 i),
    )

pub from_vec-requires : goal.from_vec-requires
from_vec-requires c =
    let t : take c.loop-k.k-index c.letters-word.result.now ≡ c.letters-word.result.now =
    take_all c.loop-k.k-index c.letters-word.result.now (grind arith) in
    let e : c.loop-k.letters.items ≡ sub c.letters-word.result.now c.args.images.now =
    c.loop-k.invariant.0 ∙ ap (λ (v : List ℤ). sub v c.args.images.now) t in
    record { letters = c.loop-k.invariant.1; limit = rw (e, ← c.substituted_len.ensures) c.in_ok-letters.ensures.1 }
