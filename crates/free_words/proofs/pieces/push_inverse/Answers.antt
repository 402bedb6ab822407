use Rattle.std.proofs.Common.{◌≡◌, ℤ, neg_ℤ, [], ◌∷◌, ◌++◌, FitsSigned, w32, ap, ◌∙◌, rules}
use Rattle.std.proofs.lemmas.Int.{to_z-of_z}
use Rattle.pq_base.proofs.words.LetterLaws.{HasLetters-append_left, HasLetters-append_right}
use Rattle.free_words.specs.Letters.{AreLetters}
use Rattle.free_words.proofs.LastLetters.{append-inv_last}
use Rattle.free_words.proofs.pieces.push_inverse.Goals as goal

pub inverted-requires : goal.inverted-requires
inverted-requires c =
    let s : c.loop-k.rest.now ≡ c.in-Some.before.now ++ c.in-Some.k.now ∷ [] = c.in-Some.ensures.cases.0 in
    let l : AreLetters (c.in-Some.before.now ++ c.in-Some.k.now ∷ []) = rw s at c.loop-k.invariant.1 in
    let f : FitsSigned w32 c.in-Some.k.now = search rules in
    rw (to_z-of_z w32 c.in-Some.k.now f) ((HasLetters-append_right 2147483647 c.in-Some.before.now (c.in-Some.k.now ∷ []) l).0)

pub loop-k-preserved : goal.loop-k-preserved
loop-k-preserved c =
    let s : c.loop-k.rest.now ≡ c.in-Some.before.now ++ c.in-Some.k.now ∷ [] = c.in-Some.ensures.cases.0 in
    let l : AreLetters (c.in-Some.before.now ++ c.in-Some.k.now ∷ []) = rw s at c.loop-k.invariant.1 in
    let f : FitsSigned w32 c.in-Some.k.now = search rules in
    let r : FitsSigned w32 c.inverted.result = search rules in
    let e : c.push.new.self.items ≡ c.loop-k.out.items ++ neg_ℤ c.in-Some.k.now ∷ [] =
    c.in_ok-push.ensures.items ∙ ap (λ (m : ℤ). c.loop-k.out.items ++ m ∷ [])
    (to_z-of_z w32 c.inverted.result r ∙ c.inverted.ensures ∙ ap neg_ℤ (to_z-of_z w32 c.in-Some.k.now f)) in (
      append-inv_last c.loop-k.out.items c.push.new.self.items c.loop-k.rest.now c.in-Some.before.now c.in-Some.k.now s e
          ∙ c.loop-k.invariant.0,
      HasLetters-append_left 2147483647 c.in-Some.before.now (c.in-Some.k.now ∷ []) l,
    )
