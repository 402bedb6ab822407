use Rattle.std.proofs.Common.{◌+◌, [], ◌∷◌, FitsSigned, w32, rules}
use Rattle.std.proofs.lemmas.Int.{to_z-of_z}
use Rattle.pq_base.proofs.words.LetterLaws.{HasLetters-append, HasLetters-conj, HasLetters-comm}
use Rattle.free_words.specs.Letters.{AreLetters}
use Rattle.lpres_reader.specs.Recipes.{without_last}
use Rattle.lpres_reader.proofs.recipes.WritingLaws.{HasLetters-take, HasLetters-drop, HasLetters-last, HasLetters-without_last}
use Rattle.lpres_reader.proofs.recipes.WritingLaws.{HasLetters-power_of, letters_behind}
use Rattle.lpres_reader.proofs.writing.take_step.Goals as goal

pub push_power-requires : goal.push_power-requires
push_power-requires c =
    rw (c.deref.ensures.value, c.in_ok-word-in-Raise.ensures.taken)
    (HasLetters-last 2147483647 c.in-Raise.letters c.args.out.now.items c.requires)

pub push_conjugate-requires : goal.push_conjugate-requires
push_conjugate-requires c =
    rw (c.cut_in_two.ensures.first, c.deref-in-Conjugate.ensures.value, c.in_ok-end-in-Conjugate.ensures.taken)
    (HasLetters-take 2147483647 c.in-Conjugate.by _
    (HasLetters-last 2147483647 (c.in-Conjugate.by + c.in-Conjugate.base) c.args.out.now.items c.requires))

pub push_commutator-requires-clause-left : goal.push_commutator-requires-clause-left
push_commutator-requires-clause-left c =
    rw (c.cut_in_two-in-Commute.ensures.first, c.deref-in-Commute.ensures.value, c.in_ok-end-in-Commute.ensures.taken)
    (HasLetters-take 2147483647 c.in-Commute.first _
    (HasLetters-last 2147483647 (c.in-Commute.first + c.in-Commute.second) c.args.out.now.items c.requires))

pub push_commutator-requires-clause-right : goal.push_commutator-requires-clause-right
push_commutator-requires-clause-right c =
    rw (c.cut_in_two-in-Commute.ensures.second, c.deref-in-Commute.ensures.value, c.in_ok-end-in-Commute.ensures.taken)
    (HasLetters-drop 2147483647 c.in-Commute.first _
    (HasLetters-last 2147483647 (c.in-Commute.first + c.in-Commute.second) c.args.out.now.items c.requires))

pub returns-in_ok-push-in-Generator-clause-letters : goal.returns-in_ok-push-in-Generator-clause-letters
returns-in_ok-push-in-Generator-clause-letters c =
    let f : FitsSigned w32 c.letter_at.result = search rules in
    rw (c.in_ok-push-in-Generator.ensures.items, to_z-of_z w32 c.letter_at.result f)
    (HasLetters-append 2147483647 c.args.out.now.items (c.letter_at.result ∷ []) c.requires (c.letter_at.ensures.fits, tt))

pub returns-in_ok-word-in-Raise-clause-letters : goal.returns-in_ok-word-in-Raise-clause-letters
returns-in_ok-word-in-Raise-clause-letters c =
    let n = c.in-Raise.letters in
    let out = c.args.out.now.items in
    let word : AreLetters c.deref.result.now =
    rw (c.deref.ensures.value, c.in_ok-word-in-Raise.ensures.taken) (HasLetters-last 2147483647 n out c.requires) in
    letters_behind c.push_power.result 2147483647 _ _ (without_last n out) _ c.in_ok-word-in-Raise.ensures.left
    (HasLetters-without_last 2147483647 n out c.requires)
    (HasLetters-power_of 2147483647 c.in-Raise.inverted c.deref.result.now c.in-Raise.times word) c.push_power.ensures

pub returns-in_ok-end-in-Conjugate-clause-letters : goal.returns-in_ok-end-in-Conjugate-clause-letters
returns-in_ok-end-in-Conjugate-clause-letters c =
    let n = c.in-Conjugate.by + c.in-Conjugate.base in
    let out = c.args.out.now.items in
    let end : AreLetters c.deref-in-Conjugate.result.now =
    rw (c.deref-in-Conjugate.ensures.value, c.in_ok-end-in-Conjugate.ensures.taken) (HasLetters-last 2147483647 n out c.requires) in
    let outer : AreLetters c.cut_in_two.result.0.now = rw c.cut_in_two.ensures.first (HasLetters-take 2147483647 c.in-Conjugate.by _ end) in
    let middle : AreLetters c.cut_in_two.result.1.now =
    rw c.cut_in_two.ensures.second (HasLetters-drop 2147483647 c.in-Conjugate.by _ end) in
    letters_behind c.push_conjugate.result 2147483647 _ _ (without_last n out) _ c.in_ok-end-in-Conjugate.ensures.left
    (HasLetters-without_last 2147483647 n out c.requires)
    (HasLetters-conj 2147483647 c.cut_in_two.result.1.now c.cut_in_two.result.0.now middle outer) c.push_conjugate.ensures

pub returns-in_ok-end-in-Commute-clause-letters : goal.returns-in_ok-end-in-Commute-clause-letters
returns-in_ok-end-in-Commute-clause-letters c =
    let n = c.in-Commute.first + c.in-Commute.second in
    let out = c.args.out.now.items in
    let end : AreLetters c.deref-in-Commute.result.now =
    rw (c.deref-in-Commute.ensures.value, c.in_ok-end-in-Commute.ensures.taken) (HasLetters-last 2147483647 n out c.requires) in
    let left : AreLetters c.cut_in_two-in-Commute.result.0.now =
    rw c.cut_in_two-in-Commute.ensures.first (HasLetters-take 2147483647 c.in-Commute.first _ end) in
    let right : AreLetters c.cut_in_two-in-Commute.result.1.now =
    rw c.cut_in_two-in-Commute.ensures.second (HasLetters-drop 2147483647 c.in-Commute.first _ end) in
    letters_behind c.push_commutator.result 2147483647 _ _ (without_last n out) _ c.in_ok-end-in-Commute.ensures.left
    (HasLetters-without_last 2147483647 n out c.requires)
    (HasLetters-comm 2147483647 c.cut_in_two-in-Commute.result.0.now c.cut_in_two-in-Commute.result.1.now left right)
    c.push_commutator.ensures
