-- Values in a group of the words of the flat reading of an answer with rows, where the generators are what they spell, the
-- tails are central elements of order p, and what each relation and each image fails by is the value of its row. Then every
-- relator has value one, and the images have the values given.
use Rattle.std.proofs.Common.{◌≡◌, ℕ, zero, suc, ◌+◌, ◌-◌, ◌<◌, ℤ, pos, List, [], ◌∷◌, ◌++◌, get_or, length, map, ap, sym, ◌∙◌, subst}
use Rattle.std.proofs.Common.{arith, inl, inr}
use Rattle.std.proofs.lemmas.Bool.{cases_lt}
use Rattle.std.proofs.lemmas.List.{length-map, get_or_append_left, get_or-append-add}
use Rattle.std.proofs.Math.ListN.{get_or-map}
use Rattle.pq_base.specs.SignedWord.{inv, copies, comm, sub, HasLetters}
use Rattle.pq_base.specs.Presentation.{IsNormal, IsRelatorOf, letter, normal_word, power_word, commutator_word}
use Rattle.pq_base.specs.Presentation.IsRelatorOf.{power_relator, commutator_relator}
use Rattle.pq_base.specs.Answer.{Answer, Definition, IsAnswer, AreNormal, image_words}
use Rattle.pq_base.specs.Answer.Definition.{image, commutator, power}
use Rattle.pq_base.proofs.words.LetterLaws.{HasLetters-letter, HasLetters-copies, HasLetters-comm, HasLetters-normal_word}
use Rattle.pq_base.proofs.words.LetterLaws.{HasLetters-power_word, HasLetters-commutator_word}
use Rattle.pq_base.proofs.groups.Groups.{Group, value_in, power_in, same_from_equal, times-same_left, times_in-inverse-times, power_in-same}
use Rattle.pq_base.proofs.groups.Groups.{commutator_in-same, value_in-append, value_in-letter, value_in-inv, value_in-copies, value_in-comm}
use Rattle.pq_base.proofs.groups.Groups.{value_in-sub, value_in-same}
use Rattle.pq_base.proofs.groups.GroupCommute.{Commute, commutator_in-commute}
use Rattle.pq_base.proofs.NormalLists.{normal-entry}
use Rattle.pc_presentation.specs.Rowed.{IsRowed, power_row, commutator_row, flat}
use Rattle.pc_presentation.proofs.consistent.GroupRelators.{relator-one}
use Rattle.p_cover.specs.RowedAnswer.{RowedAnswer, rowed, row_at, tails_word}
use Rattle.pq_base.specs.EntryWords.{IsSourceOf, spelling_words, entry_word}
use Rattle.pc_presentation.proofs.rows.FlatWords.{power_word-flat, commutator_word-flat, power_word-tail, commutator_word-tail}
use Rattle.cover_quotient.proofs.fitting.FitsStart.{length-spelling_words}

-- an image is as long as there are generators
pub image_length : (A : Answer) → IsAnswer A → (i : ℕ) → i < length A.images → length (get_or A.images i []) ≡ A.presentation.rank
image_length A is i l = (normal-entry A.presentation.prime A.presentation.rank A.images i is.images l).count

pub image_word-letters : (A : Answer) → IsAnswer A → (i : ℕ) → i < length A.images
    → HasLetters A.presentation.rank (get_or (image_words A) i [])
image_word-letters A is i l =
    let c = image_length A is i l in
    subst (λ (w : List ℤ). HasLetters A.presentation.rank w) (sym (get_or-map normal_word A.images i []))
    (HasLetters-normal_word A.presentation.rank (get_or A.images i []) (omega arith))

module _ (G : Group) (f : List G.carrier) where
  -- what the generators of an answer spell
  abbrev pub spelled_in : Answer → List G.carrier
  spelled_in A = map (λ (w : List ℤ). value_in G f w) (spelling_words A)

  pub length-spelled_in : (A : Answer) → IsAnswer A → length (spelled_in A) ≡ A.presentation.rank
  length-spelled_in A is = length-map (spelling_words A) (λ (w : List ℤ). value_in G f w) ∙ length-spelling_words A is

  -- the value of the quotient of a word by another in spelled generators
  pub quotient-value : (A : Answer) (w u : List ℤ)
      → G.same (value_in G f (inv (sub w (spelling_words A)) ++ u)) (G.times (G.inverse (value_in G (spelled_in A) w)) (value_in G f u))
  quotient-value A w u =
      G.transitive (value_in-append G f (inv (sub w (spelling_words A))) u)
      (G.times-same
      (G.transitive (value_in-inv G f (sub w (spelling_words A))) (G.inverse-same (value_in-sub G f w (spelling_words A))))
      (G.reflexive (value_in G f u)))

  module _ (A : Answer) (is : IsAnswer A) (tails : List G.carrier) where
    -- the generators and the tails
    abbrev pub with_tails : List G.carrier
    with_tails = spelled_in A ++ tails

    pub value_in-with_tails : (w : List ℤ) → HasLetters A.presentation.rank w
        → G.same (value_in G with_tails w) (value_in G (spelled_in A) w)
    value_in-with_tails w h =
        let c = length-spelled_in A is in
        value_in-same G A.presentation.rank (spelled_in A ++ tails) (spelled_in A)
        (λ i l. same_from_equal G (get_or_append_left (spelled_in A) tails G.one i (omega arith))) w h

    pub get_or-tail : (t : ℕ) → get_or (spelled_in A ++ tails) (A.presentation.rank + t) G.one ≡ get_or tails t G.one
    get_or-tail t =
        ap (λ (n : ℕ). get_or (spelled_in A ++ tails) (n + t) G.one) (sym (length-spelled_in A is))
        ∙ get_or-append-add (spelled_in A) tails t G.one

    pub value_in-tail : (t : ℕ) → G.same (value_in G with_tails (letter (A.presentation.rank + t))) (get_or tails t G.one)
    value_in-tail t =
        G.transitive (value_in-letter G (spelled_in A ++ tails) (pos (suc (A.presentation.rank + t)))) (same_from_equal G (get_or-tail t))

    -- a right side w and the value v of the left side, which differ by the value of z
    side-value : (w z : List ℤ) (v : G.carrier) → HasLetters A.presentation.rank w
        → G.same (G.times (G.inverse (value_in G (spelled_in A) w)) v) (value_in G with_tails z)
        → G.same (value_in G with_tails (w ++ z)) v
    side-value w z v h e =
        G.transitive (value_in-append G with_tails w z)
        (G.transitive (G.times-same (value_in-with_tails w h) (G.symmetric e))
        (times_in-inverse-times G (value_in G (spelled_in A) w) v))

-- for an answer with rows
module _ (G : Group) (f : List G.carrier) (Y : RowedAnswer) (is : IsAnswer Y.answer) (rows : IsRowed (rowed Y)) (tails : List G.carrier)
    (entries : (d : Definition) → IsSourceOf Y.answer d
    → G.same (value_in G f (entry_word Y.answer d)) (value_in G (with_tails G f Y.answer is tails) (tails_word Y (row_at Y d)))) where
  abbrev n : ℕ
  n = Y.answer.presentation.rank

  abbrev h : List G.carrier
  h = with_tails G f Y.answer is tails

  -- where the left side is a word of generators
  relation-value : (w u : List ℤ) (x : List ℕ) → HasLetters n w → HasLetters n u
      → G.same (value_in G f (inv (sub w (spelling_words Y.answer)) ++ sub u (spelling_words Y.answer))) (value_in G h (tails_word Y x))
      → G.same (value_in G h u) (value_in G h (w ++ tails_word Y x))
  relation-value w u x lw lu e =
      let v : G.carrier = value_in G (spelled_in G f Y.answer) u in
      let left : G.same (value_in G f (inv (sub w (spelling_words Y.answer)) ++ sub u (spelling_words Y.answer)))
      (G.times (G.inverse (value_in G (spelled_in G f Y.answer) w)) (value_in G (spelled_in G f Y.answer) u)) =
      G.transitive (quotient-value G f Y.answer w (sub u (spelling_words Y.answer)))
      (times-same_left G (G.inverse (value_in G (spelled_in G f Y.answer) w)) (value_in-sub G f u (spelling_words Y.answer))) in
      G.transitive (value_in-with_tails G f Y.answer is tails u lu)
      (G.symmetric (side-value G f Y.answer is tails w (tails_word Y x) v lw (G.transitive (G.symmetric left) e)))

  -- the images
  pub images-value : (i : ℕ) → i < length Y.answer.images
      → G.same (value_in G (with_tails G f Y.answer is tails)
      (get_or (image_words Y.answer) i [] ++ tails_word Y (get_or Y.image_rows i [])))
      (get_or f i G.one)
  images-value i l =
      let w : List ℤ = get_or (image_words Y.answer) i [] in
      let left : G.same (value_in G f (entry_word Y.answer (image (suc i))))
      (G.times (G.inverse (value_in G (spelled_in G f Y.answer) (get_or (image_words Y.answer) i []))) (get_or f i G.one)) =
      G.transitive (quotient-value G f Y.answer w (pos (suc i) ∷ []))
      (times-same_left G (G.inverse (value_in G (spelled_in G f Y.answer) w)) (value_in-letter G f (pos (suc i)))) in
      side-value G f Y.answer is tails w (tails_word Y (get_or Y.image_rows i [])) (get_or f i G.one) (image_word-letters Y.answer is i l)
      (G.transitive (G.symmetric left) (entries (image (suc i)) l))

  -- the relators, where tails are central and have order p
  module _ (central : (t : ℕ) (x : G.carrier) → Commute G (get_or tails t G.one) x)
      (order : (t : ℕ) → G.same (power_in G (get_or tails t G.one) Y.answer.presentation.prime) G.one) where
    power-one : (i : ℕ) → i < n + Y.width
        → G.same (value_in G h (copies (letter i) Y.answer.presentation.prime)) (value_in G h (power_word (flat (rowed Y)) i))
    power-one i l = elim (cases_lt i n) [
      | inl before ↦
          subst (λ (w : List ℤ). G.same (value_in G h (copies (letter i) Y.answer.presentation.prime)) (value_in G h w))
          (sym (power_word-flat (rowed Y) rows i before))
          (relation-value (power_word Y.answer.presentation i) (copies (letter i) Y.answer.presentation.prime) (power_row (rowed Y) i)
          (HasLetters-power_word Y.answer.presentation is.presentation i before)
          (HasLetters-copies n (letter i) Y.answer.presentation.prime (HasLetters-letter n i before))
          (entries (power (suc i)) before))
      | inr after ↦
          let t : ℕ = i - n in
          let place : n + t ≡ i = omega arith in
          subst (λ (j : ℕ). G.same (value_in G h (copies (letter j) Y.answer.presentation.prime))
          (value_in G h (power_word (flat (rowed Y)) j))) place
          (subst (λ (w : List ℤ). G.same (value_in G h (copies (letter (n + t)) Y.answer.presentation.prime)) (value_in G h w))
          (sym (power_word-tail (rowed Y) rows t (omega arith)))
          (G.transitive (value_in-copies G h (letter (n + t)) Y.answer.presentation.prime)
          (G.transitive (power_in-same G Y.answer.presentation.prime (value_in-tail G f Y.answer is tails t)) (order t))))
    ]

    commutator-one : (j i : ℕ) → j < n + Y.width → i < j
        → G.same (value_in G h (comm (letter j) (letter i))) (value_in G h (commutator_word (flat (rowed Y)) j i))
    commutator-one j i l m = elim (cases_lt j n) [
      | inl before ↦
          subst (λ (w : List ℤ). G.same (value_in G h (comm (letter j) (letter i))) (value_in G h w))
          (sym (commutator_word-flat (rowed Y) rows j i before m))
          (relation-value (commutator_word Y.answer.presentation j i) (comm (letter j) (letter i)) (commutator_row (rowed Y) j i)
          (HasLetters-commutator_word Y.answer.presentation is.presentation j i before m)
          (HasLetters-comm n (letter j) (letter i) (HasLetters-letter n j before) (HasLetters-letter n i (omega arith)))
          (entries (commutator (suc j) (suc i)) (before, m)))
      | inr after ↦
          let t : ℕ = j - n in
          let place : n + t ≡ j = omega arith in
          subst (λ (k : ℕ). G.same (value_in G h (comm (letter k) (letter i))) (value_in G h (commutator_word (flat (rowed Y)) k i))) place
          (subst (λ (w : List ℤ). G.same (value_in G h (comm (letter (n + t)) (letter i))) (value_in G h w))
          (sym (commutator_word-tail (rowed Y) rows t i (omega arith) (omega arith)))
          (G.transitive (value_in-comm G h (letter (n + t)) (letter i))
          (G.transitive (commutator_in-same G (value_in-tail G f Y.answer is tails t) (G.reflexive (value_in G h (letter i))))
          (commutator_in-commute G (get_or tails t G.one) (value_in G h (letter i)) (central t (value_in G h (letter i)))))))
    ]

    pub relators-value : {r : List ℤ} → IsRelatorOf (flat (rowed Y)) r → G.same (value_in G (with_tails G f Y.answer is tails) r) G.one
    relators-value (power_relator i l) =
        relator-one G h (copies (letter i) Y.answer.presentation.prime) (power_word (flat (rowed Y)) i) (power-one i l)
    relators-value (commutator_relator j i l m) =
        relator-one G h (comm (letter j) (letter i)) (commutator_word (flat (rowed Y)) j i) (commutator-one j i l m)
