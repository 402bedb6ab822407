-- The relations and images of the next answer: each is that of the answer, followed by its row. So what has the row of zeros
-- stays the same word, and what was empty and has a unit row is the letter of its tail.
use Rattle.std.proofs.Common.{◌≡◌, ℕ, zero, suc, ◌+◌, ◌-◌, ◌<◌, Bool, cond, ne_eqb, ℤ, List, [], ◌∷◌, ◌++◌, get_or, length, map, ap, ap₂}
use Rattle.std.proofs.Common.{sym, ◌∙◌, arith, length-append}
use Rattle.std.proofs.lemmas.List.{append-nil}
use Rattle.std.proofs.Math.ListN.{get_or-map}
use Rattle.pq_base.specs.Elementary.{zeros}
use Rattle.pq_base.specs.Presentation.{IsNormal, letter, word_from, normal_word}
use Rattle.pq_base.specs.Answer.{AreNormal, image_words}
use Rattle.pq_base.proofs.NormalLists.{normal-entry}
use Rattle.pq_base.proofs.words.WordLaws.{word_from-zeros, normal_word-append}
use Rattle.fp_rows.proofs.BelowLaws.{AllBelow-append}
use Rattle.pc_presentation.specs.Rowed.{followed_by}
use Rattle.pc_presentation.specs.Pcp.{unit_row}
use Rattle.pc_presentation.proofs.rows.FlatLaws.{get_or-followed_by}
use Rattle.p_cover.specs.RowedAnswer.{RowedAnswer, IsRowedAnswer}
use Rattle.cover_quotient.proofs.carried_rows.UnitRows.{unit_row-zero}

-- the word of a unit row is the letter of its place
pub word_from-unit_row : (k n t : ℕ) → t < n → word_from k (unit_row n (suc t)) ≡ letter (k + t)
word_from-unit_row k zero t h = absurd (omega arith)
word_from-unit_row k (suc n) zero h =
    let place : k ≡ k + 0 = omega arith in
    ap (λ (x : List ℕ). letter k ++ word_from (suc k) x) (unit_row-zero n)
    ∙ ap (λ (w : List ℤ). letter k ++ w) (word_from-zeros (suc k) n) ∙ ap letter place
word_from-unit_row k (suc n) (suc t) h =
    let place : suc k + t ≡ k + suc t = omega arith in
    let same : suc (suc t) - 1 ≡ suc t = omega arith in
    ap (λ (b : Bool). word_from k (cond b 1 0 ∷ unit_row n (suc (suc t) - 1))) (ne_eqb (suc (suc t)) 1 (λ e. omega arith))
    ∙ ap (λ (u : ℕ). word_from (suc k) (unit_row n u)) same
    ∙ word_from-unit_row (suc k) n t (omega arith) ∙ ap letter place

pub normal-append : (p m n : ℕ) (e x : List ℕ) → IsNormal p m e → IsNormal p n x → IsNormal p (m + n) (e ++ x)
normal-append p m n e x h k =
    let c = h.count in
    let d = k.count in
    record { count = simp length-append (omega arith); below = AllBelow-append p e x h.below k.below }

pub normal-followed_by : (p m n : ℕ) (xs ys : List (List ℕ)) → AreNormal p m xs → AreNormal p n ys → AreNormal p (m + n) (followed_by xs ys)
normal-followed_by p m n [] ys h k = tt
normal-followed_by p m n (x ∷ xs) [] h k = tt
normal-followed_by p m n (x ∷ xs) (y ∷ ys) h k = (normal-append p m n x y h.0 k.0, normal-followed_by p m n xs ys h.1 k.1)

-- a word and the word of a row, which is zero or a unit
pub with_zero_row : (n q : ℕ) (v w : List ℤ) (x : List ℕ) → w ≡ v ++ word_from n x → x ≡ zeros q → w ≡ v
with_zero_row n q v w x e none =
    e ∙ ap (λ (y : List ℕ). v ++ word_from n y) none ∙ ap (λ (u : List ℤ). v ++ u) (word_from-zeros n q) ∙ append-nil v

pub with_unit_row : (n q t : ℕ) (v w : List ℤ) (x : List ℕ) → w ≡ v ++ word_from n x → v ≡ [] → x ≡ unit_row q (suc t) → t < q
    → w ≡ letter (n + t)
with_unit_row n q t v w x e empty one l =
    e ∙ ap₂ (λ (u : List ℤ) (y : List ℕ). u ++ word_from n y) empty one ∙ word_from-unit_row n q t l

module _ (Y : RowedAnswer) (is : IsRowedAnswer Y) where
  same_count : length Y.answer.images ≡ length Y.image_rows
  same_count = is.answer.image_count ∙ sym is.image_count

  -- an image of the flat reading
  pub image-followed : (i : ℕ) → i < length Y.answer.images
      → get_or (map normal_word (followed_by Y.answer.images Y.image_rows)) i []
      ≡ get_or (image_words Y.answer) i [] ++ word_from Y.answer.presentation.rank (get_or Y.image_rows i [])
  image-followed i l =
      let e : List ℕ = get_or Y.answer.images i [] in
      let x : List ℕ = get_or Y.image_rows i [] in
      let long = (normal-entry Y.answer.presentation.prime Y.answer.presentation.rank Y.answer.images i is.answer.images l).count in
      get_or-map normal_word (followed_by Y.answer.images Y.image_rows) i []
      ∙ ap normal_word (get_or-followed_by Y.answer.images Y.image_rows i same_count)
      ∙ normal_word-append e x
      ∙ ap (λ (m : ℕ). normal_word (get_or Y.answer.images i []) ++ word_from m (get_or Y.image_rows i [])) long
      ∙ ap (λ (w : List ℤ). w ++ word_from Y.answer.presentation.rank (get_or Y.image_rows i []))
      (sym (get_or-map normal_word Y.answer.images i []))
