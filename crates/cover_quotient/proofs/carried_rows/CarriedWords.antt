-- The words of a presentation with rows, with its tails replaced by the words of rows: joined words stay joined in the
-- presentation with carried rows, and the word of a row is joined to the word of the row that it is carried to.
use Rattle.std.proofs.Common.{◌≡◌, ℕ, suc, ◌+◌, ◌-◌, ◌<◌, ℤ, List, [], ◌∷◌, ◌++◌, get_or, length, map, inl, inr, ap, ap₂, sym, ◌∙◌, subst}
use Rattle.std.proofs.Common.{arith}
use Rattle.std.proofs.lemmas.Bool.{cases_lt}
use Rattle.std.proofs.lemmas.List.{get_or_append_left, get_or-append-add}
use Rattle.std.proofs.Math.ListN.{get_or-map}
use Rattle.std.proofs.Math.Nat.{zero-add}
use Rattle.pq_base.specs.SignedWord.{inv, copies, comm, sub, HasLetters}
use Rattle.pq_base.specs.Presentation.{IsRelatorOf, letter, word_from, power_side, commutator_side, power_word, commutator_word}
use Rattle.pq_base.specs.Presentation.IsRelatorOf.{power_relator, commutator_relator}
use Rattle.pq_base.specs.Joined.{Joined}
use Rattle.pq_base.proofs.words.WordLaws.{word_from-append, word_from-zeros, sub-append, sub-inv, sub-copies, sub-comm, sub-letter}
use Rattle.pq_base.proofs.words.LetterLaws.{HasLetters-word_from, sub_same}
use Rattle.pq_base.proofs.words.RangeLaws.{generators, get_or-generators, sub-generators}
use Rattle.pq_base.proofs.words.WordGroup.{joined-sub}
use Rattle.pq_base.proofs.words.JoinedLaws.{joined-from_equal, joined-sym, joined-trans, joined-append_left, joined-quotient}
use Rattle.pq_base.proofs.words.JoinedLaws.{comm-joined_nil, power-joined, commutator-joined}
use Rattle.fp_rows.specs.Rows.{IsRow}
use Rattle.fp_rows.proofs.RowLaws.{scale_row-prime}
use Rattle.fp_echelon.specs.Span.{AreRows}
use Rattle.fp_echelon.proofs.SpanLaws.{AreRows-entry}
use Rattle.pc_presentation.specs.Rowed.{RowedPresentation, IsRowed, power_row, commutator_row, flat}
use Rattle.pc_presentation.specs.NormalTable.{list_from}
use Rattle.pc_presentation.proofs.rows.SingleRows.{length-list_from, get_or-list_from}
use Rattle.pc_presentation.proofs.rows.FlatLaws.{power_side-flat, power_side-tail, commutator_side-flat, commutator_side-tail}
use Rattle.pc_presentation.proofs.rows.TailLaws.{row-commutes}
use Rattle.cover_quotient.specs.Carried.{carried, carried_presentation}
use Rattle.cover_quotient.specs.SpanLaws.{carried_letters, WordsAreMapped, MappedWords}
use Rattle.pq_base.proofs.PrimeLaws.{offered-positive}
use Rattle.cover_quotient.proofs.carried_rows.RowWords.{row_words-combine, row_words-multiple, row_words-commute}
use Rattle.cover_quotient.proofs.carried_rows.CarriedPresentations.{power_row-carried, commutator_row-carried, carried-rowed}

-- the words of generators and of tails
pub generator-letter : (n : ℕ) (rows : List (List ℕ)) (i : ℕ) → i < n → get_or (carried_letters n rows) i [] ≡ letter i
generator-letter n rows i l =
    let c : length (list_from letter 0 n) ≡ n = length-list_from letter 0 n in
    get_or_append_left (list_from letter 0 n) (map (word_from n) rows) [] i (omega arith)
    ∙ get_or-list_from letter 0 n i [] l ∙ ap letter (zero-add i)

pub tail-letter : (n : ℕ) (rows : List (List ℕ)) (t : ℕ) → get_or (carried_letters n rows) (n + t) [] ≡ word_from n (get_or rows t [])
tail-letter n rows t =
    ap (λ (m : ℕ). get_or (carried_letters n rows) (m + t) []) (sym (length-list_from letter 0 n))
    ∙ get_or-append-add (list_from letter 0 n) (map (word_from n) rows) t []
    ∙ get_or-map (word_from n) rows t []

pub generators-stay : (n : ℕ) (rows : List (List ℕ)) (w : List ℤ) → HasLetters n w → sub w (carried_letters n rows) ≡ w
generators-stay n rows w h =
    sub_same n w (carried_letters n rows) (generators n) h (λ i l. generator-letter n rows i l ∙ sym (get_or-generators n i l))
    ∙ sub-generators n w h

module _ (Z : RowedPresentation) (rowed : IsRowed Z) (positive : 0 < Z.base.prime) (width : ℕ) (rows : List (List ℕ))
    (are : AreRows Z.base.prime width rows) (count : length rows ≡ Z.width) where
  abbrev Q : RowedPresentation
  Q = carried_presentation width rows Z

  abbrev n : ℕ
  n = Z.base.rank

  abbrev images : List (List ℤ)
  images = carried_letters Z.base.rank rows

  Q_rowed : IsRowed Q
  Q_rowed = carried-rowed Z rowed positive width rows are

  -- the word of a row
  pub row-word : (x : List ℕ) → length x ≡ Z.width
      → Joined (flat (carried_presentation width rows Z)) (sub (word_from Z.base.rank x) (carried_letters Z.base.rank rows))
      (word_from Z.base.rank (carried Z.base.prime width rows x))
  row-word x e = row_words-combine Q Q_rowed positive images n x rows (e ∙ sym count) are (λ i l. tail-letter n rows i)

  -- the word of a right side and its row
  side-word : (i : ℕ) (e x : List ℕ) → suc i + length e ≡ n → length x ≡ Z.width
      → Joined (flat Q) (word_from (suc i) (e ++ carried Z.base.prime width rows x)) (sub (word_from (suc i) (e ++ x)) images)
  side-word i e x c l =
      let front : List ℤ = word_from (suc i) e in
      let stays : sub (word_from (suc i) e) images ≡ word_from (suc i) e =
      generators-stay n rows (word_from (suc i) e) (HasLetters-word_from n (suc i) e (omega arith)) in
      let whole : sub (word_from (suc i) (e ++ x)) images ≡ front ++ sub (word_from n x) images =
      ap (λ (w : List ℤ). sub w images) (word_from-append (suc i) e x ∙ ap (λ (m : ℕ). word_from (suc i) e ++ word_from m x) c)
      ∙ sub-append front (word_from n x) images
      ∙ ap (λ (w : List ℤ). w ++ sub (word_from n x) images) stays in
      let carried_whole : word_from (suc i) (e ++ carried Z.base.prime width rows x)
      ≡ front ++ word_from n (carried Z.base.prime width rows x) =
      word_from-append (suc i) e (carried Z.base.prime width rows x)
      ∙ ap (λ (m : ℕ). word_from (suc i) e ++ word_from m (carried Z.base.prime width rows x)) c in
      joined-trans (joined-from_equal (flat Q) carried_whole)
      (joined-trans (joined-append_left front (joined-sym (row-word x l))) (joined-from_equal (flat Q) (sym whole)))

  tail_row : (t : ℕ) → t < Z.width → IsRow Z.base.prime width (get_or rows t [])
  tail_row t l = AreRows-entry Z.base.prime width rows t [] (omega arith) are

  -- relators with their sides
  power-sides : (i : ℕ) → i < n + Z.width → Joined (flat Q) (copies (get_or images i []) Z.base.prime) (sub (power_word (flat Z) i) images)
  power-sides i l = elim (cases_lt i Z.base.rank) [
    | inl h ↦
        let c = (rowed.base.power_sides i h).count in
        let side : List ℕ = power_side Z.base i in
        let word_is : power_word (flat Q) i ≡ word_from (suc i) (power_side Z.base i ++ carried Z.base.prime width rows (power_row Z i)) =
        ap (word_from (suc i)) (power_side-flat Q Q_rowed i h
        ∙ ap (λ (x : List ℕ). power_side Z.base i ++ x) (power_row-carried Z rowed positive width rows are i h)) in
        let from_is : word_from (suc i) (power_side Z.base i ++ power_row Z i) ≡ power_word (flat Z) i =
        ap (word_from (suc i)) (sym (power_side-flat Z rowed i h)) in
        joined-trans (joined-from_equal (flat Q) (ap (λ (w : List ℤ). copies w Z.base.prime) (generator-letter n rows i h)))
        (joined-trans (power-joined (flat Q) i (omega arith))
        (joined-trans (joined-from_equal (flat Q) word_is)
        (joined-trans (side-word i side (power_row Z i) c (rowed.power_rows i h).count)
        (joined-from_equal (flat Q) (ap (λ (w : List ℤ). sub w (carried_letters Z.base.rank rows)) from_is)))))
    | inr h ↦
        let t : ℕ = i - Z.base.rank in
        let r : ℕ = Z.width - suc t in
        let place : n + t ≡ i = omega arith in
        let row = tail_row t (omega arith) in
        let nothing : power_word (flat Z) (n + t) ≡ [] =
        ap (word_from (suc (n + t))) (power_side-tail Z rowed t r (omega arith)) ∙ word_from-zeros (suc (n + t)) r in
        let power : Joined (flat Q) (copies (word_from n (get_or rows t [])) Z.base.prime) [] =
        joined-trans (row_words-multiple Q Q_rowed positive Z.base.prime (get_or rows t []) row)
        (joined-from_equal (flat Q)
        (ap (word_from Z.base.rank) (scale_row-prime Z.base.prime (get_or rows t [])) ∙ word_from-zeros n (length (get_or rows t [])))) in
        subst (λ (j : ℕ). Joined (flat Q) (copies (get_or images j []) Z.base.prime) (sub (power_word (flat Z) j) images)) place
        (joined-trans (joined-from_equal (flat Q) (ap (λ (w : List ℤ). copies w Z.base.prime) (tail-letter n rows t)))
        (joined-trans power (joined-from_equal (flat Q) (ap (λ (w : List ℤ). sub w (carried_letters Z.base.rank rows)) (sym nothing)))))
  ]

  -- a tail's word commutes with the word of each earlier letter
  tail-commutes : (t i : ℕ) → t < Z.width → i < n + t
      → Joined (flat Q) (word_from n (get_or rows t []) ++ get_or images i []) (get_or images i [] ++ word_from n (get_or rows t []))
  tail-commutes t i l m =
      let r : List ℕ = get_or rows t [] in
      let row = tail_row t l in
      elim (cases_lt i Z.base.rank) [
        | inl h ↦
            subst (λ (w : List ℤ). Joined (flat Q) (word_from n (get_or rows t []) ++ w) (w ++ word_from n (get_or rows t [])))
            (sym (generator-letter n rows i h))
            (row-commutes Q Q_rowed r (i ∷ []) row.count (h, tt))
        | inr h ↦
            let u : ℕ = i - Z.base.rank in
            let place : n + u ≡ i = omega arith in
            subst (λ (j : ℕ). Joined (flat Q) (word_from n (get_or rows t []) ++ get_or images j [])
            (get_or images j [] ++ word_from n (get_or rows t []))) place
            (subst (λ (w : List ℤ). Joined (flat Q) (word_from n (get_or rows t []) ++ w) (w ++ word_from n (get_or rows t [])))
            (sym (tail-letter n rows u))
            (row_words-commute Q Q_rowed positive r (get_or rows u []) row (tail_row u (omega arith))))
      ]

  commutator-sides : (j i : ℕ) → j < n + Z.width → i < j
      → Joined (flat Q) (comm (get_or images j []) (get_or images i [])) (sub (commutator_word (flat Z) j i) images)
  commutator-sides j i l m = elim (cases_lt j Z.base.rank) [
    | inl h ↦
        let c = (rowed.base.commutator_sides j i h m).count in
        let side : List ℕ = commutator_side Z.base j i in
        let word_is : commutator_word (flat Q) j i
        ≡ word_from (suc j) (commutator_side Z.base j i ++ carried Z.base.prime width rows (commutator_row Z j i)) =
        ap (word_from (suc j))
        (commutator_side-flat Q Q_rowed j i h
        ∙ ap (λ (x : List ℕ). commutator_side Z.base j i ++ x) (commutator_row-carried Z rowed positive width rows are j i h m)) in
        let from_is : word_from (suc j) (commutator_side Z.base j i ++ commutator_row Z j i) ≡ commutator_word (flat Z) j i =
        ap (word_from (suc j)) (sym (commutator_side-flat Z rowed j i h)) in
        joined-trans (joined-from_equal (flat Q) (ap₂ comm (generator-letter n rows j h) (generator-letter n rows i (omega arith))))
        (joined-trans (commutator-joined (flat Q) j i (omega arith) m)
        (joined-trans (joined-from_equal (flat Q) word_is)
        (joined-trans (side-word j side (commutator_row Z j i) c (rowed.commutator_rows j i h m).count)
        (joined-from_equal (flat Q) (ap (λ (w : List ℤ). sub w (carried_letters Z.base.rank rows)) from_is)))))
    | inr h ↦
        let t : ℕ = j - Z.base.rank in
        let r : ℕ = Z.width - suc t in
        let place : n + t ≡ j = omega arith in
        let nothing : commutator_word (flat Z) (n + t) i ≡ [] =
        ap (word_from (suc (n + t))) (commutator_side-tail Z rowed t r i (omega arith) (omega arith)) ∙ word_from-zeros (suc (n + t)) r in
        let commute : Joined (flat Q) (comm (word_from n (get_or rows t [])) (get_or images i [])) [] =
        comm-joined_nil (word_from n (get_or rows t [])) (get_or images i []) (tail-commutes t i (omega arith) (omega arith)) in
        subst (λ (k : ℕ). Joined (flat Q) (comm (get_or images k []) (get_or images i [])) (sub (commutator_word (flat Z) k i) images))
        place
        (joined-trans (joined-from_equal (flat Q)
        (ap (λ (w : List ℤ). comm w (get_or (carried_letters Z.base.rank rows) i [])) (tail-letter n rows t)))
        (joined-trans commute (joined-from_equal (flat Q) (ap (λ (w : List ℤ). sub w (carried_letters Z.base.rank rows)) (sym nothing)))))
  ]

  relators-trivial : (r : List ℤ) → IsRelatorOf (flat Z) r → Joined (flat Q) (sub r images) []
  relators-trivial _ (power_relator i l) =
      let w : List ℤ = power_word (flat Z) i in
      let split : sub (copies (letter i) Z.base.prime ++ inv (power_word (flat Z) i)) images
      ≡ copies (get_or images i []) Z.base.prime ++ inv (sub (power_word (flat Z) i) images) =
      sub-append (copies (letter i) Z.base.prime) (inv w) images
      ∙ ap₂ (λ (u v : List ℤ). u ++ v)
      (sub-copies (letter i) Z.base.prime images ∙ ap (λ (u : List ℤ). copies u Z.base.prime) (sub-letter i images)) (sub-inv w images) in
      joined-trans (joined-from_equal (flat Q) split) (joined-quotient (power-sides i l))
  relators-trivial _ (commutator_relator j i l m) =
      let w : List ℤ = commutator_word (flat Z) j i in
      let split : sub (comm (letter j) (letter i) ++ inv (commutator_word (flat Z) j i)) images
      ≡ comm (get_or images j []) (get_or images i []) ++ inv (sub (commutator_word (flat Z) j i) images) =
      sub-append (comm (letter j) (letter i)) (inv w) images
      ∙ ap₂ (λ (u v : List ℤ). u ++ v)
      (sub-comm (letter j) (letter i) images ∙ ap₂ comm (sub-letter j images) (sub-letter i images)) (sub-inv w images) in
      joined-trans (joined-from_equal (flat Q) split) (joined-quotient (commutator-sides j i l m))

  pub words-mapped : WordsAreMapped Z width rows
  words-mapped = record {
    joined = λ u v c. joined-sub (flat Z) (flat Q) images relators-trivial c;
    row_words = λ x h. row-word x h.count;
  }

pub mapped_words : MappedWords
mapped_words Z s rows rowed offered are count = words-mapped Z rowed (offered-positive Z.base.prime offered) s rows are count
