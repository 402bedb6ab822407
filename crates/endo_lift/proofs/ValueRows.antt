-- Over a consistent answer an element that is the value of a word which dies in the answer lies in the tails alone, so its row is
-- the row of the word. The words that tails stand for die, and where the endomorphism induces one of the answer their images die
-- too: so the rows of their values are the image rows.
use Rattle.std.proofs.Common.{◌≡◌, ℕ, zero, suc, ◌+◌, ◌-◌, ◌<◌, ◌≤◌, ℤ, List, [], ◌∷◌, ◌≢◌, get_or, length, set, replicate, ap, sym, ◌∙◌}
use Rattle.std.proofs.Common.{subst, arith, inl, inr}
use Rattle.std.proofs.lemmas.Bool.{cases_lt}
use Rattle.std.proofs.lemmas.List.{length-set, get_or-set_same, get_or-set_other, length-replicate}
use Rattle.pq_base.specs.SignedWord.{sub}
use Rattle.pq_base.specs.Joined.{Joined, IsConsistent}
use Rattle.pq_base.specs.Answer.{Definition as Source, image_words}
use Rattle.pq_base.specs.Answer.Definition.{image}
use Rattle.pq_base.specs.EntryWords.{IsSourceOf, entry_word}
use Rattle.pq_base.specs.Table.{AllBelow}
use Rattle.pq_base.specs.Elementary.{zeros}
use Rattle.pq_base.proofs.words.JoinedLaws.{joined-trans, joined-from_equal}
use Rattle.fp_rows.specs.Rows.{IsRow}
use Rattle.fp_rows.proofs.RowLaws.{IsRow-zeros}
use Rattle.fp_echelon.specs.Span.{AreRows}
use Rattle.fp_echelon.specs.Matrix.{PrimeMatrix}
use Rattle.pc_presentation.specs.Rowed.{RowedPresentation, IsRowed}
use Rattle.pc_presentation.specs.RowedLaws.{projected}
use Rattle.pc_presentation.specs.Arithmetic.{word_of}
use Rattle.pc_presentation.specs.Tailed.{Element, rowed_presentation, IsElement}
use Rattle.pc_presentation.proofs.rows.Projections.{sub-state, joined-projected}
use Rattle.pc_presentation.proofs.quotients.TailedLaws.{rowed_presentation-is}
use Rattle.pc_presentation.proofs.quotients.BaseValues.{state_word-normal, zero-exponents_joined}
use Rattle.pc_presentation.proofs.consistent.Reached.{state_word}
use Rattle.p_cover.specs.RowedAnswer.{IsRowedAnswer, rowed_images}
use Rattle.p_cover.specs.Covers.{CoverOf, IsCover, cover_presentation, rowed_cover}
use Rattle.p_cover.proofs.WantMembers.{part-sources}
use Rattle.p_cover.proofs.SourceNumbers.{source-by_place}
use Rattle.p_cover.proofs.CoverRows.{covers_are_rowed_answers}
use Rattle.p_cover.proofs.ImageValues.{row-joined}
use Rattle.endo_lift.specs.Lifts.{Induces, HasRow, AreImageRows, IsMatrixOver}
use Rattle.endo_lift.specs.Values.{IsValue, IsRowOfValue, AreValueRows}
use Rattle.endo_lift.proofs.RowedImages.{value-projected}
use Rattle.endo_lift.proofs.EntryImages.{entry-dies}

-- the source of a tail
pub source-at : (C : CoverOf) → IsCover C → (t : ℕ) → t < length C.sources → IsSourceOf C.answer (get_or C.sources t (image 0))
source-at C is t l =
    source-by_place C.answer is.answer (get_or C.sources t (image 0)) (part-sources C.answer is.sources t (image 0) l)

module _ (C : CoverOf) (is : IsCover C) (consistent : IsConsistent C.answer.presentation) where
  abbrev Y : RowedPresentation
  Y = rowed_presentation (cover_presentation C)

  rowed_is : IsRowedAnswer (rowed_cover C)
  rowed_is = (covers_are_rowed_answers C.answer C.sources is.answer is.sources).0

  -- the value of a word that dies
  value-row : (w : List ℤ) (e : Element) → IsValue C w e → Joined C.answer.presentation (sub w (image_words C.answer)) []
      → HasRow C w e.state.row
  value-row w e value dies =
      let rows : IsRowed (rowed_presentation (cover_presentation C)) =
      rowed_presentation-is (cover_presentation C) value.element.presentation in
      let two = rows.base.prime in
      let base : Joined C.answer.presentation (projected Y (word_of Y e.state)) (projected Y (sub w (rowed_images (rowed_cover C)))) =
      joined-projected Y rows value.joined in
      let word : Joined C.answer.presentation (state_word e.state) (sub w (image_words C.answer)) =
      joined-trans (joined-from_equal C.answer.presentation
      (state_word-normal e.state ∙ sym (sub-state Y e.state value.element.state.exponents.count)))
      (joined-trans base (joined-from_equal C.answer.presentation (value-projected (rowed_cover C) rowed_is w))) in
      row-joined Y e.state (sub w (rowed_images (rowed_cover C))) value.joined
      ((zero-exponents_joined Y (omega arith) consistent e.state (sub w (image_words C.answer)) value.element.state word).1 dies)

  pub image-rows : (endo : List (List ℤ)) (rs : List (List ℕ)) → Induces C.answer endo → AreValueRows C endo (length C.sources) rs
      → AreImageRows C endo rs
  image-rows endo rs induces values t l =
      let d : Source = get_or C.sources t (image 0) in
      let here = values t l in
      subst (λ (x : List ℕ). HasRow C (sub (entry_word C.answer (get_or C.sources t (image 0))) endo) x) (sym here.row)
      (value-row (sub (entry_word C.answer d) endo) here.element here.value
      (induces (entry_word C.answer d) (entry-dies (rowed_cover C) rowed_is d (source-at C is t l))))

-- a row more is set
pub rows-more : (C : CoverOf) (endo : List (List ℤ)) (rs ss : List (List ℕ)) (i : ℕ) (x : List ℕ) (d : Source) (e : Element)
    → i < length rs → AreValueRows C endo i rs → ss ≡ set rs i x → x ≡ e.state.row → d ≡ get_or C.sources i (image 0)
    → IsValue C (sub (entry_word C.answer d) endo) e → AreValueRows C endo (i + 1) ss
rows-more C endo rs ss i x d e within values q r at value t l =
    let entry : ℕ → List ℤ = λ n. sub (entry_word C.answer (get_or C.sources n (image 0))) endo in
    subst (λ (ys : List (List ℕ)). IsRowOfValue C (entry t) (get_or ys t [])) (sym q)
    (elim (cases_lt t i) as (λ z. IsRowOfValue C (entry t) (get_or (set rs i x) t [])) [
      | inl before ↦
          let other : t ≢ i = λ same. absurd (omega arith) in
          subst (λ (y : List ℕ). IsRowOfValue C (entry t) y) (sym (get_or-set_other rs i t x [] other)) (values t before)
      | inr after ↦
          let place : i ≡ t = omega arith in
          subst (λ (n : ℕ). IsRowOfValue C (entry n) (get_or (set rs i x) n [])) place
          (record {
            element = e;
            value = subst (λ (z : Source). IsValue C (sub (entry_word C.answer z) endo) e) at value;
            row = get_or-set_same rs i x [] within ∙ r;
          })
    ])

-- a row is replaced at the place before its number
pub set-before : (m n : PrimeMatrix) (i : ℕ) (x : List ℕ) → n ≡ record m { rows = set m.rows (i + 1 - 1) x }
    → n ≡ record m { rows = set m.rows i x }
set-before m n i x q =
    let place : i + 1 - 1 ≡ i = omega arith in
    q ∙ ap (λ (k : ℕ). record { prime = m.prime; width = m.width; rows = set m.rows k x }) place

-- a matrix with a row replaced
AreRows-set : (p width : ℕ) (rs : List (List ℕ)) (i : ℕ) (x : List ℕ) → IsRow p width x → AreRows p width rs → AreRows p width (set rs i x)
AreRows-set p width [] i x row are = tt
AreRows-set p width (r ∷ rs) zero x row are = (row, are.1)
AreRows-set p width (r ∷ rs) (suc i) x row are = (are.0, AreRows-set p width rs i x row are.1)

pub matrix-set : (C : CoverOf) (m n : PrimeMatrix) (i : ℕ) (e : Element) (x : List ℕ) → IsMatrixOver C m
    → IsElement (cover_presentation C) e → x ≡ e.state.row → n ≡ record m { rows = set m.rows i x } → IsMatrixOver C n
matrix-set C m n i e x is element r q =
    subst (IsMatrixOver C) (sym q) (record {
      matrix = record {
        prime = is.matrix.prime;
        count = length-set m.rows i x ∙ is.matrix.count;
        rows = AreRows-set m.prime m.width m.rows i x
            (subst (IsRow m.prime m.width) (sym r) (record {
              count = element.state.row.count ∙ sym is.width;
              below = subst (λ (p : ℕ). AllBelow p e.state.row) (sym is.prime) element.state.row.below;
            })) is.matrix.rows;
      };
      prime = is.prime;
      width = is.width;
    })

AreRows-zeros : (p width n : ℕ) → 0 < p → AreRows p width (replicate n (zeros width))
AreRows-zeros p width zero some = tt
AreRows-zeros p width (suc n) some = (IsRow-zeros p width some, AreRows-zeros p width n some)

pub matrix-new : (C : CoverOf) (m : PrimeMatrix) (p width : ℕ) → 2 ≤ C.answer.presentation.prime
    → p ≡ C.answer.presentation.prime → width ≡ length C.sources
    → m ≡ record { prime = p; width = width; rows = replicate width (zeros width) } → IsMatrixOver C m
matrix-new C m p width two prime wide q =
    subst (IsMatrixOver C) (sym q) (record {
      matrix = record {
        prime = omega arith;
        count = length-replicate width (zeros width);
        rows = AreRows-zeros p width width (omega arith);
      };
      prime = prime;
      width = wide;
    })
