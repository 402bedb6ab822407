-- What is found of the row of a source by the plain rule is exact: there is a row where one is found, and none elsewhere.
use Rattle.std.proofs.Common.{◌≡◌, ◌↔◌, ◌<◌, ◌≤◌, ℕ, ℤ, Bool, IsTrue, List, [], ◌∷◌, get_or, length, refl, ap, sym, ◌∙◌, subst, arith}
use Rattle.std.proofs.lemmas.List.{get_or_default}
use Rattle.pq_base.specs.SignedWord.{HasLetters}
use Rattle.pq_base.specs.LPresentation.{LPresentation, AreWords}
use Rattle.pq_base.specs.Elementary.{zeros}
use Rattle.pq_base.proofs.words.LetterLaws.{HasLetters-get_or}
use Rattle.pc_presentation.specs.declared.overlap.Overlap.{Overlap}
use Rattle.pc_presentation.specs.Collection.{State, plain_push}
use Rattle.pc_presentation.specs.Arithmetic.{HasArithmetic}
use Rattle.pc_presentation.specs.Pcp.{TailedPresentation, IsTailedPresentation}
use Rattle.pc_presentation.specs.Rowed.{RowedPresentation}
use Rattle.pc_presentation.specs.Overlaps.{Overlap as OverlapOfPlaces}
use Rattle.pc_presentation.specs.OverlapNumbers.{AreOverlapNumbers, overlap_of}
use Rattle.pc_presentation.specs.OverlapRows.{ExponentsAgree, overlap_row}
use Rattle.pc_presentation.specs.Tailed.{Element, rowed_presentation}
use Rattle.pc_presentation.proofs.quotients.TailedLaws.{rowed_presentation-is}
use Rattle.pc_presentation.proofs.quotients.CollectorArithmetic.{plain_rule_is_a_meaning, has_arithmetic}
use Rattle.p_cover.specs.Covers.{CoverOf, cover_presentation}
use Rattle.p_cover.specs.Images.{ImagesOf, AreLifted}
use Rattle.p_cover.specs.ImageValues.{value_under}
use Rattle.p_cover.specs.ImagesAlong.{AreCarried, IsFoundAlong}
use Rattle.derivation_log.specs.declared.source.RowSource.TheVariants.{Test}
use Rattle.derivation_log.specs.RowSources.{IsRowAlong}
use Rattle.derivation_log.specs.CertificateParts.{HasPlainRow}
use Rattle.cert_checker.proofs.found_rows.OneRow.{one_lift, one_carried}

-- the plain rule in a presentation with tails
pub plain_arithmetic : (T : TailedPresentation) → IsTailedPresentation T
    → HasArithmetic (rowed_presentation T) (plain_push (rowed_presentation T))
plain_arithmetic T is =
    let rowed = rowed_presentation-is T is in
    has_arithmetic (rowed_presentation T) rowed is.presentation.prime (plain_push (rowed_presentation T))
    (plain_rule_is_a_meaning (rowed_presentation T) rowed)

-- a word of a list
pub letters_of_listed : (n m : ℕ) (ws vs : List (List ℤ)) (i : ℕ) (w : List ℤ) → n ≡ m → AreWords n ws → vs ≡ ws → i < length vs
    → w ≡ get_or vs i w → HasLetters m w
letters_of_listed n m ws vs i w count words same l is =
    subst (λ (k : ℕ). HasLetters k w) count
    (subst (HasLetters n) (sym (is ∙ get_or_default vs i w [] l ∙ ap (λ (us : List (List ℤ)). get_or us i []) same))
    (HasLetters-get_or n ws i words))

-- the state of an element is the end of a way of an overlap
pub end_of_way : (end : RowedPresentation → (State → ℕ → State) → OverlapOfPlaces → State) (T U : TailedPresentation) (o : OverlapOfPlaces)
    (e f : Element) → e ≡ f → U ≡ T → f.state ≡ end (rowed_presentation U) (plain_push (rowed_presentation U)) o
    → e.state ≡ end (rowed_presentation T) (plain_push (rowed_presentation T)) o
end_of_way end T U o e f same presentation reached =
    ap (λ (d : Element). d.state) same
    ∙ subst (λ (V : TailedPresentation). f.state ≡ end (rowed_presentation V) (plain_push (rowed_presentation V)) o) presentation reached

module _ (C : CoverOf) where
  abbrev push : State → ℕ → State
  push = plain_push (rowed_presentation (cover_presentation C))

  pub overlap-decided : (L : LPresentation) (o : Overlap) (b : Bool)
      → (IsTrue b ↔ (AreOverlapNumbers C.answer.presentation.rank o × ExponentsAgree (rowed_presentation (cover_presentation C)) push
      (overlap_of o)))
      → (IsTrue b ↔ HasPlainRow L C (Test o))
  overlap-decided L o b h = (
    (λ t. record {
      row = overlap_row (rowed_presentation (cover_presentation C)) push (overlap_of o);
      is = record {
        numbers = (h.0 t).0;
        row = record { agree = (h.0 t).1; row = refl };
      };
    }),
    (λ has. let row = has.is.row in h.1 (has.is.numbers, row.agree)),
  )

  module _ (is : IsTailedPresentation (cover_presentation C)) (endos : List (List (List ℤ))) (f : ImagesOf) (lifted : AreLifted C push f)
      (w : List ℤ) (b : Bool) where
    word-decided : (IsTrue b ↔ ((value_under C push f w).exponents ≡ zeros C.answer.presentation.rank))
        → (IsTrue b ↔ ((x : List ℕ) × IsRowAlong endos C push [] w x))
    word-decided h = (
      (λ t. ((value_under C push f w).row, record { images = f; lifted = lifted; zero = h.0 t; row = refl })),
      (λ found. let row = found.1 in
          h.1 (subst (λ (g : ImagesOf). (value_under C push g w).exponents ≡ zeros C.answer.presentation.rank)
          (one_lift C push (plain_arithmetic (cover_presentation C) is) row.images f row.lifted lifted) row.zero)),
    )

    path-decided : (e : ℕ) (s : List ℕ) (x : List ℕ) → IsFoundAlong C push endos f (e ∷ s) w b x
        → (IsTrue b ↔ ((y : List ℕ) × IsRowAlong endos C push (e ∷ s) w y))
    path-decided e s x found = (
      (λ t. (
        x,
        record {
          start = f;
          lifted = lifted;
          images = found.images;
          carried = found.carried;
          zero = found.decided.0 t;
          row = found.row t;
        },
      )),
      (λ other. let row = other.1 in
          let arithmetic = plain_arithmetic (cover_presentation C) is in
          let start = one_lift C push arithmetic row.start f row.lifted lifted in
          found.decided.1 (subst (λ (g : ImagesOf). (value_under C push g w).exponents ≡ zeros C.answer.presentation.rank)
          (one_carried C push arithmetic endos
          (subst (λ (g : ImagesOf). AreCarried C push endos g (e ∷ s) row.images) start row.carried) found.carried) row.zero)),
    )

    -- the empty path, and any other
    pub decided-nowhere : (s : List ℕ) → length s ≡ 0
        → (IsTrue b ↔ ((value_under C push f w).exponents ≡ zeros C.answer.presentation.rank))
        → (IsTrue b ↔ ((x : List ℕ) × IsRowAlong endos C push s w x))
    decided-nowhere [] none h = word-decided h
    decided-nowhere (e ∷ s) none h = absurd (omega arith)

    pub decided-onward : (s x : List ℕ) → 1 ≤ length s → IsFoundAlong C push endos f s w b x
        → (IsTrue b ↔ ((y : List ℕ) × IsRowAlong endos C push s w y))
    decided-onward [] x some found = absurd (omega arith)
    decided-onward (e ∷ s) x some found = path-decided e s x found
