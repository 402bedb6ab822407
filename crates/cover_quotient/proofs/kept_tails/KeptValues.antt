-- Values in a group of the words of a cover modulo a reduced basis whose rows have value one: the kept tails are what their
-- relations and images fail by, and what each relation and each image fails by is the value of its carried row.
use Rattle.std.proofs.Common.{◌≡◌, ℕ, zero, suc, ◌+◌, ◌-◌, ◌<◌, ◌≤◌, None, ℤ, pos, List, [], ◌++◌, get_or, length, map, ap, sym, ◌∙◌, subst}
use Rattle.std.proofs.Common.{arith, inl, inr}
use Rattle.std.specs.List.{All}
use Rattle.std.proofs.lemmas.Bool.{cases_lt}
use Rattle.std.proofs.lemmas.List.{length-map, get_or-map, get_or_past, get_or_append_left, get_or-append-add}
use Rattle.std.proofs.Math.ListN.{get_or-map as entry-map}
use Rattle.pq_base.specs.Presentation.{IsRelatorOf, letter, word_from}
use Rattle.pq_base.specs.Joined.{Joined}
use Rattle.pq_base.specs.Answer.{Answer, Definition, IsAnswer}
use Rattle.pq_base.specs.Answer.Definition.{image, commutator, power}
use Rattle.pq_base.proofs.words.LetterLaws.{HasLetters-word_from}
use Rattle.pq_base.proofs.words.RangeLaws.{generators, length-letters_from, get_or-generators}
use Rattle.pq_base.proofs.groups.Groups.{Group, value_in, power_in, same_from_equal, value_in-letter, value_in-sub, value_in-same}
use Rattle.pq_base.proofs.groups.Groups.{value_in-joined}
use Rattle.pq_base.proofs.groups.GroupCommute.{Commute, commute-one}
use Rattle.fp_rows.specs.Rows.{IsRow}
use Rattle.fp_rows.specs.Differences.{difference}
use Rattle.fp_echelon.specs.Span.{combine}
use Rattle.fp_echelon.specs.Reduced.{BasisRow, rows_of, IsReduced}
use Rattle.fp_echelon.proofs.ReductionLaws.{AreRows-reduced}
use Rattle.pc_presentation.specs.Rowed.{flat}
use Rattle.pc_presentation.specs.Pcp.{unit_row, row_of}
use Rattle.pc_presentation.proofs.rows.TailRowLaws.{row_of-normal}
use Rattle.p_cover.specs.RowedAnswer.{IsRowedAnswer, rowed, row_at, tails_word}
use Rattle.pq_base.specs.EntryWords.{IsSourceOf, entry_word}
use Rattle.p_cover.specs.Sources.{place_in, IsPartOf}
use Rattle.p_cover.specs.Covers.{cover_on, all_sources}
use Rattle.p_cover.proofs.CoverRows.{row_at-source, covers_are_rowed_answers}
use Rattle.p_cover.proofs.WantMembers.{part-sources}
use Rattle.p_cover.proofs.SourceNumbers.{source-by_name, source-by_place}
use Rattle.cover_quotient.specs.Carried.{carried, carried_answer}
use Rattle.cover_quotient.specs.Kept.{kept_columns, kept_rows}
use Rattle.cover_quotient.specs.NextAnswer.{sources_at}
use Rattle.cover_quotient.proofs.carried_rows.CarriedRows.{row_from_normal}
use Rattle.cover_quotient.proofs.carried_rows.CarriedPresentations.{power_row-carried, commutator_row-carried}
use Rattle.cover_quotient.proofs.carried_rows.UnitRows.{AreRows-unit_rows}
use Rattle.cover_quotient.proofs.kept_tails.KeptColumns.{kept_at}
use Rattle.cover_quotient.proofs.kept_tails.KeptRows.{kept_rows-are_rows}
use Rattle.cover_quotient.proofs.kept_tails.KeptCombinations.{kept_units, kept_units-rows, carried-is_row, carried-in_span}
use Rattle.cover_quotient.proofs.carried_rows.RowWords.{row_words-combine}
use Rattle.cover_quotient.proofs.fitting.TailValues.{spelled_in, length-spelled_in, with_tails, get_or-tail, value_in-tail, relators-value}
use Rattle.cover_quotient.proofs.next_answers.NextWords.{word_from-unit_row}
use Rattle.cover_quotient.proofs.fitting.CoverValues.{entry_elements, cover-entries}
use Rattle.cover_quotient.proofs.carried_rows.RowValues.{power_in-of_one, span-one, difference-value}

-- what relations and images fail by is central, of order p
pub record AreCentral (G : Group) (f : List G.carrier) (A : Answer) : Type 0 where
  pub central : (d : Definition) → IsSourceOf A d → (x : G.carrier) → Commute G (value_in G f (entry_word A d)) x
  pub order : (d : Definition) → IsSourceOf A d → G.same (power_in G (value_in G f (entry_word A d)) A.presentation.prime) G.one

-- so are the tails of a list of them
module _ (G : Group) (f : List G.carrier) (A : Answer) (are : AreCentral G f A) (ds : List Definition)
    (sources : All (IsSourceOf A) ds) where
  entry-at : (t : ℕ) → t < length ds → get_or (entry_elements G f A ds) t G.one ≡ value_in G f (entry_word A (get_or ds t (image 0)))
  entry-at t l = get_or-map (λ (d : Definition). value_in G f (entry_word A d)) ds t (image 0) G.one l

  entry-past : (t : ℕ) → length ds ≤ t → get_or (entry_elements G f A ds) t G.one ≡ G.one
  entry-past t l =
      let c = length-map ds (λ (d : Definition). value_in G f (entry_word A d)) in
      get_or_past (entry_elements G f A ds) t G.one (omega arith)

  pub tails-central : (t : ℕ) (x : G.carrier) → Commute G (get_or (entry_elements G f A ds) t G.one) x
  tails-central t x = elim (cases_lt t (length ds)) [
    | inl h ↦ subst (λ (y : G.carrier). Commute G y x) (sym (entry-at t h)) (are.central (get_or ds t (image 0)) (sources t (image 0) h) x)
    | inr h ↦ subst (λ (y : G.carrier). Commute G y x) (sym (entry-past t (omega arith))) (commute-one G x)
  ]

  pub tails-order : (t : ℕ) → G.same (power_in G (get_or (entry_elements G f A ds) t G.one) A.presentation.prime) G.one
  tails-order t = elim (cases_lt t (length ds)) [
    | inl h ↦
        subst (λ (y : G.carrier). G.same (power_in G y A.presentation.prime) G.one) (sym (entry-at t h))
        (are.order (get_or ds t (image 0)) (sources t (image 0) h))
    | inr h ↦
        subst (λ (y : G.carrier). G.same (power_in G y A.presentation.prime) G.one) (sym (entry-past t (omega arith)))
        (power_in-of_one G A.presentation.prime)
  ]

module _ (G : Group) (f : List G.carrier) (A : Answer) (is : IsAnswer A) (some : 1 < A.presentation.prime) (ds : List Definition)
    (part : IsPartOf ds (all_sources A)) (are : AreCentral G f A)
    (left_out : (d : Definition) → IsSourceOf A d → place_in ds d ≡ None → G.same (value_in G f (entry_word A d)) G.one) where
  abbrev n : ℕ
  n = A.presentation.rank

  abbrev p : ℕ
  p = A.presentation.prime

  abbrev q : ℕ
  q = length ds

  abbrev h : List G.carrier
  h = with_tails G f A is (entry_elements G f A ds)

  pub cover-is : IsRowedAnswer (cover_on A ds)
  cover-is = (covers_are_rowed_answers A ds is part).0

  pub cover-sources : All (IsSourceOf A) ds
  cover-sources i d l = source-by_place A is (get_or ds i d) (part-sources A part i d l)

  -- each relator of the cover's flat reading has value one
  pub cover-relators : (r : List ℤ) → IsRelatorOf (flat (rowed (cover_on A ds))) r
      → G.same (value_in G (with_tails G f A is (entry_elements G f A ds)) r) G.one
  cover-relators r e =
      relators-value G f (cover_on A ds) is cover-is.presentation (entry_elements G f A ds) (cover-entries G f A is ds left_out)
      (tails-central G f A are ds cover-sources) (tails-order G f A are ds cover-sources) e

  pub cover-joined : {u v : List ℤ} → Joined (flat (rowed (cover_on A ds))) u v
      → G.same (value_in G (with_tails G f A is (entry_elements G f A ds)) u) (value_in G (with_tails G f A is (entry_elements G f A ds)) v)
  cover-joined c = value_in-joined G (flat (rowed (cover_on A ds))) h cover-relators c

  source_row : (d : Definition) → IsSourceOf A d → IsRow p q (row_at (cover_on A ds) d)
  source_row d s =
      subst (λ (x : List ℕ). IsRow p q x) (sym (row_at-source A ds d (source-by_name A is d s)))
      (row_from_normal p q (row_of q (place_in ds d)) (row_of-normal p q (place_in ds d) (omega arith)))

  module _ (bs : List BasisRow) (reduced : IsReduced A.presentation.prime (length ds) bs)
      (trivial : All (λ (r : List ℕ).
      G.same (value_in G (with_tails G f A is (entry_elements G f A ds)) (word_from A.presentation.rank r)) G.one) (rows_of bs)) where
    abbrev K : List ℕ
    K = kept_columns (length ds) bs

    abbrev rows : List (List ℕ)
    rows = kept_rows A.presentation.prime (length ds) bs

    abbrev kept : List Definition
    kept = sources_at (kept_columns (length ds) bs) ds

    abbrev h' : List G.carrier
    h' = with_tails G f A is (entry_elements G f A kept)

    pub kept-sources : All (IsSourceOf A) (sources_at (kept_columns (length ds) bs) ds)
    kept-sources i d l =
        let long = length-map K (λ (c : ℕ). get_or ds (c - 1) (image 0)) in
        let at = kept_at q bs i (omega arith) in
        let first = at.first in
        let last = at.last in
        subst (IsSourceOf A) (sym (get_or-map (λ (c : ℕ). get_or ds (c - 1) (image 0)) K i 0 d (omega arith)))
        (cover-sources (get_or K i 0 - 1) (image 0) (omega arith))

    -- the letters of the kept tails
    abbrev letters : List (List ℤ)
    letters = generators n ++ map (λ (c : ℕ). letter (n + (c - 1))) K

    letters-front : (i : ℕ) → i < n → get_or letters i [] ≡ letter i
    letters-front i l =
        let c = length-letters_from 0 n in
        get_or_append_left (generators n) (map (λ (c : ℕ). letter (n + (c - 1))) K) [] i (omega arith) ∙ get_or-generators n i l

    letters-back : (t : ℕ) → t < length K → get_or letters (n + t) [] ≡ letter (n + (get_or K t 0 - 1))
    letters-back t l =
        ap (λ (m : ℕ). get_or letters (m + t) []) (sym (length-letters_from 0 n))
        ∙ get_or-append-add (generators n) (map (λ (c : ℕ). letter (n + (c - 1))) K) t []
        ∙ get_or-map (λ (c : ℕ). letter (n + (c - 1))) K t 0 [] l

    letters-units : (t : ℕ) → t < length (kept_units q bs) → get_or letters (n + t) [] ≡ word_from n (get_or (kept_units q bs) t [])
    letters-units t l =
        let long = length-map K (unit_row q) in
        let within : t < length K = omega arith in
        let at = kept_at q bs t within in
        let first = at.first in
        let last = at.last in
        let u : ℕ = get_or K t 0 - 1 in
        let same : suc (get_or K t 0 - 1) ≡ get_or K t 0 = omega arith in
        letters-back t within
        ∙ sym (ap (word_from n) (get_or-map (unit_row q) K t 0 [] within)
        ∙ ap (λ (c : ℕ). word_from n (unit_row q c)) (sym same)
        ∙ word_from-unit_row n q u (omega arith))

    -- their values
    front-value : (i : ℕ) → i < n → G.same (get_or (map (λ (w : List ℤ). value_in G h w) letters) i G.one) (get_or h' i G.one)
    front-value i l =
        let c = length-spelled_in G f A is in
        G.transitive (same_from_equal G (entry-map (λ (w : List ℤ). value_in G h w) letters i [] ∙ ap (value_in G h) (letters-front i l)))
        (G.transitive (value_in-letter G h (pos (suc i)))
        (same_from_equal G
        (get_or_append_left (spelled_in G f A) (entry_elements G f A ds) G.one i (omega arith)
        ∙ sym (get_or_append_left (spelled_in G f A) (entry_elements G f A kept) G.one i (omega arith)))))

    back-value : (t : ℕ) → t < length K
        → G.same (get_or (map (λ (w : List ℤ). value_in G h w) letters) (n + t) G.one) (get_or h' (n + t) G.one)
    back-value t l =
        let at = kept_at q bs t l in
        let first = at.first in
        let last = at.last in
        let u : ℕ = get_or K t 0 - 1 in
        let long = length-map K (λ (c : ℕ). get_or ds (c - 1) (image 0)) in
        let old : get_or (entry_elements G f A ds) u G.one ≡ value_in G f (entry_word A (get_or ds u (image 0))) =
        get_or-map (λ (d : Definition). value_in G f (entry_word A d)) ds u (image 0) G.one (omega arith) in
        let new : get_or (entry_elements G f A kept) t G.one ≡ value_in G f (entry_word A (get_or ds u (image 0))) =
        get_or-map (λ (d : Definition). value_in G f (entry_word A d)) kept t (image 0) G.one (omega arith)
        ∙ ap (λ (d : Definition). value_in G f (entry_word A d)) (get_or-map (λ (c : ℕ). get_or ds (c - 1) (image 0)) K t 0 (image 0) l) in
        G.transitive (same_from_equal G
        (entry-map (λ (w : List ℤ). value_in G h w) letters (n + t) [] ∙ ap (value_in G h) (letters-back t l)))
        (G.transitive (value_in-tail G f A is (entry_elements G f A ds) u)
        (same_from_equal G (old ∙ sym new ∙ sym (get_or-tail G f A is (entry_elements G f A kept) t))))

    letter-values : (i : ℕ) → i < n + length K → G.same (get_or (map (λ (w : List ℤ). value_in G h w) letters) i G.one) (get_or h' i G.one)
    letter-values i l = elim (cases_lt i n) [
      | inl before ↦ front-value i before
      | inr after ↦
          let place : n + (i - n) ≡ i = omega arith in
          subst (λ (j : ℕ). G.same (get_or (map (λ (w : List ℤ). value_in G h w) letters) j G.one) (get_or h' j G.one)) place
          (back-value (i - n) (omega arith))
    ]

    -- a row over the kept tails, as a combination of the tails
    combination-value : (y : List ℕ) → IsRow p (length K) y
        → G.same (value_in G h (word_from n (combine p q y (kept_units q bs)))) (value_in G h' (word_from n y))
    combination-value y row =
        let count = row.count in
        let long = length-map K (unit_row q) in
        G.transitive
        (G.symmetric
        (cover-joined
        (row_words-combine (rowed (cover_on A ds)) cover-is.presentation (omega arith) letters n y (kept_units q bs) (omega arith)
        (AreRows-unit_rows p q K some) letters-units)))
        (G.transitive (value_in-sub G h (word_from n y) letters)
        (value_in-same G (n + length K) (map (λ (w : List ℤ). value_in G h w) letters) h' letter-values (word_from n y)
        (HasLetters-word_from (n + length K) n y (omega arith))))

    -- a row and the row that it is carried to
    carried-value : (x : List ℕ) → IsRow p q x
        → G.same (value_in G h (word_from n x)) (value_in G h' (word_from n (carried p (length K) rows x)))
    carried-value x row =
        let y : List ℕ = carried p (length K) rows x in
        G.transitive
        (difference-value G (rowed (cover_on A ds)) cover-is.presentation some h cover-relators x (combine p q y (kept_units q bs)) row
        (kept_units-rows p q some bs reduced y)
        (span-one G (rowed (cover_on A ds)) cover-is.presentation some h cover-relators (rows_of bs)
        (AreRows-reduced p q bs reduced) trivial
        (difference p x (combine p q y (kept_units q bs))) (carried-in_span p q some bs reduced x row)))
        (combination-value y (carried-is_row p q some bs reduced x))

    -- the row of a relation or an image
    pub row_at-carried : (d : Definition) → IsSourceOf A d
        → row_at (carried_answer (length (kept_columns (length ds) bs)) (kept_rows A.presentation.prime (length ds) bs) (cover_on A ds)) d
        ≡ carried A.presentation.prime (length (kept_columns (length ds) bs)) (kept_rows A.presentation.prime (length ds) bs)
        (row_at (cover_on A ds) d)
    row_at-carried (image zero) s = absurd s
    row_at-carried (image (suc i)) s =
        let c = cover-is.image_count in
        let m = is.image_count in
        let l : i < length A.images = s in
        get_or-map (carried p (length K) rows) (cover_on A ds).image_rows i [] [] (omega arith)
    row_at-carried (commutator zero i) s = absurd s
    row_at-carried (commutator (suc j) zero) s = absurd s
    row_at-carried (commutator (suc j) (suc i)) s =
        commutator_row-carried (rowed (cover_on A ds)) cover-is.presentation (omega arith) (length K) rows
        (kept_rows-are_rows p q some bs reduced) j i s.0 s.1
    row_at-carried (power zero) s = absurd s
    row_at-carried (power (suc j)) s =
        power_row-carried (rowed (cover_on A ds)) cover-is.presentation (omega arith) (length K) rows
        (kept_rows-are_rows p q some bs reduced) j s

    pub kept-entries : (d : Definition) → IsSourceOf A d
        → G.same (value_in G f (entry_word A d))
        (value_in G (with_tails G f A is (entry_elements G f A (sources_at (kept_columns (length ds) bs) ds)))
        (tails_word (carried_answer (length (kept_columns (length ds) bs)) (kept_rows A.presentation.prime (length ds) bs) (cover_on A ds))
        (row_at (carried_answer (length (kept_columns (length ds) bs)) (kept_rows A.presentation.prime (length ds) bs) (cover_on A ds)) d)))
    kept-entries d s =
        G.transitive (cover-entries G f A is ds left_out d s)
        (G.transitive (carried-value (row_at (cover_on A ds) d) (source_row d s))
        (same_from_equal G (ap (λ (x : List ℕ). value_in G h' (word_from n x)) (sym (row_at-carried d s)))))
