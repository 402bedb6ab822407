-- The turns of the next answer at its last class: along the tails in order a kept one defines the next generator, and its
-- new part is this generator alone; one with a pivot defines none, and its new part has only kept tails before it. A source
-- that the cover leaves out defines none, and has no new part.
use Rattle.std.proofs.Common.{◌≡◌, ◌≢◌, ℕ, zero, suc, ◌+◌, ◌-◌, ◌<◌, ◌≤◌, Bool, cond, ne_eqb, Option, None, Some, List, [], ◌∷◌, get_or}
use Rattle.std.proofs.Common.{length, drop, inl, inr, ⊎_elim, refl, ap, ap₂, sym, ◌∙◌, subst, arith}
use Rattle.std.specs.List.{AllPairs}
use Rattle.std.proofs.lemmas.Bool.{cases_lt, cases_eq}
use Rattle.std.proofs.lemmas.List.{get_or_past, length-map, get_or-map}
use Rattle.std.proofs.lemmas.List.Kept.{AllPairs-from_increasing}
use Rattle.pq_base.specs.Answer.{Answer, Definition as Source, class_of, definition_at}
use Rattle.pq_base.specs.Answer.Definition.{image}
use Rattle.pq_base.specs.Canonical.{rank_up_to, new_count, new_part, unit, IsAllowed, DefinesNext, DefinesNone, AreMet}
use Rattle.pq_base.specs.Elementary.{zeros}
use Rattle.pq_base.proofs.ListMembers.{In, In-get_or}
use Rattle.fp_rows.proofs.EntryLaws.{at_column-zeros}
use Rattle.fp_echelon.specs.Span.{AreRows}
use Rattle.fp_echelon.specs.Reduced.{BasisRow}
use Rattle.pc_presentation.specs.Pcp.{unit_row, row_of}
use Rattle.pq_base.proofs.PrimeLaws.{offered-two}
use Rattle.p_cover.specs.RowedAnswer.{IsRowedAnswer, rowed}
use Rattle.p_cover.specs.Covers.{CoverOf, all_sources, rowed_cover}
use Rattle.p_cover.proofs.ListPairs.{AllPairs-part}
use Rattle.p_cover.proofs.WantParts.{all_sources-apart}
use Rattle.p_cover.proofs.PlaceLaws.{place_from-has}
use Rattle.p_cover.proofs.CoverRows.{row_at-source}
use Rattle.p_cover.specs.Sources.{place_in}
use Rattle.p_cover.specs.CoverLaws.{IsSource}
use Rattle.cover_quotient.specs.AnswerLaws.{IsBasisOver}
use Rattle.cover_quotient.specs.Carried.{carried}
use Rattle.cover_quotient.specs.Kept.{kept_columns, kept_rows}
use Rattle.cover_quotient.specs.NextAnswer.{kept_sources, cover_modulo, eliminated}
use Rattle.cover_quotient.specs.Defining.{KeptMayDefine}
use Rattle.cover_quotient.proofs.next_answers.AnswerLaws.{quotients_are_rowed_answers}
use Rattle.cover_quotient.proofs.canonical_answers.EarlierTurns.{wanted-sources}
use Rattle.cover_quotient.proofs.canonical_answers.LeftOutTurns.{met-whole}
use Rattle.cover_quotient.proofs.carried_rows.CarriedPresentations.{carry-zeros}
use Rattle.p_cover.proofs.SourceNumbers.{source-by_place}
use Rattle.cover_quotient.proofs.carried_rows.CarriedAnswers.{row_at-carried}
use Rattle.cover_quotient.proofs.kept_tails.CoverUnits.{HasUnitRows, cover-units}
use Rattle.cover_quotient.proofs.kept_tails.KeptColumns.{kept_at, kept_columns_rise}
use Rattle.cover_quotient.proofs.kept_tails.KeptRows.{kept_rows-are_rows}
use Rattle.cover_quotient.proofs.kept_tails.KeptUnits.{carried-unit, carried-shape}
use Rattle.cover_quotient.proofs.next_answers.NextEntries.{new-definition, allowed-same, part-row}
use Rattle.cover_quotient.proofs.carried_rows.UnitRows.{unit_row-zero}
use Rattle.cover_quotient.proofs.carried_rows.CarriedRows.{carried-row}

-- both ways to write a unit
unit_row-unit : (n i : ℕ) → unit_row n (suc i) ≡ unit n i
unit_row-unit zero i = refl
unit_row-unit (suc n) zero = ap (λ (l : List ℕ). 1 ∷ l) (unit_row-zero n)
unit_row-unit (suc n) (suc i) =
    let less : suc (suc i) - 1 ≡ suc i = omega arith in
    ap (λ (b : Bool). cond b 1 0 ∷ unit_row n (suc (suc i) - 1)) (ne_eqb (suc (suc i)) 1 (λ e. omega arith))
    ∙ ap (λ (u : ℕ). 0 ∷ unit_row n u) less ∙ ap (λ (l : List ℕ). 0 ∷ l) (unit_row-unit n i)

-- the rest of a list
rest-at : (xs : List Source) (t : ℕ) → t < length xs → drop t xs ≡ get_or xs t (image 0) ∷ drop (suc t) xs
rest-at [] t l = absurd (omega arith)
rest-at (x ∷ xs) zero l = refl
rest-at (x ∷ xs) (suc t) l = rest-at xs t (omega arith)

rest-past : (xs : List Source) (t : ℕ) → length xs ≤ t → drop t xs ≡ []
rest-past [] zero l = refl
rest-past [] (suc t) l = refl
rest-past (x ∷ xs) zero l = absurd (omega arith)
rest-past (x ∷ xs) (suc t) l = rest-past xs t (omega arith)

module _ (C : CoverOf) (bs : List BasisRow) (basis : IsBasisOver C bs) (may : KeptMayDefine C bs)
    (start : rank_up_to (eliminated C bs) (class_of C.answer) ≡ C.answer.presentation.rank)
    (stop : rank_up_to (eliminated C bs) (suc (class_of C.answer))
    ≡ C.answer.presentation.rank + length (kept_columns (length C.sources) bs)) where
  abbrev A : Answer
  A = C.answer

  abbrev N : Answer
  N = eliminated C bs

  abbrev k : ℕ
  k = class_of C.answer

  abbrev p : ℕ
  p = C.answer.presentation.prime

  abbrev q : ℕ
  q = length C.sources

  abbrev K : List ℕ
  K = kept_columns (length C.sources) bs

  abbrev s : ℕ
  s = length (kept_columns (length C.sources) bs)

  abbrev rows : List (List ℕ)
  rows = kept_rows C.answer.presentation.prime (length C.sources) bs

  abbrev column : ℕ → ℕ
  column g = get_or (kept_columns (length C.sources) bs) g 0

  abbrev source : ℕ → Source
  source t = get_or C.sources t (image 0)

  big : 1 < p
  big = offered-two C.answer.presentation.prime basis.prime

  units : HasUnitRows C
  units = cover-units C basis.cover big

  are : AreRows p s rows
  are = kept_rows-are_rows p q big bs basis.reduced

  is : IsRowedAnswer (cover_modulo C bs)
  is = quotients_are_rowed_answers C bs basis

  count : new_count N k ≡ s
  count = ap₂ (λ (a b : ℕ). a - b) stop start ∙ omega arith

  -- the new part of a source
  source-part : (t : ℕ) → t < q → new_part N k (source t) ≡ carried p s rows (unit_row q (suc t))
  source-part t l =
      part-row (cover_modulo C bs) is (kept_sources C bs) (class_of C.answer) start stop (source t) (units.sources t l)
      ∙ row_at-carried (rowed_cover C) units.rowed (omega arith) s rows are (source t) (units.sources t l)
      ∙ ap (carried p s rows) (units.rows t l)

  -- the definition of a new generator
  kept-definition : (g : ℕ) → g < s → definition_at N (rank_up_to N k + g) ≡ source (column g - 1)
  kept-definition g l =
      ap (λ (r : ℕ). definition_at (eliminated C bs) (r + g)) start
      ∙ new-definition (cover_modulo C bs) is (kept_sources C bs) g
      ∙ get_or-map (λ (c : ℕ). get_or C.sources (c - 1) (image 0)) K g 0 (image 0) l

  -- sources at two places are two sources
  once : AllPairs (λ d e. d ≢ e) C.sources
  once = AllPairs-part (λ d e. d ≢ e) basis.cover.sources (all_sources-apart C.answer)

  one_place : (t u : ℕ) → t < q → u < q → source t ≡ source u → t ≡ u
  one_place t u l m e =
      ⊎_elim (λ (same : t ≡ u). same)
      (λ (other : t ≢ u). elim (cases_lt t u) [
        | inl before ↦ absurd (once t u (image 0) before m e)
        | inr after ↦ absurd (once u t (image 0) (omega arith) l (sym e))
      ])
      (cases_eq t u)

  columns-rise : (g h : ℕ) → g < h → h < s → column g < column h
  columns-rise g h l m = AllPairs-from_increasing (kept_columns (length C.sources) bs) (kept_columns_rise (length C.sources) bs) g h 0 l m

  -- the first so many kept columns are among the first t, and the others come later
  record IsTurn (t met : ℕ) : Type 0 where
    pub within : met ≤ length (kept_columns (length C.sources) bs)
    pub passed : (g : ℕ) → g < met → get_or (kept_columns (length C.sources) bs) g 0 ≤ t
    pub left : (g : ℕ) → met ≤ g → g < length (kept_columns (length C.sources) bs) → t < get_or (kept_columns (length C.sources) bs) g 0

  module _ (t met : ℕ) (last : t < length C.sources) (turn : IsTurn t met) where
    module _ (room : met < length (kept_columns (length C.sources) bs))
        (here : get_or (kept_columns (length C.sources) bs) met 0 ≡ suc t) where
      kept-next : DefinesNext N k met (source t)
      kept-next =
          let many = count in
          let place : column met - 1 ≡ t = omega arith in
          let long : length (kept_sources C bs) ≡ s = length-map K (λ (c : ℕ). get_or C.sources (c - 1) (image 0)) in
          let kept : get_or (kept_sources C bs) met (image 0) ≡ source t =
          get_or-map (λ (c : ℕ). get_or C.sources (c - 1) (image 0)) K met 0 (image 0) room
          ∙ ap (λ (u : ℕ). get_or C.sources u (image 0)) place in
          let allowed_there : IsAllowed A k (source t) =
          subst (λ (d : Source). IsAllowed C.answer (class_of C.answer) d) kept
          (may met (image 0) (omega arith)).allowed in
          record {
            one_left = omega arith;
            defined = kept-definition met room ∙ ap (λ (u : ℕ). get_or C.sources u (image 0)) place;
            new_generator =
                source-part t last ∙ ap (λ (c : ℕ). carried p s rows (unit_row q c)) (sym here)
                ∙ carried-unit p q big bs basis.reduced met room ∙ unit_row-unit s met ∙ ap (λ (c : ℕ). unit c met) (sym count);
            allowed =
                allowed-same (cover_modulo C bs) is (kept_sources C bs) (class_of C.answer) (source t) (units.sources t last) allowed_there;
          }

      next-turn : IsTurn (suc t) (suc met)
      next-turn = record {
        within = omega arith;
        passed = λ g l.
            ⊎_elim (λ (same : g ≡ met). let e : column g ≡ column met = ap column same in omega arith)
            (λ (other : g ≢ met). let before = turn.passed g (omega arith) in omega arith) (cases_eq g met);
        left = λ g l m. let rises = columns-rise met g (omega arith) m in omega arith;
      }

    module _ (later : (g : ℕ) → met ≤ g → g < length (kept_columns (length C.sources) bs)
        → suc t < get_or (kept_columns (length C.sources) bs) g 0) where
      not-defined : (g : ℕ) → g < new_count N k → definition_at N (rank_up_to N k + g) ≢ source t
      not-defined g l e =
          let many = count in
          let inside : g < s = omega arith in
          let at = kept_at q bs g inside in
          let first = at.first in
          let end = at.last in
          let same : column g - 1 ≡ t = one_place (column g - 1) t (omega arith) last (sym (kept-definition g inside) ∙ e) in
          elim (cases_lt g met) [
            | inl before ↦ let low = turn.passed g before in absurd (omega arith)
            | inr after ↦ let high = later g (omega arith) inside in absurd (omega arith)
          ]

      pivot-none : DefinesNone N k met (source t)
      pivot-none = record {
        none_defined = not-defined;
        met_alone = λ g l. elim (cases_lt g s) [
          | inl inside ↦
              ap (λ (x : List ℕ). get_or x g 0) (source-part t last)
              ∙ ⊎_elim (λ (zero_there : get_or (carried p s rows (unit_row q (suc t))) g 0 ≡ 0). zero_there)
              (λ (other : get_or (carried p s rows (unit_row q (suc t))) g 0 ≢ 0).
              let low = carried-shape p q big bs basis.reduced (suc t) g inside other in
              let high = later g l inside in
              absurd (omega arith))
              (cases_eq (get_or (carried p s rows (unit_row q (suc t))) g 0) 0)
          | inr beyond ↦
              let long = (carried-row p s (omega arith) rows (unit_row q (suc t)) are).count in
              ap (λ (x : List ℕ). get_or x g 0) (source-part t last)
              ∙ get_or_past (carried p s rows (unit_row q (suc t))) g 0 (omega arith)
        ];
      }

      same-turn : IsTurn (suc t) met
      same-turn = record {
        within = turn.within;
        passed = λ g l. let before = turn.passed g l in omega arith;
        left = later;
      }

  -- from tail t on
  walk : (more t met : ℕ) → t + more ≡ q → IsTurn t met → AreMet N k met (drop t C.sources)
  walk zero t met e turn =
      let many = count in
      let all : met ≡ new_count N k = elim (cases_lt met s) [
        | inl room ↦
            let at = kept_at q bs met room in
            let end = at.last in
            let high = turn.left met (omega arith) room in
            absurd (omega arith)
        | inr full ↦ let most = turn.within in omega arith
      ] in
      subst (λ (ds : List Source). AreMet (eliminated C bs) (class_of C.answer) met ds) (sym (rest-past C.sources t (omega arith))) all
  walk (suc more) t met e turn =
      let last : t < length C.sources = omega arith in
      let pivot : ((g : ℕ) → met ≤ g → g < length (kept_columns (length C.sources) bs)
      → suc t < get_or (kept_columns (length C.sources) bs) g 0)
      → AreMet N k met (source t ∷ drop (suc t) C.sources) =
      λ later. inr (pivot-none t met last turn later, walk more (suc t) met (omega arith) (same-turn t met last turn later)) in
      let step : AreMet N k met (source t ∷ drop (suc t) C.sources) = elim (cases_lt met s) [
        | inl room ↦
            ⊎_elim
            (λ (here : column met ≡ suc t).
            inl (kept-next t met last turn room here, walk more (suc t) (suc met) (omega arith) (next-turn t met last turn room here)))
            (λ (other : column met ≢ suc t).
            pivot
            (λ g l m.
            let high = turn.left met (omega arith) room in
            ⊎_elim (λ (same : met ≡ g). let c : column met ≡ column g = ap column same in omega arith)
            (λ (behind : met ≢ g). let rises = columns-rise met g (omega arith) m in omega arith)
            (cases_eq met g)))
            (cases_eq (column met) (suc t))
        | inr none ↦ pivot (λ g l m. absurd (omega arith))
      ] in
      subst (λ (ds : List Source). AreMet (eliminated C bs) (class_of C.answer) met ds) (sym (rest-at C.sources t last)) step

  kept-sources-met : AreMet (eliminated C bs) (class_of C.answer) 0 C.sources
  kept-sources-met =
      walk q 0 0 (omega arith) (record {
        within = omega arith;
        passed = λ g l. absurd (omega arith);
        left = λ g l m. let at = kept_at q bs g m in let first = at.first in omega arith;
      })

  -- a source that is left out
  module _ (d : Source) (source_is : IsSource C.answer d) (out : In d C.sources → ⊥) where
    no_place : (o : Option ℕ) → place_in C.sources d ≡ o → carried p s rows (row_of q o) ≡ zeros s
    no_place None e = carry-zeros (rowed (rowed_cover C)) units.rowed.presentation (omega arith) s rows are
    no_place (Some t) e =
        let at = place_from-has 1 C.sources d t e in
        let first = at.first in
        let last = at.last in
        let within : t - 1 < length C.sources = omega arith in
        absurd (out (subst (λ (e : Source). In e C.sources) at.entry (In-get_or C.sources (t - 1) (image 0) within)))

    no_part : new_part N k d ≡ zeros s
    no_part =
        let is_source = source-by_place C.answer basis.cover.answer d source_is in
        part-row (cover_modulo C bs) is (kept_sources C bs) (class_of C.answer) start stop d is_source
        ∙ row_at-carried (rowed_cover C) units.rowed (omega arith) s rows are d is_source
        ∙ ap (carried p s rows) (row_at-source C.answer C.sources d source_is)
        ∙ no_place (place_in C.sources d) refl

    left_out-none : (met : ℕ) → DefinesNone N k met d
    left_out-none met = record {
      none_defined = λ g l e.
          let many = count in
          let inside : g < s = omega arith in
          let at = kept_at q bs g inside in
          let first = at.first in
          let end = at.last in
          let within : column g - 1 < length C.sources = omega arith in
          out (subst (λ (f : Source). In f C.sources) (sym (kept-definition g inside) ∙ e)
          (In-get_or C.sources (column g - 1) (image 0) within));
      met_alone = λ g l.
          let one : suc g - 1 ≡ g = omega arith in
          ap (λ (x : List ℕ). get_or x g 0) no_part ∙ ap (λ (m : ℕ). get_or (zeros s) m 0) (sym one) ∙ at_column-zeros s (suc g);
    }

  pub kept-turns : AreMet (eliminated C bs) (class_of C.answer) 0 (all_sources C.answer)
  kept-turns =
      met-whole (eliminated C bs) (class_of C.answer) (IsSource C.answer) C.sources left_out-none basis.cover.sources
      (all_sources-apart C.answer)
      (wanted-sources C.answer (class_of C.answer)) (λ x c i. c) 0 kept-sources-met
