-- Values in a group of the words of a cover, where each tail is what its relation or image fails by, and what the relations
-- and images without a tail fail by is one: what each relation and each image fails by is the value of its row.
use Rattle.std.proofs.Common.{◌≡◌, ℕ, zero, suc, ◌+◌, ◌-◌, ◌<◌, Bool, cond, Option, None, Some, ℤ, List, ◌∷◌, ◌++◌, get_or, length, map}
use Rattle.std.proofs.Common.{refl, ap, sym, ◌∙◌, arith, ne_eqb}
use Rattle.std.proofs.lemmas.List.{get_or-map}
use Rattle.pq_base.specs.Presentation.{letter, word_from}
use Rattle.pq_base.specs.Answer.{Answer, Definition, IsAnswer}
use Rattle.pq_base.specs.Answer.Definition.{image, commutator, power}
use Rattle.pq_base.proofs.words.WordLaws.{word_from-zeros}
use Rattle.pq_base.proofs.groups.Groups.{Group, value_in, same_from_equal}
use Rattle.pc_presentation.specs.Pcp.{unit_row, row_of}
use Rattle.p_cover.specs.RowedAnswer.{row_at, tails_word}
use Rattle.pq_base.specs.EntryWords.{IsSourceOf, entry_word}
use Rattle.p_cover.specs.Sources.{place_in}
use Rattle.p_cover.specs.Covers.{cover_on}
use Rattle.p_cover.specs.CoverLaws.{IsSource}
use Rattle.p_cover.proofs.PlaceLaws.{place_from-has}
use Rattle.p_cover.proofs.CoverRows.{row_at-source}
use Rattle.p_cover.proofs.SourceNumbers.{source-by_name}
use Rattle.cover_quotient.proofs.fitting.TailValues.{with_tails, value_in-tail}
use Rattle.cover_quotient.proofs.next_answers.NextWords.{word_from-unit_row}
use Rattle.cover_quotient.proofs.carried_rows.UnitRows.{unit_row-zero}

module _ (G : Group) (f : List G.carrier) (A : Answer) where
  -- what the relations and images of a list fail by
  abbrev pub entry_elements : List Definition → List G.carrier
  entry_elements ds = map (λ (d : Definition). value_in G f (entry_word A d)) ds

  module _ (is : IsAnswer A) (ds : List Definition)
      (left_out : (d : Definition) → IsSourceOf A d → place_in ds d ≡ None → G.same (value_in G f (entry_word A d)) G.one) where
    abbrev h : List G.carrier
    h = with_tails G f A is (entry_elements ds)

    -- the tail of a place
    pub unit-value : (u : ℕ) → u < length ds
        → G.same (value_in G (with_tails G f A is (entry_elements ds)) (word_from A.presentation.rank (unit_row (length ds) (suc u))))
        (value_in G f (entry_word A (get_or ds u (image 0))))
    unit-value u l =
        G.transitive (same_from_equal G (ap (value_in G h) (word_from-unit_row A.presentation.rank (length ds) u l)))
        (G.transitive (value_in-tail G f A is (entry_elements ds) u)
        (same_from_equal G (get_or-map (λ (d : Definition). value_in G f (entry_word A d)) ds u (image 0) G.one l)))

    by_place : (d : Definition) → IsSourceOf A d → (o : Option ℕ) → place_in ds d ≡ o
        → G.same (value_in G f (entry_word A d)) (value_in G h (word_from A.presentation.rank (row_of (length ds) o)))
    by_place d s None e =
        G.transitive (left_out d s e) (same_from_equal G (ap (value_in G h) (sym (word_from-zeros A.presentation.rank (length ds)))))
    by_place d s (Some zero) e = let at = place_from-has 1 ds d 0 e in let first = at.first in absurd (omega arith)
    by_place d s (Some (suc u)) e =
        let at = place_from-has 1 ds d (suc u) e in
        let last = at.last in
        let one : suc u - 1 ≡ u = omega arith in
        let same : get_or ds u (image 0) ≡ d = ap (λ (i : ℕ). get_or ds i (image 0)) (sym one) ∙ at.entry in
        G.symmetric
        (G.transitive (unit-value u (omega arith)) (same_from_equal G (ap (λ (x : Definition). value_in G f (entry_word A x)) same)))

    pub cover-entries : (d : Definition) → IsSourceOf A d
        → G.same (value_in G f (entry_word A d))
        (value_in G (with_tails G f A is (entry_elements ds)) (tails_word (cover_on A ds) (row_at (cover_on A ds) d)))
    cover-entries d s =
        G.transitive (by_place d s (place_in ds d) refl)
        (same_from_equal G (ap (λ (x : List ℕ). value_in G h (word_from A.presentation.rank x))
        (sym (row_at-source A ds d (source-by_name A is d s)))))
