-- A cover is an answer with rows: the row of a source is that of its place, and definitions have the row of zeros.
use Rattle.std.proofs.Common.{◌≡◌, ◌<◌, ◌≤◌, ◌+◌, ◌-◌, ℕ, zero, suc, true, not, Option, None, List, [], ◌∷◌, get_or, length, map, refl, ap}
use Rattle.std.proofs.Common.{sym, ◌∙◌, subst, arith}
use Rattle.std.proofs.lemmas.Bool.{false≢true, or_left, or_right}
use Rattle.std.proofs.lemmas.List.{length-map}
use Rattle.pq_base.specs.Presentation.{IsNormal}
use Rattle.pq_base.specs.Answer.{Answer, Definition as Source, IsAnswer, HasDefinition, AreNormal, definition_at}
use Rattle.pq_base.specs.Answer.Definition.{image, commutator, power}
use Rattle.pq_base.specs.Canonical.{numbers_from, same_definition, is_among}
use Rattle.pq_base.proofs.vectors.CanonicalTests.{same-definition_refl}
use Rattle.pc_presentation.specs.declared.relation.Relation.{Relation}
use Rattle.pc_presentation.specs.declared.relation.Relation.TheVariants.{Power as PowerOf, Commutator as CommutatorOf}
use Rattle.pc_presentation.specs.Relation.{IsRelation, PerRelation, tabulate, per_relation, entry_at}
use Rattle.pc_presentation.specs.Pcp.{HasShape, row_of, tail_rows}
use Rattle.pc_presentation.specs.Rowed.{IsRowed}
use Rattle.pc_presentation.proofs.presentations.RelationTables.{tabulate_agree, entry_at-per_relation, per_relation-shape}
use Rattle.pc_presentation.proofs.presentations.PcpLaws.{one_less}
use Rattle.pc_presentation.proofs.rows.TailRowLaws.{row_of-normal}
use Rattle.p_cover.specs.RowedAnswer.{IsRowedAnswer, rowed, row_at}
use Rattle.p_cover.specs.Sources.{relation_source, place_in, IsPartOf}
use Rattle.p_cover.specs.Covers.{covering, cover_on, all_sources}
use Rattle.p_cover.specs.CoverLaws.{IsSource, CoversAreRowedAnswers}
use Rattle.pq_base.proofs.NumberLists.{length-numbers_from, get_or-map_numbers}
use Rattle.p_cover.proofs.PlaceLaws.{place_in-outside}
use Rattle.p_cover.proofs.WantMembers.{part-undefined}

map-tabulate : {X Y : Type 0} (h : X → Y) (n : ℕ) (f : ℕ → X) → map h (tabulate n f) ≡ tabulate n (λ i. h (f i))
map-tabulate h zero f = refl
map-tabulate {X} {Y} h (suc n) f = ap (λ (ys : List Y). h (f 0) ∷ ys) (map-tabulate h n (λ i. f (suc i)))

less_one : (i : ℕ) → suc i - 1 ≡ i
less_one i = omega arith

AreNormal-map : {X : Type 0} (p n : ℕ) (f : X → List ℕ) (xs : List X) → ((x : X) → IsNormal p n (f x)) → AreNormal p n (map f xs)
AreNormal-map p n f [] h = tt
AreNormal-map p n f (x ∷ xs) h = (h x, AreNormal-map p n f xs h)

-- an entry of a list is among its entries
pub among-itself : (ds : List Source) (k : ℕ) → k < length ds → is_among (get_or ds k (image 0)) ds ≡ true
among-itself [] k h = absurd (omega arith)
among-itself (d ∷ ds) zero h = or_left (same_definition d d) (is_among d ds) (same-definition_refl d)
among-itself (d ∷ ds) (suc k) h =
    or_right (same_definition (get_or ds k (image 0)) d) (is_among (get_or ds k (image 0)) ds) (among-itself ds k (omega arith))

-- what defines a generator is a relation or an image
pub definition-source : (A : Answer) (k : ℕ) (d : Source) → IsAnswer A → k < A.presentation.rank → HasDefinition A k d → IsSource A d
definition-source A k (image zero) is l h = absurd h
definition-source A k (image (suc i)) is l h =
    let count : length A.images ≡ length A.names = is.image_count in
    let inside : i < length A.images = h.1 in
    (omega arith, omega arith)
definition-source A k (commutator zero i) is l h = absurd h
definition-source A k (commutator (suc j) zero) is l h = absurd h
definition-source A k (commutator (suc j) (suc i)) is l h =
    let before : i < j = h.1 in
    let earlier : j < k = h.2 in
    (omega arith, omega arith, omega arith)
definition-source A k (power zero) is l h = absurd h
definition-source A k (power (suc j)) is l h =
    let earlier : j < k = h.1 in
    (omega arith, omega arith)

module _ (A : Answer) (ds : List Source) where
  -- the row of a source
  abbrev pub source_row : Source → List ℕ
  source_row d = row_of (length ds) (place_in ds d)

  tail_rows-covering : tail_rows (covering A ds) ≡ per_relation A.presentation.rank (λ r. source_row (relation_source r))
  tail_rows-covering =
      let n : ℕ = A.presentation.rank in
      let tail : Relation → Option ℕ = λ r. place_in ds (relation_source r) in
      let row : Relation → List ℕ = λ r. source_row (relation_source r) in
      ap (λ (ps : List (List ℕ)). let t : PerRelation (List ℕ) =
      record { powers = ps; commutators = (tail_rows (covering A ds)).commutators } in t)
      (map-tabulate (row_of (length ds)) n (λ i. tail (PowerOf (suc i))))
      ∙ ap (λ (cs : List (List (List ℕ))). let t : PerRelation (List ℕ) =
      record { powers = tabulate n (λ i. row (PowerOf (suc i))); commutators = cs } in t)
      (map-tabulate (λ (ts : List (Option ℕ)). map (row_of (length ds)) ts) n (λ j. tabulate j (λ i. tail (CommutatorOf (suc j) (suc i))))
      ∙ tabulate_agree n (λ j. map (row_of (length ds)) (tabulate j (λ i. tail (CommutatorOf (suc j) (suc i)))))
      (λ j. tabulate j (λ i. row (CommutatorOf (suc j) (suc i))))
      (λ j l. map-tabulate (row_of (length ds)) j (λ i. tail (CommutatorOf (suc j) (suc i)))))

  tail_rows-shape : HasShape A.presentation.rank (tail_rows (covering A ds))
  tail_rows-shape =
      subst (λ (t : PerRelation (List ℕ)). HasShape A.presentation.rank t) (sym tail_rows-covering)
      (per_relation-shape A.presentation.rank (λ r. source_row (relation_source r)))

  entry_at-covering : (r : Relation) → IsRelation A.presentation.rank r
      → entry_at [] (tail_rows (covering A ds)) r ≡ source_row (relation_source r)
  entry_at-covering r h =
      ap (λ (t : PerRelation (List ℕ)). entry_at [] t r) tail_rows-covering
      ∙ entry_at-per_relation A.presentation.rank (λ q. source_row (relation_source q)) [] r h

  -- the row of a source in the cover
  pub row_at-source : (d : Source) → IsSource A d → row_at (cover_on A ds) d ≡ source_row d
  row_at-source (image zero) h = absurd (omega (arith, h.0))
  row_at-source (image (suc i)) h =
      let inside : suc i ≤ length A.names = h.1 in
      let place : 1 + i ≡ suc i = omega arith in
      get_or-map_numbers (λ k. source_row (image k)) 1 (length A.names) i [] (omega arith) ∙ ap (λ (k : ℕ). source_row (image k)) place
  row_at-source (commutator zero i) h = absurd (omega (arith, h.1))
  row_at-source (commutator (suc j) zero) h = absurd (omega (arith, h.0))
  row_at-source (commutator (suc j) (suc i)) h =
      let rows : List (List (List ℕ)) = (tail_rows (covering A ds)).commutators in
      ap (λ (k : ℕ). get_or (get_or rows k []) i []) (one_less j)
      ∙ ap (λ (k : ℕ). get_or (get_or rows (suc j - 1) []) k []) (one_less i)
      ∙ entry_at-covering (CommutatorOf (suc j) (suc i)) h
  row_at-source (power zero) h = absurd (omega (arith, h.0))
  row_at-source (power (suc j)) h =
      let rows : List (List ℕ) = (tail_rows (covering A ds)).powers in
      ap (λ (k : ℕ). get_or rows k []) (one_less j) ∙ entry_at-covering (PowerOf (suc j)) h

  module _ (is : IsAnswer A) (two : 2 ≤ A.presentation.prime) where
    source_row-normal : (d : Source) → IsNormal A.presentation.prime (length ds) (source_row d)
    source_row-normal d = row_of-normal A.presentation.prime (length ds) (place_in ds d) two

    entry-normal : (r : Relation) → IsRelation A.presentation.rank r
        → IsNormal A.presentation.prime (length ds) (entry_at [] (tail_rows (covering A ds)) r)
    entry-normal r h =
        subst (IsNormal A.presentation.prime (length ds)) (sym (entry_at-covering r h)) (source_row-normal (relation_source r))

    cover_on-rowed : IsRowed (rowed (cover_on A ds))
    cover_on-rowed = record {
      base = is.presentation;
      power_count = tail_rows-shape.power_count;
      power_rows = λ i h.
          subst (λ (k : ℕ). IsNormal A.presentation.prime (length ds) (get_or (tail_rows (covering A ds)).powers k [])) (less_one i)
          (entry-normal (PowerOf (suc i)) (omega arith, omega arith));
      commutator_count = tail_rows-shape.row_count;
      commutator_counts = tail_rows-shape.row_lengths;
      commutator_rows = λ j i h l.
          subst (λ (k : ℕ). IsNormal A.presentation.prime (length ds) (get_or (get_or (tail_rows (covering A ds)).commutators j []) k []))
          (less_one i)
          (subst (λ (k : ℕ). IsNormal A.presentation.prime (length ds)
          (get_or (get_or (tail_rows (covering A ds)).commutators k []) (suc i - 1) [])) (less_one j)
          (entry-normal (CommutatorOf (suc j) (suc i)) (omega arith, omega arith, omega arith)));
    }

    module _ (part : IsPartOf ds (all_sources A)) where
      -- what defines a generator has no place
      pub definition-place : (k : ℕ) → k < A.presentation.rank → place_in ds (definition_at A k) ≡ None
      definition-place k h =
          let count : length A.definitions ≡ A.presentation.rank = is.definition_count in
          place_in-outside (λ d. not (is_among d A.definitions) ≡ true) ds (definition_at A k) (part-undefined A part)
          (λ (n : not (is_among (definition_at A k) A.definitions) ≡ true).
          false≢true (ap not (sym (among-itself A.definitions k (omega arith))) ∙ n))

      cover_on-is : IsRowedAnswer (cover_on A ds)
      cover_on-is = record {
        answer = is;
        presentation = cover_on-rowed;
        image_count = length-map (numbers_from 1 (length A.names)) (λ i. source_row (image i)) ∙ length-numbers_from 1 (length A.names);
        image_rows =
            AreNormal-map A.presentation.prime (length ds) (λ i. source_row (image i)) (numbers_from 1 (length A.names))
            (λ i. source_row-normal (image i));
        definitions = λ k h.
            row_at-source (definition_at A k) (definition-source A k (definition_at A k) is h (is.definitions k h))
            ∙ ap (row_of (length ds)) (definition-place k h);
      }

pub covers_are_rowed_answers : CoversAreRowedAnswers
covers_are_rowed_answers A ds is part = (cover_on-is A ds is is.presentation.prime part, refl)
