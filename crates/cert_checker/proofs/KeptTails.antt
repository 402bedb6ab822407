-- The tails that lines keep: one number after the other, and which of them may be kept.
use Rattle.std.proofs.Common.{◌≡◌, ◌↔◌, ◌<◌, ◌≤◌, ◌+◌, ◌-◌, ℕ, zero, suc, Bool, true, false, not, cond, List, [], ◌∷◌, ◌++◌, get_or, length}
use Rattle.std.proofs.Common.{map, take, filter, refl, ap, sym, ◌∙◌, subst, arith, append-nil}
use Rattle.std.specs.List.{All}
use Rattle.std.proofs.lemmas.List.{take_more, take_all, map-append, length-map, get_or-map}
use Rattle.std.proofs.lemmas.List.Elements.{filter-append, All-nil, All-cons, All-append}
use Rattle.pq_base.specs.Presentation.{word_from, power_side, commutator_side}
use Rattle.pq_base.specs.Answer.{Answer, Definition as Source}
use Rattle.pq_base.specs.Answer.Definition.{image}
use Rattle.pq_base.specs.Canonical.{numbers_from}
use Rattle.pq_base.proofs.NumberLists.{numbers-more}
use Rattle.pc_presentation.specs.declared.relation.Relation.{Relation}
use Rattle.pc_presentation.specs.declared.relation.Relation.TheVariants.{Power, Commutator}
use Rattle.pc_presentation.specs.Syllable.{syllables_of}
use Rattle.pc_presentation.specs.Relation.{IsRelation, side_start}
use Rattle.pc_presentation.specs.Pcp.{right_side}
use Rattle.p_cover.specs.Sources.{relation_source}
use Rattle.p_cover.specs.Covers.{CoverOf, IsCover}
use Rattle.p_cover.specs.CoverLaws.{IsSource}
use Rattle.p_cover.proofs.WantMembers.{part-sources}
use Rattle.cover_quotient.specs.Kept.{is_listed}
use Rattle.cover_quotient.specs.NextAnswer.{sources_at}
use Rattle.cover_quotient.specs.NextParts.{IsPlace}
use Rattle.cover_quotient.specs.Defining.{HasEmptySide}
use Rattle.derivation_log.specs.Certificates.{TailLine}
use Rattle.cert_checker.specs.KeptTails.{tails_of, kept_tails}

-- one tail more
module _ (k : ℕ) (lines : List TailLine) where
  one-more : kept_tails (k + 1) lines ≡ kept_tails k lines ++ cond (not (is_listed (k + 1) (tails_of lines))) ((k + 1) ∷ []) []
  one-more =
      ap (filter (λ t. not (is_listed t (tails_of lines)))) (numbers-more k)
      ∙ filter-append (λ t. not (is_listed t (tails_of lines))) (numbers_from 1 k) ((k + 1) ∷ [])

  pub kept-without_line : is_listed (k + 1) (tails_of lines) ≡ false → kept_tails (k + 1) lines ≡ kept_tails k lines ++ (k + 1) ∷ []
  kept-without_line none = one-more ∙ ap (λ (b : Bool). kept_tails k lines ++ cond (not b) ((k + 1) ∷ []) []) none

  pub kept-with_line : is_listed (k + 1) (tails_of lines) ≡ true → kept_tails (k + 1) lines ≡ kept_tails k lines
  kept-with_line listed =
      one-more ∙ ap (λ (b : Bool). kept_tails k lines ++ cond (not b) ((k + 1) ∷ []) []) listed ∙ append-nil (kept_tails k lines)

-- a word without letters is the empty sparse word
no_letters : (k m : ℕ) (e : List ℕ) → length (syllables_of k e) ≡ 0 → word_from m e ≡ []
no_letters k m [] h = refl
no_letters k m (zero ∷ es) h = no_letters (suc k) (suc m) es h
no_letters k m (suc e ∷ es) h = absurd (omega arith)

no_syllables : (k m : ℕ) (e : List ℕ) → word_from m e ≡ [] → length (syllables_of k e) ≡ 0
no_syllables k m [] h = refl
no_syllables k m (zero ∷ es) h = no_syllables (suc k) (suc m) es h
no_syllables k m (suc e ∷ es) h = cc

empty_sides : (k m i : ℕ) (e : List ℕ) → (length (syllables_of k e) ≡ 0) ↔ (word_from m e ≡ [])
empty_sides k m i e = (no_letters k m e, no_syllables k m e)

pub empty-decided : (A : Answer) (n : ℕ) (r : Relation) → IsRelation n r
    → ((length (syllables_of (side_start r) (right_side A.presentation r)) ≡ 0) ↔ HasEmptySide A (relation_source r))
empty-decided A n (Power zero) h = let first = h.0 in absurd (omega arith)
empty-decided A n (Power (suc i)) h =
    let place : suc i - 1 ≡ i = omega arith in
    subst (λ (k : ℕ). (length (syllables_of (suc i) (power_side A.presentation k)) ≡ 0)
    ↔ (word_from (suc i) (power_side A.presentation i) ≡ [])) (sym place) (empty_sides (suc i) (suc i) i (power_side A.presentation i))
empty-decided A n (Commutator zero i) h = let less = h.1 in absurd (omega arith)
empty-decided A n (Commutator (suc j) zero) h = let first = h.0 in absurd (omega arith)
empty-decided A n (Commutator (suc j) (suc i)) h =
    let place : suc j - 1 ≡ j = omega arith in
    let inner : suc i - 1 ≡ i = omega arith in
    subst (λ (k : ℕ). (length (syllables_of (suc j) (commutator_side A.presentation k (suc i - 1))) ≡ 0)
    ↔ (word_from (suc j) (commutator_side A.presentation j i) ≡ [])) (sym place)
    (subst (λ (k : ℕ). (length (syllables_of (suc j) (commutator_side A.presentation j k)) ≡ 0)
    ↔ (word_from (suc j) (commutator_side A.presentation j i) ≡ [])) (sym inner)
    (empty_sides (suc j) (suc j) i (commutator_side A.presentation j i)))

-- what a tail of a cover comes from is a relation or an image of its answer
pub source-is : (C : CoverOf) → IsCover C → (t : ℕ) → IsPlace C.sources t → IsSource C.answer (get_or C.sources (t - 1) (image 0))
source-is C cover t place =
    let first = place.first in
    let last = place.last in
    part-sources C.answer cover.sources (t - 1) (image 0) (omega arith)

-- what some tails come from
module _ (P : Source → Type 0) (sources : List Source) (kept : List ℕ) (i : ℕ) where
  abbrev source : ℕ → Source
  source t = get_or sources (t - 1) (image 0)

  abbrev here : ℕ
  here = get_or kept i 0

  pub sources-more : (d : Source) → i < length kept → d ≡ get_or sources (here - 1) (image 0) → All P (sources_at (take i kept) sources)
      → P d
      → All P (sources_at (take (i + 1) kept) sources)
  sources-more d l from all holds =
      subst (All P) (sym (ap (map source) (take_more kept i 0 l) ∙ map-append source (take i kept) (here ∷ [])))
      (All-append P (map source (take i kept)) (source here ∷ []) all (All-cons P (source here) [] (subst P from holds) (All-nil P)))

  pub sources-whole : length kept ≤ i → All P (sources_at (take i kept) sources) → All P (sources_at kept sources)
  sources-whole l all = subst (λ (ts : List ℕ). All P (sources_at ts sources)) (take_all i kept l) all

  pub sources-entry : (d : Source) → i < length kept → d ≡ get_or sources (here - 1) (image 0) → All P (sources_at kept sources) → P d
  sources-entry d l from all =
      let long = length-map kept source in
      subst P (get_or-map source kept i 0 d l ∙ sym from) (all i d (omega (arith, l, long)))
