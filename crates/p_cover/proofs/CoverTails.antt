-- The tails of a cover: the tail of a relation is its place in the list of sources, and what is out of range has none.
use Rattle.std.proofs.Common.{◌≡◌, ◌≤◌, ◌+◌, ◌-◌, ℕ, None, List, get_or, length, ap, ◌∙◌, arith}
use Rattle.std.proofs.lemmas.List.{length-map}
use Rattle.pq_base.specs.Answer.{Answer, Definition as Source}
use Rattle.pq_base.specs.Answer.Definition.{image}
use Rattle.pq_base.specs.Canonical.{numbers_from}
use Rattle.pc_presentation.specs.declared.relation.Relation.{Relation}
use Rattle.pc_presentation.specs.declared.relation.Relation.TheVariants.{Power as PowerOf, Commutator as CommutatorOf}
use Rattle.pc_presentation.specs.Relation.{IsRelation}
use Rattle.pc_presentation.specs.Pcp.{tail_of}
use Rattle.pc_presentation.proofs.presentations.RelationTables.{entry_at-per_relation}
use Rattle.p_cover.specs.Sources.{relation_source, place_in, IsPartOf}
use Rattle.p_cover.specs.Covers.{covering, all_sources}
use Rattle.p_cover.specs.ImageTails.{tails_of_images}
use Rattle.p_cover.specs.CoverLaws.{IsSource}
use Rattle.pq_base.proofs.NumberLists.{length-numbers_from, get_or-map_numbers}
use Rattle.p_cover.proofs.PlaceLaws.{place_in-outside}
use Rattle.p_cover.proofs.WantMembers.{part-sources}

pub relation-source : (A : Answer) (r : Relation) → IsRelation A.presentation.rank r → IsSource A (relation_source r)
relation-source A (PowerOf i) h = h
relation-source A (CommutatorOf j i) h = h

pub source-relation : (A : Answer) (r : Relation) → IsSource A (relation_source r) → IsRelation A.presentation.rank r
source-relation A (PowerOf i) h = h
source-relation A (CommutatorOf j i) h = h

pub tail_of-covering : (A : Answer) (ds : List Source) (r : Relation) → IsRelation A.presentation.rank r
    → tail_of (covering A ds) r ≡ place_in ds (relation_source r)
tail_of-covering A ds r h = entry_at-per_relation A.presentation.rank (λ q. place_in ds (relation_source q)) None r h

module _ (A : Answer) (ds : List Source) (part : IsPartOf ds (all_sources A)) where
  pub no_place : (d : Source) → ¬ IsSource A d → place_in ds d ≡ None
  no_place d n = place_in-outside (IsSource A) ds d (part-sources A part) n

  pub no_relation : (r : Relation) → ¬ IsRelation A.presentation.rank r → place_in ds (relation_source r) ≡ None
  no_relation r n = no_place (relation_source r) (λ h. n (source-relation A r h))

  pub no_image : (i : ℕ) → (1 ≤ i → i ≤ length A.names → ⊥) → place_in ds (image i) ≡ None
  no_image i n = no_place (image i) (λ h. n h.0 h.1)

-- the list of the tails of images
module _ (A : Answer) (ds : List Source) where
  pub length-tails_of_images : length (tails_of_images A ds) ≡ length A.names
  length-tails_of_images =
      length-map (numbers_from 1 (length A.names)) (λ i. place_in ds (image i)) ∙ length-numbers_from 1 (length A.names)

  pub image_place : (i : ℕ) → 1 ≤ i → i ≤ length A.names → get_or (tails_of_images A ds) (i - 1) None ≡ place_in ds (image i)
  image_place i first last =
      let place : 1 + (i - 1) ≡ i = omega arith in
      get_or-map_numbers (λ k. place_in ds (image k)) 1 (length A.names) (i - 1) None (omega arith)
      ∙ ap (λ (k : ℕ). place_in ds (image k)) place
