-- Where tails come from: relations and images, in a list, by their places there.
-- From: the want order, this project's own.
use Rattle.std.specs.Prelude.{ℕ, suc, Bool, true, false, List, [], ◌∷◌, Option, Some, None}
use Rattle.pq_base.specs.Answer.{Definition as Source}
use Rattle.pq_base.specs.Answer.Definition.{image, commutator, power}
use Rattle.pq_base.specs.Canonical.{same_definition}
use Rattle.pc_presentation.specs.declared.relation.Relation.{Relation}
use Rattle.pc_presentation.specs.declared.relation.Relation.TheVariants.{Power as PowerOf, Commutator as CommutatorOf}

-- a relation as a source
abbrev pub relation_source : Relation → Source
relation_source (PowerOf j) = power j
relation_source (CommutatorOf j i) = commutator j i

-- the one or the other
abbrev pub found : Bool → ℕ → Option ℕ → Option ℕ
found true t later = Some t
found false t later = later

-- the first place of a source in a list whose places count from t on
abbrev pub place_from : ℕ → List Source → Source → Option ℕ
place_from t [] d = None
place_from t (e ∷ es) d = found (same_definition d e) t (place_from (suc t) es d)

-- the place of a source in a list, counted from 1
abbrev pub place_in : List Source → Source → Option ℕ
place_in ds d = place_from 1 ds d

-- the one list is made of the other by leaving out entries
pub data IsPartOf : List Source → List Source → Type 0 where
  nothing : IsPartOf [] []
  left_out : {ds es : List Source} (e : Source) → IsPartOf ds es → IsPartOf ds (e ∷ es)
  taken : {ds es : List Source} (e : Source) → IsPartOf ds es → IsPartOf (e ∷ ds) (e ∷ es)
