-- Sources whose tails may be kept as generators of the next class, and sources that may define them.
-- From: Newman and O'Brien's p-quotient method: new generators are defined by images, and then by relations that qualify.
use Rattle.std.specs.Prelude.{◌≡◌, ℕ, zero, suc, List, [], All}
use Rattle.pq_base.specs.Presentation.{power_word, commutator_word}
use Rattle.pq_base.specs.Answer.{Answer, Definition as Source, class_of}
use Rattle.pq_base.specs.Answer.Definition.{image, commutator, power}
use Rattle.pq_base.specs.Canonical.{IsAllowed}
use Rattle.fp_echelon.specs.Reduced.{BasisRow}
use Rattle.p_cover.specs.Covers.{CoverOf}
use Rattle.cover_quotient.specs.NextAnswer.{kept_sources}

-- the relation has the empty word; an image is no relation
abbrev pub HasEmptySide : Answer → Source → Type 0
HasEmptySide A (image i) = ⊥
HasEmptySide A (commutator zero i) = ⊥
HasEmptySide A (commutator (suc j) zero) = ⊥
HasEmptySide A (commutator (suc j) (suc i)) = commutator_word A.presentation j i ≡ []
HasEmptySide A (power zero) = ⊥
HasEmptySide A (power (suc j)) = power_word A.presentation j ≡ []

-- a source whose tail may be kept as a generator of the next class, which it alone makes: an image at class 0, else a relation
-- with the empty word
abbrev pub MayBeKept : Answer → ℕ → Source → Type 0
MayBeKept A zero (image i) = Unit {0}
MayBeKept A zero _ = ⊥
MayBeKept A (suc k) d = HasEmptySide A d

-- each kept tail may
abbrev pub KeptMayBeKept : CoverOf → List BasisRow → Type 0
KeptMayBeKept C bs = All (MayBeKept C.answer (class_of C.answer)) (kept_sources C bs)

-- a source that may define a generator of the next class: its tail may be kept, and it is allowed, as an image at class 0, else
-- as a relation that qualifies
pub record MayDefine (A : Answer) (k : ℕ) (d : Source) : Type 0 where
  pub kept : MayBeKept A k d
  pub allowed : IsAllowed A k d

-- each source of a kept tail may
abbrev pub KeptMayDefine : CoverOf → List BasisRow → Type 0
KeptMayDefine C bs = All (MayDefine C.answer (class_of C.answer)) (kept_sources C bs)
