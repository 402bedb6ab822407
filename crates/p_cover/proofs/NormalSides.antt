-- The right sides of an answer are normal words in later generators: nothing stands against giving them but that the
-- relation was given before, and want of memory.
use Rattle.std.proofs.Common.{◌≡◌, ◌⊎◌, ℕ, Option, List, sym, subst, inl, inr, arith}
use Rattle.pq_base.specs.Table.{AllBelow}
use Rattle.pq_base.specs.Presentation.{IsPresentation}
use Rattle.pq_base.specs.Answer.{Answer}
use Rattle.pc_presentation.specs.declared.syllable.Syllable.{Syllable}
use Rattle.pc_presentation.specs.declared.relation.Relation.{Relation}
use Rattle.pc_presentation.specs.declared.builder.PcpRefusal.{PcpRefusal}
use Rattle.pc_presentation.specs.declared.builder.PcpRefusal.TheVariants.{OutOfRange, Repeated, NotNormal, NotLater, NoMemory}
use Rattle.pc_presentation.specs.Syllable.{AreSyllables}
use Rattle.pc_presentation.specs.Relation.{IsRelation, IsTail, side_start}
use Rattle.pc_presentation.specs.Pcp.{right_side, side_word}
use Rattle.pc_presentation.specs.Builder.{Draft, AreInRange, IsRefused}
use Rattle.pc_presentation.proofs.presentations.SyllableLaws.{AreSyllables-syllables_of, AreSyllables-weaken}
use Rattle.pc_presentation.proofs.presentations.WordTests.{AreGenerators-AreSyllables, normal_from-AreSyllables}
use Rattle.pc_presentation.proofs.presentations.SideLaws.{right_side-count, right_side-below, side-later}
use Rattle.p_cover.specs.Given.{IsDraftOf}

abbrev IsOther : PcpRefusal → Type 0
IsOther x = (x ≡ OutOfRange) ⊎ ((x ≡ NotNormal) ⊎ (x ≡ NotLater))

repeated_apart : ¬ IsOther Repeated
repeated_apart o = elim o [
  | inl e ↦ cc
  | inr p ↦ elim p [
    | inl e ↦ cc
    | inr e ↦ cc
  ]
]

no_memory_apart : ¬ IsOther NoMemory
no_memory_apart o = elim o [
  | inl e ↦ cc
  | inr p ↦ elim p [
    | inl e ↦ cc
    | inr e ↦ cc
  ]
]

module _ (A : Answer) (is : IsPresentation A.presentation) (r : Relation) (h : IsRelation A.presentation.rank r) (D : Draft)
    (draft : IsDraftOf A D)
    (tail : Option ℕ) (t : IsTail D.built.tails tail) (w : List Syllable) (word : w ≡ side_word A.presentation r) where
  syllables : AreSyllables D.built.presentation.prime D.built.presentation.rank (side_start r) w
  syllables =
      let count = right_side-count A.presentation is r h in
      let rank = draft.rank in
      subst (λ (v : List Syllable). AreSyllables D.built.presentation.prime D.built.presentation.rank (side_start r) v) (sym word)
      (AreSyllables-syllables_of D.built.presentation.prime D.built.presentation.rank (side_start r) (right_side A.presentation r)
      (omega arith)
      (subst (λ (p : ℕ). AllBelow p (right_side A.presentation r)) (sym draft.prime) (right_side-below A.presentation is r h)))

  in_range : AreInRange D r w tail
  in_range = record {
    left_side = subst (λ (n : ℕ). IsRelation n r) (sym draft.rank) h;
    right_side = AreGenerators-AreSyllables D.built.presentation.prime D.built.presentation.rank (side_start r) w syllables;
    tail_number = t;
  }

  -- so it is refused for no other reason
  pub nothing_else_against : (x : PcpRefusal) → IsRefused D r w tail x → IsOther x → ⊥
  nothing_else_against OutOfRange n other = n in_range
  nothing_else_against Repeated n other = repeated_apart other
  nothing_else_against NotNormal n other =
      n.2 (normal_from-AreSyllables D.built.presentation.prime D.built.presentation.rank 0 w
      (AreSyllables-weaken D.built.presentation.prime D.built.presentation.rank 0 (side_start r) w (omega arith) syllables))
  nothing_else_against NotLater n other =
      n.3 (side-later A.presentation r w word)
  nothing_else_against NoMemory n other = no_memory_apart other
