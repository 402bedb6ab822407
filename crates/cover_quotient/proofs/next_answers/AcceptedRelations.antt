-- Nothing stands against giving a relation that a draft awaits its right side, but want of memory.
use Rattle.std.proofs.Common.{◌≡◌, ◌⊎◌, None, List, refl, inl, inr, arith}
use Rattle.pq_base.specs.Answer.{Answer}
use Rattle.pc_presentation.specs.declared.syllable.Syllable.{Syllable}
use Rattle.pc_presentation.specs.declared.relation.Relation.{Relation}
use Rattle.pc_presentation.specs.declared.relation.Relation.TheVariants.{Power, Commutator}
use Rattle.pc_presentation.specs.declared.builder.PcpRefusal.{PcpRefusal}
use Rattle.pc_presentation.specs.declared.builder.PcpRefusal.TheVariants.{OutOfRange, Repeated, NotNormal, NotLater, NoMemory}
use Rattle.pc_presentation.specs.Relation.{IsRelation}
use Rattle.pc_presentation.specs.Builder.{Draft, IsRefused}
use Rattle.pc_presentation.specs.Pcp.{side_word}
use Rattle.p_cover.specs.Covers.{CoverOf}
use Rattle.p_cover.proofs.NormalSides.{nothing_else_against}
use Rattle.cover_quotient.specs.Combinations.{TailCombinations}
use Rattle.cover_quotient.specs.NextAnswer.{combined_answer}
use Rattle.cover_quotient.specs.NextParts.{Awaits}

-- a relation of the answer's generators is one of the next answer's
pub old-relation : (C : CoverOf) (K : TailCombinations) (r : Relation) → IsRelation C.answer.presentation.rank r
    → IsRelation (combined_answer C K).presentation.rank r
old-relation C K (Power i) h = (omega arith, omega arith)
old-relation C K (Commutator j i) h = (omega arith, omega arith, omega arith)

-- the reasons but want of memory
abbrev pub IsFault : PcpRefusal → Type 0
IsFault x = (x ≡ OutOfRange) ⊎ ((x ≡ Repeated) ⊎ ((x ≡ NotNormal) ⊎ (x ≡ NotLater)))

no_memory_apart : ¬ IsFault NoMemory
no_memory_apart (inl e) = cc
no_memory_apart (inr (inl e)) = cc
no_memory_apart (inr (inr (inl e))) = cc
no_memory_apart (inr (inr (inr e))) = cc

module _ (A : Answer) (r : Relation) (h : IsRelation A.presentation.rank r) (D : Draft) (a : Awaits A r D) (w : List Syllable)
    (word : w ≡ side_word A.presentation r) where
  pub nothing_against : (x : PcpRefusal) → IsRefused D r w None x → IsFault x → ⊥
  nothing_against OutOfRange n fault = nothing_else_against A a.of r h D a.draft None tt w word OutOfRange n (inl refl)
  nothing_against Repeated n fault = a.new n.1
  nothing_against NotNormal n fault = nothing_else_against A a.of r h D a.draft None tt w word NotNormal n (inr (inl refl))
  nothing_against NotLater n fault = nothing_else_against A a.of r h D a.draft None tt w word NotLater n (inr (inr refl))
  nothing_against NoMemory n fault = no_memory_apart fault
