-- The words that a presentation lends have no exponent 0.
use Rattle.std.proofs.Common.{◌≡◌, ◌≤◌, ℕ, zero, suc, List, [], ◌∷◌, sym, subst, arith}
use Rattle.std.proofs.lemmas.List.Elements.{All-nil, All-cons}
use Rattle.pq_base.specs.Presentation.{Presentation}
use Rattle.pc_presentation.specs.declared.syllable.Syllable.{Syllable}
use Rattle.pc_presentation.specs.declared.relation.Relation.{Relation}
use Rattle.pc_presentation.specs.Syllable.{syllable, syllables_of}
use Rattle.pc_presentation.specs.Relation.{side_start}
use Rattle.pc_presentation.specs.Pcp.{right_side, side_word}
use Rattle.answer_text.specs.Words.{AreExponents}

pub AreExponents-syllables_of : (k : ℕ) (e : List ℕ) → AreExponents (syllables_of k e)
AreExponents-syllables_of k [] = All-nil (λ (s : Syllable). 1 ≤ s.exponent)
AreExponents-syllables_of k (zero ∷ es) = AreExponents-syllables_of (suc k) es
AreExponents-syllables_of k (suc x ∷ es) =
    All-cons (λ (s : Syllable). 1 ≤ s.exponent) (syllable (suc k) (suc x)) (syllables_of (suc k) es) (omega arith)
    (AreExponents-syllables_of (suc k) es)

pub AreExponents-word : (w : List Syllable) (k : ℕ) (e : List ℕ) → w ≡ syllables_of k e → AreExponents w
AreExponents-word w k e is = subst AreExponents (sym is) (AreExponents-syllables_of k e)

pub AreExponents-right_side : (P : Presentation) (r : Relation) (w : List Syllable) → w ≡ side_word P r → AreExponents w
AreExponents-right_side P r w is = AreExponents-word w (side_start r) (right_side P r) is
