-- An overlap is read from its keyword and its numbers, and from no others.
use Rattle.std.proofs.Common.{◌≡◌, ℕ, true, List, [], ◌∷◌, ◌++◌, drop, refl, ap, sym, ◌∙◌}
use Rattle.std.specs.Prelude.{codes}
use Rattle.pq_base.specs.Table.{AllBelow}
use Rattle.pc_presentation.specs.declared.overlap.Overlap.{Overlap}
use Rattle.pc_presentation.specs.declared.overlap.Overlap.TheVariants.{Triple, Left, Right, Own}
use Rattle.derivation_log.specs.CertificateForms.{is_written_overlap}
use Rattle.answer_text.proofs.Splits.{first-apart}
use Rattle.cert_text.specs.CertificateText.{numbers_text, overlap_text}
use Rattle.cert_text.proofs.texts.NumberTexts.{numbers_text-same}
use Rattle.cert_text.proofs.texts.SourceTexts.{overlap_numbers, overlap-below}

-- numbers that were read are those of the overlap that the text says
pub numbers-of : (text : List ℕ) (ns : List ℕ) (o : Overlap) → text ≡ numbers_text ns → AllBelow 65536 ns → is_written_overlap o ≡ true
    → text ≡ numbers_text (overlap_numbers o) → ns ≡ overlap_numbers o
numbers-of text ns o read below written e = numbers_text-same ns (overlap_numbers o) below (overlap-below o written) (sym read ∙ e)

pub no-triple : (text rest : List ℕ) → text ≡ codes "triple" ++ rest
    → ((k j i : ℕ) → is_written_overlap (Triple k j i) ≡ true → ¬ (rest ≡ numbers_text (k ∷ j ∷ i ∷ [])))
    → (o : Overlap) → is_written_overlap o ≡ true → ¬ (text ≡ overlap_text o)
no-triple text rest cut none (Triple k j i) written e = none k j i written (ap (λ (t : List ℕ). drop 6 t) (sym cut ∙ e))
no-triple text rest cut none (Left j i) written e = absurd (first-apart 116 108 _ _ refl (sym cut ∙ e))
no-triple text rest cut none (Right j i) written e = absurd (first-apart 116 114 _ _ refl (sym cut ∙ e))
no-triple text rest cut none (Own i) written e = absurd (first-apart 116 111 _ _ refl (sym cut ∙ e))

pub no-left : (text rest : List ℕ) → text ≡ codes "left" ++ rest
    → ((j i : ℕ) → is_written_overlap (Left j i) ≡ true → ¬ (rest ≡ numbers_text (j ∷ i ∷ [])))
    → (o : Overlap) → is_written_overlap o ≡ true → ¬ (text ≡ overlap_text o)
no-left text rest cut none (Triple k j i) written e = absurd (first-apart 108 116 _ _ refl (sym cut ∙ e))
no-left text rest cut none (Left j i) written e = none j i written (ap (λ (t : List ℕ). drop 4 t) (sym cut ∙ e))
no-left text rest cut none (Right j i) written e = absurd (first-apart 108 114 _ _ refl (sym cut ∙ e))
no-left text rest cut none (Own i) written e = absurd (first-apart 108 111 _ _ refl (sym cut ∙ e))

pub no-right : (text rest : List ℕ) → text ≡ codes "right" ++ rest
    → ((j i : ℕ) → is_written_overlap (Right j i) ≡ true → ¬ (rest ≡ numbers_text (j ∷ i ∷ [])))
    → (o : Overlap) → is_written_overlap o ≡ true → ¬ (text ≡ overlap_text o)
no-right text rest cut none (Triple k j i) written e = absurd (first-apart 114 116 _ _ refl (sym cut ∙ e))
no-right text rest cut none (Left j i) written e = absurd (first-apart 114 108 _ _ refl (sym cut ∙ e))
no-right text rest cut none (Right j i) written e = none j i written (ap (λ (t : List ℕ). drop 5 t) (sym cut ∙ e))
no-right text rest cut none (Own i) written e = absurd (first-apart 114 111 _ _ refl (sym cut ∙ e))

pub no-own : (text rest : List ℕ) → text ≡ codes "own" ++ rest
    → ((i : ℕ) → is_written_overlap (Own i) ≡ true → ¬ (rest ≡ numbers_text (i ∷ [])))
    → (o : Overlap) → is_written_overlap o ≡ true → ¬ (text ≡ overlap_text o)
no-own text rest cut none (Triple k j i) written e = absurd (first-apart 111 116 _ _ refl (sym cut ∙ e))
no-own text rest cut none (Left j i) written e = absurd (first-apart 111 108 _ _ refl (sym cut ∙ e))
no-own text rest cut none (Right j i) written e = absurd (first-apart 111 114 _ _ refl (sym cut ∙ e))
no-own text rest cut none (Own i) written e = none i written (ap (λ (t : List ℕ). drop 3 t) (sym cut ∙ e))

pub no-keyword : (text : List ℕ) → ((rest : List ℕ) → ¬ (text ≡ codes "triple" ++ rest))
    → ((rest : List ℕ) → ¬ (text ≡ codes "left" ++ rest))
    → ((rest : List ℕ) → ¬ (text ≡ codes "right" ++ rest)) → ((rest : List ℕ) → ¬ (text ≡ codes "own" ++ rest)) → (o : Overlap)
    → ¬ (text ≡ overlap_text o)
no-keyword text a b c d (Triple k j i) e = a (numbers_text (k ∷ j ∷ i ∷ [])) e
no-keyword text a b c d (Left j i) e = b (numbers_text (j ∷ i ∷ [])) e
no-keyword text a b c d (Right j i) e = c (numbers_text (j ∷ i ∷ [])) e
no-keyword text a b c d (Own i) e = d (numbers_text (i ∷ [])) e
