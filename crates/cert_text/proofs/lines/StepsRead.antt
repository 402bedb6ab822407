-- The lines of steps are read one by one: what was read grows by a line, and by a step.
use Rattle.std.proofs.Common.{◌≡◌, ℕ, true, List, [], ◌∷◌, ◌++◌, length, map, refl, ap, sym, subst, ◌∙◌, append_assoc}
use Rattle.std.proofs.lemmas.Bool.{and_parts, and_from}
use Rattle.std.proofs.lemmas.List.{map-append}
use Rattle.pq_base.specs.LPresentation.{LPresentation}
use Rattle.pq_base.specs.Lines.{text_of_lines}
use Rattle.pq_base.proofs.LineLaws.{text_of_lines-append}
use Rattle.derivation_log.specs.declared.source.Run.{Run}
use Rattle.derivation_log.specs.declared.source.RowSource.{RowSource}
use Rattle.derivation_log.specs.Certificates.{TailLine}
use Rattle.derivation_log.specs.CertificateForms.{is_source_in, are_sources_in, are_tail_lines}
use Rattle.cert_text.specs.CertificateText.{source_line, tail_line}
use Rattle.cert_text.specs.ReadSoFar.{HasNoSource, HasNoTail, IsStepRead}

-- one line more was read
pub text_of_lines-grown : (text rest more l : List ℕ) (ls : List (List ℕ)) → text ≡ text_of_lines ls ++ rest → rest ≡ l ++ 10 ∷ more
    → text ≡ text_of_lines (ls ++ l ∷ []) ++ more
text_of_lines-grown text rest more l ls so_far e =
    so_far ∙ ap (λ (t : List ℕ). text_of_lines ls ++ t) (e ∙ sym (append_assoc l (10 ∷ []) more))
    ∙ sym (append_assoc (text_of_lines ls) (l ++ 10 ∷ []) more)
    ∙ ap (λ (t : List ℕ). t ++ more) (sym (text_of_lines-append ls (l ∷ [])))

module _ {X : Type 0} (line : X → List ℕ) where
  pub mapped-grown : (text rest more : List ℕ) (xs ys : List X) (x : X) → ys ≡ xs ++ x ∷ [] → text ≡ text_of_lines (map line xs) ++ rest
      → rest ≡ line x ++ 10 ∷ more
      → text ≡ text_of_lines (map line ys) ++ more
  mapped-grown text rest more xs ys x pushed so_far e =
      text_of_lines-grown text rest more (line x) (map line xs) so_far e
      ∙ ap (λ (ls : List (List ℕ)). text_of_lines ls ++ more)
      (sym (map-append line xs (x ∷ [])) ∙ ap (λ (zs : List X). map line zs) (sym pushed))

pub are_sources-next : (L : LPresentation) (run : Run) (xs : List RowSource) (a : RowSource) → are_sources_in L run xs ≡ true
    → is_source_in L run a ≡ true
    → are_sources_in L run (xs ++ a ∷ []) ≡ true
are_sources-next L run [] a h named = and_from (is_source_in L run a) true named refl
are_sources-next L run (x ∷ xs) a h named =
    let parts = and_parts (is_source_in L run x) (are_sources_in L run xs) h in
    and_from (is_source_in L run x) _ parts.0 (are_sources-next L run xs a parts.1 named)

-- the sources and the tails of a step
pub step-read : (L : LPresentation) (p : ℕ) (run : Run) (text middle rest : List ℕ) (sources : List RowSource) (tails : List TailLine)
    (n : ℕ) → n ≡ length sources
    → text ≡ text_of_lines (map source_line sources) ++ middle → are_sources_in L run sources ≡ true → HasNoSource L run middle
    → middle ≡ text_of_lines (map tail_line tails) ++ rest → are_tail_lines p n tails 1 tails ≡ true → HasNoTail p n tails rest
    → IsStepRead L p run text (record { sources = sources; tails = tails }) rest
step-read L p run text middle rest sources tails n count lines named no_source more are no_tail = record {
  sources = named;
  tails = subst (λ (m : ℕ). are_tail_lines p m tails 1 tails ≡ true) count are;
  lines =
      lines ∙ ap (λ (t : List ℕ). text_of_lines (map source_line sources) ++ t) more
      ∙ sym (append_assoc (text_of_lines (map source_line sources)) (text_of_lines (map tail_line tails)) rest)
      ∙ ap (λ (t : List ℕ). t ++ rest) (sym (text_of_lines-append (map source_line sources) (map tail_line tails)));
  none = record {
    no_source =
        λ none. subst (HasNoSource L run) (more ∙ ap (λ (ls : List TailLine). text_of_lines (map tail_line ls) ++ rest) none) no_source;
    no_tail = subst (λ (m : ℕ). HasNoTail p m tails rest) count no_tail;
  };
}
