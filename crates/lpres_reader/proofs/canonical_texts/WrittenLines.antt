-- The canonical text is made of the texts of its lines, one after the other.
use Rattle.std.proofs.Common.{◌≡◌, ℕ, List, [], ◌∷◌, ◌++◌, codes, ap, sym, ◌∙◌, append_assoc, append-nil}
use Rattle.std.specs.Prelude.{ℤ}
use Rattle.pq_base.specs.LPresentation.{LPresentation}
use Rattle.pq_base.specs.Lines.{text_of_lines}
use Rattle.pq_base.proofs.LineLaws.{text_of_lines-append}
use Rattle.lpres_reader.specs.CanonicalText.{preceded, generators_line, relator_lines, endo_lines, canonical_text}

four_parts : (g : List ℕ) (a b c : List (List ℕ))
    → text_of_lines (g ∷ (a ++ (b ++ c))) ≡ (g ++ 10 ∷ []) ++ (text_of_lines a ++ (text_of_lines b ++ text_of_lines c))
four_parts g a b c = simp (text_of_lines-append, append_assoc)

module _ (names : List (List ℕ)) (fixed iterated : List (List ℤ)) (endos : List (List (List ℤ))) where
  -- the text of a presentation of these parts
  text_of_parts : canonical_text (record { names = names; fixed = fixed; iterated = iterated; endos = endos })
      ≡ (generators_line names ++ 10 ∷ [])
      ++ (text_of_lines (relator_lines (codes "fixed ") names fixed)
      ++ (text_of_lines (relator_lines (codes "iterated ") names iterated)
      ++ text_of_lines (endo_lines names endos)))
  unfolding canonical_text
  text_of_parts =
      four_parts (generators_line names) (relator_lines (codes "fixed ") names fixed) (relator_lines (codes "iterated ") names iterated)
      (endo_lines names endos)

  same_text : (L : LPresentation) → names ≡ L.names → fixed ≡ L.fixed → iterated ≡ L.iterated → endos ≡ L.endos
      → canonical_text (record { names = names; fixed = fixed; iterated = iterated; endos = endos }) ≡ canonical_text L
  same_text L a b c d =
      ap (λ (ns : List (List ℕ)). canonical_text (record { names = ns; fixed = fixed; iterated = iterated; endos = endos })) a
      ∙ ap (λ (ws : List (List ℤ)). canonical_text (record { names = L.names; fixed = ws; iterated = iterated; endos = endos })) b
      ∙ ap (λ (ws : List (List ℤ)). canonical_text (record { names = L.names; fixed = L.fixed; iterated = ws; endos = endos })) c
      ∙ ap (λ (fs : List (List (List ℤ))). canonical_text (record { names = L.names; fixed = L.fixed; iterated = L.iterated; endos = fs }))
      d

written_parts : (o0 o1 o2 o3 o4 a b c d : List ℕ) → o0 ≡ [] → o1 ≡ o0 ++ a → o2 ≡ o1 ++ b → o3 ≡ o2 ++ c → o4 ≡ o3 ++ d
    → o4 ≡ a ++ (b ++ (c ++ d))
written_parts o0 o1 o2 o3 o4 a b c d e0 e1 e2 e3 e4 = rw (e4, e3, e2, e1, e0) (simp append_assoc)

-- a text that is written part by part
pub canonical_text-written : (L : LPresentation) (o0 o1 o2 o3 o4 : List ℕ) (names : List (List ℕ)) (fixed iterated : List (List ℤ))
    (endos : List (List (List ℤ)))
    → names ≡ L.names → fixed ≡ L.fixed → iterated ≡ L.iterated → endos ≡ L.endos
    → o0 ≡ [] → o1 ≡ o0 ++ (generators_line names ++ 10 ∷ [])
    → o2 ≡ o1 ++ text_of_lines (relator_lines (codes "fixed ") names fixed)
    → o3 ≡ o2 ++ text_of_lines (relator_lines (codes "iterated ") names iterated)
    → o4 ≡ o3 ++ text_of_lines (endo_lines names endos)
    → o4 ≡ canonical_text L
canonical_text-written L o0 o1 o2 o3 o4 names fixed iterated endos a b c d e0 e1 e2 e3 e4 =
    written_parts o0 o1 o2 o3 o4 _ _ _ _ e0 e1 e2 e3 e4
    ∙ sym (text_of_parts names fixed iterated endos)
    ∙ same_text names fixed iterated endos L a b c d

-- the line of the generators, written name by name
pub generators_line-written : (o0 o1 o2 o3 : List ℕ) (names left : List (List ℕ)) → o1 ≡ o0 ++ codes "generators" → left ≡ []
    → o2 ++ preceded (codes " ") left ≡ o1 ++ preceded (codes " ") names → o3 ≡ o2 ++ 10 ∷ []
    → o3 ≡ o0 ++ (generators_line names ++ 10 ∷ [])
generators_line-written o0 o1 o2 o3 names left keyword none so_far end =
    let done : o2 ≡ o1 ++ preceded (codes " ") names =
    sym (append-nil o2) ∙ ap (λ (ls : List (List ℕ)). o2 ++ preceded (codes " ") ls) (sym none) ∙ so_far in
    rw (end, done, keyword) (simp append_assoc)
