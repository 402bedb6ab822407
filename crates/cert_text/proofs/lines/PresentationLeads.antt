-- The lines of a presentation's canonical text have their form in their places: each makes a presentation of those before it.
use Rattle.std.proofs.Common.{◌≡◌, ◌≤◌, ◌+◌, ℕ, List, [], ◌∷◌, ◌++◌, All, length, map, codes, refl, sym, ap, subst, ◌∙◌, append_assoc}
use Rattle.std.proofs.Common.{append-nil, arith}
use Rattle.std.specs.Prelude.{ℤ, sum_by}
use Rattle.std.proofs.lemmas.List.{length-append}
use Rattle.std.proofs.lemmas.List.Elements.{All-nil, All-cons, All-head, All-tail}
use Rattle.std.proofs.lemmas.List.Sums.{sum_by-append}
use Rattle.pq_base.specs.LPresentation.{LPresentation, AreWords, AreEndos}
use Rattle.lpres_reader.specs.CanonicalText.{word_text, generators_line, relator_lines, endo_line, endo_lines, canonical_lines}
use Rattle.lpres_reader.specs.Limits.{AreShort, letters_in}
use Rattle.cert_text.specs.CertificateText.{HasText}
use Rattle.answer_text.specs.LineByLine.{Leads}
use Rattle.cert_text.specs.CertificatePlaces.{Place, HasForm, IsEnd}
use Rattle.cert_text.specs.CertificatePlaces.Place.{for_generators, in_presentation}
use Rattle.cert_text.specs.CertificatePlaces.HasForm.{generators, item}
use Rattle.answer_text.proofs.lines.LineByLine.{Leads-append}
use Rattle.cert_text.proofs.lines.FormLaws.{tells_places}

abbrev with_parts : List (List ℕ) → List (List ℤ) → List (List ℤ) → List (List (List ℤ)) → LPresentation
with_parts names fixed iterated endos = record { names = names; fixed = fixed; iterated = iterated; endos = endos }

All-front : {X : Type 0} (P : X → Type 0) (xs ys : List X) → All P (xs ++ ys) → All P xs
All-front P [] ys a = All-nil P
All-front P (x ∷ xs) ys a = All-cons P x xs (All-head P x (xs ++ ys) a) (All-front P xs ys (All-tail P x (xs ++ ys) a))

AreWords-front : (n : ℕ) (us vs : List (List ℤ)) → AreWords n (us ++ vs) → AreWords n us
AreWords-front n [] vs a = tt
AreWords-front n (u ∷ us) vs a = (a.0, AreWords-front n us vs a.1)

AreEndos-front : (n : ℕ) (fs gs : List (List (List ℤ))) → AreEndos n (fs ++ gs) → AreEndos n fs
AreEndos-front n [] gs a = tt
AreEndos-front n (f ∷ fs) gs a = (a.0, a.1, AreEndos-front n fs gs a.2)

module _ (names : List (List ℕ)) (f f2 i i2 : List (List ℤ)) (e e2 : List (List (List ℤ))) where
  -- a front part of a presentation within the limits is within them
  HasText-front : HasText (with_parts names (f ++ f2) (i ++ i2) (e ++ e2)) → HasText (with_parts names f i e)
  HasText-front a =
      let fixed_count : length (f ++ f2) ≡ length f + length f2 = length-append f f2 in
      let iterated_count : length (i ++ i2) ≡ length i + length i2 = length-append i i2 in
      let endo_count : length (e ++ e2) ≡ length e + length e2 = length-append e e2 in
      let fixed_limit : length (f ++ f2) ≤ 4096 = a.limits.fixed in
      let iterated_limit : length (i ++ i2) ≤ 4096 = a.limits.iterated in
      let endo_limit : length (e ++ e2) ≤ 16 = a.limits.endos in
      let fixed_sum : letters_in (f ++ f2) ≡ letters_in f + letters_in f2 = sum_by-append length f f2 in
      let iterated_sum : letters_in (i ++ i2) ≡ letters_in i + letters_in i2 = sum_by-append length i i2 in
      let endo_sum : sum_by letters_in (e ++ e2) ≡ sum_by letters_in e + sum_by letters_in e2 = sum_by-append letters_in e e2 in
      let total : letters_in (f ++ f2) + letters_in (i ++ i2) + sum_by letters_in (e ++ e2) ≤ 4194304 = a.limits.total in
      record {
        names = a.names;
        presentation = record {
          distinct = a.presentation.distinct;
          fixed_words = AreWords-front (length names) f f2 a.presentation.fixed_words;
          iterated_words = AreWords-front (length names) i i2 a.presentation.iterated_words;
          endo_words = AreEndos-front (length names) e e2 a.presentation.endo_words;
        };
        limits = record {
          some_generator = a.limits.some_generator;
          generators = a.limits.generators;
          name_lengths = a.limits.name_lengths;
          fixed = omega arith;
          iterated = omega arith;
          endos = omega arith;
          fixed_letters = All-front (λ w. length w ≤ 65536) f f2 a.limits.fixed_letters;
          iterated_letters = All-front (λ w. length w ≤ 65536) i i2 a.limits.iterated_letters;
          endo_letters = All-front AreShort e e2 a.limits.endo_letters;
          total = omega arith;
        };
      }

-- lines of items, each of which makes a presentation of those before it
module _ {X : Type 0} (make : List X → LPresentation) (line : X → List ℕ)
    (next : (done : List X) (x : X) → canonical_lines (make (done ++ x ∷ [])) ≡ canonical_lines (make done) ++ line x ∷ []) where
  items-lead : (done left : List X) → ((front behind : List X) → front ++ behind ≡ done ++ left → HasText (make front))
      → Leads Place HasForm (in_presentation (make done)) (map line left) (in_presentation (make (done ++ left)))
  items-lead done [] texts = ap (λ (xs : List X). in_presentation (make xs)) (sym (append-nil done))
  items-lead done (x ∷ left) texts =
      let same : (done ++ x ∷ []) ++ left ≡ done ++ x ∷ left = append_assoc done (x ∷ []) left in
      let more = items-lead (done ++ x ∷ []) left (λ front behind e. texts front behind (e ∙ same)) in (
        in_presentation (make (done ++ x ∷ [])),
        item (make done) (make (done ++ x ∷ [])) (line x) (texts (done ++ x ∷ []) left same) (next done x),
        subst (λ (xs : List X). Leads Place HasForm (in_presentation (make (done ++ x ∷ []))) (map line left) (in_presentation (make xs)))
            same more,
      )

abbrev relator_line : List ℕ → List (List ℕ) → List ℤ → List ℕ
relator_line keyword names w = keyword ++ word_text names w

relator_lines-map : (keyword : List ℕ) (names : List (List ℕ)) (ws : List (List ℤ))
    → relator_lines keyword names ws ≡ map (relator_line keyword names) ws
relator_lines-map keyword names [] = refl
relator_lines-map keyword names (w ∷ ws) =
    ap (λ (ls : List (List ℕ)). relator_line keyword names w ∷ ls) (relator_lines-map keyword names ws)

relator_lines-append : (keyword : List ℕ) (names : List (List ℕ)) (us vs : List (List ℤ))
    → relator_lines keyword names (us ++ vs) ≡ relator_lines keyword names us ++ relator_lines keyword names vs
relator_lines-append keyword names [] vs = refl
relator_lines-append keyword names (u ∷ us) vs =
    ap (λ (ls : List (List ℕ)). relator_line keyword names u ∷ ls) (relator_lines-append keyword names us vs)

endo_lines-map : (names : List (List ℕ)) (fs : List (List (List ℤ))) → endo_lines names fs ≡ map (endo_line names) fs
endo_lines-map names [] = refl
endo_lines-map names (f ∷ fs) = ap (λ (ls : List (List ℕ)). endo_line names f ∷ ls) (endo_lines-map names fs)

endo_lines-append : (names : List (List ℕ)) (fs gs : List (List (List ℤ)))
    → endo_lines names (fs ++ gs) ≡ endo_lines names fs ++ endo_lines names gs
endo_lines-append names [] gs = refl
endo_lines-append names (f ∷ fs) gs = ap (λ (ls : List (List ℕ)). endo_line names f ∷ ls) (endo_lines-append names fs gs)

module _ (L : LPresentation) (text : HasText L) where
  abbrev fixed_lines : List (List ℕ)
  fixed_lines = relator_lines (codes "fixed ") L.names L.fixed

  abbrev iterated_lines : List (List ℕ)
  iterated_lines = relator_lines (codes "iterated ") L.names L.iterated

  next-fixed : (done : List (List ℤ)) (w : List ℤ)
      → canonical_lines (with_parts L.names (done ++ w ∷ []) [] []) ≡ canonical_lines (with_parts L.names done [] [])
      ++ relator_line (codes "fixed ") L.names w ∷ []
  next-fixed done w = ap (λ (ls : List (List ℕ)). generators_line L.names ∷ ls)
      (append-nil (relator_lines (codes "fixed ") L.names (done ++ w ∷ []))
      ∙ relator_lines-append (codes "fixed ") L.names done (w ∷ [])
      ∙ ap (λ (ls : List (List ℕ)). ls ++ relator_line (codes "fixed ") L.names w ∷ [])
      (sym (append-nil (relator_lines (codes "fixed ") L.names done))))

  next-iterated : (done : List (List ℤ)) (w : List ℤ)
      → canonical_lines (with_parts L.names L.fixed (done ++ w ∷ []) []) ≡ canonical_lines (with_parts L.names L.fixed done [])
      ++ relator_line (codes "iterated ") L.names w ∷ []
  next-iterated done w = ap (λ (ls : List (List ℕ)). generators_line L.names ∷ ls)
      (ap (λ (ls : List (List ℕ)). fixed_lines ++ ls)
      (append-nil (relator_lines (codes "iterated ") L.names (done ++ w ∷ []))
      ∙ relator_lines-append (codes "iterated ") L.names done (w ∷ [])
      ∙ ap (λ (ls : List (List ℕ)). ls ++ relator_line (codes "iterated ") L.names w ∷ [])
      (sym (append-nil (relator_lines (codes "iterated ") L.names done))))
      ∙ sym (append_assoc fixed_lines (relator_lines (codes "iterated ") L.names done ++ [])
      (relator_line (codes "iterated ") L.names w ∷ [])))

  next-endo : (done : List (List (List ℤ))) (f : List (List ℤ))
      → canonical_lines (with_parts L.names L.fixed L.iterated (done ++ f ∷ [])) ≡ canonical_lines
      (with_parts L.names L.fixed L.iterated done) ++ endo_line L.names f ∷ []
  next-endo done f = ap (λ (ls : List (List ℕ)). generators_line L.names ∷ ls)
      (ap (λ (ls : List (List ℕ)). fixed_lines ++ (iterated_lines ++ ls)) (endo_lines-append L.names done (f ∷ []))
      ∙ simp append_assoc)

  bare-text : HasText (with_parts L.names [] [] [])
  bare-text = HasText-front L.names [] L.fixed [] L.iterated [] L.endos text

  fixed-texts : (front behind : List (List ℤ)) → front ++ behind ≡ [] ++ L.fixed → HasText (with_parts L.names front [] [])
  fixed-texts front behind e =
      HasText-front L.names front behind [] L.iterated [] L.endos
      (subst (λ (ws : List (List ℤ)). HasText (with_parts L.names ws L.iterated L.endos)) (sym e) text)

  iterated-texts : (front behind : List (List ℤ)) → front ++ behind ≡ [] ++ L.iterated → HasText (with_parts L.names L.fixed front [])
  iterated-texts front behind e =
      HasText-front L.names L.fixed [] front behind [] L.endos
      (subst (λ (ws : List (List ℤ)). HasText (with_parts L.names ws (front ++ behind) L.endos)) (sym (append-nil L.fixed))
      (subst (λ (ws : List (List ℤ)). HasText (with_parts L.names L.fixed ws L.endos)) (sym e) text))

  endo-texts : (front behind : List (List (List ℤ))) → front ++ behind ≡ [] ++ L.endos
      → HasText (with_parts L.names L.fixed L.iterated front)
  endo-texts front behind e =
      HasText-front L.names L.fixed [] L.iterated [] front behind
      (subst (λ (ws : List (List ℤ)). HasText (with_parts L.names ws (L.iterated ++ []) (front ++ behind))) (sym (append-nil L.fixed))
      (subst (λ (ws : List (List ℤ)). HasText (with_parts L.names L.fixed ws (front ++ behind))) (sym (append-nil L.iterated))
      (subst (λ (fs : List (List (List ℤ))). HasText (with_parts L.names L.fixed L.iterated fs)) (sym e) text)))

  pub presentation-leads : Leads Place HasForm for_generators (canonical_lines L) (in_presentation L)
  presentation-leads =
      let fixed = items-lead (λ (ws : List (List ℤ)). with_parts L.names ws [] []) (relator_line (codes "fixed ") L.names) next-fixed []
      L.fixed fixed-texts in
      let iterated = items-lead (λ (ws : List (List ℤ)). with_parts L.names L.fixed ws [])
      (relator_line (codes "iterated ") L.names) next-iterated [] L.iterated iterated-texts in
      let endos = items-lead (λ (fs : List (List (List ℤ))). with_parts L.names L.fixed L.iterated fs)
      (endo_line L.names) next-endo [] L.endos endo-texts in
      let first : Leads Place HasForm (in_presentation (with_parts L.names [] [] [])) fixed_lines
      (in_presentation (with_parts L.names L.fixed [] [])) =
      subst (λ (ls : List (List ℕ)). Leads Place HasForm (in_presentation (with_parts L.names [] [] [])) ls
      (in_presentation (with_parts L.names L.fixed [] [])))
      (sym (relator_lines-map (codes "fixed ") L.names L.fixed)) fixed in
      let second : Leads Place HasForm (in_presentation (with_parts L.names L.fixed [] [])) iterated_lines
      (in_presentation (with_parts L.names L.fixed L.iterated [])) =
      subst (λ (ls : List (List ℕ)). Leads Place HasForm (in_presentation (with_parts L.names L.fixed [] [])) ls
      (in_presentation (with_parts L.names L.fixed L.iterated [])))
      (sym (relator_lines-map (codes "iterated ") L.names L.iterated)) iterated in
      let third : Leads Place HasForm (in_presentation (with_parts L.names L.fixed L.iterated [])) (endo_lines L.names L.endos)
      (in_presentation L) =
      subst (λ (ls : List (List ℕ)). Leads Place HasForm (in_presentation (with_parts L.names L.fixed L.iterated [])) ls
      (in_presentation L))
      (sym (endo_lines-map L.names L.endos)) endos in (
        in_presentation (with_parts L.names [] [] []),
        generators (with_parts L.names [] [] []) (generators_line L.names) bare-text refl,
        Leads-append Place HasForm IsEnd tells_places _ _ _ fixed_lines (iterated_lines ++ endo_lines L.names L.endos) first
            (Leads-append Place HasForm IsEnd tells_places _ _ _ iterated_lines (endo_lines L.names L.endos) second third),
      )
