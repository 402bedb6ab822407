-- The answer of a certificate whose parts keep what they have to kills the relators: the fixed ones are judged one by one; an iterated
-- one is judged itself, and dies along each list of endomorphisms since these make maps of an answer into itself, or of the one that the
-- run over the iterated part builds, which is mapped into this one. No answer need be consistent.
use Rattle.std.proofs.Common.{◌≡◌, ◌<◌, ℕ, zero, suc, Bool, true, false, not, ltb, ◌&&◌, ℤ, List, [], ◌∷◌, get_or, length, refl, ap, ap₂}
use Rattle.std.proofs.Common.{sym, ◌∙◌, subst, arith, inl, inr}
use Rattle.std.specs.List.{All}
use Rattle.std.proofs.lemmas.Bool.{cases_Bool, ltb-false}
use Rattle.std.proofs.lemmas.List.{length-map}
use Rattle.pq_base.specs.SignedWord.{sub, HasLetters}
use Rattle.pq_base.specs.LPresentation.{LPresentation, AreEndos, AreEndoNumbers, AreWords, along}
use Rattle.pq_base.specs.LPresentation.IsRelator.{fixed_relator, iterated_relator}
use Rattle.pq_base.specs.Joined.{Joined}
use Rattle.pq_base.specs.Answer.{Answer, IsAnswer, image_words}
use Rattle.pq_base.specs.Largest.{Kills}
use Rattle.pq_base.proofs.words.LetterLaws.{HasLetters-get_or}
use Rattle.pq_base.proofs.words.AlongLaws.{HasLetters-along}
use Rattle.derivation_log.specs.declared.source.Run.{Run}
use Rattle.derivation_log.specs.declared.source.Run.TheVariants.{Iterated, Whole}
use Rattle.derivation_log.specs.Certificates.{Certificate, has_two_runs}
use Rattle.derivation_log.specs.PlainValues.{bare_state, images_of, InducesPlainly, MakeMap}
use Rattle.derivation_log.specs.CertificateParts.{CertificateKind, AreCarriedToIdentity, built_by}
use Rattle.derivation_log.specs.ValidParts.{KeepsRun, KeepsAll}
use Rattle.derivation_log.proofs.PlainValues.{bare-words, carried-joined}
use Rattle.derivation_log.proofs.PlainMaps.{maps-carry}
use Rattle.derivation_log.proofs.PlainEndomorphisms.{along-dies}
use Rattle.valid_certificates.specs.ReachedAnswers.{HasForm}

-- an answer with the names of the presentation
pub record IsNamed (c : Certificate) (A : Answer) : Type 0 where
  pub answer : IsAnswer A
  pub names : A.names ≡ c.presentation.names

-- without endomorphisms there is no list of them but the empty one
no_path : (n : ℕ) (s : List ℕ) → n ≡ 0 → AreEndoNumbers n s → s ≡ []
no_path n [] none numbers = refl
no_path n (zero ∷ s) none numbers = absurd numbers
no_path n (suc e ∷ s) none numbers = let l = numbers.0 in absurd (omega (arith, none, l))

module _ (c : Certificate) (form : HasForm c) (A : Answer) (is : IsNamed c A) where
  abbrev L : LPresentation
  L = c.presentation

  abbrev Dies : List ℤ → Type 0
  Dies w = Joined A.presentation (sub w (image_words A)) []

  named : (w : List ℤ) → HasLetters (length c.presentation.names) w → HasLetters (length A.names) w
  named w l = subst (λ (ns : List (List ℕ)). HasLetters (length ns) w) (sym is.names) l

  endos_of : AreEndos (length A.names) c.presentation.endos
  endos_of = subst (λ (ns : List (List ℕ)). AreEndos (length ns) c.presentation.endos) (sym is.names) form.words.endo_words

  -- words that are carried to the identity
  pub carried-dies : (words : List (List ℤ)) → AreWords (length c.presentation.names) words → AreCarriedToIdentity A words
      → (i : ℕ) → i < length words → Dies (get_or words i [])
  carried-dies words are carried i l =
      let w : List ℤ = get_or words i [] in
      carried-joined A is.answer.presentation w
      (subst (λ (n : ℕ). HasLetters n w) (sym is.answer.image_count) (named w (HasLetters-get_or (length L.names) words i are)))
      (carried i [] l)

  -- and iterated relators along all lists of endomorphisms
  pub iterated-die : AreCarriedToIdentity A c.presentation.iterated → All (InducesPlainly A) c.presentation.endos
      → (s : List ℕ) (i : ℕ) → AreEndoNumbers (length c.presentation.endos) s → i < length c.presentation.iterated
      → Dies (along c.presentation.endos s (get_or c.presentation.iterated i []))
  iterated-die carried induce s i numbers l =
      let r : List ℤ = get_or L.iterated i [] in
      along-dies A is.answer L.endos endos_of induce s r numbers
      (named r (HasLetters-get_or (length L.names) L.iterated i form.words.iterated_words))
      (carried-dies L.iterated form.words.iterated_words carried i l)

  -- what dies in an answer that is mapped into this one
  pub mapped-dies : (B : Answer) → IsNamed c B → MakeMap B A (images_of A) → (w : List ℤ) → HasLetters (length c.presentation.names) w
      → Joined B.presentation (sub w (image_words B)) [] → Dies w
  mapped-dies B of made w l dies =
      let count : length (images_of A) ≡ length B.names =
      length-map A.images bare_state ∙ is.answer.image_count ∙ ap (λ (ns : List (List ℕ)). length ns) (is.names ∙ sym of.names) in
      subst (λ (ws : List (List ℤ)). Joined A.presentation (sub w ws) []) (bare-words A.presentation A.images)
      (maps-carry B A of.answer.presentation is.answer.presentation (images_of A) made of.answer count w
      (subst (λ (ns : List (List ℕ)). HasLetters (length ns) w) (sym of.names) l) dies)

module _ (kind : CertificateKind) (c : Certificate) (form : HasForm c) (keeps : KeepsAll kind c)
    (named-built : (run : Run) → KeepsRun kind c run → IsNamed c (built_by kind.cover c run)) where
  abbrev M : LPresentation
  M = c.presentation

  abbrev A : Answer
  A = built_by kind.cover c Whole

  is_named : IsNamed c A
  is_named = named-built Whole keeps.whole

  abbrev AllDie : Type 0
  AllDie = (s : List ℕ) (i : ℕ) → AreEndoNumbers (length c.presentation.endos) s → i < length c.presentation.iterated
      → Joined A.presentation (sub (along c.presentation.endos s (get_or c.presentation.iterated i [])) (image_words A)) []

  -- no endomorphisms
  die-plain : length c.presentation.endos ≡ 0 → AllDie
  die-plain none s i numbers l =
      subst (λ (t : List ℕ). Joined A.presentation (sub (along M.endos t (get_or M.iterated i [])) (image_words A)) [])
      (sym (no_path (length M.endos) s none numbers))
      (carried-dies c form A is_named M.iterated form.words.iterated_words keeps.whole.iterated i l)

  -- endomorphisms alone
  die-iterated : ltb 0 (length c.presentation.endos) ≡ true → ltb 0 (length c.presentation.fixed) ≡ false → AllDie
  die-iterated some none =
      iterated-die c form A is_named keeps.whole.iterated
      (keeps.whole.endos (ap₂ (λ (a b : Bool). a && not b) some none))

  -- endomorphisms beside fixed relators
  die-mapped : ltb 0 (length c.presentation.endos) ≡ true → ltb 0 (length c.presentation.fixed) ≡ true → AllDie
  die-mapped some more s i numbers l =
      let two : has_two_runs c.presentation ≡ true = ap₂ (λ (a b : Bool). a && b) more some in
      let first = keeps.iterated two in
      let of = named-built Iterated first in
      mapped-dies c form A is_named (built_by kind.cover c Iterated) of (keeps.map two) (along M.endos s (get_or M.iterated i []))
      (HasLetters-along (length M.names) M.endos s (get_or M.iterated i []) form.words.endo_words
      (HasLetters-get_or (length M.names) M.iterated i form.words.iterated_words))
      (iterated-die c form (built_by kind.cover c Iterated) of first.iterated (first.endos refl) s i numbers l)

  all-die : AllDie
  all-die = elim (cases_Bool (ltb 0 (length M.endos))) [
    | inl some ↦ elim (cases_Bool (ltb 0 (length M.fixed))) [ inl more ↦ die-mapped some more | inr none ↦ die-iterated some none ]
    | inr none ↦ die-plain (let few = ltb-false 0 (length M.endos) none in omega (arith, few))
  ]

  built-kills : Kills c.presentation A
  built-kills r (fixed_relator i l) = carried-dies c form A is_named M.fixed form.words.fixed_words keeps.fixed i l
  built-kills r (iterated_relator s i numbers l) = all-die s i numbers l

  pub answer-kills : Kills c.presentation c.answer
  answer-kills = subst (Kills c.presentation) (sym keeps.answer) built-kills
