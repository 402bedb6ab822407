-- Words that are joined in a cut presentation differ in the whole by a later word. So the cut of a consistent presentation
-- is consistent, and a word whose cut is trivial is joined to a normal word in the generators that are cut off.
use Rattle.std.proofs.Common.{◌≡◌, ℕ, suc, ◌+◌, ◌-◌, ◌<◌, ◌≤◌, ℤ, List, [], ◌++◌, get_or, length, take, drop, replicate, ap, ap₂, sym, ◌∙◌}
use Rattle.std.proofs.Common.{subst, arith, inl, inr, append_assoc, length-append}
use Rattle.std.proofs.lemmas.List.{append-nil, take-append-drop, length-take-le, take_at}
use Rattle.std.proofs.lemmas.Bool.{cases_lt}
use Rattle.pq_base.specs.SignedWord.{inv, copies, comm, conj, sub, HasLetters}
use Rattle.pq_base.specs.Presentation.{Presentation, IsPresentation, IsNormal, IsRelatorOf, letter, word_from, normal_word, power_side}
use Rattle.pq_base.specs.Presentation.{commutator_side}
use Rattle.pq_base.specs.Presentation.IsRelatorOf.{power_relator, commutator_relator}
use Rattle.pq_base.specs.Joined.{Joined, IsConsistent}
use Rattle.pq_base.specs.Canonical.{first_generators}
use Rattle.pq_base.proofs.words.WordLaws.{inv-inv, sub-append, sub-inv, sub-conj, word_from-append, normal_word-append}
use Rattle.pq_base.proofs.words.WordLaws.{word_from-append-zeros}
use Rattle.pq_base.proofs.words.LetterLaws.{HasLetters-weaken, HasLetters-append, HasLetters-inv, HasLetters-word_from}
use Rattle.pq_base.proofs.words.LetterLaws.{HasLetters-normal_word, HasLetters-relator, HasLetters-letter}
use Rattle.pq_base.proofs.words.RangeLaws.{generators, get_or-generators, sub-generators, HasLetters-sub_generators}
use Rattle.pq_base.proofs.words.JoinedLaws.{joined-from_equal, joined-sym, joined-trans, joined-append_right, joined-solve_right}
use Rattle.pq_base.proofs.words.JoinedLaws.{inv-append-append-joined, power-joined, commutator-joined, relator-joined}
use Rattle.pq_base.proofs.groups.Groups.{Group, value_in, value_in-same}
use Rattle.pq_base.proofs.groups.GroupQuotients.{IsNormalSet, differ_by, differ-same, differ-joined, quotient_group, value_in-quotient}
use Rattle.pq_base.proofs.words.WordGroup.{word_group, value_in-word_group, joined-sub}
use Rattle.fp_rows.proofs.BelowLaws.{AllBelow-append}
use Rattle.pc_presentation.proofs.rows.RowLaws.{zeros-normal}
use Rattle.pc_presentation.proofs.consistent.Reached.{words-reach}
use Rattle.pc_presentation.specs.RowedLaws.{projection}
use Rattle.pc_presentation.proofs.rows.Projections.{get_or-projection, get_or-projection_past, HasLetters-projection}
use Rattle.pc_presentation.specs.CutLaws.{cut_word, CutsAreConsistent, CutWordsAreLater}
use Rattle.pc_presentation.proofs.cuts.LaterWords.{IsLater, later-kept, later-nil, later-append, later-letter, later-word_from, later-inv}
use Rattle.pc_presentation.proofs.cuts.LaterWords.{later-conj, later-reaches}
use Rattle.pc_presentation.proofs.cuts.CutSides.{power_side-cut, commutator_side-cut, cut-presentation}

module _ (P : Presentation) (is : IsPresentation P) (big : 1 < P.prime) (m : ℕ) (within : m ≤ P.rank) where
  abbrev C : Presentation
  C = first_generators m P

  positive : 0 < P.prime
  positive = omega arith

  -- words that are later words once letters beyond the generators are left out
  abbrev InLater : List ℤ → Type 0
  InLater x = IsLater P m (sub x (generators P.rank))

  generators-joined : {x y : List ℤ} → Joined P x y → Joined P (sub x (generators P.rank)) (sub y (generators P.rank))
  generators-joined c =
      joined-sub P P (generators P.rank)
      (λ r h. joined-trans (joined-from_equal P (sub-generators P.rank r (HasLetters-relator P is h))) (relator-joined P h)) c

  later_normal : IsNormalSet (word_group P) InLater
  later_normal = record {
    kept = λ e h. later-kept P m (generators-joined e) h;
    one = later-nil P m;
    times = λ x y h i.
        subst (λ (w : List ℤ). IsLater P m w) (sym (sub-append x y (generators P.rank)))
        (later-append P m (sub x (generators P.rank)) (sub y (generators P.rank)) h i);
    inverse = λ x h.
        subst (λ (w : List ℤ). IsLater P m w) (sym (sub-inv x (generators P.rank)))
        (later-inv P is positive m (sub x (generators P.rank)) h);
    conjugate = λ x y h.
        subst (λ (w : List ℤ). IsLater P m w) (sym (sub-conj x y (generators P.rank)))
        (later-conj P is positive m (sub x (generators P.rank)) (sub y (generators P.rank)) h (HasLetters-sub_generators P.rank y));
  }

  in_later : (x : List ℤ) → HasLetters P.rank x → IsLater P m x → InLater x
  in_later x h l = subst (λ (w : List ℤ). IsLater P m w) (sym (sub-generators P.rank x h)) l

  from_later : (x : List ℤ) → HasLetters P.rank x → InLater x → IsLater P m x
  from_later x h l = subst (λ (w : List ℤ). IsLater P m w) (sub-generators P.rank x h) l

  -- a word and the inverse of the first part of its right side
  first_part : (x : List ℤ) (i : ℕ) (e : List ℕ) → i < m → suc i + length e ≡ P.rank → Joined P x (word_from (suc i) e)
      → IsLater P m (x ++ inv (word_from (suc i) (take (m - suc i) e)))
  first_part x i e l count c =
      let a : List ℤ = word_from (suc i) (take (m - suc i) e) in
      let b : List ℤ = word_from m (drop (m - suc i) e) in
      let long : length (take (m - suc i) e) ≡ m - suc i = length-take-le (m - suc i) e (omega arith) in
      let whole : length (take (m - suc i) e ++ drop (m - suc i) e) ≡ length e = ap length (take-append-drop (m - suc i) e) in
      let parts : length (take (m - suc i) e ++ drop (m - suc i) e) ≡ length (take (m - suc i) e) + length (drop (m - suc i) e) =
      length-append (take (m - suc i) e) (drop (m - suc i) e) in
      let place : suc i + length (take (m - suc i) e) ≡ m = omega arith in
      let split : word_from (suc i) e ≡ word_from (suc i) (take (m - suc i) e) ++ word_from m (drop (m - suc i) e) =
      ap (word_from (suc i)) (sym (take-append-drop (m - suc i) e))
      ∙ word_from-append (suc i) (take (m - suc i) e) (drop (m - suc i) e)
      ∙ ap (λ (n : ℕ). word_from (suc i) (take (m - suc i) e) ++ word_from n (drop (m - suc i) e)) place in
      let b_later : IsLater P m (word_from m (drop (m - suc i) e)) =
      later-word_from P m m (drop (m - suc i) e) (omega arith) (omega arith) in
      let front : HasLetters P.rank (inv (word_from (suc i) (take (m - suc i) e))) =
      HasLetters-inv P.rank a (HasLetters-word_from P.rank (suc i) (take (m - suc i) e) (omega arith)) in
      let conjugated : IsLater P m (conj b (inv a)) = later-conj P is positive m b (inv a) b_later front in
      let is_conjugate : conj b (inv a) ≡ (a ++ b) ++ inv a =
      ap (λ (w : List ℤ). w ++ (b ++ inv a)) (inv-inv a) ∙ sym (append_assoc a b (inv a)) in
      later-kept P m
      (joined-trans (joined-from_equal P is_conjugate)
      (joined-append_right (inv a) (joined-trans (joined-from_equal P (sym split)) (joined-sym c))))
      conjugated

  -- relators of the cut
  relator-later : (r : List ℤ) → IsRelatorOf C r → IsLater P m r
  relator-later r (power_relator i l) =
      let c = (is.power_sides i (omega arith)).count in
      subst (λ (e : List ℕ). IsLater P m (copies (letter i) P.prime ++ inv (word_from (suc i) e))) (sym (power_side-cut P is m within i l))
      (first_part (copies (letter i) P.prime) i (power_side P i) l c (power-joined P i (omega arith)))
  relator-later r (commutator_relator j i l b) =
      let c = (is.commutator_sides j i (omega arith) b).count in
      subst (λ (e : List ℕ). IsLater P m (comm (letter j) (letter i) ++ inv (word_from (suc j) e)))
      (sym (commutator_side-cut P is m within j i l))
      (first_part (comm (letter j) (letter i)) j (commutator_side P j i) l c (commutator-joined P j i (omega arith) b))

  wider : (w : List ℤ) → HasLetters m w → HasLetters P.rank w
  wider w h = HasLetters-weaken m P.rank w within h

  relator-value : (r : List ℤ) → IsRelatorOf C r → InLater (value_in (word_group P) (generators m) r)
  relator-value r h =
      let letters_of : HasLetters m r = HasLetters-relator C (cut-presentation P is m within) h in
      subst InLater (sym (value_in-word_group P (generators m) r ∙ sub-generators m r letters_of))
      (in_later r (wider r letters_of) (relator-later r h))

  -- joined words of the cut
  pub cut_joined-later : (u v : List ℤ) → HasLetters m u → HasLetters m v → Joined (first_generators m P) u v → IsLater P m (inv u ++ v)
  cut_joined-later u v h i c =
      let d : InLater (inv (value_in (word_group P) (generators m) u) ++ value_in (word_group P) (generators m) v) =
      differ-joined (word_group P) InLater later_normal C (generators m) relator-value c in
      let left : value_in (word_group P) (generators m) u ≡ u = value_in-word_group P (generators m) u ∙ sub-generators m u h in
      let right : value_in (word_group P) (generators m) v ≡ v = value_in-word_group P (generators m) v ∙ sub-generators m v i in
      from_later (inv u ++ v) (HasLetters-append P.rank (inv u) v (HasLetters-inv P.rank u (wider u h)) (wider v i))
      (subst InLater (ap₂ (λ (x y : List ℤ). inv x ++ y) left right) d)

  -- a word and its cut
  letter-cut : (i : ℕ) → i < P.rank
      → differ_by (word_group P) InLater (get_or (projection m (P.rank - m)) i []) (get_or (generators P.rank) i [])
  letter-cut i l = elim (cases_lt i m) [
    | inl h ↦
        let same : get_or (projection m (P.rank - m)) i [] ≡ get_or (generators P.rank) i [] =
        get_or-projection m (P.rank - m) i h ∙ sym (get_or-generators P.rank i l) in
        differ-same (word_group P) InLater later_normal (joined-from_equal P same)
    | inr h ↦
        let place : i ≡ m + (i - m) = omega arith in
        let nothing : get_or (projection m (P.rank - m)) i [] ≡ [] =
        ap (λ (n : ℕ). get_or (projection m (P.rank - m)) n []) place ∙ get_or-projection_past m (P.rank - m) (i - m) in
        subst (λ (w : List ℤ). InLater (inv w ++ get_or (generators P.rank) i [])) (sym nothing)
        (subst InLater (sym (get_or-generators P.rank i l)) (in_later (letter i) (HasLetters-letter P.rank i l) (later-letter P m i h l)))
  ]

  pub cut-later : (u : List ℤ) → HasLetters P.rank u → IsLater P m (inv (cut_word m P u) ++ u)
  cut-later u h =
      let G : Group = quotient_group (word_group P) InLater later_normal in
      let d : InLater (inv (value_in G (projection m (P.rank - m)) u) ++ value_in G (generators P.rank) u) =
      value_in-same G P.rank (projection m (P.rank - m)) (generators P.rank) letter-cut u h in
      let left : value_in G (projection m (P.rank - m)) u ≡ cut_word m P u =
      value_in-quotient (word_group P) InLater later_normal (projection m (P.rank - m)) u
      ∙ value_in-word_group P (projection m (P.rank - m)) u in
      let right : value_in G (generators P.rank) u ≡ u =
      value_in-quotient (word_group P) InLater later_normal (generators P.rank) u ∙ value_in-word_group P (generators P.rank) u
      ∙ sub-generators P.rank u h in
      let cut_letters : HasLetters P.rank (cut_word m P u) = wider (cut_word m P u) (HasLetters-projection m (P.rank - m) u) in
      from_later (inv (cut_word m P u) ++ u)
      (HasLetters-append P.rank (inv (cut_word m P u)) u (HasLetters-inv P.rank (cut_word m P u) cut_letters) h)
      (subst InLater (ap₂ (λ (x y : List ℤ). inv x ++ y) left right) d)

  -- a word whose cut is trivial is a later word
  pub trivial_cut-later : (u : List ℤ) → HasLetters P.rank u → Joined (first_generators m P) (cut_word m P u) [] → IsLater P m u
  trivial_cut-later u h c =
      let w : List ℤ = cut_word m P u in
      let first : IsLater P m (inv w ++ []) = cut_joined-later w [] (HasLetters-projection m (P.rank - m) u) tt c in
      let inverse_cut : IsLater P m (inv w) = subst (λ (x : List ℤ). IsLater P m x) (append-nil (inv w)) first in
      later-kept P m (inv-append-append-joined P (inv w) u)
      (later-append P m (inv (inv w)) (inv w ++ u) (later-inv P is positive m (inv w) inverse_cut) (cut-later u h))

  -- normal words of the cut
  same_exponents : IsConsistent P → (e f : List ℕ) → IsNormal P.prime m e → IsNormal P.prime m f → Joined C (normal_word e) (normal_word f)
      → e ≡ f
  same_exponents consistent e f h i c =
      let e_long : length e ≡ m = h.count in
      let f_long : length f ≡ m = i.count in
      let later = cut_joined-later (normal_word f) (normal_word e)
      (HasLetters-normal_word m f (omega arith)) (HasLetters-normal_word m e (omega arith)) (joined-sym c) in
      let reached = later-reaches P is big m (inv (normal_word f) ++ normal_word e) within later in
      let x : List ℕ = reached.exponents in
      let rest : length reached.exponents ≡ P.rank - m = reached.normal.count in
      let none = zeros-normal P.prime (P.rank - m) positive in
      let no_rest : length (replicate {A = ℕ} (P.rank - m) 0) ≡ P.rank - m = none.count in
      let solved : Joined P (normal_word e) (inv (inv (normal_word f)) ++ word_from m reached.exponents) =
      joined-solve_right (inv (normal_word f)) (normal_word e) reached.joined in
      let sum : inv (inv (normal_word f)) ++ word_from m reached.exponents ≡ normal_word (f ++ reached.exponents) =
      ap (λ (w : List ℤ). w ++ word_from m reached.exponents) (inv-inv (normal_word f))
      ∙ ap (λ (n : ℕ). normal_word f ++ word_from n reached.exponents) (sym f_long)
      ∙ sym (normal_word-append f reached.exponents) in
      let joined : Joined P (normal_word (e ++ replicate (P.rank - m) 0)) (normal_word (f ++ reached.exponents)) =
      joined-trans (joined-from_equal P (word_from-append-zeros 0 (P.rank - m) e)) (joined-trans solved (joined-from_equal P sum)) in
      let left : IsNormal P.prime P.rank (e ++ replicate (P.rank - m) 0) = record {
        count = length-append e (replicate (P.rank - m) 0) ∙ omega arith;
        below = AllBelow-append P.prime e (replicate (P.rank - m) 0) h.below none.below;
      } in
      let right : IsNormal P.prime P.rank (f ++ reached.exponents) = record {
        count = length-append f reached.exponents ∙ omega arith;
        below = AllBelow-append P.prime f reached.exponents i.below reached.normal.below;
      } in
      let same : e ++ replicate (P.rank - m) 0 ≡ f ++ reached.exponents =
      consistent.unique (e ++ replicate (P.rank - m) 0) (f ++ reached.exponents) left right joined in
      sym (take_at e (replicate (P.rank - m) 0) m e_long) ∙ ap (take m) same ∙ take_at f reached.exponents m f_long

  pub cut-consistent : IsConsistent P → IsConsistent (first_generators m P)
  cut-consistent consistent = record {
    unique = λ e f h i c. same_exponents consistent e f h i c;
    reached = λ w h. words-reach C (cut-presentation P is m within) positive w h;
  }

pub cuts_are_consistent : CutsAreConsistent
cuts_are_consistent P m is within consistent = cut-consistent P is is.prime m within consistent

pub cut_words_are_later : CutWordsAreLater
cut_words_are_later P m is within u h c = later-reaches P is is.prime m u within (trivial_cut-later P is is.prime m within u h c)
