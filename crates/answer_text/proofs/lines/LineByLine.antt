-- Texts that are judged line by line have one first fault, where no line has a newline in it, each leads to one place, and nothing
-- follows an end. Lines that lead from one place are told by their text up to a place that is not past some line.
use Rattle.std.proofs.Common.{◌≡◌, ◌≤◌, ℕ, zero, suc, true, List, [], ◌∷◌, ◌++◌, refl, ap, sym, subst, ◌∙◌, append_assoc, arith}
use native.Mathlib.Decide.{dec_lt}
use Rattle.pq_base.specs.Lines.{text_of_lines}
use Rattle.answer_text.proofs.Splits.{avoids, split-same}
use Rattle.answer_text.specs.LineByLine as line_by_line

-- no line has a newline in it, each leads to one place, and nothing follows an end
pub record TellsPlaces (Place : Type 0) (HasForm : Place → List ℕ → Place → Type 0) (IsEnd : Place → Type 0) : Type 0 where
  pub avoids_newline : (P Q : Place) (l : List ℕ) → HasForm P l Q → avoids 10 l ≡ true
  pub leads_to_one : (P Q R : Place) (l k : List ℕ) → HasForm P l Q → HasForm P k R → l ≡ k → Q ≡ R
  pub nothing_follows : (P Q : Place) (l : List ℕ) → IsEnd P → HasForm P l Q → ⊥

module _ (Place : Type 0) (HasForm : Place → List ℕ → Place → Type 0) (IsEnd : Place → Type 0)
    (tells : TellsPlaces Place HasForm IsEnd) where
  one_line : {P Q : Place} {l : List ℕ} → HasForm P l Q → avoids 10 l ≡ true
  one_line {P} {Q} {l} f = tells.avoids_newline P Q l f

  one_place : {P Q R : Place} {l k : List ℕ} → HasForm P l Q → HasForm P k R → l ≡ k → Q ≡ R
  one_place {P} {Q} {R} {l} {k} f g e = tells.leads_to_one P Q R l k f g e

  abbrev Begins : Place → List ℕ → ℕ → Type 0
  Begins = line_by_line.Begins Place HasForm

  abbrev IsWhole : Place → List ℕ → ℕ → Type 0
  IsWhole = line_by_line.IsWhole Place HasForm IsEnd

  abbrev IsFirstBad : Place → List ℕ → ℕ → Type 0
  IsFirstBad = line_by_line.IsFirstBad Place HasForm IsEnd

  abbrev Leads : Place → List (List ℕ) → Place → Type 0
  Leads = line_by_line.Leads Place HasForm

  -- what follows a line that has its form is whole where all is
  pub IsWhole-step : (P Q : Place) (l rest bytes : List ℕ) (m : ℕ) → HasForm P l Q → bytes ≡ l ++ 10 ∷ rest → IsWhole P bytes (suc m)
      → IsWhole Q rest m
  IsWhole-step P Q l rest bytes m f e b =
      let parts = split-same 10 b.0 l b.2 rest (one_line b.3) (one_line f) (sym b.4 ∙ e) in
      let place : b.1 ≡ Q = one_place b.3 f parts.0 in
      subst (λ (x : Place). IsWhole x rest m) place (subst (λ (t : List ℕ). IsWhole b.1 t m) parts.1 b.5)

  Begins-less : (P : Place) (bytes : List ℕ) (m k : ℕ) → m ≤ k → Begins P bytes k → Begins P bytes m
  Begins-less P bytes zero k h b = tt
  Begins-less P bytes (suc m) zero h b = absurd (omega arith)
  Begins-less P bytes (suc m) (suc k) h b = (b.0, b.1, b.2, b.3, b.4, Begins-less b.1 b.2 m k (omega arith) b.5)

  pub first_bad-same : (P : Place) (bytes : List ℕ) (j k : ℕ) → IsFirstBad P bytes j → IsFirstBad P bytes k → j ≡ k
  first_bad-same P bytes j k a b = elim (dec_lt j k) [
    | yes less ↦ absurd (a.no_further (Begins-less P bytes (suc j) k (omega arith) b.begins))
    | no other ↦ elim (dec_lt k j) [
      | yes more ↦ absurd (b.no_further (Begins-less P bytes (suc k) j (omega arith) a.begins))
      | no neither ↦ omega arith
    ]
  ]

  pub IsWhole-same : (P : Place) (bytes : List ℕ) (m n : ℕ) → IsWhole P bytes m → IsWhole P bytes n → m ≡ n
  IsWhole-same P bytes zero zero a b = refl
  IsWhole-same P bytes zero (suc n) a b = absurd (tells.nothing_follows P b.1 b.0 a.0 b.3)
  IsWhole-same P bytes (suc m) zero a b = absurd (tells.nothing_follows P a.1 a.0 b.0 a.3)
  IsWhole-same P bytes (suc m) (suc n) a b =
      ap (λ (x : ℕ). suc x) (IsWhole-same b.1 b.2 m n (IsWhole-step P b.1 b.0 b.2 bytes m b.3 b.4 a) b.5)

  -- lines that lead to a place from which the rest is whole
  pub IsWhole-Leads : (P Q : Place) (ls : List (List ℕ)) (rest : List ℕ) (m : ℕ) → Leads P ls Q → IsWhole Q rest m
      → (n : ℕ) × IsWhole P (text_of_lines ls ++ rest) n
  IsWhole-Leads P Q [] rest m a w = (m, subst (λ (x : Place). IsWhole x rest m) (sym a) w)
  IsWhole-Leads P Q (l ∷ ls) rest m a w =
      let more = IsWhole-Leads a.0 Q ls rest m a.2 w in
      (suc more.0, (l, a.0, text_of_lines ls ++ rest, a.1, append_assoc l (10 ∷ text_of_lines ls) rest, more.1))

  pub Leads-append : (P Q R : Place) (ls ks : List (List ℕ)) → Leads P ls Q → Leads Q ks R → Leads P (ls ++ ks) R
  Leads-append P Q R [] ks a b = subst (λ (x : Place). Leads x ks R) (sym a) b
  Leads-append P Q R (l ∷ ls) ks a b = (a.0, a.1, Leads-append a.0 Q R ls ks a.2 b)

  -- past some places, lines lead to places past them
  module _ (IsPast : Place → Type 0) (stays : (P Q : Place) (l : List ℕ) → IsPast P → HasForm P l Q → IsPast Q) where
    Leads-past : (P Q : Place) (ls : List (List ℕ)) → IsPast P → Leads P ls Q → IsPast Q
    Leads-past P Q [] past a = subst IsPast a past
    Leads-past P Q (l ∷ ls) past a = Leads-past a.0 Q ls (stays P a.0 l past a.1) a.2

    -- one of the texts has its first line past such places where the other has one before them
    too_far : (P Q R T : Place) (ks : List (List ℕ)) (l k x y : List ℕ) → P ≡ Q → HasForm Q l R → IsPast R → (IsPast T → ⊥)
        → Leads P (k ∷ ks) T
        → l ++ 10 ∷ x ≡ (k ++ 10 ∷ text_of_lines ks) ++ y → ⊥
    too_far P Q R T ks l k x y e f past before a h =
        let g : HasForm Q k a.0 = subst (λ (z : Place). HasForm z k a.0) e a.1 in
        let parts = split-same 10 l k x (text_of_lines ks ++ y) (one_line f) (one_line g) (h ∙ append_assoc k (10 ∷ text_of_lines ks) y) in
        let place : R ≡ a.0 = one_place f g parts.0 in
        before (Leads-past a.0 T ks (subst IsPast place past) a.2)

    -- the first line that leads past such places, and what follows it
    pub Leads-same : (P Q R S T : Place) (ls ks : List (List ℕ)) (l k x y : List ℕ) → Leads P ls Q → Leads P ks S → HasForm Q l R
        → HasForm S k T
        → (IsPast Q → ⊥) → (IsPast S → ⊥) → IsPast R → IsPast T
        → text_of_lines ls ++ (l ++ 10 ∷ x) ≡ text_of_lines ks ++ (k ++ 10 ∷ y) → (R ≡ T) × (x ≡ y)
    Leads-same P Q R S T [] [] l k x y a b f g before also past too h =
        let f_here : HasForm P l R = subst (λ (z : Place). HasForm z l R) (sym a) f in
        let g_here : HasForm P k T = subst (λ (z : Place). HasForm z k T) (sym b) g in
        let parts = split-same 10 l k x y (one_line f) (one_line g) h in
        (one_place f_here g_here parts.0, parts.1)
    Leads-same P Q R S T [] (m ∷ ks) l k x y a b f g before also past too h =
        absurd (too_far P Q R S ks l m x (k ++ 10 ∷ y) a f past also b h)
    Leads-same P Q R S T (m ∷ ls) [] l k x y a b f g before also past too h =
        absurd (too_far P S T Q ls k m y (l ++ 10 ∷ x) b g too before a (sym h))
    Leads-same P Q R S T (m ∷ ls) (n ∷ ks) l k x y a b f g before also past too h =
        let whole : m ++ 10 ∷ (text_of_lines ls ++ (l ++ 10 ∷ x)) ≡ n ++ 10 ∷ (text_of_lines ks ++ (k ++ 10 ∷ y)) =
        sym (append_assoc m (10 ∷ text_of_lines ls) (l ++ 10 ∷ x)) ∙ h ∙ append_assoc n (10 ∷ text_of_lines ks) (k ++ 10 ∷ y) in
        let parts = split-same 10 m n (text_of_lines ls ++ (l ++ 10 ∷ x)) (text_of_lines ks ++ (k ++ 10 ∷ y)) (one_line a.1)
        (one_line b.1) whole in
        let place : b.0 ≡ a.0 = one_place b.1 a.1 (sym parts.0) in
        Leads-same a.0 Q R S T ls ks l k x y a.2 (subst (λ (z : Place). Leads z ks S) place b.2) f g before also past too parts.1
