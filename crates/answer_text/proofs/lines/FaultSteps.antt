-- Where a text that is judged line by line has its first fault: behind lines that have their form it is where the rest has it, and it is
-- here where no line of the rest has its form.
use Rattle.std.proofs.Common.{◌≡◌, ◌+◌, ℕ, zero, suc, true, List, [], ◌∷◌, ◌++◌, length, refl, ap, sym, subst, ◌∙◌, append_assoc, arith}
use Rattle.std.specs.List.{AllByRecursion}
use Rattle.answer_text.proofs.texts.PieceTexts.{avoids-not}
use Rattle.pq_base.specs.Lines.{text_of_lines}
use Rattle.answer_text.proofs.Splits.{avoids, nil-split, split-same}
use Rattle.answer_text.specs.LineByLine as line_by_line
use Rattle.answer_text.proofs.lines.LineByLine.{TellsPlaces, IsWhole-step}

module _ (Place : Type 0) (HasForm : Place → List ℕ → Place → Type 0) (IsEnd : Place → Type 0)
    (tells : TellsPlaces Place HasForm IsEnd) where
  abbrev Begins : Place → List ℕ → ℕ → Type 0
  Begins = line_by_line.Begins Place HasForm

  abbrev IsWhole : Place → List ℕ → ℕ → Type 0
  IsWhole = line_by_line.IsWhole Place HasForm IsEnd

  abbrev IsFirstBad : Place → List ℕ → ℕ → Type 0
  IsFirstBad = line_by_line.IsFirstBad Place HasForm IsEnd

  abbrev Leads : Place → List (List ℕ) → Place → Type 0
  Leads = line_by_line.Leads Place HasForm

  -- no line of the bytes has the form of a line in this place
  abbrev pub IsStuck : Place → List ℕ → Type 0
  IsStuck P bytes = (l rest : List ℕ) (Q : Place) → HasForm P l Q → bytes ≡ l ++ 10 ∷ rest → ⊥

  -- no line, and this is no end
  pub IsFirstBad-here : (P : Place) (bytes : List ℕ) → IsStuck P bytes → (IsEnd P → bytes ≡ [] → ⊥) → IsFirstBad P bytes 0
  IsFirstBad-here P bytes stuck unfinished = record {
    begins = tt;
    no_further = λ b. stuck b.0 b.2 b.1 b.3 b.4;
    not_whole = none;
  } where
    none : (m : ℕ) → ¬ IsWhole P bytes m
    none zero w = unfinished w.0 w.1
    none (suc m) w = stuck w.0 w.2 w.1 w.3 w.4

  Begins-step : (P Q : Place) (l rest bytes : List ℕ) (m : ℕ) → HasForm P l Q → bytes ≡ l ++ 10 ∷ rest → Begins P bytes (suc m)
      → Begins Q rest m
  Begins-step P Q l rest bytes m f e b =
      let parts = split-same 10 b.0 l b.2 rest (tells.avoids_newline P b.1 b.0 b.3) (tells.avoids_newline P Q l f) (sym b.4 ∙ e) in
      let place : b.1 ≡ Q = tells.leads_to_one P b.1 Q b.0 l b.3 f parts.0 in
      subst (λ (x : Place). Begins x rest m) place (subst (λ (t : List ℕ). Begins b.1 t m) parts.1 b.5)

  some_line : (P Q : Place) (l rest bytes : List ℕ) (m : ℕ) → bytes ≡ l ++ 10 ∷ rest → IsWhole P bytes m → (n : ℕ) × (m ≡ suc n)
  some_line P Q l rest bytes zero e w = absurd (nil-split 10 l rest (sym w.1 ∙ e))
  some_line P Q l rest bytes (suc n) e w = (n, refl)

  -- behind a line
  pub IsFirstBad-step : (P Q : Place) (l rest bytes : List ℕ) (k : ℕ) → HasForm P l Q → bytes ≡ l ++ 10 ∷ rest → IsFirstBad Q rest k
      → IsFirstBad P bytes (suc k)
  IsFirstBad-step P Q l rest bytes k f e bad = record {
    begins = (l, Q, rest, f, e, bad.begins);
    no_further = λ b. bad.no_further (Begins-step P Q l rest bytes (suc k) f e b);
    not_whole = λ m w. let some = some_line P Q l rest bytes m e w in
        bad.not_whole some.0 (IsWhole-step Place HasForm IsEnd tells P Q l rest bytes some.0 f e
        (subst (λ (x : ℕ). IsWhole P bytes x) some.1 w));
  }

  -- behind lines
  pub IsFirstBad-behind : (P Q : Place) (ls : List (List ℕ)) (rest : List ℕ) (k : ℕ) → Leads P ls Q → IsFirstBad Q rest k
      → IsFirstBad P (text_of_lines ls ++ rest) (length ls + k)
  IsFirstBad-behind P Q [] rest k a bad =
      let same : 0 + k ≡ k = omega arith in
      subst (λ (n : ℕ). IsFirstBad P rest n) (sym same) (subst (λ (x : Place). IsFirstBad x rest k) (sym a) bad)
  IsFirstBad-behind P Q (l ∷ ls) rest k a bad =
      let same : suc (length ls) + k ≡ suc (length ls + k) = omega arith in
      subst (λ (n : ℕ). IsFirstBad P (text_of_lines (l ∷ ls) ++ rest) n) (sym same)
      (IsFirstBad-step P a.0 l (text_of_lines ls ++ rest) (text_of_lines (l ∷ ls) ++ rest) (length ls + k) a.1
      (append_assoc l (10 ∷ text_of_lines ls) rest)
      (IsFirstBad-behind a.0 Q ls rest k a.2 bad))

  -- bytes without a newline have no line
  pub IsStuck-no_line : (P : Place) (bytes : List ℕ) → avoids 10 bytes ≡ true → IsStuck P bytes
  IsStuck-no_line P bytes none l rest Q f e = avoids-not 10 l rest (ap (λ (t : List ℕ). avoids 10 t) (sym e) ∙ none)

  -- bytes whose first line hasn't the form of a line in this place
  pub IsStuck-line : (P : Place) (bytes l more : List ℕ) → bytes ≡ l ++ 10 ∷ more → avoids 10 l ≡ true → ((Q : Place) → HasForm P l Q → ⊥)
      → IsStuck P bytes
  IsStuck-line P bytes l more cut one none k rest Q f e =
      let parts = split-same 10 l k more rest one (tells.avoids_newline P Q k f) (sym cut ∙ e) in
      none Q (subst (λ (x : List ℕ). HasForm P x Q) (sym parts.0) f)

  -- lines that begin some bytes, and of which as many have their form, lead on
  pub Leads-Begins : (P : Place) (ls : List (List ℕ)) (rest : List ℕ) → AllByRecursion (λ l. avoids 10 l ≡ true) ls
      → Begins P (text_of_lines ls ++ rest) (length ls)
      → (Q : Place) × Leads P ls Q
  Leads-Begins P [] rest one b = (P, refl)
  Leads-Begins P (l ∷ ls) rest one b =
      let whole : b.0 ++ 10 ∷ b.2 ≡ l ++ 10 ∷ (text_of_lines ls ++ rest) = sym b.4 ∙ append_assoc l (10 ∷ text_of_lines ls) rest in
      let parts = split-same 10 b.0 l b.2 (text_of_lines ls ++ rest) (tells.avoids_newline P b.1 b.0 b.3) one.0 whole in
      let more = Leads-Begins b.1 ls rest one.1 (subst (λ (t : List ℕ). Begins b.1 t (length ls)) parts.1 b.5) in
      (more.0, (b.1, subst (λ (x : List ℕ). HasForm P x b.1) parts.0 b.3, more.1))
