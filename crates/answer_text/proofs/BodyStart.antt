-- Before a relation is read, nothing is.
use Rattle.std.proofs.Common.{◌≡◌, ◌≤◌, ◌+◌, ◌-◌, ◌*◌, ℕ, zero, suc, true, false, List, [], ◌++◌, length, replicate, refl, ap, ap₂, sym}
use Rattle.std.proofs.Common.{subst, ◌∙◌, arith}
use Rattle.std.proofs.lemmas.List.Elements.{All-nil}
use Rattle.pq_base.specs.Elementary.{elementary, zeros, zero_powers, zero_rows}
use Rattle.pq_base.specs.Lines.{text_of_lines}
use Rattle.pq_base.proofs.ElementarySides.{elementary-presentation}
use Rattle.pc_presentation.specs.Syllable.{AreSyllables, syllables_of}
use Rattle.pc_presentation.specs.Relation.{IsRelation}
use Rattle.pc_presentation.specs.Pcp.{HasShape, sides_of}
use Rattle.pc_presentation.specs.Builder.{empty_draft}
use Rattle.pc_presentation.proofs.presentations.RelationTables.{entry_at-per_relation, per_relation-shape}
use Rattle.pc_presentation.proofs.presentations.SyllableParts.{syllables_of-zeros}
use Rattle.answer_text.specs.AnswerPlaces.{IsScale}
use Rattle.answer_text.specs.AnswerPlaces.Place.{in_body}
use Rattle.answer_text.specs.Drafts.{IsDraft, PowersBlank, RowBlank, RowsBlank, so_far, all_lines}
use Rattle.answer_text.specs.BodyRead.{Leads, body_lines, IsBodyRead}
use Rattle.answer_text.proofs.RelationAppends.{power_lines-blank, rows-blank}

PowersBlank-zero : (k n : ℕ) → PowersBlank k zero (zero_powers n)
PowersBlank-zero k zero = tt
PowersBlank-zero k (suc n) = (syllables_of-zeros (suc k) n, PowersBlank-zero (suc k) n)

RowBlank-zero : (j m n : ℕ) → RowBlank j zero (replicate m (zeros n))
RowBlank-zero j zero n = tt
RowBlank-zero j (suc m) n = (syllables_of-zeros j n, RowBlank-zero j m n)

RowsBlank-zero : (k j n : ℕ) → RowsBlank k zero (zero_rows j n)
RowsBlank-zero k j zero = tt
RowsBlank-zero k j (suc n) =
    let start : 0 ≡ 0 - 1000 * suc k = omega arith in
    (subst (λ (x : ℕ). RowBlank (suc k) x (replicate j (zeros n))) start (RowBlank-zero (suc k) j n), RowsBlank-zero (suc k) (suc j) n)

IsDraft-empty : (p n : ℕ) (ws : List ℕ) → IsScale p n → 2 ≤ p → length ws ≡ n → IsDraft p n (empty_draft p ws 0) 0
IsDraft-empty p n ws z one long =
    let is = elementary-presentation p (length ws) one in
    let shape : HasShape (length ws) (sides_of (elementary p (length ws))) =
    record { power_count = is.power_count; row_count = is.commutator_count; row_lengths = is.commutator_counts } in
    record {
      scale = z;
      prime = refl;
      rank = long;
      sides = subst (λ (x : ℕ). HasShape x (sides_of (elementary p (length ws)))) long shape;
      flags = subst (λ (x : ℕ). HasShape x (empty_draft p ws 0).given) long (per_relation-shape (length ws) (λ _. false));
      blank = (PowersBlank-zero 0 (length ws), RowsBlank-zero 0 0 (length ws));
      given = λ r is was.
          let no : false ≡ true =
          sym (entry_at-per_relation (length ws) (λ _. false) false r (subst (λ (x : ℕ). IsRelation x r) (sym long) is)) ∙ was in
          cc;
    }

all_lines-empty : (p n : ℕ) → all_lines p (elementary p n) ≡ []
all_lines-empty p n =
    ap₂ (λ (s t : List (List ℕ)). s ++ t) (power_lines-blank p 0 (zero_powers n) (PowersBlank-zero 0 n))
    (rows-blank 0 0 (zero_rows 0 n) (omega arith) (RowsBlank-zero 0 0 n))

pub IsBodyRead-nothing : (p n : ℕ) (ws text : List ℕ) → IsScale p n → 2 ≤ p → length ws ≡ n
    → IsBodyRead p n ws text text (n + 5) (so_far (empty_draft p ws 0) 0 [] [])
IsBodyRead-nothing p n ws text z one long =
    let none : [] ≡ body_lines p (so_far (empty_draft p ws 0) 0 [] []) =
    sym (ap (λ (x : List (List ℕ)). x ++ []) (all_lines-empty p (length ws))) in
    record {
      draft = IsDraft-empty p n ws z one long;
      weights = refl;
      no_tails = refl;
      inside = omega arith;
      names = tt;
      count = refl;
      words = All-nil (λ w. AreSyllables p n 0 w);
      relations_first = λ below. refl;
      lines = subst (λ (x : List (List ℕ)). text ≡ text_of_lines x ++ text) none refl;
      numbered = subst (λ (x : List (List ℕ)). n + 5 ≡ n + 5 + length x) none (omega arith);
      leads = subst (λ (x : List (List ℕ)). Leads (in_body p n 0 0) x (in_body p n 0 0)) none refl;
    }
