-- Blanks at the front of a line change neither whether it is skipped nor its first token, and a text is its first line
-- and the lines behind the first newline.
use Rattle.std.proofs.Common.{◌≡◌, ℕ, suc, ◌+◌, ◌-◌, ◌<◌, ◌≤◌, Bool, true, false, cond, eqb, ltb, List, [], ◌∷◌, length, get_or, take, drop}
use Rattle.std.proofs.Common.{refl, sym, ap, subst, ◌∙◌, arith, Some, None}
use Rattle.std.specs.List.{prefix_len, position, position_or_len}
use Rattle.std.proofs.lemmas.Bool.{ltb-true}
use Rattle.std.proofs.lemmas.List.{take_all}
use Rattle.std.proofs.lemmas.Option.{cond_some}
use Rattle.std.proofs.lemmas.List.Sums.{prefix_len-le-length}
use Rattle.std.proofs.lemmas.List.Splits.{slice_split_none, slice_split_first}
use Rattle.lpres_reader.proofs.faults.Positions.{position-none}
use Rattle.lpres_reader.specs.Lines.{is_blank, is_skipped, lines_of}
use Rattle.lpres_reader.specs.Front.{Front, line_end, front_at, front_of}

pub prefix_le : (test : ℕ → Bool) (line : List ℕ) → prefix_len test line ≤ length line
prefix_le test line = prefix_len-le-length test line

-- a line without the blanks at its front
abbrev pub without_blanks : List ℕ → List ℕ
without_blanks line = drop (prefix_len is_blank line) line

-- what looks past blanks is what G sees behind them
past_blanks : {X : Type 0} (F G : List ℕ → X) → F [] ≡ G []
    → ((b : ℕ) (rest : List ℕ) → F (b ∷ rest) ≡ cond (is_blank b) (F rest) (G (b ∷ rest)))
    → (line : List ℕ) → F line ≡ G (without_blanks line)
past_blanks F G end step [] = end
past_blanks F G end step (b ∷ line) =
    let n = prefix_len is_blank line in
    let one : suc n ≡ 1 + n = omega arith in
    step b line ∙ elim (is_blank b) as (λ t. cond t (F line) (G (b ∷ line)) ≡ G (drop (cond t (1 + n) 0) (b ∷ line))) [
      | true ↦ subst (λ (k : ℕ). F line ≡ G (drop k (b ∷ line))) one (past_blanks F G end step line)
      | false ↦ refl
    ]

abbrev pub skipped_at : List ℕ → Bool
skipped_at [] = true
skipped_at (b ∷ rest) = eqb b 35

pub is_skipped-without_blanks : (line : List ℕ) → is_skipped line ≡ skipped_at (without_blanks line)
is_skipped-without_blanks line = past_blanks is_skipped skipped_at refl (λ b rest. refl) line

abbrev pub front_here : List ℕ → Front
front_here [] = line_end
front_here (b ∷ rest) = front_at b rest

pub front_of-without_blanks : (line : List ℕ) → front_of line ≡ front_here (without_blanks line)
front_of-without_blanks line = past_blanks front_of front_here refl (λ b rest. refl) line

abbrev is_newline : ℕ → Bool
is_newline b = eqb b 10

pub lines_of-last : (text : List ℕ) → position is_newline text ≡ None → lines_of text ≡ text ∷ []
lines_of-last text e = slice_split_none is_newline text (λ k d lt. position-none is_newline text k d e lt)

pub lines_of-first : (text : List ℕ) (at : ℕ) → position is_newline text ≡ Some at
    → (lines_of text ≡ take at text ∷ lines_of (drop (at + 1) text)) × (at < length text)
lines_of-first text at e =
    let n = position_or_len is_newline text in
    let found = cond_some (ltb n (length text)) n at e in
    let short : n < length text = ltb-true n (length text) found.0 in
    subst (λ (k : ℕ). (lines_of text ≡ take k text ∷ lines_of (drop (k + 1) text)) × (k < length text)) found.1
    (slice_split_first is_newline text 0 short, short)

-- what is seen past blanks, by cases on the line r without them
pub skipped_nothing : (line r : List ℕ) → r ≡ without_blanks line → length r < 1 → true ≡ is_skipped line
skipped_nothing line [] e h = sym (is_skipped-without_blanks line ∙ ap skipped_at (sym e))
skipped_nothing line (b ∷ r) e h = absurd (omega arith)

pub skipped_byte : (line r : List ℕ) → r ≡ without_blanks line → 1 ≤ length r → eqb (get_or r 0 0) 35 ≡ is_skipped line
skipped_byte line [] e h = absurd (omega arith)
skipped_byte line (b ∷ r) e h = sym (is_skipped-without_blanks line ∙ ap skipped_at (sym e))

pub front_nothing : (line r : List ℕ) → r ≡ without_blanks line → length r < 1 → front_of line ≡ line_end
front_nothing line [] e h = front_of-without_blanks line ∙ ap front_here (sym e)
front_nothing line (b ∷ r) e h = absurd (omega arith)

pub front_byte : (line r : List ℕ) → r ≡ without_blanks line → 1 ≤ length r
    → front_of line ≡ front_at (get_or r 0 0) (take (length r - 1) (drop 1 r))
front_byte line [] e h = absurd (omega arith)
front_byte line (b ∷ r) e h =
    let whole : take (suc (length r) - 1) r ≡ r = take_all _ r (omega arith) in
    front_of-without_blanks line ∙ ap front_here (sym e) ∙ ap (front_at b) (sym whole)
