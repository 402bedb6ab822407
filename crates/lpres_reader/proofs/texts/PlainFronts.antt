-- The name or the star at the front of a line, found with no look at other tokens.
use Rattle.std.proofs.Common.{◌≡◌, ℕ, suc, ◌-◌, ◌≤◌, true, List, [], ◌∷◌, length, get_or, take, drop, sym, ap, ◌∙◌, arith}
use Rattle.std.specs.List.{prefix_len}
use Rattle.std.proofs.lemmas.Bool.{cond-true}
use Rattle.std.proofs.lemmas.List.{take_all}
use Rattle.pq_base.specs.Name.{is_letter, is_name_byte}
use Rattle.lpres_reader.specs.declared.token.Symbol.TheVariants.{Star}
use Rattle.lpres_reader.specs.Tokens.{name, symbol}
use Rattle.lpres_reader.specs.Front.{token_first, front_at, front_of}
use Rattle.lpres_reader.proofs.texts.LineLemmas.{without_blanks, front_here, front_of-without_blanks}

-- by cases on the line r without the blanks at its front
pub front_name : (line r : List ℕ) → r ≡ without_blanks line → 1 ≤ length r → is_letter (get_or r 0 0) ≡ true
    → front_of line ≡ token_first (name (take (prefix_len is_name_byte r) r)) (drop (prefix_len is_name_byte r) r)
front_name line [] e h letter = absurd (omega arith)
front_name line (b ∷ r) e h letter =
    front_of-without_blanks line ∙ ap front_here (sym e) ∙ cond-true (is_letter b) _ _ letter

pub front_star : (line r : List ℕ) → r ≡ without_blanks line → 1 ≤ length r → get_or r 0 0 ≡ 42
    → front_of line ≡ token_first (symbol Star) (take (length r - 1) (drop 1 r))
front_star line [] e h star = absurd (omega arith)
front_star line (b ∷ r) e h star =
    let whole : take (suc (length r) - 1) r ≡ r = take_all _ r (omega arith) in
    front_of-without_blanks line ∙ ap front_here (sym e) ∙ ap (λ (c : ℕ). front_at c r) star ∙ ap (token_first (symbol Star)) (sym whole)
