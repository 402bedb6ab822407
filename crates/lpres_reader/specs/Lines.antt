-- Lines: what stands between newline bytes. A comment or blank line is skipped, whatever else is in it.
use Rattle.std.specs.Prelude.{◌≤◌, ℕ, ◌+◌, Bool, true, not, ◌||◌, ◌==◌, if◌then◌else◌, List, [], ◌∷◌, take, filter, count_by}
use Rattle.std.specs.List.{slice_split}

-- space, tab and carriage return
abbrev pub is_blank : ℕ → Bool
is_blank b = b == 32 || b == 9 || b == 13

-- the line is blank, or its first byte that is no blank is `#`
abbrev pub is_skipped : List ℕ → Bool
is_skipped [] = true
is_skipped (b ∷ line) = if is_blank b then is_skipped line else b == 35

-- the pieces between newline bytes, one more than there are newline bytes; the last may be empty
abbrev pub lines_of : List ℕ → List (List ℕ)
lines_of text = slice_split (λ b. b == 10) text

-- the lines that are not skipped, in order
abbrev pub content_of : List ℕ → List (List ℕ)
content_of text = filter (λ line. not (is_skipped line)) (lines_of text)

-- `(` and `[`
abbrev pub is_opening : ℕ → Bool
is_opening b = b == 40 || b == 91

-- `)` and `]`
abbrev pub is_closing : ℕ → Bool
is_closing b = b == 41 || b == 93

-- at no place are more than 64 brackets open; there may be more closing ones than opening ones
abbrev pub IsShallow : List ℕ → Type 0
IsShallow line = (n : ℕ) → count_by is_opening (take n line) ≤ count_by is_closing (take n line) + 64
