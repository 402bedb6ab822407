-- The text of two lists of lines is the text of one and then of the other, and so a writer may go on line by line.
use Rattle.std.proofs.Common.{◌≡◌, ℕ, List, [], ◌∷◌, ◌++◌, refl, append_assoc, append-nil}
use Rattle.pq_base.specs.Lines.{text_of_lines}

pub text_of_lines-append : (ks ls : List (List ℕ)) → text_of_lines (ks ++ ls) ≡ text_of_lines ks ++ text_of_lines ls
text_of_lines-append [] ls = refl
text_of_lines-append (k ∷ ks) ls = simp (text_of_lines-append ks ls, append_assoc)

-- a writer that wrote the next line
pub text_of_lines-next : (out new all line : List ℕ) (before after : List (List ℕ)) → new ≡ out ++ (line ++ 10 ∷ []) → before ≡ line ∷ after
    → out ++ text_of_lines before ≡ all → new ++ text_of_lines after ≡ all
text_of_lines-next out new all line before after written next so_far =
    let now : out ++ (line ++ (10 ∷ text_of_lines after)) ≡ all = rw next at so_far in
    rw written (simp append_assoc now)

-- a writer that wrote the next lines
pub text_of_lines-part : (out new all : List ℕ) (part before after : List (List ℕ)) → new ≡ out ++ text_of_lines part
    → before ≡ part ++ after
    → out ++ text_of_lines before ≡ all → new ++ text_of_lines after ≡ all
text_of_lines-part out new all part before after written next so_far =
    let whole : out ++ text_of_lines (part ++ after) ≡ all = rw next at so_far in
    let now : out ++ (text_of_lines part ++ text_of_lines after) ≡ all = rw (text_of_lines-append part after) at whole in
    rw written (simp append_assoc now)

-- a writer that has no line left
pub text_of_lines-done : (out all : List ℕ) (left : List (List ℕ)) → left ≡ [] → out ++ text_of_lines left ≡ all → out ≡ all
text_of_lines-done out all left none so_far =
    let now : out ++ [] ≡ all = rw none at so_far in
    simp append-nil at now
