-- The first faults of small texts, but for limits.
use Rattle.std.proofs.Common.{◌≡◌, ℕ, true, false, eqb, ◌||◌, Err, List, [], ◌∷◌, ◌++◌, codes, replicate, length, refl, ap, ◌∙◌, arith}
use Rattle.std.specs.List.{list_all, list_any, AllByRecursion}
use Rattle.std.proofs.lemmas.Bool.{and_parts, cond-true, cond-false}
use Rattle.std.proofs.lemmas.Bool.Decides.{nat_tests}
use Rattle.std.proofs.lemmas.List.Elements.{All-from_recursion}
use Rattle.std.proofs.lemmas.List.Splits.{slice_split_none}
use Rattle.lpres_reader.specs.Lines.{is_blank, lines_of}
use Rattle.lpres_reader.specs.Front.{line_end, front_at, front_of}
use Rattle.lpres_reader.specs.Verdicts.{is_generators}
use Rattle.lpres_reader.specs.Faults.{Deep, Syntax, UnknownName, RepeatedName, NotAllImages, FirstFault}
use Rattle.lpres_reader.proofs.vectors.Texts.{text, fails_at}

abbrev two_generators : List ℕ
two_generators = codes "generators x y"

pub nothing : FirstFault [] 1 Syntax
nothing = fails_at _ _ _ refl

-- where no line gives generators the fault is behind the last newline
pub no_generators_line : FirstFault (text (codes "fixed x" ∷ codes "generatorsx y" ∷ [])) 3 Syntax
no_generators_line = fails_at _ _ _ refl

-- where a later one does it is at the line before
pub late_generators : FirstFault (text (codes "# first" ∷ codes "fixed x" ∷ codes "generators x" ∷ [])) 2 Syntax
late_generators = fails_at _ _ _ refl

pub second_generators : FirstFault (text (two_generators ∷ codes "generators z" ∷ [])) 2 Syntax
second_generators = fails_at _ _ _ refl

-- a byte that begins no token, also on the first line
pub strange_byte : FirstFault (text ((codes "generators x" ++ 195 ∷ []) ∷ [])) 1 Syntax
strange_byte = fails_at _ _ _ refl

pub cut_arrow : FirstFault (text (two_generators ∷ codes "endo x - > y, y -> x" ∷ [])) 2 Syntax
cut_arrow = fails_at _ _ _ refl

-- the one number that is a word is the byte `1`
pub zero_is_no_word : FirstFault (text (two_generators ∷ codes "fixed 0" ∷ [])) 2 Syntax
zero_is_no_word = fails_at _ _ _ refl

pub long_one_is_no_word : FirstFault (text (two_generators ∷ codes "fixed 01" ∷ [])) 2 Syntax
long_one_is_no_word = fails_at _ _ _ refl

pub single_entry : FirstFault (text (two_generators ∷ codes "fixed [x]" ∷ [])) 2 Syntax
single_entry = fails_at _ _ _ refl

pub inverse_of_name_as_exponent : FirstFault (text (two_generators ∷ codes "fixed x^-y" ∷ [])) 2 Syntax
inverse_of_name_as_exponent = fails_at _ _ _ refl

pub two_equations : FirstFault (text (two_generators ∷ codes "fixed x = y = x" ∷ [])) 2 Syntax
two_equations = fails_at _ _ _ refl

pub open_bracket : FirstFault (text (two_generators ∷ codes "fixed (x" ∷ [])) 2 Syntax
open_bracket = fails_at _ _ _ refl

pub unknown_name : FirstFault (text (two_generators ∷ codes "fixed x*z" ∷ [])) 2 UnknownName
unknown_name = fails_at _ _ _ refl

-- also in front of an arrow, and whatever limits are passed before
pub unknown_name_before_limits : FirstFault (text (two_generators ∷ codes "endo x -> x^70000, z -> y" ∷ [])) 2 UnknownName
unknown_name_before_limits = fails_at _ _ _ refl

pub repeated_name : FirstFault (text (codes "generators x x" ∷ [])) 1 RepeatedName
repeated_name = fails_at _ _ _ refl

pub missing_image : FirstFault (text (two_generators ∷ codes "endo x -> y" ∷ [])) 2 NotAllImages
missing_image = fails_at _ _ _ refl

pub image_twice : FirstFault (text (two_generators ∷ codes "endo x -> y, y -> x, x -> y" ∷ [])) 2 NotAllImages
image_twice = fails_at _ _ _ refl

-- sixty-five open brackets, whatever else is wrong with the line
pub too_deep : FirstFault (text (two_generators ∷ (codes "fixed ?" ++ replicate 65 40) ∷ [])) 2 Deep
too_deep = fails_at _ _ _ refl

pub deep_enough : FirstFault (text (two_generators ∷ (codes "fixed " ++ replicate 64 40) ∷ [])) 2 Syntax
deep_enough = fails_at _ _ _ refl

-- blanks alone, as many as there are
blank_front : (t : List ℕ) → list_all is_blank t ≡ true → front_of t ≡ line_end
blank_front [] h = refl
blank_front (b ∷ t) h = let parts = and_parts (is_blank b) (list_all is_blank t) h in
    cond-true (is_blank b) (front_of t) (front_at b t) parts.0 ∙ blank_front t parts.1

blank_line : (t : List ℕ) → list_all is_blank t ≡ true → AllByRecursion (λ b. eqb b 10 ≡ false) t
blank_line [] h = tt
blank_line (b ∷ t) h = let parts = and_parts (is_blank b) (list_all is_blank t) h in (blank_is_no_newline b parts.0, blank_line t parts.1)
  where
    blank_is_no_newline : (c : ℕ) → is_blank c ≡ true → eqb c 10 ≡ false
    blank_is_no_newline c e = grind (arith, nat_tests)

pub blanks_alone : (t : List ℕ) → list_all is_blank t ≡ true → FirstFault t 1 Syntax
blanks_alone t h =
    let one : lines_of t ≡ t ∷ [] = slice_split_none (λ b. eqb b 10) t (All-from_recursion (λ b. eqb b 10 ≡ false) t (blank_line t h)) in
    let none : list_any (λ line. is_generators (front_of line)) (lines_of t) ≡ false =
    ap (list_any (λ line. is_generators (front_of line))) one ∙ ap (λ f. is_generators f || false) (blank_front t h) in
    fails_at t 1 Syntax
    (cond-false (list_any (λ line. is_generators (front_of line)) (lines_of t)) _ _ none
    ∙ ap (λ (ls : List (List ℕ)). Err (length ls, Syntax)) one)
