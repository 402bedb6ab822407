-- Limits that are passed, and their order in a line.
use Rattle.std.proofs.Common.{ℕ, List, [], ◌∷◌, ◌++◌, codes, replicate, refl}
use Rattle.lpres_reader.specs.Trials.{Name, Endos, Exponent, Letters}
use Rattle.lpres_reader.specs.Faults.{Limit, FirstFault}
use Rattle.lpres_reader.proofs.vectors.Texts.{text, fails_at}

abbrev one_generator : List ℕ
one_generator = codes "generators x"

pub long_name : FirstFault (text ((codes "generators y " ++ replicate 33 120) ∷ [])) 1 (Limit Name 33)
long_name = fails_at _ _ _ refl

pub large_exponent : FirstFault (text (one_generator ∷ codes "fixed x^70000" ∷ [])) 2 (Limit Exponent 70000)
large_exponent = fails_at _ _ _ refl

-- the exponent is tried before the letters
pub exponent_before_letters : FirstFault (text (one_generator ∷ codes "fixed (x*x)^-65537" ∷ [])) 2 (Limit Exponent 65537)
exponent_before_letters = fails_at _ _ _ refl

pub many_letters : FirstFault (text (one_generator ∷ codes "fixed (x*x)^40000" ∷ [])) 2 (Limit Letters 80000)
many_letters = fails_at _ _ _ refl

-- what ends first is tried first
pub inner_first : FirstFault (text (one_generator ∷ codes "fixed (x^65536*x*x)^70000" ∷ [])) 2 (Limit Letters 65537)
inner_first = fails_at _ _ _ refl

-- the equation as a whole
pub letters_of_equation : FirstFault (text (one_generator ∷ codes "fixed x^65536 = x" ∷ [])) 2 (Limit Letters 65537)
letters_of_equation = fails_at _ _ _ refl

abbrev identity : List ℕ
identity = codes "endo x -> x"

-- on the line of one endomorphism too many this comes first
pub seventeen_endomorphisms : FirstFault (text (one_generator ∷ (replicate 16 identity ++ codes "endo x -> x^70000" ∷ []))) 18
    (Limit Endos 17)
seventeen_endomorphisms = fails_at _ _ _ refl
