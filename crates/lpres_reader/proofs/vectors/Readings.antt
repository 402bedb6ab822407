-- What lines of relators and endomorphisms mean.
use Rattle.std.proofs.Common.{ℕ, ℤ, pos, negsuc, List, [], ◌∷◌, ◌++◌, codes, refl}
use Rattle.pq_base.specs.LPresentation.{LPresentation}
use Rattle.lpres_reader.specs.Reads.{Reads}
use Rattle.lpres_reader.proofs.vectors.Texts.{text, reads_as}

abbrev xy : List (List ℕ)
xy = codes "x" ∷ codes "y" ∷ []

-- over x and y, one fixed relator
abbrev one_fixed : List ℤ → LPresentation
one_fixed w = record { names = xy; fixed = w ∷ []; iterated = []; endos = [] }

-- a chain of `^` is read from the left: the conjugate of the square
pub square_conjugated : Reads (text (codes "generators x y" ∷ codes "fixed x^2^y" ∷ [])) (one_fixed (negsuc 1 ∷ pos 1 ∷ pos 1 ∷ pos 2 ∷ []))
square_conjugated = reads_as _ _ refl

-- and the inverse of the conjugate
pub conjugate_inverted : Reads (text (codes "generators x y" ∷ codes "fixed x^y^-1" ∷ [])) (one_fixed (negsuc 1 ∷ negsuc 0 ∷ pos 2 ∷ []))
conjugate_inverted = reads_as _ _ refl

-- `[x,y,x]` is the commutator of `[x,y]` and x
pub commutator_of_three : Reads (text (codes "generators x y" ∷ codes "fixed [x,y,x]" ∷ []))
    (one_fixed (negsuc 1 ∷ negsuc 0 ∷ pos 2 ∷ pos 1 ∷ negsuc 0 ∷ negsuc 0 ∷ negsuc 1 ∷ pos 1 ∷ pos 2 ∷ pos 1 ∷ []))
commutator_of_three = reads_as _ _ refl

-- an equation is the left side times the inverse of the right one
pub equation_of_powers : Reads (text (codes "generators x y" ∷ codes "fixed x^2 = y*x" ∷ []))
    (one_fixed (pos 1 ∷ pos 1 ∷ negsuc 0 ∷ negsuc 1 ∷ []))
equation_of_powers = reads_as _ _ refl

-- `^` binds tighter than `*`, brackets bind tightest, and nothing cancels
pub products_and_powers : Reads (text (codes "generators x y" ∷ codes "fixed x*y^2*(x*x^-1)^2" ∷ []))
    (one_fixed (pos 1 ∷ pos 2 ∷ pos 2 ∷ pos 1 ∷ negsuc 0 ∷ pos 1 ∷ negsuc 0 ∷ []))
products_and_powers = reads_as _ _ refl

-- the empty word, as a relator and as a factor
pub empty_words : Reads (text (codes "generators x y" ∷ codes "fixed 1, 1*x*1^5" ∷ []))
    (record { names = xy; fixed = [] ∷ (pos 1 ∷ []) ∷ []; iterated = []; endos = [] })
empty_words = reads_as _ _ refl

-- exponents may have leading zeros, and a minus before zero
pub odd_exponents : Reads (text (codes "generators x y" ∷ codes "fixed x^002, x^-0" ∷ []))
    (record { names = xy; fixed = (pos 1 ∷ pos 1 ∷ []) ∷ [] ∷ []; iterated = []; endos = [] })
odd_exponents = reads_as _ _ refl

-- comments, blank lines, commas between names, blanks between tokens, keywords as names, arrows in any order, lines in any
-- order, and a last line without a newline
pub all_kinds_of_lines : Reads
    (text (codes "# a comment" ∷ codes "generators fixed, endo x" ∷ [] ∷ codes "endo x -> fixed, fixed->x , endo -> 1"
    ∷ codes "iterated\tendo" ∷ codes "  fixed fixed" ∷ []) ++ codes "iterated x ^ - 1")
    (record {
      names = codes "fixed" ∷ codes "endo" ∷ codes "x" ∷ [];
      fixed = (pos 1 ∷ []) ∷ [];
      iterated = (pos 2 ∷ []) ∷ (negsuc 2 ∷ []) ∷ [];
      endos = ((pos 3 ∷ []) ∷ [] ∷ (pos 1 ∷ []) ∷ []) ∷ [];
    })
all_kinds_of_lines = reads_as _ _ refl
