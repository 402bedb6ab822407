-- A push of the plain rule on a whole state, step by step: the later exponents are set aside, the generator's own exponent
-- is raised, and the later letters are pushed again, each followed by the right side of its commutator.
use Rattle.std.specs.Prelude.{ℕ, suc, Bool, true, false, eqb, get_or, slice_set}
use Rattle.pq_base.specs.Presentation.{power_side, commutator_side}
use Rattle.pc_presentation.specs.Rowed.{RowedPresentation, power_row, commutator_row}
use Rattle.pc_presentation.specs.Collection.{State, spelled, push_configuration, plain_push}

-- the exponent at place i replaced
abbrev pub with_exponent : State → ℕ → ℕ → State
with_exponent s i e = record { exponents = slice_set s.exponents i e; row = s.row }

-- the exponent at place i raised, where it becomes the prime and where it does not
abbrev pub raised_by : Bool → RowedPresentation → State → ℕ → State
raised_by true Y s i =
    push_configuration Y (plain_push Y) (with_exponent s i 0) (record { word = spelled (suc i) (power_side Y.base i); row = power_row Y i })
raised_by false Y s i = with_exponent s i (suc (get_or s.exponents i 0))

abbrev pub raised : RowedPresentation → State → ℕ → State
raised Y s i = raised_by (eqb (suc (get_or s.exponents i 0)) Y.base.prime) Y s i

-- the letter j, which generator i has passed, and the right side of their commutator
abbrev pub passed : RowedPresentation → ℕ → State → ℕ → State
passed Y i s j =
    push_configuration Y (plain_push Y) (plain_push Y s j)
    (record { word = spelled (suc j) (commutator_side Y.base j i); row = commutator_row Y j i })
