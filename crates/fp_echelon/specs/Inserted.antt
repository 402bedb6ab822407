-- The two answers of an insertion.
use Rattle.std.specs.Prelude.{ℕ}
use Rattle.fp_echelon.specs.declared.insertion.Insertion.{Insertion}
use Rattle.fp_echelon.specs.declared.insertion.Insertion.TheVariants.{Added, Dependent}

-- a fact where the row was added
abbrev pub IfAdded : Insertion → (ℕ → Type 0) → Type 0
IfAdded (Added c) P = P c
IfAdded Dependent P = Unit {0}

-- a fact where it was not
abbrev pub IfDependent : Insertion → Type 0 → Type 0
IfDependent (Added c) P = Unit {0}
IfDependent Dependent P = P
