-- What a log that keeps steps holds of each step, and how its lists of steps grow. A log says which lists it keeps by a relation,
-- so that it need not store all of a step.
use Rattle.std.specs.Prelude.{◌≡◌, ◌↔◌, ℕ, List, [], ◌∷◌, ◌++◌}
use Rattle.fp_echelon.specs.Reduced.{BasisRow}
use Rattle.fp_echelon.specs.Basis.{Echelon}
use Rattle.derivation_log.specs.declared.source.Run.{Run}
use Rattle.derivation_log.specs.declared.source.Run.TheVariants.{Iterated, Whole}
use Rattle.derivation_log.specs.declared.source.RowSource.{RowSource}

-- the basis of a step: its prime and width, the rows that were added to it, in order, with what each comes from, and its own
-- rows with their coefficients
pub record HeldStep : Type 0 where
  pub sources : List RowSource
  pub prime : ℕ
  pub width : ℕ
  pub added : List (List ℕ)
  pub rows : List BasisRow

-- a step as a log is told of it
abbrev pub told_step : List RowSource → Echelon → HeldStep
told_step sources B = record { sources = sources; prime = B.prime; width = B.width; added = B.added; rows = B.rows }

-- the basis of a held step
abbrev pub held_basis : HeldStep → Echelon
held_basis s = record { prime = s.prime; width = s.width; added = s.added; rows = s.rows; spare = 0 }

abbrev pub other_run : Run → Run
other_run Iterated = Whole
other_run Whole = Iterated

-- a step was appended to each list that was kept, and each list that is kept has one step more than one that was
pub record KeepsOneMore (before after : List HeldStep → Type 0) (step : HeldStep) : Type 0 where
  pub appended : (steps : List HeldStep) → before steps → after (steps ++ step ∷ [])
  pub one_more : (steps : List HeldStep) → after steps
      → (earlier : List HeldStep) × (last : HeldStep) × before earlier × (steps ≡ earlier ++ last ∷ [])

-- the same lists are kept
abbrev pub KeepsTheSame : (List HeldStep → Type 0) → (List HeldStep → Type 0) → Type 0
KeepsTheSame before after = (steps : List HeldStep) → before steps ↔ after steps

-- no list of steps
abbrev pub NoSteps : List HeldStep → Type 0
NoSteps steps = ⊥
