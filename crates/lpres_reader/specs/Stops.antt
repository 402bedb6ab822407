-- Why a line is not read, and what a call answers that reads a part of a line.
use Rattle.lpres_reader.specs.declared.fault.Stop.{Stop}
use Rattle.lpres_reader.specs.declared.fault.Stop.TheVariants.{Fault, NoMemory}
use Rattle.lpres_reader.specs.declared.fault.Kind.TheVariants as kind
use Rattle.lpres_reader.specs.declared.fault.Which.TheVariants as which
use Rattle.lpres_reader.specs.Trials as trials
use Rattle.lpres_reader.specs.Faults as faults

-- the code's names for what is limited and for kinds of faults
abbrev pub which_of : Rattle.lpres_reader.specs.declared.fault.Which.Which → trials.Which
which_of which.Name = trials.Name
which_of which.Generators = trials.Generators
which_of which.Fixed = trials.Fixed
which_of which.Iterated = trials.Iterated
which_of which.Endos = trials.Endos
which_of which.Exponent = trials.Exponent
which_of which.Letters = trials.Letters
which_of which.Total = trials.Total

abbrev pub kind_of : Rattle.lpres_reader.specs.declared.fault.Kind.Kind → faults.Kind
kind_of kind.Deep = faults.Deep
kind_of kind.Syntax = faults.Syntax
kind_of kind.UnknownName = faults.UnknownName
kind_of kind.RepeatedName = faults.RepeatedName
kind_of (kind.Limit w n) = faults.Limit (which_of w) n
kind_of kind.NotAllImages = faults.NotAllImages

-- a fault of which this holds, or want of memory
abbrev pub Refuses : (Rattle.lpres_reader.specs.declared.fault.Kind.Kind → Type 0) → Stop → Type 0
Refuses P NoMemory = Unit {0}
Refuses P (Fault k) = P k
