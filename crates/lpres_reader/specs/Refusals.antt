-- Why a text is not read, as the reader tells it.
use Rattle.std.specs.Prelude.{ℕ, List}
use Rattle.lpres_reader.specs.declared.refusal.ReadRefusal.{ReadRefusal}
use Rattle.lpres_reader.specs.declared.refusal.ReadRefusal.TheVariants.{Text, NoMemory}
use Rattle.lpres_reader.specs.Faults.{FirstFault}
use Rattle.lpres_reader.specs.declared.fault.Stop.{Stop}
use Rattle.lpres_reader.specs.declared.fault.Stop.TheVariants as stop
use Rattle.lpres_reader.specs.Stops.{kind_of}

-- the text's first fault, or want of memory
abbrev pub IsRefusedBy : List ℕ → ReadRefusal → Type 0
IsRefusedBy text (Text fault) = FirstFault text fault.line (kind_of fault.kind)
IsRefusedBy text NoMemory = Unit {0}

-- where a line is not read, with its number
abbrev pub refusal_at : ℕ → Stop → ReadRefusal
refusal_at line (stop.Fault kind) = Text (record { line = line; kind = kind })
refusal_at line stop.NoMemory = NoMemory
