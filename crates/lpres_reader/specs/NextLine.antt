-- What a line leads to, behind what the lines before it are, for the reader's own functions.
use Rattle.std.specs.Prelude.{◌≡◌, ℕ, true, false, List, Option, Some}
use Rattle.pq_base.specs.LPresentation.{LPresentation}
use Rattle.lpres_reader.specs.declared.fault.Kind.{Kind}
use Rattle.lpres_reader.specs.Lines.{is_skipped}
use Rattle.lpres_reader.specs.Makes.{Makes}
use Rattle.lpres_reader.specs.Faults.{LineFault}
use Rattle.lpres_reader.specs.Stops.{kind_of}

-- the line is skipped and changes nothing, or it makes a presentation
pub data LeadsTo (m : Option LPresentation) (line : List ℕ) (n : Option LPresentation) : Type 0 where
  skipped : is_skipped line ≡ true → n ≡ m → LeadsTo m line n
  made : (L : LPresentation) → is_skipped line ≡ false → n ≡ Some L → Makes m line L → LeadsTo m line n

-- the line is not skipped and has this fault
abbrev pub StopsBy : Option LPresentation → List ℕ → Kind → Type 0
StopsBy m line k = (is_skipped line ≡ false) × LineFault m line (kind_of k)
