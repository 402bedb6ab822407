-- A stop is handed on with what is known of it.
use Rattle.std.proofs.Common.{◌≡◌, Option, None, Err}
use Rattle.lpres_reader.specs.declared.fault.Stop.{Stop}
use Rattle.lpres_reader.specs.declared.fault.Stop.TheVariants.{Fault, NoMemory}
use Rattle.lpres_reader.specs.declared.fault.Kind.{Kind}
use Rattle.lpres_reader.specs.declared.fault.Kind.TheVariants.{Syntax}
use Rattle.lpres_reader.specs.Stops.{Refuses}
use Rattle.lpres_reader.specs.Forms.{Found}

pub refuses_map : (P Q : Kind → Type 0) (s : Stop) → ((k : Kind) → P k → Q k) → Refuses P s → Refuses Q s
refuses_map P Q NoMemory f h = tt
refuses_map P Q (Fault k) f h = f k h

pub found_refuses : {X : Type 0} (o : Option X) (Q : Type 0) (s : Stop) → (o ≡ None → Q) → Found (Err s) o
    → Refuses (λ k. (k ≡ Syntax) × Q) s
found_refuses o Q NoMemory f h = tt
found_refuses o Q (Fault k) f h = (h.0, f h.1)
