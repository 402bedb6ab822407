-- What a call answers is handed on with what is known of it, good or bad.
use Rattle.std.proofs.Common.{Result, Ok, Err, MatchResult}
use Rattle.lpres_reader.specs.declared.fault.Stop.{Stop}
use Rattle.lpres_reader.specs.declared.fault.Kind.{Kind}
use Rattle.lpres_reader.specs.Stops.{Refuses}
use Rattle.lpres_reader.proofs.faults.Refusing.{refuses_map}

pub result_map : {T : Type 0} (P Q : T → Type 0) (R S : Kind → Type 0) (r : Result T Stop) → ((x : T) → P x → Q x)
    → ((k : Kind) → R k → S k) → MatchResult r P (Refuses R) → MatchResult r Q (Refuses S)
result_map P Q R S (Ok x) f g h = f x h
result_map P Q R S (Err s) f g h = refuses_map R S s g h
