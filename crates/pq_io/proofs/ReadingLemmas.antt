-- What is left of a source, after reads, is what it told without what was read.
use Rattle.std.proofs.Common.{◌≡◌, ◌≤◌, ℕ, List, [], ◌++◌, length, drop, Option, None, Some, IfSome, refl, sym, ◌∙◌, ap}
use Rattle.std.proofs.lemmas.List.{drop_at}
use Rattle.std.specs.Io.KnownBytes.{Consumes}

pub Consumes-drop : (a b : Option (List ℕ)) (bytes : List ℕ) (n : ℕ) → Consumes a b bytes → length bytes ≤ n
    → IfSome a (λ told. (k : ℕ) × (k ≤ n) × (b ≡ Some (drop k told)))
Consumes-drop None b bytes n read few = tt
Consumes-drop (Some told) None bytes n read few = absurd read
Consumes-drop (Some told) (Some rest) bytes n read few = (
  length bytes,
  few,
  ap (λ (l : List ℕ). Some l) (sym (ap (λ (l : List ℕ). drop (length bytes) l) read ∙ drop_at bytes rest (length bytes) refl)),
)

-- a read of nothing changes nothing
pub Consumes-still : (a b c : Option (List ℕ)) (bytes : List ℕ) → Consumes a b bytes → Consumes b c [] → Consumes a c bytes
Consumes-still None b c bytes read same = tt
Consumes-still (Some told) None c bytes read same = absurd read
Consumes-still (Some told) (Some rest) None bytes read same = absurd same
Consumes-still (Some told) (Some rest) (Some last) bytes read same = read ∙ ap (λ (l : List ℕ). bytes ++ l) same
