-- The primes that the engine works with.
use Rattle.std.specs.Prelude.{◌≡◌, ◌⊎◌, ℕ, List, [], ◌∷◌}
use Rattle.pq_base.specs.declared.prime.Prime.{Prime}
use Rattle.pq_base.specs.declared.prime.Prime.TheVariants.{P2, P3, P5, P7}

-- the prime as a number
abbrev pub prime_value : Prime → ℕ
prime_value P2 = 2
prime_value P3 = 3
prime_value P5 = 5
prime_value P7 = 7

-- these primes
abbrev pub offered_primes : List ℕ
offered_primes = 2 ∷ 3 ∷ 5 ∷ 7 ∷ []

-- a number that is the first of a list or one of the others
abbrev pub IsOneOf : List ℕ → ℕ → Type 0
IsOneOf [] n = ⊥
IsOneOf (m ∷ ms) n = (n ≡ m) ⊎ IsOneOf ms n

-- a number that is one of these primes
abbrev pub IsOffered : ℕ → Type 0
IsOffered n = IsOneOf offered_primes n
