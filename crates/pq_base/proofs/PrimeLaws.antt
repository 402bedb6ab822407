-- The prime of a presentation is positive, and each prime that is offered is at least 2 and below 8.
use Rattle.std.proofs.Common.{◌≡◌, ℕ, Bool, true, ◌<◌, ◌≤◌, ◌&&◌, nat_le, nat_lt, List, [], ◌∷◌, inl, inr, refl, ap, sym, ◌∙◌, arith}
use Rattle.std.specs.List.{list_all}
use Rattle.std.proofs.lemmas.Bool.{and_parts, leb-true}
use Rattle.pq_base.specs.declared.prime.Prime.{Prime}
use Rattle.pq_base.specs.declared.prime.Prime.TheVariants.{P2, P3, P5, P7}
use Rattle.pq_base.specs.Prime.{prime_value, offered_primes, IsOneOf, IsOffered}
use Rattle.pq_base.specs.Presentation.{Presentation, IsPresentation}

pub positive_prime : (P : Presentation) → IsPresentation P → 0 < P.prime
positive_prime P is = let two = is.prime in omega arith

-- what passes a test that each entry of a list passes
tested-one_of : (test : ℕ → Bool) (ms : List ℕ) → list_all test ms ≡ true → (n : ℕ) → IsOneOf ms n → test n ≡ true
tested-one_of test [] h n is = absurd is
tested-one_of test (m ∷ ms) h n (inl same) = ap test same ∙ (and_parts (test m) (list_all test ms) h).0
tested-one_of test (m ∷ ms) h n (inr later) = tested-one_of test ms (and_parts (test m) (list_all test ms) h).1 n later

pub tested-offered : (test : ℕ → Bool) → list_all test offered_primes ≡ true → (p : ℕ) → IsOffered p → test p ≡ true
tested-offered test h p offered = tested-one_of test offered_primes h p offered

pub offered-two : (p : ℕ) → IsOffered p → 2 ≤ p
offered-two p offered = leb-true 2 p (tested-offered (nat_le 2) refl p offered)

pub offered-small : (p : ℕ) → IsOffered p → p < 8
offered-small p offered = let low = leb-true p 7 (tested-offered (λ n. nat_le n 7) refl p offered) in omega arith

pub offered-positive : (p : ℕ) → IsOffered p → 1 ≤ p
offered-positive p offered = let two = offered-two p offered in omega arith

pub prime_value-offered : (q : Prime) → IsOffered (prime_value q)
prime_value-offered P2 = inl refl
prime_value-offered P3 = inr (inl refl)
prime_value-offered P5 = inr (inr (inl refl))
prime_value-offered P7 = inr (inr (inr (inl refl)))
