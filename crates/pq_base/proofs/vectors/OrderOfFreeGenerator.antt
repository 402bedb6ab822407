-- The largest quotient of class 1, at the prime 2, of the free group of rank 1 has order 2^1.
use Rattle.std.proofs.Common.{◌≡◌, ◌<◌, ℕ, zero, suc, pos, List, [], ◌∷◌, get_or, refl, sym, ap, ◌∙◌, lit<, arith}
use Rattle.pq_base.specs.LPresentation.{Obeys}
use Rattle.pq_base.specs.Table.{Table, IsGroup, HasTableClass, times}
use Rattle.pq_base.specs.Largest.{IsHomomorphism, Carries, HasValue, HasOrder}
use Rattle.pq_base.proofs.tables.TableLaws.{get_or-below}
use Rattle.pq_base.proofs.vectors.Tables.{two_elements, two_elements_are_group, two_elements_have_class_one}
use Rattle.pq_base.proofs.vectors.LargestQuotients.{free_generator, one_obeys_nothing}
use Rattle.pq_base.proofs.vectors.LargestOfOrderTwo.{square-neutral}

one-generates : (x : ℕ) → x < 2 → HasValue two_elements (1 ∷ []) 1 x
one-generates zero h = record { word = []; letters = tt; is = refl }
one-generates (suc zero) h = record { word = pos 1 ∷ []; letters = (lit< tt, tt); is = refl }
one-generates (suc (suc x)) h = absurd (omega (arith, h))

-- 1 to an element whose square is neutral
one-is-homomorphism : (U : Table) → IsGroup U → (a : ℕ) → a < U.size → times U a a ≡ 0 → IsHomomorphism two_elements U (0 ∷ a ∷ [])
one-is-homomorphism U g a below square = record { count = refl; elements = (g.nonempty, (below, tt)); products = products } where
  products : (x y : ℕ) → x < 2 → y < 2
      → get_or (0 ∷ a ∷ []) (times two_elements x y) 0 ≡ times U (get_or (0 ∷ a ∷ []) x 0) (get_or (0 ∷ a ∷ []) y 0)
  products zero zero hx hy = sym (g.neutral_left 0 g.nonempty)
  products zero (suc zero) hx hy = sym (g.neutral_left a below)
  products (suc zero) zero hx hy = sym (g.neutral_right a below)
  products (suc zero) (suc zero) hx hy = sym square
  products zero (suc (suc y)) hx hy = absurd (omega (arith, hy))
  products (suc zero) (suc (suc y)) hx hy = absurd (omega (arith, hy))
  products (suc (suc x)) y hx hy = absurd (omega (arith, hx))

one-carries : (U : Table) (f : List ℕ) → IsGroup U → HasTableClass U 2 1 → Obeys U f free_generator → Carries two_elements (1 ∷ []) U f
one-carries U f g c o =
    let a : ℕ = get_or f 0 0 in
    let below = get_or-below U.size f 0 g.nonempty o.elements in
    let square : times U a a ≡ 0 = ap (times U a) (sym (g.neutral_right a below)) ∙ square-neutral U g c a below in
    record { map = 0 ∷ a ∷ []; homomorphism = one-is-homomorphism U g a below square; carries = carries }
  where
    carries : (i : ℕ) → i < 1 → get_or {A = ℕ} (0 ∷ get_or f 0 0 ∷ []) (get_or (1 ∷ []) i 0) 0 ≡ get_or f i 0
    carries zero h = refl
    carries (suc i) h = absurd (omega (arith, h))

-- x free, at class 1: the order is 2^1
pub free_generator_has_order_two : HasOrder free_generator 2 1 1
free_generator_has_order_two = record {
  table = two_elements;
  images = 1 ∷ [];
  group = two_elements_are_group;
  size = refl;
  class = two_elements_have_class_one;
  obeys = one_obeys_nothing;
  generated = one-generates;
  universal = one-carries;
}
