-- Lists that grow at the end, part by part.
use Rattle.std.proofs.Common.{◌≡◌, ℕ, ◌+◌, List, [], ◌∷◌, ◌++◌, map, ap, sym, ◌∙◌, append_assoc, append-nil}
use Rattle.std.specs.List.{flat_map}
use Rattle.std.proofs.lemmas.Grind.{flat_map-append}
use Rattle.pq_base.specs.Canonical.{numbers_from}
use Rattle.pq_base.proofs.NumberLists.{numbers-more, map_numbers-more}

module _ {X : Type 0} where
  -- one part more
  pub pushed : (start part more all old new : List X) → all ≡ part ++ more → old ≡ start ++ part → new ≡ old ++ more → new ≡ start ++ all
  pushed start part more all old new whole e f =
      f ∙ ap (λ (l : List X). l ++ more) e ∙ append_assoc start part more ∙ ap (λ (l : List X). start ++ l) (sym whole)

  -- of one entry
  pub pushed-map : (f : ℕ → X) (n : ℕ) (start old new : List X) → old ≡ start ++ map f (numbers_from 1 n) → new ≡ old ++ f (n + 1) ∷ []
      → new ≡ start ++ map f (numbers_from 1 (n + 1))
  pushed-map f n start old new =
      pushed start (map f (numbers_from 1 n)) (f (n + 1) ∷ []) (map f (numbers_from 1 (n + 1))) old new (map_numbers-more f n)

  -- of several entries
  pub flat_map_numbers-more : (f : ℕ → List X) (n : ℕ)
      → flat_map f (numbers_from 1 (n + 1)) ≡ flat_map f (numbers_from 1 n) ++ f (n + 1)
  flat_map_numbers-more f n =
      ap (flat_map f) (numbers-more n) ∙ flat_map-append f (numbers_from 1 n) ((n + 1) ∷ [])
      ∙ ap (λ (l : List X). flat_map f (numbers_from 1 n) ++ l) (append-nil (f (n + 1)))

  pub pushed-flat_map : (f : ℕ → List X) (n : ℕ) (start old new : List X) → old ≡ start ++ flat_map f (numbers_from 1 n)
      → new ≡ old ++ f (n + 1) → new ≡ start ++ flat_map f (numbers_from 1 (n + 1))
  pushed-flat_map f n start old new =
      pushed start (flat_map f (numbers_from 1 n)) (f (n + 1)) (flat_map f (numbers_from 1 (n + 1))) old new (flat_map_numbers-more f n)
