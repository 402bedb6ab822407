-- A presentation has at most one order in each class: the homomorphisms that the two tables have into one another undo each
-- other on the images, and so on all elements.
use Rattle.std.proofs.Common.{◌≡◌, ℕ, ◌<◌, ◌≤◌, ◌^◌, get_or, length, ap, sym, ◌∙◌, arith}
use Rattle.pq_base.specs.LPresentation.{LPresentation}
use Rattle.pq_base.specs.Largest.{HasOrder, Carries}
use Rattle.pq_base.specs.Laws.{OrdersAreUnique}
use Rattle.pq_base.proofs.tables.OneToOne.{le_from_one_to_one, pow-injective}
use Rattle.pq_base.proofs.tables.HomomorphismValues.{homomorphism-below, homomorphism-value}

module _ (L : LPresentation) (p k r s : ℕ) (a : HasOrder L p k r) (b : HasOrder L p k s) where
  there : Carries a.table a.images b.table b.images
  there = a.universal b.table b.images b.group b.class b.obeys

  back : Carries b.table b.images a.table a.images
  back = b.universal a.table a.images a.group a.class a.obeys

  there-back : (x : ℕ) → x < a.table.size → get_or back.map (get_or there.map x 0) 0 ≡ x
  there-back x l =
      let spelled = a.generated x l in
      let n : ℕ = length L.names in
      let ca : length a.images ≡ length L.names = a.obeys.count in
      let cb : length b.images ≡ length L.names = b.obeys.count in
      ap (λ (y : ℕ). get_or back.map (get_or there.map y 0) 0) (sym spelled.is)
      ∙ ap (λ (y : ℕ). get_or back.map y 0)
      (homomorphism-value a.table b.table a.group b.group there.map there.homomorphism a.images b.images a.obeys.elements n
      (λ i m. there.carries i (omega arith)) spelled.word spelled.letters)
      ∙ homomorphism-value b.table a.table b.group a.group back.map back.homomorphism b.images a.images b.obeys.elements n
      (λ i m. back.carries i (omega arith)) spelled.word spelled.letters
      ∙ spelled.is

  pub size-le : p ^ r ≤ p ^ s
  size-le =
      let sa : a.table.size ≡ p ^ r = a.size in
      let sb : b.table.size ≡ p ^ s = b.size in
      let l : a.table.size ≤ b.table.size =
      le_from_one_to_one a.table.size b.table.size (λ (x : ℕ). get_or there.map x 0)
      (λ x m. homomorphism-below a.table b.table a.group b.group there.map there.homomorphism x)
      (λ x y m n e. sym (there-back x m) ∙ ap (λ (z : ℕ). get_or back.map z 0) e ∙ there-back y n) in
      omega arith

pub orders_are_unique : OrdersAreUnique
orders_are_unique L p k r s big a b =
    let below : p ^ r ≤ p ^ s = size-le L p k r s a b in
    let above : p ^ s ≤ p ^ r = size-le L p k s r b a in
    let same : p ^ r ≡ p ^ s = omega arith in
    pow-injective p r s big same
