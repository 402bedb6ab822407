-- A level of a closed table is judged by a test: what holds of commutators and powers of the level before and is kept by
-- products holds of the level. So a consistent presentation has the class of its table.
use Rattle.std.proofs.Common.{◌≡◌, ◌<◌, ◌&&◌, ℕ, suc, ℤ, Bool, true, false, eqb, List, [], sym, subst, eqb-true}
use Rattle.pq_base.specs.Table.{Table, IsGroup, HasTableClass, InLevel, times, power, commutator, value}
use Rattle.pq_base.specs.Table.NextElement.{no_element, times_commutator, times_power}
use Rattle.pq_base.specs.Presentation.{Presentation, normal_word}
use Rattle.pq_base.specs.Joined.{Joined}
use Rattle.pq_base.specs.Series.{HasClass}
use Rattle.pq_base.proofs.tables.TableLaws.{commutator-below, power-below}
use Rattle.pq_base.proofs.tables.TableSeries.{table_level-below}
use Rattle.pq_base.proofs.SeriesLaws.{series-letters}
use Rattle.pq_base.proofs.CarryLaws.{level-value}
use Rattle.pq_base.proofs.vectors.Tests.{differ, passes_below, at-below, at-both, tested_relators}
use Rattle.pq_base.proofs.vectors.ConsistentTests.{PassesConsistent, joined-to_value}

-- the test of an implication
abbrev pub implies : Bool → Bool → Bool
implies true b = b
implies false b = true

implied : (a b : Bool) → implies a b ≡ true → a ≡ true → b ≡ true
implied true b h e = h
implied false b h e = absurd (differ (sym e))

and-true : (a b : Bool) → a ≡ true → b ≡ true → (a && b) ≡ true
and-true true b e h = h
and-true false b e h = e

-- what a test of one level has to pass after that of the level before
pub record PassesLevel (T : Table) (p : ℕ) (before after : ℕ → Bool) : Type 0 where
  pub zeroth : after 0 ≡ true
  pub products : passes_below T.size (λ a. passes_below T.size (λ b. implies (after a && after b) (after (times T a b)))) ≡ true
  pub commutators : passes_below T.size (λ u. passes_below T.size (λ v. implies (before u) (after (commutator T u v)))) ≡ true
  pub powers : passes_below T.size (λ u. implies (before u) (after (power T u p))) ≡ true

module _ (T : Table) (g : IsGroup T) (p : ℕ) (before after : ℕ → Bool) (h : PassesLevel T p before after) where
  product-passes : (a b : ℕ) → a < T.size → b < T.size → after a ≡ true → after b ≡ true → after (times T a b) ≡ true
  product-passes a b ha hb ea eb =
      implied (after a && after b) (after (times T a b))
      (at-both T.size T.size (λ x y. implies (after x && after y) (after (times T x y))) h.products a b ha hb)
      (and-true (after a) (after b) ea eb)

  -- what passes holds of each element of the next level
  pub tested_level : (k : ℕ) → ((x : ℕ) → InLevel T p k x → before x ≡ true) → (x : ℕ) → InLevel T p (suc k) x → after x ≡ true
  tested_level k low x no_element = h.zeroth
  tested_level k low x (times_commutator u v y hu hv hy) =
      let below = table_level-below T g p k u hu in
      product-passes (commutator T u v) y (commutator-below T g u v below hv) (table_level-below T g p (suc k) y hy)
      (implied (before u) (after (commutator T u v))
      (at-both T.size T.size (λ a b. implies (before a) (after (commutator T a b))) h.commutators u v below hv) (low u hu))
      (tested_level k low y hy)
  tested_level k low x (times_power u y hu hy) =
      let below = table_level-below T g p k u hu in
      product-passes (power T u p) y (power-below T g u p below) (table_level-below T g p (suc k) y hy)
      (implied (before u) (after (power T u p)) (at-below T.size (λ a. implies (before a) (after (power T a p))) h.powers u below)
      (low u hu))
      (tested_level k low y hy)

-- the test of the neutral element alone
pub class_from_level : (T : Table) (p c : ℕ) → ((x : ℕ) → InLevel T p c x → eqb x 0 ≡ true) → HasTableClass T p c
class_from_level T p c h x l = eqb-true x 0 (h x l)

-- the class of the table, for a presentation that the table shows to be consistent
pub class_from_table : {P : Presentation} {passes : ℕ} {T : Table} {f : List ℕ} {exponents : ℕ → List ℕ}
    → PassesConsistent P passes T f exponents
    → (c : ℕ) → HasTableClass T P.prime c → normal_word (exponents 0) ≡ [] → HasClass P c
class_from_table {P} {passes} {T} {f} {exponents} h c class empty w l =
    let neutral : value T f w ≡ 0 =
    class (value T f w) (level-value P T h.group f h.elements (tested_relators T f P h.powers h.commutators) c w l) in
    let joined : Joined P w (normal_word (exponents 0)) =
    subst (λ (x : ℕ). Joined P w (normal_word (exponents x))) neutral (joined-to_value h w (series-letters P c w l)) in
    subst (λ (v : List ℤ). Joined P w v) empty joined
