-- A group table modulo a level of its series is a group table of the class of that level, in which exactly the words of the level
-- have value 0. It is made where each element is known to lie in the level or not, which can't fail to be.
use Rattle.std.proofs.Common.{◌≡◌, ◌⊎◌, ◌↔◌, ℕ, zero, suc, ◌<◌, ℤ, List, [], ◌∷◌, length, map, refl, ap, sym, ◌∙◌, subst, arith, inl, inr}
use Rattle.std.proofs.lemmas.Bool.{cases_lt}
use Rattle.std.proofs.lemmas.List.{length-map}
use Rattle.pq_base.specs.Table.{Table, IsGroup, AllBelow, InLevel, HasTableClass, value}
use Rattle.pq_base.proofs.groups.Groups.{Group, value_in}
use Rattle.pq_base.proofs.groups.GroupQuotients.{differ-same}
use Rattle.pq_base.proofs.groups.GroupLevels.{InLevelIn}
use Rattle.pq_base.proofs.groups.GroupMaps.{IsMap, level-reached}
use Rattle.pq_base.proofs.groups.LevelGroups.{level_group, numbers-elements, value_in-number, same_one-level, level-same_one}
use Rattle.pq_base.proofs.tables.TableGroup.{Element, table_group, elements}
use Rattle.pq_base.proofs.tables.TableSeries.{IsAny, IsAny-closed, level_from_table_group}
use Rattle.pq_base.proofs.tables.TableQuotients.{in_level, in_level-normal}
use Rattle.pq_base.proofs.tables.NumberedGroups.{IsNumbered, IsAnyIn, numbered_table, numbered-is_group, value-of_numbers, numbers-below}
use Rattle.pq_base.proofs.tables.NumberedGroups.{one-from_number, numbered-class}
use Rattle.pq_base.proofs.tables.Numberings.{IsListed, listed_number, listed-is_numbered, quotient-listed}

-- a group table of class at most k, with elements at which exactly the words of level k have value 0
pub record LevelQuotient (T : Table) (p k : ℕ) (f : List ℕ) : Type 0 where
  pub table : Table
  pub images : List ℕ
  pub group : IsGroup table
  pub class : HasTableClass table p k
  pub count : length images ≡ length f
  pub elements : AllBelow table.size images
  pub kernel : (w : List ℤ) → (value table images w ≡ 0) ↔ InLevel T p k (value T f w)

module _ (T : Table) (g : IsGroup T) (p k : ℕ) where
  abbrev G : Group
  G = level_group T g p k

  -- an element of level k of the quotient is the same as one of level k of the table, so it is one
  level-trivial : (x : Element T) → InLevelIn G p (IsAnyIn G) k x → G.same x G.one
  level-trivial x h =
      let to : IsMap (table_group T g) G (λ (y : Element T). y) = record {
        same = λ {x} {y} e. differ-same (table_group T g) (in_level T g p k) (in_level-normal T g p k) {x = x} {y = y} e;
        times = λ y z. G.reflexive ((table_group T g).times y z);
      } in
      let r =
      level-reached (table_group T g) G (λ (y : Element T). y) to p (IsAny T) (IsAnyIn G) (IsAny-closed T g)
      (λ y t. (y, tt, G.reflexive y)) k x h in
      G.transitive {x = x} {y = r.0} {z = G.one} (G.symmetric {x = r.0} {y = x} r.2)
      (level-same_one T g p k r.0 (level_from_table_group T g p k r.0 r.1))

  module _ (f : List ℕ) (below : AllBelow T.size f) (decided : (x : ℕ) → x < T.size → InLevel T p k x ⊎ ¬ InLevel T p k x) where
    abbrev fs : List (Element T)
    fs = elements T f below

    listed : IsListed G (λ (x : Element T). x.number < T.size)
    listed = quotient-listed T g (in_level T g p k) (in_level-normal T g p k) (λ x. decided x.number x.below)

    abbrev number : Element T → ℕ
    number = listed_number G (λ (x : Element T). x.number < T.size) listed (λ x. x.below)

    numbered : IsNumbered G listed.members number
    numbered = listed-is_numbered G (λ (x : Element T). x.number < T.size) listed (λ x. x.below)

    value-number : (w : List ℤ) → (value_in G fs w).number ≡ value T f w
    value-number w = value_in-number T g p k fs w ∙ ap (λ (l : List ℕ). value T l w) (numbers-elements T g p k f below)

    pub level-quotient : LevelQuotient T p k f
    level-quotient = record {
      table = numbered_table G listed.members number;
      images = map number fs;
      group = numbered-is_group G listed.members number numbered;
      class = numbered-class G listed.members number numbered p k level-trivial;
      count = length-map fs number ∙ length-elements f below;
      elements = numbers-below G listed.members number numbered fs;
      kernel = λ w. (
        λ e.
            subst (λ (x : ℕ). InLevel T p k x) (value-number w)
            (same_one-level T g p k (value_in G fs w)
            (one-from_number G listed.members number numbered (value_in G fs w)
            (sym (value-of_numbers G listed.members number numbered fs w) ∙ e))),
        λ h.
            value-of_numbers G listed.members number numbered fs w
            ∙ numbered.same (level-same_one T g p k (value_in G fs w) (subst (λ (x : ℕ). InLevel T p k x) (sym (value-number w)) h))
            ∙ numbered.one,
      );
    }
      where
        length-elements : (f : List ℕ) (h : AllBelow T.size f) → length (elements T f h) ≡ length f
        length-elements [] h = refl
        length-elements (x ∷ f) h = ap suc (length-elements f h.1)

-- it can't fail to be that each of finitely many numbers has a property or not
pub all_decided : (P : ℕ → Type 0) (n : ℕ) → ¬ ¬ ((x : ℕ) → x < n → P x ⊎ ¬ P x)
all_decided P zero fails = fails (λ x l. absurd (omega arith))
all_decided P (suc n) fails =
    all_decided P n (λ before. fails (with_last before (inr (λ h. fails (with_last before (inl h))))))
  where
    with_last : ((x : ℕ) → x < n → P x ⊎ ¬ P x) → P n ⊎ ¬ P n → (x : ℕ) → x < suc n → P x ⊎ ¬ P x
    with_last before last x l = elim (cases_lt x n) [
      | inl less ↦ before x less
      | inr here ↦
          let same : n ≡ x = omega arith in
          subst (λ (y : ℕ). P y ⊎ ¬ P y) same last
    ]

pub level-quotient_stands : (T : Table) → IsGroup T → (p k : ℕ) (f : List ℕ) → AllBelow T.size f → ¬ ¬ LevelQuotient T p k f
level-quotient_stands T g p k f below fails =
    all_decided (λ (x : ℕ). InLevel T p k x) T.size (λ decided. fails (level-quotient T g p k f below decided))
