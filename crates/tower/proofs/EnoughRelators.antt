-- Where recorded relators are enough up to class c, a group table of that class obeys them and the fixed ones exactly where it
-- obeys the whole presentation. Without fixed relators the iterated part is the whole.
use Rattle.std.proofs.Common.{◌≡◌, ◌≤◌, ℕ, suc, ◌-◌, ℤ, List, [], ◌++◌, get_or, length, map, refl, ap, sym, subst, arith}
use Rattle.std.specs.List.{All, Contains}
use Rattle.std.proofs.lemmas.List.Elements.{All-weaker, All-append, All-map, All-contains_itself, Contains-append_left}
use Rattle.pq_base.specs.LPresentation.{LPresentation, IsRelator, Obeys, part}
use Rattle.pq_base.specs.LPresentation.Part.{iterated_part}
use Rattle.pq_base.specs.LPresentation.IsRelator.{fixed_relator, iterated_relator}
use Rattle.pq_base.specs.Table.{Table, value}
use Rattle.pq_base.specs.Canonical.{numbers_from}
use Rattle.pq_base.proofs.NumberLists.{All-numbers}
use Rattle.pq_base.proofs.ListMembers.{In-append_right, In-map, In-numbers, Contains-from_In}
use Rattle.tower.specs.declared.relator.Relator.{Relator}
use Rattle.tower.specs.declared.relator.Relator.TheVariants.{Fixed}
use Rattle.tower.specs.NamedParts.{named_word, IsNamed, named_part}
use Rattle.tower.specs.SpunParts.{AreEnough}
use Rattle.tower.specs.TwoRuns.{and_all_fixed}
use Rattle.tower.specs.QuotientLaws.{HaveSameAnswersTo, EnoughAndFixedAreObeyedAlike}
use Rattle.tower.proofs.NamedLaws.{named-relator, named-all}
use Rattle.tower.proofs.NamedQuotients.{named-is}
use Rattle.tower.proofs.ObeyedAlike.{presentations_obeyed_alike_have_same_answers}

-- the recorded relators and all fixed ones are relators of the presentation
pub and_fixed-named : (L : LPresentation) (recorded : List Relator) → All (IsNamed L) recorded → All (IsNamed L) (and_all_fixed L recorded)
and_fixed-named L recorded named =
    All-append (IsNamed L) recorded (map Fixed (numbers_from 1 (length L.fixed))) named
    (All-map (IsNamed L) Fixed (numbers_from 1 (length L.fixed))
    (All-numbers (λ (i : ℕ). IsNamed L (Fixed i)) 1 (length L.fixed) (λ i h l. (h, omega arith))))

module _ (L : LPresentation) (T : Table) (f : List ℕ) where
  -- what obeys the presentation obeys each part of it
  obeys-named : (rs : List Relator) → All (IsNamed L) rs → Obeys T f L → Obeys T f (named_part L rs)
  obeys-named rs named o = record {
    count = o.count;
    elements = o.elements;
    kills = named-all L rs (λ (w : List ℤ). value T f w ≡ 0)
        (All-weaker (IsNamed L) (λ (r : Relator). value T f (named_word L r) ≡ 0) (λ r h. o.kills (named_word L r) (named-is L r h))
        rs named);
  }

  -- and what obeys some relators obeys fewer
  obeys-first : (rs more : List Relator) → Obeys T f (named_part L (rs ++ more)) → Obeys T f (named_part L rs)
  obeys-first rs more o = record {
    count = o.count;
    elements = o.elements;
    kills = named-all L rs (λ (w : List ℤ). value T f w ≡ 0)
        (All-weaker (Contains rs) (λ (r : Relator). value T f (named_word L r) ≡ 0)
        (λ r h. o.kills (named_word L r) (named-relator L (rs ++ more) r (Contains-append_left rs more r h))) rs (All-contains_itself rs));
  }

  -- a fixed relator stands behind the recorded ones
  fixed-killed : (recorded : List Relator) → Obeys T f (named_part L (and_all_fixed L recorded)) → (i : ℕ) → suc i ≤ length L.fixed
      → value T f (get_or L.fixed i []) ≡ 0
  fixed-killed recorded o i l =
      let fixed : List Relator = map Fixed (numbers_from 1 (length L.fixed)) in
      let one : suc i - 1 ≡ i = omega arith in
      subst (λ (k : ℕ). value T f (get_or L.fixed k []) ≡ 0) one
      (o.kills (named_word L (Fixed (suc i)))
      (named-relator L (and_all_fixed L recorded) (Fixed (suc i))
      (Contains-from_In (Fixed (suc i)) (and_all_fixed L recorded)
      (In-append_right (Fixed (suc i)) recorded (map Fixed (numbers_from 1 (length L.fixed)))
      (In-map Fixed (suc i) (numbers_from 1 (length L.fixed)) (In-numbers 1 (length L.fixed) (suc i) (omega arith) (omega arith)))))))

  -- what obeys the iterated part and the fixed relators obeys the whole
  whole-killed : Obeys T f (part L iterated_part) → ((i : ℕ) → suc i ≤ length L.fixed → value T f (get_or L.fixed i []) ≡ 0)
      → (r : List ℤ) → IsRelator L r → value T f r ≡ 0
  whole-killed o fixed r (fixed_relator i l) = fixed i (omega arith)
  whole-killed o fixed r (iterated_relator s i numbers l) = o.kills r (iterated_relator s i numbers l)

pub enough_and_fixed_are_obeyed_alike : EnoughAndFixedAreObeyedAlike
enough_and_fixed_are_obeyed_alike L recorded p c named enough = record {
  names = refl;
  obeyed = λ T f group class. (
    obeys-named L T f (and_all_fixed L recorded) (and_fixed-named L recorded named),
    λ o.
        let iterated = enough T f group class (obeys-first L T f recorded (map Fixed (numbers_from 1 (length L.fixed))) o) in
        record {
          count = o.count;
          elements = o.elements;
          kills = whole-killed L T f iterated (fixed-killed L T f recorded o);
        },
  );
}

-- so these have the quotients and refusals of the whole presentation
pub enough-answers : (L : LPresentation) (recorded : List Relator) (p c : ℕ) → All (IsNamed L) recorded → AreEnough L recorded p c
    → HaveSameAnswersTo L (named_part L (and_all_fixed L recorded)) p c
enough-answers L recorded p c named enough =
    presentations_obeyed_alike_have_same_answers L (named_part L (and_all_fixed L recorded)) p c
    (enough_and_fixed_are_obeyed_alike L recorded p c named enough)

-- without fixed relators the iterated part is the whole presentation
pub part-whole : (L : LPresentation) → L.fixed ≡ [] → part L iterated_part ≡ L
part-whole L none = ap (λ (fixed : List (List ℤ)). record L { fixed = fixed }) (sym none)
