-- Without endomorphisms the relators of a presentation are those that all numbers name; so its named part has the same quotients,
-- and the same refusals.
use Rattle.std.proofs.Common.{◌≡◌, ℕ, zero, suc, ◌-◌, ◌<◌, ℤ, List, [], ◌∷◌, get_or, length, map, inl, inr, refl, sym, subst, arith}
use Rattle.std.proofs.lemmas.List.Elements.{All-weaker}
use Rattle.pq_base.specs.LPresentation.{LPresentation, IsRelator, AreEndoNumbers, along}
use Rattle.pq_base.specs.LPresentation.IsRelator.{fixed_relator, iterated_relator}
use Rattle.pq_base.specs.Answer.{Answer}
use Rattle.pq_base.specs.Canonical.{numbers_from}
use Rattle.pq_base.specs.Relators.{HasSameRelators}
use Rattle.pq_base.proofs.ListMembers.{In, In-append_left, In-append_right, In-append_cases, In-get_or, In-map, In-map_cases, In-numbers}
use Rattle.pq_base.proofs.ListMembers.{numbers-range, Contains-from_In}
use Rattle.pq_base.proofs.SameRelators.{same-relators_turned, same-obeys}
use Rattle.tower.specs.declared.relator.Relator.{Relator}
use Rattle.tower.specs.declared.relator.Relator.TheVariants.{Fixed, Iterated}
use Rattle.tower.specs.NamedParts.{named_word, IsNamed, IsUncarried, NamesAll, iterated_at, all_named, named_part}
use Rattle.tower.specs.Answers.{IsQuotient}
use Rattle.derivation_log.specs.declared.source.Run.{Run}
use Rattle.tower.specs.declared.refusal.TowerRefusal.{TowerRefusal}
use Rattle.tower.specs.Refusals.{IsRefusalOf}
use Rattle.tower.specs.QuotientLaws.{AreObeyedAlike, SameRelatorsGiveSameAnswers, AllNumbersNameAll, NamedPartsHaveTheRelators}
use Rattle.tower.specs.QuotientLaws.{NamedPartsHaveTheAnswers}
use Rattle.tower.proofs.NamedLaws.{named-relator, named-all}
use Rattle.tower.proofs.ObeyedAlike.{presentations_obeyed_alike_have_same_answers, refusal-of_same}

-- a named relator is one
pub named-is : (L : LPresentation) (r : Relator) → IsNamed L r → IsRelator L (named_word L r)
named-is L (Fixed i) h =
    let first = h.0 in
    let last = h.1 in
    fixed_relator (i - 1) (omega arith)
named-is L (Iterated i s) h =
    let first = h.0 in
    let last = h.1 in
    iterated_relator s (i - 1) h.2 (omega arith)

-- without endomorphisms there is no number of one
no_numbers : (s : List ℕ) → AreEndoNumbers 0 s → s ≡ []
no_numbers [] h = refl
no_numbers (zero ∷ s) h = absurd h
no_numbers (suc e ∷ s) h = let l : e < 0 = h.0 in absurd (omega arith)

relator-named : (L : LPresentation) (rs : List Relator) → L.endos ≡ [] → NamesAll L rs → (w : List ℤ) → IsRelator L w
    → IsRelator (named_part L rs) w
relator-named L rs none all w (fixed_relator i l) =
    let one : suc i - 1 ≡ i = omega arith in
    subst (λ (k : ℕ). IsRelator (named_part L rs) (get_or L.fixed k [])) one
    (named-relator L rs (Fixed (suc i)) (all.every (Fixed (suc i)) (omega arith, omega arith) tt))
relator-named L rs none all w (iterated_relator s i numbers l) =
    let one : suc i - 1 ≡ i = omega arith in
    let empty : s ≡ [] = no_numbers s (subst (λ (endos : List (List (List ℤ))). AreEndoNumbers (length endos) s) none numbers) in
    subst (λ (t : List ℕ). IsRelator (named_part L rs) (along L.endos t (get_or L.iterated i []))) (sym empty)
    (subst (λ (k : ℕ). IsRelator (named_part L rs) (get_or L.iterated k [])) one
    (named-relator L rs (Iterated (suc i) []) (all.every (Iterated (suc i) []) (omega arith, omega arith, tt) refl)))

pub named_parts_have_the_relators : NamedPartsHaveTheRelators
named_parts_have_the_relators L rs none all = record {
  names = refl;
  relators = λ r. (
    relator-named L rs none all r,
    named-all L rs (IsRelator L) (All-weaker (IsNamed L) (λ (s : Relator). IsRelator L (named_word L s)) (named-is L) rs all.only) r,
  );
}

named-every : (L : LPresentation) (r : Relator) → IsNamed L r → IsUncarried r → In r (all_named L)
named-every L (Fixed i) h none =
    let last = h.1 in
    In-append_left (Fixed i) (map Fixed (numbers_from 1 (length L.fixed))) (map iterated_at (numbers_from 1 (length L.iterated)))
    (In-map Fixed i (numbers_from 1 (length L.fixed)) (In-numbers 1 (length L.fixed) i h.0 (omega arith)))
named-every L (Iterated i s) h none =
    let last = h.1 in
    subst (λ (t : List ℕ). In (Iterated i t) (all_named L)) (sym none)
    (In-append_right (Iterated i []) (map Fixed (numbers_from 1 (length L.fixed))) (map iterated_at (numbers_from 1 (length L.iterated)))
    (In-map iterated_at i (numbers_from 1 (length L.iterated)) (In-numbers 1 (length L.iterated) i h.0 (omega arith))))

named-only : (L : LPresentation) (r : Relator) → In r (all_named L) → IsNamed L r × IsUncarried r
named-only L r h =
    elim (In-append_cases r (map Fixed (numbers_from 1 (length L.fixed))) (map iterated_at (numbers_from 1 (length L.iterated))) h) [
      | inl fixed ↦
          let made = In-map_cases Fixed r (numbers_from 1 (length L.fixed)) fixed in
          let range = numbers-range 1 (length L.fixed) made.source made.member in
          let last = range.1 in
          subst (λ (x : Relator). IsNamed L x × IsUncarried x) made.made ((range.0, omega arith), tt)
      | inr iterated ↦
          let made = In-map_cases iterated_at r (numbers_from 1 (length L.iterated)) iterated in
          let range = numbers-range 1 (length L.iterated) made.source made.member in
          let last = range.1 in
          subst (λ (x : Relator). IsNamed L x × IsUncarried x) made.made ((range.0, omega arith, tt), refl)
    ]

pub all_numbers_name_all : AllNumbersNameAll
all_numbers_name_all L = record {
  only = λ i d l. (named-only L (get_or (all_named L) i d) (In-get_or (all_named L) i d l)).0;
  uncarried = λ i d l. (named-only L (get_or (all_named L) i d) (In-get_or (all_named L) i d l)).1;
  every = λ r h none. Contains-from_In r (all_named L) (named-every L r h none);
}

-- presentations with the same relators are obeyed alike in every class
same-alike : (L M : LPresentation) (p c : ℕ) → HasSameRelators L M → AreObeyedAlike L M p c
same-alike L M p c same = record {
  names = same.names;
  obeyed = λ T f group class. (same-obeys M L (same-relators_turned L M same) T f, same-obeys L M same T f);
}

pub same_relators_give_same_answers : SameRelatorsGiveSameAnswers
same_relators_give_same_answers L M same = record {
  quotients = λ p c A. (presentations_obeyed_alike_have_same_answers L M p c (same-alike L M p c same)).quotients A;
  refusals = λ p c k r. (presentations_obeyed_alike_have_same_answers L M p c (same-alike L M p c same)).refusals k r;
}

pub named_parts_have_the_answers : NamedPartsHaveTheAnswers
named_parts_have_the_answers L rs none all =
    same_relators_give_same_answers L (named_part L rs) (named_parts_have_the_relators L rs none all)

-- the quotient of the named part with all numbers is that of the presentation, and so is a refusal
pub quotient-of_all : (L : LPresentation) (p c : ℕ) (A : Answer) → L.endos ≡ [] → IsQuotient (named_part L (all_named L)) p c A
    → IsQuotient L p c A
quotient-of_all L p c A none is = ((named_parts_have_the_answers L (all_named L) none (all_numbers_name_all L)).quotients p c A).1 is

pub refusal-of_all : (L : LPresentation) (p c : ℕ) (run : Run) (e : TowerRefusal) → L.endos ≡ []
    → IsRefusalOf (named_part L (all_named L)) p c run e
    → IsRefusalOf L p c run e
refusal-of_all L p c run e none is =
    let M : LPresentation = named_part L (all_named L) in
    refusal-of_same L M p c run e
    (presentations_obeyed_alike_have_same_answers L M p c
    (same-alike L M p c (named_parts_have_the_relators L (all_named L) none (all_numbers_name_all L)))) is
