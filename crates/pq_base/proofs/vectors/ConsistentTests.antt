-- A closed presentation is consistent where the rules bring each letter before a normal word to a normal word, and where
-- a table tells the normal words apart.
use Rattle.std.proofs.Common.{◌≡◌, ◌&&◌, ℕ, zero, suc, pred, ℤ, pos, negsuc, Bool, true, false, List, [], ◌∷◌, length, refl, sym, ap, ◌∙◌}
use Rattle.std.proofs.Common.{subst, arith}
use Rattle.pq_base.specs.SignedWord.{IsLetter, HasLetters}
use Rattle.pq_base.specs.Table.{Table, IsGroup, AllBelow, value}
use Rattle.pq_base.specs.Presentation.{Presentation, IsNormal, normal_word}
use Rattle.pq_base.specs.Joined.{Joined, Reaches, IsConsistent}
use Rattle.pq_base.proofs.words.JoinedLaws.{joined-trans, joined-append_left, joined-from_equal}
use Rattle.pq_base.proofs.tables.TableGroup.{value-joined}
use Rattle.pq_base.proofs.vectors.Tests.{same_list, same_list-true, differ, both, passes_below, at-below, are_below, tested_below}
use Rattle.pq_base.proofs.vectors.Tests.{tested_relators, are_power_values_neutral, are_commutator_values_neutral}
use Rattle.pq_base.proofs.vectors.Rewriting.{same_letter, same_letter-true, reduce, reduce-joined, all_rules, all-rules-joined}

-- the test passes at each list of n numbers below p
abbrev pub passes_lists : ℕ → ℕ → (List ℕ → Bool) → Bool
passes_lists p zero t = t []
passes_lists p (suc n) t = passes_below p (λ x. passes_lists p n (λ e. t (x ∷ e)))

-- so it holds of each normal list
pub at-list : (p n : ℕ) (t : List ℕ → Bool) → passes_lists p n t ≡ true → (e : List ℕ) → IsNormal p n e → t e ≡ true
at-list p zero t h [] e = h
at-list p zero t h (x ∷ xs) e = absurd (omega (arith, e.count))
at-list p (suc n) t h [] e = absurd (omega (arith, e.count))
at-list p (suc n) t h (x ∷ xs) e =
    at-list p n (λ ys. t (x ∷ ys)) (at-below p (λ y. passes_lists p n (λ ys. t (y ∷ ys))) h x e.below.0) xs
    (record { count = omega (arith, e.count); below = e.below.1 })

-- one more where the test passes
abbrev pub one_if : Bool → ℕ → ℕ
one_if true n = suc n
one_if false n = n

-- how often generator i + 1 stands in a word, for n generators from i on
abbrev pub count_letter : ℕ → List ℤ → ℕ
count_letter i [] = 0
count_letter i (k ∷ w) = one_if (same_letter (pos (suc i)) k) (count_letter i w)

-- how often each of n generators from i + 1 on stands in a word
abbrev pub counts : ℕ → ℕ → List ℤ → List ℕ
counts i zero w = []
counts i (suc n) w = count_letter i w ∷ counts (suc i) n w

length-counts : (i n : ℕ) (w : List ℤ) → length (counts i n w) ≡ n
length-counts i zero w = refl
length-counts i (suc n) w = ap suc (length-counts (suc i) n w)

-- the test of equal words
abbrev pub same_word : List ℤ → List ℤ → Bool
same_word [] [] = true
same_word (k ∷ u) (l ∷ w) = same_letter k l && same_word u w
same_word _ _ = false

same_word-true : (u w : List ℤ) → same_word u w ≡ true → u ≡ w
same_word-true [] [] h = refl
same_word-true (k ∷ u) (l ∷ w) h =
    let parts = both (same_letter k l) (same_word u w) h in
    ap (λ (m : ℤ). m ∷ u) (same_letter-true k l parts.0) ∙ ap (λ (v : List ℤ). l ∷ v) (same_word-true u w parts.1)
same_word-true [] (l ∷ w) h = absurd (differ (sym h))
same_word-true (k ∷ u) [] h = absurd (differ (sym h))

module _ (P : Presentation) (passes : ℕ) where
  -- what the rules make of a letter before a normal word
  abbrev pub reduced : ℤ → List ℕ → List ℤ
  reduced k e = reduce passes (all_rules P) (k ∷ normal_word e)

  -- its letters counted
  abbrev pub found : ℤ → List ℕ → List ℕ
  found k e = counts 0 P.rank (reduced k e)

  -- it is a normal word
  abbrev pub is_reached : ℤ → List ℕ → Bool
  is_reached k e = same_word (reduced k e) (normal_word (found k e)) && are_below P.prime (found k e)

  -- each letter and each inverse before each normal word
  abbrev pub are_reached : Bool
  are_reached = passes_below P.rank (λ i. passes_lists P.prime P.rank (λ e. is_reached (pos (suc i)) e && is_reached (negsuc i) e))

  module _ (prime : suc (pred P.prime) ≡ P.prime) (h : are_reached ≡ true) where
    letter-reached : (k : ℤ) → IsLetter P.rank k → (e : List ℕ) → IsNormal P.prime P.rank e → is_reached k e ≡ true
    letter-reached (pos zero) l e n = absurd l
    letter-reached (pos (suc i)) l e n =
        (both (is_reached (pos (suc i)) e) (is_reached (negsuc i) e)
        (at-list P.prime P.rank (λ x. is_reached (pos (suc i)) x && is_reached (negsuc i) x)
        (at-below P.rank (λ j. passes_lists P.prime P.rank (λ x. is_reached (pos (suc j)) x && is_reached (negsuc j) x)) h i l) e n)).0
    letter-reached (negsuc i) l e n =
        (both (is_reached (pos (suc i)) e) (is_reached (negsuc i) e)
        (at-list P.prime P.rank (λ x. is_reached (pos (suc i)) x && is_reached (negsuc i) x)
        (at-below P.rank (λ j. passes_lists P.prime P.rank (λ x. is_reached (pos (suc j)) x && is_reached (negsuc j) x)) h i l) e n)).1

    before-normal : (k : ℤ) → IsLetter P.rank k → (e : List ℕ) → IsNormal P.prime P.rank e → Reaches P (k ∷ normal_word e) (found k e)
    before-normal k l e n =
        let parts = both (same_word (reduced k e) (normal_word (found k e))) (are_below P.prime (found k e)) (letter-reached k l e n) in
        record {
          normal = record { count = length-counts 0 P.rank (reduced k e); below = tested_below P.prime (found k e) parts.1 };
          joined = joined-trans (reduce-joined P passes (all_rules P) (all-rules-joined P prime) (k ∷ normal_word e))
              (joined-from_equal P (same_word-true (reduced k e) (normal_word (found k e)) parts.0));
        }

  -- the normal word of no letter
  abbrev pub is_empty_normal : Bool
  is_empty_normal = same_word [] (normal_word (counts 0 P.rank [])) && are_below P.prime (counts 0 P.rank [])

  pub tested_reached : suc (pred P.prime) ≡ P.prime → are_reached ≡ true → is_empty_normal ≡ true
      → (w : List ℤ) → HasLetters P.rank w → (e : List ℕ) × Reaches P w e
  tested_reached prime h empty [] l =
      let parts = both (same_word [] (normal_word (counts 0 P.rank []))) (are_below P.prime (counts 0 P.rank [])) empty in (
        counts 0 P.rank [],
        record {
          normal = record { count = length-counts 0 P.rank []; below = tested_below P.prime (counts 0 P.rank []) parts.1 };
          joined = joined-from_equal P (same_word-true [] (normal_word (counts 0 P.rank [])) parts.0);
        },
      )
  tested_reached prime h empty (k ∷ w) l =
      let rest = tested_reached prime h empty w l.1 in
      let whole = before-normal prime h k l.0 rest.0 rest.1.normal in (
        found k rest.0,
        record {
          normal = whole.normal;
          joined = joined-trans (joined-append_left (k ∷ []) rest.1.joined) whole.joined;
        },
      )

-- what a closed presentation has to pass to be consistent: how many times the rules are run, a table with elements for the
-- generators, and how an element is read as exponents
pub record PassesConsistent (P : Presentation) (passes : ℕ) (T : Table) (f : List ℕ) (exponents : ℕ → List ℕ) : Type 0 where
  pub prime : suc (pred P.prime) ≡ P.prime
  pub reached : are_reached P passes ≡ true
  pub empty : is_empty_normal P passes ≡ true
  pub group : IsGroup T
  pub elements : AllBelow T.size f
  pub powers : are_power_values_neutral T f P ≡ true
  pub commutators : are_commutator_values_neutral T f P ≡ true
  pub told : passes_lists P.prime P.rank (λ e. same_list (exponents (value T f (normal_word e))) e) ≡ true

-- the value of a normal word is read as its exponents
pub read_back : {P : Presentation} {passes : ℕ} {T : Table} {f : List ℕ} {exponents : ℕ → List ℕ} → PassesConsistent P passes T f exponents
    → (e : List ℕ) → IsNormal P.prime P.rank e → exponents (value T f (normal_word e)) ≡ e
read_back {P} {passes} {T} {f} {exponents} h e n =
    same_list-true (exponents (value T f (normal_word e))) e
    (at-list P.prime P.rank (λ x. same_list (exponents (value T f (normal_word x))) x) h.told e n)

-- joined words have equal values
pub values_joined : {P : Presentation} {passes : ℕ} {T : Table} {f : List ℕ} {exponents : ℕ → List ℕ}
    → PassesConsistent P passes T f exponents
    → {u v : List ℤ} → Joined P u v → value T f u ≡ value T f v
values_joined {P} {passes} {T} {f} h c =
    value-joined T h.group f h.elements P (tested_relators T f P h.powers h.commutators) c

-- a presentation that passes is consistent
pub tested_consistent : {P : Presentation} {passes : ℕ} {T : Table} {f : List ℕ} {exponents : ℕ → List ℕ}
    → PassesConsistent P passes T f exponents
    → IsConsistent P
tested_consistent {P} {passes} {T} {f} {exponents} h = record {
  unique = λ e g he hg c. sym (read_back h e he) ∙ ap exponents (values_joined h c) ∙ read_back h g hg;
  reached = tested_reached P passes h.prime h.reached h.empty;
}

-- a word over the generators is joined to the normal word of the exponents that its value is read as
pub joined-to_value : {P : Presentation} {passes : ℕ} {T : Table} {f : List ℕ} {exponents : ℕ → List ℕ}
    → PassesConsistent P passes T f exponents
    → (w : List ℤ) → HasLetters P.rank w → Joined P w (normal_word (exponents (value T f w)))
joined-to_value {P} {passes} {T} {f} {exponents} h w l =
    let r = tested_reached P passes h.prime h.reached h.empty w l in
    let same : exponents (value T f w) ≡ r.0 = ap exponents (values_joined h r.1.joined) ∙ read_back h r.0 r.1.normal in
    subst (λ (e : List ℕ). Joined P w (normal_word e)) (sym same) r.1.joined
