-- Replacing one of the kept entries replaces one relation of the presentation, and keeps that it is one.
use Rattle.std.proofs.Common.{◌≡◌, ◌≢◌, ℕ, ◌-◌, Option, Bool, false, List, get_or, length, ap, sym, ◌∙◌, subst, arith, inl, inr}
use Rattle.std.proofs.Math.ListN.{set}
use Rattle.std.proofs.lemmas.List.{length-set, get_or-set_same, get_or-set_other}
use Rattle.std.proofs.lemmas.Bool.{cases_eq}
use Rattle.pc_presentation.specs.declared.syllable.Syllable.{Syllable}
use Rattle.pc_presentation.specs.declared.relation.Relation.{Relation}
use Rattle.pc_presentation.specs.Syllable.{spread, AreSyllables}
use Rattle.pc_presentation.specs.Relation.{IsRelation, IsTail, side_start, PerRelation, with_entry, per_relation, relation_number}
use Rattle.pc_presentation.specs.Relation.{relation_count}
use Rattle.pc_presentation.specs.Store.{Entry, blank, stored_at, AreEntries}
use Rattle.pc_presentation.specs.Pcp.{TailedPresentation, tailed_presentation, with_relation}
use Rattle.pc_presentation.proofs.presentations.RelationNumbers.{relation_number-below, relation_number-injective}
use Rattle.pc_presentation.proofs.presentations.RelationTables.{with_entry-per_relation}
use Rattle.pc_presentation.proofs.presentations.PcpLaws.{side_of}

-- the value at a relation's number is replaced in a list with one for each relation
module _ {X : Type 0} (n : ℕ) (xs : List X) (d : X) (r : Relation) (x : X) where
  pub at_number : length xs ≡ relation_count n → IsRelation n r → get_or (set xs (relation_number n r) x) (relation_number n r) d ≡ x
  at_number long h = get_or-set_same xs (relation_number n r) x d (omega (arith, relation_number-below n r h))

  pub at_other_number : (q : Relation) → IsRelation n q → IsRelation n r → q ≢ r
      → get_or (set xs (relation_number n r) x) (relation_number n q) d ≡ get_or xs (relation_number n q) d
  at_other_number q h l ne =
      get_or-set_other xs (relation_number n r) (relation_number n q) x d (λ e. ne (relation_number-injective n q r h l e))

module _ (n : ℕ) (entries : List Entry) (r : Relation) (word : List Syllable) (tail : Option ℕ) where
  abbrev pub put_entry : Entry
  put_entry = record { word = word; tail = tail }

  abbrev pub put_entries : List Entry
  put_entries = set entries (relation_number n r) put_entry

  stored_here : length entries ≡ relation_count n → IsRelation n r → stored_at n put_entries r ≡ put_entry
  stored_here long h = at_number n entries blank r put_entry long h

  stored_elsewhere : (q : Relation) → IsRelation n q → IsRelation n r → q ≢ r → stored_at n put_entries q ≡ stored_at n entries q
  stored_elsewhere q h l ne = at_other_number n entries blank r put_entry q h l ne

  -- a fact of all entries stays one
  kept : (F : Relation → Entry → Type 0) → length entries ≡ relation_count n → IsRelation n r
      → ((q : Relation) → IsRelation n q → F q (stored_at n entries q)) → F r put_entry
      → (q : Relation) → IsRelation n q → F q (stored_at n put_entries q)
  kept F long h all one q l = elim (cases_eq (relation_number n q) (relation_number n r)) [
    | inl e ↦ subst (λ (k : Relation). F k (stored_at n put_entries k)) (sym (relation_number-injective n q r l h e))
        (subst (F r) (sym (stored_here long h)) one)
    | inr ne ↦ subst (F q) (sym (stored_elsewhere q l h (λ (e : q ≡ r). ne (ap (relation_number n) e)))) (all q l)
  ]

  pub put_entries-are : (p tails : ℕ) → AreEntries p n tails entries → IsRelation n r → AreSyllables p n (side_start r) word
      → IsTail tails tail → AreEntries p n tails put_entries
  put_entries-are p tails a h w t = record {
    count = length-set entries (relation_number n r) put_entry ∙ a.count;
    words = kept (λ q e. AreSyllables p n (side_start q) e.word) a.count h a.words w;
    in_range = kept (λ q e. IsTail tails e.tail) a.count h a.in_range t;
  }

  sides_replaced : length entries ≡ relation_count n → IsRelation n r
      → with_entry (per_relation n (side_of n entries)) r (spread (n - side_start r) (side_start r) word)
      ≡ per_relation n (side_of n put_entries)
  sides_replaced long h = with_entry-per_relation n (side_of n entries) (side_of n put_entries) r
      (spread (n - side_start r) (side_start r) word) (record {
        relation = h;
        here = ap (λ (e : Entry). spread (n - side_start r) (side_start r) e.word) (stored_here long h);
        elsewhere = λ q l ne. ap (λ (e : Entry). spread (n - side_start q) (side_start q) e.word) (stored_elsewhere q l h ne);
      })

  tails_replaced : length entries ≡ relation_count n → IsRelation n r
      → with_entry (per_relation n (λ q. (stored_at n entries q).tail)) r tail ≡ per_relation n (λ q. (stored_at n put_entries q).tail)
  tails_replaced long h =
      with_entry-per_relation n (λ q. (stored_at n entries q).tail) (λ q. (stored_at n put_entries q).tail) r tail (record {
        relation = h;
        here = ap (λ (e : Entry). e.tail) (stored_here long h);
        elsewhere = λ q l ne. ap (λ (e : Entry). e.tail) (stored_elsewhere q l h ne);
      })

-- a presentation from the tables of its right sides and tails
abbrev pub from_tables : ℕ → List ℕ → ℕ → PerRelation (List ℕ) → PerRelation (Option ℕ) → TailedPresentation
from_tables p weights tails sides tail_table = record {
  presentation = record { prime = p; rank = length weights; powers = sides.powers; commutators = sides.commutators };
  weights = weights;
  tails = tails;
  tail_table = tail_table;
}

pub with_relation-tailed : (p tails : ℕ) (weights : List ℕ) (entries : List Entry) (r : Relation) (word : List Syllable) (tail : Option ℕ)
    → length entries ≡ relation_count (length weights) → IsRelation (length weights) r
    → tailed_presentation p weights tails (put_entries (length weights) entries r word tail)
    ≡ with_relation (tailed_presentation p weights tails entries) r word tail
with_relation-tailed p tails weights entries r word tail long h =
    let n : ℕ = length weights in
    let sides : PerRelation (List ℕ) = per_relation n (side_of n (put_entries n entries r word tail)) in
    let old_tails : PerRelation (Option ℕ) = per_relation n (λ q. (stored_at n entries q).tail) in
    sym (ap (λ (s : PerRelation (List ℕ)). from_tables p weights tails s (with_entry old_tails r tail))
    (sides_replaced n entries r word tail long h)
    ∙ ap (λ (t : PerRelation (Option ℕ)). from_tables p weights tails sides t) (tails_replaced n entries r word tail long h))

-- flags of relations
pub flags_replaced : (n : ℕ) (flags : List Bool) (r : Relation) (b : Bool) → length flags ≡ relation_count n → IsRelation n r
    → with_entry (per_relation n (λ q. get_or flags (relation_number n q) false)) r b
    ≡ per_relation n (λ q. get_or (set flags (relation_number n r) b) (relation_number n q) false)
flags_replaced n flags r b long h =
    with_entry-per_relation n (λ q. get_or flags (relation_number n q) false)
    (λ q. get_or (set flags (relation_number n r) b) (relation_number n q) false) r b (record {
      relation = h;
      here = at_number n flags false r b long h;
      elsewhere = λ q l ne. at_other_number n flags false r b q l h ne;
    })
