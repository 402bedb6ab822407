-- Each answer that a run builds extends those before it: right sides and lists of the earlier answer stand in front of those of the
-- later one. This is so whether or not what is built is an answer.
use Rattle.std.proofs.Common.{◌≡◌, ℕ, zero, suc, ◌+◌, ◌-◌, ◌<◌, ◌≤◌, List, [], ◌++◌, length, get_or, map, replicate, refl, ap, ap₂}
use Rattle.std.proofs.Common.{sym, ◌∙◌, arith, Option, ⊎_elim, length-append, append_assoc}
use Rattle.std.proofs.lemmas.Bool.{cases_lt}
use Rattle.std.proofs.lemmas.List.{append-nil, length-map, length-replicate, get_or_append_left, get_or-append-add}
use Rattle.std.proofs.Math.ListN.{get_or-map}
use Rattle.pq_base.specs.Presentation.{power_side, commutator_side}
use Rattle.pq_base.specs.Answer.{Answer, Definition as Source, IsAnswer, class_of}
use Rattle.fp_echelon.specs.Reduced.{BasisRow}
use Rattle.pc_presentation.specs.Relation.{PerRelation}
use Rattle.pc_presentation.specs.Rowed.{RowedPresentation, power_row, commutator_row, followed_by, tables_followed_by, tail_powers}
use Rattle.pc_presentation.specs.Rowed.{tail_commutators, flat}
use Rattle.pc_presentation.specs.Pcp.{HasShape, row_of}
use Rattle.pc_presentation.proofs.presentations.RelationTables.{per_relation-shape}
use Rattle.pc_presentation.proofs.rows.FlatLaws.{length-followed_by, get_or-followed_by, length-tables_followed_by}
use Rattle.pc_presentation.proofs.rows.FlatLaws.{get_or-tables_followed_by, length-tail_powers, length-tail_commutators}
use Rattle.p_cover.specs.RowedAnswer.{rowed}
use Rattle.p_cover.specs.Covers.{CoverOf, cover_presentation}
use Rattle.p_cover.specs.Sources.{relation_source, place_in}
use Rattle.cover_quotient.specs.Carried.{carried}
use Rattle.cover_quotient.specs.Kept.{kept_columns, kept_rows}
use Rattle.cover_quotient.specs.NextAnswer.{kept_sources, cover_modulo, eliminated}

-- as many right sides as there are relations
pub record IsShaped (A : Answer) : Type 0 where
  pub powers : length A.presentation.powers ≡ A.presentation.rank
  pub commutators : length A.presentation.commutators ≡ A.presentation.rank
  pub rows : (j : ℕ) → j < A.presentation.rank → length (get_or A.presentation.commutators j []) ≡ j

pub answer-shaped : (A : Answer) → IsAnswer A → IsShaped A
answer-shaped A is = record {
  powers = is.presentation.power_count;
  commutators = is.presentation.commutator_count;
  rows = is.presentation.commutator_counts;
}

-- the first n generators' right sides, and the lists
pub record Extends (n : ℕ) (N M : Answer) : Type 0 where
  pub powers : (j : ℕ) → j < n → (rest : List ℕ) × (power_side M.presentation j ≡ power_side N.presentation j ++ rest)
  pub commutators : (j i : ℕ) → j < n → i < j
      → (rest : List ℕ) × (commutator_side M.presentation j i ≡ commutator_side N.presentation j i ++ rest)
  pub definitions : (more : List Source) × (M.definitions ≡ N.definitions ++ more)
  pub weights : (more : List ℕ) × (M.weights ≡ N.weights ++ more)
  pub rank : N.presentation.rank ≤ M.presentation.rank

pub extends-self : (n : ℕ) (N : Answer) → Extends n N N
extends-self n N = record {
  powers = λ j l. ([], sym (append-nil (power_side N.presentation j)));
  commutators = λ j i l m. ([], sym (append-nil (commutator_side N.presentation j i)));
  definitions = ([], sym (append-nil N.definitions));
  weights = ([], sym (append-nil N.weights));
  rank = omega arith;
}

pub extends-trans : (n m : ℕ) (N M O : Answer) → n ≤ m → Extends n N M → Extends m M O → Extends n N O
extends-trans n m N M O few a b = record {
  powers = λ j l.
      let x = a.powers j l in
      let y = b.powers j (omega arith) in
      (x.0 ++ y.0, y.1 ∙ ap (λ (z : List ℕ). z ++ y.0) x.1 ∙ append_assoc (power_side N.presentation j) x.0 y.0);
  commutators = λ j i l k.
      let x = a.commutators j i l k in
      let y = b.commutators j i (omega arith) k in
      (x.0 ++ y.0, y.1 ∙ ap (λ (z : List ℕ). z ++ y.0) x.1 ∙ append_assoc (commutator_side N.presentation j i) x.0 y.0);
  definitions =
      let x = a.definitions in
      let y = b.definitions in
      (x.0 ++ y.0, y.1 ∙ ap (λ (z : List Source). z ++ y.0) x.1 ∙ append_assoc N.definitions x.0 y.0);
  weights =
      let x = a.weights in
      let y = b.weights in
      (x.0 ++ y.0, y.1 ∙ ap (λ (z : List ℕ). z ++ y.0) x.1 ∙ append_assoc N.weights x.0 y.0);
  rank = let x = a.rank in let y = b.rank in omega arith;
}

-- the list of commutators of tail t is as long as there are generators and tails before it
length-tail_row : (n q t : ℕ) → t < q → length (get_or (tail_commutators n q) t []) ≡ n + t
length-tail_row n zero t l = absurd (omega arith)
length-tail_row n (suc q) zero l = let e : n ≡ n + 0 = omega arith in length-replicate n (replicate q 0) ∙ e
length-tail_row n (suc q) (suc t) l = let e : suc n + t ≡ n + suc t = omega arith in length-tail_row (suc n) q t (omega arith) ∙ e

-- a list mapped twice
twice-length : {X : Type 0} (f : List ℕ → List ℕ) (g : X → List ℕ) (xs : List X) → length (map f (map g xs)) ≡ length xs
twice-length f g xs = length-map (map g xs) f ∙ length-map xs g

module _ (C : CoverOf) (bs : List BasisRow) (shaped : IsShaped C.answer) where
  abbrev Z : RowedPresentation
  Z = rowed (cover_modulo C bs)

  abbrev n : ℕ
  n = C.answer.presentation.rank

  abbrev w : ℕ
  w = length (kept_columns (length C.sources) bs)

  abbrev table : PerRelation (Option ℕ)
  table = (cover_presentation C).tail_table

  shape : HasShape C.answer.presentation.rank (cover_presentation C).tail_table
  shape = per_relation-shape C.answer.presentation.rank (λ r. place_in C.sources (relation_source r))

  abbrev carry : List ℕ → List ℕ
  carry = carried C.answer.presentation.prime (length (kept_columns (length C.sources) bs))
      (kept_rows C.answer.presentation.prime (length C.sources) bs)

  abbrev own : Option ℕ → List ℕ
  own = row_of (length C.sources)

  power_count : length Z.power_rows ≡ n
  power_count = twice-length carry own (cover_presentation C).tail_table.powers ∙ shape.power_count

  commutator_count : length Z.commutator_rows ≡ n
  commutator_count =
      length-map (map (λ (row : List (Option ℕ)). map own row) (cover_presentation C).tail_table.commutators)
      (λ (r : List (List ℕ)). map carry r)
      ∙ length-map (cover_presentation C).tail_table.commutators (λ (row : List (Option ℕ)). map own row)
      ∙ shape.row_count

  row_count : (j : ℕ) → j < C.answer.presentation.rank → length (get_or Z.commutator_rows j []) ≡ j
  row_count j l =
      ap (λ (r : List (List ℕ)). length r)
      (get_or-map (λ (r : List (List ℕ)). map carry r)
      (map (λ (row : List (Option ℕ)). map own row) (cover_presentation C).tail_table.commutators) j []
      ∙ ap (map carry) (get_or-map (λ (row : List (Option ℕ)). map own row) (cover_presentation C).tail_table.commutators j []))
      ∙ twice-length carry own (get_or (cover_presentation C).tail_table.commutators j [])
      ∙ shape.row_lengths j l

  same_powers : length C.answer.presentation.powers ≡ length Z.power_rows
  same_powers = shaped.powers ∙ sym power_count

  same_commutators : length C.answer.presentation.commutators ≡ length Z.commutator_rows
  same_commutators = shaped.commutators ∙ sym commutator_count

  flat_commutators : (j : ℕ) → j < C.answer.presentation.rank
      → get_or (flat Z).commutators j [] ≡ followed_by (get_or C.answer.presentation.commutators j []) (get_or Z.commutator_rows j [])
  flat_commutators j l =
      let c = length-tables_followed_by C.answer.presentation.commutators Z.commutator_rows same_commutators in
      let d = shaped.commutators in
      get_or_append_left (tables_followed_by C.answer.presentation.commutators Z.commutator_rows) (tail_commutators n w) [] j (omega arith)
      ∙ get_or-tables_followed_by C.answer.presentation.commutators Z.commutator_rows j same_commutators

  same_row : (j : ℕ) → j < C.answer.presentation.rank
      → length (get_or C.answer.presentation.commutators j []) ≡ length (get_or Z.commutator_rows j [])
  same_row j l = shaped.rows j l ∙ sym (row_count j l)

  rows-next : (j : ℕ) → j < C.answer.presentation.rank + w → length (get_or (flat Z).commutators j []) ≡ j
  rows-next j l =
      ⊎_elim
      (λ old.
      ap (λ (r : List (List ℕ)). length r) (flat_commutators j old)
      ∙ length-followed_by (get_or C.answer.presentation.commutators j []) (get_or Z.commutator_rows j []) (same_row j old)
      ∙ shaped.rows j old)
      (λ new.
      let t : ℕ = j - C.answer.presentation.rank in
      let xs : List (List (List ℕ)) = tables_followed_by C.answer.presentation.commutators Z.commutator_rows in
      let long : length (tables_followed_by C.answer.presentation.commutators Z.commutator_rows) ≡ C.answer.presentation.rank =
      length-tables_followed_by C.answer.presentation.commutators Z.commutator_rows same_commutators ∙ shaped.commutators in
      let place : j ≡ length (tables_followed_by C.answer.presentation.commutators Z.commutator_rows) + t = omega arith in
      let end : n + t ≡ j = omega arith in
      ap (λ (k : ℕ). length (get_or (flat Z).commutators k [])) place
      ∙ ap (λ (r : List (List ℕ)). length r) (get_or-append-add xs (tail_commutators n w) t [])
      ∙ length-tail_row n w t (omega arith)
      ∙ end)
      (cases_lt j C.answer.presentation.rank)

  pub shaped-next : IsShaped (eliminated C bs)
  shaped-next = record {
    powers =
        let c = length-followed_by C.answer.presentation.powers Z.power_rows same_powers in
        let d = shaped.powers in
        let e = length-tail_powers w in
        length-append (followed_by C.answer.presentation.powers Z.power_rows) (tail_powers w)
        ∙ ap₂ (λ (a b : ℕ). a + b) (c ∙ d) e;
    commutators =
        length-append (tables_followed_by C.answer.presentation.commutators Z.commutator_rows) (tail_commutators n w)
        ∙ ap₂ (λ (a b : ℕ). a + b)
        (length-tables_followed_by C.answer.presentation.commutators Z.commutator_rows same_commutators ∙ shaped.commutators)
        (length-tail_commutators n w);
    rows = rows-next;
  }

  pub extends-next : Extends C.answer.presentation.rank C.answer (eliminated C bs)
  extends-next = record {
    powers = λ j l.
        let c = length-followed_by C.answer.presentation.powers Z.power_rows same_powers in
        let d = shaped.powers in (
          power_row Z j,
          get_or_append_left (followed_by C.answer.presentation.powers Z.power_rows) (tail_powers w) [] j (omega arith)
              ∙ get_or-followed_by C.answer.presentation.powers Z.power_rows j same_powers,
        );
    commutators = λ j i l m. (
      commutator_row Z j i,
      ap (λ (x : List (List ℕ)). get_or x i []) (flat_commutators j l)
          ∙ get_or-followed_by (get_or C.answer.presentation.commutators j []) (get_or Z.commutator_rows j []) i (same_row j l),
    );
    definitions = (kept_sources C bs, refl);
    weights = (replicate w (suc (class_of C.answer)), refl);
    rank = omega arith;
  }
