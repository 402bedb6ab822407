-- Empty words make the presentation of the elementary abelian group, in which no relation has a tail.
use Rattle.std.proofs.Common.{◌≡◌, ℕ, zero, suc, ◌+◌, ◌-◌, Option, None, false, List, [], ◌∷◌, get_or, length, replicate, refl, ap, sym}
use Rattle.std.proofs.Common.{◌∙◌, subst, arith}
use Rattle.std.proofs.lemmas.List.{length-replicate}
use Rattle.pq_base.specs.Elementary.{zeros, zero_powers, zero_rows}
use Rattle.pc_presentation.specs.declared.relation.Relation.{Relation}
use Rattle.pc_presentation.specs.Syllable.{spread, AreSyllables}
use Rattle.pc_presentation.specs.Relation.{IsTail, side_start, PerRelation, tabulate, per_relation, relation_number, relation_count}
use Rattle.pc_presentation.specs.Store.{Entry, blank, stored_at, AreEntries}
use Rattle.pc_presentation.specs.Pcp.{tailed_presentation, plain_presentation}
use Rattle.pc_presentation.proofs.presentations.RelationTables.{tabulate_agree, per_relation_agree}
use Rattle.pc_presentation.proofs.presentations.PcpLaws.{side_of}
use Rattle.pc_presentation.proofs.presentations.PutLaws.{from_tables}

get_or-replicate_same : {X : Type 0} (n k : ℕ) (x : X) → get_or (replicate n x) k x ≡ x
get_or-replicate_same zero k x = refl
get_or-replicate_same (suc n) zero x = refl
get_or-replicate_same (suc n) (suc k) x = get_or-replicate_same n k x

pub spread-nil : (n k : ℕ) → spread n k [] ≡ zeros n
spread-nil zero k = refl
spread-nil (suc n) k = ap (λ (e : List ℕ). 0 ∷ e) (spread-nil n (suc k))

replicate-tabulate : {X : Type 0} (n : ℕ) (x : X) → tabulate n (λ _. x) ≡ replicate n x
replicate-tabulate zero x = refl
replicate-tabulate {X} (suc n) x = ap (λ (xs : List X). x ∷ xs) (replicate-tabulate n x)

zero_powers-tabulate : (n : ℕ) → tabulate n (λ i. zeros (n - suc i)) ≡ zero_powers n
zero_powers-tabulate zero = refl
zero_powers-tabulate (suc n) =
    let first : suc n - 1 ≡ n = omega arith in
    ap (λ (m : ℕ). zeros m ∷ tabulate n (λ i. zeros (suc n - suc (suc i)))) first
    ∙ ap (λ (xs : List (List ℕ)). zeros n ∷ xs)
    (tabulate_agree n (λ i. zeros (suc n - suc (suc i))) (λ i. zeros (n - suc i))
    (λ i l. let e : suc n - suc (suc i) ≡ n - suc i = omega arith in ap zeros e)
    ∙ zero_powers-tabulate n)

zero_rows-tabulate : (k n : ℕ) → tabulate n (λ j. replicate (k + j) (zeros (n - suc j))) ≡ zero_rows k n
zero_rows-tabulate k zero = refl
zero_rows-tabulate k (suc n) =
    let first : suc n - 1 ≡ n = omega arith in
    let row : k + 0 ≡ k = omega arith in
    ap (λ (m : ℕ). replicate (k + 0) (zeros m) ∷ tabulate n (λ j. replicate (k + suc j) (zeros (suc n - suc (suc j))))) first
    ∙ ap (λ (m : ℕ). replicate m (zeros n) ∷ tabulate n (λ j. replicate (k + suc j) (zeros (suc n - suc (suc j))))) row
    ∙ ap (λ (xs : List (List (List ℕ))). replicate k (zeros n) ∷ xs)
    (tabulate_agree n (λ j. replicate (k + suc j) (zeros (suc n - suc (suc j)))) (λ j. replicate (suc k + j) (zeros (n - suc j)))
    (λ j l. let e : suc n - suc (suc j) ≡ n - suc j = omega arith in let s : k + suc j ≡ suc k + j = omega arith in
    ap (λ (m : ℕ). replicate (k + suc j) (zeros m)) e ∙ ap (λ (m : ℕ). replicate m (zeros (n - suc j))) s)
    ∙ zero_rows-tabulate (suc k) n)

abbrev pub zero_sides : ℕ → PerRelation (List ℕ)
zero_sides n = record { powers = zero_powers n; commutators = zero_rows 0 n }

zero_sides-per_relation : (n : ℕ) → per_relation n (λ r. zeros (n - side_start r)) ≡ zero_sides n
zero_sides-per_relation n =
    ap (λ (ps : List (List ℕ)). let t : PerRelation (List ℕ) =
    record { powers = ps; commutators = tabulate n (λ j. tabulate j (λ _. zeros (n - suc j))) } in t)
    (zero_powers-tabulate n)
    ∙ ap (λ (cs : List (List (List ℕ))). let t : PerRelation (List ℕ) = record { powers = zero_powers n; commutators = cs } in t)
    (tabulate_agree n (λ j. tabulate j (λ _. zeros (n - suc j))) (λ j. replicate (0 + j) (zeros (n - suc j)))
    (λ j l. let e : j ≡ 0 + j = omega arith in replicate-tabulate j (zeros (n - suc j)) ∙ ap (λ (m : ℕ). replicate m (zeros (n - suc j))) e)
    ∙ zero_rows-tabulate 0 n)

stored_blank : (m n : ℕ) (r : Relation) → stored_at n (replicate m blank) r ≡ blank
stored_blank m n r = get_or-replicate_same m (relation_number n r) blank

-- what is kept of it
pub AreEntries-plain : (p tails m n : ℕ) (entries : List Entry) → m ≡ relation_count n → entries ≡ replicate m blank
    → AreEntries p n tails entries
AreEntries-plain p tails m n entries count e = subst (AreEntries p n tails) (sym e) (record {
  count = length-replicate m blank ∙ count;
  words = λ r h. subst (λ (x : Entry). AreSyllables p n (side_start r) x.word) (sym (stored_blank m n r)) tt;
  in_range = λ r h. subst (λ (x : Entry). IsTail tails x.tail) (sym (stored_blank m n r)) tt;
})

pub plain-tailed : (p tails m : ℕ) (weights : List ℕ)
    → tailed_presentation p weights tails (replicate m blank) ≡ plain_presentation p weights tails
plain-tailed p tails m weights =
    let n : ℕ = length weights in
    let some : PerRelation (Option ℕ) = per_relation n (λ q. (stored_at n (replicate m blank) q).tail) in
    ap (λ (s : PerRelation (List ℕ)). from_tables p weights tails s some)
    (per_relation_agree n (side_of n (replicate m blank)) (λ r. zeros (n - side_start r))
    (λ r h. ap (λ (e : Entry). spread (n - side_start r) (side_start r) e.word) (stored_blank m n r)
    ∙ spread-nil (n - side_start r) (side_start r))
    ∙ zero_sides-per_relation n)
    ∙ ap (λ (t : PerRelation (Option ℕ)). from_tables p weights tails (zero_sides n) t)
    (per_relation_agree n (λ q. (stored_at n (replicate m blank) q).tail) (λ _. None)
    (λ r h. ap (λ (e : Entry). e.tail) (stored_blank m n r)))

pub no_flags : (n m : ℕ) → per_relation n (λ r. get_or (replicate m false) (relation_number n r) false) ≡ per_relation n (λ _. false)
no_flags n m = per_relation_agree n (λ r. get_or (replicate m false) (relation_number n r) false) (λ _. false)
    (λ r h. get_or-replicate_same m (relation_number n r) false)

pub plain-made : (p tails m : ℕ) (weights copied : List ℕ) (entries : List Entry) → copied ≡ weights → entries ≡ replicate m blank
    → tailed_presentation p copied tails entries ≡ plain_presentation p weights tails
plain-made p tails m weights copied entries e f =
    ap (λ (ws : List ℕ). tailed_presentation p ws tails entries) e
    ∙ ap (tailed_presentation p weights tails) f
    ∙ plain-tailed p tails m weights
