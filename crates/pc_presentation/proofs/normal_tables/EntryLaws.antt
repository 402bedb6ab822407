-- Reading a table after one of its entries is replaced: the new entry there, the old ones elsewhere, and the same shape.
-- Tables of one shape with the same entries are one table.
use Rattle.std.proofs.Common.{◌≡◌, ◌≢◌, ℕ, suc, ◌-◌, ◌<◌, Bool, cond, eqb, List, [], get_or, length, refl, ap, sym, ◌∙◌, subst, arith}
use Rattle.std.proofs.lemmas.List.{ext_get_or}
use Rattle.std.proofs.lemmas.Bool.{eq-eqb, ne_eqb}
use Rattle.pc_presentation.specs.declared.relation.Relation.{Relation}
use Rattle.pc_presentation.specs.declared.relation.Relation.TheVariants.{Power, Commutator}
use Rattle.pc_presentation.specs.Relation.{IsRelation, PerRelation, entry_at, with_entry, per_relation, relation_number}
use Rattle.pc_presentation.specs.Pcp.{HasShape}
use Rattle.pc_presentation.proofs.presentations.RelationNumbers.{relation_number-injective}
use Rattle.pc_presentation.proofs.presentations.RelationTables.{entry_at-per_relation, per_relation-shape, with_entry-per_relation}

less_one : (i : ℕ) → i ≡ suc i - 1
less_one i = omega arith

module _ {X : Type 0} (n : ℕ) (t u : PerRelation X) (d : X) (s : HasShape n t) (v : HasShape n u)
    (same : (r : Relation) → IsRelation n r → entry_at d t r ≡ entry_at d u r) where
  same_power : (i : ℕ) → i < n → get_or t.powers i d ≡ get_or u.powers i d
  same_power i h =
      ap (λ (k : ℕ). get_or t.powers k d) (less_one i) ∙ same (Power (suc i)) (omega arith, omega arith)
      ∙ ap (λ (k : ℕ). get_or u.powers k d) (sym (less_one i))

  at_first : (w : PerRelation X) (j i : ℕ) → get_or (get_or w.commutators j []) i d ≡ entry_at d w (Commutator (suc j) (suc i))
  at_first w j i =
      ap (λ (k : ℕ). get_or (get_or w.commutators k []) i d) (less_one j)
      ∙ ap (λ (k : ℕ). get_or (get_or w.commutators (suc j - 1) []) k d) (less_one i)

  same_row : (j : ℕ) → j < n → get_or t.commutators j [] ≡ get_or u.commutators j []
  same_row j h =
      let long : length (get_or t.commutators j []) ≡ j = s.row_lengths j h in
      ext_get_or d (get_or t.commutators j []) (get_or u.commutators j []) (long ∙ sym (v.row_lengths j h))
      (λ i l. at_first t j i ∙ same (Commutator (suc j) (suc i)) (omega arith, omega arith, omega arith) ∙ sym (at_first u j i))

  pub same_tables : t ≡ u
  same_tables =
      let powers : length t.powers ≡ n = s.power_count in
      let rows : length t.commutators ≡ n = s.row_count in
      ap (λ (ps : List X). let w : PerRelation X = record { powers = ps; commutators = t.commutators } in w)
      (ext_get_or d t.powers u.powers (powers ∙ sym v.power_count) (λ i l. same_power i (omega arith)))
      ∙ ap (λ (cs : List (List X)). let w : PerRelation X = record { powers = u.powers; commutators = cs } in w)
      (ext_get_or [] t.commutators u.commutators (rows ∙ sym v.row_count) (λ j l. same_row j (omega arith)))

module _ {X : Type 0} (n : ℕ) (t : PerRelation X) (d : X) (s : HasShape n t) where
  -- a table is that of its entries
  pub per_relation-entry_at : per_relation n (entry_at d t) ≡ t
  per_relation-entry_at = same_tables n (per_relation n (entry_at d t)) t d (per_relation-shape n (entry_at d t)) s
      (λ r h. entry_at-per_relation n (entry_at d t) d r h)

  module _ (r : Relation) (x : X) (h : IsRelation n r) where
    -- the entries, with x in place of that of r
    abbrev pub replaced : Relation → X
    replaced q = cond (eqb (relation_number n q) (relation_number n r)) x (entry_at d t q)

    replaced-here : replaced r ≡ x
    replaced-here = ap (λ (b : Bool). cond b x (entry_at d t r)) (eq-eqb (relation_number n r) (relation_number n r) refl)

    replaced-elsewhere : (q : Relation) → IsRelation n q → q ≢ r → replaced q ≡ entry_at d t q
    replaced-elsewhere q l ne =
        ap (λ (b : Bool). cond b x (entry_at d t q))
        (ne_eqb (relation_number n q) (relation_number n r) (λ e. ne (relation_number-injective n q r l h e)))

    with_entry-replaced : with_entry t r x ≡ per_relation n replaced
    with_entry-replaced =
        ap (λ (w : PerRelation X). with_entry w r x) (sym per_relation-entry_at)
        ∙ with_entry-per_relation n (entry_at d t) replaced r x
        (record { relation = h; here = replaced-here; elsewhere = replaced-elsewhere })

    pub with_entry-shape : HasShape n (with_entry t r x)
    with_entry-shape = subst (λ (w : PerRelation X). HasShape n w) (sym with_entry-replaced) (per_relation-shape n replaced)

    pub entry_at-with_entry_same : entry_at d (with_entry t r x) r ≡ x
    entry_at-with_entry_same =
        ap (λ (w : PerRelation X). entry_at d w r) with_entry-replaced ∙ entry_at-per_relation n replaced d r h ∙ replaced-here

    pub entry_at-with_entry_other : (q : Relation) → IsRelation n q → q ≢ r → entry_at d (with_entry t r x) q ≡ entry_at d t q
    entry_at-with_entry_other q l ne =
        ap (λ (w : PerRelation X). entry_at d w q) with_entry-replaced ∙ entry_at-per_relation n replaced d q l ∙ replaced-elsewhere q l ne
