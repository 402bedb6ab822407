-- A relation behind all others adds its line behind the lines of the others.
use Rattle.std.proofs.Common.{◌≡◌, ◌<◌, ◌≤◌, ◌+◌, ◌-◌, ◌*◌, ℕ, zero, suc, List, [], ◌∷◌, ◌++◌, get_or, length, slice_set, refl, ap, ap₂}
use Rattle.std.proofs.Common.{sym, subst, ◌∙◌, arith, append_assoc, append-nil}
use Rattle.pc_presentation.specs.declared.syllable.Syllable.{Syllable}
use Rattle.pc_presentation.specs.Syllable.{syllables_of}
pub use Rattle.answer_text.specs.Drafts.{PowersBlank, RowBlank, RowsBlank}
use Rattle.answer_text.specs.AnswerText.{relation_lines, power_text, power_lines, commutator_text, commutator_row_lines, commutator_lines}

pub PowersBlank-later : (k i j : ℕ) (es : List (List ℕ)) → i ≤ j → PowersBlank k i es → PowersBlank k j es
PowersBlank-later k i j [] h b = tt
PowersBlank-later k zero zero (e ∷ es) h b = b
PowersBlank-later k zero (suc j) (e ∷ es) h b = PowersBlank-later (suc k) zero j es (omega arith) b.1
PowersBlank-later k (suc i) zero (e ∷ es) h b = absurd (omega arith)
PowersBlank-later k (suc i) (suc j) (e ∷ es) h b = PowersBlank-later (suc k) i j es (omega arith) b

pub power_lines-blank : (p k : ℕ) (es : List (List ℕ)) → PowersBlank k zero es → power_lines p k es ≡ []
power_lines-blank p k [] b = refl
power_lines-blank p k (e ∷ es) b =
    ap₂ (λ (v : List Syllable) (t : List (List ℕ)). relation_lines (power_text p (suc k)) v ++ t) b.0 (power_lines-blank p (suc k) es b.1)

pub power_lines-set : (p k i j : ℕ) (es : List (List ℕ)) (e : List ℕ) → i < length es → j ≡ suc (k + i) → PowersBlank k i es
    → power_lines p k (slice_set es i e) ≡ power_lines p k es ++ relation_lines (power_text p j) (syllables_of j e)
power_lines-set p k i j [] e h same b = absurd (omega arith)
power_lines-set p k zero j (x ∷ es) e h same b =
    let here : suc k ≡ j = omega arith in
    let none : power_lines p (suc k) es ≡ [] = power_lines-blank p (suc k) es b.1 in
    ap (λ (t : List (List ℕ)). relation_lines (power_text p (suc k)) (syllables_of (suc k) e) ++ t) none
    ∙ append-nil (relation_lines (power_text p (suc k)) (syllables_of (suc k) e))
    ∙ ap (λ (m : ℕ). relation_lines (power_text p m) (syllables_of m e)) here
    ∙ ap (λ (t : List (List ℕ)). t ++ relation_lines (power_text p j) (syllables_of j e)) (sym (power_lines-blank p k (x ∷ es) b))
power_lines-set p k (suc i) j (x ∷ es) e h same b =
    ap (λ (t : List (List ℕ)). relation_lines (power_text p (suc k)) (syllables_of (suc k) x) ++ t)
    (power_lines-set p (suc k) i j es e (omega arith) (omega arith) b)
    ∙ sym (append_assoc (relation_lines (power_text p (suc k)) (syllables_of (suc k) x)) (power_lines p (suc k) es)
    (relation_lines (power_text p j) (syllables_of j e)))

pub PowersBlank-set : (k i : ℕ) (es : List (List ℕ)) (e : List ℕ) → PowersBlank k i es → PowersBlank k (suc i) (slice_set es i e)
PowersBlank-set k i [] e b = tt
PowersBlank-set k zero (x ∷ es) e b = b.1
PowersBlank-set k (suc i) (x ∷ es) e b = PowersBlank-set (suc k) i es e b

RowBlank-later : (j i m : ℕ) (es : List (List ℕ)) → i ≤ m → RowBlank j i es → RowBlank j m es
RowBlank-later j i m [] h b = tt
RowBlank-later j zero zero (e ∷ es) h b = b
RowBlank-later j zero (suc m) (e ∷ es) h b = RowBlank-later j zero m es (omega arith) b.1
RowBlank-later j (suc i) zero (e ∷ es) h b = absurd (omega arith)
RowBlank-later j (suc i) (suc m) (e ∷ es) h b = RowBlank-later j i m es (omega arith) b

row_lines-blank : (j k : ℕ) (es : List (List ℕ)) → RowBlank j zero es → commutator_row_lines j k es ≡ []
row_lines-blank j k [] b = refl
row_lines-blank j k (e ∷ es) b =
    ap₂ (λ (v : List Syllable) (t : List (List ℕ)). relation_lines (commutator_text j (suc k)) v ++ t) b.0
    (row_lines-blank j (suc k) es b.1)

row_lines-set : (j k i m : ℕ) (es : List (List ℕ)) (e : List ℕ) → i < length es → m ≡ suc (k + i) → RowBlank j i es
    → commutator_row_lines j k (slice_set es i e) ≡ commutator_row_lines j k es ++ relation_lines (commutator_text j m) (syllables_of j e)
row_lines-set j k i m [] e h same b = absurd (omega arith)
row_lines-set j k zero m (x ∷ es) e h same b =
    let here : suc k ≡ m = omega arith in
    let none : commutator_row_lines j (suc k) es ≡ [] = row_lines-blank j (suc k) es b.1 in
    ap (λ (t : List (List ℕ)). relation_lines (commutator_text j (suc k)) (syllables_of j e) ++ t) none
    ∙ append-nil (relation_lines (commutator_text j (suc k)) (syllables_of j e))
    ∙ ap (λ (x : ℕ). relation_lines (commutator_text j x) (syllables_of j e)) here
    ∙ ap (λ (t : List (List ℕ)). t ++ relation_lines (commutator_text j m) (syllables_of j e)) (sym (row_lines-blank j k (x ∷ es) b))
row_lines-set j k (suc i) m (x ∷ es) e h same b =
    ap (λ (t : List (List ℕ)). relation_lines (commutator_text j (suc k)) (syllables_of j x) ++ t)
    (row_lines-set j (suc k) i m es e (omega arith) (omega arith) b)
    ∙ sym (append_assoc (relation_lines (commutator_text j (suc k)) (syllables_of j x)) (commutator_row_lines j (suc k) es)
    (relation_lines (commutator_text j m) (syllables_of j e)))

RowBlank-set : (j i : ℕ) (es : List (List ℕ)) (e : List ℕ) → RowBlank j i es → RowBlank j (suc i) (slice_set es i e)
RowBlank-set j i [] e b = tt
RowBlank-set j zero (x ∷ es) e b = b.1
RowBlank-set j (suc i) (x ∷ es) e b = RowBlank-set j i es e b

pub RowsBlank-later : (k i m : ℕ) (rows : List (List (List ℕ))) → i ≤ m → RowsBlank k i rows → RowsBlank k m rows
RowsBlank-later k i m [] h b = tt
RowsBlank-later k i m (row ∷ rows) h b =
    (RowBlank-later (suc k) (i - 1000 * suc k) (m - 1000 * suc k) row (omega arith) b.0, RowsBlank-later (suc k) i m rows h b.1)

pub rows-blank : (k last : ℕ) (rows : List (List (List ℕ))) → last ≤ 1000 * suc k → RowsBlank k last rows → commutator_lines k rows ≡ []
rows-blank k last [] h b = refl
rows-blank k last (row ∷ rows) h b =
    let start : last - 1000 * suc k ≡ 0 = omega arith in
    ap₂ (λ (s t : List (List ℕ)). s ++ t) (row_lines-blank (suc k) 0 row (subst (λ (x : ℕ). RowBlank (suc k) x row) start b.0))
    (rows-blank (suc k) last rows (omega arith) b.1)

pub commutator_lines-set : (k q i j m last : ℕ) (rows : List (List (List ℕ))) (e : List ℕ) → q < length rows → i < length (get_or rows q [])
    → i < 999 → j ≡ suc (k + q) → m ≡ suc i
    → last ≤ 1000 * j + i → RowsBlank k last rows
    → (commutator_lines k (slice_set rows q (slice_set (get_or rows q []) i e))
    ≡ commutator_lines k rows ++ relation_lines (commutator_text j m) (syllables_of j e))
    × RowsBlank k (1000 * j + m) (slice_set rows q (slice_set (get_or rows q []) i e))
commutator_lines-set k q i j m last [] e h g small one two low b = absurd (omega arith)
commutator_lines-set k zero i j m last (row ∷ rows) e h g small one two low b =
    let here : suc k ≡ j = omega arith in
    let blank : RowBlank (suc k) i row = RowBlank-later (suc k) (last - 1000 * suc k) i row (omega arith) b.0 in
    let none : commutator_lines (suc k) rows ≡ [] = rows-blank (suc k) last rows (omega arith) b.1 in
    let place : suc i ≡ 1000 * j + m - 1000 * suc k = omega arith in (
      ap₂ (λ (s t : List (List ℕ)). s ++ t) (row_lines-set (suc k) 0 i m row e g (omega arith) blank) none
          ∙ append-nil (commutator_row_lines (suc k) 0 row ++ relation_lines (commutator_text (suc k) m) (syllables_of (suc k) e))
          ∙ ap (λ (x : ℕ). commutator_row_lines (suc k) 0 row ++ relation_lines (commutator_text x m) (syllables_of x e)) here
          ∙ ap (λ (t : List (List ℕ)). t ++ relation_lines (commutator_text j m) (syllables_of j e))
          (sym (append-nil (commutator_row_lines (suc k) 0 row)))
          ∙ ap (λ (t : List (List ℕ)). (commutator_row_lines (suc k) 0 row ++ t) ++ relation_lines (commutator_text j m) (syllables_of j e))
          (sym none),
      (
        subst (λ (x : ℕ). RowBlank (suc k) x (slice_set row i e)) place (RowBlank-set (suc k) i row e blank),
        RowsBlank-later (suc k) last (1000 * j + m) rows (omega arith) b.1,
      ),
    )
commutator_lines-set k (suc q) i j m last (row ∷ rows) e h g small one two low b =
    let more = commutator_lines-set (suc k) q i j m last rows e (omega arith) g small (omega arith) two low b.1 in (
      ap (λ (t : List (List ℕ)). commutator_row_lines (suc k) 0 row ++ t) more.0
          ∙ sym (append_assoc (commutator_row_lines (suc k) 0 row) (commutator_lines (suc k) rows)
          (relation_lines (commutator_text j m) (syllables_of j e))),
      (RowBlank-later (suc k) (last - 1000 * suc k) (1000 * j + m - 1000 * suc k) row (omega arith) b.0, more.1),
    )
