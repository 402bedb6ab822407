-- What an insertion makes of the work: a row is added under a name, or was in the span.
use Rattle.std.proofs.Common.{◌≡◌, ℕ, ◌+◌, ◌<◌, inl, inr, List, [], ◌∷◌, ◌++◌, length, get_or, refl, ap, sym, ◌∙◌, arith}
use Rattle.std.proofs.lemmas.List.{get_or_default, length_push}
use Rattle.fp_rows.specs.Row.{PrimeRow}
use Rattle.fp_echelon.specs.Span.{InSpan}
use Rattle.fp_echelon.specs.Reduced.{pivots_of}
use Rattle.fp_echelon.specs.Basis.{Echelon, IsBasis}
use Rattle.relator_spin.specs.declared.spun.Spun.{Spun}
use Rattle.relator_spin.specs.Spinning.{IsReady, no_spun, IsOffered}

-- the parts of the work, before and after an insertion
module _ (older : ℕ) (b d : Echelon) (names : List Spun) (image after : PrimeRow) (x : List ℕ) (s : Spun)
    (ready : IsReady (record { older = older; basis = b; spun = names; image = image }))
    (basis : IsBasis d) (prime : d.prime ≡ b.prime) (width : d.width ≡ b.width)
    (room : length d.added + d.spare ≡ length b.added + b.spare) (in_span : InSpan b.prime b.width d.added x)
    (same_prime : after.prime ≡ image.prime) (same_width : length after.entries ≡ length image.entries) where
  pub offered-taken : (c : ℕ) (more : List Spun) → d.added ≡ b.added ++ x ∷ [] → pivots_of d.rows ≡ pivots_of b.rows ++ c ∷ []
      → more ≡ names ++ s ∷ []
      → IsOffered x s (record { older = older; basis = b; spun = names; image = image })
      (record { older = older; basis = d; spun = more; image = after })
  offered-taken c more added pivots named =
      let count = ready.count in
      let before = ready.room in
      let long : length d.added ≡ length b.added + 1 = ap (λ (l : List (List ℕ)). length l) added ∙ length_push b.added x in
      let long' : length more ≡ length names + 1 = ap (λ (l : List Spun). length l) named ∙ length_push names s in
      record {
        ready = record {
          basis = basis;
          room = omega arith;
          count = omega arith;
          prime = same_prime ∙ ready.prime ∙ sym prime;
          width = same_width ∙ ready.width ∙ sym width;
        };
        older = refl;
        prime = prime;
        width = width;
        in_span = in_span;
        step = inl (record { added = added; spun = named; pivot = c; pivots = pivots });
      }

  pub offered-left_out : d ≡ b
      → IsOffered x s (record { older = older; basis = b; spun = names; image = image })
      (record { older = older; basis = d; spun = names; image = after })
  offered-left_out same =
      let before = ready.room in
      let count : older + length names ≡ length d.added = ready.count ∙ ap (λ (e : Echelon). length e.added) (sym same) in
      record {
        ready = record {
          basis = basis;
          room = omega arith;
          count = count;
          prime = same_prime ∙ ready.prime ∙ sym prime;
          width = same_width ∙ ready.width ∙ sym width;
        };
        older = refl;
        prime = prime;
        width = width;
        in_span = in_span;
        step = inr (record { basis = same; spun = refl });
      }

abbrev pub name : ℕ → List ℕ → Spun
name r s = record { row = r; along = s }

-- the name of an image, as it is pushed
pub pushed_name : (names : List Spun) (i n : ℕ) (parent : Spun) (along : List ℕ) → i < length names → parent ≡ get_or names i parent
    → along ≡ n ∷ parent.along
    → name parent.row along ≡ name (get_or names i no_spun).row (n ∷ (get_or names i no_spun).along)
pushed_name names i n parent along h e e' =
    ap (name parent.row) e'
    ∙ ap (λ (t : Spun). name t.row (n ∷ t.along)) (e ∙ get_or_default names i parent no_spun h)
