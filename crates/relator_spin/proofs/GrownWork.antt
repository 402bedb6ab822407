-- What stays where new rows come after those there were: places, spans and the images that lie in them.
use Rattle.std.proofs.Common.{◌≡◌, ℕ, suc, ◌+◌, ◌<◌, ◌≤◌, ⊎_elim, List, [], ◌∷◌, ◌++◌, length, get_or, refl, ap, sym, ◌∙◌, subst, arith}
use Rattle.std.proofs.Common.{append_assoc}
use Rattle.std.proofs.lemmas.List.{append-nil, get_or_append_left}
use Rattle.fp_echelon.specs.Span.{AreRows, InSpan}
use Rattle.fp_echelon.specs.Reduced.{pivots_of}
use Rattle.fp_echelon.specs.Basis.{Echelon, IsBasis}
use Rattle.fp_echelon.specs.Matrix.{PrimeMatrix, times_matrix}
use Rattle.relator_spin.specs.declared.spun.Spun.{Spun}
use Rattle.relator_spin.specs.Closure.{matrix_at}
use Rattle.relator_spin.specs.Spinning.{Spinning, IsOffered, HasGrown, ImagesInSpan}
use Rattle.relator_spin.proofs.SpanParts.{InSpan-longer}

pub HasGrown-self : (w : Spinning) → HasGrown w w
HasGrown-self w = record {
  older = refl;
  prime = refl;
  width = refl;
  more = [];
  added = sym (append-nil w.basis.added);
  pivots = [];
  after = sym (append-nil (pivots_of w.basis.rows));
}

pub HasGrown-trans : (a b c : Spinning) → HasGrown a b → HasGrown b c → HasGrown a c
HasGrown-trans a b c g h = record {
  older = h.older ∙ g.older;
  prime = h.prime ∙ g.prime;
  width = h.width ∙ g.width;
  more = g.more ++ h.more;
  added = h.added ∙ ap (λ (l : List (List ℕ)). l ++ h.more) g.added ∙ append_assoc a.basis.added g.more h.more;
  pivots = g.pivots ++ h.pivots;
  after = h.after ∙ ap (λ (l : List ℕ). l ++ h.pivots) g.after ∙ append_assoc (pivots_of a.basis.rows) g.pivots h.pivots;
}

pub HasGrown-offered : (x : List ℕ) (s : Spun) (old new : Spinning) → IsOffered x s old new → HasGrown old new
HasGrown-offered x s old new offered =
    ⊎_elim
    (λ taken. record {
      older = offered.older;
      prime = offered.prime;
      width = offered.width;
      more = x ∷ [];
      added = taken.added;
      pivots = taken.pivot ∷ [];
      after = taken.pivots;
    })
    (λ left. record {
      older = offered.older;
      prime = offered.prime;
      width = offered.width;
      more = [];
      added = ap (λ (b : Echelon). b.added) left.basis ∙ sym (append-nil old.basis.added);
      pivots = [];
      after = ap (λ (b : Echelon). pivots_of b.rows) left.basis ∙ sym (append-nil (pivots_of old.basis.rows));
    })
    offered.step

module _ (old new : Spinning) (basis : IsBasis new.basis) (grown : HasGrown old new) where
  pub AreRows-grown : AreRows old.basis.prime old.basis.width (old.basis.added ++ grown.more)
  AreRows-grown =
      subst (λ (l : List (List ℕ)). AreRows old.basis.prime old.basis.width l) grown.added
      (subst (λ (n : ℕ). AreRows old.basis.prime n new.basis.added) grown.width
      (subst (λ (n : ℕ). AreRows n new.basis.width new.basis.added) grown.prime basis.added))

  pub two-grown : 2 ≤ old.basis.prime
  two-grown = subst (λ (n : ℕ). 2 ≤ n) grown.prime basis.prime

  pub InSpan-grown : (x : List ℕ) → InSpan old.basis.prime old.basis.width old.basis.added x
      → InSpan old.basis.prime old.basis.width new.basis.added x
  InSpan-grown x s =
      let two = two-grown in
      subst (λ (l : List (List ℕ)). InSpan old.basis.prime old.basis.width l x) (sym grown.added)
      (InSpan-longer old.basis.prime old.basis.width (omega arith) old.basis.added grown.more AreRows-grown x s)

  pub get_or-grown : (i : ℕ) → i < length old.basis.added → get_or new.basis.added i [] ≡ get_or old.basis.added i []
  get_or-grown i h = ap (λ (l : List (List ℕ)). get_or l i []) grown.added ∙ get_or_append_left old.basis.added grown.more [] i h

  -- an image of a new row, where it is in the span of the rows after more were added
  pub image-grown : (m : List (List ℕ)) (i : ℕ) → old.older + i < length old.basis.added
      → InSpan old.basis.prime old.basis.width new.basis.added
      (times_matrix old.basis.prime old.basis.width m (get_or old.basis.added (old.older + i) []))
      → InSpan new.basis.prime new.basis.width new.basis.added
      (times_matrix new.basis.prime new.basis.width m (get_or new.basis.added (new.older + i) []))
  image-grown m i h s =
      let place : get_or old.basis.added (old.older + i) [] ≡ get_or new.basis.added (new.older + i) [] =
      sym (get_or-grown (old.older + i) h) ∙ ap (λ (n : ℕ). get_or new.basis.added (n + i) []) (sym grown.older) in
      subst (λ (q : ℕ). InSpan q new.basis.width new.basis.added
      (times_matrix q new.basis.width m (get_or new.basis.added (new.older + i) []))) (sym grown.prime)
      (subst
      (λ (v : ℕ). InSpan old.basis.prime v new.basis.added (times_matrix old.basis.prime v m (get_or new.basis.added (new.older + i) [])))
      (sym grown.width)
      (subst (λ (x : List ℕ). InSpan old.basis.prime old.basis.width new.basis.added (times_matrix old.basis.prime old.basis.width m x))
      place s))

  pub image-kept : (m : List (List ℕ)) (i : ℕ) → old.older + i < length old.basis.added
      → InSpan old.basis.prime old.basis.width old.basis.added
      (times_matrix old.basis.prime old.basis.width m (get_or old.basis.added (old.older + i) []))
      → InSpan new.basis.prime new.basis.width new.basis.added
      (times_matrix new.basis.prime new.basis.width m (get_or new.basis.added (new.older + i) []))
  image-kept m i h s =
      image-grown m i h
      (InSpan-grown (times_matrix old.basis.prime old.basis.width m (get_or old.basis.added (old.older + i) [])) s)

  pub ImagesInSpan-grown : (ms : List PrimeMatrix) (i : ℕ) → old.older + i < length old.basis.added → ImagesInSpan ms old i
      → ImagesInSpan ms new i
  ImagesInSpan-grown ms i h images e l = image-kept (matrix_at ms (suc e)) i h (images e l)
