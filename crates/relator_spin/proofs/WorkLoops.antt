-- The three loops of a closure: over the given rows, over the matrices for one new row, and over the new rows.
use Rattle.std.proofs.Common.{◌≡◌, ℕ, zero, suc, ◌+◌, ◌<◌, ◌≤◌, ⊎_elim, List, [], ◌∷◌, length, get_or, ap, ap₂, sym, ◌∙◌, subst, arith}
use Rattle.std.proofs.Common.{length-append}
use Rattle.std.proofs.lemmas.Bool.{cases_lt}
use Rattle.std.proofs.lemmas.List.{get_or-map, length-map}
use Rattle.fp_rows.specs.Row.{PrimeRow}
use Rattle.fp_echelon.specs.Span.{InSpan, EachInSpan}
use Rattle.fp_echelon.specs.Matrix.{PrimeMatrix, times_matrix, entries_of}
use Rattle.relator_spin.specs.declared.spun.Spun.{Spun}
use Rattle.relator_spin.specs.Closure.{AreOver, AreMatricesOver, matrix_at}
use Rattle.relator_spin.specs.Spinning.{Spinning, IsReady, IsNamed, no_spun, IsOffered, HasGrown, ImagesInSpan}
use Rattle.relator_spin.proofs.SpanParts.{EachInSpan-by_place}
use Rattle.relator_spin.proofs.GrownWork.{HasGrown-self, HasGrown-trans, HasGrown-offered, InSpan-grown, image-grown, image-kept}
use Rattle.relator_spin.proofs.GrownWork.{ImagesInSpan-grown}
use Rattle.relator_spin.proofs.NamedWork.{IsNamed-offered, name_of_image, name_of_row}

pub record IsOver (p width : ℕ) (r : PrimeRow) : Type 0 where
  pub prime : r.prime ≡ p
  pub wide : length r.entries ≡ width

pub AreOver-at : (p width : ℕ) (rows : List PrimeRow) (i : ℕ) (d : PrimeRow) → i < length rows → AreOver p width rows
    → IsOver p width (get_or rows i d)
AreOver-at p width [] i d h are = absurd (omega arith)
AreOver-at p width (r ∷ rows) zero d h are = record { prime = are.0; wide = are.1 }
AreOver-at p width (r ∷ rows) (suc i) d h are = AreOver-at p width rows i d (omega arith) are.2

pub record IsMatrixOver (p width : ℕ) (m : PrimeMatrix) : Type 0 where
  pub prime : m.prime ≡ p
  pub wide : m.width ≡ width

pub AreMatricesOver-at : (p width : ℕ) (ms : List PrimeMatrix) (i : ℕ) (d : PrimeMatrix) → i < length ms → AreMatricesOver p width ms
    → IsMatrixOver p width (get_or ms i d)
AreMatricesOver-at p width [] i d h are = absurd (omega arith)
AreMatricesOver-at p width (m ∷ ms) zero d h are = record { prime = are.0; wide = are.1 }
AreMatricesOver-at p width (m ∷ ms) (suc i) d h are = AreMatricesOver-at p width ms i d (omega arith) are.2

-- the first n given rows are taken
pub record RowsTaken (rows : List PrimeRow) (old w : Spinning) (n : ℕ) : Type 0 where
  pub ready : IsReady w
  pub grown : HasGrown old w
  pub named : (ms : List PrimeMatrix) → IsNamed rows ms old → IsNamed rows ms w
  pub in_span : (i : ℕ) → i < n → InSpan old.basis.prime old.basis.width w.basis.added (get_or (entries_of rows) i [])

pub RowsTaken-none : (rows : List PrimeRow) (w : Spinning) → IsReady w → RowsTaken rows w w 0
RowsTaken-none rows w ready = record {
  ready = ready;
  grown = HasGrown-self w;
  named = λ ms named. named;
  in_span = λ i h. absurd (omega arith);
}

-- a span at the prime and width of the start
at_start : (old w : Spinning) (rows : List (List ℕ)) (x : List ℕ) → HasGrown old w → InSpan w.basis.prime w.basis.width rows x
    → InSpan old.basis.prime old.basis.width rows x
at_start old w rows x grown s =
    subst (λ (q : ℕ). InSpan q old.basis.width rows x) grown.prime (subst (λ (v : ℕ). InSpan w.basis.prime v rows x) grown.width s)

from_start : (old w : Spinning) (rows : List (List ℕ)) (x : List ℕ) → HasGrown old w → InSpan old.basis.prime old.basis.width rows x
    → InSpan w.basis.prime w.basis.width rows x
from_start old w rows x grown s =
    subst (λ (q : ℕ). InSpan q w.basis.width rows x) (sym grown.prime)
    (subst (λ (v : ℕ). InSpan old.basis.prime v rows x) (sym grown.width) s)

-- a row in the span stays there
pub kept_in_span : (old w new : Spinning) (x : List ℕ) → HasGrown old w → IsReady new → HasGrown w new
    → InSpan old.basis.prime old.basis.width w.basis.added x → InSpan old.basis.prime old.basis.width new.basis.added x
kept_in_span old w new x grown ready step s =
    at_start old w new.basis.added x grown (InSpan-grown w new ready.basis step x (from_start old w w.basis.added x grown s))

pub RowsTaken-more : (rows : List PrimeRow) (old w new : Spinning) (n : ℕ) (r : PrimeRow) (s : Spun) → n < length rows → r ≡ get_or rows n r
    → s ≡ record { row = n + 1; along = [] } → RowsTaken rows old w n → IsOffered r.entries s w new → RowsTaken rows old new (n + 1)
RowsTaken-more rows old w new n r s h e name so offered =
    let step = HasGrown-offered r.entries s w new offered in
    record {
      ready = offered.ready;
      grown = HasGrown-trans old w new so.grown step;
      named = λ ms named.
          let is = name_of_row rows ms w.basis.prime w.basis.width n r s h e name in
          IsNamed-offered rows ms r.entries s w new so.ready offered is.0 is.1 (so.named ms named);
      in_span = λ i l.
          ⊎_elim (λ before. kept_in_span old w new (get_or (entries_of rows) i []) so.grown offered.ready step (so.in_span i before))
          (λ here.
          let same : i ≡ n = omega arith in
          let entries : get_or (entries_of rows) i [] ≡ r.entries =
          ap (λ (k : ℕ). get_or (entries_of rows) k []) same
          ∙ get_or-map (λ (q : PrimeRow). q.entries) rows n r [] h
          ∙ sym (ap (λ (q : PrimeRow). q.entries) e) in
          subst (λ (x : List ℕ). InSpan old.basis.prime old.basis.width new.basis.added x) (sym entries)
          (at_start old w new.basis.added r.entries so.grown offered.in_span)) (cases_lt i n);
    }

pub RowsTaken-all : (rows : List PrimeRow) (old w : Spinning) (n : ℕ) → length rows ≤ n → RowsTaken rows old w n
    → EachInSpan old.basis.prime old.basis.width w.basis.added (entries_of rows)
RowsTaken-all rows old w n h so =
    EachInSpan-by_place old.basis.prime old.basis.width w.basis.added (entries_of rows)
    (λ i l. so.in_span i (omega (arith, length-map rows (λ (r : PrimeRow). r.entries))))

-- the first n images of the new row at a place are taken
pub record ImagesTaken (ms : List PrimeMatrix) (old w : Spinning) (place n : ℕ) : Type 0 where
  pub ready : IsReady w
  pub grown : HasGrown old w
  pub named : (rows : List PrimeRow) → IsNamed rows ms old → IsNamed rows ms w
  pub more : length old.spun ≤ length w.spun
  pub images : (e : ℕ) → e < n
      → InSpan w.basis.prime w.basis.width w.basis.added
      (times_matrix w.basis.prime w.basis.width (matrix_at ms (suc e)) (get_or w.basis.added (w.older + place) []))

pub ImagesTaken-none : (ms : List PrimeMatrix) (w : Spinning) (place : ℕ) → IsReady w → ImagesTaken ms w w place 0
ImagesTaken-none ms w place ready = record {
  ready = ready;
  grown = HasGrown-self w;
  named = λ rows named. named;
  more = omega arith;
  images = λ e h. absurd (omega arith);
}

-- the list of names gets no shorter
longer : (old new : Spinning) → IsReady old → IsReady new → HasGrown old new → length old.spun ≤ length new.spun
longer old new ready ready' grown =
    let count = ready.count in
    let count' = ready'.count in
    let older = grown.older in
    let long : length new.basis.added ≡ length old.basis.added + length grown.more =
    ap (λ (l : List (List ℕ)). length l) grown.added ∙ length-append old.basis.added grown.more in
    omega arith

pub ImagesTaken-more : (ms : List PrimeMatrix) (old w new : Spinning) (place n : ℕ) (m : PrimeMatrix) (s : Spun) → place < length old.spun
    → n < length ms → m ≡ get_or ms n m → AreMatricesOver old.basis.prime old.basis.width ms
    → s ≡ record { row = (get_or w.spun place no_spun).row; along = suc n ∷ (get_or w.spun place no_spun).along }
    → ImagesTaken ms old w place n
    → IsOffered (times_matrix m.prime m.width m.rows (get_or w.basis.added (w.older + place) [])) s w new
    → ImagesTaken ms old new place (n + 1)
ImagesTaken-more ms old w new place n m s within h e are name so offered =
    let x : List ℕ = times_matrix m.prime m.width m.rows (get_or w.basis.added (w.older + place) []) in
    let step = HasGrown-offered x s w new offered in
    let over = AreMatricesOver-at old.basis.prime old.basis.width ms n m h are in
    let prime : m.prime ≡ w.basis.prime = ap (λ (a : PrimeMatrix). a.prime) e ∙ over.prime ∙ sym so.grown.prime in
    let wide : m.width ≡ w.basis.width = ap (λ (a : PrimeMatrix). a.width) e ∙ over.wide ∙ sym so.grown.width in
    let count = so.ready.count in
    let more = so.more in
    let matrix : m.rows ≡ matrix_at ms (suc n) =
    ap (λ (a : PrimeMatrix). a.rows) e ∙ sym (get_or-map (λ (a : PrimeMatrix). a.rows) ms n m [] h) in
    record {
      ready = offered.ready;
      grown = HasGrown-trans old w new so.grown step;
      named = λ rows named.
          let now = so.named rows named in
          let is = name_of_image rows ms w place n m s so.ready now (omega arith) h e prime wide name in
          IsNamed-offered rows ms x s w new so.ready offered is.0 is.1 now;
      more = let further = longer w new so.ready offered.ready step in omega arith;
      images = λ i l.
          ⊎_elim (λ before. image-kept w new offered.ready.basis step (matrix_at ms (suc i)) place (omega arith) (so.images i before))
          (λ here.
          let same : n ≡ i = omega arith in
          image-grown w new offered.ready.basis step (matrix_at ms (suc i)) place (omega arith)
          (subst (λ (y : List ℕ). InSpan w.basis.prime w.basis.width new.basis.added y)
          (ap₂ (λ (q v : ℕ). times_matrix q v m.rows (get_or w.basis.added (w.older + place) [])) prime wide
          ∙ ap (λ (a : List (List ℕ)). times_matrix w.basis.prime w.basis.width a (get_or w.basis.added (w.older + place) []))
          (matrix ∙ ap (λ (k : ℕ). matrix_at ms (suc k)) same))
          offered.in_span)) (cases_lt i n);
    }

-- all images of the first n new rows are taken
pub record AllImagesTaken (ms : List PrimeMatrix) (old w : Spinning) (n : ℕ) : Type 0 where
  pub ready : IsReady w
  pub grown : HasGrown old w
  pub named : (rows : List PrimeRow) → IsNamed rows ms old → IsNamed rows ms w
  pub within : n ≤ length w.spun
  pub images : (i : ℕ) → i < n → ImagesInSpan ms w i

pub AllImagesTaken-none : (ms : List PrimeMatrix) (w : Spinning) → IsReady w → AllImagesTaken ms w w 0
AllImagesTaken-none ms w ready = record {
  ready = ready;
  grown = HasGrown-self w;
  named = λ rows named. named;
  within = omega arith;
  images = λ i h. absurd (omega arith);
}

pub AllImagesTaken-more : (ms : List PrimeMatrix) (old w new : Spinning) (n : ℕ) → n < length w.spun → AllImagesTaken ms old w n
    → IsReady new → HasGrown w new → ((rows : List PrimeRow) → IsNamed rows ms w → IsNamed rows ms new) → ImagesInSpan ms new n
    → AllImagesTaken ms old new (n + 1)
AllImagesTaken-more ms old w new n h so ready step named images =
    let count = so.ready.count in
    record {
      ready = ready;
      grown = HasGrown-trans old w new so.grown step;
      named = λ rows was. named rows (so.named rows was);
      within = let further = longer w new so.ready ready step in omega arith;
      images = λ i l.
          ⊎_elim (λ before. ImagesInSpan-grown w new ready.basis step ms i (omega arith) (so.images i before))
          (λ here.
          let same : n ≡ i = omega arith in
          subst (λ (k : ℕ). ImagesInSpan ms new k) same images) (cases_lt i n);
    }

pub AllImagesTaken-all : (ms : List PrimeMatrix) (old w : Spinning) (n : ℕ) → length w.spun ≤ n → AllImagesTaken ms old w n
    → (i : ℕ) → i < length w.spun → ImagesInSpan ms w i
AllImagesTaken-all ms old w n h so i l = so.images i (omega arith)

-- what the matrices need of the work stays
pub AreMatricesOver-grown : (ms : List PrimeMatrix) (old w : Spinning) → HasGrown old w → AreMatricesOver old.basis.prime old.basis.width ms
    → AreMatricesOver w.basis.prime w.basis.width ms
AreMatricesOver-grown ms old w grown are =
    subst (λ (q : ℕ). AreMatricesOver q w.basis.width ms) (sym grown.prime)
    (subst (λ (v : ℕ). AreMatricesOver old.basis.prime v ms) (sym grown.width) are)
