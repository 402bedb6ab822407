-- A row that is offered under a name which says that row keeps each new row the one that its name says.
use Rattle.std.proofs.Common.{◌≡◌, ℕ, zero, suc, ◌+◌, ◌-◌, ◌<◌, ◌≤◌, ⊎_elim, List, [], ◌∷◌, ◌++◌, length, get_or, drop, refl, ap, ap₂, sym}
use Rattle.std.proofs.Common.{◌∙◌, subst, arith}
use Rattle.std.proofs.lemmas.List.{get_or-drop, get_or-map, drop-append-le}
use Rattle.pq_base.specs.LPresentation.{AreEndoNumbers}
use Rattle.fp_rows.specs.Row.{PrimeRow}
use Rattle.fp_echelon.specs.Basis.{Echelon}
use Rattle.fp_echelon.specs.Matrix.{PrimeMatrix, times_matrix, entries_of}
use Rattle.relator_spin.specs.declared.spun.Spun.{Spun}
use Rattle.relator_spin.specs.Closure.{matrix_at, spun_row, spun_rows, AreNames}
use Rattle.relator_spin.specs.Spinning.{Spinning, IsReady, IsNamed, no_spun, IsOffered}

-- a name of one of n rows, times some of m matrices
pub record IsName (n m : ℕ) (s : Spun) : Type 0 where
  pub first : 1 ≤ s.row
  pub last : s.row ≤ n
  pub along : AreEndoNumbers m s.along

AreNames-push : (n m : ℕ) (names : List Spun) (s : Spun) → AreNames n m names → IsName n m s → AreNames n m (names ++ s ∷ [])
AreNames-push n m [] s are is = (is.first, is.last, is.along, tt)
AreNames-push n m (t ∷ names) s are is = (are.0, are.1, are.2, AreNames-push n m names s are.3 is)

AreNames-at : (n m : ℕ) (names : List Spun) (i : ℕ) (d : Spun) → i < length names → AreNames n m names → IsName n m (get_or names i d)
AreNames-at n m [] i d h are = absurd (omega arith)
AreNames-at n m (s ∷ names) zero d h are = record { first = are.0; last = are.1; along = are.2 }
AreNames-at n m (s ∷ names) (suc i) d h are = AreNames-at n m names i d (omega arith) are.3

module _ (p width : ℕ) (rows : List PrimeRow) (ms : List PrimeMatrix) where
  spun_rows-push : (names : List Spun) (s : Spun)
      → spun_rows p width rows ms (names ++ s ∷ []) ≡ spun_rows p width rows ms names ++ spun_row p width rows ms s ∷ []
  spun_rows-push [] s = refl
  spun_rows-push (t ∷ names) s = ap (λ (l : List (List ℕ)). spun_row p width rows ms t ∷ l) (spun_rows-push names s)

  spun_rows-at : (names : List Spun) (i : ℕ) (d : Spun) → i < length names
      → get_or (spun_rows p width rows ms names) i [] ≡ spun_row p width rows ms (get_or names i d)
  spun_rows-at [] i d h = absurd (omega arith)
  spun_rows-at (s ∷ names) zero d h = refl
  spun_rows-at (s ∷ names) (suc i) d h = spun_rows-at names i d (omega arith)

  pub length-spun_rows : (names : List Spun) → length (spun_rows p width rows ms names) ≡ length names
  length-spun_rows [] = refl
  length-spun_rows (s ∷ names) = ap (λ (n : ℕ). suc n) (length-spun_rows names)

module _ (rows : List PrimeRow) (ms : List PrimeMatrix) where
  -- the names stay where the basis and the list do
  renamed : (old new : Spinning) → new.older ≡ old.older → new.basis ≡ old.basis → new.spun ≡ old.spun → IsNamed rows ms old
      → IsNamed rows ms new
  renamed old new e b n named = record {
    new_rows =
        ap₂ (λ (k : ℕ) (c : Echelon). drop k c.added) e b
        ∙ named.new_rows
        ∙ sym (ap₂ (λ (c : Echelon) (l : List Spun). spun_rows c.prime c.width rows ms l) b n);
    names = subst (λ (l : List Spun). AreNames (length rows) (length ms) l) (sym n) named.names;
  }

  pub IsNamed-offered : (x : List ℕ) (s : Spun) (old new : Spinning) → IsReady old → IsOffered x s old new
      → IsName (length rows) (length ms) s → x ≡ spun_row old.basis.prime old.basis.width rows ms s
      → IsNamed rows ms old → IsNamed rows ms new
  IsNamed-offered x s old new ready offered is e named =
      let p : ℕ = old.basis.prime in
      let width : ℕ = old.basis.width in
      let count = ready.count in
      ⊎_elim
      (λ taken. record {
        new_rows =
            ap₂ (λ (k : ℕ) (l : List (List ℕ)). drop k l) offered.older taken.added
            ∙ drop-append-le old.older old.basis.added (x ∷ []) (omega arith)
            ∙ ap₂ (λ (l : List (List ℕ)) (y : List ℕ). l ++ y ∷ []) named.new_rows e
            ∙ sym (spun_rows-push p width rows ms old.spun s)
            ∙ ap (λ (l : List Spun). spun_rows p width rows ms l) (sym taken.spun)
            ∙ ap₂ (λ (q v : ℕ). spun_rows q v rows ms new.spun) (sym offered.prime) (sym offered.width);
        names =
            subst (λ (l : List Spun). AreNames (length rows) (length ms) l) (sym taken.spun)
            (AreNames-push (length rows) (length ms) old.spun s named.names is);
      })
      (λ left. renamed old new offered.older left.basis left.spun named) offered.step

  -- the name of an image: one matrix more
  pub name_of_image : (w : Spinning) (i n : ℕ) (m : PrimeMatrix) (s : Spun) → IsReady w → IsNamed rows ms w → i < length w.spun
      → n < length ms
      → m ≡ get_or ms n m → m.prime ≡ w.basis.prime → m.width ≡ w.basis.width
      → s ≡ record { row = (get_or w.spun i no_spun).row; along = suc n ∷ (get_or w.spun i no_spun).along }
      → IsName (length rows) (length ms) s
      × (times_matrix m.prime m.width m.rows (get_or w.basis.added (w.older + i) []) ≡ spun_row w.basis.prime w.basis.width rows ms s)
  name_of_image w i n m s ready named h l e prime wide name =
      let p : ℕ = w.basis.prime in
      let width : ℕ = w.basis.width in
      let parent : Spun = get_or w.spun i no_spun in
      let is = AreNames-at (length rows) (length ms) w.spun i no_spun h named.names in
      let row : get_or w.basis.added (w.older + i) [] ≡ spun_row p width rows ms parent =
      sym (get_or-drop w.older w.basis.added i [])
      ∙ ap (λ (x : List (List ℕ)). get_or x i []) named.new_rows
      ∙ spun_rows-at p width rows ms w.spun i no_spun h in
      let matrix : m.rows ≡ matrix_at ms (suc n) =
      ap (λ (a : PrimeMatrix). a.rows) e ∙ sym (get_or-map (λ (a : PrimeMatrix). a.rows) ms n m [] l) in (
        subst (λ (t : Spun). IsName (length rows) (length ms) t) (sym name)
            (record { first = is.first; last = is.last; along = (l, is.along) }),
        ap₂ (λ (q v : ℕ). times_matrix q v m.rows (get_or w.basis.added (w.older + i) [])) prime wide
            ∙ ap₂ (times_matrix p width) matrix row
            ∙ ap (λ (t : Spun). spun_row p width rows ms t) (sym name),
      )

  -- the name of a given row
  pub name_of_row : (p width n : ℕ) (r : PrimeRow) (s : Spun) → n < length rows → r ≡ get_or rows n r
      → s ≡ record { row = n + 1; along = [] }
      → IsName (length rows) (length ms) s × (r.entries ≡ spun_row p width rows ms s)
  name_of_row p width n r s h e name =
      let place : n + 1 - 1 ≡ n = omega arith in (
        subst (λ (t : Spun). IsName (length rows) (length ms) t) (sym name)
            (record { first = omega arith; last = omega arith; along = tt }),
        ap (λ (q : PrimeRow). q.entries) e
            ∙ sym (get_or-map (λ (q : PrimeRow). q.entries) rows n r [] h)
            ∙ ap (λ (k : ℕ). get_or (entries_of rows) k []) (sym place)
            ∙ ap (λ (t : Spun). spun_row p width rows ms t) (sym name),
      )
