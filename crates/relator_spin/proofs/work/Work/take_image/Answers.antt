use Rattle.std.proofs.Common.{◌≡◌, ◌+◌, ◌-◌, ◌<◌, ◌∷◌, ◌++◌, [], ℕ, List, length, get_or, ap, sym, ◌∙◌, subst, arith}
use Rattle.fp_rows.specs.Row.{PrimeRow}
use Rattle.fp_echelon.specs.Matrix.{PrimeMatrix, IsMatrix, times_matrix}
use Rattle.fp_echelon.proofs.SpanLaws.{IsRow-combine, AreRows-entry}
use Rattle.relator_spin.specs.declared.spun.Spun.{Spun}
use Rattle.relator_spin.specs.Spinning.{Spinning, IsReady, no_spun, IsOffered}
use Rattle.relator_spin.proofs.OfferedRows.{name, offered-taken, offered-left_out, pushed_name}
use Rattle.relator_spin.proofs.work.Work.take_image.Goals as goal

pub apply-requires-clause-width : goal.apply-requires-clause-width
apply-requires-clause-width c =
    let ready : IsReady (record {
      older = c.self.inside.older;
      basis = c.self.inside.basis;
      spun = c.self.inside.spun.items;
      image = c.self.inside.image;
    }) =
    subst IsReady (sym c.self.view_is) c.requires.ready in
    let count = ready.count in
    let place : c.args.place < length c.self.inside.spun.items =
    subst (λ (w : Spinning). c.args.place < length w.spun) (sym c.self.view_is) c.requires.place in
    let here =
    AreRows-entry c.self.inside.basis.prime c.self.inside.basis.width c.self.inside.basis.added (c.self.inside.older + c.args.place + 1 - 1)
    []
    (omega arith) c.rank-rank.ensures.basis.added in
    ap (λ (r : PrimeRow). length r.entries) c.added.ensures ∙ here.count
    ∙ ap (λ (w : Spinning). w.basis.width) c.self.view_is ∙ sym c.requires.width

pub insert_within-requires-clause-width : goal.insert_within-requires-clause-width
insert_within-requires-clause-width c =
    let is = c.apply.ensures.matrix in
    let two = is.prime in
    ap (λ (r : PrimeRow). length r.entries) c.apply.ensures.out
    ∙ (IsRow-combine c.args.matrix.now.prime c.args.matrix.now.width c.added.result.now.entries c.args.matrix.now.rows
    (omega arith) is.rows).count
    ∙ c.requires.width ∙ sym (ap (λ (w : Spinning). w.basis.width) c.self.view_is)

-- the row that is inserted
abbrev image : Spinning → PrimeMatrix → ℕ → List ℕ
image w m place = times_matrix m.prime m.width m.rows (get_or w.basis.added (w.older + place) [])

abbrev image_name : Spinning → ℕ → ℕ → Spun
image_name w place number = name (get_or w.spun place no_spun).row (number ∷ (get_or w.spun place no_spun).along)

image_is : (w : Spinning) (m : PrimeMatrix) (place : ℕ) (r out : PrimeRow)
    → r ≡ record { prime = w.basis.prime; entries = get_or w.basis.added (w.older + place + 1 - 1) [] }
    → out ≡ record { prime = w.image.prime; entries = times_matrix m.prime m.width m.rows r.entries } → out.entries ≡ image w m place
image_is w m place r out e e' =
    let index : w.older + place + 1 - 1 ≡ w.older + place = omega arith in
    ap (λ (s : PrimeRow). s.entries) e'
    ∙ ap (λ (s : PrimeRow). times_matrix m.prime m.width m.rows s.entries) e
    ∙ ap (λ (k : ℕ). times_matrix m.prime m.width m.rows (get_or w.basis.added k [])) index

-- the row for images keeps its width
same_width : (w : Spinning) (m : PrimeMatrix) (x : List ℕ) (out : PrimeRow) → IsMatrix m → m.width ≡ w.basis.width → IsReady w
    → out ≡ record { prime = w.image.prime; entries = times_matrix m.prime m.width m.rows x } → length out.entries ≡ length w.image.entries
same_width w m x out is wide ready e =
    let two = is.prime in
    ap (λ (r : PrimeRow). length r.entries) e
    ∙ (IsRow-combine m.prime m.width x m.rows (omega arith) is.rows).count ∙ wide ∙ sym ready.width

pub returns-in_ok-push : goal.returns-in_ok-push
returns-in_ok-push c =
    let old : Spinning =
    record { older = c.self.inside.older; basis = c.self.inside.basis; spun = c.self.inside.spun.items; image = c.self.inside.image } in
    let new : Spinning =
    record { older = c.self.inside.older; basis = c.insert_within.new.basis; spun = c.push.new.self.items; image = c.apply.new.out } in
    let m : PrimeMatrix = c.args.matrix.now in
    let i : ℕ = c.args.place in
    let ready : IsReady old = subst IsReady (sym c.self.view_is) c.requires.ready in
    let place : i < length old.spun = subst (λ (w : Spinning). i < length w.spun) (sym c.self.view_is) c.requires.place in
    let wide : m.width ≡ old.basis.width = c.requires.width ∙ sym (ap (λ (w : Spinning). w.basis.width) c.self.view_is) in
    let named : c.push.new.self.items ≡ old.spun ++ image_name old i c.args.number ∷ [] =
    c.in_ok-push.ensures.items
    ∙ ap (λ (t : Spun). old.spun ++ t ∷ [])
    (pushed_name old.spun i c.args.number c.index-parent.result.now c.in_ok-along.along place c.index-parent.ensures
    c.in_ok-along.ensures) in
    let after = c.insert_within.ensures in
    let pivot = after.pivot c.if-insert_within.true in
    let row : c.apply.new.out.entries ≡ image old m i =
    image_is old m i c.added.result.now c.apply.new.out c.added.ensures c.apply.ensures.out in
    let same : length c.apply.new.out.entries ≡ length old.image.entries =
    same_width old m c.added.result.now.entries c.apply.new.out c.apply.ensures.matrix wide ready c.apply.ensures.out in
    subst (λ (w : Spinning). IsOffered (image w m i) (image_name w i c.args.number) w new) c.self.view_is
    (subst (λ (x : List ℕ). IsOffered x (image_name old i c.args.number) old new) row
    (offered-taken old.older old.basis c.insert_within.new.basis old.spun old.image c.apply.new.out c.apply.new.out.entries
    (image_name old i c.args.number)
    ready after.basis after.prime after.width after.room after.in_span (ap (λ (r : PrimeRow). r.prime) c.apply.ensures.out) same
    pivot.0 c.push.new.self.items (after.added c.if-insert_within.true) pivot.1 named))

pub returns-else-insert_within : goal.returns-else-insert_within
returns-else-insert_within c =
    let old : Spinning =
    record { older = c.self.inside.older; basis = c.self.inside.basis; spun = c.self.inside.spun.items; image = c.self.inside.image } in
    let new : Spinning =
    record { older = c.self.inside.older; basis = c.insert_within.new.basis; spun = c.self.inside.spun.items; image = c.apply.new.out } in
    let m : PrimeMatrix = c.args.matrix.now in
    let i : ℕ = c.args.place in
    let ready : IsReady old = subst IsReady (sym c.self.view_is) c.requires.ready in
    let wide : m.width ≡ old.basis.width = c.requires.width ∙ sym (ap (λ (w : Spinning). w.basis.width) c.self.view_is) in
    let after = c.insert_within.ensures in
    let row : c.apply.new.out.entries ≡ image old m i =
    image_is old m i c.added.result.now c.apply.new.out c.added.ensures c.apply.ensures.out in
    let same : length c.apply.new.out.entries ≡ length old.image.entries =
    same_width old m c.added.result.now.entries c.apply.new.out c.apply.ensures.matrix wide ready c.apply.ensures.out in
    subst (λ (w : Spinning). IsOffered (image w m i) (image_name w i c.args.number) w new) c.self.view_is
    (subst (λ (x : List ℕ). IsOffered x (image_name old i c.args.number) old new) row
    (offered-left_out old.older old.basis c.insert_within.new.basis old.spun old.image c.apply.new.out c.apply.new.out.entries
    (image_name old i c.args.number)
    ready after.basis after.prime after.width after.room after.in_span (ap (λ (r : PrimeRow). r.prime) c.apply.ensures.out) same
    (after.unchanged c.if-insert_within.false)))
