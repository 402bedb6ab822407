use Rattle.std.proofs.Common.{◌≡◌, ◌<◌, ◌+◌, ◌++◌, [], ℕ, ℤ, List, codes, get_or, length, ap, sym, ◌∙◌, arith, append-nil}
use Rattle.std.specs.Global.{Vec}
use Rattle.std.proofs.lemmas.List.{get_or_read}
use Rattle.lpres_reader.specs.CanonicalText.{arrow_text}
use Rattle.lpres_reader.proofs.items.ArrowTexts.{between, between-some, between-none, arrow_texts-next}
use Rattle.lpres_reader.proofs.canonical.push_arrows.Goals as goal
use Rattle.lpres_reader.proofs.canonical.push_arrows.Goals.{then-place-gt0+in_ok-extend_from_slice, else-place-gt0}

pub loop-place-preserved : goal.loop-place-preserved
loop-place-preserved c =
    let k : ℕ = c.loop-place.place in
    let images : List (List ℤ) = c.args.images.now in
    let names : List (List ℕ) = c.args.names.now in
    let out : List ℕ = c.loop-place.out.items in
    let mid : List ℕ = c.if-place-gt0.out.items in
    let inside : k < length images = omega (arith, c.loop-place-test.true) in
    let gap : mid ≡ out ++ between k (codes ", ") = elim c.if-place-gt0.branch [
      | then-place-gt0+in_ok-extend_from_slice w ↦
          ap (λ (v : Vec ℕ). v.items) w.out-is
          ∙ w.in_ok-extend_from_slice.ensures.items
          ∙ ap (λ (t : List ℕ). out ++ t) (sym (between-some k (codes ", ") (omega (arith, w.if-place-gt0.true))))
      | else-place-gt0 w ↦
          ap (λ (v : Vec ℕ). v.items) w.out-is
          ∙ sym (append-nil out) ∙ ap (λ (t : List ℕ). out ++ t) (sym (between-none k (codes ", ") (omega (arith, w.if-place-gt0.false))))
    ] in
    let image : c.index-images-place.result ≡ get_or images k [] =
    get_or_read images k c.index-images-place.result inside c.index-images-place.is [] in
    let arrow : c.push_arrow.new.out.items ≡ mid ++ arrow_text names (k + 1) (get_or images k []) =
    c.in_ok-push_arrow.ensures ∙ ap (λ (w : List ℤ). mid ++ arrow_text names (k + 1) w) image in
    arrow_texts-next k (k + 1) (codes ", ") names images out mid c.push_arrow.new.out.items _
    (omega arith) inside gap arrow c.loop-place.invariant
