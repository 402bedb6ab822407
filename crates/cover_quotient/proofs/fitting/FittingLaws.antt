-- The laws of elements that fit an answer: its covers, justified rows, and one class.
use Rattle.std.proofs.Common.{ℕ, suc, List, length, ap, sym, ◌∙◌, subst}
use Rattle.pq_base.specs.Table.{InLevel, times, inverse, value}
use Rattle.pq_base.specs.Answer.{Definition}
use Rattle.pq_base.proofs.tables.TableSeries.{table_level-zero}
use Rattle.pq_base.proofs.PrimeLaws.{offered-two}
use Rattle.p_cover.specs.RowedAnswer.{tails_word}
use Rattle.p_cover.specs.Sources.{place_in}
use Rattle.p_cover.specs.Covers.{rowed_cover}
use Rattle.cover_quotient.specs.Fits.{cover_elements}
use Rattle.cover_quotient.specs.FittingLaws.{CoversFit, DefinitionsHold, FullCoversLeaveNothingOut, FullCoversFit, ImagesAreExact}
use Rattle.cover_quotient.specs.FittingLaws.{JustifiedRowsFit, OneClassFits, NoTailKeptFits}
use Rattle.pc_presentation.proofs.rows.RowsCentral.{row_sum-add_rows}
use Rattle.cover_quotient.proofs.carried_rows.CarriedRows.{row_from_normal}
use Rattle.cover_quotient.proofs.fitting.CoverFits.{relator-in_level, image-in_level, joined-in_level, sum-in_level, span-in_level}
use Rattle.cover_quotient.proofs.fitting.CoverFits.{tail-in_level}
use Rattle.cover_quotient.proofs.fitting.NextFits.{next-fits, same-fits}
use Rattle.cover_quotient.proofs.fitting.ExactImages.{definition-holds, left_out-holds, exact-image}

pub covers_fit : CoversFit
covers_fit T f c C h =
    let g = h.group in
    let below = h.elements in
    let is = h.cover in
    let some = offered-two C.answer.presentation.prime h.prime in
    let left = h.left_out in
    let fits = h.fits in
    record {
      tails = λ t l. tail-in_level T g f below c C is some left fits t l;
      relators = λ r e. relator-in_level T g f below c C is some left fits r e;
      images = λ i l. image-in_level T g f below c C is some left fits i l;
      joined = λ u v e. joined-in_level T g f below c C is some left fits u v e;
      sums = λ x y n m.
          let e : List ℕ = cover_elements T f C in
          let X = rowed_cover C in
          subst (λ (z : List ℕ). InLevel T C.answer.presentation.prime (suc c)
          (times T (inverse T (value T e (tails_word X z))) (times T (value T e (tails_word X x)) (value T e (tails_word X y)))))
          (sym (row_sum-add_rows C.answer.presentation.prime x y (n.count ∙ sym m.count)))
          (sum-in_level T g f below c C is some left fits x y
          (row_from_normal C.answer.presentation.prime (length C.sources) x n)
          (row_from_normal C.answer.presentation.prime (length C.sources) y m));
    }

pub definitions_hold : DefinitionsHold
definitions_hold T f A g below is k l = definition-holds T g f below A is k l

pub full_covers_leave_nothing_out : FullCoversLeaveNothingOut
full_covers_leave_nothing_out T f C g below is full d s e =
    left_out-holds T g f below C.answer is.answer d s (sym (ap (λ (ds : List Definition). place_in ds d) full) ∙ e)

pub full_covers_fit : FullCoversFit
full_covers_fit T f c C g below is full d s e =
    subst (λ (x : ℕ). InLevel T C.answer.presentation.prime (suc c) x)
    (sym (full_covers_leave_nothing_out T f C g below is full d s e))
    (table_level-zero T g C.answer.presentation.prime (suc c))

pub images_are_exact : ImagesAreExact
images_are_exact T f C g below is offered left i l =
    exact-image T g f below C.answer is.answer (offered-two C.answer.presentation.prime offered) C.sources is.sources left i l

pub justified_rows_fit : JustifiedRowsFit
justified_rows_fit T f c C rows h j x s =
    span-in_level T h.group f h.elements c C h.cover (offered-two C.answer.presentation.prime h.prime) h.left_out h.fits j.count rows j.are
    j.justified x s

pub one_class_fits : OneClassFits
one_class_fits T f c C rows bs h j basis may =
    next-fits T h.group f h.elements c C h.cover (offered-two C.answer.presentation.prime h.prime) h.left_out h.fits j.count bs
    basis.reduced
    rows j.are j.justified basis.each may

pub no_tail_kept_fits : NoTailKeptFits
no_tail_kept_fits T f c C rows bs h j basis none =
    same-fits T h.group f h.elements c C h.cover (offered-two C.answer.presentation.prime h.prime) h.left_out h.fits j.count bs
    basis.reduced
    rows j.are j.justified basis.each none
