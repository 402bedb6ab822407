use Rattle.std.proofs.Common.{◌≡◌, Option, false, refl, sym, subst, ◌∙◌}
use Rattle.std.proofs.lemmas.Result.{err_from_is_err_and}
use Rattle.pq_base.specs.LPresentation.{LPresentation}
use Rattle.lpres_reader.specs.Lines.{is_skipped}
use Rattle.lpres_reader.specs.Makes.{Makes}
use Rattle.lpres_reader.specs.Faults.{LineFault}
use Rattle.lpres_reader.specs.Stops.{kind_of}
use Rattle.lpres_reader.specs.NextLine.{made}
use Rattle.lpres_reader.proofs.faults.Refusing.{refuses_map}
use Rattle.lpres_reader.proofs.reading.read_line.Goals as goal

pub returns-in_ok-read_first-in-None : goal.returns-in_ok-read_first-in-None
returns-in_ok-read_first-in-None c =
    let keep : is_skipped c.args.line.now ≡ false = sym c.is_skipped.ensures ∙ c.if-is_skipped.false in
    let pres = c.in_ok-read_first-in-None.field-0 in
    made pres keep refl (subst (λ (m : Option LPresentation). Makes m c.args.line.now pres)
    (sym c.in-None.is) c.in_ok-read_first-in-None.ensures)

pub returns-in_ok-with_line-in-Some : goal.returns-in_ok-with_line-in-Some
returns-in_ok-with_line-in-Some c =
    let keep : is_skipped c.args.line.now ≡ false = sym c.is_skipped.ensures ∙ c.if-is_skipped.false in
    let pres = c.in_ok-with_line-in-Some.field-0 in
    made pres keep refl (subst (λ (m : Option LPresentation). Makes m c.args.line.now pres)
    (sym c.in-Some.is) c.in_ok-with_line-in-Some.ensures)

pub returns-in_err-read_first-in-None : goal.returns-in_err-read_first-in-None
returns-in_err-read_first-in-None c =
    let p = err_from_is_err_and c.from_residual.result c.from_residual.ensures.1 in
    let keep : is_skipped c.args.line.now ≡ false = sym c.is_skipped.ensures ∙ c.if-is_skipped.false in
    rw (p.1, p.2) (refuses_map _ _ c.in_err-read_first-in-None.field-0.0
    (λ k h. (keep, subst (λ (m : Option LPresentation). LineFault m c.args.line.now (kind_of k)) (sym c.in-None.is) h))
    c.in_err-read_first-in-None.ensures)

pub returns-in_err-with_line-in-Some : goal.returns-in_err-with_line-in-Some
returns-in_err-with_line-in-Some c =
    let p = err_from_is_err_and c.from_residual-in_err-with_line-in-Some.result c.from_residual-in_err-with_line-in-Some.ensures.1 in
    let keep : is_skipped c.args.line.now ≡ false = sym c.is_skipped.ensures ∙ c.if-is_skipped.false in
    rw (p.1, p.2) (refuses_map _ _ c.in_err-with_line-in-Some.field-0.0
    (λ k h. (keep, subst (λ (m : Option LPresentation). LineFault m c.args.line.now (kind_of k)) (sym c.in-Some.is) h))
    c.in_err-with_line-in-Some.ensures)
