use Rattle.std.proofs.Common.{ap, sym, ◌∙◌, arith, Ok}
use Rattle.std.proofs.lemmas.Result.{err_from_is_err_and}
use Rattle.pq_base.specs.SignedWord.{conj}
use Rattle.free_words.proofs.Lengths.{length-conj}
use Rattle.lpres_reader.proofs.recipes.ProductLaws.{too_long_given, fits-short}
use Rattle.lpres_reader.proofs.products.conjugated.Goals as goal

pub returns-in_err-check_letters : goal.returns-in_err-check_letters
returns-in_err-check_letters c =
    let p = err_from_is_err_and c.from_residual.result c.from_residual.ensures.1 in
    rw (
      p.1,
      p.2,
    ) (too_long_given (conj c.args.base c.args.unit) _ c.in_err-check_letters.field-0.0
    (omega (arith, c.letters.ensures.letters, c.letters-2.ensures.letters, length-conj c.args.base c.args.unit))
    c.in_err-check_letters.ensures)

pub returns : goal.returns
returns c =
    fits-short (conj c.args.base c.args.unit)
    (omega (
      arith,
      c.in_ok-check_letters.ensures,
      c.letters.ensures.letters,
      c.letters-2.ensures.letters,
      length-conj c.args.base c.args.unit,
    ))
    ∙ ap Ok (sym c.in_ok-conjugated.ensures)
