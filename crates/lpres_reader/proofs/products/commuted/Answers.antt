use Rattle.std.proofs.Common.{arith}
use Rattle.std.proofs.lemmas.Result.{err_from_is_err_and}
use Rattle.pq_base.specs.SignedWord.{comm}
use Rattle.free_words.proofs.Lengths.{length-comm}
use Rattle.lpres_reader.proofs.recipes.ProductLaws.{too_long_given}
use Rattle.lpres_reader.proofs.products.commuted.Goals as goal

pub returns-in_err-check_letters : goal.returns-in_err-check_letters
returns-in_err-check_letters c =
    let p = err_from_is_err_and c.from_residual.result c.from_residual.ensures.1 in
    rw (
      p.1,
      p.2,
    ) (too_long_given (comm c.args.first c.args.second) _ c.in_err-check_letters.field-0.0
    (omega (arith, c.letters.ensures.letters, c.letters-2.ensures.letters, length-comm c.args.first c.args.second))
    c.in_err-check_letters.ensures)
