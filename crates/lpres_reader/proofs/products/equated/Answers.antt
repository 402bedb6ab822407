use Rattle.std.proofs.Common.{◌≡◌, ◌++◌, length, ap, ◌∙◌, arith, true}
use Rattle.std.proofs.lemmas.Result.{err_from_is_err_and}
use Rattle.std.proofs.lemmas.List.{length-append}
use Rattle.pq_base.specs.SignedWord.{inv}
use Rattle.free_words.proofs.Lengths.{length-inv}
use Rattle.lpres_reader.proofs.recipes.RecipeLaws.{length-power_of}
use Rattle.lpres_reader.proofs.recipes.ProductLaws.{too_long_given}
use Rattle.lpres_reader.proofs.products.equated.Goals as goal

pub returns-in_err-check_letters : goal.returns-in_err-check_letters
returns-in_err-check_letters c =
    let p = err_from_is_err_and c.from_residual.result c.from_residual.ensures.1 in
    rw (
      p.1,
      p.2,
    ) (too_long_given (c.args.left ++ inv c.args.right) _ c.in_err-check_letters.field-0.0
    (omega (
      arith,
      c.letters.ensures.letters,
      c.letters-2.ensures.letters,
      length-append c.args.left (inv c.args.right),
      length-inv c.args.right,
    )) c.in_err-check_letters.ensures)

pub followed-requires : goal.followed-requires
followed-requires c =
    let n : length c.in_ok-raised.field-0 ≡ length c.args.right =
    ap length c.in_ok-raised.ensures ∙ length-power_of true c.args.right 1 ∙ omega arith in
    omega (arith, c.in_ok-check_letters.ensures, c.letters.ensures.letters, c.letters-2.ensures.letters, ap length c.left.view_is, n)
