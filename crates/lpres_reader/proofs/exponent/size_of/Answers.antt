use Rattle.std.proofs.Common.{get_or, ◌∙◌, arith}
use Rattle.lpres_reader.proofs.texts.Exponents.{told_on, told_next, told_end}
use Rattle.lpres_reader.proofs.exponent.size_of.Goals as goal

pub loop-digit-preserved : goal.loop-digit-preserved
loop-digit-preserved c = record {
  small = told_next c.loop-digit.size (get_or c.args.digits.now c.loop-digit.digit-index 0) _ c.one_digit_more-size.ensures;
  told = told_on c.loop-digit.size c.args.digits.now c.loop-digit.digit-index _ (omega arith) c.one_digit_more-size.ensures
      ∙ c.loop-digit.invariant.told;
}

pub returns : goal.returns
returns c =
    told_end c.loop-digit.size c.args.digits.now c.loop-digit.digit-index (omega arith) c.loop-digit.invariant.small
    ∙ c.loop-digit.invariant.told
