use Rattle.std.proofs.Common.{sym, ◌∙◌, mod-eq_of_lt, arith}
use Rattle.fp_rows.proofs.PlaceByPlace.{less_mod}
use Rattle.fp_rows.proofs.kernel.remainder.Goals as goal

pub returns : goal.returns
returns c =
    let p = c.args.p in
    let last = less_mod p 1 _ p _ (omega arith) c.less.ensures.small c.less.ensures.large in
    let third = less_mod p 2 _ _ _ (omega arith) c.less-n-3.ensures.small c.less-n-3.ensures.large in
    let second = less_mod p 4 _ _ _ (omega arith) c.less-n-2.ensures.small c.less-n-2.ensures.large in
    let first = less_mod p 8 _ _ _ (omega arith) c.less-n.ensures.small c.less-n.ensures.large in
    sym (mod-eq_of_lt c.less.ensures.below) ∙ last ∙ third ∙ second ∙ first
