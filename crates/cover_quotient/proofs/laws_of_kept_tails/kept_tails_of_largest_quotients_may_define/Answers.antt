-- The law is the lemma of the same name.
use Rattle.cover_quotient.proofs.largest_quotients.LargestKeptTails.{kept_tails_of_largest_quotients_may_define}
use Rattle.cover_quotient.proofs.laws_of_kept_tails.kept_tails_of_largest_quotients_may_define.Goals as goal

pub returns : goal.returns
returns c = kept_tails_of_largest_quotients_may_define
