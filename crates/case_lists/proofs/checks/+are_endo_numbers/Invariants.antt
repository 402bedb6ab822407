use Rattle.std.proofs.Common.{length}
use Rattle.case_lists.proofs.checks.+are_endo_numbers.Given as goal

abbrev pub decreases-are_endo_numbers : goal.decreases-are_endo_numbers
decreases-are_endo_numbers l = length l.numbers.now
