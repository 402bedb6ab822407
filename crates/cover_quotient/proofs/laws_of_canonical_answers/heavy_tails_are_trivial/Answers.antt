-- The law is the lemma of the same name.
use Rattle.cover_quotient.proofs.canonical_answers.HeavyTails.{heavy_tails_are_trivial}
use Rattle.cover_quotient.proofs.laws_of_canonical_answers.heavy_tails_are_trivial.Goals as goal

pub returns : goal.returns
returns c = heavy_tails_are_trivial
