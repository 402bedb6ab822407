use Rattle.std.proofs.Common.{subst}
use Rattle.pq_base.specs.Prime.{prime_value}
use Rattle.pq_base.proofs.PrimeLaws.{prime_value-offered, offered-two}
use Rattle.pc_presentation.specs.Parts.{words_of}
use Rattle.cover_quotient.specs.Combinations.{AreCombinations}
use Rattle.cover_quotient.proofs.next_answers.CombinedTails.{spread_words-are}
use Rattle.cover_quotient.proofs.combinations.Combinations.kept.Goals as goal

pub returns-clause-combinations : goal.returns-clause-combinations
returns-clause-combinations c =
    let k = c.self.inside in
    subst AreCombinations c.self.view_is
    (spread_words-are (prime_value k.prime) k.kept.items (words_of k.words.items)
    (offered-two (prime_value k.prime) (prime_value-offered k.prime)) c.self.invariant)
