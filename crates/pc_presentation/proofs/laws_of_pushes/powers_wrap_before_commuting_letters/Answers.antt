-- The law is the lemma of the same name.
use Rattle.pc_presentation.proofs.commuting.ShortcutLaws.{powers_wrap_before_commuting_letters}
use Rattle.pc_presentation.proofs.laws_of_pushes.powers_wrap_before_commuting_letters.Goals as goal

pub returns : goal.returns
returns c = powers_wrap_before_commuting_letters
