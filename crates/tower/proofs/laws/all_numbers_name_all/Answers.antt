-- The law is the lemma of the same name.
use Rattle.tower.proofs.NamedQuotients.{all_numbers_name_all}
use Rattle.tower.proofs.laws.all_numbers_name_all.Goals as goal

pub returns : goal.returns
returns c = all_numbers_name_all
