use Rattle.lpres_reader.proofs.laws.each_text_reads_or_fails.Goals as goal
use Rattle.lpres_reader.proofs.faults.ReaderLaws as law

pub returns : goal.returns
returns c = law.each_text_reads_or_fails
