-- Each clause follows from how the command ends.
use Rattle.pq_run.proofs.WordsEnds.{bad_words-ends}
use Rattle.pq_run.proofs.InputEnds.{too_long-ends, bad_text-ends, too_large-ends, cert_refused-ends, complete-ends}
use Rattle.pq_run.proofs.RefusalEnds.{done-ends, write_fault-ends, refused-ends}
use Rattle.pq_run.proofs.Headlines.{headline}
use Rattle.pq_run.proofs.OneOutputs.{only_output}
use Rattle.pq_run.proofs.SampleEnds.{sample_too_large-ends, sample_complete-ends}
use Rattle.pq_run.proofs.top.run.Goals as goal

pub returns-clause-headline : goal.returns-clause-headline
returns-clause-headline g c is = headline _ _ _ (done-ends _ _ _ _ c.carry_out.ensures.ends is)

pub returns-clause-done : goal.returns-clause-done
returns-clause-done g c = done-ends _ _ _ _ c.carry_out.ensures.ends

pub returns-clause-only : goal.returns-clause-only
returns-clause-only g c is = only_output _ _ _ (done-ends _ _ _ _ c.carry_out.ensures.ends is)

pub returns-clause-write_fault : goal.returns-clause-write_fault
returns-clause-write_fault g c = write_fault-ends _ _ _ _ c.carry_out.ensures.ends

pub returns-clause-refused : goal.returns-clause-refused
returns-clause-refused g c = refused-ends _ _ _ _ c.carry_out.ensures.ends

pub returns-clause-bad_words : goal.returns-clause-bad_words
returns-clause-bad_words g c = bad_words-ends _ _ _ _ c.carry_out.ensures.ends

pub returns-clause-too_long : goal.returns-clause-too_long
returns-clause-too_long g c = too_long-ends _ _ _ _ c.carry_out.ensures.ends

pub returns-clause-bad_text : goal.returns-clause-bad_text
returns-clause-bad_text g c = bad_text-ends _ _ _ _ c.carry_out.ensures.ends

pub returns-clause-too_large : goal.returns-clause-too_large
returns-clause-too_large g c = too_large-ends _ _ _ _ c.carry_out.ensures.ends

pub returns-clause-cert_refused : goal.returns-clause-cert_refused
returns-clause-cert_refused g c = cert_refused-ends _ _ _ _ c.carry_out.ensures.ends

pub returns-clause-complete : goal.returns-clause-complete
returns-clause-complete g c = complete-ends _ _ _ _ c.carry_out.ensures.ends

pub returns-clause-sample_too_large : goal.returns-clause-sample_too_large
returns-clause-sample_too_large g c = sample_too_large-ends _ _ _ _ c.carry_out.ensures.ends

pub returns-clause-sample_complete : goal.returns-clause-sample_complete
returns-clause-sample_complete g c = sample_complete-ends _ _ _ _ c.carry_out.ensures.ends
