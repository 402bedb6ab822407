-- Each refusal is told by its own line and status.
use Rattle.std.proofs.Common.{refl}
use Rattle.pq_run.specs.declared.refusal.Refusal.TheVariants.{InputTooLong, Text, TooLarge, CertificateLine, CertificatePart}
use Rattle.pq_run.proofs.RefusalEnds.{ends_as, ends_by, ends_told, ends_in_memory}
use Rattle.pq_run.proofs.refusing.refuse.Goals as goal

pub returns-in-Words-clause-ends : goal.returns-in-Words-clause-ends
returns-in-Words-clause-ends g c = ends_as _ _ _ _ c.in-Words.is c.refuse_by.ensures.status c.refuse_by.ensures.line

pub returns-in-ReadFault-clause-ends : goal.returns-in-ReadFault-clause-ends
returns-in-ReadFault-clause-ends g c =
    ends_as _ _ _ _ c.in-ReadFault.is c.refuse_by-in-ReadFault.ensures.status c.refuse_by-in-ReadFault.ensures.line

pub returns-in-InputTooLong-clause-ends : goal.returns-in-InputTooLong-clause-ends
returns-in-InputTooLong-clause-ends g c =
    ends_by _ (InputTooLong c.in-InputTooLong.input) _ _ c.in-InputTooLong.is
    (ends_told (InputTooLong c.in-InputTooLong.input) _ _ _ _ refl c.too_long_line.ensures c.refuse_by-in-InputTooLong.ensures.status
    c.refuse_by-in-InputTooLong.ensures.line)

pub returns-in-NoMemory-clause-ends : goal.returns-in-NoMemory-clause-ends
returns-in-NoMemory-clause-ends g c =
    ends_as _ _ _ _ c.in-NoMemory.is c.refuse_by-in-NoMemory.ensures.status c.refuse_by-in-NoMemory.ensures.line

pub returns-in-Text-clause-ends : goal.returns-in-Text-clause-ends
returns-in-Text-clause-ends g c =
    ends_in_memory _ (Text c.in-Text.fault) _ _ _ c.in-Text.is tt c.fault_line.ensures c.refuse_in_memory.ensures.told
    c.refuse_in_memory.ensures.wanting

pub returns-in-TooLarge-clause-ends : goal.returns-in-TooLarge-clause-ends
returns-in-TooLarge-clause-ends g c =
    ends_in_memory _ (TooLarge c.in-TooLarge.run' c.in-TooLarge.class c.in-TooLarge.rank) _ _ _ c.in-TooLarge.is tt
    c.too_large_line-line.ensures
    c.refuse_in_memory-in-TooLarge.ensures.told c.refuse_in_memory-in-TooLarge.ensures.wanting

pub returns-in-CertificateLine-clause-ends : goal.returns-in-CertificateLine-clause-ends
returns-in-CertificateLine-clause-ends g c =
    ends_in_memory _ (CertificateLine c.in-CertificateLine.number) _ _ _ c.in-CertificateLine.is tt c.certificate_line.ensures
    c.refuse_in_memory-in-CertificateLine.ensures.told c.refuse_in_memory-in-CertificateLine.ensures.wanting

pub returns-in-CertificatePart-clause-ends : goal.returns-in-CertificatePart-clause-ends
returns-in-CertificatePart-clause-ends g c =
    ends_in_memory _ (CertificatePart c.in-CertificatePart.run' c.in-CertificatePart.class c.in-CertificatePart.part) _ _ _
    c.in-CertificatePart.is tt
    c.failing_part_line-line.ensures c.refuse_in_memory-in-CertificatePart.ensures.told
    c.refuse_in_memory-in-CertificatePart.ensures.wanting
