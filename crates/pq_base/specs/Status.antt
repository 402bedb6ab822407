-- The numbers of the statuses. 1 is left to a program that can't get its words.
use Rattle.std.specs.Prelude.{ℕ}
use Rattle.pq_base.specs.declared.status.Status.{Status}
use Rattle.pq_base.specs.declared.status.Status.TheVariants.{Done, BadWords, BadText, TooLarge, ReadFault, WriteFault, NoMemory}
use Rattle.pq_base.specs.declared.status.Status.TheVariants.{CertRefused, InputTooLong}

abbrev pub status_number : Status → ℕ
status_number Done = 0
status_number BadWords = 2
status_number BadText = 3
status_number TooLarge = 4
status_number ReadFault = 5
status_number WriteFault = 6
status_number NoMemory = 7
status_number CertRefused = 8
status_number InputTooLong = 9
