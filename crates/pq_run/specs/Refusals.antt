-- Why a command is refused: the line that is written, and the status.
-- From: this project's own commands.
use Rattle.std.specs.Prelude.{ℕ, List, [], ◌∷◌, ◌++◌, codes, decimal}
use Rattle.pq_base.specs.Limits.{max_rank}
use Rattle.pq_base.specs.declared.status.Status.{Status}
use Rattle.pq_base.specs.declared.status.Status.TheVariants as status
use Rattle.lpres_reader.specs.declared.fault.TextFault.{TextFault}
use Rattle.lpres_reader.specs.declared.fault.Kind.{Kind}
use Rattle.lpres_reader.specs.declared.fault.Kind.TheVariants.{Deep, Syntax, UnknownName, RepeatedName, Limit, NotAllImages}
use Rattle.lpres_reader.specs.declared.fault.Which.{Which}
use Rattle.lpres_reader.specs.declared.fault.Which.TheVariants.{Name, Generators, Fixed, Iterated, Endos, Exponent, Letters, Total}
use Rattle.lpres_reader.specs.declared.refusal.ReadRefusal.{ReadRefusal}
use Rattle.lpres_reader.specs.declared.refusal.ReadRefusal.TheVariants as reading
use Rattle.derivation_log.specs.declared.source.Run.{Run}
use Rattle.derivation_log.specs.declared.source.Run.TheVariants as run
use Rattle.derivation_log.specs.declared.part.Part.{Part}
use Rattle.derivation_log.specs.declared.part.Part.TheVariants as part
use Rattle.cert_text.specs.declared.fault.CertFault.{CertFault}
use Rattle.cert_text.specs.declared.fault.CertFault.TheVariants as certificate
use Rattle.cert_checker.specs.declared.refusal.CheckRefusal.{CheckRefusal}
use Rattle.cert_checker.specs.declared.refusal.CheckRefusal.TheVariants as checker
use Rattle.tower.specs.declared.refusal.TowerRefusal.{TowerRefusal}
use Rattle.tower.specs.declared.refusal.TowerRefusal.TheVariants as tower
use Rattle.pq_run.specs.declared.input.Input.{Input}
use Rattle.pq_run.specs.declared.refusal.Refusal.{Refusal}
use Rattle.pq_run.specs.declared.refusal.Refusal.TheVariants.{Words, ReadFault, InputTooLong, Text, TooLarge}
use Rattle.pq_run.specs.declared.refusal.Refusal.TheVariants.{CertificateLine, CertificatePart, NoMemory}
use Rattle.pq_run.specs.Input.{byte_limit}

-- what is limited
abbrev pub limit_text : Which → List ℕ
limit_text Name = codes "name"
limit_text Generators = codes "generators"
limit_text Fixed = codes "fixed"
limit_text Iterated = codes "iterated"
limit_text Endos = codes "endos"
limit_text Exponent = codes "exponent"
limit_text Letters = codes "letters"
limit_text Total = codes "total"

-- what is wrong with a line of a text
abbrev pub kind_text : Kind → List ℕ
kind_text Deep = codes "too deep"
kind_text Syntax = codes "syntax"
kind_text UnknownName = codes "unknown name"
kind_text RepeatedName = codes "repeated name"
kind_text (Limit which number) = codes "limit " ++ (limit_text which ++ (codes " " ++ decimal number))
kind_text NotAllImages = codes "not all images"

abbrev pub fault_line : TextFault → List ℕ
fault_line fault = codes "refused: line " ++ (decimal fault.line ++ (codes ": " ++ (kind_text fault.kind ++ 10 ∷ [])))

abbrev pub too_long_line : Input → List ℕ
too_long_line input = codes "refused: input above " ++ (decimal (byte_limit input) ++ (codes " bytes" ++ 10 ∷ []))

-- what a run computes
abbrev pub computed_text : Run → List ℕ
computed_text run.Iterated = codes "iterated part"
computed_text run.Whole = codes "whole"

-- the largest quotient of class k has a rank above the limit
abbrev pub too_large_line : Run → ℕ → ℕ → List ℕ
too_large_line run k rank =
    codes "refused: rank "
    ++ (decimal rank
    ++ (codes " above "
    ++ (decimal max_rank ++ (codes " at class " ++ (decimal k ++ (codes " of the " ++ (computed_text run ++ 10 ∷ [])))))))

-- the bytes are no certificate, and their first fault is at line n
abbrev pub certificate_line : ℕ → List ℕ
certificate_line n = codes "refused: certificate line " ++ (decimal n ++ 10 ∷ [])

abbrev pub run_text : Run → List ℕ
run_text run.Iterated = codes "iterated"
run_text run.Whole = codes "whole"

-- a part that is judged
abbrev pub part_text : Part → List ℕ
part_text part.Extra = codes "extra"
part_text part.Row = codes "row"
part_text part.Sum = codes "sum"
part_text part.Rank = codes "rank"
part_text part.Short = codes "short"
part_text part.Overlap = codes "overlap"
part_text part.Iterated = codes "iterated"
part_text part.Endo = codes "endo"
part_text part.Fixed = codes "fixed"
part_text part.Map = codes "map"
part_text part.Answer = codes "answer"

-- a part of a certificate fails
abbrev pub failing_part_line : Run → ℕ → Part → List ℕ
failing_part_line run k p =
    codes "refused: certificate run "
    ++ (run_text run ++ (codes " class " ++ (decimal k ++ (codes " " ++ (part_text p ++ 10 ∷ [])))))

abbrev pub refusal_line : Refusal → List ℕ
refusal_line Words = codes "refused: words" ++ 10 ∷ []
refusal_line ReadFault = codes "refused: read fault" ++ 10 ∷ []
refusal_line (InputTooLong input) = too_long_line input
refusal_line (Text fault) = fault_line fault
refusal_line (TooLarge run k rank) = too_large_line run k rank
refusal_line (CertificateLine n) = certificate_line n
refusal_line (CertificatePart run k p) = failing_part_line run k p
refusal_line NoMemory = codes "refused: no memory" ++ 10 ∷ []

abbrev pub refusal_status : Refusal → Status
refusal_status Words = status.BadWords
refusal_status ReadFault = status.ReadFault
refusal_status (InputTooLong input) = status.InputTooLong
refusal_status (Text fault) = status.BadText
refusal_status (TooLarge run k rank) = status.TooLarge
refusal_status (CertificateLine n) = status.CertRefused
refusal_status (CertificatePart run k p) = status.CertRefused
refusal_status NoMemory = status.NoMemory

-- why an input that wasn't read as a presentation is refused
abbrev pub refusal_of_reading : ReadRefusal → Refusal
refusal_of_reading (reading.Text fault) = Text fault
refusal_of_reading reading.NoMemory = NoMemory

-- why a presentation that has no answer is refused
abbrev pub refusal_of_tower : TowerRefusal → Refusal
refusal_of_tower (tower.TooLarge run k rank) = TooLarge run k rank
refusal_of_tower tower.NoMemory = NoMemory

-- why an input that wasn't read as a certificate is refused
abbrev pub refusal_of_fault : CertFault → Refusal
refusal_of_fault (certificate.Line n) = CertificateLine n
refusal_of_fault certificate.NoMemory = NoMemory

-- why a certificate whose answer isn't given is refused
abbrev pub refusal_of_check : CheckRefusal → Refusal
refusal_of_check (checker.Refused run k p) = CertificatePart run k p
refusal_of_check checker.NoMemory = NoMemory
