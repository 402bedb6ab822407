-- Both ways to say that a relation or an image is one of the answer's, by its numbers and by its places.
use Rattle.std.proofs.Common.{◌≡◌, ◌<◌, ℕ, zero, suc, length, arith}
use Rattle.pq_base.specs.Answer.{Answer, Definition, IsAnswer}
use Rattle.pq_base.specs.Answer.Definition.{image, commutator, power}
use Rattle.pq_base.specs.EntryWords.{IsSourceOf}
use Rattle.p_cover.specs.CoverLaws.{IsSource}

pub source-by_name : (A : Answer) → IsAnswer A → (d : Definition) → IsSourceOf A d → IsSource A d
source-by_name A is (image zero) s = absurd s
source-by_name A is (image (suc i)) s = let c = is.image_count in let l : i < length A.images = s in (omega arith, omega arith)
source-by_name A is (commutator zero i) s = absurd s
source-by_name A is (commutator (suc j) zero) s = absurd s
source-by_name A is (commutator (suc j) (suc i)) s = let l = s.0 in let m = s.1 in (omega arith, omega arith, omega arith)
source-by_name A is (power zero) s = absurd s
source-by_name A is (power (suc j)) s = let l : j < A.presentation.rank = s in (omega arith, omega arith)

pub source-by_place : (A : Answer) → IsAnswer A → (d : Definition) → IsSource A d → IsSourceOf A d
source-by_place A is (image zero) s = let l = s.0 in absurd (omega arith)
source-by_place A is (image (suc i)) s = let c = is.image_count in let l = s.1 in omega arith
source-by_place A is (commutator zero i) s = let l = s.0 in let m = s.1 in absurd (omega arith)
source-by_place A is (commutator (suc j) zero) s = let l = s.0 in absurd (omega arith)
source-by_place A is (commutator (suc j) (suc i)) s = let l = s.1 in let m = s.2 in (omega arith, omega arith)
source-by_place A is (power zero) s = let l = s.0 in absurd (omega arith)
source-by_place A is (power (suc j)) s = let l = s.1 in omega arith
