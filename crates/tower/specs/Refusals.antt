-- Why a tower has no answer.
-- From: Newman and O'Brien's p-quotient method.
use Rattle.std.specs.Prelude.{◌≡◌, ℕ, ⊤}
use Rattle.pq_base.specs.LPresentation.{LPresentation}
use Rattle.derivation_log.specs.declared.source.Run.{Run}
use Rattle.tower.specs.declared.refusal.TowerRefusal.{TowerRefusal}
use Rattle.tower.specs.declared.refusal.TowerRefusal.TheVariants.{TooLarge, NoMemory}
use Rattle.tower.specs.Answers.{IsTooLarge}

-- a refusal by a run to class c has its cause; a want of memory may come at any time
abbrev pub IsRefusalOf : LPresentation → ℕ → ℕ → Run → TowerRefusal → Type 0
IsRefusalOf L p c run (TooLarge other k rank) = (other ≡ run) × IsTooLarge L p c k rank
IsRefusalOf L p c run NoMemory = ⊤
