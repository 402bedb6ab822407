-- Judging parts of a certificate in turn: all pass, or the first that fails is named.
-- From: this project's own checker.
use Rattle.std.specs.Prelude.{◌≡◌, ◌↔◌, ◌≤◌, ℕ, Bool, IsTrue, List, [], ◌∷◌, ◌++◌, cond, map}
use Rattle.std.specs.List.{All, flat_map}
use Rattle.pq_base.specs.Canonical.{numbers_from}
use Rattle.pq_base.specs.Answer.{Answer}
use Rattle.cover_quotient.specs.Stages.{full_cover_of}
use Rattle.derivation_log.specs.declared.source.Run.{Run}
use Rattle.derivation_log.specs.declared.source.Run.TheVariants.{Iterated, Whole}
use Rattle.derivation_log.specs.declared.part.Part.{Part}
use Rattle.derivation_log.specs.declared.part.Part.TheVariants.{Endo, Fixed, Map, Answer as AnswerPart}
use Rattle.derivation_log.specs.Certificates.{Certificate, has_two_runs}
use Rattle.derivation_log.specs.CertificateRuns.{answer_after, kept_at}
use Rattle.derivation_log.specs.CertificateParts.{full_kind}
use Rattle.derivation_log.specs.Validity.{Trial, Passes, FirstPart, step_trials, judges_endos, last_trial, run_trials}
use Rattle.cert_checker.specs.declared.refusal.CheckRefusal.{CheckRefusal}
use Rattle.cert_checker.specs.declared.refusal.CheckRefusal.TheVariants.{Refused, NoMemory}

-- some parts at one step of a run
abbrev pub parts_at : Run → ℕ → List Part → List Trial
parts_at run k parts = map (λ p. record { run = run; class = k; part = p }) parts

-- all of some parts pass
abbrev pub AllPass : Certificate → List Trial → Type 0
AllPass c ts = All (Passes full_kind c) ts

-- the trial is the first of a list that fails
pub record IsFirstOf (c : Certificate) (ts : List Trial) (t : Trial) : Type 0 where
  pub earlier : List Trial
  pub later : List Trial
  pub order : ts ≡ earlier ++ t ∷ later
  pub passed : All (Passes full_kind c) earlier
  pub fails : ¬ Passes full_kind c t

-- a refusal after some parts were judged: it names the first that fails
abbrev pub IsRefusedAt : Certificate → List Trial → CheckRefusal → Type 0
IsRefusedAt c ts (Refused run k p) = IsFirstOf c ts (record { run = run; class = k; part = p })
IsRefusedAt c ts NoMemory = Unit {0}

-- a refusal of a certificate
abbrev pub IsRefusalOf : Certificate → CheckRefusal → Type 0
IsRefusalOf c (Refused run k p) = FirstPart full_kind c run k p
IsRefusalOf c NoMemory = Unit {0}

-- what contracts see of an answer in the making
pub record BuiltSoFar : Type 0 where
  pub answer : Answer
  pub stopped : Bool

-- step k of a run keeps no tail
abbrev pub StopsAt : Certificate → Run → ℕ → Type 0
StopsAt c run k = (1 ≤ k) × (kept_at full_cover_of c run k ≡ [])

-- what the first k steps of a run build
pub record HasBuilt (c : Certificate) (run : Run) (k : ℕ) (b : BuiltSoFar) : Type 0 where
  pub answer : b.answer ≡ answer_after full_cover_of c run k
  pub stopped : IsTrue b.stopped ↔ StopsAt c run k

-- the parts that are judged at the first n steps of a run
abbrev pub trials_of_steps : Run → ℕ → List Trial
trials_of_steps run n = flat_map (step_trials run) (numbers_from 1 n)

-- the endomorphisms, where a run judges them
abbrev pub endo_trials : Certificate → Run → List Trial
endo_trials c run = cond (judges_endos c.presentation run) (last_trial c run Endo ∷ []) []

-- the run over the iterated part, where there are two
abbrev pub first_run_trials : Certificate → List Trial
first_run_trials c = cond (has_two_runs c.presentation) (run_trials c Iterated) []

-- the map of its answer
abbrev pub map_trials : Certificate → List Trial
map_trials c = cond (has_two_runs c.presentation) (last_trial c Whole Map ∷ []) []

-- what is judged after the run of the whole
abbrev pub last_trials : Certificate → List Trial
last_trials c = last_trial c Whole Fixed ∷ map_trials c ++ last_trial c Whole AnswerPart ∷ []
