-- Valid certificates, and the first part of one that fails.
-- From: this project's own checker.
use Rattle.std.specs.Prelude.{◌≡◌, ℕ, Bool, true, not, ltb, ◌&&◌, cond, List, [], ◌∷◌, ◌++◌, length}
use Rattle.std.specs.List.{All, flat_map}
use Rattle.pq_base.specs.LPresentation.{LPresentation}
use Rattle.pq_base.specs.Canonical.{numbers_from}
use Rattle.derivation_log.specs.declared.source.Run.{Run}
use Rattle.derivation_log.specs.declared.source.Run.TheVariants.{Iterated, Whole}
use Rattle.derivation_log.specs.declared.part.Part.{Part}
use Rattle.derivation_log.specs.declared.part.Part.TheVariants as part
use Rattle.derivation_log.specs.Certificates.{Certificate, has_two_runs, steps_of, step_of, presentation_of}
use Rattle.derivation_log.specs.CertificateRuns.{cover_at}
use Rattle.derivation_log.specs.PlainValues.{MakeMap, InducesPlainly, images_of}
use Rattle.derivation_log.specs.CertificateParts.{CertificateKind, IsNotExtra, HavePlainRows, AreSumsOfRows, GiveAnswer, IsNotShort}
use Rattle.derivation_log.specs.CertificateParts.{OverlapsAgree, AreCarriedToIdentity, built_by}

-- a part that is judged: in which run, and at which class
pub record Trial : Type 0 where
  pub run : Run
  pub class : ℕ
  pub part : Part

-- the part keeps what it has to
abbrev pub Keeps : CertificateKind → Certificate → Run → ℕ → Part → Type 0
Keeps kind c run k part.Extra = IsNotExtra kind.cover c run k
Keeps kind c run k part.Row = HavePlainRows kind (presentation_of c run) (cover_at kind.cover c run k) (step_of c run k)
Keeps kind c run k part.Sum = AreSumsOfRows (presentation_of c run) (cover_at kind.cover c run k) (step_of c run k)
Keeps kind c run k part.Rank = GiveAnswer kind (cover_at kind.cover c run k) (step_of c run k)
Keeps kind c run k part.Short = IsNotShort kind.cover c run
Keeps kind c run k part.Overlap = OverlapsAgree kind (built_by kind.cover c run)
Keeps kind c run k part.Iterated = AreCarriedToIdentity (built_by kind.cover c run) c.presentation.iterated
Keeps kind c run k part.Endo = All (InducesPlainly (built_by kind.cover c run)) c.presentation.endos
Keeps kind c run k part.Fixed = AreCarriedToIdentity (built_by kind.cover c run) c.presentation.fixed
Keeps kind c run k part.Map =
    MakeMap (built_by kind.cover c Iterated) (built_by kind.cover c Whole) (images_of (built_by kind.cover c Whole))
Keeps kind c run k part.Answer = c.answer ≡ built_by kind.cover c run

-- the parts that are judged at step k of a run
abbrev pub step_trials : Run → ℕ → List Trial
step_trials run k =
    record { run = run; class = k; part = part.Extra }
    ∷ record { run = run; class = k; part = part.Row }
    ∷ record { run = run; class = k; part = part.Sum }
    ∷ record { run = run; class = k; part = part.Rank } ∷ []

-- endomorphisms are judged in the run over the iterated part, and in that over the whole where there are no fixed relators
abbrev pub judges_endos : LPresentation → Run → Bool
judges_endos L Iterated = true
judges_endos L Whole = ltb 0 (length L.endos) && not (ltb 0 (length L.fixed))

-- a part that is judged at the class that is asked for
abbrev pub last_trial : Certificate → Run → Part → Trial
last_trial c run p = record { run = run; class = c.class; part = p }

-- the parts that are judged in a run: those of each step, and then those of its answer
abbrev pub run_trials : Certificate → Run → List Trial
run_trials c run =
    flat_map (step_trials run) (numbers_from 1 (length (steps_of c run)))
    ++ (last_trial c run part.Short ∷ last_trial c run part.Overlap ∷ last_trial c run part.Iterated
    ∷ cond (judges_endos c.presentation run) (last_trial c run part.Endo ∷ []) [])

-- all parts that are judged, in order
abbrev pub trials : Certificate → List Trial
trials c =
    cond (has_two_runs c.presentation) (run_trials c Iterated) []
    ++ (run_trials c Whole
    ++ (last_trial c Whole part.Fixed ∷ cond (has_two_runs c.presentation) (last_trial c Whole part.Map ∷ []) []
    ++ last_trial c Whole part.Answer ∷ []))

abbrev pub Passes : CertificateKind → Certificate → Trial → Type 0
Passes kind c t = Keeps kind c t.run t.class t.part

-- no part fails
abbrev pub IsValid : CertificateKind → Certificate → Type 0
IsValid kind c = All (Passes kind c) (trials c)

-- the part is the first that fails
pub record FirstPart (kind : CertificateKind) (c : Certificate) (run : Run) (class : ℕ) (p : Part) : Type 0 where
  pub earlier : List Trial
  pub later : List Trial
  pub order : trials c ≡ earlier ++ record { run = run; class = class; part = p } ∷ later
  pub passed : All (Passes kind c) earlier
  pub fails : ¬ Keeps kind c run class p
