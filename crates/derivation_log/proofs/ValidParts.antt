-- A certificate is valid exactly where all its parts keep what they have to.
use Rattle.std.proofs.Common.{◌≡◌, ◌+◌, ◌<◌, ◌≤◌, ℕ, zero, suc, Bool, true, false, cond, List, [], ◌∷◌, ◌++◌, length, refl, subst, arith}
use Rattle.std.proofs.Common.{inl, inr}
use Rattle.std.specs.List.{All, flat_map}
use Rattle.std.proofs.lemmas.Bool.{cases_eq}
use Rattle.std.proofs.lemmas.List.{length-append, get_or_append_left, get_or-append-add}
use Rattle.std.proofs.lemmas.List.Elements.{All-nil, All-cons, All-append}
use Rattle.pq_base.specs.Canonical.{numbers_from}
use Rattle.pc_presentation.proofs.presentations.WordTests.{All-head, All-tail}
use Rattle.derivation_log.specs.declared.source.Run.{Run}
use Rattle.derivation_log.specs.declared.source.Run.TheVariants.{Iterated, Whole}
use Rattle.derivation_log.specs.declared.part.Part.{Part}
use Rattle.derivation_log.specs.declared.part.Part.TheVariants as part
use Rattle.derivation_log.specs.Certificates.{Certificate, has_two_runs, steps_of}
use Rattle.derivation_log.specs.CertificateParts.{CertificateKind, full_kind}
use Rattle.derivation_log.specs.Validity.{Trial, Passes, step_trials, judges_endos, last_trial, run_trials, IsValid}
use Rattle.derivation_log.specs.ValidParts.{KeepsStep, KeepsRun, KeepsAll}
use Rattle.derivation_log.specs.CertificateLaws.{ValidCertificatesKeepAll}
use Rattle.derivation_log.proofs.PairForms.{at_least_next}

module _ {X : Type 0} (P : X → Type 0) where
  all-left : (xs ys : List X) → All P (xs ++ ys) → All P xs
  all-left xs ys all k d l =
      let long = length-append xs ys in
      subst P (get_or_append_left xs ys d k l) (all k d (omega (arith, long, l)))

  all-right : (xs ys : List X) → All P (xs ++ ys) → All P ys
  all-right xs ys all k d l =
      let long = length-append xs ys in
      subst P (get_or-append-add xs ys k d) (all (length xs + k) d (omega (arith, long, l)))

  -- a list that is there where a test passes
  all-where : (b : Bool) (xs : List X) → (b ≡ true → All P xs) → All P (cond b xs [])
  all-where true xs all = all refl
  all-where false xs all = All-nil P

  where-all : (b : Bool) (xs : List X) → All P (cond b xs []) → b ≡ true → All P xs
  where-all true xs all e = all
  where-all false xs all e = cc

  -- lists of the numbers of a range
  all-ranges : (f : ℕ → List X) (n a : ℕ) → ((k : ℕ) → a ≤ k → k < a + n → All P (f k)) → All P (flat_map f (numbers_from a n))
  all-ranges f zero a each = All-nil P
  all-ranges f (suc n) a each =
      All-append P (f a) (flat_map f (numbers_from (suc a) n)) (each a (omega arith) (omega arith))
      (all-ranges f n (suc a) (λ k l m. each k (omega arith) (omega arith)))

  ranges-all : (f : ℕ → List X) (n a : ℕ) → All P (flat_map f (numbers_from a n)) → (k : ℕ) → a ≤ k → k < a + n → All P (f k)
  ranges-all f zero a all k l m = absurd (omega arith)
  ranges-all f (suc n) a all k l m = elim (cases_eq a k) [
    | inl here ↦ subst (λ (j : ℕ). All P (f j)) here (all-left (f a) (flat_map f (numbers_from (suc a) n)) all)
    | inr other ↦ ranges-all f n (suc a) (all-right (f a) (flat_map f (numbers_from (suc a) n)) all) k (at_least_next a k l other)
        (omega arith)
  ]

module _ (kind : CertificateKind) (c : Certificate) where
  abbrev pass : Trial → Type 0
  pass t = Passes kind c t

  module _ (run : Run) where
    abbrev step_part : ℕ → Part → Trial
    step_part k p = record { run = run; class = k; part = p }

    abbrev ends : List Trial
    ends =
        last_trial c run part.Short ∷ last_trial c run part.Overlap ∷ last_trial c run part.Iterated
        ∷ cond (judges_endos c.presentation run) (last_trial c run part.Endo ∷ []) []

    abbrev steps : List Trial
    steps = flat_map (step_trials run) (numbers_from 1 (length (steps_of c run)))

    step-passes : (k : ℕ) → KeepsStep kind c run k → All pass (step_trials run k)
    step-passes k h =
        All-cons pass (step_part k part.Extra) (step_part k part.Row ∷ step_part k part.Sum ∷ step_part k part.Rank ∷ []) h.extra
        (All-cons pass (step_part k part.Row) (step_part k part.Sum ∷ step_part k part.Rank ∷ []) h.rows
        (All-cons pass (step_part k part.Sum) (step_part k part.Rank ∷ []) h.sums
        (All-cons pass (step_part k part.Rank) [] h.rank (All-nil pass))))

    step-keeps : (k : ℕ) → All pass (step_trials run k) → KeepsStep kind c run k
    step-keeps k all = record {
      extra = all zero (step_part k part.Extra) (omega arith);
      rows = all (suc zero) (step_part k part.Extra) (omega arith);
      sums = all (suc (suc zero)) (step_part k part.Extra) (omega arith);
      rank = all (suc (suc (suc zero))) (step_part k part.Extra) (omega arith);
    }

    run-passes : KeepsRun kind c run → All pass (run_trials c run)
    run-passes h =
        All-append pass steps ends
        (all-ranges pass (step_trials run) (length (steps_of c run)) 1 (λ k l m. step-passes k (h.steps k l (omega arith))))
        (All-cons pass (last_trial c run part.Short) (last_trial c run part.Overlap ∷ last_trial c run part.Iterated
        ∷ cond (judges_endos c.presentation run) (last_trial c run part.Endo ∷ []) []) h.short
        (All-cons pass (last_trial c run part.Overlap) (last_trial c run part.Iterated
        ∷ cond (judges_endos c.presentation run) (last_trial c run part.Endo ∷ []) []) h.overlaps
        (All-cons pass (last_trial c run part.Iterated)
        (cond (judges_endos c.presentation run) (last_trial c run part.Endo ∷ []) []) h.iterated
        (all-where pass (judges_endos c.presentation run) (last_trial c run part.Endo ∷ [])
        (λ e. All-cons pass (last_trial c run part.Endo) [] (h.endos e) (All-nil pass))))))

    run-keeps : All pass (run_trials c run) → KeepsRun kind c run
    run-keeps all =
        let behind = all-right pass steps ends all in
        record {
          steps = λ k l m.
              step-keeps k (ranges-all pass (step_trials run) (length (steps_of c run)) 1 (all-left pass steps ends all) k l (omega arith));
          short = behind zero (last_trial c run part.Short) (omega arith);
          overlaps = behind (suc zero) (last_trial c run part.Short) (omega arith);
          iterated = behind (suc (suc zero)) (last_trial c run part.Short) (omega arith);
          endos = λ e.
              All-head pass (last_trial c run part.Endo) []
              (where-all pass (judges_endos c.presentation run) (last_trial c run part.Endo ∷ [])
              (λ k d l. behind (suc (suc (suc k))) d (omega arith)) e);
        }

  abbrev behind_fixed : List Trial
  behind_fixed = cond (has_two_runs c.presentation) (last_trial c Whole part.Map ∷ []) [] ++ last_trial c Whole part.Answer ∷ []

  abbrev last_parts : List Trial
  last_parts = last_trial c Whole part.Fixed ∷ behind_fixed

  abbrev first_run : List Trial
  first_run = cond (has_two_runs c.presentation) (run_trials c Iterated) []

  pub keeps-valid : KeepsAll kind c → IsValid kind c
  keeps-valid h =
      All-append pass first_run (run_trials c Whole ++ last_parts)
      (all-where pass (has_two_runs c.presentation) (run_trials c Iterated) (λ e. run-passes Iterated (h.iterated e)))
      (All-append pass (run_trials c Whole) last_parts (run-passes Whole h.whole)
      (All-cons pass (last_trial c Whole part.Fixed) behind_fixed h.fixed
      (All-append pass (cond (has_two_runs c.presentation) (last_trial c Whole part.Map ∷ []) []) (last_trial c Whole part.Answer ∷ [])
      (all-where pass (has_two_runs c.presentation) (last_trial c Whole part.Map ∷ [])
      (λ e. All-cons pass (last_trial c Whole part.Map) [] (h.map e) (All-nil pass)))
      (All-cons pass (last_trial c Whole part.Answer) [] h.answer (All-nil pass)))))

  pub valid-keeps : IsValid kind c → KeepsAll kind c
  valid-keeps valid =
      let second = all-right pass first_run (run_trials c Whole ++ last_parts) valid in
      let third = all-right pass (run_trials c Whole) last_parts second in
      let fourth = All-tail pass (last_trial c Whole part.Fixed) behind_fixed third in
      record {
        iterated = λ e.
            run-keeps Iterated
            (where-all pass (has_two_runs c.presentation) (run_trials c Iterated)
            (all-left pass first_run (run_trials c Whole ++ last_parts) valid) e);
        whole = run-keeps Whole (all-left pass (run_trials c Whole) last_parts second);
        fixed = All-head pass (last_trial c Whole part.Fixed) behind_fixed third;
        map = λ e.
            All-head pass (last_trial c Whole part.Map) []
            (where-all pass (has_two_runs c.presentation) (last_trial c Whole part.Map ∷ [])
            (all-left pass (cond (has_two_runs c.presentation) (last_trial c Whole part.Map ∷ []) [])
            (last_trial c Whole part.Answer ∷ []) fourth) e);
        answer = All-head pass (last_trial c Whole part.Answer) []
            (all-right pass (cond (has_two_runs c.presentation) (last_trial c Whole part.Map ∷ []) [])
            (last_trial c Whole part.Answer ∷ []) fourth);
      }

pub valid_certificates_keep_all : ValidCertificatesKeepAll full_kind
valid_certificates_keep_all c = (valid-keeps full_kind c, keeps-valid full_kind c)
