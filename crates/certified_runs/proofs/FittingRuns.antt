-- The steps of a run that comes to an answer within the limit on ranks fit a certificate: they have its prime, and sources that may be
-- named.
use Rattle.std.proofs.Common.{◌≡◌, ℕ, zero, suc, ◌≤◌, true, List, [], ◌∷◌, ◌++◌, length, refl, sym, ◌∙◌, subst, arith, inl, inr}
use Rattle.std.specs.List.{AllZip}
use Rattle.std.proofs.lemmas.Bool.{le-leb}
use Rattle.pq_base.specs.Limits.{max_rank}
use Rattle.pq_base.specs.LPresentation.{LPresentation, AreEndoNumbers, part}
use Rattle.pq_base.specs.LPresentation.Part.{iterated_part}
use Rattle.pq_base.specs.Answer.{Answer}
use Rattle.pc_presentation.specs.Rowed.{RowedPresentation}
use Rattle.pc_presentation.specs.Collection.{State}
use Rattle.pc_presentation.specs.Parts.{trivial_answer}
use Rattle.pc_presentation.specs.Tailed.{rowed_presentation}
use Rattle.pc_presentation.specs.declared.overlap.Overlap.{Overlap}
use Rattle.pc_presentation.specs.declared.overlap.Overlap.TheVariants.{Triple, Left, Right, Own}
use Rattle.pc_presentation.specs.OverlapNumbers.{AreOverlapNumbers}
use Rattle.p_cover.specs.Covers.{CoverOf, cover_presentation}
use Rattle.cover_quotient.specs.NextAnswer.{eliminated}
use Rattle.cover_quotient.specs.Stages.{full_cover_of}
use Rattle.derivation_log.specs.declared.source.Run.{Run}
use Rattle.derivation_log.specs.declared.source.Run.TheVariants as run_of
use Rattle.derivation_log.specs.declared.source.RowSource.{RowSource}
use Rattle.derivation_log.specs.declared.source.RowSource.TheVariants.{Test, Fixed, Iterated}
use Rattle.derivation_log.specs.RowSources.{AreSourceNumbers, IsRowOf}
use Rattle.derivation_log.specs.HeldSteps.{HeldStep}
use Rattle.derivation_log.specs.HeldRuns.{IsHeldStep, AreHeldSteps, IsHeldRun}
use Rattle.derivation_log.specs.HeldLines.{FitsCertificate, FitCertificate}
use Rattle.derivation_log.specs.CertificateForms.{max_number, is_written_overlap, is_one_of, are_each_one_of, is_source_in, are_sources_in}
use Rattle.derivation_log.proofs.PairForms.{both_true, number_from}

written-overlap : (n : ℕ) (o : Overlap) → n ≤ max_number → AreOverlapNumbers n o → is_written_overlap o ≡ true
written-overlap n (Triple k j i) few are =
    both_true (number_from 1 k (omega arith) (omega arith))
    (both_true (number_from 1 j (omega arith) (omega arith)) (number_from 1 i are.0 (omega arith)))
written-overlap n (Left j i) few are = both_true (number_from 1 j (omega arith) (omega arith)) (number_from 1 i are.0 (omega arith))
written-overlap n (Right j i) few are = both_true (number_from 1 j (omega arith) (omega arith)) (number_from 1 i are.0 (omega arith))
written-overlap n (Own i) few are = number_from 1 i are.0 (omega arith)

one-of : (n i : ℕ) → 1 ≤ i → i ≤ n → is_one_of n i ≡ true
one-of n i first last = both_true (le-leb 1 i first) (le-leb i n last)

endo-numbers : (n : ℕ) (s : List ℕ) → AreEndoNumbers n s → are_each_one_of n s ≡ true
endo-numbers n [] are = refl
endo-numbers n (zero ∷ s) are = absurd are
endo-numbers n (suc e ∷ s) are = both_true (one-of n (suc e) (omega arith) (omega arith)) (endo-numbers n s are.1)

-- sources with numbers of a presentation may be named in a run of a certificate
abbrev Names : LPresentation → LPresentation → Run → Type 0
Names L M run = (n : ℕ) (s : RowSource) → n ≤ max_number → AreSourceNumbers M n s → is_source_in L run s ≡ true

names-whole : (L : LPresentation) → Names L L run_of.Whole
names-whole L n (Test o) few are = written-overlap n o few are
names-whole L n (Fixed i) few are = one-of (length L.fixed) i are.0 are.1
names-whole L n (Iterated i s) few are =
    both_true (one-of (length L.iterated) i are.0 are.1) (endo-numbers (length L.endos) s are.2)

names-iterated : (L : LPresentation) → Names L (part L iterated_part) run_of.Iterated
names-iterated L n (Test o) few are = written-overlap n o few are
names-iterated L n (Fixed i) few are = absurd (omega arith)
names-iterated L n (Iterated i s) few are =
    both_true (one-of (length L.iterated) i are.0 are.1) (endo-numbers (length L.endos) s are.2)

module _ (L M : LPresentation) (run : Run) (named : Names L M run) (meaning : RowedPresentation → State → ℕ → State)
    (tested : Answer → Overlap → Type 0) (p : ℕ) where
  sources-in : (C : CoverOf) (push : State → ℕ → State) (ss : List RowSource) (rows : List (List ℕ))
      → C.answer.presentation.rank ≤ max_number → AllZip (IsRowOf M C push) ss rows → are_sources_in L run ss ≡ true
  sources-in C push [] rows few are = refl
  sources-in C push (s ∷ ss) [] few are = absurd are
  sources-in C push (s ∷ ss) (x ∷ rows) few are =
      both_true (named C.answer.presentation.rank s few are.0.numbers) (sources-in C push ss rows few are.1)

  fits-step : (A : Answer) (s : HeldStep) → IsHeldStep M meaning (full_cover_of A) (tested A) s → A.presentation.prime ≡ p
      → A.presentation.rank ≤ max_number → FitsCertificate L p run s
  fits-step A s held prime few = record {
    prime = held.prime ∙ prime;
    sources =
        sources-in (full_cover_of A) (meaning (rowed_presentation (cover_presentation (full_cover_of A)))) s.sources s.added few
        held.rows;
  }

  -- ranks rise
  rank-rises : (A : Answer) (ss : List HeldStep) (B : Answer) → AreHeldSteps M meaning full_cover_of tested A ss B
      → A.presentation.rank ≤ B.presentation.rank
  rank-rises A [] B all = subst (λ (D : Answer). A.presentation.rank ≤ D.presentation.rank) all (omega arith)
  rank-rises A (s ∷ ss) B all = let later = rank-rises (eliminated (full_cover_of A) s.rows) ss B all.2 in omega arith

  fit-steps : (A : Answer) (ss : List HeldStep) (B : Answer) → AreHeldSteps M meaning full_cover_of tested A ss B
      → A.presentation.prime ≡ p → B.presentation.rank ≤ max_number → FitCertificate L p run ss
  fit-steps A [] B all prime few = tt
  fit-steps A (s ∷ ss) B all prime few =
      let rises = rank-rises A (s ∷ ss) B all in
      (fits-step A s all.0 prime (omega arith), fit-steps (eliminated (full_cover_of A) s.rows) ss B all.2 prime few)

  -- the answer keeps the prime
  prime-stays : (A : Answer) (ss : List HeldStep) (B : Answer) → AreHeldSteps M meaning full_cover_of tested A ss B
      → A.presentation.prime ≡ p → B.presentation.prime ≡ p
  prime-stays A [] B all prime = subst (λ (D : Answer). D.presentation.prime ≡ p) all prime
  prime-stays A (s ∷ ss) B all prime = prime-stays (eliminated (full_cover_of A) s.rows) ss B all.2 prime

  fit-append : (ss : List HeldStep) (s : HeldStep) → FitCertificate L p run ss → FitsCertificate L p run s
      → FitCertificate L p run (ss ++ s ∷ [])
  fit-append [] s fit one = (one, tt)
  fit-append (t ∷ ss) s fit one = (fit.0, fit-append ss s fit.1 one)

  fit-run : (c : ℕ) (ss : List HeldStep) (B : Answer) → IsHeldRun M meaning full_cover_of tested p c ss B → B.presentation.rank ≤ max_rank
      → FitCertificate L p run ss
  fit-run c ss B (inl all) small = fit-steps (trivial_answer p M.names) ss B all.0 refl (omega arith)
  fit-run c ss B (inr h) small =
      subst (FitCertificate L p run) (sym h.all)
      (fit-append h.earlier h.last (fit-steps (trivial_answer p M.names) h.earlier B h.held refl (omega arith))
      (fits-step B h.last h.is_step (prime-stays (trivial_answer p M.names) h.earlier B h.held refl) (omega arith)))

-- the run over the whole
pub whole-fits : (L : LPresentation) (meaning : RowedPresentation → State → ℕ → State) (tested : Answer → Overlap → Type 0) (p c : ℕ)
    (ss : List HeldStep) (B : Answer) → IsHeldRun L meaning full_cover_of tested p c ss B → B.presentation.rank ≤ max_rank
    → FitCertificate L p run_of.Whole ss
whole-fits L meaning tested p c ss B held small = fit-run L L run_of.Whole (names-whole L) meaning tested p c ss B held small

-- the run over the iterated part
pub iterated-fits : (L : LPresentation) (meaning : RowedPresentation → State → ℕ → State) (tested : Answer → Overlap → Type 0) (p c : ℕ)
    (ss : List HeldStep) (B : Answer) → IsHeldRun (part L iterated_part) meaning full_cover_of tested p c ss B
    → B.presentation.rank ≤ max_rank → FitCertificate L p run_of.Iterated ss
iterated-fits L meaning tested p c ss B held small =
    fit-run L (part L iterated_part) run_of.Iterated (names-iterated L) meaning tested p c ss B held small
