-- What stands in front of an answer is read part by part: each part leads to the place behind it, and a fault of a later part is one of
-- all.
use Rattle.std.proofs.Common.{◌≡◌, ◌+◌, ℕ, suc, List, ◌∷◌, ◌++◌, length, refl, ap, sym, ◌∙◌, append_assoc, arith}
use Rattle.std.specs.Prelude.{codes}
use Rattle.std.specs.Fmt.{digits}
use Rattle.std.proofs.lemmas.List.{length-append}
use Rattle.pq_base.specs.LPresentation.{LPresentation}
use Rattle.pq_base.specs.Lines.{text_of_lines}
use Rattle.pq_base.specs.Prime.{IsOffered}
use Rattle.pq_base.proofs.LineLaws.{text_of_lines-append}
use Rattle.lpres_reader.specs.CanonicalText.{canonical_lines}
use Rattle.answer_text.specs.AnswerPlaces.{prime_line, class_line}
use Rattle.derivation_log.specs.declared.source.Run.TheVariants.{Whole}
use Rattle.derivation_log.specs.Certificates.{StepLines, has_two_runs}
use Rattle.cert_text.specs.declared.fault.CertFault.{CertFault}
use Rattle.cert_text.specs.declared.fault.CertFault.TheVariants.{Line}
use Rattle.cert_text.specs.CertificateText.{version_line, run_lines, iterated_lines}
use Rattle.cert_text.specs.CertificatePlaces.{head_of, IsHead}
use Rattle.cert_text.specs.CertificatePlaces.Place.{for_version, for_generators, in_presentation, for_class, for_run}
use Rattle.cert_text.specs.CertificatePlaces.HasForm.{version, prime, class}
use Rattle.cert_text.specs.ReadSoFar.{IsBadAt, IsPresentationRead, IsSizeRead, AreRunsRead, IsFrontRead, lines_in_front}
use Rattle.cert_text.proofs.lines.BadLines.{IsBadAt-here, IsBadAt-next, IsBadAt-behind}
use Rattle.cert_text.proofs.lines.PresentationLeads.{presentation-leads}
use Rattle.cert_text.proofs.lines.StuckPlaces.{no-version}

version-cut : (text : List ℕ) → codes "certificate 1\n" ++ text ≡ version_line 1 ++ 10 ∷ text
unfolding digits
version-cut text = refl

pub version-bad : (bytes : List ℕ) → ((rest : List ℕ) → ¬ (bytes ≡ codes "certificate 1\n" ++ rest)) → IsBadAt for_version bytes 1 (Line 1)
version-bad bytes none =
    IsBadAt-here for_version bytes 1
    (λ l rest Q f e. no-version l (λ same. none rest (e ∙ ap (λ (x : List ℕ). x ++ 10 ∷ rest) same ∙ sym (version-cut rest))) Q f)
    (λ end. end)

module _ (bytes text : List ℕ) (cut : bytes ≡ codes "certificate 1\n" ++ text) where
  -- the presentation has the fault
  pub presentation-fault : (fault : CertFault) → IsBadAt for_generators text 2 fault → IsBadAt for_version bytes 1 fault
  presentation-fault fault bad = IsBadAt-next for_version for_generators (version_line 1) bytes text 1 2 fault version
      (cut ∙ version-cut text) refl bad

  module _ (L : LPresentation) (rest : List ℕ) (number : ℕ) (read : IsPresentationRead text 2 L rest number) where
    -- the lines behind the presentation have it
    pub size-fault : (fault : CertFault) → IsBadAt (in_presentation L) rest number fault → IsBadAt for_version bytes 1 fault
    size-fault fault bad =
        presentation-fault fault
        (IsBadAt-behind for_generators (in_presentation L) (canonical_lines L) text rest 2 number fault
        (presentation-leads L read.presentation) read.lines read.numbered bad)

    module _ (p c : ℕ) (more : List ℕ) (offered : IsOffered p) (size : IsSizeRead rest p c more) where
      -- the runs have it
      pub runs-fault : (fault : CertFault) → IsBadAt (for_run (head_of L p c)) more (number + 2) fault → IsBadAt for_version bytes 1 fault
      runs-fault fault bad =
          let second : number + 2 ≡ number + 1 + 1 = omega arith in
          size-fault fault
          (IsBadAt-next (in_presentation L) (for_class L p) (prime_line p) rest (class_line c ++ 10 ∷ more) number (number + 1) fault
          (prime L p offered) size.lines refl
          (IsBadAt-next (for_class L p) (for_run (head_of L p c)) (class_line c) (class_line c ++ 10 ∷ more) more (number + 1)
          (number + 2) fault (class L p c size.from_one size.limit) refl second bad))

      pub is_head : IsHead (head_of L p c)
      is_head = record { presentation = read.presentation; offered = offered }

      -- all was read
      pub front-read : (iterated whole : List StepLines) (left : List ℕ) (last : ℕ)
          → AreRunsRead L p more (number + 2) iterated whole left last
          → IsFrontRead bytes (head_of L p c) iterated whole left last
      front-read iterated whole left last runs = record {
        front = record {
          head = is_head;
          from_one = size.from_one;
          limit = size.limit;
          one_run = runs.one_run;
          iterated_steps = runs.iterated_steps;
          whole_steps = runs.whole_steps;
        };
        lines = lines;
        numbered = numbered;
      } where
        both : List (List ℕ)
        both = iterated_lines (has_two_runs L) iterated ++ run_lines Whole whole

        end : List ℕ
        end = codes "answer" ++ 10 ∷ left

        grouped : (a b d : List ℕ) (ls ks : List (List ℕ)) (t : List ℕ)
            → a ++ 10 ∷ (text_of_lines ls ++ (b ++ 10 ∷ (d ++ 10 ∷ (text_of_lines ks ++ t)))) ≡ text_of_lines
            (a ∷ (ls ++ (b ∷ d ∷ ks))) ++ t
        grouped a b d ls ks t = simp (text_of_lines-append, append_assoc)

        lines : bytes ≡ text_of_lines (lines_in_front (head_of L p c) iterated whole) ++ end
        lines =
            cut ∙ version-cut text ∙ ap (λ (t : List ℕ). version_line 1 ++ 10 ∷ t) (read.lines
            ∙ ap (λ (t : List ℕ). text_of_lines (canonical_lines L) ++ t)
            (size.lines ∙ ap (λ (t : List ℕ). prime_line p ++ 10 ∷ (class_line c ++ 10 ∷ t)) runs.lines))
            ∙ grouped (version_line 1) (prime_line p) (class_line c) (canonical_lines L) both end

        numbered : last ≡ length (lines_in_front (head_of L p c) iterated whole) + 2
        numbered =
            let parts : length (canonical_lines L ++ (prime_line p ∷ class_line c ∷ both)) ≡ length (canonical_lines L) + suc
            (suc (length both)) = length-append (canonical_lines L) (prime_line p ∷ class_line c ∷ both) in
            let first : number ≡ 2 + length (canonical_lines L) = read.numbered in
            let is : last ≡ number + 2 + suc (length both) = runs.numbered in
            omega arith
