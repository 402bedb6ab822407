-- The answers that the steps of a certificate reach: what is kept of them from one step to the next.
-- From: Newman and O'Brien's p-quotient method, one term of the lower exponent-p series after the other.
use Rattle.std.specs.Prelude.{◌≡◌, ◌<◌, ◌≤◌, ℕ, List, length}
use Rattle.std.specs.List.{All}
use Rattle.pq_base.specs.Limits.{max_class, max_names}
use Rattle.pq_base.specs.LPresentation.{LPresentation, IsLPresentation}
use Rattle.pq_base.specs.Prime.{IsOffered}
use Rattle.pq_base.specs.Series.{HasClass}
use Rattle.pq_base.specs.Answer.{Answer, Definition as Source, class_of}
use Rattle.fp_echelon.specs.Span.{AreRows}
use Rattle.fp_echelon.specs.Reduced.{BasisRow}
use Rattle.pc_presentation.specs.Parts.{trivial_answer}
use Rattle.pc_presentation.specs.Collection.{plain_push}
use Rattle.pc_presentation.specs.Tailed.{rowed_presentation}
use Rattle.p_cover.specs.Covers.{CoverOf, IsCover, cover_presentation}
use Rattle.cover_quotient.specs.AnswerLaws.{IsBasisOver, kept_count}
use Rattle.cover_quotient.specs.Defining.{MayBeKept}
use Rattle.cover_quotient.specs.NextAnswer.{kept_sources, eliminated}
use Rattle.cover_quotient.specs.Stages.{Obeying, IsTrustedOver, IsFitted, OwesToObeying}
use Rattle.derivation_log.specs.declared.source.RowSource.{RowSource}
use Rattle.derivation_log.specs.RowSources.{AreRowsOf}
use Rattle.derivation_log.specs.Certificates.{Certificate}
use Rattle.derivation_log.specs.CertificateForms.{IsCertificate}
use Rattle.derivation_log.specs.CertificateParts.{CertificateKind}

-- a certificate with the conditions of its text and of its parts; of its answer nothing is asked but its prime and its names
pub record HasForm (c : Certificate) : Type 0 where
  pub words : IsLPresentation c.presentation
  pub some_name : 1 ≤ length c.presentation.names
  pub name_limit : length c.presentation.names ≤ max_names
  pub offered : IsOffered c.prime
  pub form : IsCertificate c

-- a kind whose covers are of the answers that are covered, and which lets no step keep tails but those that may be kept
pub record IsSoundKind (kind : CertificateKind) : Type 0 where
  pub same_answer : (A : Answer) → (kind.cover A).answer ≡ A
  pub may_keep : (A : Answer) (d : Source) → kind.may_keep A d → MayBeKept A (class_of A) d

-- rows that are to be trivial wherever a presentation is obeyed
pub record AreTrusted (L : LPresentation) (C : CoverOf) (rows : List (List ℕ)) : Type 0 where
  pub are : AreRows C.answer.presentation.prime (length C.sources) rows
  pub trusted : All (IsTrustedOver (Obeying L) L.names C) rows

-- the rows of sources by the plain rule are
abbrev pub RowsOfSourcesAreTrusted : Type 0
RowsOfSourcesAreTrusted = (L : LPresentation) (C : CoverOf) (sources : List RowSource) (rows : List (List ℕ)) → IsLPresentation L
    → IsCover C → IsOffered C.answer.presentation.prime → C.answer.names ≡ L.names
    → AreRowsOf L C (plain_push (rowed_presentation (cover_presentation C))) sources rows → AreTrusted L C rows

-- an answer of class k that shows it, which all elements that obey a presentation fit at level k, and which has no greater class
pub record IsReached (L : LPresentation) (p k : ℕ) (A : Answer) : Type 0 where
  pub fitted : IsFitted L p k A
  pub shows : class_of A ≡ k
  pub class : HasClass A.presentation k

-- what else is kept of the answers that are reached: it holds of the trivial answer, is handed on by steps that keep tails which the kind
-- lets them keep, and what the covers leave out holds by it wherever the answer that is covered fits
pub record IsHandedOn (kind : CertificateKind) (Holds : Answer → Type 0) : Type 0 where
  pub start : (p : ℕ) (names : List (List ℕ)) → Holds (trivial_answer p names)
  pub owes : (L : LPresentation) (p k : ℕ) (A : Answer) → IsReached L p k A → Holds A → OwesToObeying L (kind.cover A)
  pub grows : (A : Answer) (bs : List BasisRow) → IsBasisOver (kind.cover A) bs → class_of (kind.cover A).answer < max_class
      → 1 ≤ kept_count (kind.cover A) bs → All (kind.may_keep (kind.cover A).answer) (kept_sources (kind.cover A) bs)
      → Holds A → Holds (eliminated (kind.cover A) bs)
