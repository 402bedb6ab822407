-- The first passed trial of a list in two parts is that of the first part, or else that of the second. None is passed
-- exactly where all limits are kept.
use Rattle.std.proofs.Common.{◌≡◌, true, false, cond, nat_le, List, [], ◌∷◌, ◌++◌, Option, Some, None, refl, ◌∙◌, le-leb, subst}
use Rattle.std.proofs.lemmas.Bool.{cond-true}
use Rattle.lpres_reader.specs.Trials.{Trial, AreKept, most}
use Rattle.lpres_reader.specs.Verdicts.{first_passed}
use Rattle.lpres_reader.proofs.faults.FaultLaws.{IsFound, first_passed-found}

abbrev pub or_else : Option Trial → Option Trial → Option Trial
or_else None later = later
or_else (Some t) later = Some t

pub first_passed-append : (ts us : List Trial) → first_passed (ts ++ us) ≡ or_else (first_passed ts) (first_passed us)
first_passed-append [] us = refl
first_passed-append (t ∷ ts) us =
    elim (nat_le t.size (most t.limit))
    as (λ b. cond b (first_passed (ts ++ us)) (Some t) ≡ or_else (cond b (first_passed ts) (Some t)) (first_passed us)) [
      | true ↦ first_passed-append ts us
      | false ↦ refl
    ]

pub first_passed-kept : (ts : List Trial) → AreKept ts → first_passed ts ≡ None
first_passed-kept [] h = refl
first_passed-kept (t ∷ ts) h =
    cond-true (nat_le t.size (most t.limit)) (first_passed ts) (Some t) (le-leb t.size (most t.limit) h.0) ∙ first_passed-kept ts h.1

pub kept-first_passed : (ts : List Trial) → first_passed ts ≡ None → AreKept ts
kept-first_passed ts e = subst (IsFound ts) e (first_passed-found ts)
