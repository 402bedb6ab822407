-- Of what is asked in order the first that fails decides: so there is at most one fault, and none where all holds.
use Rattle.std.proofs.Common.{◌≡◌, ◌<◌, List, [], ◌∷◌, ◌++◌, refl, sym, ap, subst, ◌∙◌, ◌⊎◌, inl, inr, arith, nat_le, leb-true, leb-false}
use Rattle.std.proofs.Common.{Option, Some, None, MatchOption}
use Rattle.std.proofs.lemmas.Bool.{cond_both}
use Rattle.lpres_reader.specs.Trials.{Trial, Keeps, AreKept, most, IsFirstPassed, reported}
use Rattle.lpres_reader.specs.Verdicts.{first_passed}
use Rattle.lpres_reader.specs.Faults.{Kind, Limit, Unless, fails, holds, UnlessPassed, passed, kept}

-- the first passed trial, by recursion
abbrev PassedAt : List Trial → Trial → Type 0
PassedAt [] t = ⊥
PassedAt (s ∷ ts) t = ((most s.limit < s.size) × (s ≡ t)) ⊎ (Keeps s × PassedAt ts t)

passed_at : (ts before after : List Trial) (t : Trial) → ts ≡ before ++ t ∷ after → AreKept before → most t.limit < t.size → PassedAt ts t
passed_at [] [] after t e h over = absurd (cc e)
passed_at [] (b ∷ before) after t e h over = absurd (cc e)
passed_at (s ∷ ts) [] after t e h over =
    let is : s ≡ t = cc in
    inl (subst (λ (x : Trial). most x.limit < x.size) (sym is) over, is)
passed_at (s ∷ ts) (b ∷ before) after t e h over =
    let is : b ≡ s = cc in
    let rest : ts ≡ before ++ t ∷ after = cc in
    inr (subst Keeps is h.0, passed_at ts before after t rest h.1 over)

kept_not_passed : (ts : List Trial) (t : Trial) → AreKept ts → PassedAt ts t → ⊥
kept_not_passed [] t h p = p
kept_not_passed (s ∷ ts) t h (inl here) =
    let small = h.0 in
    let large = here.0 in
    omega arith
kept_not_passed (s ∷ ts) t h (inr later) = kept_not_passed ts t h.1 later.1

passed_alike : (ts : List Trial) (t u : Trial) → PassedAt ts t → PassedAt ts u → t ≡ u
passed_alike [] t u p q = absurd p
passed_alike (s ∷ ts) t u (inl here) (inl there) = sym here.1 ∙ there.1
passed_alike (s ∷ ts) t u (inl here) (inr later) = absurd (let large = here.0 in let small = later.0 in omega arith)
passed_alike (s ∷ ts) t u (inr later) (inl there) = absurd (let large = there.0 in let small = later.0 in omega arith)
passed_alike (s ∷ ts) t u (inr p) (inr q) = passed_alike ts t u p.1 q.1

-- the first passed trial is found, and none is found where all limits are kept
abbrev pub IsFound : List Trial → Option Trial → Type 0
IsFound ts o = MatchOption o (AreKept ts) (IsFirstPassed ts)

found_behind : (s : Trial) (ts : List Trial) (o : Option Trial) → Keeps s → IsFound ts o → IsFound (s ∷ ts) o
found_behind s ts None small all = (small, all)
found_behind s ts (Some t) small p = record {
  before = s ∷ p.before;
  after = p.after;
  place = ap (λ (l : List Trial). s ∷ l) p.place;
  kept = (small, p.kept);
  passed = p.passed;
}

pub first_passed-found : (ts : List Trial) → IsFound ts (first_passed ts)
first_passed-found [] = tt
first_passed-found (s ∷ ts) =
    cond_both (nat_le s.size (most s.limit)) (first_passed ts) (Some s) (IsFound (s ∷ ts))
    (λ e. found_behind s ts (first_passed ts) (leb-true s.size (most s.limit) e) (first_passed-found ts))
    (λ e. record { before = []; after = ts; place = refl; kept = tt; passed = leb-false s.size (most s.limit) e })

pub passed_not_kept : (ts : List Trial) (t : Trial) → IsFirstPassed ts t → AreKept ts → ⊥
passed_not_kept ts t p h = kept_not_passed ts t h (passed_at ts p.before p.after t p.place p.kept p.passed)

pub passed_unique : (ts : List Trial) (t u : Trial) → IsFirstPassed ts t → IsFirstPassed ts u → t ≡ u
passed_unique ts t u p q =
    passed_alike ts t u (passed_at ts p.before p.after t p.place p.kept p.passed) (passed_at ts q.before q.after u q.place q.kept q.passed)

module _ (P : Type 0) (kind : Kind) (Next : P → Kind → Type 0) where
  pub Unless-unique : (k l : Kind) → ((p q : P) → Next p k → Next q l → k ≡ l) → Unless P kind Next k → Unless P kind Next l → k ≡ l
  Unless-unique k l next (fails n e) (fails m f) = e ∙ sym f
  Unless-unique k l next (fails n e) (holds q g) = absurd (n q)
  Unless-unique k l next (holds p h) (fails m f) = absurd (m p)
  Unless-unique k l next (holds p h) (holds q g) = next p q h g

  -- where it holds, what is asked next decides
  pub Unless-next : (k : Kind) → P → Unless P kind Next k → (p : P) × Next p k
  Unless-next k p (fails n e) = absurd (n p)
  Unless-next k p (holds q h) = (q, h)

module _ (trials : List Trial) (Next : Kind → Type 0) where
  pub UnlessPassed-unique : (k l : Kind) → (Next k → Next l → k ≡ l) → UnlessPassed trials Next k → UnlessPassed trials Next l → k ≡ l
  UnlessPassed-unique k l next (passed t p e) (passed u q f) =
      e ∙ ap (λ (s : Trial). Limit s.limit (reported s.limit s.size)) (passed_unique trials t u p q) ∙ sym f
  UnlessPassed-unique k l next (passed t p e) (kept h n) = absurd (passed_not_kept trials t p h)
  UnlessPassed-unique k l next (kept h n) (passed u q f) = absurd (passed_not_kept trials u q h)
  UnlessPassed-unique k l next (kept h n) (kept g m) = next n m

  pub UnlessPassed-next : (k : Kind) → AreKept trials → UnlessPassed trials Next k → Next k
  UnlessPassed-next k h (passed t p e) = absurd (passed_not_kept trials t p h)
  UnlessPassed-next k h (kept g n) = n
