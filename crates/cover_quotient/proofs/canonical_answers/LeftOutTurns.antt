-- The entries of a list are met in turn where those of a part of it are, and the entries that are left out define nothing.
use Rattle.std.proofs.Common.{◌≡◌, ◌≢◌, ℕ, suc, List, [], ◌∷◌, inl, inr, refl, sym, subst}
use Rattle.std.specs.List.{All, AllPairs}
use Rattle.std.proofs.lemmas.List.Elements.{All-head, All-tail}
use Rattle.pq_base.specs.Answer.{Answer, Definition as Source}
use Rattle.pq_base.specs.Canonical.{DefinesNone, AreMet}
use Rattle.pq_base.proofs.ListMembers.{In, Contains-from_In}
use Rattle.p_cover.specs.Sources.{IsPartOf}
use Rattle.p_cover.specs.Sources.IsPartOf.{nothing, left_out, taken}
use Rattle.p_cover.proofs.ListPairs.{AllPairs-head, AllPairs-tail}

In-part : {ds es : List Source} → IsPartOf ds es → (x : Source) → In x ds → In x es
In-part nothing x h = h
In-part (left_out {ds} {es} e part) x h = inr (In-part part x h)
In-part (taken {ds} {es} e part) x (inl same) = inl same
In-part (taken {ds} {es} e part) x (inr later) = inr (In-part part x later)

-- an entry that is apart from all later ones is none of them
never : (e : Source) (es : List Source) → AllPairs (λ d f. d ≢ f) (e ∷ es) → In e es → ⊥
never e es apart h =
    let at = Contains-from_In e es h in
    AllPairs-head (λ d f. d ≢ f) e es apart at.0 e at.1 (sym at.2)

module _ (A : Answer) (k : ℕ) (P : Source → Type 0) (whole : List Source)
    (none : (d : Source) → P d → (In d whole → ⊥) → (met : ℕ) → DefinesNone A k met d) where
  pub met-whole : {ds es : List Source} → IsPartOf ds es → AllPairs (λ d e. d ≢ e) es → All P es
      → ((x : Source) → In x whole → In x es → In x ds) → (met : ℕ) → AreMet A k met ds → AreMet A k met es
  met-whole nothing apart all inside met h = h
  met-whole (left_out {ds} {es} e part) apart all inside met h =
      inr (
        none e (All-head P e es all) (λ c. never e es apart (In-part part e (inside e c (inl refl)))) met,
        met-whole part (AllPairs-tail (λ d f. d ≢ f) e es apart) (All-tail P e es all) (λ x c i. inside x c (inr i)) met h,
      )
  met-whole (taken {ds} {es} e part) apart all inside met h =
      let rest : (x : Source) → In x whole → In x es → In x ds =
      λ x c i. elim (inside x c (inr i)) [
        | inl same ↦ absurd (never e es apart (subst (λ (y : Source). In y es) (sym same) i))
        | inr later ↦ later
      ] in
      elim h [
        | inl next ↦ inl (next.0, met-whole part (AllPairs-tail (λ d f. d ≢ f) e es apart) (All-tail P e es all) rest (suc met) next.1)
        | inr pass ↦ inr (pass.0, met-whole part (AllPairs-tail (λ d f. d ≢ f) e es apart) (All-tail P e es all) rest met pass.1)
      ]
