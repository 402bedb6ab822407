-- At class 0 each kept tail of a cover may define a generator, since its source is an image.
use Rattle.std.proofs.Common.{◌≡◌, ◌≤◌, ◌-◌, not, ℕ, List, [], ◌∷◌, length, get_or, sym, subst, arith, inl, inr}
use Rattle.std.specs.Prelude.{All}
use Rattle.std.proofs.Math.ListN.{get_or-eq_default}
use Rattle.std.proofs.lemmas.Bool.{cases_lt}
use Rattle.std.proofs.lemmas.List.Elements.{All-nil, All-cons, All-filter, All-map}
use Rattle.pq_base.specs.Answer.{Answer, Definition as Source, class_of}
use Rattle.pq_base.specs.Answer.Definition.{image}
use Rattle.pq_base.specs.Canonical.{numbers_from, is_among, preferred, want_order}
use Rattle.fp_echelon.specs.Reduced.{BasisRow}
use Rattle.p_cover.specs.Sources.{IsPartOf}
use Rattle.p_cover.specs.Covers.{CoverOf, all_sources}
use Rattle.p_cover.proofs.PartLaws.{All-part}
use Rattle.cover_quotient.specs.Kept.{kept_columns}
use Rattle.cover_quotient.specs.NextAnswer.{sources_at}
use Rattle.cover_quotient.specs.Defining.{MayDefine, KeptMayDefine}

image_may : (A : Answer) (n : ℕ) → MayDefine A 0 (image n)
image_may A n = record { kept = tt; allowed = tt }

-- at class 0 all sources are images
wanted_may : (A : Answer) → class_of A ≡ 0 → All (MayDefine A 0) (all_sources A)
wanted_may A none =
    subst (λ (k : ℕ). All (MayDefine A 0) (want_order A k)) (sym none)
    (All-filter (λ d. not (is_among d A.definitions)) (MayDefine A 0) (preferred A 0)
    (All-map (MayDefine A 0) image (numbers_from 1 (length A.names)) (λ k d l. image_may A _)))

entry_may : (A : Answer) (ds : List Source) (i : ℕ) → All (MayDefine A 0) ds → MayDefine A 0 (get_or ds i (image 0))
entry_may A ds i all = elim (cases_lt i (length ds)) [
  | inl within ↦ all i (image 0) within
  | inr past ↦
      subst (MayDefine A 0) (sym (get_or-eq_default ds (image 0) (let h : length ds ≤ i = omega arith in h))) (image_may A 0)
]

entries_may : (A : Answer) (ds : List Source) (cs : List ℕ) → All (MayDefine A 0) ds → All (MayDefine A 0) (sources_at cs ds)
entries_may A ds [] all = All-nil (MayDefine A 0)
entries_may A ds (c ∷ cs) all =
    All-cons (MayDefine A 0) (get_or ds (c - 1) (image 0)) (sources_at cs ds) (entry_may A ds (c - 1) all) (entries_may A ds cs all)

pub first_tails_may : (C : CoverOf) (bs : List BasisRow) → class_of C.answer ≡ 0 → IsPartOf C.sources (all_sources C.answer)
    → KeptMayDefine C bs
first_tails_may C bs none part =
    subst (λ (k : ℕ). All (MayDefine C.answer k) (sources_at (kept_columns (length C.sources) bs) C.sources)) (sym none)
    (entries_may C.answer C.sources (kept_columns (length C.sources) bs) (All-part (MayDefine C.answer 0) part (wanted_may C.answer none)))
