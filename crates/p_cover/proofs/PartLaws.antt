-- A list that is made of another by leaving out entries is no longer, and what each entry of the one is, each of the other is.
use Rattle.std.proofs.Common.{◌≤◌, ℕ, zero, suc, List, [], ◌∷◌, length, take, arith}
use Rattle.std.specs.Prelude.{All}
use Rattle.std.proofs.lemmas.List.Elements.{All-nil, All-cons, All-head, All-tail}
use Rattle.pq_base.specs.Answer.{Definition as Source}
use Rattle.p_cover.specs.Sources.{IsPartOf}
use Rattle.p_cover.specs.Sources.IsPartOf.{nothing, left_out, taken}

pub part-length : {ds es : List Source} → IsPartOf ds es → length ds ≤ length es
part-length nothing = omega arith
part-length (left_out e h) = omega (arith, part-length h)
part-length (taken e h) = omega (arith, part-length h)

pub All-part : (P : Source → Type 0) {ds es : List Source} → IsPartOf ds es → All P es → All P ds
All-part P nothing all = All-nil P
All-part P (left_out {ds} {es} e h) all = All-part P h (All-tail P e es all)
All-part P (taken {ds} {es} e h) all = All-cons P e ds (All-head P e es all) (All-part P h (All-tail P e es all))

pub part_of_itself : (ds : List Source) → IsPartOf ds ds
part_of_itself [] = nothing
part_of_itself (d ∷ ds) = taken d (part_of_itself ds)

pub no_entries : (ds : List Source) → IsPartOf [] ds
no_entries [] = nothing
no_entries (d ∷ ds) = left_out d (no_entries ds)

-- a beginning of a list
pub first_entries : (n : ℕ) (ds : List Source) → IsPartOf (take n ds) ds
first_entries zero ds = no_entries ds
first_entries (suc n) [] = nothing
first_entries (suc n) (d ∷ ds) = taken d (first_entries n ds)
