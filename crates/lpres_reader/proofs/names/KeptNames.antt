-- Names that are kept in order and without repetition: which place a name has, and when it is not among them.
use Rattle.std.proofs.Common.{◌≡◌, ◌≢◌, ℕ, ◌<◌, Bool, true, eqb, position, List, [], ◌∷◌, ◌++◌, length, get_or, Some, None, Contains, sym}
use Rattle.std.proofs.Common.{◌∙◌, arith}
use Rattle.std.specs.List.{list_any, IsDistinct}
use Rattle.std.specs.Cmp.Lexicographic.{pointwise, bytes_decides}
use Rattle.std.proofs.lemmas.List.Quantifiers.{position-Some}
use Rattle.std.proofs.lemmas.Bool.{true≢false}
use Rattle.std.proofs.lemmas.Map.Made.{AllPairs-from_IsDistinct}
use Rattle.std.proofs.Math.ListN.{get_or-append}
use Rattle.std.proofs.Math.Seq.{get_or-append_seam}
use Rattle.std.proofs.lemmas.List.{length-append, get_or_default}
use Rattle.indexmap.proofs.CallerLemmas.{Contains-list_any}
use Rattle.lpres_reader.proofs.faults.Positions.{position-none}
use Rattle.pq_base.specs.LPresentation.{AreDistinct}

-- two names are the same
abbrev pub same_name : List ℕ → List ℕ → Bool
same_name a b = pointwise eqb a b

pub place_found : (names : List (List ℕ)) (text : List ℕ) (k : ℕ) → position (same_name text) names ≡ Some k
    → (k < length names) × (get_or names k [] ≡ text)
place_found names text k e =
    let p = position-Some (same_name text) names k [] e in
    (p.0, sym ((bytes_decides text (get_or names k [])).0 p.1))

pub place_missing : (names : List (List ℕ)) (text : List ℕ) (k : ℕ) → position (same_name text) names ≡ None → k < length names
    → get_or names k [] ≢ text
place_missing names text k e h same =
    let fails = position-none (same_name text) names k [] e h in
    true≢false (sym ((bytes_decides text (get_or names k [])).1 (sym same)) ∙ fails)

pub name_among : (names : List (List ℕ)) (text : List ℕ) → list_any (same_name text) names ≡ true → Contains names text
name_among names text h = Contains-list_any same_name (λ x y e. (bytes_decides x y).0 e) names text h

pub AreDistinct-from_unique : (names : List (List ℕ)) → IsDistinct same_name names → AreDistinct names
AreDistinct-from_unique names h i j lt short = AllPairs-from_IsDistinct bytes_decides names h i j [] lt short

-- a name that comes again spoils it
pub repeated_name : (names : List (List ℕ)) (text : List ℕ) (others : List (List ℕ)) → Contains names text
    → AreDistinct (names ++ text ∷ others) → ⊥
repeated_name names text others there distinct =
    let k = there.0 in
    let short : k < length names = there.1 in
    let all = names ++ text ∷ others in
    let long : length names < length all = omega (arith, length-append names (text ∷ others)) in
    let same : get_or names k text ≡ text = there.2 in
    let here : get_or all k [] ≡ text = get_or-append names (text ∷ others) [] k short ∙ get_or_default names k [] text short ∙ same in
    distinct k (length names) short long (here ∙ sym (get_or-append_seam names text others []))
