-- The tests tell what is asked of a line: brackets, tokens, known names, distinct names.
use Rattle.std.proofs.Common.{◌≡◌, ◌≤◌, ◌<◌, ℕ, zero, suc, ◌+◌, Bool, true, false, cond, eqb, List, [], ◌∷◌, length, length-drop, take}
use Rattle.std.proofs.Common.{get_or, count_by, Option, Some, None, refl, sym, ap, subst, ◌∙◌, arith, ◌&&◌, nat_le, leb-true, le-leb}
use Rattle.std.proofs.Common.{is_some, is_none, option_map, MatchOption, Decides}
use Rattle.std.specs.List.{prefix_len}
use Rattle.std.specs.Char.{is_ascii_digit}
use Rattle.std.proofs.lemmas.Bool.{cond_both, cond-true, or_left, and_parts, and_from, true≢false}
use Rattle.std.proofs.lemmas.Bool.Decides.{Decides-and}
use Rattle.std.proofs.lemmas.List.Sums.{sum_by-cons}
use Rattle.pq_base.specs.Name.{is_letter, is_name_byte}
use Rattle.pq_base.specs.LPresentation.{AreDistinct}
use Rattle.lpres_reader.specs.declared.token.Symbol.{Symbol}
use Rattle.lpres_reader.specs.declared.token.Symbol.TheVariants.{Arrow, Minus}
use Rattle.lpres_reader.specs.Lines.{is_blank, is_opening, is_closing, IsShallow}
use Rattle.lpres_reader.specs.Tokens.{Token, name, number, symbol, ReadsTokens}
use Rattle.lpres_reader.specs.Front.{Front, line_end, no_token, token_first, symbol_of, front_at_symbol, front_at_minus, front_at_run}
use Rattle.lpres_reader.specs.Front.{front_of}
use Rattle.lpres_reader.specs.Trees.{place_of, AreKnown}
use Rattle.lpres_reader.specs.Verdicts.{one_if, shallow_from, is_shallow, tokens_at, tokens_within, tokens_of, are_known, are_distinct}
use Rattle.lpres_reader.proofs.texts.FrontLemmas.{Follows, follows, tells}
use Rattle.lpres_reader.proofs.names.Places.{place_of-Some, place_of-None}

-- brackets, where some are open and some more may be
abbrev pub ShallowFrom : ℕ → ℕ → List ℕ → Type 0
ShallowFrom opened allowed line = (n : ℕ) → count_by is_opening (take n line) + opened ≤ count_by is_closing (take n line) + allowed

pub is_one_if : (b : Bool) → cond b 1 0 ≡ one_if b
is_one_if true = refl
is_one_if false = refl

count_step : (p : ℕ → Bool) (b : ℕ) (line : List ℕ) (n : ℕ) → count_by p (take (suc n) (b ∷ line)) ≡ one_if (p b) + count_by p (take n line)
count_step p b line n = sum_by-cons (λ x. cond (p x) 1 0) b (take n line) ∙ ap (λ (k : ℕ). k + count_by p (take n line)) (is_one_if (p b))

moved : (x y a c o m : ℕ) → a + (x + o) ≤ c + (y + m) → (x + a) + o ≤ (y + c) + m
moved x y a c o m h = omega arith

moved_back : (x y a c o m : ℕ) → (x + a) + o ≤ (y + c) + m → a + (x + o) ≤ c + (y + m)
moved_back x y a c o m h = omega arith

pub shallow_nil : (o m n : ℕ) → o ≤ m → count_by is_opening (take n []) + o ≤ count_by is_closing (take n []) + m
shallow_nil o m zero h = omega arith
shallow_nil o m (suc n) h = omega arith

pub shallow_cons : (b : ℕ) (line : List ℕ) (o m : ℕ) → o ≤ m → ShallowFrom (one_if (is_opening b) + o) (one_if (is_closing b) + m) line
    → ShallowFrom o m (b ∷ line)
shallow_cons b line o m h rest zero = omega arith
shallow_cons b line o m h rest (suc n) =
    subst (λ (x : ℕ). x + o ≤ count_by is_closing (take (suc n) (b ∷ line)) + m) (sym (count_step is_opening b line n))
    (subst (λ (y : ℕ). (one_if (is_opening b) + count_by is_opening (take n line)) + o ≤ y + m) (sym (count_step is_closing b line n))
    (moved (one_if (is_opening b)) (one_if (is_closing b)) (count_by is_opening (take n line)) (count_by is_closing (take n line)) o m
    (rest n)))

pub shallow_tail : (b : ℕ) (line : List ℕ) (o m : ℕ) → ShallowFrom o m (b ∷ line)
    → ShallowFrom (one_if (is_opening b) + o) (one_if (is_closing b) + m) line
shallow_tail b line o m h n =
    moved_back (one_if (is_opening b)) (one_if (is_closing b)) (count_by is_opening (take n line)) (count_by is_closing (take n line)) o m
    (subst (λ (x : ℕ). x + o ≤ (one_if (is_closing b) + count_by is_closing (take n line)) + m) (count_step is_opening b line n)
    (subst (λ (y : ℕ). count_by is_opening (take (suc n) (b ∷ line)) + o ≤ y + m) (count_step is_closing b line n) (h (suc n))))

shallow_from-Decides : (line : List ℕ) (o m : ℕ) → Decides (shallow_from o m line) (ShallowFrom o m line)
shallow_from-Decides [] o m = (
  λ e n. shallow_nil o m n (leb-true o m e),
  λ h. let first : count_by is_opening [] + o ≤ count_by is_closing [] + m = h 0 in
      le-leb o m (omega arith),
)
shallow_from-Decides (b ∷ line) o m =
    let rest = shallow_from-Decides line (one_if (is_opening b) + o) (one_if (is_closing b) + m) in (
      λ e. let both = and_parts (nat_le o m) (shallow_from (one_if (is_opening b) + o) (one_if (is_closing b) + m) line) e in
          shallow_cons b line o m (leb-true o m both.0) (rest.0 both.1),
      λ h. let first : count_by is_opening [] + o ≤ count_by is_closing [] + m = h 0 in
          and_from (nat_le o m) _ (le-leb o m (omega arith)) (rest.1 (shallow_tail b line o m h)),
    )

pub is_shallow-Decides : (line : List ℕ) → Decides (is_shallow line) (IsShallow line)
is_shallow-Decides line =
    let d = shallow_from-Decides line 0 64 in
    (λ e n. let here = d.0 e n in omega arith, λ h. d.1 (λ n. let here = h n in omega arith))

-- behind a token less is left
abbrev LeavesLess : ℕ → Front → Type 0
LeavesLess n line_end = Unit {0}
LeavesLess n no_token = Unit {0}
LeavesLess n (token_first t rest) = length rest < n

run_leaves_less : (token : List ℕ → Token) (test : ℕ → Bool) (b : ℕ) (rest : List ℕ) → test b ≡ true
    → LeavesLess (length (b ∷ rest)) (front_at_run token test (b ∷ rest))
run_leaves_less token test b rest e =
    let long : prefix_len test (b ∷ rest) ≡ 1 + prefix_len test rest = cond-true (test b) (1 + prefix_len test rest) 0 e in
    omega (arith, length-drop (prefix_len test (b ∷ rest)) (b ∷ rest))

symbol_leaves_less : (o : Option Symbol) (rest : List ℕ) (n : ℕ) → length rest < n → LeavesLess n (front_at_symbol o rest)
symbol_leaves_less None rest n h = tt
symbol_leaves_less (Some s) rest n h = h

minus_leaves_less : (rest : List ℕ) (n : ℕ) → length rest < n → LeavesLess n (front_at_minus rest)
minus_leaves_less [] n h = h
minus_leaves_less (b ∷ rest) n h =
    cond_both (eqb b 62) (token_first (symbol Arrow) rest) (token_first (symbol Minus) (b ∷ rest)) (LeavesLess n) (λ e. omega arith)
    (λ e. h)

front_leaves_less : (line : List ℕ) → LeavesLess (length line) (front_of line)
front_leaves_less [] = tt
front_leaves_less (b ∷ rest) =
    let line = b ∷ rest in
    let n : ℕ = length line in
    let at_symbol = front_at_symbol (symbol_of b) rest in
    let at_minus = cond (eqb b 45) (front_at_minus rest) at_symbol in
    let at_digit = cond (is_ascii_digit b) (front_at_run number is_ascii_digit line) at_minus in
    let here = cond (is_letter b) (front_at_run name is_name_byte line) at_digit in
    cond_both (is_blank b) (front_of rest) here (LeavesLess (length line))
    (λ _. less_before (front_of rest) (length rest) (front_leaves_less rest))
    (λ _. cond_both (is_letter b) (front_at_run name is_name_byte line) at_digit (LeavesLess (length line))
    (λ e. run_leaves_less name is_name_byte b rest (or_left (is_letter b) _ e))
    (λ _. cond_both (is_ascii_digit b) (front_at_run number is_ascii_digit line) at_minus (LeavesLess (length line))
    (λ e. run_leaves_less number is_ascii_digit b rest e)
    (λ _. cond_both (eqb b 45) (front_at_minus rest) at_symbol (LeavesLess (length line))
    (λ _. minus_leaves_less rest (length line) (omega arith))
    (λ _. symbol_leaves_less (symbol_of b) rest (length line) (omega arith)))))
  where
    less_before : (f : Front) (n : ℕ) → LeavesLess n f → LeavesLess (suc n) f
    less_before line_end n h = tt
    less_before no_token n h = tt
    less_before (token_first t r) n h = omega arith

-- the tokens of a line are found, and none are found where it has none
abbrev pub AreTokens : List ℕ → Option (List Token) → Type 0
AreTokens line o = MatchOption o ((ts : List Token) → ReadsTokens line ts → ⊥) (ReadsTokens line)

pub token_found : (line : List ℕ) (t : Token) (rest : List ℕ) (o : Option (List Token)) → front_of line ≡ token_first t rest
    → AreTokens rest o → AreTokens line (option_map (λ ts. t ∷ ts) o)
token_found line t rest None e never = λ ts d. let after = subst (λ (f : Front). Follows f ts) e (follows d) in never after.0 after.2
token_found line t rest (Some ts) e d = tells line (t ∷ ts) (subst (λ (f : Front). Follows f (t ∷ ts)) (sym e) (ts, refl, d))

tokens_found : (line : List ℕ) (more : List ℕ → Option (List Token)) (f : Front) → front_of line ≡ f
    → ((t : Token) (rest : List ℕ) → f ≡ token_first t rest → AreTokens rest (more rest)) → AreTokens line (tokens_at more f)
tokens_found line more line_end e rest = tells line [] (subst (λ (f : Front). Follows f []) (sym e) refl)
tokens_found line more no_token e rest = λ ts d. subst (λ (f : Front). Follows f ts) e (follows d)
tokens_found line more (token_first t r) e rest = token_found line t r (more r) e (rest t r refl)

tokens_within-found : (n : ℕ) (line : List ℕ) → length line ≤ n → AreTokens line (tokens_within n line)
tokens_within-found zero line small = tokens_found line (λ rest. None) (front_of line) refl (λ t rest e. absurd (
    let less : length rest < length line = subst (LeavesLess (length line)) e (front_leaves_less line) in omega arith))
tokens_within-found (suc n) line small = tokens_found line (tokens_within n) (front_of line) refl (λ t rest e.
    let less : length rest < length line = subst (LeavesLess (length line)) e (front_leaves_less line) in
    tokens_within-found n rest (omega arith))

pub tokens_of-found : (line : List ℕ) → AreTokens line (tokens_of line)
tokens_of-found line = tokens_within-found (length line) line (omega arith)

-- names
abbrev IsKnown : List (List ℕ) → List ℕ → Type 0
IsKnown names n = (k : ℕ) × (k < length names) × (get_or names k [] ≡ n)

is_known-Decides : (names : List (List ℕ)) (n : List ℕ) → Decides (is_some (place_of names n)) (IsKnown names n)
is_known-Decides names n = by (place_of names n) refl
  where
    by : (o : Option ℕ) → place_of names n ≡ o → Decides (is_some o) (IsKnown names n)
    by None e = (λ t. absurd (true≢false (sym t)), λ h. absurd (place_of-None names n h.0 e h.1 h.2))
    by (Some k) e = (λ t. let at = place_of-Some names n k e in (k, at.0, at.1), λ h. refl)

pub are_known-Decides : (names : List (List ℕ)) (ts : List Token) → Decides (are_known names ts) (AreKnown names ts)
are_known-Decides names [] = (λ e. tt, λ h. refl)
are_known-Decides names (number digits ∷ ts) = are_known-Decides names ts
are_known-Decides names (symbol s ∷ ts) = are_known-Decides names ts
are_known-Decides names (name n ∷ ts) =
    Decides-and (is_some (place_of names n)) (are_known names ts) (is_known-Decides names n) (are_known-Decides names ts)

distinct_cons : (n : List ℕ) (ns : List (List ℕ)) → place_of ns n ≡ None → AreDistinct ns → AreDistinct (n ∷ ns)
distinct_cons n ns e d zero zero lt short same = omega arith
distinct_cons n ns e d zero (suc j) lt short same = place_of-None ns n j e (omega arith) (sym same)
distinct_cons n ns e d (suc i) zero lt short same = omega arith
distinct_cons n ns e d (suc i) (suc j) lt short same = d i j (omega arith) (omega arith) same

pub are_distinct-Decides : (names : List (List ℕ)) → Decides (are_distinct names) (AreDistinct names)
are_distinct-Decides [] = (λ e i j lt short. absurd (omega arith), λ h. refl)
are_distinct-Decides (n ∷ ns) = by (place_of ns n) refl (are_distinct-Decides ns)
  where
    by : (o : Option ℕ) → place_of ns n ≡ o → Decides (are_distinct ns) (AreDistinct ns)
        → Decides (is_none o && are_distinct ns) (AreDistinct (n ∷ ns))
    by (Some k) e rest = (
      λ t. absurd (true≢false (sym t)),
      λ h. let at = place_of-Some ns n k e in
          absurd (h 0 (suc k) (omega arith) (omega (arith, at.0)) (sym at.1)),
    )
    by None e rest = (λ t. distinct_cons n ns e (rest.0 t), λ h. rest.1 (λ i j lt short. h (suc i) (suc j) (omega arith) (omega arith)))
