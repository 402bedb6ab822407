-- The lines of tails that stand in a step are judged one by one: a line may stand behind others exactly where its tail is above theirs and
-- it may stand among them. And the lines of a step are searched by halves, since their tails rise.
use Rattle.std.proofs.Common.{◌≡◌, ◌≢◌, ◌<◌, ◌≤◌, ◌+◌, ℕ, zero, suc, Bool, true, false, not, ◌&&◌, ◌||◌, List, [], ◌∷◌, ◌++◌, get_or}
use Rattle.std.proofs.Common.{length, drop, refl, ap, sym, ◌∙◌, arith, ne_eqb, eq-eqb}
use Rattle.std.specs.Prelude.{leb, ltb, eqb, take}
use Rattle.std.proofs.lemmas.Bool.{and_parts, and_from, leb-true, ltb-true, le-leb, false_from_ne_true}
use Rattle.std.proofs.lemmas.List.{take-append-drop}
use Rattle.std.proofs.Math.Seq.{take-suc}
use Rattle.std.proofs.lemmas.List.Recursion.{or_at, or_from_places}
use Rattle.derivation_log.specs.Certificates.{TailLine}
use Rattle.derivation_log.specs.CertificateForms.{max_number, is_number_from, are_pairs, are_at_most, has_line, are_kept_below}
use Rattle.derivation_log.specs.CertificateForms.{is_tail_line, are_tail_lines, AreRising, least_behind}
use Rattle.derivation_log.proofs.PairForms.{both_true}

-- a tail that has no line among some has none among fewer
no_line-front : (t : ℕ) (ls ks : List TailLine) → not (has_line (ls ++ ks) t) ≡ true → not (has_line ls t) ≡ true
no_line-front t [] ks = λ h. refl
no_line-front t (l ∷ ls) ks =
    elim (eqb t l.tail) as (λ (b : Bool). not (b || has_line (ls ++ ks) t) ≡ true → not (b || has_line ls t) ≡ true) [
      | true ↦ λ h. h
      | false ↦ no_line-front t ls ks
    ]

kept_below-front : (t : ℕ) (ls ks : List TailLine) (pairs : List (ℕ × ℕ)) → are_kept_below (ls ++ ks) t pairs ≡ true
    → are_kept_below ls t pairs ≡ true
kept_below-front t ls ks [] h = refl
kept_below-front t ls ks (a ∷ pairs) h =
    let first = and_parts (ltb a.0 t) (not (has_line (ls ++ ks) a.0) && are_kept_below (ls ++ ks) t pairs) h in
    let second = and_parts (not (has_line (ls ++ ks) a.0)) (are_kept_below (ls ++ ks) t pairs) first.1 in
    and_from (ltb a.0 t) _ first.0
    (and_from (not (has_line ls a.0)) _ (no_line-front a.0 ls ks second.0) (kept_below-front t ls ks pairs second.1))

tail_line-front : (p n : ℕ) (ls ks : List TailLine) (l : TailLine) → is_tail_line p n (ls ++ ks) l ≡ true → is_tail_line p n ls l ≡ true
tail_line-front p n ls ks l h =
    let rest : Bool = ltb 0 (length l.sums) && (are_pairs p 1 l.sums && are_at_most n l.sums) in
    let first = and_parts (are_pairs p 1 l.kept) (are_kept_below (ls ++ ks) l.tail l.kept && rest) h in
    let second = and_parts (are_kept_below (ls ++ ks) l.tail l.kept) rest first.1 in
    and_from (are_pairs p 1 l.kept) _ first.0
    (and_from (are_kept_below ls l.tail l.kept) _ (kept_below-front l.tail ls ks l.kept second.0) second.1)

-- the front of some tail lines are tail lines
pub tail_lines-front : (p n least : ℕ) (lines more ls ks : List TailLine) → are_tail_lines p n (lines ++ more) least (ls ++ ks) ≡ true
    → are_tail_lines p n lines least ls ≡ true
tail_lines-front p n least lines more [] ks h = refl
tail_lines-front p n least lines more (l ∷ ls) ks h =
    let first =
    and_parts (is_number_from least l.tail)
    (is_tail_line p n (lines ++ more) l && are_tail_lines p n (lines ++ more) (suc l.tail) (ls ++ ks)) h in
    let second = and_parts (is_tail_line p n (lines ++ more) l) (are_tail_lines p n (lines ++ more) (suc l.tail) (ls ++ ks)) first.1 in
    and_from (is_number_from least l.tail) _ first.0
    (and_from (is_tail_line p n lines l) _ (tail_line-front p n lines more l second.0)
    (tail_lines-front p n (suc l.tail) lines more ls ks second.1))

-- a tail that has no line among some has none among these and another, which is that of a later tail
no_line-next : (t : ℕ) (ls : List TailLine) (l : TailLine) → t < l.tail → not (has_line ls t) ≡ true
    → not (has_line (ls ++ l ∷ []) t) ≡ true
no_line-next t [] l below = λ h. ap (λ (b : Bool). not (b || false)) (ne_eqb t l.tail (λ e. omega arith))
no_line-next t (k ∷ ls) l below =
    elim (eqb t k.tail) as (λ (b : Bool). not (b || has_line ls t) ≡ true → not (b || has_line (ls ++ l ∷ []) t) ≡ true) [
      | true ↦ λ h. h
      | false ↦ no_line-next t ls l below
    ]

kept_below-next : (t : ℕ) (ls : List TailLine) (l : TailLine) (pairs : List (ℕ × ℕ)) → t ≤ l.tail → are_kept_below ls t pairs ≡ true
    → are_kept_below (ls ++ l ∷ []) t pairs ≡ true
kept_below-next t ls l [] low h = refl
kept_below-next t ls l (a ∷ pairs) low h =
    let first = and_parts (ltb a.0 t) (not (has_line ls a.0) && are_kept_below ls t pairs) h in
    let second = and_parts (not (has_line ls a.0)) (are_kept_below ls t pairs) first.1 in
    let below : a.0 < t = ltb-true a.0 t first.0 in
    and_from (ltb a.0 t) _ first.0
    (and_from (not (has_line (ls ++ l ∷ []) a.0)) _ (no_line-next a.0 ls l (omega arith) second.0)
    (kept_below-next t ls l pairs low second.1))

tail_line-next : (p n : ℕ) (ls : List TailLine) (l k : TailLine) → k.tail ≤ l.tail → is_tail_line p n ls k ≡ true
    → is_tail_line p n (ls ++ l ∷ []) k ≡ true
tail_line-next p n ls l k low h =
    let rest : Bool = ltb 0 (length k.sums) && (are_pairs p 1 k.sums && are_at_most n k.sums) in
    let first = and_parts (are_pairs p 1 k.kept) (are_kept_below ls k.tail k.kept && rest) h in
    let second = and_parts (are_kept_below ls k.tail k.kept) rest first.1 in
    and_from (are_pairs p 1 k.kept) _ first.0
    (and_from (are_kept_below (ls ++ l ∷ []) k.tail k.kept) _ (kept_below-next k.tail ls l k.kept low second.0) second.1)

-- the least tail behind lines that rise is above each of them
least-above : (p n least : ℕ) (lines ls : List TailLine) → are_tail_lines p n lines least ls ≡ true → least ≤ least_behind least ls
least-above p n least lines [] h = omega arith
least-above p n least lines (l ∷ ls) h =
    let first = and_parts (is_number_from least l.tail) (is_tail_line p n lines l && are_tail_lines p n lines (suc l.tail) ls) h in
    let low : least ≤ l.tail = leb-true least l.tail (and_parts (leb least l.tail) (leb l.tail max_number) first.0).0 in
    let more : suc l.tail ≤ least_behind (suc l.tail) ls =
    least-above p n (suc l.tail) lines ls (and_parts (is_tail_line p n lines l) _ first.1).1 in
    omega arith

-- a line behind others
next-is : (p n least : ℕ) (lines ls : List TailLine) (l : TailLine) → are_tail_lines p n lines least ls ≡ true
    → is_number_from (least_behind least ls) l.tail ≡ true
    → is_tail_line p n lines l ≡ true → are_tail_lines p n (lines ++ l ∷ []) least (ls ++ l ∷ []) ≡ true
next-is p n least lines [] l h number is =
    and_from (is_number_from least l.tail) _ number
    (and_from (is_tail_line p n (lines ++ l ∷ []) l) _ (tail_line-next p n lines l l (omega arith) is) refl)
next-is p n least lines (k ∷ ls) l h number is =
    let first = and_parts (is_number_from least k.tail) (is_tail_line p n lines k && are_tail_lines p n lines (suc k.tail) ls) h in
    let second = and_parts (is_tail_line p n lines k) (are_tail_lines p n lines (suc k.tail) ls) first.1 in
    let above : suc k.tail ≤ least_behind (suc k.tail) ls = least-above p n (suc k.tail) lines ls second.1 in
    let last : least_behind (suc k.tail) ls ≤ l.tail =
    leb-true (least_behind (suc k.tail) ls) l.tail
    (and_parts (leb (least_behind (suc k.tail) ls) l.tail) (leb l.tail max_number) number).0 in
    and_from (is_number_from least k.tail) _ first.0
    (and_from (is_tail_line p n (lines ++ l ∷ []) k) _ (tail_line-next p n lines l k (omega arith) second.0)
    (next-is p n (suc k.tail) lines ls l second.1 number is))

next-parts : (p n least : ℕ) (lines ls : List TailLine) (l : TailLine) → are_tail_lines p n (lines ++ l ∷ []) least (ls ++ l ∷ []) ≡ true
    → (is_number_from (least_behind least ls) l.tail ≡ true) × (is_tail_line p n lines l ≡ true)
next-parts p n least lines [] l h =
    let first = and_parts (is_number_from least l.tail) (is_tail_line p n (lines ++ l ∷ []) l && true) h in
    (first.0, tail_line-front p n lines (l ∷ []) l (and_parts (is_tail_line p n (lines ++ l ∷ []) l) true first.1).0)
next-parts p n least lines (k ∷ ls) l h =
    let first =
    and_parts (is_number_from least k.tail)
    (is_tail_line p n (lines ++ l ∷ []) k && are_tail_lines p n (lines ++ l ∷ []) (suc k.tail) (ls ++ l ∷ [])) h in
    next-parts p n (suc k.tail) lines ls l (and_parts (is_tail_line p n (lines ++ l ∷ []) k) _ first.1).1

same_test : (a b : Bool) → (a ≡ true → b ≡ true) → (b ≡ true → a ≡ true) → a ≡ b
same_test true b to back = sym (to refl)
same_test false b to back = sym (false_from_ne_true b (λ h. let bad : false ≡ true = back h in cc))

-- whether a line may stand behind others
pub next-test : (p n : ℕ) (lines : List TailLine) (l : TailLine) (least : ℕ) (rises is : Bool) → l.tail ≤ max_number
    → are_tail_lines p n lines 1 lines ≡ true
    → least ≡ least_behind 1 lines → rises ≡ leb least l.tail → is ≡ is_tail_line p n lines l
    → (rises && is) ≡ are_tail_lines p n (lines ++ l ∷ []) 1 (lines ++ l ∷ [])
next-test p n lines l least rises is limit h e first second =
    let rising : rises ≡ leb (least_behind 1 lines) l.tail = first ∙ ap (λ (x : ℕ). leb x l.tail) e in
    same_test (rises && is) (are_tail_lines p n (lines ++ l ∷ []) 1 (lines ++ l ∷ []))
    (λ both. let parts = and_parts rises is both in
    next-is p n 1 lines lines l h (both_true (sym rising ∙ parts.0) (le-leb l.tail max_number limit)) (sym second ∙ parts.1))
    (λ all. let parts = next-parts p n 1 lines lines l all in
    both_true (rising ∙ (and_parts (leb (least_behind 1 lines) l.tail) (leb l.tail max_number) parts.0).0) (second ∙ parts.1))

-- they rise
pub AreRising-tail_lines : (p n least : ℕ) (lines ls : List TailLine) → are_tail_lines p n lines least ls ≡ true → AreRising least ls
AreRising-tail_lines p n least lines [] h = tt
AreRising-tail_lines p n least lines (l ∷ ls) h =
    let first = and_parts (is_number_from least l.tail) (is_tail_line p n lines l && are_tail_lines p n lines (suc l.tail) ls) h in (
      leb-true least l.tail (and_parts (leb least l.tail) (leb l.tail max_number) first.0).0,
      AreRising-tail_lines p n (suc l.tail) lines ls (and_parts (is_tail_line p n lines l) _ first.1).1,
    )

abbrev pub no_line : TailLine
no_line = record { tail = 0; kept = []; sums = [] }

abbrev pub tail_at : List TailLine → ℕ → ℕ
tail_at ls i = (get_or ls i no_line).tail

rising-least : (least : ℕ) (ls : List TailLine) (i : ℕ) → AreRising least ls → i < length ls → least ≤ tail_at ls i
rising-least least [] i r inside = absurd (omega arith)
rising-least least (l ∷ ls) zero r inside = r.0
rising-least least (l ∷ ls) (suc i) r inside =
    let more : suc l.tail ≤ tail_at ls i = rising-least (suc l.tail) ls i r.1 (omega arith) in
    let here : least ≤ l.tail = r.0 in
    omega arith

pub rising-apart : (least : ℕ) (ls : List TailLine) (i j : ℕ) → AreRising least ls → i < j → j < length ls → tail_at ls i < tail_at ls j
rising-apart least [] i j r before inside = absurd (omega arith)
rising-apart least (l ∷ ls) i zero r before inside = absurd (omega arith)
rising-apart least (l ∷ ls) zero (suc j) r before inside =
    let more : suc l.tail ≤ tail_at ls j = rising-least (suc l.tail) ls j r.1 (omega arith) in
    omega arith
rising-apart least (l ∷ ls) (suc i) (suc j) r before inside = rising-apart (suc l.tail) ls i j r.1 (omega arith) (omega arith)

pub least_behind-last : (least : ℕ) (ls : List TailLine) (i : ℕ) → i + 1 ≡ length ls → least_behind least ls ≡ tail_at ls i + 1
least_behind-last least [] i e = absurd (omega arith)
least_behind-last least (l ∷ []) zero e = omega arith
least_behind-last least (l ∷ []) (suc i) e = absurd (omega arith)
least_behind-last least (l ∷ k ∷ ls) zero e = absurd (omega arith)
least_behind-last least (l ∷ k ∷ ls) (suc i) e = least_behind-last (suc l.tail) (k ∷ ls) i (omega arith)

pub has_line-at : (t : ℕ) (ls : List TailLine) (i : ℕ) → i < length ls → tail_at ls i ≡ t → has_line ls t ≡ true
has_line-at t ls i inside e =
    or_at (λ (xs : List TailLine). has_line xs t) (λ (l : TailLine). eqb t l.tail) refl (λ x xs. refl) ls i no_line inside
    (eq-eqb t (tail_at ls i) (sym e))

pub has_line-nowhere : (t : ℕ) (ls : List TailLine) → ((i : ℕ) → i < length ls → tail_at ls i ≢ t) → has_line ls t ≡ false
has_line-nowhere t ls none =
    or_from_places (λ (xs : List TailLine). has_line xs t) (λ (l : TailLine). eqb t l.tail) refl (λ x xs. refl) ls no_line
    (λ i inside. ne_eqb t (tail_at ls i) (λ e. none i inside (sym e)))

-- where the front of some lines is no front of lines that may stand in a step, all of them are none
pub not-front : (p n i : ℕ) (ls : List TailLine) → are_tail_lines p n (take i ls) 1 (take i ls) ≡ false → are_tail_lines p n ls 1 ls ≡ false
not-front p n i ls h = false_from_ne_true _ (λ all. bad (sym (tail_lines-front p n 1 (take i ls) (drop i ls) (take i ls) (drop i ls)
    (ap (λ (xs : List TailLine). are_tail_lines p n xs 1 xs) (take-append-drop i ls) ∙ all)) ∙ h)) where
      bad : true ≡ false → ⊥
      bad e = cc

-- the front of some lines with the line behind it is a longer front
pub take-next : (ls : List TailLine) (i : ℕ) (l : TailLine) → i < length ls → l ≡ get_or ls i no_line
    → take i ls ++ l ∷ [] ≡ take (i + 1) ls
take-next ls i l inside e =
    ap (λ (x : TailLine). take i ls ++ x ∷ []) e ∙ sym (take-suc ls i no_line inside) ∙ ap (λ (n : ℕ). take n ls) next where
      next : suc i ≡ i + 1
      next = omega arith
