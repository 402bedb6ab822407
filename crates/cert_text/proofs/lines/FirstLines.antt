-- The first lines of a text of lines.
use Rattle.std.proofs.Common.{◌≡◌, ◌<◌, ◌≤◌, ◌+◌, inl, inr, ℕ, zero, suc, Bool, true, false, cond, eqb, List, [], ◌∷◌, ◌++◌, drop, take}
use Rattle.std.proofs.Common.{length, refl, ap, ap₂, sym, subst, ◌∙◌, append_assoc, append-nil, arith}
use Rattle.std.specs.Prelude.{◌⊎◌}
use Rattle.std.specs.List.{AllByRecursion}
use Rattle.std.proofs.lemmas.List.{drop_all, length-append}
use borrow.Author.Tests.{ne_eqb}
use Rattle.pq_base.specs.Lines.{text_of_lines}
use Rattle.answer_text.proofs.Splits.{avoids, avoids-parts, split-same, nil-split}
use Rattle.answer_text.proofs.texts.PieceTexts.{avoids-not}
use Rattle.cert_text.specs.ReadSoFar.{begins_with_p, GoesOnWithP, IsItemLine, AreItemLines, first_lines, IsCanonical, IsCanonicalTo}
use Rattle.cert_text.proofs.lines.StepsRead.{text_of_lines-grown}

pub first_lines-zero : (text : List ℕ) → first_lines 0 text ≡ []
first_lines-zero [] = refl
first_lines-zero (b ∷ text) = refl

pub first_lines-line : (k : ℕ) (l t : List ℕ) → avoids 10 l ≡ true → first_lines (suc k) (l ++ 10 ∷ t) ≡ l ++ 10 ∷ first_lines k t
first_lines-line k [] t one = refl
first_lines-line k (b ∷ l) t one =
    let parts = avoids-parts 10 b l one in
    ap (λ (c : Bool). b ∷ first_lines (cond c k (suc k)) (l ++ 10 ∷ t)) (ne_eqb b 10 parts.0)
    ∙ ap (λ (x : List ℕ). b ∷ x) (first_lines-line k l t parts.1)

pub first_lines-take : (k : ℕ) (ls : List (List ℕ)) (rest : List ℕ) → k ≤ length ls → AllByRecursion (λ l. avoids 10 l ≡ true) ls
    → first_lines k (text_of_lines ls ++ rest) ≡ text_of_lines (take k ls)
first_lines-take zero ls rest h one = first_lines-zero (text_of_lines ls ++ rest)
first_lines-take (suc k) [] rest h one = absurd (omega arith)
first_lines-take (suc k) (l ∷ ls) rest h one =
    ap (λ (t : List ℕ). first_lines (suc k) t) (append_assoc l (10 ∷ text_of_lines ls) rest)
    ∙ first_lines-line k l (text_of_lines ls ++ rest) one.0
    ∙ ap (λ (t : List ℕ). l ++ 10 ∷ t) (first_lines-take k ls rest (omega arith) one.1)

-- lines are told by their text
pub lines-same : (ls ks : List (List ℕ)) → AllByRecursion (λ l. avoids 10 l ≡ true) ls → AllByRecursion (λ l. avoids 10 l ≡ true) ks
    → text_of_lines ls ≡ text_of_lines ks → ls ≡ ks
lines-same [] [] a b e = refl
lines-same [] (k ∷ ks) a b e = absurd (nil-split 10 k (text_of_lines ks) e)
lines-same (l ∷ ls) [] a b e = absurd (nil-split 10 l (text_of_lines ls) (sym e))
lines-same (l ∷ ls) (k ∷ ks) a b e =
    let parts = split-same 10 l k (text_of_lines ls) (text_of_lines ks) a.0 b.0 e in
    ap₂ (λ (x : List ℕ) (xs : List (List ℕ)). x ∷ xs) parts.0 (lines-same ls ks a.1 b.1 parts.1)

pub one_lines : (ls : List (List ℕ)) → AllByRecursion IsItemLine ls → AllByRecursion (λ l. avoids 10 l ≡ true) ls
one_lines [] a = tt
one_lines (l ∷ ls) a = (a.0.0, one_lines ls a.1)

items-append : (ls ks : List (List ℕ)) → AllByRecursion IsItemLine ls → AllByRecursion IsItemLine ks → AllByRecursion IsItemLine (ls ++ ks)
items-append [] ks a b = b
items-append (l ∷ ls) ks a b = (a.0, items-append ls ks a.1 b)

-- one line more
pub AreItemLines-next : (text rest more : List ℕ) (count : ℕ) → AreItemLines text count rest → AreItemLines rest 1 more
    → AreItemLines text (count + 1) more
AreItemLines-next text rest more count so_far next = grown next.0 next.1 next.2 next.3 where
  grown : (ks : List (List ℕ)) → AllByRecursion IsItemLine ks → length ks ≡ 1 → rest ≡ text_of_lines ks ++ more
      → AreItemLines text (count + 1) more
  grown [] b one e = absurd (omega arith)
  grown (k ∷ []) b one e =
      let ls = so_far.0 in
      let longer : length (ls ++ k ∷ []) ≡ length ls + 1 = length-append ls (k ∷ []) in
      let before : length ls ≡ count = so_far.2 in (
        ls ++ k ∷ [],
        items-append ls (k ∷ []) so_far.1 b,
        omega arith,
        text_of_lines-grown text rest more k ls so_far.3
            (e ∙ append_assoc k (10 ∷ []) more),
      )
  grown (k ∷ j ∷ ks) b one e = absurd (omega arith)

pub AreItemLines-none : (text : List ℕ) → AreItemLines text 0 text
AreItemLines-none text = ([], tt, refl, refl)

pub AreItemLines-one : (text l rest : List ℕ) → text ≡ l ++ 10 ∷ rest → avoids 10 l ≡ true → begins_with_p l ≡ false
    → AreItemLines text 1 rest
AreItemLines-one text l rest e one other = (l ∷ [], ((one, other), tt), refl, e ∙ sym (append_assoc l (10 ∷ []) rest))

pub first_lines-shorter : (k : ℕ) (text : List ℕ) → length (first_lines k text) ≤ length text
first_lines-shorter k [] = omega arith
first_lines-shorter zero (b ∷ text) = omega arith
first_lines-shorter (suc k) (b ∷ text) = let more = first_lines-shorter (cond (eqb b 10) k (suc k)) text in omega (arith, more)

-- lines that begin with `p` go on with it where no whole line is left, and where such a line is next
pub goes_on-no_line : (text : List ℕ) → avoids 10 text ≡ true → GoesOnWithP text
goes_on-no_line text none l more one e = absurd (avoids-not 10 l more (ap (λ (t : List ℕ). avoids 10 t) (sym e) ∙ none))

pub goes_on-line : (text line rest : List ℕ) → text ≡ line ++ 10 ∷ rest → avoids 10 line ≡ true → begins_with_p line ≡ true
    → GoesOnWithP text
goes_on-line text line rest cut one begins l more other e =
    ap begins_with_p (sym (split-same 10 line l rest more one other (sym cut ∙ e)).0) ∙ begins

-- nothing more to pass
pub first_lines-end : (text : List ℕ) (k at : ℕ) (all : List ℕ) → (k ≡ 0) ⊎ (length text ≤ at)
    → take at text ++ first_lines k (drop at text) ≡ all → take at text ≡ all
first_lines-end text k at all (inl none) e =
    sym (append-nil (take at text)) ∙ ap (λ (t : List ℕ). take at text ++ t) (sym (first_lines-zero (drop at text)))
    ∙ ap (λ (n : ℕ). take at text ++ first_lines n (drop at text)) (sym none) ∙ e
first_lines-end text k at all (inr end) e =
    sym (append-nil (take at text)) ∙ ap (λ (t : List ℕ). take at text ++ first_lines k t) (sym (drop_all at text end)) ∙ e

-- where the bounds meet
pub IsCanonicalTo-bounds : (text : List ℕ) (low high : ℕ) → high ≤ low + 1 → low ≤ high → (high ≡ 0 → text ≡ []) → (low < high) ⊎ (high ≡ 0)
    → (low ≡ 0) ⊎ IsCanonical (first_lines low text) → ¬ IsCanonical (first_lines high text)
    → IsCanonicalTo text low
IsCanonicalTo-bounds text low high meet bounds empty (inl before) lines none =
    let next : high ≡ suc low = omega arith in
    record { lines = lines; no_further = λ further. none (subst (λ (n : ℕ). IsCanonical (first_lines n text)) (sym next) further) }
IsCanonicalTo-bounds text low high meet bounds empty (inr nothing) lines none =
    let here : first_lines (suc low) text ≡ first_lines high text = ap (λ (t : List ℕ). first_lines (suc low) t) (empty nothing)
    ∙ ap (λ (t : List ℕ). first_lines high t) (sym (empty nothing)) in
    record { lines = lines; no_further = λ further. none (subst IsCanonical here further) }
