-- A number is read from its digits, and from no others.
use Rattle.std.proofs.Common.{◌≡◌, ◌<◌, ◌≤◌, ◌+◌, ◌-◌, ◌*◌, ℕ, zero, suc, Bool, true, false, ◌&&◌, List, [], ◌∷◌, ◌++◌, get_or, drop, take}
use Rattle.std.proofs.Common.{length, decimal, refl, ap, sym, subst, ◌∙◌, rules, drop-cons, append_assoc, append-nil, arith}
use Rattle.std.specs.Prelude.{not, ◌==◌, if◌then◌else◌}
use Rattle.std.specs.List.{prefix_len}
use Rattle.std.specs.Str.{all_ascii_digits}
use Rattle.std.specs.Char.{is_ascii_digit}
use Rattle.std.proofs.lemmas.Bool.{and_from}
use Rattle.std.proofs.lemmas.Fmt.{decimal_digit, decimal-digits_value, digits_value-decimal, first_decimal, decimal_nonempty}
use Rattle.std.proofs.lemmas.Str.Parse.{IsNumeralModel, numerals_by_fold}
use borrow.Author.Tests.{eq-eqb, ne_eqb, eqb-true}
use Rattle.answer_text.specs.Numbers.{is_digit}
use Rattle.cert_text.specs.NumberFronts.{is_no_digit, AllFail, StartsWell, is_padded, read_on}
use Rattle.cert_text.proofs.texts.NumberTexts.{cut-same, AllFail-decimal, decimal-told, numbers-start}
use Rattle.pq_base.specs.Table.{AllBelow}
use Rattle.cert_text.specs.CertificateText.{numbers_text}

own : IsNumeralModel (λ ds. all_ascii_digits ds ≡ true) (read_on 0)
own = numerals_by_fold _ (search rules) read_on (search rules)

from-not : (b : Bool) → not b ≡ false → b ≡ true
from-not true h = refl
from-not false h = cc

digits-ascii : (ds : List ℕ) → AllFail is_no_digit ds → all_ascii_digits ds ≡ true
digits-ascii [] h = refl
digits-ascii (d ∷ ds) h = and_from (is_ascii_digit d) _ (from-not (is_digit d) h.0) (digits-ascii ds h.1)

read_on-grows : (n : ℕ) (ds : List ℕ) → n ≤ read_on n ds
read_on-grows n [] = omega arith
read_on-grows n (d ∷ ds) = omega (arith, read_on-grows (10 * n + (d - 48)) ds)

-- a 0 in front of no other digits
single : (d : ℕ) (ds : List ℕ) → is_padded (d ∷ ds) ≡ false → d ≡ 48 → length (d ∷ ds) ≡ 1
single d ds plain e =
    let zero : (d == 48) ≡ true = eq-eqb d 48 e in
    let few : not (length ds == 0) ≡ false = ap (λ (b : Bool). b && not (length ds == 0)) (sym zero) ∙ plain in
    let none : length ds ≡ 0 = eqb-true (length ds) 0 (from-not (length ds == 0) few) in
    omega arith

-- digits that aren't padded are those of the number that they are
pub decimal-read : (ds : List ℕ) (n : ℕ) → AllFail is_no_digit ds → is_padded ds ≡ false → read_on 0 ds ≡ n → n ≤ 65535 → ds ≡ decimal n
decimal-read [] n h plain e small = cc
decimal-read (d ∷ ds) n h plain e small =
    let first : d ≡ 48 → length (d ∷ ds) ≡ 1 = single d ds plain in
    let same : decimal (read_on 0 (d ∷ ds)) ≡ d ∷ ds = decimal-digits_value own (d ∷ ds) (digits-ascii (d ∷ ds) h) (omega arith) first
    (omega arith) in
    sym same ∙ ap (λ (x : ℕ). decimal x) e

pub read-decimal : (n : ℕ) → n < 65536 → read_on 0 (decimal n) ≡ n
read-decimal n h = digits_value-decimal own n (omega arith)

pub not-padded : (n : ℕ) → n < 65536 → is_padded (decimal n) ≡ false
not-padded zero h = ap is_padded (decimal_digit 0 (omega arith))
not-padded (suc m) h =
    by (decimal (suc m)) (decimal_nonempty (suc m) (omega arith)) (first_decimal (suc m) (omega arith) (omega arith)) where
      by : (ds : List ℕ) → 0 < length ds → 48 < get_or ds 0 0 → is_padded ds ≡ false
      by [] some first = absurd (omega arith)
      by (d ∷ ds) some first = ap (λ (b : Bool). b && not (length ds == 0)) (ne_eqb d 48 (λ e. omega arith))

pub too_large : (n v i : ℕ) (ds : List ℕ) → n < 65536 → ds ≡ decimal n → 65535 < v → read_on v (drop (i + 1) ds) ≡ read_on 0 ds → ⊥
too_large n v i ds small e large so_far =
    let same : read_on 0 ds ≡ n = ap (read_on 0) e ∙ read-decimal n small in
    let grows : v ≤ read_on v (drop (i + 1) ds) = read_on-grows v (drop (i + 1) ds) in
    omega arith

pub read-next : (v w i : ℕ) (ds : List ℕ) → i < length ds → w ≡ 10 * v + (get_or ds i 0 - 48) → read_on v (drop i ds) ≡ read_on 0 ds
    → read_on w (drop (i + 1) ds) ≡ read_on 0 ds
read-next v w i ds inside e so_far =
    let next : i + 1 ≡ suc i = omega arith in
    ap (λ (k : ℕ). read_on k (drop (i + 1) ds)) e ∙ ap (λ (k : ℕ). read_on (10 * v + (get_or ds i 0 - 48)) (drop k ds)) next
    ∙ ap (λ (t : List ℕ). read_on v t) (sym (drop-cons ds i 0 inside)) ∙ so_far

pub front-digits : (t : List ℕ) → AllFail is_no_digit (take (prefix_len is_digit t) t)
front-digits [] = tt
front-digits (b ∷ t) =
    elim (is_digit b) as (λ (d : Bool). is_digit b ≡ d → AllFail is_no_digit (take (if d then 1 + prefix_len is_digit t else 0) (b ∷ t))) [
      | true ↦ λ e.
          let same : suc (prefix_len is_digit t) ≡ 1 + prefix_len is_digit t = omega arith in
          subst (λ (n : ℕ). AllFail is_no_digit (take n (b ∷ t))) same (ap not e, front-digits t)
      | false ↦ λ e. tt
    ] refl

pub front-stops : (t : List ℕ) → StartsWell is_no_digit (drop (prefix_len is_digit t) t)
front-stops [] = tt
front-stops (b ∷ t) = elim (is_digit b) as (λ (d : Bool). is_digit b ≡ d
    → StartsWell is_no_digit (drop (if d then 1 + prefix_len is_digit t else 0) (b ∷ t))) [
      | true ↦ λ e.
          let same : suc (prefix_len is_digit t) ≡ 1 + prefix_len is_digit t = omega arith in
          subst (λ (n : ℕ). StartsWell is_no_digit (drop n (b ∷ t))) same (front-stops t)
      | false ↦ λ e. ap not e
    ] refl

-- a text without a number at its front
pub no-front : (text digits rest : List ℕ) → text ≡ digits ++ rest → AllFail is_no_digit digits → StartsWell is_no_digit rest
    → ((n : ℕ) → n < 65536 → ¬ (digits ≡ decimal n))
    → (n : ℕ) (more : List ℕ) → n < 65536 → StartsWell is_no_digit more → ¬ (text ≡ decimal n ++ more)
no-front text digits rest e all stops none n more small starts h =
    none n small (cut-same is_no_digit digits (decimal n) rest more all (AllFail-decimal n) stops starts (sym e ∙ h)).0

-- the numbers of a text, each behind a blank, where the rest of it is one of numbers
abbrev pub LeavesNumbers : List ℕ → List ℕ → Type 0
LeavesNumbers text rest = (ns : List ℕ) → AllBelow 65536 ns → text ≡ numbers_text ns → (ks : List ℕ) × AllBelow 65536 ks
    × (rest ≡ numbers_text ks)

pub LeavesNumbers-next : (text rest more : List ℕ) (n : ℕ) → n < 65536 → StartsWell is_no_digit more → rest ≡ 32 ∷ (decimal n ++ more)
    → LeavesNumbers text rest → LeavesNumbers text more
LeavesNumbers-next text rest more n small starts e leaves ns below same =
    by (leaves ns below same).0 (leaves ns below same).1 (leaves ns below same).2 where
      by : (ks : List ℕ) → AllBelow 65536 ks → rest ≡ numbers_text ks → (ls : List ℕ) × AllBelow 65536 ls × (more ≡ numbers_text ls)
      by [] b f = let bad : 32 ∷ (decimal n ++ more) ≡ [] = sym e ∙ f in cc
      by (k ∷ ks) b f =
          let parts = decimal-told n k more (numbers_text ks) small b.0 starts (numbers-start ks)
          (ap (λ (t : List ℕ). drop 1 t) (sym e ∙ f)) in
          (ks, b.1, parts.1)

pub LeavesNumbers-none : (text rest : List ℕ) → LeavesNumbers text rest → (rest ≡ [] → ⊥)
    → ((n : ℕ) (more : List ℕ) → n < 65536 → StartsWell is_no_digit more → ¬ (rest ≡ 32 ∷ (decimal n ++ more)))
    → (ns : List ℕ) → AllBelow 65536 ns → ¬ (text ≡ numbers_text ns)
LeavesNumbers-none text rest leaves some none ns below same =
    by (leaves ns below same).0 (leaves ns below same).1 (leaves ns below same).2 where
      by : (ks : List ℕ) → AllBelow 65536 ks → rest ≡ numbers_text ks → ⊥
      by [] b f = some f
      by (k ∷ ks) b f = none k (numbers_text ks) b.0 (numbers-start ks) f

pub numbers_text-append : (ms ns : List ℕ) → numbers_text (ms ++ ns) ≡ numbers_text ms ++ numbers_text ns
numbers_text-append [] ns = refl
numbers_text-append (m ∷ ms) ns =
    ap (λ (t : List ℕ). 32 ∷ (decimal m ++ t)) (numbers_text-append ms ns)
    ∙ ap (λ (t : List ℕ). 32 ∷ t) (sym (append_assoc (decimal m) (numbers_text ms) (numbers_text ns)))

-- one number more was read
pub numbers_text-next : (all rest more : List ℕ) (ns ms : List ℕ) (n : ℕ) → ms ≡ ns ++ n ∷ [] → rest ≡ 32 ∷ (decimal n ++ more)
    → numbers_text ns ++ rest ≡ all → numbers_text ms ++ more ≡ all
numbers_text-next all rest more ns ms n pushed e so_far =
    ap (λ (ks : List ℕ). numbers_text ks ++ more) pushed ∙ ap (λ (t : List ℕ). t ++ more) (numbers_text-append ns (n ∷ []))
    ∙ append_assoc (numbers_text ns) (numbers_text (n ∷ [])) more
    ∙ ap (λ (t : List ℕ). numbers_text ns ++ 32 ∷ (t ++ more)) (append-nil (decimal n))
    ∙ ap (λ (t : List ℕ). numbers_text ns ++ t) (sym e) ∙ so_far

pub AllBelow-next : (p : ℕ) (ns : List ℕ) (n : ℕ) → AllBelow p ns → n < p → AllBelow p (ns ++ n ∷ [])
AllBelow-next p [] n h small = (small, tt)
AllBelow-next p (m ∷ ns) n h small = (h.0, AllBelow-next p ns n h.1 small)

pub AllBelow-at : (p : ℕ) (ns : List ℕ) (i : ℕ) → AllBelow p ns → i < length ns → get_or ns i 0 < p
AllBelow-at p [] i h inside = absurd (omega arith)
AllBelow-at p (n ∷ ns) zero h inside = h.0
AllBelow-at p (n ∷ ns) (suc i) h inside = AllBelow-at p ns i h.1 (omega arith)

pub AllBelow-wider : (ns : List ℕ) → AllBelow 256 ns → AllBelow 65536 ns
AllBelow-wider [] h = tt
AllBelow-wider (n ∷ ns) h = (omega (arith, h.0), AllBelow-wider ns h.1)
