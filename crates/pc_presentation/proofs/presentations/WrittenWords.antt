-- A word written over zeros, syllable by syllable, has its own exponents, and a row added to zeros is that row.
use Rattle.std.proofs.Common.{◌≡◌, ◌<◌, ◌≤◌, ◌+◌, ◌-◌, ◌%◌, ℕ, zero, suc, Bool, true, false, cond, eqb, Some, List, [], ◌∷◌, ◌++◌, length}
use Rattle.std.proofs.Common.{replicate, refl, ap, ap₂, sym, ◌∙◌, append_assoc, arith, zero-add, mod-eq_of_lt}
use Rattle.std.specs.Prelude.{All}
use Rattle.std.proofs.Math.ListN.{set}
use Rattle.std.proofs.lemmas.Bool.{eq-eqb, ne_eqb}
use Rattle.std.proofs.lemmas.List.{length-set, set_at, length-append}
use Rattle.std.proofs.lemmas.List.Elements.{All-nil, All-cons}
use Rattle.pq_base.specs.Table.{AllBelow}
use Rattle.pq_base.specs.Presentation.{IsNormal}
use Rattle.pc_presentation.specs.declared.syllable.Syllable.{Syllable}
use Rattle.pc_presentation.specs.Syllable.{syllable, spread, AreSyllables}
use Rattle.pc_presentation.specs.Pcp.{unit_row, row_of}
use Rattle.pc_presentation.specs.Rowed.{row_sum}
use Rattle.pc_presentation.specs.Tailed.{Element, with_state}
use Rattle.pc_presentation.proofs.presentations.SyllableLaws.{StartsFrom, Split, split}
use Rattle.pc_presentation.proofs.presentations.SyllableLaws.Split.{later, now}
use Rattle.pc_presentation.proofs.rows.TailRowLaws.{row_of-normal}

-- the syllables of a word written over exponents, one after the other
abbrev pub written : List ℕ → List Syllable → List ℕ
written e [] = e
written e (s ∷ w) = written (set e (s.generator - 1) s.exponent) w

pub length-written : (e : List ℕ) (w : List Syllable) → length (written e w) ≡ length e
length-written e [] = refl
length-written e (s ∷ w) = length-written (set e (s.generator - 1) s.exponent) w ∙ length-set e (s.generator - 1) s.exponent

spread-past : (m k : ℕ) (w : List Syllable) → StartsFrom (suc k) w → spread (suc m) k w ≡ 0 ∷ spread m (suc k) w
spread-past m k [] h = refl
spread-past m k (s ∷ w) h =
    let other : eqb s.generator (suc k) ≡ false = ne_eqb s.generator (suc k) (λ (e : s.generator ≡ suc k). absurd (omega (arith, h))) in
    ap (λ (b : Bool). cond b s.exponent 0 ∷ spread m (suc k) (cond b w (s ∷ w))) other

spread-here : (m k x : ℕ) (w : List Syllable) → spread (suc m) k (syllable (suc k) x ∷ w) ≡ x ∷ spread m (suc k) w
spread-here m k x w =
    let same : eqb (suc k) (suc k) ≡ true = eq-eqb (suc k) (suc k) refl in
    ap (λ (b : Bool). cond b x 0 ∷ spread m (suc k) (cond b w (syllable (suc k) x ∷ w))) same

-- one place on, where the exponent is x
one_place_on : (m k x : ℕ) (front zs : List ℕ) (v w : List Syllable) → length front ≡ k
    → ((next : List ℕ) → length next ≡ suc k → written (next ++ zs) v ≡ next ++ spread m (suc k) v)
    → spread (suc m) k w ≡ x ∷ spread m (suc k) v → written (front ++ x ∷ zs) v ≡ front ++ spread (suc m) k w
one_place_on m k x front zs v w long more e =
    let next : length (front ++ x ∷ []) ≡ suc k = omega (arith, length-append front (x ∷ [])) in
    ap (λ (l : List ℕ). written l v) (sym (append_assoc front (x ∷ []) zs))
    ∙ more (front ++ x ∷ []) next ∙ append_assoc front (x ∷ []) (spread m (suc k) v)
    ∙ ap (λ (l : List ℕ). front ++ l) (sym e)

written-split : (p n m k : ℕ) (front : List ℕ) (w : List Syllable) → length front ≡ k
    → ((next : List ℕ) (v : List Syllable) → length next ≡ suc k → AreSyllables p n (suc k) v
    → written (next ++ replicate m 0) v ≡ next ++ spread m (suc k) v)
    → Split p n k w → written (front ++ replicate (suc m) 0) w ≡ front ++ spread (suc m) k w
written-split p n m k front w long more (later v h a) =
    one_place_on m k 0 front (replicate m 0) v v long (λ next l. more next v l a) (spread-past m k v h)
written-split p n m k front w long more (now x v b l a) =
    let place : length front ≡ suc k - 1 = omega arith in
    ap (λ (e : List ℕ). written e v) (set_at front 0 (replicate m 0) (suc x) (suc k - 1) place)
    ∙ one_place_on m k (suc x) front (replicate m 0) v (syllable (suc k) (suc x) ∷ v) long (λ next q. more next v q a)
    (spread-here m k (suc x) v)

written-from : (p n m k : ℕ) (front : List ℕ) (w : List Syllable) → k + m ≡ n → length front ≡ k → AreSyllables p n k w
    → written (front ++ replicate m 0) w ≡ front ++ spread m k w
written-from p n zero k front [] e long a = refl
written-from p n zero k front (s ∷ w) e long a = absurd (omega (arith, a.0, a.1))
written-from p n (suc m) k front w e long a =
    written-split p n m k front w long (λ next v l b. written-from p n m (suc k) next v (omega arith) l b) (split p n k w a)

-- the exponents of a normal word over zeros are its own
pub written-zeros : (p n : ℕ) (w : List Syllable) → AreSyllables p n 0 w → written (replicate n 0) w ≡ spread n 0 w
written-zeros p n w a = written-from p n n 0 [] w (zero-add n) refl a

abbrev pub element_written : Element → List Syllable → Element
element_written e w = with_state e (record { exponents = written e.state.exponents w; row = e.state.row })

-- elements that become one by writing have as many exponents
pub same_length : (e f : Element) (v w : List Syllable) → element_written e v ≡ element_written f w
    → length e.state.exponents ≡ length f.state.exponents
same_length e f v w h =
    sym (length-written e.state.exponents v) ∙ ap (λ (x : Element). length x.state.exponents) h ∙ length-written f.state.exponents w

-- what each syllable of a normal word is
pub syllable-facts : (p n k : ℕ) (w : List Syllable) → AreSyllables p n k w
    → All (λ s. (1 ≤ s.generator) × (s.generator ≤ n) × (s.exponent < p)) w
syllable-facts p n k [] a = All-nil (λ s. (1 ≤ s.generator) × (s.generator ≤ n) × (s.exponent < p))
syllable-facts p n k (s ∷ w) a =
    All-cons (λ s. (1 ≤ s.generator) × (s.generator ≤ n) × (s.exponent < p)) s w (omega (arith, a.0), a.1, a.3)
    (syllable-facts p n s.generator w a.4)

-- a row added to zeros
zeros_sum : (p : ℕ) (x : List ℕ) → AllBelow p x → row_sum p (replicate (length x) 0) x ≡ x
zeros_sum p [] b = refl
zeros_sum p (a ∷ x) b =
    ap₂ (λ (n : ℕ) (l : List ℕ). n ∷ l) (ap (λ (n : ℕ). n % p) (zero-add a) ∙ mod-eq_of_lt b.0) (zeros_sum p x b.1)

pub zeros_sum-unit : (p n t : ℕ) → 2 ≤ p → row_sum p (replicate n 0) (unit_row n t) ≡ unit_row n t
zeros_sum-unit p n t two =
    let normal : IsNormal p n (row_of n (Some t)) = row_of-normal p n (Some t) two in
    ap (λ (m : ℕ). row_sum p (replicate m 0) (unit_row n t)) (sym normal.count) ∙ zeros_sum p (unit_row n t) normal.below
