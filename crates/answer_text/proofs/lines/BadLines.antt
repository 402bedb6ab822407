-- Where a line that was read has no form in its place, it is the first bad line.
use Rattle.std.proofs.Common.{◌≡◌, ◌<◌, ◌≤◌, ◌+◌, ◌-◌, ℕ, suc, true, List, [], ◌∷◌, ◌++◌, length, refl, ap, sym, subst, ◌∙◌, inl, inr}
use Rattle.std.proofs.Common.{arith, append_assoc}
use Rattle.pq_base.specs.Limits.{max_class, max_rank}
use Rattle.pq_base.specs.declared.prime.Prime.{Prime}
use Rattle.pq_base.specs.declared.prime.Prime.TheVariants.{P2, P3, P5, P7}
use Rattle.pq_base.specs.Prime.{IsOffered, prime_value}
use Rattle.pq_base.specs.Lines.{text_of_lines}
use Rattle.answer_text.specs.declared.source.Source.{Source}
use Rattle.answer_text.specs.Lines.{avoids}
use Rattle.answer_text.specs.AnswerText.{head_lines}
use Rattle.answer_text.specs.AnswerPlaces.{Place, HasForm, IsScale, IsSource, prime_line, class_line, rank_line, order_line, source_line}
use Rattle.answer_text.specs.AnswerPlaces.Place.{for_prime, for_class, for_rank, for_order, in_body, at_end}
use Rattle.answer_text.specs.AnswerPlaces.HasForm.{prime, class, rank, order, generator}
use Rattle.answer_text.specs.AnswerFaults.{IsEnd, IsWhole, IsFirstBad}
use Rattle.answer_text.specs.declared.fault.AnswerFault.{AnswerFault}
use Rattle.answer_text.specs.declared.fault.AnswerFault.TheVariants.{Line, NoMemory}
use Rattle.answer_text.specs.ReadSoFar.{IsBadAt, source_lines, AreSources}
use Rattle.pq_base.proofs.LineLaws.{text_of_lines-append}
use Rattle.answer_text.proofs.Splits.{nil-split}
use Rattle.answer_text.proofs.FormLaws.{tells_places}
use Rattle.answer_text.proofs.lines.FaultSteps as fault_steps
use Rattle.answer_text.proofs.faults.FaultLaws.{IsFirstBad-here, IsFirstBad-step}
use Rattle.answer_text.specs.BodyRead.{Leads}

-- not the place behind the last line
abbrev pub IsOpen : Place → Type 0
IsOpen P = P ≡ at_end → ⊥

-- no whole line
pub no-line : (P : Place) (bytes : List ℕ) → IsOpen P → avoids 10 bytes ≡ true → IsFirstBad P bytes 0
no-line P bytes unended a =
    IsFirstBad-here P bytes (fault_steps.IsStuck-no_line Place HasForm IsEnd tells_places P bytes a) (λ e none. unended e)

-- a line without its form
pub bad-line : (P : Place) (bytes line rest : List ℕ) → bytes ≡ line ++ 10 ∷ rest → avoids 10 line ≡ true
    → ((Q : Place) → HasForm P line Q → ⊥) → IsFirstBad P bytes 0
bad-line P bytes line rest cut a no_form =
    IsFirstBad-here P bytes (fault_steps.IsStuck-line Place HasForm IsEnd tells_places P bytes line rest cut a no_form)
    (λ e none. nil-split 10 line rest (sym none ∙ cut))

pub no-prime : (line : List ℕ) → ((p : ℕ) → IsOffered p → ¬ (line ≡ prime_line p)) → (Q : Place) → HasForm for_prime line Q → ⊥
no-prime line none Q (prime p o) = none p o refl

pub no-class : (p : ℕ) (line : List ℕ) → ((c : ℕ) → c ≤ max_class → ¬ (line ≡ class_line c)) → (Q : Place) → HasForm (for_class p) line Q
    → ⊥
no-class p line none Q (class q c h) = none c h refl

pub no-rank : (p : ℕ) (line : List ℕ) → ((n : ℕ) → n ≤ max_rank → ¬ (line ≡ rank_line n)) → (Q : Place) → HasForm (for_rank p) line Q → ⊥
no-rank p line none Q (rank q n h) = none n h refl

pub no-order : (p n : ℕ) (line : List ℕ) → ¬ (line ≡ order_line p n) → (Q : Place) → HasForm (for_order p n) line Q → ⊥
no-order p n line none Q (order q m s) = none refl

pub open-prime : IsOpen for_prime
open-prime e = differ e where
  differ : for_prime ≡ at_end → ⊥
  differ e = cc

pub open-class : (p : ℕ) → IsOpen (for_class p)
open-class p e = cc

pub open-rank : (p : ℕ) → IsOpen (for_rank p)
open-rank p e = cc

pub open-order : (p n : ℕ) → IsOpen (for_order p n)
open-order p n e = cc

pub open-body : (p n left m : ℕ) → IsOpen (in_body p n left m)
open-body p n left m e = cc

-- a first bad line behind lines that have their form
pub IsFirstBad-behind : (P Q : Place) (ls : List (List ℕ)) (bytes rest : List ℕ) (k : ℕ) → Leads P ls Q → bytes ≡ text_of_lines ls ++ rest
    → IsFirstBad Q rest k → IsFirstBad P bytes (length ls + k)
IsFirstBad-behind P Q ls bytes rest k a e bad =
    subst (λ (x : List ℕ). IsFirstBad P x (length ls + k)) (sym e)
    (fault_steps.IsFirstBad-behind Place HasForm IsEnd tells_places P Q ls rest k a bad)

pub IsWhole-after : (P Q : Place) (ls : List (List ℕ)) (bytes rest : List ℕ) (k : ℕ) → Leads P ls Q → bytes ≡ text_of_lines ls ++ rest
    → IsWhole Q rest k → IsWhole P bytes (length ls + k)
IsWhole-after P Q [] bytes rest k a e w =
    let same : k ≡ 0 + k = omega arith in
    subst (λ (x : ℕ). IsWhole P bytes x) same
    (subst (λ (x : List ℕ). IsWhole P x k) (sym e) (subst (λ (x : Place). IsWhole x rest k) (sym a) w))
IsWhole-after P Q (l ∷ ls) bytes rest k a e w =
    let same : suc (length ls + k) ≡ suc (length ls) + k = omega arith in
    subst (λ (x : ℕ). IsWhole P bytes x) same (
      l,
      a.0,
      text_of_lines ls ++ rest,
      a.1,
      e ∙ append_assoc l (10 ∷ text_of_lines ls) rest,
      IsWhole-after a.0 Q ls (text_of_lines ls ++ rest) rest k a.2 refl w,
    )

pub head-leads : (p c n : ℕ) → IsScale p n → c ≤ max_class → Leads for_prime (head_lines p c n) (in_body p n n 0)
head-leads p c n z h =
    (for_class p, prime p z.offered, (for_rank p, class p c h, (for_order p n, rank p n z.limit, (in_body p n n 0, order p n z, refl))))

pub sources-lead : (p n k m : ℕ) (ws : List ℕ) (ss : List Source) → IsScale p n → k + (length ws + m) ≡ n → length ss ≡ length ws
    → AreSources n ws ss
    → Leads (in_body p n (length ws + m) 0) (source_lines p k ws ss) (in_body p n m 0)
sources-lead p n k m [] ss z inside long a = ap (λ (x : ℕ). in_body p n x 0) (let e : 0 + m ≡ m = omega arith in e)
sources-lead p n k m (w ∷ ws) [] z inside long a = absurd (omega arith)
sources-lead p n k m (w ∷ ws) (s ∷ ss) z inside long a =
    let next : suc (length ws) + m ≡ suc (length ws + m) = omega arith in (
      in_body p n (length ws + m) 0,
      subst (λ (x : ℕ). HasForm (in_body p n x 0) (source_line p (suc k) w s) (in_body p n (length ws + m) 0)) (sym next)
          (generator p n 0 (length ws + m) k w s z (omega arith) a.0 a.1 a.2),
      sources-lead p n (suc k) m ws ss z (omega arith) (omega arith) a.3,
    )

pub no-generator : (p n left k : ℕ) (line : List ℕ) → suc k + left ≡ n
    → ((w : ℕ) (s : Source) → 1 ≤ w → w ≤ max_class → IsSource n s → ¬ (line ≡ source_line p (suc k) w s))
    → (Q : Place) → HasForm (in_body p n (suc left) 0) line Q → ⊥
no-generator p n left k line inside none Q (generator p2 n2 m left2 k2 w s z inside2 one top is) =
    let same : k2 ≡ k = omega arith in
    none w s one top is (ap (λ (x : ℕ). source_line p (suc x) w s) same)

pub prime-form : (line : List ℕ) (p : ℕ) → IsOffered p → line ≡ prime_line p → HasForm for_prime line (for_class p)
prime-form line p o e = subst (λ (x : List ℕ). HasForm for_prime x (for_class p)) (sym e) (prime p o)

pub class-form : (line : List ℕ) (p c : ℕ) → c ≤ max_class → line ≡ class_line c → HasForm (for_class p) line (for_rank p)
class-form line p c h e = subst (λ (x : List ℕ). HasForm (for_class p) x (for_rank p)) (sym e) (class p c h)

pub rank-form : (line : List ℕ) (p n : ℕ) → n ≤ max_rank → line ≡ rank_line n → HasForm (for_rank p) line (for_order p n)
rank-form line p n h e = subst (λ (x : List ℕ). HasForm (for_rank p) x (for_order p n)) (sym e) (rank p n h)

pub length-source_lines : (p k : ℕ) (ws : List ℕ) (ss : List Source) → length ss ≡ length ws → length (source_lines p k ws ss) ≡ length ws
length-source_lines p k [] ss h = refl
length-source_lines p k (w ∷ ws) [] h = absurd (omega arith)
length-source_lines p k (w ∷ ws) (s ∷ ss) h = ap (λ (x : ℕ). suc x) (length-source_lines p (suc k) ws ss (omega arith))

-- behind k lines of generators
pub generators-bad : (p n k : ℕ) (ws : List ℕ) (ss : List Source) (text rest : List ℕ) → IsScale p n → length ws ≡ k → length ss ≡ k → k ≤ n
    → AreSources n ws ss
    → text ≡ text_of_lines (source_lines p 0 ws ss) ++ rest → IsFirstBad (in_body p n (n - k) 0) rest 0
    → IsFirstBad (in_body p n n 0) text k
generators-bad p n k ws ss text rest z one two inside a e bad =
    let start : length ws + (n - k) ≡ n = omega arith in
    let count : length (source_lines p 0 ws ss) ≡ length ws = length-source_lines p 0 ws ss (omega arith) in
    let lines : length (source_lines p 0 ws ss) + 0 ≡ k = omega arith in
    let lead : Leads (in_body p n n 0) (source_lines p 0 ws ss) (in_body p n (n - k) 0) =
    subst (λ (x : ℕ). Leads (in_body p n x 0) (source_lines p 0 ws ss) (in_body p n (n - k) 0)) start
    (sources-lead p n 0 (n - k) ws ss z (omega arith) (omega arith) a) in
    subst (λ (x : ℕ). IsFirstBad (in_body p n n 0) text x) lines
    (IsFirstBad-behind (in_body p n n 0) (in_body p n (n - k) 0) (source_lines p 0 ws ss) text rest 0 lead e bad)

pub no-next-generator : (p n k j : ℕ) (line : List ℕ) → k < n → j ≡ suc k
    → ((w : ℕ) (s : Source) → 1 ≤ w → w ≤ max_class → IsSource n s → ¬ (line ≡ source_line p j w s))
    → (Q : Place) → HasForm (in_body p n (n - k) 0) line Q → ⊥
no-next-generator p n k j line inside next none Q f =
    let left : n - k ≡ suc (n - suc k) = omega arith in
    no-generator p n (n - suc k) k line (omega arith)
    (subst (λ (x : ℕ). (w : ℕ) (s : Source) → 1 ≤ w → w ≤ max_class → IsSource n s → ¬ (line ≡ source_line p x w s)) next none)
    Q (subst (λ (x : ℕ). HasForm (in_body p n x 0) line Q) left f)

-- one line more
pub text-push : (ls : List (List ℕ)) (l text rest more : List ℕ) → text ≡ text_of_lines ls ++ rest → rest ≡ l ++ 10 ∷ more
    → text ≡ text_of_lines (ls ++ l ∷ []) ++ more
text-push ls l text rest more e cut =
    e ∙ ap (λ (x : List ℕ). text_of_lines ls ++ x) cut ∙ sym (ap (λ (x : List ℕ). x ++ more) (text_of_lines-append ls (l ∷ []))
    ∙ append_assoc (text_of_lines ls) (l ++ 10 ∷ []) more ∙ ap (λ (x : List ℕ). text_of_lines ls ++ x) (append_assoc l (10 ∷ []) more))

-- the same fault, seen from a line before
pub IsBadAt-before : (P Q : Place) (l rest bytes : List ℕ) (first : ℕ) (f : AnswerFault) → HasForm P l Q → bytes ≡ l ++ 10 ∷ rest
    → IsBadAt Q rest (suc first) f → IsBadAt P bytes first f
IsBadAt-before P Q l rest bytes first (Line n) form e bad =
    (suc bad.0, omega (arith, bad.1), IsFirstBad-step P Q l rest bytes bad.0 form e bad.2)
IsBadAt-before P Q l rest bytes first NoMemory form e bad = tt
