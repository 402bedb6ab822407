-- The first bad line of a part is the fault of the whole.
use Rattle.std.proofs.Common.{◌≡◌, ◌+◌, ℕ, zero, suc, List, ◌++◌, length, refl, sym, subst, inl, arith}
use Rattle.std.specs.Prelude.{Result, Ok, Err, IfErr, IsErrAnd, Option, None, IfNone}
use Rattle.pq_base.specs.Lines.{text_of_lines}
use Rattle.answer_text.specs.declared.source.Source.{Source}
use Rattle.answer_text.specs.AnswerText.{head_lines}
use Rattle.answer_text.specs.declared.fault.AnswerFault.{AnswerFault}
use Rattle.answer_text.specs.declared.fault.AnswerFault.TheVariants.{Line, NoMemory}
use Rattle.answer_text.specs.AnswerPlaces.{Place, IsScale}
use Rattle.answer_text.specs.AnswerPlaces.Place.{for_prime, in_body}
use Rattle.answer_text.specs.AnswerFaults.{IsFirstBad, IsFaultOf}
use Rattle.answer_text.specs.ReadSoFar.{IsBadAt, IsHead, source_lines, AreSources}
use Rattle.answer_text.specs.BodyRead.{Leads}
use Rattle.answer_text.proofs.lines.BadLines.{IsFirstBad-behind, head-leads, sources-lead, length-source_lines}

pub IsFaultOf-bad : (bytes : List ℕ) (f : AnswerFault) → IsBadAt for_prime bytes 1 f → IsFaultOf bytes f
IsFaultOf-bad bytes (Line zero) b = absurd (omega (arith, b.1))
IsFaultOf-bad bytes (Line (suc n)) b =
    let same : b.0 ≡ n = omega (arith, b.1) in
    inl (subst (λ (x : ℕ). IsFirstBad for_prime bytes x) same b.2)
IsFaultOf-bad bytes NoMemory b = tt

-- the same fault, seen from the beginning of lines that have their form
pub IsBadAt-behind : (P Q : Place) (ls : List (List ℕ)) (bytes rest : List ℕ) (first next : ℕ) (f : AnswerFault) → Leads P ls Q
    → bytes ≡ text_of_lines ls ++ rest
    → next ≡ first + length ls → IsBadAt Q rest next f → IsBadAt P bytes first f
IsBadAt-behind P Q ls bytes rest first next (Line n) lead cut count b =
    (length ls + b.0, omega (arith, b.1), IsFirstBad-behind P Q ls bytes rest b.0 lead cut b.2)
IsBadAt-behind P Q ls bytes rest first next NoMemory lead cut count b = tt

-- the same fault, seen from the first line
pub IsBadAt-head : (p n : ℕ) (bytes rest : List ℕ) (f : AnswerFault) → IsHead p n bytes rest → IsBadAt (in_body p n n 0) rest 5 f
    → IsBadAt for_prime bytes 1 f
IsBadAt-head p n bytes rest f h bad =
    IsBadAt-behind for_prime (in_body p n n 0) (head_lines p h.0 n) bytes rest 1 5 f (head-leads p h.0 n h.1 h.2) h.3 refl bad

-- the same fault, seen from the first line of a generator
pub IsBadAt-sources : (p n : ℕ) (ws : List ℕ) (ss : List Source) (text rest : List ℕ) (f : AnswerFault) → IsScale p n → length ws ≡ n
    → length ss ≡ n → AreSources n ws ss
    → text ≡ text_of_lines (source_lines p 0 ws ss) ++ rest → IsBadAt (in_body p n 0 0) rest (n + 5) f → IsBadAt (in_body p n n 0) text 5 f
IsBadAt-sources p n ws ss text rest f z one two are cut bad =
    let start : length ws + 0 ≡ n = omega arith in
    let count : length (source_lines p 0 ws ss) ≡ length ws = length-source_lines p 0 ws ss (omega arith) in
    let lead : Leads (in_body p n n 0) (source_lines p 0 ws ss) (in_body p n 0 0) =
    subst (λ (x : ℕ). Leads (in_body p n x 0) (source_lines p 0 ws ss) (in_body p n 0 0)) start
    (sources-lead p n 0 0 ws ss z (omega arith) (omega arith) are) in
    IsBadAt-behind (in_body p n n 0) (in_body p n 0 0) (source_lines p 0 ws ss) text rest 5 (n + 5) f lead cut (omega arith) bad

pub IfErr-given : {X E : Type 0} (o : Result X E) (e : E) (P : E → Type 0) → IsErrAnd o (λ x. x ≡ e) → P e → IfErr o P
IfErr-given (Ok x) e P same h = tt
IfErr-given (Err x) e P same h = subst P (sym same) h
