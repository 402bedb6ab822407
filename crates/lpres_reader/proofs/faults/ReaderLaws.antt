-- A text reads as exactly one presentation, or it has exactly one first fault.
use Rattle.std.proofs.Common.{◌≡◌, ℕ, suc, false, List, [], ◌∷◌, ◌++◌, length, Option, Some, None, refl, sym, ap, ap₂, subst, ◌∙◌, ◌⊎◌, inl}
use Rattle.std.proofs.Common.{inr, arith, Bool, true, Result, Ok, Err, MatchResult, Decides, if◌then◌else◌}
use Rattle.std.specs.List.{list_any}
use Rattle.std.proofs.lemmas.Bool.{cases_Bool}
use Rattle.std.proofs.lemmas.Bool.Decides.{not_from_Decides}
use Rattle.pq_base.specs.LPresentation.{LPresentation}
use Rattle.lpres_reader.specs.Lines.{is_skipped, lines_of}
use Rattle.lpres_reader.specs.Reads.{Reads}
use Rattle.lpres_reader.specs.Faults.{Kind, Syntax, LineFault, HasGenerators, text_of, Are, FirstFault, no_generators, at_line}
use Rattle.lpres_reader.specs.ReaderLaws.{VerdictsAreRight, EachTextReadsOrFails}
use Rattle.lpres_reader.specs.Front.{front_of}
use Rattle.lpres_reader.specs.Verdicts.{is_generators, lines_verdict, end_verdict, text_verdict}
use Rattle.lpres_reader.proofs.texts.TextLines.{unskipped, content_of-front, generators_kept, HasLine, has_line-Decides}
use Rattle.lpres_reader.proofs.texts.TextChains.{Chain, AreRight, lines_verdict-right, chain_unique, chain_not_fault, faults_alike}
use Rattle.lpres_reader.proofs.texts.TextReads.{unskipped-skip, unskipped-keep, ReadsLines, lines_from_reads, reads_from_lines}
use Rattle.lpres_reader.proofs.texts.TextReads.{chain_from_lines, lines_from_chain, chain_from_nothing, nothing_from_chain, chain_has_line}

-- a text and its lines
chain_of : (text : List ℕ) (L : LPresentation) → Reads text L → Chain None (lines_of text) (Some L)
chain_of text L r = chain_from_lines (lines_of text) L (lines_from_reads text L r)

pub reads_of : (text : List ℕ) (L : LPresentation) → Chain None (lines_of text) (Some L) → Reads text L
reads_of text L c = reads_from_lines text L (lines_from_chain c L refl refl)

-- the lines before a line of a text
chain_before : (text : List ℕ) (before after : List (List ℕ)) (m : Option LPresentation) → lines_of text ≡ before ++ after → Are before m
    → Chain None before m
chain_before text before after None e h = chain_from_nothing before (sym (content_of-front text before after e) ∙ h)
chain_before text before after (Some M) e h =
    chain_from_lines before M
    (subst (λ (content : List (List ℕ)). ReadsLines content M) (content_of-front text before after e)
    (lines_from_reads (text_of before) M h))

pub are_before : (text : List ℕ) (before after : List (List ℕ)) (m : Option LPresentation) → lines_of text ≡ before ++ after
    → Chain None before m → Are before m
are_before text before after None e c = content_of-front text before after e ∙ nothing_from_chain c refl refl
are_before text before after (Some M) e c =
    reads_from_lines (text_of before) M
    (subst (λ (content : List (List ℕ)). ReadsLines content M) (sym (content_of-front text before after e))
    (lines_from_chain c M refl refl))

pub has_generators : (text : List ℕ) → HasLine (lines_of text) → HasGenerators text
has_generators text h = record { before = h.before; line = h.line; after = h.after; lines = h.place; begins = h.begins }

pub has_line : (text : List ℕ) → HasGenerators text → HasLine (lines_of text)
has_line text h = record { before = h.before; line = h.line; after = h.after; place = h.lines; begins = h.begins }

-- lines with one that is not skipped are not nothing
pub unskipped_some : (before : List (List ℕ)) (line : List ℕ) (after : List (List ℕ)) → is_skipped line ≡ false
    → unskipped (before ++ line ∷ after) ≡ [] → ⊥
unskipped_some [] line after keep e = let same : line ∷ unskipped after ≡ [] = sym (unskipped-keep line after keep) ∙ e in cc
unskipped_some (b ∷ before) line after keep e = elim (cases_Bool (is_skipped b)) [
  | inl skip ↦ unskipped_some before line after keep (sym (unskipped-skip b (before ++ line ∷ after) skip) ∙ e)
  | inr kept ↦ let same : b ∷ unskipped (before ++ line ∷ after) ≡ [] = sym (unskipped-keep b (before ++ line ∷ after) kept) ∙ e in cc
]

-- the verdict on a text
abbrev IsRight : List ℕ → Result LPresentation (ℕ × Kind) → Type 0
IsRight text r = MatchResult r (Reads text) (λ f. FirstFault text f.0 f.1)

verdict_end : (text : List ℕ) → HasLine (lines_of text) → (r : Result (Option LPresentation) (ℕ × Kind)) → AreRight 1 None (lines_of text) r
    → IsRight text (end_verdict (length (lines_of text)) r)
verdict_end text h (Ok (Some L)) c = reads_of text L c
verdict_end text h (Ok None) c =
    absurd (unskipped_some h.before h.line h.after (generators_kept h.line h.begins)
    (ap unskipped (sym h.place) ∙ nothing_from_chain c refl refl))
verdict_end text h (Err e) f =
    at_line (has_generators text h) f.0.before f.0.line f.0.after f.0.earlier f.0.place (f.1 ∙ omega arith) f.0.kept
    (are_before text f.0.before (f.0.line ∷ f.0.after) f.0.earlier f.0.place f.0.chain)
    (subst (LineFault f.0.earlier f.0.line) (sym f.2) f.0.fault)

verdict_tested : (text : List ℕ) (b : Bool) → Decides b (HasLine (lines_of text))
    → IsRight text (if b then end_verdict (length (lines_of text)) (lines_verdict 1 None (lines_of text)) else Err
    (length (lines_of text), Syntax))
verdict_tested text true d =
    verdict_end text (d.0 refl) (lines_verdict 1 None (lines_of text)) (lines_verdict-right (lines_of text) 1 None tt)
verdict_tested text false d = no_generators (λ h. not_from_Decides false d refl (has_line text h)) refl refl

pub verdict-right : (text : List ℕ) → IsRight text (text_verdict text)
verdict-right text =
    verdict_tested text (list_any (λ line. is_generators (front_of line)) (lines_of text)) (has_line-Decides (lines_of text))

reads_or_fails : (text : List ℕ) (r : Result LPresentation (ℕ × Kind)) → IsRight text r
    → ((L : LPresentation) × Reads text L) ⊎ ((n : ℕ) × (kind : Kind) × FirstFault text n kind)
reads_or_fails text (Ok L) h = inl (L, h)
reads_or_fails text (Err f) h = inr (f.0, f.1, h)

not_both : (text : List ℕ) (L : LPresentation) (n : ℕ) (kind : Kind) → Reads text L → FirstFault text n kind → ⊥
not_both text L n kind r (no_generators never e f) = never (has_generators text (chain_has_line (chain_of text L r) L refl refl))
not_both text L n kind r (at_line has before line after m place e keep are f) =
    chain_not_fault before line after None (Some L) m kind tt
    (subst (λ (l : List (List ℕ)). Chain None l (Some L)) place (chain_of text L r))
    (chain_before text before (line ∷ after) m place are) keep f

one_presentation : (text : List ℕ) (L M : LPresentation) → Reads text L → Reads text M → L ≡ M
one_presentation text L M r s =
    let same : Some L ≡ Some M = chain_unique (lines_of text) None (Some L) (Some M) tt (chain_of text L r) (chain_of text M s) in
    cc

one_fault : (text : List ℕ) (n m : ℕ) (kind other : Kind) → FirstFault text n kind → FirstFault text m other → (n ≡ m) × (kind ≡ other)
one_fault text n m kind other (no_generators never e f) (no_generators _ g h) = (e ∙ sym g, f ∙ sym h)
one_fault text n m kind other (no_generators never e f) (at_line has before line after o place g keep are h) = absurd (never has)
one_fault text n m kind other (at_line has before line after o place g keep are h) (no_generators never e f) = absurd (never has)
one_fault text n m kind other (at_line _ before line after o place e keep are f) (at_line _ front next rest p there g kept be h) =
    let same = faults_alike before front line next after rest None o p kind other tt (sym place ∙ there)
    (chain_before text before (line ∷ after) o place are) (chain_before text front (next ∷ rest) p there be) keep kept f h in
    (e ∙ ap suc same.0 ∙ sym g, same.1)

pub each_text_reads_or_fails : EachTextReadsOrFails
each_text_reads_or_fails text = record {
  either = reads_or_fails text (text_verdict text) (verdict-right text);
  not_both = not_both text;
  one_presentation = one_presentation text;
  one_fault = one_fault text;
}

-- the verdict is what holds of the text
reads_judged : (text : List ℕ) (L : LPresentation) (r : Result LPresentation (ℕ × Kind)) → IsRight text r → Reads text L → r ≡ Ok L
reads_judged text L (Ok M) h r = ap (λ (N : LPresentation). Ok N) (one_presentation text M L h r)
reads_judged text L (Err f) h r = absurd (not_both text L f.0 f.1 r h)

fault_judged : (text : List ℕ) (n : ℕ) (kind : Kind) (r : Result LPresentation (ℕ × Kind)) → IsRight text r → FirstFault text n kind
    → r ≡ Err (n, kind)
fault_judged text n kind (Ok M) h f = absurd (not_both text M n kind h f)
fault_judged text n kind (Err e) h f = let same = one_fault text e.0 n e.1 kind h f in ap₂ (λ (m : ℕ) (k : Kind). Err (m, k)) same.0 same.1

pub verdicts_are_right : VerdictsAreRight
verdicts_are_right text = record {
  presentation = λ L. (λ e. subst (IsRight text) e (verdict-right text), reads_judged text L (text_verdict text) (verdict-right text));
  fault = λ n kind. (λ e. subst (IsRight text) e (verdict-right text), fault_judged text n kind (text_verdict text) (verdict-right text));
}
