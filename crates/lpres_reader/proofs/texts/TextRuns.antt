-- A text line by line: what the lines so far lead to, and what is left of the text.
use Rattle.std.proofs.Common.{◌≡◌, ◌<◌, ◌≤◌, ℕ, suc, ◌+◌, false, List, [], ◌∷◌, ◌++◌, length, eqb, Option, Some, None, option_map}
use Rattle.std.proofs.Common.{MatchOption, IfSome, refl, sym, ap, subst, ◌∙◌, append_assoc, arith}
use Rattle.std.specs.Borrow.{Bor}
use Rattle.std.proofs.lemmas.List.{append-nil, length-append}
use Rattle.std.proofs.lemmas.List.Sums.{count_by-le-length}
use Rattle.std.proofs.lemmas.List.Splits.{length-slice_split}
use Rattle.pq_base.specs.LPresentation.{LPresentation}
use Rattle.lpres_reader.specs.Lines.{is_skipped, lines_of, content_of}
use Rattle.lpres_reader.specs.Reads.{Reads}
use Rattle.lpres_reader.specs.Faults.{Kind, LineFault, HasGenerators, FirstFault, at_line}
use Rattle.lpres_reader.specs.NextLine.{LeadsTo, skipped, made, StopsBy}
use Rattle.lpres_reader.specs.Stops.{Refuses, kind_of}
use Rattle.lpres_reader.specs.Refusals.{IsRefusedBy, refusal_at}
use Rattle.lpres_reader.specs.declared.fault.Stop.{Stop}
use Rattle.lpres_reader.specs.declared.fault.Stop.TheVariants.{Fault, NoMemory}
use Rattle.lpres_reader.proofs.texts.TextChains.{Chain, done, skips, reads}
use Rattle.lpres_reader.proofs.texts.TextReads.{nothing_from_chain}
use Rattle.lpres_reader.proofs.faults.ReaderLaws.{reads_of, are_before}

-- the lines that are left, of a text that may have no more
abbrev pub lines_left : Option (List ℕ) → List (List ℕ)
lines_left None = []
lines_left (Some text) = lines_of text

-- how much is left, which is less behind each line
abbrev pub size_left : Option (List ℕ) → ℕ
size_left None = 0
size_left (Some text) = suc (length text)

pub cut_left : (text line : List ℕ) (after : Option (Bor (List ℕ)))
    → MatchOption after (lines_of text ≡ line ∷ []) (λ t. lines_of text ≡ line ∷ lines_of t.now)
    → lines_of text ≡ line ∷ lines_left (option_map (λ t. t.now) after)
cut_left text line None h = h
cut_left text line (Some t) h = h

pub cut_shorter : (text : List ℕ) (after : Option (Bor (List ℕ))) → IfSome after (λ t. length t.now < length text)
    → size_left (option_map (λ t. t.now) after) < suc (length text)
cut_shorter text None h = omega arith
cut_shorter text (Some t) h = omega arith

-- a chain with one line more at its end
one_line : (m n : Option LPresentation) (line : List ℕ) → LeadsTo m line n → Chain m (line ∷ []) n
one_line m n line (skipped skip e) = subst (Chain m (line ∷ [])) (sym e) (skips line skip done)
one_line m n line (made L keep e makes) = subst (Chain m (line ∷ [])) (sym e) (reads line L keep makes done)

chain_push : {m n : Option LPresentation} {lines : List (List ℕ)} (k : Option LPresentation) (line : List ℕ) → Chain m lines n
    → LeadsTo n line k → Chain m (lines ++ line ∷ []) k
chain_push {m = m} k line done h = one_line m k line h
chain_push k line (skips first skip c) h = skips first skip (chain_push k line c h)
chain_push k line (reads first L keep makes c) h = reads first L keep makes (chain_push k line c h)

-- the lines that are passed, as many as are counted, lead to what is read so far
pub record ReadSoFar (text : List ℕ) (count : ℕ) (left : Option (List ℕ)) (m : Option LPresentation) : Type 0 where
  pub passed : List (List ℕ)
  pub place : lines_of text ≡ passed ++ lines_left left
  pub chain : Chain None passed m
  pub counted : length passed ≡ count

pub nothing_read : (text : List ℕ) → ReadSoFar text 0 (Some text) None
nothing_read text = record { passed = []; place = refl; chain = done; counted = refl }

pub line_read : (text here line : List ℕ) (count : ℕ) (after : Option (List ℕ)) (m n : Option LPresentation)
    → ReadSoFar text count (Some here) m → lines_of here ≡ line ∷ lines_left after
    → LeadsTo m line n → ReadSoFar text (count + 1) after n
line_read text here line count after m n s cut leads = record {
  passed = s.passed ++ line ∷ [];
  place = s.place ∙ ap (λ (l : List (List ℕ)). s.passed ++ l) cut ∙ sym (append_assoc s.passed (line ∷ []) (lines_left after));
  chain = chain_push n line s.chain leads;
  counted = omega (arith, length-append s.passed (line ∷ []), s.counted);
}

-- a text has at most one line more than bytes
pub count_small : (text here line : List ℕ) (count : ℕ) (after : Option (List ℕ)) (m : Option LPresentation)
    → ReadSoFar text count (Some here) m → lines_of here ≡ line ∷ lines_left after → count ≤ length text
count_small text here line count after m s cut =
    let whole : length (lines_of text) ≡ length (s.passed ++ line ∷ lines_left after) =
    ap length (s.place ∙ ap (λ (l : List (List ℕ)). s.passed ++ l) cut) in
    omega (
      arith,
      whole,
      length-append s.passed (line ∷ lines_left after),
      s.counted,
      length-slice_split (λ b. eqb b 10) text,
      count_by-le-length (λ b. eqb b 10) text,
    )

pub fault_here : (text here line : List ℕ) (count : ℕ) (after : Option (List ℕ)) (m : Option LPresentation) (k : Kind)
    → ReadSoFar text count (Some here) m → lines_of here ≡ line ∷ lines_left after
    → HasGenerators text → is_skipped line ≡ false → LineFault m line k → FirstFault text (count + 1) k
fault_here text here line count after m k s cut has keep fault =
    let place : lines_of text ≡ s.passed ++ line ∷ lines_left after = s.place ∙ ap (λ (l : List (List ℕ)). s.passed ++ l) cut in
    at_line has s.passed line (lines_left after) m place (omega (arith, s.counted)) keep
    (are_before text s.passed (line ∷ lines_left after) m place s.chain) fault

pub refused_here : (text here line : List ℕ) (count : ℕ) (after : Option (List ℕ)) (m : Option LPresentation) (stop : Stop)
    → ReadSoFar text count (Some here) m → lines_of here ≡ line ∷ lines_left after
    → HasGenerators text → Refuses (StopsBy m line) stop → IsRefusedBy text (refusal_at (count + 1) stop)
refused_here text here line count after m (Fault k) s cut has h = fault_here text here line count after m (kind_of k) s cut has h.0 h.1
refused_here text here line count after m NoMemory s cut has h = tt

chain_ends : (text : List ℕ) (m : Option LPresentation) → Chain None (lines_of text) m → MatchOption m (content_of text ≡ []) (Reads text)
chain_ends text None c = nothing_from_chain c refl refl
chain_ends text (Some L) c = reads_of text L c

pub all_read : (text : List ℕ) (count : ℕ) (left : Option (Bor (List ℕ))) (m : Option LPresentation)
    → ((t : Bor (List ℕ)) → left ≡ Some t → ⊥) → ReadSoFar text count (option_map (λ t. t.now) left) m
    → MatchOption m (content_of text ≡ []) (Reads text)
all_read text count None m none s =
    chain_ends text m (subst (λ (l : List (List ℕ)). Chain None l m) (sym (s.place ∙ append-nil s.passed)) s.chain)
all_read text count (Some t) m none s = absurd (none t refl)
