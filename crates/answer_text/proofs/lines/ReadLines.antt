-- Where all lines were read, the fault is at the last line, and an answer with this text is the answer of what was read.
use Rattle.std.proofs.Common.{◌≡◌, ◌≤◌, ◌+◌, ℕ, zero, suc, List, [], ◌∷◌, ◌++◌, length, map, refl, ap, ap₂, sym, subst, ◌∙◌, inr, arith}
use Rattle.std.proofs.Common.{append_assoc, length-append}
use Rattle.std.specs.Prelude.{codes}
use Rattle.std.proofs.lemmas.List.{length-map}
use Rattle.std.proofs.lemmas.List.Elements.{All-head, All-tail}
use Rattle.pq_base.specs.Presentation.{Presentation, IsPresentation}
use Rattle.pq_base.specs.Answer.{Answer, IsAnswer}
use Rattle.pq_base.specs.Lines.{text_of_lines}
use Rattle.pc_presentation.specs.declared.syllable.Syllable.{Syllable}
use Rattle.pc_presentation.specs.declared.definition.Definition.{Definition}
use Rattle.pc_presentation.specs.Syllable.{AreSyllables, spread, syllables_of}
use Rattle.pc_presentation.specs.Definition.{definition_of}
use Rattle.pc_presentation.specs.Parts.{AreImages, answer_of, AreParts}
use Rattle.pc_presentation.proofs.presentations.SyllableLaws.{syllables_of-spread}
use Rattle.pq_base.proofs.PrimeLaws.{offered-positive}
use Rattle.pc_presentation.proofs.presentations.PartsLaws.{AreNormal-spread}
use Rattle.answer_text.specs.declared.source.Source.{Source}
use Rattle.answer_text.specs.AnswerText.{answer_text, head_lines, image_lines, power_lines, commutator_lines}
use Rattle.answer_text.specs.OneText.{IsWritable}
use Rattle.answer_text.specs.AnswerPlaces.{IsScale, word_line}
use Rattle.answer_text.specs.AnswerPlaces.Place.{for_prime, in_body, at_end}
use Rattle.answer_text.specs.AnswerPlaces.HasForm.{last}
use Rattle.answer_text.specs.AnswerFaults.{IsWhole, IsAnswerText, IsFaultLine}
use Rattle.answer_text.specs.ReadSoFar.{word_lines, source_lines}
use Rattle.answer_text.specs.Sources.{AreResolved}
use Rattle.answer_text.specs.Drafts.{SoFar}
use Rattle.answer_text.specs.BodyRead.{Leads, body_lines, IsBodyRead, IsRead}
use Rattle.pq_base.proofs.LineLaws.{text_of_lines-append}
use Rattle.answer_text.proofs.lines.LineLeads.{Leads-append}
use Rattle.answer_text.proofs.lines.BadLines.{IsWhole-after, head-leads, sources-lead, length-source_lines}
use Rattle.answer_text.proofs.AnswerRead.{IsBody, body_text, read_text, answer-told}

-- the lines before the last
abbrev lines_read : {bytes : List ℕ} {end : ℕ} {ss : List Source} {S : SoFar} → IsRead bytes end ss S → List (List ℕ)
lines_read {bytes} {end} {ss} {S} r = head_lines r.prime r.class r.rank ++ (source_lines r.prime 0 r.weights ss ++ body_lines r.prime S)

text-lines_read : (bytes : List ℕ) (end : ℕ) (ss : List Source) (S : SoFar) (r : IsRead bytes end ss S)
    → bytes ≡ text_of_lines (lines_read r) ++ codes "end\n"
text-lines_read bytes end ss S r =
    let head : List (List ℕ) = head_lines r.prime r.class r.rank in
    let sources : List (List ℕ) = source_lines r.prime 0 r.weights ss in
    let body : List (List ℕ) = body_lines r.prime S in
    let inner : text_of_lines (sources ++ body) ++ codes "end\n" ≡ text_of_lines sources ++ r.body =
    ap (λ (x : List ℕ). x ++ codes "end\n") (text_of_lines-append sources body)
    ∙ append_assoc (text_of_lines sources) (text_of_lines body) (codes "end\n")
    ∙ ap (λ (x : List ℕ). text_of_lines sources ++ x) (sym r.read.lines) in
    r.lines ∙ sym (ap (λ (x : List ℕ). x ++ codes "end\n") (text_of_lines-append head (sources ++ body))
    ∙ append_assoc (text_of_lines head) (text_of_lines (sources ++ body)) (codes "end\n")
    ∙ ap (λ (x : List ℕ). text_of_lines head ++ x) inner)

leads-lines_read : (bytes : List ℕ) (end : ℕ) (ss : List Source) (S : SoFar) (r : IsRead bytes end ss S)
    → Leads for_prime (lines_read r) (in_body r.prime r.rank 0 S.place)
leads-lines_read bytes end ss S r =
    let p : ℕ = r.prime in
    let n : ℕ = r.rank in
    let z : IsScale p n = r.read.draft.scale in
    let count : length r.weights ≡ n = r.weight_count in
    let source_count : length ss ≡ n = r.source_count in
    let start : length r.weights + 0 ≡ n = omega arith in
    let sources : Leads (in_body p n n 0) (source_lines p 0 r.weights ss) (in_body p n 0 0) =
    subst (λ (x : ℕ). Leads (in_body p n x 0) (source_lines p 0 r.weights ss) (in_body p n 0 0)) start
    (sources-lead p n 0 0 r.weights ss z (omega arith) (omega arith) r.legible) in
    Leads-append for_prime (in_body p n n 0) (in_body p n 0 S.place) (head_lines p r.class n)
    (source_lines p 0 r.weights ss ++ body_lines p S) (head-leads p r.class n z r.low_class)
    (Leads-append (in_body p n n 0) (in_body p n 0 0) (in_body p n 0 S.place) (source_lines p 0 r.weights ss)
    (body_lines p S) sources r.read.leads)

IsWhole-read : (bytes : List ℕ) (end : ℕ) (ss : List Source) (S : SoFar) (r : IsRead bytes end ss S) → IsWhole for_prime bytes end
IsWhole-read bytes end ss S r =
    let p : ℕ = r.prime in
    let n : ℕ = r.rank in
    let count : length r.weights ≡ n = r.weight_count in
    let source_count : length ss ≡ n = r.source_count in
    let sources : length (source_lines p 0 r.weights ss) ≡ length r.weights = length-source_lines p 0 r.weights ss (omega arith) in
    let parts : length (source_lines p 0 r.weights ss ++ body_lines p S)
    ≡ length (source_lines p 0 r.weights ss) + length (body_lines p S) =
    length-append (source_lines p 0 r.weights ss) (body_lines p S) in
    let number : end ≡ n + 5 + length (body_lines p S) = r.read.numbered in
    let all : length (lines_read r) + 1 ≡ end = omega arith in
    subst (λ (x : ℕ). IsWhole for_prime bytes x) all
    (IsWhole-after for_prime (in_body p n 0 S.place) (lines_read r) bytes (codes "end\n") 1 (leads-lines_read bytes end ss S r)
    (text-lines_read bytes end ss S r)
    (codes "end", at_end, [], last p n S.place, refl, (refl, refl)))

IsFaultLine-whole : (bytes : List ℕ) (end : ℕ) → 1 ≤ end → IsWhole for_prime bytes end → ¬ IsAnswerText bytes → IsFaultLine bytes end
IsFaultLine-whole bytes zero one w none = absurd (omega arith)
IsFaultLine-whole bytes (suc k) one w none = inr (w, none)

pub IsFaultLine-read : (bytes : List ℕ) (end : ℕ) (ss : List Source) (S : SoFar) → IsRead bytes end ss S → ¬ IsAnswerText bytes
    → IsFaultLine bytes end
IsFaultLine-read bytes end ss S r none =
    let number : end ≡ r.rank + 5 + length (body_lines r.prime S) = r.read.numbered in
    IsFaultLine-whole bytes end (omega arith) (IsWhole-read bytes end ss S r) none

word_lines-image_lines : (p n : ℕ) (ns : List (List ℕ)) (ws : List (List Syllable)) → AreImages p n ws
    → word_lines ns ws ≡ image_lines ns (map (spread n 0) ws)
word_lines-image_lines p n [] ws a = refl
word_lines-image_lines p n (name ∷ ns) [] a = refl
word_lines-image_lines p n (name ∷ ns) (w ∷ ws) a =
    let word : syllables_of 0 (spread n 0 w) ≡ w =
    syllables_of-spread p n n 0 w (omega arith) (All-head (λ v. AreSyllables p n 0 v) w ws a) in
    ap₂ (λ (v : List Syllable) (t : List (List ℕ)). word_line name v ∷ t) (sym word)
    (word_lines-image_lines p n ns ws (All-tail (λ v. AreSyllables p n 0 v) w ws a))

body-read_text : (p n end : ℕ) (weights text : List ℕ) (S : SoFar) → IsBodyRead p n weights text (codes "end\n") end S
    → text ≡ body_text p S.draft.built.presentation S.names (map (spread n 0) S.words)
body-read_text p n end weights text S b =
    let P : Presentation = S.draft.built.presentation in
    let powers : List (List ℕ) = power_lines p 0 P.powers in
    let rows : List (List ℕ) = commutator_lines 0 P.commutators in
    let images : List (List ℕ) = image_lines S.names (map (spread n 0) S.words) in
    let lines : body_lines p S ≡ (powers ++ rows) ++ images =
    ap (λ (x : List (List ℕ)). (powers ++ rows) ++ x) (word_lines-image_lines p n S.names S.words b.words) in
    b.lines ∙ ap (λ (x : List (List ℕ)). text_of_lines x ++ codes "end\n") lines
    ∙ ap (λ (x : List ℕ). x ++ codes "end\n") (text_of_lines-append (powers ++ rows) images)
    ∙ ap (λ (x : List ℕ). (x ++ text_of_lines images) ++ codes "end\n") (text_of_lines-append powers rows)
    ∙ append_assoc (text_of_lines powers ++ text_of_lines rows) (text_of_lines images) (codes "end\n")
    ∙ append_assoc (text_of_lines powers) (text_of_lines rows) (text_of_lines images ++ codes "end\n")

-- an answer with this text is the answer of what was read
told-read : (bytes : List ℕ) (end : ℕ) (ss : List Source) (S : SoFar) (ds : List Definition) (A : Answer) → IsRead bytes end ss S
    → IsPresentation S.draft.built.presentation
    → AreResolved S.names ss (map definition_of ds) → IsWritable A → bytes ≡ answer_text A → A ≡ answer_of S.draft.built S.names ds S.words
told-read bytes end ss S ds A r is resolved w e =
    let p : ℕ = r.prime in
    let n : ℕ = r.rank in
    let P : Presentation = S.draft.built.presentation in
    let es : List (List ℕ) = map (spread n 0) S.words in
    let some : length es ≡ length S.words = length-map S.words (spread n 0) in
    let words : length S.words ≡ length S.names = r.read.count in
    let fits : IsBody p n P S.names es = record {
      scale = r.read.draft.scale;
      prime = r.read.draft.prime;
      rank = r.read.draft.rank;
      presentation = is;
      names = r.read.names;
      count = some ∙ words;
      normal = AreNormal-spread p n S.words (offered-positive p r.read.draft.scale.offered) r.read.words;
    } in
    let text : answer_text A ≡ read_text p r.class n r.weights ss P S.names es =
    sym e ∙ r.lines ∙ ap (λ (x : List ℕ). text_of_lines (head_lines p r.class n) ++ (text_of_lines (source_lines p 0 r.weights ss) ++ x))
    (body-read_text p n end r.weights r.body S r.read) in
    answer-told A p r.class n r.weights ss P S.names es (map definition_of ds) w r.low_class fits r.weight_count r.source_count r.legible
    resolved text
    ∙ ap (λ (x : List ℕ). let B : Answer =
    record { presentation = P; weights = x; names = S.names; definitions = map definition_of ds; images = es } in B) (sym r.read.weights)
    ∙ ap (λ (x : ℕ). let B : Answer =
    record {
      presentation = P;
      weights = S.draft.built.weights;
      names = S.names;
      definitions = map definition_of ds;
      images = map (spread x 0) S.words;
    } in B) (sym r.read.draft.rank)

-- so there is none where the parts make no answer
pub no_answer-parts : (bytes : List ℕ) (end : ℕ) (ss : List Source) (S : SoFar) (ds : List Definition)
    → IsPresentation S.draft.built.presentation → AreResolved S.names ss (map definition_of ds)
    → ¬ AreParts S.draft.built S.names ds S.words → IsRead bytes end ss S → ¬ IsAnswerText bytes
no_answer-parts bytes end ss S ds is resolved none r a =
    let P : Presentation = S.draft.built.presentation in
    none (record {
      no_tails = r.read.no_tails;
      normal =
          subst (λ (x : ℕ). AreImages P.prime x S.words) (sym r.read.draft.rank)
          (subst (λ (x : ℕ). AreImages x r.rank S.words) (sym r.read.draft.prime) r.read.words);
      answer = subst (λ (x : Answer). IsAnswer x) (told-read bytes end ss S ds a.0 r is resolved a.1 a.2) a.1.answer;
    })

-- nor where the answer of the parts has another text
pub no_answer-text : (bytes written : List ℕ) (end : ℕ) (ss : List Source) (S : SoFar) (ds : List Definition) (A : Answer)
    → IsPresentation S.draft.built.presentation
    → AreResolved S.names ss (map definition_of ds) → A ≡ answer_of S.draft.built S.names ds S.words → written ≡ answer_text A
    → ¬ (bytes ≡ written) → IsRead bytes end ss S → ¬ IsAnswerText bytes
no_answer-text bytes written end ss S ds A is resolved same text other r a =
    other (a.2 ∙ ap answer_text (told-read bytes end ss S ds a.0 r is resolved a.1 a.2 ∙ sym same) ∙ sym text)
