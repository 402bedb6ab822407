-- The text of a certificate is written part by part.
use Rattle.std.proofs.Common.{◌≡◌, ◌<◌, ℕ, suc, List, [], ◌∷◌, ◌++◌, get_or, drop, length, map, refl, ap, sym, ◌∙◌, append_assoc}
use Rattle.std.specs.Prelude.{codes}
use Rattle.std.proofs.Math.Seq.{drop-cons}
use Rattle.pq_base.specs.Lines.{text_of_lines}
use Rattle.pq_base.specs.LPresentation.{LPresentation}
use Rattle.pq_base.specs.Answer.{Answer}
use Rattle.pq_base.proofs.LineLaws.{text_of_lines-append, text_of_lines-part}
use Rattle.lpres_reader.specs.CanonicalText.{canonical_lines, canonical_text}
use Rattle.answer_text.specs.AnswerText.{answer_text}
use Rattle.answer_text.specs.AnswerPlaces.{prime_line, class_line}
use Rattle.derivation_log.specs.declared.source.Run.TheVariants.{Whole}
use Rattle.derivation_log.specs.declared.source.RowSource.{RowSource}
use Rattle.derivation_log.specs.Certificates.{TailLine, StepLines, Certificate, has_two_runs}
use Rattle.cert_text.specs.CertificateText.{version_line, source_line, tail_line, step_line, step_lines, steps_lines, run_lines}
use Rattle.cert_text.specs.CertificateText.{iterated_lines, certificate_text}
use Rattle.cert_text.specs.CertificatePlaces.{no_lines}
use Rattle.cert_text.proofs.lines.CertificateLeads.{certificate_text-parts}

-- a step: its line, its sources and its tails
pub step-written : (o0 o1 o2 o3 : List ℕ) (k : ℕ) (s : StepLines) (sources : List RowSource) (tails : List TailLine) → sources ≡ s.sources
    → tails ≡ s.tails
    → o1 ≡ o0 ++ (step_line k ++ 10 ∷ []) → o2 ≡ o1 ++ text_of_lines (map source_line sources)
    → o3 ≡ o2 ++ text_of_lines (map tail_line tails)
    → o3 ≡ o0 ++ text_of_lines (step_lines k s)
step-written o0 o1 o2 o3 k s sources tails a b e1 e2 e3 =
    let parts : text_of_lines (step_lines k s) ≡ (step_line k ++ 10 ∷ [])
    ++ (text_of_lines (map source_line s.sources) ++ text_of_lines (map tail_line s.tails)) =
    ap (λ (t : List ℕ). step_line k ++ 10 ∷ t) (text_of_lines-append (map source_line s.sources) (map tail_line s.tails))
    ∙ sym (append_assoc (step_line k) (10 ∷ []) (text_of_lines (map source_line s.sources) ++ text_of_lines (map tail_line s.tails))) in
    let first : o2 ≡ (o0 ++ (step_line k ++ 10 ∷ [])) ++ text_of_lines (map source_line s.sources) =
    e2 ∙ ap (λ (t : List ℕ). t ++ text_of_lines (map source_line sources)) e1
    ∙ ap (λ (xs : List RowSource). (o0 ++ (step_line k ++ 10 ∷ [])) ++ text_of_lines (map source_line xs)) a in
    e3 ∙ ap (λ (t : List ℕ). t ++ text_of_lines (map tail_line tails)) first
    ∙ ap (λ (xs : List TailLine). ((o0 ++ (step_line k ++ 10 ∷ [])) ++ text_of_lines (map source_line s.sources))
    ++ text_of_lines (map tail_line xs)) b
    ∙ append_assoc (o0 ++ (step_line k ++ 10 ∷ [])) (text_of_lines (map source_line s.sources)) (text_of_lines (map tail_line s.tails))
    ∙ append_assoc o0 (step_line k ++ 10 ∷ []) (text_of_lines (map source_line s.sources) ++ text_of_lines (map tail_line s.tails))
    ∙ ap (λ (t : List ℕ). o0 ++ t) (sym parts)

-- the lines of the steps from place k on are those of the step there, and then those from the next place on
pub steps_lines-next : (k j : ℕ) (ss : List StepLines) → j ≡ suc k → k < length ss
    → steps_lines k (drop k ss) ≡ step_lines j (get_or ss k no_lines) ++ steps_lines j (drop j ss)
steps_lines-next k j ss next h = rw next (ap (λ (xs : List StepLines). steps_lines k xs) (drop-cons ss k no_lines h))

pub step-next : (k j : ℕ) (ss : List StepLines) (s : StepLines) (out new all : List ℕ) → j ≡ suc k → k < length ss
    → s ≡ get_or ss k no_lines
    → new ≡ out ++ text_of_lines (step_lines j s) → out ++ text_of_lines (steps_lines k (drop k ss)) ≡ all
    → new ++ text_of_lines (steps_lines j (drop j ss)) ≡ all
step-next k j ss s out new all next h e written so_far =
    text_of_lines-part out new all (step_lines j s) (steps_lines k (drop k ss)) (steps_lines j (drop j ss)) written
    (steps_lines-next k j ss next h ∙ ap (λ (x : StepLines). step_lines j x ++ steps_lines j (drop j ss)) (sym e)) so_far

pub canonical_text-lines : (L : LPresentation) → canonical_text L ≡ text_of_lines (canonical_lines L)
unfolding canonical_text
canonical_text-lines L = refl

five_parts : (v : List ℕ) (a b c d : List (List ℕ)) → text_of_lines (v ∷ (a ++ (b ++ (c ++ d))))
    ≡ (v ++ 10 ∷ []) ++ (text_of_lines a ++ (text_of_lines b ++ (text_of_lines c ++ text_of_lines d)))
five_parts v a b c d = simp (text_of_lines-append, append_assoc)

regrouped : (v a b c d e : List ℕ) → (v ++ (a ++ (b ++ (c ++ d)))) ++ e ≡ v ++ (a ++ (b ++ (c ++ (d ++ e))))
regrouped v a b c d e = simp append_assoc

whole_text : (c : Certificate) → certificate_text c
    ≡ (version_line c.version ++ 10 ∷ []) ++ (canonical_text c.presentation ++ (text_of_lines (prime_line c.prime ∷ class_line c.class ∷ [])
    ++ (text_of_lines (iterated_lines (has_two_runs c.presentation) c.iterated)
    ++ (text_of_lines (run_lines Whole c.whole) ++ (codes "answer\n" ++ answer_text c.answer)))))
whole_text c =
    let a = canonical_lines c.presentation in
    let b = prime_line c.prime ∷ class_line c.class ∷ [] in
    let front = five_parts (version_line c.version) a b (iterated_lines (has_two_runs c.presentation) c.iterated)
    (run_lines Whole c.whole) in
    certificate_text-parts c ∙ ap (λ (t : List ℕ). t ++ (codes "answer\n" ++ answer_text c.answer)) front
    ∙ ap (λ (t : List ℕ). ((version_line c.version ++ 10 ∷ []) ++ (t ++ (text_of_lines b
    ++ (text_of_lines (iterated_lines (has_two_runs c.presentation) c.iterated) ++ text_of_lines (run_lines Whole c.whole)))))
    ++ (codes "answer\n" ++ answer_text c.answer))
    (sym (canonical_text-lines c.presentation))
    ∙ regrouped (version_line c.version ++ 10 ∷ []) (canonical_text c.presentation) (text_of_lines b)
    (text_of_lines (iterated_lines (has_two_runs c.presentation) c.iterated))
    (text_of_lines (run_lines Whole c.whole)) (codes "answer\n" ++ answer_text c.answer)

written_parts : (o0 o1 o2 o3 o4 o5 o6 a b c d e f : List ℕ) → o0 ≡ [] → o1 ≡ o0 ++ a → o2 ≡ o1 ++ b → o3 ≡ o2 ++ c → o4 ≡ o3 ++ d
    → o5 ≡ o4 ++ e → o6 ≡ o5 ++ f
    → o6 ≡ a ++ (b ++ (c ++ (d ++ (e ++ f))))
written_parts o0 o1 o2 o3 o4 o5 o6 a b c d e f e0 e1 e2 e3 e4 e5 e6 = rw (e6, e5, e4, e3, e2, e1, e0) (simp append_assoc)

-- the parts of a certificate as they are handed out
pub certificate-written : (c : Certificate) (o0 o1 o2 o3 o4 o5 o6 : List ℕ) (version p class : ℕ) (L M : LPresentation)
    (iterated whole : List StepLines) (A : Answer)
    → version ≡ c.version → L ≡ c.presentation → p ≡ c.prime → class ≡ c.class → M ≡ c.presentation → iterated ≡ c.iterated
    → whole ≡ c.whole → A ≡ c.answer
    → o0 ≡ [] → o1 ≡ o0 ++ (version_line version ++ 10 ∷ []) → o2 ≡ o1 ++ canonical_text L
    → o3 ≡ o2 ++ text_of_lines (prime_line p ∷ class_line class ∷ [])
    → o4 ≡ o3 ++ text_of_lines (iterated_lines (has_two_runs M) iterated) → o5 ≡ o4 ++ text_of_lines (run_lines Whole whole)
    → o6 ≡ o5 ++ (codes "answer\n" ++ answer_text A)
    → o6 ≡ certificate_text c
certificate-written c o0 o1 o2 o3 o4 o5 o6 version p class L M iterated whole A a b d f g h i k e0 e1 e2 e3 e4 e5 e6 =
    written_parts o0 o1 o2 o3 o4 o5 o6 _ _ _ _ _ _ e0
    (e1 ∙ ap (λ (x : ℕ). o0 ++ (version_line x ++ 10 ∷ [])) a)
    (e2 ∙ ap (λ (x : LPresentation). o1 ++ canonical_text x) b)
    (e3 ∙ ap (λ (x : ℕ). o2 ++ text_of_lines (prime_line x ∷ class_line class ∷ [])) d
    ∙ ap (λ (x : ℕ). o2 ++ text_of_lines (prime_line c.prime ∷ class_line x ∷ [])) f)
    (e4 ∙ ap (λ (x : LPresentation). o3 ++ text_of_lines (iterated_lines (has_two_runs x) iterated)) g
    ∙ ap (λ (x : List StepLines). o3 ++ text_of_lines (iterated_lines (has_two_runs c.presentation) x)) h)
    (e5 ∙ ap (λ (x : List StepLines). o4 ++ text_of_lines (run_lines Whole x)) i)
    (e6 ∙ ap (λ (x : Answer). o5 ++ (codes "answer\n" ++ answer_text x)) k)
    ∙ sym (whole_text c)
