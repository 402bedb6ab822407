-- A line that adds a relation or an image is one line more of what was read.
use Rattle.std.proofs.Common.{◌≡◌, ◌<◌, ◌≤◌, ◌+◌, ℕ, List, [], ◌∷◌, ◌++◌, length, refl, ap, ap₂, sym, subst, ◌∙◌, inl, inr, arith}
use Rattle.std.proofs.Common.{append_assoc, append-nil, length-append}
use Rattle.std.specs.Prelude.{None}
use Rattle.std.proofs.lemmas.List.Elements.{All-push}
use Rattle.pq_base.specs.Limits.{max_rank}
use Rattle.pq_base.specs.Name.{IsName}
use Rattle.pq_base.specs.Lines.{text_of_lines}
use Rattle.pc_presentation.specs.declared.syllable.Syllable.{Syllable}
use Rattle.pc_presentation.specs.declared.relation.Relation.{Relation}
use Rattle.pc_presentation.specs.declared.relation.Relation.TheVariants.{Power, Commutator}
use Rattle.pc_presentation.specs.Syllable.{AreSyllables}
use Rattle.pc_presentation.specs.Relation.{IsRelation}
use Rattle.pc_presentation.specs.Builder.{Draft, extended}
use Rattle.answer_text.specs.OneText.{AreNames}
use Rattle.answer_text.specs.AnswerPlaces.{HasForm, order_of, behind_relations, relation_line, word_line}
use Rattle.answer_text.specs.AnswerPlaces.Place.{in_body}
use Rattle.answer_text.specs.AnswerPlaces.HasForm.{relation, image}
use Rattle.answer_text.specs.ReadSoFar.{word_lines}
use Rattle.answer_text.specs.Drafts.{IsDraft, IsNext, SoFar, so_far, AddsRelation, AddsImage, Adds, all_lines}
use Rattle.answer_text.specs.BodyRead.{Leads, body_lines, IsBodyRead}
use Rattle.answer_text.proofs.lines.LineLeads.{Leads-append}
use Rattle.answer_text.proofs.lines.BadLines.{text-push}
use Rattle.answer_text.proofs.RelationAppends.{PowersBlank-later, RowsBlank-later}
use Rattle.answer_text.proofs.DraftAdded.{draft-added}

order_of-small : (n : ℕ) (r : Relation) → n ≤ max_rank → IsRelation n r → order_of r < behind_relations
order_of-small n (Power i) h is = omega (arith, is.0, is.1)
order_of-small n (Commutator j i) h is = omega (arith, is.0, is.1, is.2)

IsDraft-behind : (p n place : ℕ) (D : Draft) → place ≤ behind_relations → IsDraft p n D place → IsDraft p n D behind_relations
IsDraft-behind p n place D h d = record {
  scale = d.scale;
  prime = d.prime;
  rank = d.rank;
  sides = d.sides;
  flags = d.flags;
  blank = (
    PowersBlank-later 0 place behind_relations D.built.presentation.powers h d.blank.0,
    RowsBlank-later 0 place behind_relations D.built.presentation.commutators h d.blank.1,
  );
  given = λ r is was. let low : order_of r ≤ place = d.given r is was in omega arith;
}

AreNames-push : (ns : List (List ℕ)) (name : List ℕ) → AreNames ns → IsName name → AreNames (ns ++ name ∷ [])
AreNames-push [] name a is = (is, tt)
AreNames-push (n ∷ ns) name a is = (a.0, AreNames-push ns name a.1 is)

word_lines-push : (ns : List (List ℕ)) (ws : List (List Syllable)) (name : List ℕ) (w : List Syllable) → length ws ≡ length ns
    → word_lines (ns ++ name ∷ []) (ws ++ w ∷ []) ≡ word_lines ns ws ++ word_line name w ∷ []
word_lines-push [] [] name w h = refl
word_lines-push [] (v ∷ ws) name w h = absurd (omega arith)
word_lines-push (n ∷ ns) [] name w h = absurd (omega arith)
word_lines-push (n ∷ ns) (v ∷ ws) name w h = ap (λ (x : List (List ℕ)). word_line n v ∷ x) (word_lines-push ns ws name w (omega arith))

so_far-same : (S : SoFar) (D : Draft) (place : ℕ) (ns : List (List ℕ)) (ws : List (List Syllable)) → S.draft ≡ D → S.place ≡ place
    → S.names ≡ ns → S.words ≡ ws
    → so_far D place ns ws ≡ S
so_far-same S D place ns ws d m n w =
    sym (ap (λ (x : Draft). so_far x S.place S.names S.words) d ∙ ap (λ (x : ℕ). so_far D x S.names S.words) m
    ∙ ap (λ (x : List (List ℕ)). so_far D place x S.words) n ∙ ap (λ (x : List (List Syllable)). so_far D place ns x) w)

-- one line more is read
record IsNextLine (p n : ℕ) (old new : SoFar) (line : List ℕ) : Type 0 where
  lines : body_lines p new ≡ body_lines p old ++ line ∷ []
  form : HasForm (in_body p n 0 old.place) line (in_body p n 0 new.place)

text-next : (p n : ℕ) (old new : SoFar) (line text rest more : List ℕ) → IsNextLine p n old new line
    → text ≡ text_of_lines (body_lines p old) ++ rest → rest ≡ line ++ 10 ∷ more
    → text ≡ text_of_lines (body_lines p new) ++ more
text-next p n old new line text rest more next e cut =
    subst (λ (x : List (List ℕ)). text ≡ text_of_lines x ++ more) (sym next.lines) (text-push (body_lines p old) line text rest more e cut)

count-next : (p n number after : ℕ) (old new : SoFar) (line : List ℕ) → IsNextLine p n old new line
    → number ≡ n + 5 + length (body_lines p old) → after ≡ number + 1
    → after ≡ n + 5 + length (body_lines p new)
count-next p n number after old new line next e one =
    let long : length (body_lines p new) ≡ length (body_lines p old) + 1 =
    ap length next.lines ∙ length-append (body_lines p old) (line ∷ []) in
    omega arith

leads-next : (p n : ℕ) (old new : SoFar) (line : List ℕ) → IsNextLine p n old new line
    → Leads (in_body p n 0 0) (body_lines p old) (in_body p n 0 old.place)
    → Leads (in_body p n 0 0) (body_lines p new) (in_body p n 0 new.place)
leads-next p n old new line next lead =
    subst (λ (x : List (List ℕ)). Leads (in_body p n 0 0) x (in_body p n 0 new.place)) (sym next.lines)
    (Leads-append (in_body p n 0 0) (in_body p n 0 old.place) (in_body p n 0 new.place) (body_lines p old) (line ∷ []) lead
    (in_body p n 0 new.place, next.form, refl))

relation-read : (p n : ℕ) (ws text rest more : List ℕ) (number after : ℕ) (S : SoFar) (r : Relation) (w : List Syllable)
    → IsBodyRead p n ws text rest number S → IsNext p n S.place r w
    → rest ≡ relation_line p r w ++ 10 ∷ more → after ≡ number + 1
    → IsBodyRead p n ws text more after (so_far (extended S.draft r w None) (order_of r) S.names S.words)
relation-read p n ws text rest more number after S r w b next cut one =
    let new : SoFar = so_far (extended S.draft r w None) (order_of r) S.names S.words in
    let added = draft-added p n S.place S.draft r w b.draft next in
    let small : order_of r < behind_relations = order_of-small n r b.draft.scale.limit next.relation in
    let rises : S.place < order_of r = next.rises in
    let none : S.names ≡ [] = b.relations_first (omega arith) in
    let no_lines : word_lines S.names S.words ≡ [] = ap (λ (x : List (List ℕ)). word_lines x S.words) none in
    let line : IsNextLine p n S new (relation_line p r w) = record {
      lines = ap₂ (λ (s t : List (List ℕ)). s ++ t) added.1 no_lines
          ∙ append-nil (all_lines p S.draft.built.presentation ++ relation_line p r w ∷ [])
          ∙ ap (λ (x : List (List ℕ)). x ++ relation_line p r w ∷ []) (sym (append-nil (all_lines p S.draft.built.presentation))
          ∙ ap (λ (x : List (List ℕ)). all_lines p S.draft.built.presentation ++ x) (sym no_lines));
      form = relation p n S.place r w b.draft.scale next.relation rises next.some next.word;
    } in
    record {
      draft = added.0;
      weights = b.weights;
      no_tails = b.no_tails;
      inside = omega arith;
      names = b.names;
      count = b.count;
      words = b.words;
      relations_first = λ below. none;
      lines = text-next p n S new (relation_line p r w) text rest more line b.lines cut;
      numbered = count-next p n number after S new (relation_line p r w) line b.numbered one;
      leads = leads-next p n S new (relation_line p r w) line b.leads;
    }

image-read : (p n : ℕ) (ws text rest more : List ℕ) (number after : ℕ) (S : SoFar) (name : List ℕ) (w : List Syllable)
    → IsBodyRead p n ws text rest number S → IsName name → AreSyllables p n 0 w
    → rest ≡ word_line name w ++ 10 ∷ more → after ≡ number + 1
    → IsBodyRead p n ws text more after (so_far S.draft behind_relations (S.names ++ name ∷ []) (S.words ++ w ∷ []))
image-read p n ws text rest more number after S name w b is a cut one =
    let new : SoFar = so_far S.draft behind_relations (S.names ++ name ∷ []) (S.words ++ w ∷ []) in
    let same : length S.words ≡ length S.names = b.count in
    let long_words : length (S.words ++ w ∷ []) ≡ length S.words + 1 = length-append S.words (w ∷ []) in
    let long_names : length (S.names ++ name ∷ []) ≡ length S.names + 1 = length-append S.names (name ∷ []) in
    let line : IsNextLine p n S new (word_line name w) = record {
      lines = ap (λ (x : List (List ℕ)). all_lines p S.draft.built.presentation ++ x) (word_lines-push S.names S.words name w same)
          ∙ sym (append_assoc (all_lines p S.draft.built.presentation) (word_lines S.names S.words) (word_line name w ∷ []));
      form = image p n S.place name w b.draft.scale is a;
    } in
    record {
      draft = IsDraft-behind p n S.place S.draft b.inside b.draft;
      weights = b.weights;
      no_tails = b.no_tails;
      inside = omega arith;
      names = AreNames-push S.names name b.names is;
      count = omega arith;
      words = All-push (λ v. AreSyllables p n 0 v) S.words w b.words a;
      relations_first = λ below. absurd (omega arith);
      lines = text-next p n S new (word_line name w) text rest more line b.lines cut;
      numbered = count-next p n number after S new (word_line name w) line b.numbered one;
      leads = leads-next p n S new (word_line name w) line b.leads;
    }

pub IsBodyRead-next : (p n : ℕ) (ws text rest more line : List ℕ) (number after : ℕ) (old new : SoFar)
    → IsBodyRead p n ws text rest number old → Adds p n old new line → rest ≡ line ++ 10 ∷ more
    → after ≡ number + 1 → IsBodyRead p n ws text more after new
IsBodyRead-next p n ws text rest more line number after old new b (inl h) cut one =
    let r : Relation = h.0 in
    let w : List Syllable = h.1 in
    let adds : AddsRelation p n old new line r w = h.2 in
    subst (λ (x : SoFar). IsBodyRead p n ws text more after x)
    (so_far-same new (extended old.draft r w None) (order_of r) old.names old.words adds.draft_is adds.place_is adds.names_are
    adds.words_are)
    (relation-read p n ws text rest more number after old r w b adds.next (cut ∙ ap (λ (x : List ℕ). x ++ 10 ∷ more) adds.line_is) one)
IsBodyRead-next p n ws text rest more line number after old new b (inr h) cut one =
    let name : List ℕ = h.0 in
    let w : List Syllable = h.1 in
    let adds : AddsImage p n old new line name w = h.2 in
    subst (λ (x : SoFar). IsBodyRead p n ws text more after x)
    (so_far-same new old.draft behind_relations (old.names ++ name ∷ [])
    (old.words ++ w ∷ []) adds.draft_is adds.place_is adds.names_are adds.words_are)
    (image-read p n ws text rest more number after old name w b adds.name_is adds.word_is
    (cut ∙ ap (λ (x : List ℕ). x ++ 10 ∷ more) adds.line_is) one)
