-- What was read of an answer's text is the answer: the text tells each part that the reader takes from it.
use Rattle.std.proofs.Common.{◌≡◌, ◌<◌, ◌≤◌, ℕ, zero, suc, List, [], ◌∷◌, ◌++◌, get_or, length, map, refl, ap, sym, subst, ◌∙◌, arith}
use Rattle.pq_base.specs.Limits.{max_class, max_rank}
use Rattle.pq_base.specs.Presentation.{Presentation, IsPresentation}
use Rattle.pq_base.specs.Answer.{Answer, Definition, HasDefinition, AreWeights, AreNormal, class_of, definition_at}
use Rattle.pq_base.specs.Answer.Definition.{image, commutator, power}
use Rattle.pq_base.specs.Lines.{text_of_lines}
use Rattle.pq_base.proofs.PrimeLaws.{offered-small}
use Rattle.pq_base.proofs.Restrictions.{same_presentations}
use Rattle.answer_text.specs.declared.source.Source.{Source}
use Rattle.answer_text.specs.AnswerText.{answer_text, head_lines, power_text, power_lines, commutator_text, commutator_lines}
use Rattle.answer_text.specs.OneText.{AreNames, IsWritable}
use Rattle.answer_text.specs.AnswerPlaces.{IsScale, IsSource}
use Rattle.answer_text.proofs.lines.AnswerLines.{answer_text-parts}
use Rattle.answer_text.proofs.texts.RelationTexts.{NoRelation, SidesAlike, RowsAlike, power-commutator-apart}
use Rattle.answer_text.proofs.RelationsTold.{AreShortRows, powers-same, rows-same, NoRelation-rows}
use Rattle.answer_text.proofs.ImagesTold.{images_text, NoRelation-images, images-same}
use Rattle.answer_text.proofs.HeadTold.{head-same}
use Rattle.answer_text.proofs.AnswerForm.{nth-name}
use Rattle.answer_text.proofs.OneText.{powers-alike, commutators-alike, short-rows, answer-same, last-small}
use Rattle.answer_text.proofs.lines.SourceLines.{source_lines, AreSources, sources-same, source_of, AreResolved, IsKnown, AreKnown}
use Rattle.answer_text.proofs.lines.SourceLines.{AreResolved-same, generator_lines-sources}

-- the text of relations and images
abbrev pub body_text : ℕ → Presentation → List (List ℕ) → List (List ℕ) → List ℕ
body_text p P names es =
    text_of_lines (power_lines p 0 P.powers) ++ (text_of_lines (commutator_lines 0 P.commutators) ++ images_text names es)

-- a presentation, names and images that lines can hold
pub record IsBody (p n : ℕ) (P : Presentation) (ns es : List (List ℕ)) : Type 0 where
  pub scale : IsScale p n
  pub prime : P.prime ≡ p
  pub rank : P.rank ≡ n
  pub presentation : IsPresentation P
  pub names : AreNames ns
  pub count : length es ≡ length ns
  pub normal : AreNormal p n es

no_power : (p j : ℕ) (P : Presentation) (names es : List (List ℕ)) → AreShortRows P.commutators
    → NoRelation (power_text p (suc j)) (text_of_lines (commutator_lines 0 P.commutators) ++ images_text names es)
no_power p j P names es short =
    NoRelation-rows (power_text p (suc j)) 0 P.commutators (images_text names es) short
    (λ k i l m n. power-commutator-apart p (suc j) (suc k) (suc i)) (NoRelation-images (power_text p (suc j)) names es)

body-same : (p n : ℕ) (P Q : Presentation) (names others es fs : List (List ℕ)) → IsBody p n P names es → IsBody p n Q others fs
    → body_text p P names es ≡ body_text p Q others fs → (P ≡ Q) × (names ≡ others) × (es ≡ fs)
body-same p n P Q names others es fs a b h =
    let low : p < 8 = offered-small p a.scale.offered in
    let small : p < 100 = omega arith in
    let limit : n ≤ max_rank = a.scale.limit in
    let left_rank : P.rank ≡ n = a.rank in
    let right_rank : Q.rank ≡ n = b.rank in
    let inside : P.rank ≤ max_rank = omega arith in
    let also : Q.rank ≤ max_rank = omega arith in
    let prime : P.prime ≡ Q.prime = a.prime ∙ sym b.prime in
    let rank : P.rank ≡ Q.rank = a.rank ∙ sym b.rank in
    let short = short-rows P inside a.presentation in
    let brief = short-rows Q also b.presentation in
    let power_count : length P.powers ≡ P.rank = a.presentation.power_count in
    let row_count : length P.commutators ≡ P.rank = a.presentation.commutator_count in
    let pows =
    powers-same p 0 P.powers Q.powers (text_of_lines (commutator_lines 0 P.commutators) ++ images_text names es)
    (text_of_lines (commutator_lines 0 Q.commutators) ++ images_text others fs) small (omega arith)
    (subst (λ (x : ℕ). SidesAlike x P.powers Q.powers) a.prime (powers-alike P Q prime rank inside a.presentation b.presentation))
    (λ j l. no_power p j P names es short) (λ j l. no_power p j Q others fs brief) h in
    let comms = rows-same p 0 P.commutators Q.commutators (images_text names es) (images_text others fs) small (omega arith)
    (subst (λ (x : ℕ). RowsAlike x P.commutators Q.commutators) a.prime
    (commutators-alike P Q prime rank inside a.presentation b.presentation)) short brief
    (λ j i l m. NoRelation-images (commutator_text (suc j) (suc i)) names es)
    (λ j i l m. NoRelation-images (commutator_text (suc j) (suc i)) others fs) pows.1 in
    let imgs = images-same p n names es others fs small limit a.names b.names a.count b.count a.normal b.normal comms.1 in
    (same_presentations P Q prime rank pows.0 comms.0, imgs.0, imgs.1)

-- what a text says, part by part
abbrev pub read_text : ℕ → ℕ → ℕ → List ℕ → List Source → Presentation → List (List ℕ) → List (List ℕ) → List ℕ
read_text p c n ws ss P names es = text_of_lines (head_lines p c n) ++ (text_of_lines (source_lines p 0 ws ss) ++ body_text p P names es)

known-source : (A : Answer) (k : ℕ) (d : Definition) → k < A.presentation.rank → IsWritable A → HasDefinition A k d
    → IsKnown A.names d × IsSource A.presentation.rank (source_of A.names d)
known-source A k (image zero) l w h = absurd h
known-source A k (image (suc i)) l w h =
    let same : length A.images ≡ length A.names = w.answer.image_count in
    let inside : i < length A.names = omega (arith, h.1) in
    (inside, nth-name A.names i w.names inside)
known-source A k (commutator zero i) l w h = absurd h
known-source A k (commutator (suc j) zero) l w h = absurd h
known-source A k (commutator (suc j) (suc i)) l w h = (tt, (omega arith, omega (arith, h.1), omega (arith, h.2)))
known-source A k (power zero) l w h = absurd h
known-source A k (power (suc j)) l w h = (tt, (omega arith, omega (arith, h.1)))

AreKnown-each : (names : List (List ℕ)) (ds : List Definition) → ((k : ℕ) → k < length ds → IsKnown names (get_or ds k (image 0)))
    → AreKnown names ds
AreKnown-each names [] h = tt
AreKnown-each names (d ∷ ds) h = (h 0 (omega arith), AreKnown-each names ds (λ k l. h (suc k) (omega arith)))

AreSources-each : (n least : ℕ) (names : List (List ℕ)) (ws : List ℕ) (ds : List Definition) → 1 ≤ least → AreWeights least ws
    → ((k : ℕ) → k < length ds → IsSource n (source_of names (get_or ds k (image 0))))
    → AreSources n ws (map (source_of names) ds)
AreSources-each n least names [] ds one a h = tt
AreSources-each n least names (w ∷ ws) [] one a h = tt
AreSources-each n least names (w ∷ ws) (d ∷ ds) one a h =
    let low : 1 ≤ w = omega (arith, a.0) in
    (low, a.1, h 0 (omega arith), AreSources-each n w names ws ds low a.2 (λ k l. h (suc k) (omega arith)))

length-map : (names : List (List ℕ)) (ds : List Definition) → length (map (source_of names) ds) ≡ length ds
length-map names [] = refl
length-map names (d ∷ ds) = ap suc (length-map names ds)

pub IsBody-answer : (A : Answer) → IsWritable A → IsBody A.presentation.prime A.presentation.rank A.presentation A.names A.images
IsBody-answer A w = record {
  scale = record { offered = w.prime; limit = w.rank_limit };
  prime = refl;
  rank = refl;
  presentation = w.answer.presentation;
  names = w.names;
  count = w.answer.image_count;
  normal = w.answer.images;
}

-- an answer with this text is the answer of these parts
pub answer-told : (A : Answer) (p c n : ℕ) (ws : List ℕ) (ss : List Source) (P : Presentation) (names es : List (List ℕ))
    (ds : List Definition) → IsWritable A → c ≤ max_class
    → IsBody p n P names es → length ws ≡ n → length ss ≡ n → AreSources n ws ss → AreResolved names ss ds
    → answer_text A ≡ read_text p c n ws ss P names es
    → A ≡ record { presentation = P; weights = ws; names = names; definitions = ds; images = es }
answer-told A p c n ws ss P names es ds w class body weights sources are resolved h =
    let q : ℕ = A.presentation.prime in
    let m : ℕ = A.presentation.rank in
    let low : q < 8 = offered-small q w.prime in
    let small : p < 8 = offered-small p body.scale.offered in
    let limit : m ≤ max_rank = w.rank_limit in
    let inside : n ≤ max_rank = body.scale.limit in
    let last : class_of A ≤ max_class = last-small 1 A.weights w.answer.weights in
    let known : AreKnown A.names A.definitions =
    AreKnown-each A.names A.definitions
    (λ k l. let count : length A.definitions ≡ m = w.answer.definition_count in
    (known-source A k (definition_at A k) (omega arith) w (w.answer.definitions k (omega arith))).0) in
    let fit : AreSources m A.weights (map (source_of A.names) A.definitions) =
    AreSources-each m 1 A.names A.weights A.definitions (omega arith) w.answer.weights
    (λ k l. let count : length A.definitions ≡ m = w.answer.definition_count in
    (known-source A k (definition_at A k) (omega arith) w (w.answer.definitions k (omega arith))).1) in
    let lines : answer_text A
    ≡ read_text q (class_of A) m A.weights (map (source_of A.names) A.definitions) A.presentation A.names A.images =
    answer_text-parts A ∙ ap
    (λ (x : List (List ℕ)). text_of_lines (head_lines q (class_of A) m) ++ (text_of_lines x ++ body_text q A.presentation A.names A.images))
    (generator_lines-sources q 0 A.names A.weights A.definitions known) in
    let head =
    head-same q (class_of A) m p c n
    (text_of_lines (source_lines q 0 A.weights (map (source_of A.names) A.definitions)) ++ body_text q A.presentation A.names A.images)
    (text_of_lines (source_lines p 0 ws ss) ++ body_text p P names es) (omega arith) (omega arith) (omega arith) (omega arith) (omega arith)
    (omega arith) (sym lines ∙ h) in
    let prime : q ≡ p = head.0 in
    let rank : m ≡ n = head.1 in
    let whole : text_of_lines (source_lines p 0 A.weights (map (source_of A.names) A.definitions))
    ++ body_text p A.presentation A.names A.images ≡ text_of_lines (source_lines p 0 ws ss) ++ body_text p P names es =
    ap (λ (x : ℕ). text_of_lines (source_lines x 0 A.weights (map (source_of A.names) A.definitions))
    ++ body_text x A.presentation A.names A.images) (sym prime) ∙ head.2 in
    let fit_here : AreSources n A.weights (map (source_of A.names) A.definitions) =
    subst (λ (x : ℕ). AreSources x A.weights (map (source_of A.names) A.definitions)) rank fit in
    let weight_count : length A.weights ≡ m = w.answer.weight_count in
    let definition_count : length A.definitions ≡ m = w.answer.definition_count in
    let source_count : length (map (source_of A.names) A.definitions) ≡ length A.definitions = length-map A.names A.definitions in
    let gens =
    sources-same p n 0 A.weights ws (map (source_of A.names) A.definitions) ss (body_text p A.presentation A.names A.images)
    (body_text p P names es) body.scale
    (omega arith) (omega arith) (omega arith) (omega arith) fit_here are whole in
    let mine : IsBody p n A.presentation A.names A.images =
    subst (λ (x : ℕ). IsBody p x A.presentation A.names A.images) rank
    (subst (λ (x : ℕ). IsBody x m A.presentation A.names A.images) prime (IsBody-answer A w)) in
    let others = body-same p n A.presentation P A.names names A.images es mine body gens.2 in
    let meant : AreResolved A.names (map (source_of A.names) A.definitions) ds =
    subst (λ (x : List Source). AreResolved A.names x ds) (sym gens.1)
    (subst (λ (x : List (List ℕ)). AreResolved x ss ds) (sym others.1) resolved) in
    answer-same A (record { presentation = P; weights = ws; names = names; definitions = ds; images = es }) others.0 gens.0 others.1
    (AreResolved-same A.names A.definitions ds w.answer.distinct w.answer.name_limit known meant) others.2
