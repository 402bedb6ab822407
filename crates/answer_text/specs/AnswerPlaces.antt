-- The lines of an answer's text one by one: which lines may stand at which place, with numbers in range and relations
-- rising. What a whole answer wants beyond that, as distinct names, is no matter of the lines' form.
-- From: this project's own format.
use Rattle.std.specs.Prelude.{◌≡◌, ◌<◌, ◌≤◌, ◌+◌, ◌*◌, ℕ, zero, suc, List, ◌++◌, length, codes, decimal}
use Rattle.pq_base.specs.Limits.{max_class, max_rank}
use Rattle.pq_base.specs.Name.{IsName}
use Rattle.pq_base.specs.Prime.{IsOffered}
use Rattle.pc_presentation.specs.declared.syllable.Syllable.{Syllable}
use Rattle.pc_presentation.specs.declared.relation.Relation.{Relation}
use Rattle.pc_presentation.specs.declared.relation.Relation.TheVariants.{Power, Commutator}
use Rattle.pc_presentation.specs.Syllable.{AreSyllables}
use Rattle.pc_presentation.specs.Relation.{IsRelation, side_start}
use Rattle.answer_text.specs.declared.source.Source.{Source}
use Rattle.answer_text.specs.declared.source.Source.TheVariants.{Image, RightSide}
use Rattle.answer_text.specs.Words.{generator_text, word_text}
use Rattle.answer_text.specs.AnswerText.{commutator_text, power_text}

-- the left side of a relation
abbrev pub left_text : ℕ → Relation → List ℕ
left_text p (Power j) = power_text p j
left_text p (Commutator j i) = commutator_text j i

-- a definition, in which an image is named
abbrev pub source_text : ℕ → Source → List ℕ
source_text p (Image name) = codes "image " ++ name
source_text p (RightSide r) = left_text p r

-- the name, or the numbers of the generators, of a definition among n generators are in range
abbrev pub IsSource : ℕ → Source → Type 0
IsSource n (Image name) = IsName name
IsSource n (RightSide r) = IsRelation n r

abbrev pub prime_line : ℕ → List ℕ
prime_line p = codes "prime " ++ decimal p

abbrev pub class_line : ℕ → List ℕ
class_line c = codes "class " ++ decimal c

abbrev pub rank_line : ℕ → List ℕ
rank_line n = codes "rank " ++ decimal n

abbrev pub order_line : ℕ → ℕ → List ℕ
order_line p n = codes "order " ++ (decimal p ++ (codes "^" ++ decimal n))

-- the line of generator k of weight w, up to its definition, and what follows
abbrev pub generator_start : ℕ → ℕ → List ℕ → List ℕ
generator_start k w t = codes "generator " ++ (generator_text k ++ (codes " weight " ++ (decimal w ++ (codes " from " ++ t))))

abbrev pub source_line : ℕ → ℕ → ℕ → Source → List ℕ
source_line p k w s = generator_start k w (source_text p s)

abbrev pub relation_line : ℕ → Relation → List Syllable → List ℕ
relation_line p r w = codes "relation " ++ (left_text p r ++ (codes " = " ++ word_text w))

abbrev pub word_line : List ℕ → List Syllable → List ℕ
word_line name w = codes "image " ++ (name ++ (codes " = " ++ word_text w))

-- where a relation stands in the order of all: the powers in the order of their generators, then the commutators row by
-- row. Numbers of generators are below 1000
abbrev pub order_of : Relation → ℕ
order_of (Power i) = i
order_of (Commutator j i) = 1000 * j + i

-- behind all relations
abbrev pub behind_relations : ℕ
behind_relations = 1000000

-- the prime p and the rank n are in range
pub record IsScale (p n : ℕ) : Type 0 where
  pub offered : IsOffered p
  pub limit : n ≤ max_rank

-- a place between two lines, by what the lines before it have said
pub data Place : Type 0 where
  for_prime : Place
  for_class : ℕ → Place
  for_rank : ℕ → Place
  for_order : ℕ → ℕ → Place
  -- of prime p and rank n, before so many further lines of generators, and behind a relation with this place in the order
  in_body : ℕ → ℕ → ℕ → ℕ → Place
  at_end : Place

-- the line has the form of a line in its place, which is between the first place and the second
pub data HasForm : Place → List ℕ → Place → Type 0 where
  prime : (p : ℕ) → IsOffered p → HasForm for_prime (prime_line p) (for_class p)
  class : (p c : ℕ) → c ≤ max_class → HasForm (for_class p) (class_line c) (for_rank p)
  rank : (p n : ℕ) → n ≤ max_rank → HasForm (for_rank p) (rank_line n) (for_order p n)
  order : (p n : ℕ) → IsScale p n → HasForm (for_order p n) (order_line p n) (in_body p n n 0)
  generator : (p n m left k w : ℕ) (s : Source) → IsScale p n → suc k + left ≡ n → 1 ≤ w → w ≤ max_class → IsSource n s
      → HasForm (in_body p n (suc left) m) (source_line p (suc k) w s) (in_body p n left m)
  relation : (p n m : ℕ) (r : Relation) (w : List Syllable) → IsScale p n → IsRelation n r → m < order_of r → 1 ≤ length w
      → AreSyllables p n (side_start r) w → HasForm (in_body p n zero m) (relation_line p r w) (in_body p n zero (order_of r))
  image : (p n m : ℕ) (name : List ℕ) (w : List Syllable) → IsScale p n → IsName name → AreSyllables p n 0 w
      → HasForm (in_body p n zero m) (word_line name w) (in_body p n zero behind_relations)
  last : (p n m : ℕ) → HasForm (in_body p n zero m) (codes "end") at_end
