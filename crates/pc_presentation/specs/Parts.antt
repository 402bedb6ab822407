-- Answers from their parts: a presentation, the names of the given generators, the definitions of its generators, and the
-- images of the given ones as sparse words.
use Rattle.std.specs.Prelude.{◌≡◌, ◌<◌, ◌≤◌, ◌+◌, ◌-◌, ℕ, Bool, true, nat_le, ◌&&◌, List, [], ◌∷◌, get_or, length, map, replicate, All}
use Rattle.std.specs.declared.vec.Vec.{Vec}
use Rattle.std.specs.Global.{Global}
use Rattle.pq_base.specs.Limits.{max_class, max_names}
use Rattle.pq_base.specs.LPresentation.{AreDistinct}
use Rattle.pq_base.specs.Elementary.{elementary}
use Rattle.pq_base.specs.Answer.{Answer, IsAnswer}
use Rattle.pc_presentation.specs.declared.syllable.Syllable.{Syllable}
use Rattle.pc_presentation.specs.declared.relation.Relation.TheVariants.{Power as PowerOf, Commutator as CommutatorOf}
use Rattle.pc_presentation.specs.declared.definition.Definition.{Definition}
use Rattle.pc_presentation.specs.declared.definition.Definition.TheVariants.{Image, Commutator, Power}
use Rattle.pc_presentation.specs.Syllable.{spread, syllables_of, AreSyllables, IsGenerator}
use Rattle.pc_presentation.specs.Pcp.{TailedPresentation, right_side}
use Rattle.pc_presentation.specs.Definition.{definition_of}

-- lists of syllables, out of the vectors that hold them
abbrev pub words_of : List (Vec Syllable Global) → List (List Syllable)
words_of images = map (λ v. v.items) images

abbrev pub answer_of : TailedPresentation → List (List ℕ) → List Definition → List (List Syllable) → Answer
answer_of T names definitions words = record {
  presentation = T.presentation;
  weights = T.weights;
  names = names;
  definitions = map definition_of definitions;
  images = map (spread T.presentation.rank 0) words;
}

-- each of the words is normal
abbrev pub AreImages : ℕ → ℕ → List (List Syllable) → Type 0
AreImages p n words = All (λ w. AreSyllables p n 0 w) words

-- the conditions of an answer: no tails, normal words, and those of what they make together
pub record AreParts (T : TailedPresentation) (names : List (List ℕ)) (definitions : List Definition)
    (words : List (List Syllable)) : Type 0 where
  pub no_tails : T.tails ≡ 0
  pub normal : AreImages T.presentation.prime T.presentation.rank words
  pub answer : IsAnswer (answer_of T names definitions words)

-- generator g, counted from 1, has the weight and the relation or image that its definition wants
abbrev pub IsDefined : TailedPresentation → List (List Syllable) → ℕ → Definition → Type 0
IsDefined T words g (Image i) = (get_or T.weights (g - 1) 0 ≡ 1) × (1 ≤ i) × (i ≤ length words) × IsGenerator g (get_or words (i - 1) [])
IsDefined T words g (Commutator j i) = (1 < get_or T.weights (g - 1) 0) × (1 ≤ i) × (i < j) × (j < g)
    × IsGenerator g (syllables_of j (right_side T.presentation (CommutatorOf j i)))
IsDefined T words g (Power j) = (1 < get_or T.weights (g - 1) 0) × (1 ≤ j) × (j < g)
    × IsGenerator g (syllables_of j (right_side T.presentation (PowerOf j)))

-- each generator is defined
abbrev pub AreDefined : TailedPresentation → List (List Syllable) → List Definition → Type 0
AreDefined T words definitions = (k : ℕ) (d : Definition) → k < length definitions → IsDefined T words (k + 1) (get_or definitions k d)

-- weights are from a least one to the greatest class and never fall
abbrev pub are_weights : ℕ → List ℕ → Bool
are_weights least [] = true
are_weights least (w ∷ ws) = nat_le least w && (nat_le w max_class && are_weights w ws)

-- the conditions one by one, as they are tested
pub record AreTested (T : TailedPresentation) (names : List (List ℕ)) (definitions : List Definition)
    (words : List (List Syllable)) : Type 0 where
  pub no_tails : T.tails ≡ 0
  pub rising : are_weights 1 T.weights ≡ true
  pub some_name : 1 ≤ length names
  pub name_limit : length names ≤ max_names
  pub distinct : AreDistinct names
  pub image_count : length words ≡ length names
  pub normal : AreImages T.presentation.prime T.presentation.rank words
  pub definition_count : length definitions ≡ T.presentation.rank
  pub defined : AreDefined T words definitions

-- the answer of class 0: no generators, and each image is the empty word
abbrev pub trivial_answer : ℕ → List (List ℕ) → Answer
trivial_answer p names = record {
  presentation = elementary p 0;
  weights = [];
  names = names;
  definitions = [];
  images = replicate (length names) [];
}
