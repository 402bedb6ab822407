-- A presentation in the making, as lines of relations are read: what is given so far stands in the order of all relations.
use Rattle.std.specs.Prelude.{◌≡◌, ◌⊎◌, ◌<◌, ◌≤◌, ◌-◌, ◌*◌, ℕ, zero, suc, List, [], ◌∷◌, ◌++◌, length, None}
use Rattle.pq_base.specs.Name.{IsName}
use Rattle.pq_base.specs.Presentation.{Presentation}
use Rattle.pc_presentation.specs.declared.syllable.Syllable.{Syllable}
use Rattle.pc_presentation.specs.declared.relation.Relation.{Relation}
use Rattle.pc_presentation.specs.Syllable.{AreSyllables, syllables_of}
use Rattle.pc_presentation.specs.Relation.{IsRelation, side_start}
use Rattle.pc_presentation.specs.Pcp.{HasShape, sides_of}
use Rattle.pc_presentation.specs.Builder.{Draft, extended, WasGiven}
use Rattle.answer_text.specs.AnswerText.{power_lines, commutator_lines}
use Rattle.answer_text.specs.AnswerPlaces.{IsScale, order_of, behind_relations, relation_line, word_line}

-- the powers of the generators after number k are empty from entry i on
abbrev pub PowersBlank : ℕ → ℕ → List (List ℕ) → Type 0
PowersBlank k i [] = Unit {0}
PowersBlank k zero (e ∷ es) = (syllables_of (suc k) e ≡ []) × PowersBlank (suc k) zero es
PowersBlank k (suc i) (e ∷ es) = PowersBlank (suc k) i es

-- the commutators of generator j are empty from entry i on
abbrev pub RowBlank : ℕ → ℕ → List (List ℕ) → Type 0
RowBlank j i [] = Unit {0}
RowBlank j zero (e ∷ es) = (syllables_of j e ≡ []) × RowBlank j zero es
RowBlank j (suc i) (e ∷ es) = RowBlank j i es

-- the commutators of the generators after number k are empty behind a place in the order of all relations
abbrev pub RowsBlank : ℕ → ℕ → List (List (List ℕ)) → Type 0
RowsBlank k last [] = Unit {0}
RowsBlank k last (row ∷ rows) = RowBlank (suc k) (last - 1000 * suc k) row × RowsBlank (suc k) last rows

-- the lines of all relations
abbrev pub all_lines : ℕ → Presentation → List (List ℕ)
all_lines p P = power_lines p 0 P.powers ++ commutator_lines 0 P.commutators

-- no relation behind this place in the order of all has a right side
abbrev pub IsBlankBehind : ℕ → Presentation → Type 0
IsBlankBehind last P = PowersBlank 0 last P.powers × RowsBlank 0 last P.commutators

-- a draft of prime p and rank n that was given no relation behind this place in the order of all
pub record IsDraft (p n : ℕ) (D : Draft) (place : ℕ) : Type 0 where
  pub scale : IsScale p n
  pub prime : D.built.presentation.prime ≡ p
  pub rank : D.built.presentation.rank ≡ n
  pub sides : HasShape n (sides_of D.built.presentation)
  pub flags : HasShape n D.given
  pub blank : IsBlankBehind place D.built.presentation
  pub given : (r : Relation) → IsRelation n r → WasGiven D r → order_of r ≤ place

-- a relation that may come next
pub record IsNext (p n place : ℕ) (r : Relation) (w : List Syllable) : Type 0 where
  pub relation : IsRelation n r
  pub rises : place < order_of r
  pub some : 1 ≤ length w
  pub word : AreSyllables p n (side_start r) w

-- what was read before a line and behind it: the builder's draft, the last place in the order, names and words
pub record SoFar : Type 0 where
  pub draft : Draft
  pub place : ℕ
  pub names : List (List ℕ)
  pub words : List (List Syllable)

abbrev pub so_far : Draft → ℕ → List (List ℕ) → List (List Syllable) → SoFar
so_far D place names words = record { draft = D; place = place; names = names; words = words }

-- the line is that of a relation that comes next
pub record AddsRelation (p n : ℕ) (old new : SoFar) (line : List ℕ) (r : Relation) (w : List Syllable) : Type 0 where
  pub next : IsNext p n old.place r w
  pub line_is : line ≡ relation_line p r w
  pub draft_is : new.draft ≡ extended old.draft r w None
  pub place_is : new.place ≡ order_of r
  pub names_are : new.names ≡ old.names
  pub words_are : new.words ≡ old.words

-- the line is that of an image
pub record AddsImage (p n : ℕ) (old new : SoFar) (line name : List ℕ) (w : List Syllable) : Type 0 where
  pub name_is : IsName name
  pub word_is : AreSyllables p n 0 w
  pub line_is : line ≡ word_line name w
  pub draft_is : new.draft ≡ old.draft
  pub place_is : new.place ≡ behind_relations
  pub names_are : new.names ≡ old.names ++ name ∷ []
  pub words_are : new.words ≡ old.words ++ w ∷ []

abbrev pub Adds : ℕ → ℕ → SoFar → SoFar → List ℕ → Type 0
Adds p n old new line = ((r : Relation) × (w : List Syllable) × AddsRelation p n old new line r w)
    ⊎ ((name : List ℕ) × (w : List Syllable) × AddsImage p n old new line name w)
