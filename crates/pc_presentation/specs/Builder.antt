-- A presentation in the making: what is built so far, and which relations were given.
use Rattle.std.specs.Prelude.{◌≡◌, ℕ, Bool, true, false, List, length, get_or, Option}
use Rattle.pc_presentation.specs.declared.syllable.Syllable.{Syllable}
use Rattle.pc_presentation.specs.declared.relation.Relation.{Relation}
use Rattle.pc_presentation.specs.declared.builder.PcpRefusal.{PcpRefusal}
use Rattle.pc_presentation.specs.declared.builder.PcpRefusal.TheVariants.{OutOfRange, Repeated, NotNormal, NotLater, NoMemory}
use Rattle.pc_presentation.specs.Syllable.{AreGenerators, IsNormalWord, AreLater}
use Rattle.pc_presentation.specs.Relation.{IsRelation, IsTail, side_start, PerRelation, entry_at, with_entry, per_relation, relation_number}
use Rattle.pc_presentation.specs.Pcp.{TailedPresentation, IsBareRelation, with_relation, plain_presentation}

pub record Draft : Type 0 where
  -- relations that weren't given have the empty word and no tail
  pub built : TailedPresentation
  pub given : PerRelation Bool

abbrev pub empty_draft : ℕ → List ℕ → ℕ → Draft
empty_draft p weights tails = record {
  built = plain_presentation p weights tails;
  given = per_relation (length weights) (λ _. false);
}

-- one relation more is given
abbrev pub extended : Draft → Relation → List Syllable → Option ℕ → Draft
extended D r word tail = record { built = with_relation D.built r word tail; given = with_entry D.given r true }

abbrev pub WasGiven : Draft → Relation → Type 0
WasGiven D r = entry_at false D.given r ≡ true

-- relations that weren't given are bare
abbrev pub OthersAreBare : Draft → Type 0
OthersAreBare D = (r : Relation) → IsRelation D.built.presentation.rank r → ¬ WasGiven D r → IsBareRelation D.built r

-- the numbers of the relation, of its word and of its tail are in range
pub record AreInRange (D : Draft) (r : Relation) (word : List Syllable) (tail : Option ℕ) : Type 0 where
  pub left_side : IsRelation D.built.presentation.rank r
  pub right_side : AreGenerators D.built.presentation.rank word
  pub tail_number : IsTail D.built.tails tail

-- nothing stands against the relation
pub record IsAccepted (D : Draft) (r : Relation) (word : List Syllable) (tail : Option ℕ) : Type 0 where
  pub in_range : AreInRange D r word tail
  pub new : ¬ WasGiven D r
  pub normal : IsNormalWord D.built.presentation.prime word
  pub later : AreLater (side_start r) word

-- the first thing that stands against the relation, in this order; want of memory comes only where none does
abbrev pub IsRefused : Draft → Relation → List Syllable → Option ℕ → PcpRefusal → Type 0
IsRefused D r word tail OutOfRange = ¬ AreInRange D r word tail
IsRefused D r word tail Repeated = AreInRange D r word tail × WasGiven D r
IsRefused D r word tail NotNormal = AreInRange D r word tail × (¬ WasGiven D r) × (¬ IsNormalWord D.built.presentation.prime word)
IsRefused D r word tail NotLater = AreInRange D r word tail × (¬ WasGiven D r) × IsNormalWord D.built.presentation.prime word
    × (¬ AreLater (side_start r) word)
IsRefused D r word tail NoMemory = IsAccepted D r word tail

-- the flags of all relations as a table
abbrev pub flags_of : ℕ → List Bool → PerRelation Bool
flags_of n flags = per_relation n (λ r. get_or flags (relation_number n r) false)
