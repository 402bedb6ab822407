-- How the relations of a presentation are kept: all words lie in one list, one after the other, and each relation has its
-- place there. What a caller sees of it is the list of the entries.
use Rattle.std.specs.Prelude.{◌≡◌, ◌<◌, ◌≤◌, ℕ, List, [], get_or, length, map, slice_range, Option, None}
use Rattle.pc_presentation.specs.declared.syllable.Syllable.{Syllable}
use Rattle.pc_presentation.specs.declared.relation.Relation.{Relation}
use Rattle.pc_presentation.specs.declared.store.Place.{Place}
use Rattle.pc_presentation.specs.Syllable.{AreSyllables}
use Rattle.pc_presentation.specs.Relation.{IsRelation, IsTail, side_start, relation_number, relation_count}

-- a relation as it is kept: its right side as a sparse word, and its tail
pub record Entry : Type 0 where
  pub word : List Syllable
  pub tail : Option ℕ

abbrev pub blank : Entry
blank = record { word = []; tail = None }

-- the entry of a relation in the list of all
abbrev pub stored_at : ℕ → List Entry → Relation → Entry
stored_at n entries r = get_or entries (relation_number n r) blank

-- an entry for each relation of n generators, with a sparse word over later generators
pub record AreEntries (p n tails : ℕ) (entries : List Entry) : Type 0 where
  pub count : length entries ≡ relation_count n
  pub words : (r : Relation) → IsRelation n r → AreSyllables p n (side_start r) (stored_at n entries r).word
  pub in_range : (r : Relation) → IsRelation n r → IsTail tails (stored_at n entries r).tail

-- the entry whose word lies at a place
abbrev pub entry_of : List Syllable → Place → Entry
entry_of syllables place = record { word = slice_range syllables place.start place.end; tail = place.tail }

abbrev pub entries_of : List Syllable → List Place → List Entry
entries_of syllables places = map (entry_of syllables) places

abbrev pub no_place : Place
no_place = record { start = 0; end = 0; tail = None }

-- each place is within a list of this many syllables
abbrev pub AreWithin : ℕ → List Place → Type 0
AreWithin n places =
    (k : ℕ) → k < length places → ((get_or places k no_place).start ≤ (get_or places k no_place).end) × ((get_or places k no_place).end ≤ n)
