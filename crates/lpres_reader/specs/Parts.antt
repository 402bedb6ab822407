-- What parts have to keep that a presentation is made of.
use Rattle.std.specs.Prelude.{◌≡◌, ◌≤◌, ℕ, ◌+◌, ℤ, List, All, sum_by}
use Rattle.pq_base.specs.LPresentation.{LPresentation, IsLPresentation, AreWords, AreEndos}
use Rattle.lpres_reader.specs.Limits.{AreShort, letters_in, IsWithinLimits}

-- what a presentation is that is held
abbrev pub IsPresentationWithinLimits : LPresentation → Type 0
IsPresentationWithinLimits L = IsLPresentation L × IsWithinLimits L

-- as many generators, relators and endomorphisms as a presentation may have
pub record AreFew (n f i e : ℕ) : Type 0 where
  pub some_generator : 1 ≤ n
  pub generators : n ≤ 32
  pub fixed : f ≤ 4096
  pub iterated : i ≤ 4096
  pub endos : e ≤ 16

-- words over n generators, which keep the limit on letters behind so many others
pub record AreKeptWords (n before : ℕ) (ws : List (List ℤ)) : Type 0 where
  pub words : AreWords n ws
  pub total : before + letters_in ws ≤ 4194304

pub record AreKeptEndos (n before : ℕ) (fs : List (List (List ℤ))) : Type 0 where
  pub endos : AreEndos n fs
  pub total : before + sum_by letters_in fs ≤ 4194304

pub record AreKeptRelators (n : ℕ) (fixed iterated : List (List ℤ)) (fs : List (List (List ℤ))) : Type 0 where
  pub fixed_words : AreWords n fixed
  pub iterated_words : AreWords n iterated
  pub endo_words : AreEndos n fs
  pub total : letters_in fixed + letters_in iterated + sum_by letters_in fs ≤ 4194304

-- so many letters there are with those of such words
pub record HasWordLetters (n before : ℕ) (ws : List (List ℤ)) (total : ℕ) : Type 0 where
  pub kept : AreKeptWords n before ws
  pub short : AreShort ws
  pub sum : total ≡ before + letters_in ws

pub record HasEndoLetters (n before : ℕ) (fs : List (List (List ℤ))) (total : ℕ) : Type 0 where
  pub kept : AreKeptEndos n before fs
  pub short : All AreShort fs
  pub sum : total ≡ before + sum_by letters_in fs

pub record HasRelatorLetters (n : ℕ) (fixed iterated : List (List ℤ)) (fs : List (List (List ℤ))) : Type 0 where
  pub kept : AreKeptRelators n fixed iterated fs
  pub fixed_short : AreShort fixed
  pub iterated_short : AreShort iterated
  pub endo_short : All AreShort fs
