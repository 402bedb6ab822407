-- What is proved of presentations with rows, whether or not they are consistent. Each statement is the contract of a
-- function of `rowed_laws`.
-- From: the p-covering groups of Newman and O'Brien's method.
use Rattle.std.specs.Prelude.{◌≡◌, ◌+◌, ℕ, suc, ℤ, List, [], ◌++◌, replicate}
use Rattle.fp_rows.specs.Rows.{scale_row, negative_row}
use Rattle.pq_base.specs.SignedWord.{inv, copies, sub, HasLetters}
use Rattle.pq_base.specs.Presentation.{IsNormal, letter, word_from, normal_word}
use Rattle.pq_base.specs.Joined.{Joined}
use Rattle.pq_base.specs.Series.{HasClass}
use Rattle.pc_presentation.specs.Rowed.{RowedPresentation, IsRowed, row_sum, flat}
use Rattle.pc_presentation.specs.Collection.{State, IsState}
use Rattle.pc_presentation.specs.Arithmetic.{word_of}
use Rattle.pc_presentation.specs.NormalTable.{list_from}

-- words of rows commute with every word, and add up as the rows do
pub record RowArithmetic (Z : RowedPresentation) : Type 0 where
  pub central : (x : List ℕ) (w : List ℤ) → IsNormal Z.base.prime Z.width x → HasLetters (Z.base.rank + Z.width) w
      → Joined (flat Z) (word_from Z.base.rank x ++ w) (w ++ word_from Z.base.rank x)
  pub sums : (x y : List ℕ) → IsNormal Z.base.prime Z.width x → IsNormal Z.base.prime Z.width y
      → Joined (flat Z) (word_from Z.base.rank x ++ word_from Z.base.rank y) (word_from Z.base.rank (row_sum Z.base.prime x y))
  pub multiples : (x : List ℕ) (k : ℕ) → IsNormal Z.base.prime Z.width x
      → Joined (flat Z) (copies (word_from Z.base.rank x) k) (word_from Z.base.rank (scale_row Z.base.prime k x))
  pub powers : (x : List ℕ) → IsNormal Z.base.prime Z.width x → Joined (flat Z) (copies (word_from Z.base.rank x) Z.base.prime) []
  pub inverses : (x : List ℕ) → IsNormal Z.base.prime Z.width x
      → Joined (flat Z) (inv (word_from Z.base.rank x)) (word_from Z.base.rank (negative_row Z.base.prime x))

abbrev pub RowsAreCentral : Type 0
RowsAreCentral = (Z : RowedPresentation) → IsRowed Z → RowArithmetic Z

-- n generators, and the empty word for each of q tails
abbrev pub projection : ℕ → ℕ → List (List ℤ)
projection n q = list_from letter 0 n ++ replicate q []

abbrev pub projected : RowedPresentation → List ℤ → List ℤ
projected Z w = sub w (projection Z.base.rank Z.width)

-- leaving out the tails carries joined words to joined words of the base
abbrev pub ProjectionsCarryJoinedWords : Type 0
ProjectionsCarryJoinedWords = (Z : RowedPresentation) → IsRowed Z → (u v : List ℤ)
    → Joined (flat Z) u v → Joined Z.base (projected Z u) (projected Z v)

-- and the word of a state to the normal word of its exponents
abbrev pub StatesProject : Type 0
StatesProject = (Z : RowedPresentation) (s : State) → IsState Z Z.base.rank s → projected Z (word_of Z s) ≡ normal_word s.exponents

-- the word u is joined to v and the word of a row
pub record IsUpToRow (Z : RowedPresentation) (u v : List ℤ) : Type 0 where
  pub row : List ℕ
  pub normal : IsNormal Z.base.prime Z.width row
  pub joined : Joined (flat Z) u (v ++ word_from Z.base.rank row)

-- words that are joined without their tails are joined up to a row
abbrev pub ProjectionsLift : Type 0
ProjectionsLift = (Z : RowedPresentation) → IsRowed Z → (u v : List ℤ)
    → HasLetters (Z.base.rank + Z.width) u → HasLetters (Z.base.rank + Z.width) v
    → Joined Z.base (projected Z u) (projected Z v) → IsUpToRow Z u v

-- the class of the flat reading is at most one more than that of the base
abbrev pub ClassesGrowByOneWithRows : Type 0
ClassesGrowByOneWithRows = (Z : RowedPresentation) → IsRowed Z → (c : ℕ) → HasClass Z.base c → HasClass (flat Z) (suc c)
