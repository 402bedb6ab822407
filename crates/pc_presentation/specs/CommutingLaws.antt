-- Shortcuts of the plain rule, which give exactly its states and rows, also where the presentation is not consistent. Each statement
-- is the contract of a function of `laws_of_pushes`.
-- From: collection by whole powers, which leaves alone what commutes.
use Rattle.std.specs.Prelude.{◌≡◌, ◌≢◌, ◌<◌, ◌≤◌, ◌+◌, ◌-◌, ℕ, suc, get_or, replicate}
use Rattle.pq_base.specs.Presentation.{power_side}
use Rattle.pc_presentation.specs.Rowed.{RowedPresentation, IsRowed, power_row}
use Rattle.pc_presentation.specs.Collection.{State, IsState, spelled, add_row, push_word, push_configuration, plain_push}
use Rattle.pc_presentation.specs.PushSteps.{with_exponent, raised, passed}
use Rattle.pc_presentation.specs.Commuting.{IsBare, CommuteFrom, cleared_between, letters_between}

-- the generator at place i commutes with each later one that the state has
abbrev pub PassesBarely : RowedPresentation → State → ℕ → Type 0
PassesBarely Y s i = (l : ℕ) → i < l → l < Y.base.rank → get_or s.exponents l 0 ≢ 0 → IsBare Y l i

-- copies of such a generator are added to its exponent, where that stays below the prime
abbrev pub PowersAreAdded : Type 0
PowersAreAdded = (Y : RowedPresentation) (s : State) (i e : ℕ) → IsRowed Y → IsState Y Y.base.rank s → i < Y.base.rank
    → PassesBarely Y s i → get_or s.exponents i 0 + e < Y.base.prime
    → push_word (plain_push Y) s (replicate e i) ≡ with_exponent s i (get_or s.exponents i 0 + e)

-- where the exponent passes the prime and the right side of the power is empty, the row of the power is added
abbrev pub PowersWrap : Type 0
PowersWrap = (Y : RowedPresentation) (s : State) (i e r : ℕ) → IsRowed Y → IsState Y Y.base.rank s → i < Y.base.rank
    → PassesBarely Y s i → get_or s.exponents i 0 + e ≡ Y.base.prime + r → r < Y.base.prime
    → power_side Y.base i ≡ replicate (Y.base.rank - suc i) 0
    → push_word (plain_push Y) s (replicate e i) ≡ add_row Y.base.prime (power_row Y i) (with_exponent s i r)

-- what commutes with the generator and with all after it stays in place: a push passes the letters before it alone
abbrev pub CommutingLettersStay : Type 0
CommutingLettersStay = (Y : RowedPresentation) (s : State) (i z : ℕ) → IsRowed Y → IsState Y Y.base.rank s → i < Y.base.rank
    → i < z → z ≤ Y.base.rank → CommuteFrom Y i z
    → plain_push Y s i
    ≡ push_word (passed Y i) (raised Y (record { exponents = cleared_between i z s.exponents; row = s.row }) i)
    (letters_between i z s.exponents)

-- so, where no letter is passed, copies of a generator whose exponent passes the prime are the right side of its power, and the rest of
-- the copies pushed behind it
abbrev pub PowersWrapBeforeCommutingLetters : Type 0
PowersWrapBeforeCommutingLetters = (Y : RowedPresentation) (s : State) (i z e r : ℕ) → IsRowed Y → IsState Y Y.base.rank s
    → i < Y.base.rank → i < z → z ≤ Y.base.rank → CommuteFrom Y i z
    → ((l : ℕ) → i < l → l < z → get_or s.exponents l 0 ≡ 0) → get_or s.exponents i 0 + e ≡ Y.base.prime + r → r < Y.base.prime
    → push_word (plain_push Y) s (replicate e i)
    ≡ push_word (plain_push Y)
    (push_configuration Y (plain_push Y) (with_exponent s i 0)
    (record { word = spelled (suc i) (power_side Y.base i); row = power_row Y i }))
    (replicate r i)
