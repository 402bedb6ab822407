-- The shortcuts of the plain rule on whole states: copies of a generator are added to its exponent where it commutes with
-- the letters after it, and letters that commute with all that comes stay in place.
use Rattle.std.proofs.Common.{◌≡◌, ℕ, suc, ◌+◌, ◌-◌, ◌<◌, List, ◌++◌, eqb, get_or, length, take, drop, replicate, refl, ap, sym, ◌∙◌, subst}
use Rattle.std.proofs.Common.{arith}
use Rattle.std.proofs.lemmas.List.{get_or-drop, take-append-drop, drop-drop, length-take-le, length-drop}
use Rattle.pq_base.specs.Presentation.{power_side}
use Rattle.pc_presentation.specs.Rowed.{RowedPresentation, power_row}
use Rattle.pc_presentation.specs.Collection.{Configuration, State, IsState, spelled, add_row, push_word, push_configuration, push_power}
use Rattle.pc_presentation.specs.Collection.{raise, plain_push}
use Rattle.pc_presentation.specs.PushSteps.{with_exponent, raised, passed}
use Rattle.pc_presentation.specs.CommutingLaws.{PassesBarely, PowersAreAdded, PowersWrap, CommutingLettersStay}
use Rattle.pc_presentation.specs.CommutingLaws.{PowersWrapBeforeCommutingLetters}
use Rattle.pc_presentation.proofs.collecting.PlainRule.{plain}
use Rattle.pc_presentation.proofs.commuting.BarePasses.{PassesExponents, place-within, zeros_with, copies-added, copies-wrap-empty}
use Rattle.pc_presentation.proofs.commuting.LettersStay.{kept, raise-stays, copies-wrap-kept}
use Rattle.pc_presentation.proofs.commuting.Leads.{lead}
use Rattle.pc_presentation.proofs.commuting.PlainSteps.{with_exponent-lead, copies-here, power-after, raised-lead, plain_push-lead}
use Rattle.pc_presentation.proofs.commuting.PlainSteps.{part_after, taken-lead, place_of, exponent-below, part_after-state}

-- the later exponents of a state that a generator passes barely
passes_after : (Y : RowedPresentation) (s : State) (i : ℕ) → IsState Y Y.base.rank s → PassesBarely Y s i
    → PassesExponents Y i (part_after i s).exponents
passes_after Y s i h b j n =
    let w = place-within (drop (suc i) s.exponents) j n in
    let d = length-drop (suc i) s.exponents in
    let c = h.exponents.count in
    let e : suc i + j ≡ suc (i + j) = omega arith in
    b (suc (i + j)) (omega arith) (omega arith)
    (λ q. n (get_or-drop (suc i) s.exponents j 0 ∙ ap (λ (l : ℕ). get_or s.exponents l 0) e ∙ q))

pub powers_are_added : PowersAreAdded
powers_are_added Y s i e rowed h l passes below =
    let prime = rowed.base.prime in
    let n : ℕ = Y.base.rank - suc i in
    let p = place_of Y s i h.exponents.count l in
    let a : ℕ = get_or s.exponents i 0 in
    ap (λ (t : State). push_word (plain_push Y) t (replicate e i)) p.same
    ∙ copies-here Y (take i s.exponents) i n p.place p.whole e a (part_after i s)
    ∙ ap (lead (take i s.exponents))
    (copies-added Y rowed (omega arith) n i a e (a + e) (part_after i s) refl below (part_after-state Y s i h)
    (passes_after Y s i h passes))
    ∙ sym (with_exponent-lead Y (take i s.exponents) i n p.place p.whole a (a + e) (part_after i s))
    ∙ ap (λ (t : State). with_exponent t i (a + e)) (sym p.same)

pub powers_wrap : PowersWrap
powers_wrap Y s i e r rowed h l passes total below side =
    let prime = rowed.base.prime in
    let n : ℕ = Y.base.rank - suc i in
    let p = place_of Y s i h.exponents.count l in
    let a : ℕ = get_or s.exponents i 0 in
    ap (λ (t : State). push_word (plain_push Y) t (replicate e i)) p.same
    ∙ copies-here Y (take i s.exponents) i n p.place p.whole e a (part_after i s)
    ∙ ap (lead (take i s.exponents))
    (copies-wrap-empty Y rowed (omega arith) n i (Y.base.rank - suc i) a e r (part_after i s) (exponent-below Y s i h l) total below
    (part_after-state Y s i h) (passes_after Y s i h passes) side)
    ∙ ap (λ (t : State). add_row Y.base.prime (power_row Y i) t)
    (sym (with_exponent-lead Y (take i s.exponents) i n p.place p.whole a r (part_after i s))
    ∙ ap (λ (t : State). with_exponent t i r) (sym p.same))

pub commuting_letters_stay : CommutingLettersStay
commuting_letters_stay Y s i z rowed h l less within commute =
    let prime = rowed.base.prime in
    let n : ℕ = Y.base.rank - suc i in
    let p = place_of Y s i h.exponents.count l in
    let count : length s.exponents ≡ Y.base.rank = h.exponents.count in
    let a : ℕ = get_or s.exponents i 0 in
    let first : List ℕ = take i s.exponents in
    let rest : List ℕ = drop (suc i) s.exponents in
    let g : List ℕ = take (z - suc i) rest in
    let k : List ℕ = drop z s.exponents in
    let far : suc i + (z - suc i) ≡ z = omega arith in
    let split : g ++ k ≡ rest =
    ap (λ (u : List ℕ). g ++ u) (sym (drop-drop (z - suc i) (suc i) s.exponents ∙ ap (λ (m : ℕ). drop m s.exponents) far))
    ∙ take-append-drop (z - suc i) rest in
    let long : length rest ≡ n = length-drop (suc i) s.exponents ∙ ap (λ (m : ℕ). m - suc i) count in
    let between : length g ≡ z - suc i = length-take-le (z - suc i) rest (omega arith) in
    let state : IsState Y n (record { exponents = g ++ k; row = s.row }) =
    subst (λ (u : List ℕ). IsState Y n (record { exponents = u; row = s.row })) (sym split) (part_after-state Y s i h) in
    ap (λ (t : State). plain_push Y t i) p.same
    ∙ plain_push-lead Y first i n p.place p.whole a (part_after i s)
    ∙ ap (λ (u : List ℕ). lead first (raise (eqb (suc a) Y.base.prime) Y (plain Y n (suc i)) i a (zeros_with n s.row) u)) (sym split)
    ∙ ap (lead first)
    (raise-stays Y rowed (omega arith) i z (omega arith) commute n i (omega arith) (omega arith) g k (omega arith) (state.exponents.count)
    (eqb (suc a) Y.base.prime) a s.row state)
    ∙ sym (raised-lead Y first i n p.place p.whole a (kept g k s.row) g)
    ∙ ap (λ (t : State). push_word (passed Y i) (raised Y t i) (spelled (suc i) g))
    (sym (taken-lead s.exponents i (replicate (length g) 0 ++ k) s.row (omega arith))
    ∙ ap (λ (m : ℕ). record { exponents = take (suc i) s.exponents ++ (replicate m 0 ++ k); row = s.row }) between)

pub powers_wrap_before_commuting_letters : PowersWrapBeforeCommutingLetters
powers_wrap_before_commuting_letters Y s i z e r rowed h l less within commute zeros total below =
    let prime = rowed.base.prime in
    let n : ℕ = Y.base.rank - suc i in
    let p = place_of Y s i h.exponents.count l in
    let a : ℕ = get_or s.exponents i 0 in
    let first : List ℕ = take i s.exponents in
    let c : Configuration = record { word = spelled (suc i) (power_side Y.base i); row = power_row Y i } in
    let none : (j : ℕ) → j < z - suc i → get_or (drop (suc i) s.exponents) j 0 ≡ 0 =
    λ j m. get_or-drop (suc i) s.exponents j 0 ∙ zeros (suc i + j) (omega arith) (omega arith) in
    ap (λ (t : State). push_word (plain_push Y) t (replicate e i)) p.same
    ∙ copies-here Y first i n p.place p.whole e a (part_after i s)
    ∙ ap (lead first)
    (copies-wrap-kept Y rowed (omega arith) i z (omega arith) commute n i (omega arith) (omega arith) (z - suc i) a e r (part_after i s)
    (omega arith) (omega arith) none (exponent-below Y s i h l) total (part_after-state Y s i h))
    ∙ sym (copies-here Y first i n p.place p.whole r 0 (push_power Y (plain Y n (suc i)) i (part_after i s)))
    ∙ ap (λ (t : State). push_word (plain_push Y) t (replicate r i))
    (sym (power-after Y first i n p.place p.whole 0 (part_after i s))
    ∙ ap (λ (t : State). push_configuration Y (plain_push Y) t c)
    (sym (with_exponent-lead Y first i n p.place p.whole a 0 (part_after i s))
    ∙ ap (λ (t : State). with_exponent t i 0) (sym p.same)))
