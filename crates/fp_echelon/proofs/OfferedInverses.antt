-- Modulo each prime that the engine works with, each residue but 0 has an inverse.
use Rattle.std.proofs.Common.{◌≡◌, ℕ, zero, suc, ◌<◌, inl, inr, refl, sym, subst, arith}
use Rattle.pq_base.specs.Prime.{IsOffered}
use Rattle.fp_echelon.specs.Laws.{HasInverses}

inverses_of_two : HasInverses 2
inverses_of_two zero some low = absurd (omega arith)
inverses_of_two (suc zero) some low = (1, refl)
inverses_of_two (suc (suc a)) some low = absurd (omega arith)

inverses_of_three : HasInverses 3
inverses_of_three zero some low = absurd (omega arith)
inverses_of_three (suc zero) some low = (1, refl)
inverses_of_three (suc (suc zero)) some low = (2, refl)
inverses_of_three (suc (suc (suc a))) some low = absurd (omega arith)

inverses_of_five : HasInverses 5
inverses_of_five zero some low = absurd (omega arith)
inverses_of_five (suc zero) some low = (1, refl)
inverses_of_five (suc (suc zero)) some low = (3, refl)
inverses_of_five (suc (suc (suc zero))) some low = (2, refl)
inverses_of_five (suc (suc (suc (suc zero)))) some low = (4, refl)
inverses_of_five (suc (suc (suc (suc (suc a))))) some low = absurd (omega arith)

inverses_of_seven : HasInverses 7
inverses_of_seven zero some low = absurd (omega arith)
inverses_of_seven (suc zero) some low = (1, refl)
inverses_of_seven (suc (suc zero)) some low = (4, refl)
inverses_of_seven (suc (suc (suc zero))) some low = (5, refl)
inverses_of_seven (suc (suc (suc (suc zero)))) some low = (2, refl)
inverses_of_seven (suc (suc (suc (suc (suc zero))))) some low = (3, refl)
inverses_of_seven (suc (suc (suc (suc (suc (suc zero)))))) some low = (6, refl)
inverses_of_seven (suc (suc (suc (suc (suc (suc (suc a))))))) some low = absurd (omega arith)

pub HasInverses-offered : (p : ℕ) → IsOffered p → HasInverses p
HasInverses-offered p (inl two) = subst HasInverses (sym two) inverses_of_two
HasInverses-offered p (inr (inl three)) = subst HasInverses (sym three) inverses_of_three
HasInverses-offered p (inr (inr (inl five))) = subst HasInverses (sym five) inverses_of_five
HasInverses-offered p (inr (inr (inr (inl seven)))) = subst HasInverses (sym seven) inverses_of_seven
HasInverses-offered p (inr (inr (inr (inr none)))) = absurd none
