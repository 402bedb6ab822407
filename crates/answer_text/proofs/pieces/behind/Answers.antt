use Rattle.std.proofs.Common.{◌≡◌, ◌++◌, List, ℕ, IfSome, IfNone, Bor}
use Rattle.std.specs.Prelude.{Option, Some, None, MatchOption}
use Rattle.std.proofs.lemmas.Bool.Decides.{Decides-eqb}
use Rattle.std.proofs.lemmas.Slice.Eq.{strip_prefix_is}
use Rattle.answer_text.proofs.pieces.behind.Goals as goal

some : (s p : List ℕ) (r : Option (Bor (List ℕ))) → MatchOption r ((rest : List ℕ) → ¬ (s ≡ p ++ rest)) (λ x. s ≡ p ++ x.now)
    → IfSome r (λ x. s ≡ p ++ x.now)
some s p None m = tt
some s p (Some x) m = m

none : (s p : List ℕ) (r : Option (Bor (List ℕ))) → MatchOption r ((rest : List ℕ) → ¬ (s ≡ p ++ rest)) (λ x. s ≡ p ++ x.now)
    → IfNone r ((rest : List ℕ) → ¬ (s ≡ p ++ rest))
none s p None m = m
none s p (Some x) m = tt

pub returns-clause-some : goal.returns-clause-some
returns-clause-some c =
    some c.args.text.now c.args.keyword.now c.strip_prefix.result
    (strip_prefix_is Decides-eqb c.args.text.now c.args.keyword.now c.strip_prefix.result c.strip_prefix.ensures.cases)

pub returns-clause-none : goal.returns-clause-none
returns-clause-none c =
    none c.args.text.now c.args.keyword.now c.strip_prefix.result
    (strip_prefix_is Decides-eqb c.args.text.now c.args.keyword.now c.strip_prefix.result c.strip_prefix.ensures.cases)
