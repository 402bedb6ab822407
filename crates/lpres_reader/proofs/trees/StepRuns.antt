-- A machine that reads a line token by token: where it stands behind the tokens so far.
use Rattle.std.proofs.Common.{◌≡◌, List, [], ◌∷◌, ◌++◌, Option, Some, None, option_and_then, refl, ap, ◌∙◌}
use Rattle.lpres_reader.specs.Tokens.{Token}
use Rattle.lpres_reader.specs.Trees.{ItemTree}
use Rattle.lpres_reader.specs.Parser.{State, step, run}

-- behind all of the tokens
abbrev pub steps : State → List Token → Option State
steps state [] = Some state
steps state (t ∷ ts) = option_and_then (λ next. steps next ts) (step state t)

last_step : (o : Option State) → option_and_then (λ x. Some x) o ≡ o
last_step None = refl
last_step (Some x) = refl

push_on : (o : Option State) (next : State) (ts us : List Token) (n : Option State)
    → ((x : State) → steps x ts ≡ Some next → steps x us ≡ n)
    → option_and_then (λ x. steps x ts) o ≡ Some next → option_and_then (λ x. steps x us) o ≡ n
push_on None next ts us n ih f = absurd (cc f)
push_on (Some x) next ts us n ih f = ih x f

pub steps-push : (state next : State) (ts : List Token) (t : Token) → steps state ts ≡ Some next → steps state (ts ++ t ∷ []) ≡ step next t
steps-push state next [] t e = let same : state ≡ next = cc in last_step (step state t) ∙ ap (λ (s : State). step s t) same
steps-push state next (u ∷ ts) t e = push_on (step state u) next ts (ts ++ t ∷ []) (step next t) (λ x f. steps-push x next ts t f) e

runs_push : (o : Option State) (next : State) (ts us : List Token) (n : Option ItemTree)
    → ((x : State) → steps x ts ≡ Some next → run x us ≡ n)
    → option_and_then (λ x. steps x ts) o ≡ Some next → option_and_then (λ x. run x us) o ≡ n
runs_push None next ts us n ih f = absurd (cc f)
runs_push (Some x) next ts us n ih f = ih x f

pub run_on : (state next : State) (ts us : List Token) → steps state ts ≡ Some next → run state (ts ++ us) ≡ run next us
run_on state next [] us e = let same : state ≡ next = cc in ap (λ (s : State). run s us) same
run_on state next (t ∷ ts) us e = runs_push (step state t) next ts (ts ++ us) (run next us) (λ x f. run_on x next ts us f) e
