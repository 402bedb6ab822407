-- Along a line: its tokens are its front and the tokens of what is behind it, and what the line is goes on from the next
-- state.
use Rattle.std.proofs.Common.{◌≡◌, ℕ, List, [], ◌∷◌, Option, Some, None, option_map, option_and_then, refl, sym, ap, subst, ◌∙◌}
use Rattle.lpres_reader.specs.Tokens.{Token}
use Rattle.lpres_reader.specs.Front.{Front, line_end, no_token, token_first, front_of}
use Rattle.lpres_reader.specs.Trees.{ItemTree}
use Rattle.lpres_reader.specs.Parser.{State, step, run}
use Rattle.lpres_reader.specs.Parser as parser
use Rattle.lpres_reader.specs.Verdicts.{tokens_of, rest_of_line}
use Rattle.lpres_reader.proofs.texts.FrontLemmas.{Follows, follows, tells, tokens_unique}
use Rattle.lpres_reader.proofs.faults.Decisions.{AreTokens, tokens_of-found, token_found}

-- what is found is the only thing that can be
same_tokens : (line : List ℕ) (o p : Option (List Token)) → AreTokens line o → AreTokens line p → o ≡ p
same_tokens line None None h k = refl
same_tokens line None (Some us) h k = absurd (h us k)
same_tokens line (Some ts) None h k = absurd (k ts h)
same_tokens line (Some ts) (Some us) h k = ap (λ (l : List Token). Some l) (tokens_unique ts us line h k)

pub tokens_of-line_end : (line : List ℕ) → front_of line ≡ line_end → tokens_of line ≡ Some []
tokens_of-line_end line e =
    same_tokens line (tokens_of line) (Some []) (tokens_of-found line) (tells line [] (subst (λ (f : Front). Follows f []) (sym e) refl))

pub tokens_of-no_token : (line : List ℕ) → front_of line ≡ no_token → tokens_of line ≡ None
tokens_of-no_token line e =
    same_tokens line (tokens_of line) None (tokens_of-found line) (λ ts d. subst (λ (f : Front). Follows f ts) e (follows d))

pub tokens_of-token_first : (line : List ℕ) (t : Token) (rest : List ℕ) → front_of line ≡ token_first t rest
    → tokens_of line ≡ option_map (λ ts. t ∷ ts) (tokens_of rest)
tokens_of-token_first line t rest e =
    same_tokens line (tokens_of line) (option_map (λ ts. t ∷ ts) (tokens_of rest)) (tokens_of-found line)
    (token_found line t rest (tokens_of rest) e (tokens_of-found rest))

-- lines behind a state
no_state : (o : Option State) → None ≡ option_and_then (λ next. let nothing : Option ItemTree = None in nothing) o
no_state None = refl
no_state (Some next) = refl

state_next : (state : State) (t : Token) (o : Option (List Token))
    → option_and_then (run state) (option_map (λ ts. t ∷ ts) o) ≡ option_and_then (λ next. option_and_then (run next) o) (step state t)
state_next state t None = no_state (step state t)
state_next state t (Some ts) = refl

pub rest_of_line-line_end : (state : State) (line : List ℕ) → front_of line ≡ line_end → rest_of_line state line ≡ parser.line_end state
rest_of_line-line_end state line e = ap (option_and_then (run state)) (tokens_of-line_end line e)

pub rest_of_line-no_token : (state : State) (line : List ℕ) → front_of line ≡ no_token → rest_of_line state line ≡ None
rest_of_line-no_token state line e = ap (option_and_then (run state)) (tokens_of-no_token line e)

pub rest_of_line-token_first : (state : State) (line : List ℕ) (t : Token) (rest : List ℕ) → front_of line ≡ token_first t rest
    → rest_of_line state line ≡ option_and_then (λ next. rest_of_line next rest) (step state t)
rest_of_line-token_first state line t rest e =
    ap (option_and_then (run state)) (tokens_of-token_first line t rest e) ∙ state_next state t (tokens_of rest)
