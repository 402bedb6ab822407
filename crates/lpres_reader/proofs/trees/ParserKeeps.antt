-- What is read has the tokens that it is read from: every state keeps the tokens behind which it stands. So a line that
-- is not read has the tokens of no tree.
use Rattle.std.proofs.Common.{◌≡◌, ◌≢◌, MatchOption, ℕ, true, List, [], ◌∷◌, ◌++◌, append_assoc, Option, Some, None, option_and_then, refl}
use Rattle.std.proofs.Common.{sym, ap, subst, ◌∙◌}
use Rattle.std.proofs.lemmas.List.{append-nil}
use Rattle.std.proofs.lemmas.Bool.{cond_both}
use Rattle.std.proofs.lemmas.Slice.Eq.{bytes_eq-Decides}
use Rattle.std.specs.Prelude.{codes, bytes_eq, cond}
use Rattle.lpres_reader.specs.declared.token.Symbol.TheVariants.{Arrow, Star, Caret, Minus, Equals, Comma, OpenRound, CloseRound}
use Rattle.lpres_reader.specs.declared.token.Symbol.TheVariants.{OpenSquare, CloseSquare}
use Rattle.lpres_reader.specs.Tokens.{Token, name, number, symbol}
use Rattle.lpres_reader.specs.Trees.{WordTree, FactorTree, one, UnitTree, named, round, square, two, and_one, fixed_sort, iterated_sort}
use Rattle.lpres_reader.specs.Trees.{ItemTree, word_tokens, factor_tokens, unit_tokens, entries_tokens, relator_tokens, arrow_tokens}
use Rattle.lpres_reader.specs.Trees.{with_commas, sort_name, item_tokens}
use Rattle.lpres_reader.proofs.trees.ParserReads.{parse_item-tokens}
use Rattle.lpres_reader.specs.Parser.{Place, as_factor, as_exponent, Entered, none, first, several, Outer, in_relators, in_arrows, Around}
use Rattle.lpres_reader.specs.Parser.{outside, in_round, in_square, State, at_name, at_arrow, at_factor, at_exponent, at_digits, behind}
use Rattle.lpres_reader.specs.Parser.{joined, behind_unit, entered, relator_of, unit_step, square_end, word_step, step, outer_end, line_end}
use Rattle.lpres_reader.specs.Parser.{run, begin, parse_item}

-- the tokens behind which a state stands
abbrev start_tokens : Option WordTree → List Token
start_tokens None = []
start_tokens (Some w) = word_tokens w ++ symbol Star ∷ []

abbrev left_tokens : Option WordTree → List Token
left_tokens None = []
left_tokens (Some u) = word_tokens u ++ symbol Equals ∷ []

abbrev entered_tokens : Entered → List Token
entered_tokens none = []
entered_tokens (first u) = word_tokens u ++ symbol Comma ∷ []
entered_tokens (several e) = entries_tokens e ++ symbol Comma ∷ []

abbrev outer_tokens : Outer → List Token
outer_tokens (in_relators s rs left) = name (sort_name s) ∷ with_commas relator_tokens rs (left_tokens left)
outer_tokens (in_arrows qs n) = name (codes "endo") ∷ with_commas arrow_tokens qs (name n ∷ symbol Arrow ∷ [])

abbrev place_tokens : Place → List Token
place_tokens (as_factor s) = start_tokens s
place_tokens (as_exponent s f) = start_tokens s ++ (factor_tokens f ++ symbol Caret ∷ [])

abbrev around_tokens : Around → List Token
around_tokens (outside o) = outer_tokens o
around_tokens (in_round p a) = around_tokens a ++ (place_tokens p ++ symbol OpenRound ∷ [])
around_tokens (in_square p e a) = around_tokens a ++ (place_tokens p ++ symbol OpenSquare ∷ entered_tokens e)

abbrev state_tokens : State → List Token
state_tokens (at_name qs) = name (codes "endo") ∷ with_commas arrow_tokens qs []
state_tokens (at_arrow qs n) = name (codes "endo") ∷ with_commas arrow_tokens qs (name n ∷ [])
state_tokens (at_factor a s) = around_tokens a ++ start_tokens s
state_tokens (at_exponent a s f) = around_tokens a ++ (start_tokens s ++ (factor_tokens f ++ symbol Caret ∷ []))
state_tokens (at_digits a s f) = around_tokens a ++ (start_tokens s ++ (factor_tokens f ++ symbol Caret ∷ symbol Minus ∷ []))
state_tokens (behind a s f) = around_tokens a ++ (start_tokens s ++ factor_tokens f)

-- if there is a state, it stands behind these tokens
abbrev Stands : Option State → List Token → Type 0
Stands None ts = Unit {0}
Stands (Some state) ts = state_tokens state ≡ ts

with_commas-append : {X : Type 0} (tokens : X → List Token) (xs : List X) (x y : List Token)
    → with_commas tokens xs x ++ y ≡ with_commas tokens xs (x ++ y)
with_commas-append tokens [] x y = refl
with_commas-append tokens (q ∷ xs) x y = simp (append_assoc, with_commas-append tokens xs x y)

with_commas-push : {X : Type 0} (tokens : X → List Token) (xs : List X) (q : X) (rest : List Token)
    → with_commas tokens (xs ++ q ∷ []) rest ≡ with_commas tokens xs (tokens q ++ symbol Comma ∷ rest)
with_commas-push tokens [] q rest = refl
with_commas-push tokens (p ∷ xs) q rest = simp (with_commas-push tokens xs q rest)

joined_tokens : (s : Option WordTree) (f : FactorTree) → word_tokens (joined s f) ≡ start_tokens s ++ factor_tokens f
joined_tokens None f = refl
joined_tokens (Some w) f = simp append_assoc

unit_tokens_behind : (a : Around) (p : Place) (u : UnitTree)
    → state_tokens (behind_unit a p u) ≡ around_tokens a ++ (place_tokens p ++ unit_tokens u)
unit_tokens_behind a (as_factor s) u = refl
unit_tokens_behind a (as_exponent s f) u = simp append_assoc

relator_tokens_of : (left : Option WordTree) (w : WordTree) → relator_tokens (relator_of left w) ≡ left_tokens left ++ word_tokens w
relator_tokens_of None w = refl
relator_tokens_of (Some u) w = simp append_assoc

entered_tokens_of : (e : Entered) (w : WordTree) → entered_tokens (entered e w) ≡ entered_tokens e ++ (word_tokens w ++ symbol Comma ∷ [])
entered_tokens_of none w = refl
entered_tokens_of (first u) w = simp append_assoc
entered_tokens_of (several e) w = simp append_assoc

unit_stands : (a : Around) (p : Place) (t : Token) → Stands (unit_step a p t) (around_tokens a ++ (place_tokens p ++ t ∷ []))
unit_stands a p (name n) = unit_tokens_behind a p (named n)
unit_stands a p (symbol OpenRound) = append-nil (around_tokens a ++ (place_tokens p ++ symbol OpenRound ∷ []))
unit_stands a p (symbol OpenSquare) = append-nil (around_tokens a ++ (place_tokens p ++ symbol OpenSquare ∷ []))
unit_stands a p t = tt

square_stands : (a : Around) (p : Place) (e : Entered) (w : WordTree)
    → Stands (square_end a p (entered e w))
    ((around_tokens a ++ (place_tokens p ++ symbol OpenSquare ∷ entered_tokens e)) ++ (word_tokens w ++ symbol CloseSquare ∷ []))
square_stands a p none w = tt
square_stands a p (first u) w = unit_tokens_behind a p (square (two u w)) ∙ simp append_assoc
square_stands a p (several e) w = unit_tokens_behind a p (square (and_one e w)) ∙ simp append_assoc

word_stands : (a : Around) (w : WordTree) (t : Token) → Stands (word_step a w t) (around_tokens a ++ (word_tokens w ++ t ∷ []))
word_stands (outside (in_relators s rs None)) w (symbol Equals) =
    append-nil _ ∙ sym (ap (λ (l : List Token). name (sort_name s) ∷ l)
    (with_commas-append relator_tokens rs [] (word_tokens w ++ symbol Equals ∷ [])))
word_stands (outside (in_relators s rs left)) w (symbol Comma) =
    append-nil _
    ∙ ap (λ (l : List Token). name (sort_name s) ∷ l)
    (with_commas-push relator_tokens rs (relator_of left w) []
    ∙ ap (λ (l : List Token). with_commas relator_tokens rs (l ++ symbol Comma ∷ [])) (relator_tokens_of left w)
    ∙ ap (with_commas relator_tokens rs) (append_assoc (left_tokens left) (word_tokens w) (symbol Comma ∷ []))
    ∙ sym (with_commas-append relator_tokens rs (left_tokens left) (word_tokens w ++ symbol Comma ∷ [])))
word_stands (outside (in_arrows qs n)) w (symbol Comma) =
    ap (λ (l : List Token). name (codes "endo") ∷ l)
    (with_commas-push arrow_tokens qs (record { from = n; to = w }) []
    ∙ sym (with_commas-append arrow_tokens qs (name n ∷ symbol Arrow ∷ []) (word_tokens w ++ symbol Comma ∷ [])))
word_stands (in_round p a) w (symbol CloseRound) = unit_tokens_behind a p (round w) ∙ simp append_assoc
word_stands (in_square p e a) w (symbol Comma) =
    append-nil _
    ∙ ap (λ (l : List Token). around_tokens a ++ (place_tokens p ++ symbol OpenSquare ∷ l)) (entered_tokens_of e w)
    ∙ simp append_assoc
word_stands (in_square p e a) w (symbol CloseSquare) = square_stands a p e w
word_stands a w t = tt

outer_stands : (o : Outer) (w : WordTree) → item_tokens (outer_end o w) ≡ outer_tokens o ++ word_tokens w
outer_stands (in_relators s rs left) w =
    ap (λ (l : List Token). name (sort_name s) ∷ l)
    (ap (with_commas relator_tokens rs) (relator_tokens_of left w)
    ∙ sym (with_commas-append relator_tokens rs (left_tokens left) (word_tokens w)))
outer_stands (in_arrows qs n) w =
    ap (λ (l : List Token). name (codes "endo") ∷ l) (sym (with_commas-append arrow_tokens qs (name n ∷ symbol Arrow ∷ []) (word_tokens w)))

-- behind a factor, any token but `^` and `*` is behind the word
factor_stands : (a : Around) (s : Option WordTree) (f : FactorTree) (t : Token)
    → Stands (word_step a (joined s f) t) (around_tokens a ++ (word_tokens (joined s f) ++ t ∷ []))
    → Stands (word_step a (joined s f) t) (state_tokens (behind a s f) ++ t ∷ [])
factor_stands a s f t h =
    let same : around_tokens a ++ (word_tokens (joined s f) ++ t ∷ [])
    ≡ (around_tokens a ++ (start_tokens s ++ factor_tokens f)) ++ t ∷ [] =
    ap (λ (l : List Token). around_tokens a ++ (l ++ t ∷ [])) (joined_tokens s f) ∙ simp append_assoc in
    subst (Stands (word_step a (joined s f) t)) same h

step_stands : (state : State) (t : Token) → Stands (step state t) (state_tokens state ++ t ∷ [])
step_stands (at_name qs) (name n) =
    ap (λ (l : List Token). name (codes "endo") ∷ l) (sym (with_commas-append arrow_tokens qs [] (name n ∷ [])))
step_stands (at_name qs) t = tt
step_stands (at_arrow qs n) (symbol Arrow) =
    append-nil _ ∙ ap (λ (l : List Token). name (codes "endo") ∷ l)
    (sym (with_commas-append arrow_tokens qs (name n ∷ []) (symbol Arrow ∷ [])))
step_stands (at_arrow qs n) t = tt
step_stands (at_factor a s) (number digits) =
    cond_both (bytes_eq digits (codes "1")) (Some (behind a s one)) None
    (λ o. Stands o (state_tokens (at_factor a s) ++ number digits ∷ []))
    (λ e. let is : digits ≡ codes "1" = (bytes_eq-Decides digits (codes "1")).0 e in
    simp append_assoc (ap (λ (d : List ℕ). around_tokens a ++ (start_tokens s ++ number d ∷ [])) (sym is)))
    (λ e. tt)
step_stands (at_factor a s) t =
    subst (Stands (unit_step a (as_factor s) t)) (sym (append_assoc (around_tokens a) (start_tokens s) (t ∷ [])))
    (unit_stands a (as_factor s) t)
step_stands (at_exponent a s f) (number digits) = simp append_assoc
step_stands (at_exponent a s f) (symbol Minus) = simp append_assoc
step_stands (at_exponent a s f) t =
    subst (Stands (unit_step a (as_exponent s f) t))
    (sym (append_assoc (around_tokens a) (start_tokens s ++ (factor_tokens f ++ symbol Caret ∷ [])) (t ∷ [])))
    (unit_stands a (as_exponent s f) t)
step_stands (at_digits a s f) (number digits) = simp append_assoc
step_stands (at_digits a s f) t = tt
step_stands (behind a s f) (symbol Caret) = simp append_assoc
step_stands (behind a s f) (symbol Star) =
    ap (λ (l : List Token). around_tokens a ++ (l ++ symbol Star ∷ [])) (joined_tokens s f) ∙ simp append_assoc
step_stands (behind a s f) t = factor_stands a s f t (word_stands a (joined s f) t)

-- if there is a tree, it has these tokens
abbrev pub IsTreeOf : Option ItemTree → List Token → Type 0
IsTreeOf None ts = Unit {0}
IsTreeOf (Some i) ts = item_tokens i ≡ ts

end_stands : (state : State) → IsTreeOf (line_end state) (state_tokens state)
end_stands (at_name qs) = tt
end_stands (at_arrow qs n) = tt
end_stands (at_factor a s) = tt
end_stands (at_exponent a s f) = tt
end_stands (at_digits a s f) = tt
end_stands (behind (outside o) s f) = outer_stands o (joined s f) ∙ ap (λ (l : List Token). outer_tokens o ++ l) (joined_tokens s f)
end_stands (behind (in_round p a) s f) = tt
end_stands (behind (in_square p e a) s f) = tt

run_stands : (ts : List Token) (read : List Token) (o : Option State) → Stands o read
    → IsTreeOf (option_and_then (λ state. run state ts) o) (read ++ ts)
run_stands ts read None h = tt
run_stands [] read (Some state) h = subst (IsTreeOf (line_end state)) (h ∙ sym (append-nil read)) (end_stands state)
run_stands (t ∷ ts) read (Some state) h =
    let next : Stands (step state t) (read ++ t ∷ []) =
    subst (λ (l : List Token). Stands (step state t) (l ++ t ∷ [])) h (step_stands state t) in
    subst (IsTreeOf (run state (t ∷ ts))) (append_assoc read (t ∷ []) ts) (run_stands ts (read ++ t ∷ []) (step state t) next)

begin_stands : (n : List ℕ) → Stands (begin n) (name n ∷ [])
begin_stands n =
    let keep = λ (o : Option State). Stands o (name n ∷ []) in
    let endo = cond (bytes_eq n (codes "endo")) (Some (at_name [])) None in
    let iterated = cond (bytes_eq n (codes "iterated")) (Some (at_factor (outside (in_relators iterated_sort [] None)) None)) endo in
    let is = λ (k : List ℕ) (e : bytes_eq n k ≡ true). ap (λ (l : List ℕ). name l ∷ []) (sym ((bytes_eq-Decides n k).0 e)) in
    cond_both (bytes_eq n (codes "fixed")) (Some (at_factor (outside (in_relators fixed_sort [] None)) None)) iterated keep
    (is (codes "fixed"))
    (λ _. cond_both (bytes_eq n (codes "iterated")) (Some (at_factor (outside (in_relators iterated_sort [] None)) None)) endo keep
    (is (codes "iterated"))
    (λ _. cond_both (bytes_eq n (codes "endo")) (Some (at_name [])) None keep (is (codes "endo")) (λ _. tt)))

pub parse_item_keeps : (ts : List Token) → IsTreeOf (parse_item ts) ts
parse_item_keeps [] = tt
parse_item_keeps (name n ∷ ts) = run_stands ts (name n ∷ []) (begin n) (begin_stands n)
parse_item_keeps (number digits ∷ ts) = tt
parse_item_keeps (symbol s ∷ ts) = tt

-- the tree of tokens is found, and none is found where they have none
pub parse_item-found : (ts : List Token) → MatchOption (parse_item ts) ((i : ItemTree) → ts ≢ item_tokens i) (λ i. ts ≡ item_tokens i)
parse_item-found ts = by (parse_item ts) refl
  where
    by : (o : Option ItemTree) → parse_item ts ≡ o → MatchOption o ((i : ItemTree) → ts ≢ item_tokens i) (λ i. ts ≡ item_tokens i)
    by (Some i) e = sym (subst (λ (p : Option ItemTree). IsTreeOf p ts) e (parse_item_keeps ts))
    by None e = λ i same. let found : None ≡ Some i = sym e ∙ ap parse_item same ∙ parse_item-tokens i in cc
