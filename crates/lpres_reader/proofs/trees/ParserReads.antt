-- Every tree is what is read from its own tokens. So tokens are those of at most one tree.
use Rattle.std.proofs.Common.{◌≡◌, List, [], ◌∷◌, ◌++◌, append_assoc, Option, Some, None, option_and_then, refl, sym, ap, ◌∙◌}
use Rattle.std.proofs.lemmas.List.{append-nil}
use Rattle.lpres_reader.specs.declared.token.Symbol.TheVariants.{Star, Caret, Equals, Comma, OpenRound, CloseRound, OpenSquare, CloseSquare}
use Rattle.lpres_reader.specs.Tokens.{Token, name, symbol}
use Rattle.lpres_reader.specs.Trees.{Exponent, plus, minus, WordTree, alone, times, FactorTree, one, unit, to_power, conjugated, UnitTree}
use Rattle.lpres_reader.specs.Trees.{named, round, square, EntriesTree, two, and_one, RelatorTree, word, equation, ArrowTree, Sort}
use Rattle.lpres_reader.specs.Trees.{fixed_sort, iterated_sort, ItemTree, relators, arrows, exponent_tokens, word_tokens, factor_tokens}
use Rattle.lpres_reader.specs.Trees.{unit_tokens, entries_tokens, relator_tokens, arrow_tokens, with_commas, item_tokens}
use Rattle.lpres_reader.specs.Parser.{Place, as_factor, as_exponent, none, first, several, in_relators, in_arrows, Around, outside}
use Rattle.lpres_reader.specs.Parser.{in_round, in_square, State, at_name, at_factor, at_exponent, behind, joined, behind_unit, unit_step}
use Rattle.lpres_reader.specs.Parser.{word_step, step, line_end, run, parse_item}

-- from a state by the next token
pub goes : (state next : State) (t : Token) (r : List Token) → step state t ≡ Some next → run state (t ∷ r) ≡ run next r
goes state next t r e = ap (option_and_then (λ s. run s r)) e

abbrev pub behind_word : Around → WordTree → State
behind_word a (alone f) = behind a None f
behind_word a (times w f) = behind a (Some w) f

abbrev pub place_state : Around → Place → State
place_state a (as_factor s) = at_factor a s
place_state a (as_exponent s f) = at_exponent a s f

abbrev pub behind_entries : Around → Place → EntriesTree → State
behind_entries a p (two u v) = behind_word (in_square p (first u) a) v
behind_entries a p (and_one e v) = behind_word (in_square p (several e) a) v

word_ends : (a : Around) (w : WordTree) (t : Token)
    → ((s : Option WordTree) (f : FactorTree) → step (behind a s f) t ≡ word_step a (joined s f) t)
    → step (behind_word a w) t ≡ word_step a w t
word_ends a (alone f) t e = e None f
word_ends a (times w f) t e = e (Some w) f

star_step : (a : Around) (w : WordTree) → step (behind_word a w) (symbol Star) ≡ Some (at_factor a (Some w))
star_step a (alone f) = refl
star_step a (times w f) = refl

comma_step : (a : Around) (p : Place) (e : EntriesTree)
    → step (behind_entries a p e) (symbol Comma) ≡ Some (at_factor (in_square p (several e) a) None)
comma_step a p (two u v) = word_ends (in_square p (first u) a) v (symbol Comma) (λ s f. refl)
comma_step a p (and_one e v) = word_ends (in_square p (several e) a) v (symbol Comma) (λ s f. refl)

close_step : (a : Around) (p : Place) (e : EntriesTree)
    → step (behind_entries a p e) (symbol CloseSquare) ≡ Some (behind_unit a p (square e))
close_step a p (two u v) = word_ends (in_square p (first u) a) v (symbol CloseSquare) (λ s f. refl)
close_step a p (and_one e v) = word_ends (in_square p (several e) a) v (symbol CloseSquare) (λ s f. refl)

unit_begins : (a : Around) (p : Place) (t : Token) → ((s : Option WordTree) → step (at_factor a s) t ≡ unit_step a (as_factor s) t)
    → ((s : Option WordTree) (f : FactorTree) → step (at_exponent a s f) t ≡ unit_step a (as_exponent s f) t)
    → step (place_state a p) t ≡ unit_step a p t
unit_begins a (as_factor s) t d e = d s
unit_begins a (as_exponent s f) t d e = e s f

pub exponent_runs : (e : Exponent) (a : Around) (s : Option WordTree) (f : FactorTree) (r : List Token)
    → run (at_exponent a s f) (exponent_tokens e ++ r) ≡ run (behind a s (to_power f e)) r
exponent_runs (plus digits) a s f r = refl
exponent_runs (minus digits) a s f r = refl

mutual
  pub word_runs : (w : WordTree) (a : Around) (r : List Token) → run (at_factor a None) (word_tokens w ++ r) ≡ run (behind_word a w) r
  word_runs (alone f) a r = factor_runs f a None r
  word_runs (times w f) a r =
      ap (run (at_factor a None)) (append_assoc (word_tokens w) (symbol Star ∷ factor_tokens f) r)
      ∙ word_runs w a (symbol Star ∷ (factor_tokens f ++ r))
      ∙ goes (behind_word a w) (at_factor a (Some w)) (symbol Star) (factor_tokens f ++ r) (star_step a w)
      ∙ factor_runs f a (Some w) r

  pub factor_runs : (f : FactorTree) (a : Around) (s : Option WordTree) (r : List Token)
      → run (at_factor a s) (factor_tokens f ++ r) ≡ run (behind a s f) r
  factor_runs one a s r = refl
  factor_runs (unit u) a s r = unit_runs u a (as_factor s) r
  factor_runs (to_power f e) a s r =
      ap (run (at_factor a s)) (append_assoc (factor_tokens f) (symbol Caret ∷ exponent_tokens e) r)
      ∙ factor_runs f a s (symbol Caret ∷ (exponent_tokens e ++ r))
      ∙ exponent_runs e a s f r
  factor_runs (conjugated f u) a s r =
      ap (run (at_factor a s)) (append_assoc (factor_tokens f) (symbol Caret ∷ unit_tokens u) r)
      ∙ factor_runs f a s (symbol Caret ∷ (unit_tokens u ++ r))
      ∙ unit_runs u a (as_exponent s f) r

  pub unit_runs : (u : UnitTree) (a : Around) (p : Place) (r : List Token)
      → run (place_state a p) (unit_tokens u ++ r) ≡ run (behind_unit a p u) r
  unit_runs (named n) a p r =
      goes (place_state a p) (behind_unit a p (named n)) (name n) r (unit_begins a p (name n) (λ s. refl) (λ s f. refl))
  unit_runs (round w) a p r =
      goes (place_state a p) (at_factor (in_round p a) None) (symbol OpenRound) ((word_tokens w ++ symbol CloseRound ∷ []) ++ r)
      (unit_begins a p (symbol OpenRound) (λ s. refl) (λ s f. refl))
      ∙ ap (run (at_factor (in_round p a) None)) (append_assoc (word_tokens w) (symbol CloseRound ∷ []) r)
      ∙ word_runs w (in_round p a) (symbol CloseRound ∷ r)
      ∙ goes (behind_word (in_round p a) w) (behind_unit a p (round w)) (symbol CloseRound) r
      (word_ends (in_round p a) w (symbol CloseRound) (λ s f. refl))
  unit_runs (square e) a p r =
      goes (place_state a p) (at_factor (in_square p none a) None) (symbol OpenSquare) ((entries_tokens e ++ symbol CloseSquare ∷ []) ++ r)
      (unit_begins a p (symbol OpenSquare) (λ s. refl) (λ s f. refl))
      ∙ ap (run (at_factor (in_square p none a) None)) (append_assoc (entries_tokens e) (symbol CloseSquare ∷ []) r)
      ∙ entries_runs e a p (symbol CloseSquare ∷ r)
      ∙ goes (behind_entries a p e) (behind_unit a p (square e)) (symbol CloseSquare) r (close_step a p e)

  pub entries_runs : (e : EntriesTree) (a : Around) (p : Place) (r : List Token)
      → run (at_factor (in_square p none a) None) (entries_tokens e ++ r) ≡ run (behind_entries a p e) r
  entries_runs (two u v) a p r =
      ap (run (at_factor (in_square p none a) None)) (append_assoc (word_tokens u) (symbol Comma ∷ word_tokens v) r)
      ∙ word_runs u (in_square p none a) (symbol Comma ∷ (word_tokens v ++ r))
      ∙ goes (behind_word (in_square p none a) u) (at_factor (in_square p (first u) a) None) (symbol Comma) (word_tokens v ++ r)
      (word_ends (in_square p none a) u (symbol Comma) (λ s f. refl))
      ∙ word_runs v (in_square p (first u) a) r
  entries_runs (and_one e v) a p r =
      ap (run (at_factor (in_square p none a) None)) (append_assoc (entries_tokens e) (symbol Comma ∷ word_tokens v) r)
      ∙ entries_runs e a p (symbol Comma ∷ (word_tokens v ++ r))
      ∙ goes (behind_entries a p e) (at_factor (in_square p (several e) a) None) (symbol Comma) (word_tokens v ++ r) (comma_step a p e)
      ∙ word_runs v (in_square p (several e) a) r

-- relators
abbrev pub at_relator : Sort → List RelatorTree → State
at_relator s rs = at_factor (outside (in_relators s rs None)) None

abbrev pub behind_relator : Sort → List RelatorTree → RelatorTree → State
behind_relator s rs (word w) = behind_word (outside (in_relators s rs None)) w
behind_relator s rs (equation u v) = behind_word (outside (in_relators s rs (Some u))) v

pub relator_runs : (q : RelatorTree) (s : Sort) (rs : List RelatorTree) (r : List Token)
    → run (at_relator s rs) (relator_tokens q ++ r) ≡ run (behind_relator s rs q) r
relator_runs (word w) s rs r = word_runs w (outside (in_relators s rs None)) r
relator_runs (equation u v) s rs r =
    ap (run (at_relator s rs)) (append_assoc (word_tokens u) (symbol Equals ∷ word_tokens v) r)
    ∙ word_runs u (outside (in_relators s rs None)) (symbol Equals ∷ (word_tokens v ++ r))
    ∙ goes (behind_word (outside (in_relators s rs None)) u) (at_factor (outside (in_relators s rs (Some u))) None) (symbol Equals)
    (word_tokens v ++ r)
    (word_ends (outside (in_relators s rs None)) u (symbol Equals) (λ o f. refl))
    ∙ word_runs v (outside (in_relators s rs (Some u))) r

relator_comma : (q : RelatorTree) (s : Sort) (rs : List RelatorTree)
    → step (behind_relator s rs q) (symbol Comma) ≡ Some (at_relator s (rs ++ q ∷ []))
relator_comma (word w) s rs = word_ends (outside (in_relators s rs None)) w (symbol Comma) (λ o f. refl)
relator_comma (equation u v) s rs = word_ends (outside (in_relators s rs (Some u))) v (symbol Comma) (λ o f. refl)

relator_end : (q : RelatorTree) (s : Sort) (rs : List RelatorTree) → line_end (behind_relator s rs q) ≡ Some (relators s rs q)
relator_end (word (alone f)) s rs = refl
relator_end (word (times w f)) s rs = refl
relator_end (equation u (alone f)) s rs = refl
relator_end (equation u (times w f)) s rs = refl

relators_run : (qs rs : List RelatorTree) (q : RelatorTree) (s : Sort)
    → run (at_relator s rs) (with_commas relator_tokens qs (relator_tokens q)) ≡ Some (relators s (rs ++ qs) q)
relators_run [] rs q s =
    ap (run (at_relator s rs)) (sym (append-nil (relator_tokens q)))
    ∙ relator_runs q s rs []
    ∙ relator_end q s rs
    ∙ ap (λ (l : List RelatorTree). Some (relators s l q)) (sym (append-nil rs))
relators_run (p ∷ qs) rs q s =
    let rest = with_commas relator_tokens qs (relator_tokens q) in
    relator_runs p s rs (symbol Comma ∷ rest)
    ∙ goes (behind_relator s rs p) (at_relator s (rs ++ p ∷ [])) (symbol Comma) rest (relator_comma p s rs)
    ∙ relators_run qs (rs ++ p ∷ []) q s
    ∙ ap (λ (l : List RelatorTree). Some (relators s l q)) (append_assoc rs (p ∷ []) qs)

-- arrows
abbrev pub behind_arrow : List ArrowTree → ArrowTree → State
behind_arrow ps q = behind_word (outside (in_arrows ps q.from)) q.to

pub arrow_runs : (q : ArrowTree) (ps : List ArrowTree) (r : List Token) → run (at_name ps) (arrow_tokens q ++ r) ≡ run (behind_arrow ps q) r
arrow_runs q ps r = word_runs q.to (outside (in_arrows ps q.from)) r

arrow_comma : (q : ArrowTree) (ps : List ArrowTree) → step (behind_arrow ps q) (symbol Comma) ≡ Some (at_name (ps ++ q ∷ []))
arrow_comma q ps = word_ends (outside (in_arrows ps q.from)) q.to (symbol Comma) (λ o f. refl)

arrow_end : (w : WordTree) (n : List _) (ps : List ArrowTree)
    → line_end (behind_word (outside (in_arrows ps n)) w) ≡ Some (arrows ps (record { from = n; to = w }))
arrow_end (alone f) n ps = refl
arrow_end (times w f) n ps = refl

arrows_run : (qs ps : List ArrowTree) (q : ArrowTree)
    → run (at_name ps) (with_commas arrow_tokens qs (arrow_tokens q)) ≡ Some (arrows (ps ++ qs) q)
arrows_run [] ps q =
    ap (run (at_name ps)) (sym (append-nil (arrow_tokens q)))
    ∙ arrow_runs q ps []
    ∙ arrow_end q.to q.from ps
    ∙ ap (λ (l : List ArrowTree). Some (arrows l q)) (sym (append-nil ps))
arrows_run (p ∷ qs) ps q =
    let rest = with_commas arrow_tokens qs (arrow_tokens q) in
    arrow_runs p ps (symbol Comma ∷ rest)
    ∙ goes (behind_arrow ps p) (at_name (ps ++ p ∷ [])) (symbol Comma) rest (arrow_comma p ps)
    ∙ arrows_run qs (ps ++ p ∷ []) q
    ∙ ap (λ (l : List ArrowTree). Some (arrows l q)) (append_assoc ps (p ∷ []) qs)

-- a line is read as the tree of its tokens
pub parse_item-tokens : (i : ItemTree) → parse_item (item_tokens i) ≡ Some i
parse_item-tokens (relators fixed_sort rs r) = relators_run rs [] r fixed_sort
parse_item-tokens (relators iterated_sort rs r) = relators_run rs [] r iterated_sort
parse_item-tokens (arrows qs q) = arrows_run qs [] q

-- tokens are those of at most one tree
pub item_tokens_unique : (i j : ItemTree) → item_tokens i ≡ item_tokens j → i ≡ j
item_tokens_unique i j e =
    let same : Some i ≡ Some j = sym (parse_item-tokens i) ∙ ap parse_item e ∙ parse_item-tokens j in
    cc
