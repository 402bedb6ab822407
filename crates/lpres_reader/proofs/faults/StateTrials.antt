-- The trials of the tokens behind which a state of the parser stands, which only become more with further tokens.
use Rattle.std.proofs.Common.{◌≡◌, ℕ, suc, List, [], ◌∷◌, ◌++◌, length, append_assoc, Option, Some, None, refl, ap, sym, subst, ◌∙◌}
use Rattle.std.proofs.lemmas.List.{append-nil}
use Rattle.std.specs.Prelude.{codes, bytes_eq, cond, Bool, true, false}
use Rattle.pq_base.specs.LPresentation.{LPresentation}
use Rattle.lpres_reader.specs.declared.token.Symbol.{Symbol}
use Rattle.lpres_reader.specs.declared.token.Symbol.TheVariants.{Arrow, Star, Caret, Minus, Equals, Comma, OpenRound, CloseRound}
use Rattle.lpres_reader.specs.declared.token.Symbol.TheVariants.{OpenSquare, CloseSquare}
use Rattle.lpres_reader.specs.Tokens.{Token, name, number, symbol}
use Rattle.lpres_reader.specs.Limits.{total_letters}
use Rattle.lpres_reader.specs.Trees.{WordTree, times, FactorTree, one, to_power, conjugated, UnitTree, named, round, square, two, and_one}
use Rattle.lpres_reader.specs.Trees.{RelatorTree, word, equation, ArrowTree, Sort, Exponent, plus, minus, exponent_size, word_meaning}
use Rattle.lpres_reader.specs.Trees.{factor_meaning, entries_meaning, relator_meaning}
use Rattle.lpres_reader.specs.Trials as trials
use Rattle.lpres_reader.specs.Trials.{Trial, tried, Endos, letters_tried, word_trials, factor_trials, unit_trials, entries_trials}
use Rattle.lpres_reader.specs.Trials.{relators_trials, arrows_trials, relators_of, item_trials}
use Rattle.lpres_reader.specs.Parser.{Place, as_factor, as_exponent, Entered, none, first, several, Outer, in_relators, in_arrows, Around}
use Rattle.lpres_reader.specs.Parser.{outside, in_round, in_square, State, at_name, at_arrow, at_factor, at_exponent, at_digits, behind}
use Rattle.lpres_reader.specs.Parser.{joined, behind_unit, relator_of, unit_step, word_step, step}
use Rattle.lpres_reader.proofs.trees.FormSteps.{word_ends, word_ends_number}
use Rattle.lpres_reader.proofs.items.GatheredSteps.{start_trials, end_trials, arrow_end_trials, relators_trials-push, arrows_trials-push}

abbrev pub place_trials : List (List ℕ) → Place → List Trial
place_trials names (as_factor s) = start_trials names s
place_trials names (as_exponent s f) = start_trials names s ++ factor_trials names f

abbrev pub entered_trials : List (List ℕ) → Entered → List Trial
entered_trials names none = []
entered_trials names (first u) = word_trials names u
entered_trials names (several e) = entries_trials names e

abbrev pub endo_tried : LPresentation → Trial
endo_tried M = tried Endos (suc (length M.endos))

abbrev pub outer_trials : LPresentation → Outer → List Trial
outer_trials M (in_relators s rs left) =
    relators_trials M.names s (length (relators_of M s)) (total_letters M) rs ++ start_trials M.names left
outer_trials M (in_arrows qs n) = endo_tried M ∷ arrows_trials M.names (total_letters M) qs

abbrev pub around_trials : LPresentation → Around → List Trial
around_trials M (outside o) = outer_trials M o
around_trials M (in_round p a) = around_trials M a ++ place_trials M.names p
around_trials M (in_square p e a) = around_trials M a ++ (place_trials M.names p ++ entered_trials M.names e)

-- the trials of the tokens behind which a state stands
abbrev pub state_trials : LPresentation → State → List Trial
state_trials M (at_name qs) = endo_tried M ∷ arrows_trials M.names (total_letters M) qs
state_trials M (at_arrow qs n) = endo_tried M ∷ arrows_trials M.names (total_letters M) qs
state_trials M (at_factor a s) = around_trials M a ++ start_trials M.names s
state_trials M (at_exponent a s f) = around_trials M a ++ (start_trials M.names s ++ factor_trials M.names f)
state_trials M (at_digits a s f) = around_trials M a ++ (start_trials M.names s ++ factor_trials M.names f)
state_trials M (behind a s f) = around_trials M a ++ (start_trials M.names s ++ factor_trials M.names f)

-- what is tried when a unit is behind its place
abbrev pub unit_more : List (List ℕ) → Place → UnitTree → List Trial
unit_more names (as_factor s) u = []
unit_more names (as_exponent s f) u = letters_tried (factor_meaning names (conjugated f u))

pub unit_more_is : (M : LPresentation) (a : Around) (p : Place) (u : UnitTree)
    → (around_trials M a ++ (place_trials M.names p ++ unit_trials M.names u)) ++ unit_more M.names p u ≡ state_trials M (behind_unit a p u)
unit_more_is M a (as_factor s) u = append-nil _
unit_more_is M a (as_exponent s f) u = simp append_assoc

module _ (M : LPresentation) where
  -- these trials come first at a state
  abbrev pub Grows : List Trial → Option State → Type 0
  Grows ts None = Unit {0}
  Grows ts (Some state) = (us : List Trial) × (state_trials M state ≡ ts ++ us)

  pub unit_grows : (a : Around) (p : Place) (t : Token) → Grows (around_trials M a ++ place_trials M.names p) (unit_step a p t)
  unit_grows a p (name n) =
      let more = unit_more M.names p (named n) in (
        more,
        sym (unit_more_is M a p (named n))
            ∙ ap (λ (l : List Trial). (around_trials M a ++ l) ++ more) (append-nil (place_trials M.names p)),
      )
  unit_grows a p (number n) = tt
  unit_grows a p (symbol OpenRound) = ([], refl)
  unit_grows a p (symbol OpenSquare) = ([], ap (λ (l : List Trial). (around_trials M a ++ l) ++ []) (append-nil (place_trials M.names p)))
  unit_grows a p (symbol s) = tt

  abbrev pub relators_tried_at : Sort → List RelatorTree → List Trial
  relators_tried_at s rs = relators_trials M.names s (length (relators_of M s)) (total_letters M) rs

  -- the trials behind a relator that ends
  pub relator_more : (s : Sort) (rs : List RelatorTree) (left : Option WordTree) (w : WordTree)
      → (us : List Trial)
      × (relators_tried_at s (rs ++ relator_of left w ∷ [])
      ≡ ((relators_tried_at s rs ++ start_trials M.names left) ++ word_trials M.names w) ++ us)
  relator_more s rs None w =
      let cs = end_trials M s rs (word w) in (
        cs,
        relators_trials-push M.names s (length (relators_of M s)) (total_letters M) rs (word w)
            ∙ sym (append_assoc (relators_tried_at s rs) (word_trials M.names w) cs)
            ∙ ap (λ (l : List Trial). (l ++ word_trials M.names w) ++ cs) (sym (append-nil (relators_tried_at s rs))),
      )
  relator_more s rs (Some u) w =
      let r : RelatorTree = equation u w in
      let cs = end_trials M s rs r in
      let ls = letters_tried (relator_meaning M.names r) in
      let same : relators_tried_at s rs ++ ((word_trials M.names u ++ (word_trials M.names w ++ ls)) ++ cs)
      ≡ ((relators_tried_at s rs ++ word_trials M.names u) ++ word_trials M.names w) ++ (ls ++ cs) = simp append_assoc in
      (ls ++ cs, relators_trials-push M.names s (length (relators_of M s)) (total_letters M) rs r ∙ same)

  pub arrow_more : (qs : List ArrowTree) (q : ArrowTree)
      → (us : List Trial)
      × (endo_tried M ∷ arrows_trials M.names (total_letters M) (qs ++ q ∷ [])
      ≡ ((endo_tried M ∷ arrows_trials M.names (total_letters M) qs) ++ word_trials M.names q.to) ++ us)
  arrow_more qs q =
      let cs = arrow_end_trials M qs q in (
        cs,
        ap (λ (l : List Trial). endo_tried M ∷ l)
            (arrows_trials-push M.names (total_letters M) qs q
            ∙ sym (append_assoc (arrows_trials M.names (total_letters M) qs) (word_trials M.names q.to) cs)),
      )

  relators_comma_grows : (s : Sort) (rs : List RelatorTree) (left : Option WordTree) (w : WordTree)
      → Grows ((relators_tried_at s rs ++ start_trials M.names left) ++ word_trials M.names w)
      (Some (at_factor (outside (in_relators s (rs ++ relator_of left w ∷ []) None)) None))
  relators_comma_grows s rs left w =
      let m = relator_more s rs left w in
      (m.0, append-nil _ ∙ append-nil _ ∙ m.1)

  pub word_grows : (a : Around) (w : WordTree) (s : Symbol) → Grows (around_trials M a ++ word_trials M.names w) (word_step a w (symbol s))
  word_grows (outside (in_relators s rs None)) w Equals =
      ([], ap (λ (l : List Trial). (l ++ word_trials M.names w) ++ []) (sym (append-nil (relators_tried_at s rs))))
  word_grows (outside (in_relators s rs None)) w Comma = relators_comma_grows s rs None w
  word_grows (outside (in_relators s rs None)) w t = tt
  word_grows (outside (in_relators s rs (Some u))) w Comma = relators_comma_grows s rs (Some u) w
  word_grows (outside (in_relators s rs (Some u))) w t = tt
  word_grows (outside (in_arrows qs n)) w Comma = arrow_more qs (record { from = n; to = w })
  word_grows (outside (in_arrows qs n)) w t = tt
  word_grows (in_round p a) w CloseRound =
      let more = unit_more M.names p (round w) in (
        more,
        sym (unit_more_is M a p (round w))
            ∙ ap (λ (l : List Trial). l ++ more) (sym (append_assoc (around_trials M a) (place_trials M.names p) (word_trials M.names w))),
      )
  word_grows (in_round p a) w t = tt
  word_grows (in_square p none a) w Comma = ([], ap (λ (l : List Trial). l ++ []) (simp (append_assoc, append-nil)))
  word_grows (in_square p none a) w t = tt
  word_grows (in_square p (first u) a) w Comma = (letters_tried (entries_meaning M.names (two u w)), simp (append_assoc, append-nil))
  word_grows (in_square p (first u) a) w CloseSquare =
      let more = unit_more M.names p (square (two u w)) in
      (letters_tried (entries_meaning M.names (two u w)) ++ more, sym (unit_more_is M a p (square (two u w))) ∙ simp append_assoc)
  word_grows (in_square p (first u) a) w t = tt
  word_grows (in_square p (several e) a) w Comma = (letters_tried (entries_meaning M.names (and_one e w)), simp (append_assoc, append-nil))
  word_grows (in_square p (several e) a) w CloseSquare =
      let more = unit_more M.names p (square (and_one e w)) in
      (letters_tried (entries_meaning M.names (and_one e w)) ++ more, sym (unit_more_is M a p (square (and_one e w))) ∙ simp append_assoc)
  word_grows (in_square p (several e) a) w t = tt

  -- the trials of the word that ends behind a factor
  pub joined_more : (a : Around) (s : Option WordTree) (f : FactorTree)
      → (us : List Trial) × (around_trials M a ++ word_trials M.names (joined s f) ≡ state_trials M (behind a s f) ++ us)
  joined_more a None f = ([], sym (append-nil _))
  joined_more a (Some w) f = (letters_tried (word_meaning M.names (times w f)), simp append_assoc)

  grows_further : (ts us all : List Trial) (o : Option State) → all ≡ ts ++ us → Grows all o → Grows ts o
  grows_further ts us all None e g = tt
  grows_further ts us all (Some state) e g = (us ++ g.0, g.1 ∙ ap (λ (l : List Trial). l ++ g.0) e ∙ append_assoc ts us g.0)

  power_grows : (a : Around) (s : Option WordTree) (f : FactorTree) (e : Exponent)
      → Grows (state_trials M (at_exponent a s f)) (Some (behind a s (to_power f e)))
  power_grows a s f e = (tried trials.Exponent (exponent_size e) ∷ letters_tried (factor_meaning M.names (to_power f e)), simp append_assoc)

  pub step_grows : (state : State) (t : Token) → Grows (state_trials M state) (step state t)
  step_grows (at_name qs) (name n) = ([], sym (append-nil _))
  step_grows (at_name qs) (number n) = tt
  step_grows (at_name qs) (symbol n) = tt
  step_grows (at_arrow qs n) (symbol Arrow) = ([], refl)
  step_grows (at_arrow qs n) t = tt
  step_grows (at_factor a s) (number digits) = by (bytes_eq digits (codes "1"))
    where
      by : (b : Bool) → Grows (state_trials M (at_factor a s)) (cond b (Some (behind a s one)) None)
      by true = ([], sym (append_assoc (around_trials M a) (start_trials M.names s) []))
      by false = tt
  step_grows (at_factor a s) (name n) = unit_grows a (as_factor s) (name n)
  step_grows (at_factor a s) (symbol n) = unit_grows a (as_factor s) (symbol n)
  step_grows (at_exponent a s f) (number digits) = power_grows a s f (plus digits)
  step_grows (at_exponent a s f) (symbol Minus) = ([], sym (append-nil _))
  step_grows (at_exponent a s f) (name n) = unit_grows a (as_exponent s f) (name n)
  step_grows (at_exponent a s f) (symbol n) = unit_grows a (as_exponent s f) (symbol n)
  step_grows (at_digits a s f) (number digits) = power_grows a s f (minus digits)
  step_grows (at_digits a s f) t = tt
  step_grows (behind a s f) (symbol Caret) = ([], sym (append-nil _))
  step_grows (behind a s f) (symbol Star) = joined_more a s f
  step_grows (behind a s f) (name n) =
      subst (λ (o : Option State). Grows (state_trials M (behind a s f)) o) (sym (word_ends a (joined s f) n)) tt
  step_grows (behind a s f) (number n) =
      subst (λ (o : Option State). Grows (state_trials M (behind a s f)) o) (sym (word_ends_number a (joined s f) n)) tt
  step_grows (behind a s f) (symbol t) =
      let j = joined_more a s f in
      grows_further (state_trials M (behind a s f)) j.0 (around_trials M a ++ word_trials M.names (joined s f))
      (word_step a (joined s f) (symbol t)) j.1 (word_grows a (joined s f) t)
