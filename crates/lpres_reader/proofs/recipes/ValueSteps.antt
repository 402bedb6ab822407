-- What the reader takes a line to mean goes along with what is parsed: with each token that may come next it is the value
-- at the parser's next state, or the first trial of the line so far that passes its limit is told.
use Rattle.std.proofs.Common.{◌≡◌, ◌≤◌, ℕ, Bool, true, false, cond, leb, ℤ, List, [], ◌∷◌, ◌++◌, length, append_assoc, Option, Some, None}
use Rattle.std.proofs.Common.{Result, Ok, Err, refl, ap, sym, subst, ◌∙◌, arith}
use Rattle.std.proofs.lemmas.List.{append-nil}
use Rattle.std.proofs.lemmas.Bool.{leb-false}
use Rattle.std.specs.Prelude.{codes, bytes_eq}
use Rattle.pq_base.specs.SignedWord.{comm}
use Rattle.pq_base.specs.LPresentation.{LPresentation, AreDistinct}
use Rattle.lpres_reader.specs.declared.fault.Stop.{Stop}
use Rattle.lpres_reader.specs.declared.token.Symbol.{Symbol}
use Rattle.lpres_reader.specs.declared.token.Symbol.TheVariants.{Arrow, Star, Caret, Minus, Equals, Comma, OpenRound, CloseRound}
use Rattle.lpres_reader.specs.declared.token.Symbol.TheVariants.{OpenSquare, CloseSquare}
use Rattle.lpres_reader.specs.declared.value.Bracket.TheVariants.{Square}
use Rattle.lpres_reader.specs.declared.value.Stage.TheVariants as stage
use Rattle.lpres_reader.specs.declared.value.Value.{Value}
use Rattle.lpres_reader.specs.Tokens.{Token, name, number, symbol}
use Rattle.lpres_reader.specs.Limits.{total_letters}
use Rattle.lpres_reader.specs.Words.{letter_limit}
use Rattle.lpres_reader.specs.Trees.{WordTree, alone, times, FactorTree, one, to_power, conjugated, UnitTree, named, round, square}
use Rattle.lpres_reader.specs.Trees.{EntriesTree, two, and_one, RelatorTree, ArrowTree, Sort, Exponent, plus, minus, exponent_size}
use Rattle.lpres_reader.specs.Trees.{word_meaning, factor_meaning, unit_meaning, entries_meaning}
use Rattle.lpres_reader.specs.Trials as trials
use Rattle.lpres_reader.specs.Trials.{Trial, tried, Endos, Total, AreKept, letters_tried, word_trials, factor_trials, unit_trials}
use Rattle.lpres_reader.specs.Trials.{entries_trials, relator_trials, relators_trials, arrows_trials, relators_of, sort_limit, item_trials}
use Rattle.lpres_reader.specs.Parser.{Place, as_factor, as_exponent, Entered, none, first, several, in_relators, in_arrows, Around, outside}
use Rattle.lpres_reader.specs.Parser.{in_round, in_square, State, at_name, at_arrow, at_factor, at_exponent, at_digits, behind, joined}
use Rattle.lpres_reader.specs.Parser.{behind_unit, entered, relator_of, unit_step, word_step, step}
use Rattle.lpres_reader.specs.Values as v
use Rattle.lpres_reader.specs.Meanings.{relators_gathered, arrows_gathered}
use Rattle.lpres_reader.proofs.trees.ParsedMeanings.{start_value, left_value, place_value, entered_value, around_of, value_of}
use Rattle.lpres_reader.proofs.trees.TreeWords.{kept_parts, word_short}
use Rattle.lpres_reader.proofs.trees.FormSteps.{word_ends, word_ends_number}
use Rattle.lpres_reader.proofs.items.GatheredSteps.{start_trials, relator_gathers, arrow_gathers}
use Rattle.lpres_reader.proofs.faults.StateTrials.{place_trials, entered_trials, endo_tried, outer_trials, around_trials, state_trials}
use Rattle.lpres_reader.proofs.faults.StateTrials.{unit_more, unit_more_is, Grows, word_grows}
use Rattle.lpres_reader.proofs.faults.Tried.{Tried, kept, tried_same, tried_then, tried_map, tried_fits, tried_raised, tried_if}

-- an entry with those before it
abbrev pub entry_value : List (List ℕ) → Entered → WordTree → List ℤ
entry_value names none w = word_meaning names w
entry_value names (first u) w = entries_meaning names (two u w)
entry_value names (several e) w = entries_meaning names (and_one e w)

followed_twice : {X Y Z : Type 0} (r : Result X Stop) (f : X → Result Y Stop) (g : Y → Result Z Stop)
    → v.followed r (λ x. v.followed (f x) g) ≡ v.followed (v.followed r f) g
followed_twice (Ok x) f g = refl
followed_twice (Err e) f g = refl

module _ (M : LPresentation) (distinct : AreDistinct M.names) where
  abbrev pub Goes : Option State → Result Value Stop → Type 0
  Goes None r = Unit {0}
  Goes (Some state) r = Tried (state_trials M state) (value_of M state) r

  unit_behind : (a : Around) (p : Place) (u : UnitTree) → AreKept (around_trials M a ++ (place_trials M.names p ++ unit_trials M.names u))
      → Tried (state_trials M (behind_unit a p u)) (value_of M (behind_unit a p u))
      (v.followed (v.behind_unit (place_value M.names p) (unit_meaning M.names u)) (λ s. Ok (v.value s (around_of M a))))
  unit_behind a (as_factor s) u h = kept h
  unit_behind a (as_exponent s f) u h =
      let ts = around_trials M a ++ ((start_trials M.names s ++ factor_trials M.names f) ++ unit_trials M.names u) in
      let w = factor_meaning M.names (conjugated f u) in
      let same : ts ++ letters_tried w ≡ state_trials M (behind a s (conjugated f u)) = simp append_assoc in
      tried_same (ts ++ letters_tried w) (state_trials M (behind a s (conjugated f u))) (value_of M (behind a s (conjugated f u))) same
      (tried_map (ts ++ letters_tried w) (stage.Behind (start_value M.names s) w) (λ s. v.value s (around_of M a))
      (tried_map (ts ++ letters_tried w) w (λ x. stage.Behind (start_value M.names s) x) (tried_fits ts w h)))

  unit_goes : (a : Around) (p : Place) (t : Token) → AreKept (around_trials M a ++ place_trials M.names p)
      → Goes (unit_step a p t) (v.unit_step M.names (around_of M a) (place_value M.names p) t)
  unit_goes a p (name n) h =
      unit_behind a p (named n)
      (subst AreKept (ap (λ (l : List Trial). around_trials M a ++ l) (sym (append-nil (place_trials M.names p)))) h)
  unit_goes a p (number digits) h = tt
  unit_goes a p (symbol OpenRound) h = kept (subst AreKept (sym (append-nil (around_trials M a ++ place_trials M.names p))) h)
  unit_goes a p (symbol OpenSquare) h =
      kept (subst AreKept (sym (append-nil (around_trials M a ++ (place_trials M.names p ++ []))))
      (subst AreKept (ap (λ (l : List Trial). around_trials M a ++ l) (sym (append-nil (place_trials M.names p)))) h))
  unit_goes a p (symbol s) h = tt

  -- the word that ends behind a factor
  pub joined_goes : (a : Around) (s : Option WordTree) (f : FactorTree)
      → AreKept (around_trials M a ++ (start_trials M.names s ++ factor_trials M.names f))
      → Tried (around_trials M a ++ word_trials M.names (joined s f)) (word_meaning M.names (joined s f))
      (v.fits (start_value M.names s ++ factor_meaning M.names f))
  joined_goes a None f h =
      let short = word_short M.names distinct (alone f) (kept_parts (around_trials M a) (factor_trials M.names f) h).1 in
      fits_short (around_trials M a ++ factor_trials M.names f) (factor_meaning M.names f) h short
    where
      fits_short : (ts : List Trial) (w : List ℤ) → AreKept ts → length w ≤ letter_limit → Tried ts w (v.fits w)
      fits_short ts w k short =
          tried_if ts [] w (leb (length w) letter_limit) _ _ (λ e. kept k)
          (λ e. let large = leb-false (length w) letter_limit e in absurd (omega arith))
  joined_goes a (Some w) f h =
      let ts = around_trials M a ++ (word_trials M.names w ++ factor_trials M.names f) in
      let m = word_meaning M.names (times w f) in
      let same : ts ++ letters_tried m ≡ around_trials M a ++ word_trials M.names (times w f) = simp append_assoc in
      tried_same (ts ++ letters_tried m) (around_trials M a ++ word_trials M.names (times w f)) m same (tried_fits ts m h)

  -- an entry of a bracket
  entered_goes : (e : Entered) (ts : List Trial) (w : WordTree) → AreKept (ts ++ (entered_trials M.names e ++ word_trials M.names w))
      → Tried (ts ++ entered_trials M.names (entered e w)) (entry_value M.names e w)
      (v.entered (entered_value M.names e) (word_meaning M.names w))
  entered_goes none ts w h = kept h
  entered_goes (first u) ts w h =
      let us = ts ++ (word_trials M.names u ++ word_trials M.names w) in
      let m = entries_meaning M.names (two u w) in
      let same : us ++ letters_tried m ≡ ts ++ entries_trials M.names (two u w) = simp append_assoc in
      tried_same (us ++ letters_tried m) (ts ++ entries_trials M.names (two u w)) m same (tried_fits us m h)
  entered_goes (several e) ts w h =
      let us = ts ++ (entries_trials M.names e ++ word_trials M.names w) in
      let m = entries_meaning M.names (and_one e w) in
      let same : us ++ letters_tried m ≡ ts ++ entries_trials M.names (and_one e w) = simp append_assoc in
      tried_same (us ++ letters_tried m) (ts ++ entries_trials M.names (and_one e w)) m same (tried_fits us m h)

  square_behind : (a : Around) (p : Place) (e : EntriesTree) (ts : List Trial) (r : Result (List ℤ) Stop)
      → ts ≡ around_trials M a ++ (place_trials M.names p ++ entries_trials M.names e) → Tried ts (entries_meaning M.names e) r
      → Tried (state_trials M (behind_unit a p (square e))) (value_of M (behind_unit a p (square e)))
      (v.followed r (λ x. v.followed (v.behind_unit (place_value M.names p) x) (λ s. Ok (v.value s (around_of M a)))))
  square_behind a p e ts r same t =
      let us = around_trials M a ++ (place_trials M.names p ++ entries_trials M.names e) in
      let all = unit_more_is M a p (square e) in
      tried_same (us ++ unit_more M.names p (square e)) (state_trials M (behind_unit a p (square e)))
      (value_of M (behind_unit a p (square e))) all
      (tried_then us (unit_more M.names p (square e)) (entries_meaning M.names e) (value_of M (behind_unit a p (square e)))
      (λ x. v.followed (v.behind_unit (place_value M.names p) x) (λ s. Ok (v.value s (around_of M a))))
      (tried_same ts us (entries_meaning M.names e) same t)
      (λ h. tried_same (state_trials M (behind_unit a p (square e))) (us ++ unit_more M.names p (square e))
      (value_of M (behind_unit a p (square e))) (sym all) (unit_behind a p (square e) h)))

  -- a comma behind an entry
  comma_behind : (a : Around) (p : Place) (x : Entered) (m : List ℤ) (r : Result (List ℤ) Stop) → entered_value M.names x ≡ Some m
      → Tried ((around_trials M a ++ place_trials M.names p) ++ entered_trials M.names x) m r
      → Tried (state_trials M (at_factor (in_square p x a) None)) (value_of M (at_factor (in_square p x a) None))
      (v.followed r (λ y. Ok (v.with_bracket (around_of M a) (place_value M.names p) (Square (Some y)))))
  comma_behind a p x m r is t =
      let ts = (around_trials M a ++ place_trials M.names p) ++ entered_trials M.names x in
      let us = state_trials M (at_factor (in_square p x a) None) in
      let same : ts ≡ us = append_assoc (around_trials M a) (place_trials M.names p) (entered_trials M.names x) ∙ sym (append-nil _) in
      tried_same ts us (value_of M (at_factor (in_square p x a) None)) same
      (subst (λ (o : Option (List ℤ)).
      Tried ts (v.with_bracket (around_of M a) (place_value M.names p) (Square o))
      (v.followed r (λ y. Ok (v.with_bracket (around_of M a) (place_value M.names p) (Square (Some y)))))) (sym is)
      (tried_map ts m (λ y. v.with_bracket (around_of M a) (place_value M.names p) (Square (Some y))) t))

  entry_is : (e : Entered) (w : WordTree) → entered_value M.names (entered e w) ≡ Some (entry_value M.names e w)
  entry_is none w = refl
  entry_is (first u) w = refl
  entry_is (several e) w = refl

  square_comma : (a : Around) (p : Place) (e : Entered) (w : WordTree)
      → AreKept (around_trials M (in_square p e a) ++ word_trials M.names w)
      → Tried (state_trials M (at_factor (in_square p (entered e w) a) None)) (value_of M (at_factor (in_square p (entered e w) a) None))
      (v.followed (v.entered (entered_value M.names e) (word_meaning M.names w))
      (λ y. Ok (v.with_bracket (around_of M a) (place_value M.names p) (Square (Some y)))))
  square_comma a p e w h =
      let ts = around_trials M a ++ place_trials M.names p in
      let same : around_trials M (in_square p e a) ++ word_trials M.names w ≡ ts ++ (entered_trials M.names e ++ word_trials M.names w) =
      simp append_assoc in
      comma_behind a p (entered e w) (entry_value M.names e w) (v.entered (entered_value M.names e) (word_meaning M.names w)) (entry_is e w)
      (entered_goes e ts w (subst AreKept same h))

  square_close : (a : Around) (p : Place) (e : Entered) (x : EntriesTree) (w : WordTree) (m : List ℤ)
      → entered_trials M.names (entered e w) ≡ entries_trials M.names x → entry_value M.names e w ≡ entries_meaning M.names x
      → entered_value M.names e ≡ Some m
      → AreKept (around_trials M (in_square p e a) ++ word_trials M.names w)
      → Tried (state_trials M (behind_unit a p (square x))) (value_of M (behind_unit a p (square x)))
      (v.followed (v.fits (comm m (word_meaning M.names w)))
      (λ y. v.followed (v.behind_unit (place_value M.names p) y) (λ s. Ok (v.value s (around_of M a)))))
  square_close a p e x w m trials means is h =
      let ts = around_trials M a ++ place_trials M.names p in
      let same : around_trials M (in_square p e a) ++ word_trials M.names w ≡ ts ++ (entered_trials M.names e ++ word_trials M.names w) =
      simp append_assoc in
      let t = entered_goes e ts w (subst AreKept same h) in
      let t2 =
      subst (λ (o : Option (List ℤ)).
      Tried (ts ++ entered_trials M.names (entered e w)) (entry_value M.names e w) (v.entered o (word_meaning M.names w))) is t in
      let t3 =
      subst (λ (y : List ℤ). Tried (ts ++ entered_trials M.names (entered e w)) y (v.fits (comm m (word_meaning M.names w)))) means t2 in
      square_behind a p x (ts ++ entered_trials M.names (entered e w)) (v.fits (comm m (word_meaning M.names w)))
      (ap (λ (l : List Trial). ts ++ l) trials ∙ append_assoc (around_trials M a) (place_trials M.names p) (entries_trials M.names x)) t3

  relators_comma : (s : Sort) (rs : List RelatorTree) (left : Option WordTree) (w : WordTree)
      → AreKept (outer_trials M (in_relators s rs left) ++ word_trials M.names w)
      → Tried (state_trials M (at_factor (outside (in_relators s (rs ++ relator_of left w ∷ []) None)) None))
      (value_of M (at_factor (outside (in_relators s (rs ++ relator_of left w ∷ []) None)) None))
      (v.followed (v.relator (left_value M.names left) (word_meaning M.names w))
      (λ r. v.followed (v.with_relator (relators_gathered M s rs) r) (λ more. Ok (v.at_relators more))))
  relators_comma s rs left w h =
      let all = rs ++ relator_of left w ∷ [] in
      let ts = relators_trials M.names s (length (relators_of M s)) (total_letters M) all in
      let state = at_factor (outside (in_relators s all None)) None in
      let same : ts ≡ state_trials M state = sym (append-nil ts) ∙ sym (append-nil (ts ++ [])) in
      let r = v.relator (left_value M.names left) (word_meaning M.names w) in
      let f = λ (x : List ℤ). v.with_relator (relators_gathered M s rs) x in
      tried_same ts (state_trials M state) (value_of M state) same
      (subst (λ (x : Result Value Stop). Tried ts (value_of M state) x) (sym (followed_twice r f (λ more. Ok (v.at_relators more))))
      (tried_map ts (relators_gathered M s all) (λ more. v.at_relators more) (relator_gathers M s rs left w h)))

  word_goes : (a : Around) (w : WordTree) (s : Symbol) → AreKept (around_trials M a ++ word_trials M.names w)
      → Goes (word_step a w (symbol s)) (v.word_step (around_of M a) (word_meaning M.names w) s)
  word_goes (outside (in_relators s rs None)) w Equals h =
      let ts = relators_trials M.names s (length (relators_of M s)) (total_letters M) rs in
      kept (subst AreKept (sym (append-nil (ts ++ word_trials M.names w)))
      (subst (λ (l : List Trial). AreKept (l ++ word_trials M.names w)) (append-nil ts) h))
  word_goes (outside (in_relators s rs None)) w Comma h = relators_comma s rs None w h
  word_goes (outside (in_relators s rs None)) w t h = tt
  word_goes (outside (in_relators s rs (Some u))) w Comma h = relators_comma s rs (Some u) w h
  word_goes (outside (in_relators s rs (Some u))) w t h = tt
  word_goes (outside (in_arrows qs n)) w Comma h =
      let q : ArrowTree = record { from = n; to = w } in
      tried_map (state_trials M (at_name (qs ++ q ∷ []))) (arrows_gathered M (qs ++ q ∷ [])) (λ more. v.at_arrows more)
      (arrow_gathers M qs q h)
  word_goes (outside (in_arrows qs n)) w t h = tt
  word_goes (in_round p a) w CloseRound h =
      unit_behind a p (round w) (subst AreKept (append_assoc (around_trials M a) (place_trials M.names p) (word_trials M.names w)) h)
  word_goes (in_round p a) w t h = tt
  word_goes (in_square p none a) w Comma h = square_comma a p none w h
  word_goes (in_square p none a) w t h = tt
  word_goes (in_square p (first u) a) w Comma h = square_comma a p (first u) w h
  word_goes (in_square p (first u) a) w CloseSquare h = square_close a p (first u) (two u w) w (word_meaning M.names u) refl refl refl h
  word_goes (in_square p (first u) a) w t h = tt
  word_goes (in_square p (several e) a) w Comma h = square_comma a p (several e) w h
  word_goes (in_square p (several e) a) w CloseSquare h =
      square_close a p (several e) (and_one e w) w (entries_meaning M.names e) refl refl refl h
  word_goes (in_square p (several e) a) w t h = tt

  behind_goes : (a : Around) (s : Option WordTree) (f : FactorTree) (t : Symbol) → AreKept (state_trials M (behind a s f))
      → Goes (word_step a (joined s f) (symbol t))
      (v.followed (v.fits (start_value M.names s ++ factor_meaning M.names f)) (λ w. v.word_step (around_of M a) w t))
  behind_goes a s f t h = by (word_step a (joined s f) (symbol t)) (word_grows M a (joined s f) t) (λ k. word_goes a (joined s f) t k)
    where
      by : (o : Option State) → Grows M (around_trials M a ++ word_trials M.names (joined s f)) o
          → (AreKept (around_trials M a ++ word_trials M.names (joined s f))
          → Goes o (v.word_step (around_of M a) (word_meaning M.names (joined s f)) t))
          → Goes o (v.followed (v.fits (start_value M.names s ++ factor_meaning M.names f)) (λ w. v.word_step (around_of M a) w t))
      by None grows g = tt
      by (Some state) grows g =
          let ts = around_trials M a ++ word_trials M.names (joined s f) in
          tried_same (ts ++ grows.0) (state_trials M state) (value_of M state) (sym grows.1)
          (tried_then ts grows.0 (word_meaning M.names (joined s f)) (value_of M state) (λ w. v.word_step (around_of M a) w t)
          (joined_goes a s f h)
          (λ k. tried_same (state_trials M state) (ts ++ grows.0) (value_of M state) grows.1 (g k)))

  raised_goes : (a : Around) (s : Option WordTree) (f : FactorTree) (e : Exponent)
      → AreKept (around_trials M a ++ (start_trials M.names s ++ factor_trials M.names f))
      → Tried (state_trials M (behind a s (to_power f e))) (value_of M (behind a s (to_power f e)))
      (v.raised_step (around_of M a) (start_value M.names s) (factor_meaning M.names f) e)
  raised_goes a s f e h =
      let ts = around_trials M a ++ (start_trials M.names s ++ factor_trials M.names f) in
      let m = factor_meaning M.names (to_power f e) in
      let more = tried trials.Exponent (exponent_size e) ∷ letters_tried m in
      let same : ts ++ more ≡ state_trials M (behind a s (to_power f e)) = simp append_assoc in
      tried_same (ts ++ more) (state_trials M (behind a s (to_power f e))) (value_of M (behind a s (to_power f e))) same
      (tried_map (ts ++ more) m (λ x. v.value (stage.Behind (start_value M.names s) x) (around_of M a))
      (tried_raised ts (factor_meaning M.names f) e h))

  pub value_goes : (state : State) (t : Token) → AreKept (state_trials M state)
      → Goes (step state t) (v.value_step M.names (value_of M state) t)
  value_goes (at_name qs) (name n) h = kept h
  value_goes (at_name qs) (number n) h = tt
  value_goes (at_name qs) (symbol n) h = tt
  value_goes (at_arrow qs n) (symbol Arrow) h =
      kept (subst AreKept (sym (append-nil (endo_tried M ∷ arrows_trials M.names (total_letters M) qs))) h)
  value_goes (at_arrow qs n) t h = tt
  value_goes (at_factor a s) (number digits) h = by (bytes_eq digits (codes "1"))
    where
      by : (b : Bool) → Goes (cond b (Some (behind a s one)) None)
          (cond b (Ok (v.value (stage.Behind (start_value M.names s) []) (around_of M a))) v.no_form)
      by true = kept (subst AreKept (ap (λ (l : List Trial). around_trials M a ++ l) (sym (append-nil (start_trials M.names s)))) h)
      by false = tt
  value_goes (at_factor a s) (name n) h = unit_goes a (as_factor s) (name n) h
  value_goes (at_factor a s) (symbol n) h = unit_goes a (as_factor s) (symbol n) h
  value_goes (at_exponent a s f) (number digits) h = raised_goes a s f (plus digits) h
  value_goes (at_exponent a s f) (symbol Minus) h = kept h
  value_goes (at_exponent a s f) (name n) h = unit_goes a (as_exponent s f) (name n) h
  value_goes (at_exponent a s f) (symbol n) h = unit_goes a (as_exponent s f) (symbol n) h
  value_goes (at_digits a s f) (number digits) h = raised_goes a s f (minus digits) h
  value_goes (at_digits a s f) t h = tt
  value_goes (behind a s f) (symbol Caret) h = kept h
  value_goes (behind a s f) (symbol Star) h =
      tried_map (around_trials M a ++ word_trials M.names (joined s f)) (word_meaning M.names (joined s f))
      (λ w. v.value (stage.Before w) (around_of M a)) (joined_goes a s f h)
  value_goes (behind a s f) (name n) h = subst (λ (o : Option State). Goes o v.no_form) (sym (word_ends a (joined s f) n)) tt
  value_goes (behind a s f) (number n) h = subst (λ (o : Option State). Goes o v.no_form) (sym (word_ends_number a (joined s f) n)) tt
  value_goes (behind a s f) (symbol t) h = behind_goes a s f t h
