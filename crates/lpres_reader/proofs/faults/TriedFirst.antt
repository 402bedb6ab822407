-- The trials of a line begin with those of what it has so far. So the first limit that is passed while a line is read is
-- the first of the whole line.
use Rattle.std.proofs.Common.{◌≡◌, ℕ, suc, ◌+◌, List, [], ◌∷◌, ◌++◌, append_assoc, length, Option, Some, None, option_and_then, refl, sym}
use Rattle.std.proofs.Common.{ap, subst, ◌∙◌}
use Rattle.std.proofs.lemmas.List.{append-nil}
use Rattle.std.proofs.lemmas.Bool.{cond_both}
use Rattle.std.specs.Prelude.{codes, bytes_eq}
use Rattle.pq_base.specs.LPresentation.{LPresentation}
use Rattle.lpres_reader.specs.declared.token.Symbol.TheVariants.{Arrow, Star, Caret, Minus, Equals, Comma, OpenRound, CloseRound}
use Rattle.lpres_reader.specs.declared.token.Symbol.TheVariants.{OpenSquare, CloseSquare}
use Rattle.lpres_reader.specs.Tokens.{Token, name, number, symbol}
use Rattle.lpres_reader.specs.Limits.{total_letters}
use Rattle.lpres_reader.specs.Trees.{plus, minus, WordTree, FactorTree, one, to_power, conjugated, UnitTree, named, round, square, two}
use Rattle.lpres_reader.specs.Trees.{and_one, RelatorTree, ArrowTree, Sort, ItemTree, exponent_size, word_meaning, factor_meaning}
use Rattle.lpres_reader.specs.Trees.{relator_meaning}
use Rattle.lpres_reader.specs.Parser.{Place, as_factor, as_exponent, Entered, none, first, several, Outer, in_relators, in_arrows, Around}
use Rattle.lpres_reader.specs.Parser.{outside, in_round, in_square, State, at_name, at_arrow, at_factor, at_exponent, at_digits, behind}
use Rattle.lpres_reader.specs.Parser.{joined, behind_unit, entered, relator_of, unit_step, square_end, word_step, step, outer_end, line_end}
use Rattle.lpres_reader.specs.Parser.{run}
use Rattle.lpres_reader.specs.Trials.{Trial, tried, letters_tried, sort_limit, Endos, Exponent, Total, word_trials, factor_trials}
use Rattle.lpres_reader.specs.Trials.{unit_trials, entries_trials, relator_trials, relators_trials, arrows_trials, relators_of, item_trials}
use Rattle.lpres_reader.specs.Verdicts.{first_passed}
use Rattle.lpres_reader.proofs.faults.FirstPassed.{or_else, first_passed-append}
use Rattle.lpres_reader.proofs.faults.TriedSoFar.{start_trials, entered_trials, place_trials, outer_trials, around_trials, state_trials}

-- the list begins with the other one
abbrev pub BeginsWith : List Trial → List Trial → Type 0
BeginsWith ts front = (more : List Trial) × (ts ≡ front ++ more)

itself : (ts : List Trial) → BeginsWith ts ts
itself ts = ([], sym (append-nil ts))

begins_on : (ts us vs : List Trial) → BeginsWith ts us → BeginsWith us vs → BeginsWith ts vs
begins_on ts us vs h k = (k.0 ++ h.0, h.1 ∙ ap (λ (l : List Trial). l ++ h.0) k.1 ∙ append_assoc vs k.0 h.0)

-- behind the same trials
begins_behind : (front ts us : List Trial) → BeginsWith ts us → BeginsWith (front ++ ts) (front ++ us)
begins_behind front ts us h = (h.0, ap (λ (l : List Trial). front ++ l) h.1 ∙ sym (append_assoc front us h.0))

begins_append : (ts us : List Trial) → BeginsWith (ts ++ us) ts
begins_append ts us = (us, refl)

module _ (names : List (List ℕ)) where
  joined_begins : (s : Option WordTree) (f : FactorTree)
      → BeginsWith (word_trials names (joined s f)) (start_trials names s ++ factor_trials names f)
  joined_begins None f = itself (factor_trials names f)
  joined_begins (Some w) f = begins_behind (word_trials names w) _ (factor_trials names f) (begins_append (factor_trials names f) _)

  entered_begins : (e : Entered) (w : WordTree)
      → BeginsWith (entered_trials names (entered e w)) (entered_trials names e ++ word_trials names w)
  entered_begins none w = itself (word_trials names w)
  entered_begins (first u) w = begins_behind (word_trials names u) _ (word_trials names w) (begins_append (word_trials names w) _)
  entered_begins (several e) w = begins_behind (entries_trials names e) _ (word_trials names w) (begins_append (word_trials names w) _)

  relator_begins : (left : Option WordTree) (w : WordTree)
      → BeginsWith (relator_trials names (relator_of left w)) (start_trials names left ++ word_trials names w)
  relator_begins None w = itself (word_trials names w)
  relator_begins (Some u) w = begins_behind (word_trials names u) _ (word_trials names w) (begins_append (word_trials names w) _)

  relators_begin : (s : Sort) (count total : ℕ) (rs : List RelatorTree) (r : RelatorTree) (front : List Trial)
      → BeginsWith (relator_trials names r) front
      → BeginsWith (relators_trials names s count total (rs ++ r ∷ [])) (relators_trials names s count total rs ++ front)
  relators_begin s count total [] r front h = begins_on _ (relator_trials names r) front (begins_append (relator_trials names r) _) h
  relators_begin s count total (q ∷ rs) r front h =
      let more = relators_begin s (suc count) (total + length (relator_meaning names q)) rs r front h in (
        more.0,
        ap (λ (l : List Trial). relator_trials names q
            ++ (tried (sort_limit s) (suc count) ∷ tried Total (total + length (relator_meaning names q)) ∷ l)) more.1 ∙ simp append_assoc,
      )

  arrows_begin : (total : ℕ) (qs : List ArrowTree) (q : ArrowTree) (front : List Trial) → BeginsWith (word_trials names q.to) front
      → BeginsWith (arrows_trials names total (qs ++ q ∷ [])) (arrows_trials names total qs ++ front)
  arrows_begin total [] q front h = begins_on _ (word_trials names q.to) front (begins_append (word_trials names q.to) _) h
  arrows_begin total (p ∷ qs) q front h =
      let more = arrows_begin (total + length (word_meaning names p.to)) qs q front h in (
        more.0,
        ap (λ (l : List Trial). word_trials names p.to ++ (tried Total (total + length (word_meaning names p.to)) ∷ l)) more.1
            ∙ simp append_assoc,
      )

begins_from : (ts us vs : List Trial) → us ≡ vs → BeginsWith ts us → BeginsWith ts vs
begins_from ts us vs e h = subst (BeginsWith ts) e h

begins_nil : (ts us : List Trial) → BeginsWith ts us → BeginsWith (ts ++ []) us
begins_nil ts us h = subst (λ (l : List Trial). BeginsWith l us) (sym (append-nil ts)) h

module _ (M : LPresentation) where
  -- if there is a state, its trials begin with these
  abbrev Grows : Option State → List Trial → Type 0
  Grows None ts = Unit {0}
  Grows (Some next) ts = BeginsWith (state_trials M next) ts

  behind_unit_begins : (a : Around) (p : Place) (u : UnitTree)
      → BeginsWith (state_trials M (behind_unit a p u)) (around_trials M a ++ (place_trials M.names p ++ unit_trials M.names u))
  behind_unit_begins a (as_factor s) u = itself (around_trials M a ++ (start_trials M.names s ++ unit_trials M.names u))
  behind_unit_begins a (as_exponent s f) u = (letters_tried (factor_meaning M.names (conjugated f u)), simp append_assoc)

  unit_grows : (a : Around) (p : Place) (t : Token) → Grows (unit_step a p t) (around_trials M a ++ place_trials M.names p)
  unit_grows a p (name n) =
      begins_from _ (around_trials M a ++ (place_trials M.names p ++ [])) _
      (ap (λ (l : List Trial). around_trials M a ++ l) (append-nil (place_trials M.names p))) (behind_unit_begins a p (named n))
  unit_grows a p (symbol OpenRound) = begins_append (around_trials M a ++ place_trials M.names p) []
  unit_grows a p (symbol OpenSquare) = ([], simp append-nil)
  unit_grows a p t = tt

  square_grows : (a : Around) (p : Place) (e : Entered) (w : WordTree)
      → Grows (square_end a p (entered e w))
      ((around_trials M a ++ (place_trials M.names p ++ entered_trials M.names e)) ++ word_trials M.names w)
  square_grows a p none w = tt
  square_grows a p (first u) w =
      begins_on _ _ _ (behind_unit_begins a p (square (two u w)))
      (begins_from _ (around_trials M a ++ (place_trials M.names p ++ (word_trials M.names u ++ word_trials M.names w))) _
      (simp append_assoc)
      (begins_behind (around_trials M a) _ _ (begins_behind (place_trials M.names p) _ _ (entered_begins M.names (first u) w))))
  square_grows a p (several e) w =
      begins_on _ _ _ (behind_unit_begins a p (square (and_one e w)))
      (begins_from _ (around_trials M a ++ (place_trials M.names p ++ (entries_trials M.names e ++ word_trials M.names w))) _
      (simp append_assoc)
      (begins_behind (around_trials M a) _ _ (begins_behind (place_trials M.names p) _ _ (entered_begins M.names (several e) w))))

  outer_begins : (s : Sort) (rs : List RelatorTree) (left : Option WordTree) (w : WordTree)
      → BeginsWith (relators_trials M.names s (length (relators_of M s)) (total_letters M) (rs ++ relator_of left w ∷ []))
      (outer_trials M (in_relators s rs left) ++ word_trials M.names w)
  outer_begins s rs left w =
      begins_from _ _ _ (sym (append_assoc (relators_trials M.names s (length (relators_of M s)) (total_letters M) rs)
      (start_trials M.names left) (word_trials M.names w)))
      (relators_begin M.names s (length (relators_of M s)) (total_letters M) rs (relator_of left w)
      (start_trials M.names left ++ word_trials M.names w) (relator_begins M.names left w))

  arrow_begins : (qs : List ArrowTree) (n : List ℕ) (w : WordTree)
      → BeginsWith (tried Endos (suc (length M.endos)) ∷ arrows_trials M.names (total_letters M) (qs ++ record { from = n; to = w } ∷ []))
      (outer_trials M (in_arrows qs n) ++ word_trials M.names w)
  arrow_begins qs n w =
      begins_behind (tried Endos (suc (length M.endos)) ∷ []) _ _
      (arrows_begin M.names (total_letters M) qs (record { from = n; to = w }) (word_trials M.names w) (itself (word_trials M.names w)))

  word_grows : (a : Around) (w : WordTree) (t : Token) → Grows (word_step a w t) (around_trials M a ++ word_trials M.names w)
  word_grows (outside (in_relators s rs None)) w (symbol Equals) = ([], simp append-nil)
  word_grows (outside (in_relators s rs left)) w (symbol Comma) = begins_nil _ _ (begins_nil _ _ (outer_begins s rs left w))
  word_grows (outside (in_arrows qs n)) w (symbol Comma) = arrow_begins qs n w
  word_grows (in_round p a) w (symbol CloseRound) =
      begins_from _ _ _ (sym (append_assoc (around_trials M a) (place_trials M.names p) (word_trials M.names w)))
      (behind_unit_begins a p (round w))
  word_grows (in_square p e a) w (symbol Comma) =
      begins_nil _ _ (begins_from _ (around_trials M a ++ (place_trials M.names p ++ (entered_trials M.names e ++ word_trials M.names w))) _
      (simp append_assoc)
      (begins_behind (around_trials M a) _ _ (begins_behind (place_trials M.names p) _ _ (entered_begins M.names e w))))
  word_grows (in_square p e a) w (symbol CloseSquare) = square_grows a p e w
  word_grows a w t = tt

  grown : (o : Option State) (ts us : List Trial) → BeginsWith us ts → Grows o us → Grows o ts
  grown None ts us h g = tt
  grown (Some next) ts us h g = begins_on (state_trials M next) us ts g h

  joined_grows : (a : Around) (s : Option WordTree) (f : FactorTree)
      → BeginsWith (around_trials M a ++ word_trials M.names (joined s f)) (state_trials M (behind a s f))
  joined_grows a s f = begins_behind (around_trials M a) _ _ (joined_begins M.names s f)

  step_grows : (state : State) (t : Token) → Grows (step state t) (state_trials M state)
  step_grows (at_name qs) (name n) = itself (outer_trials M (in_arrows qs n))
  step_grows (at_name qs) t = tt
  step_grows (at_arrow qs n) (symbol Arrow) = begins_append (outer_trials M (in_arrows qs n)) []
  step_grows (at_arrow qs n) t = tt
  step_grows (at_factor a s) (number digits) =
      cond_both (bytes_eq digits (codes "1")) (Some (behind a s one)) None (λ o. Grows o (state_trials M (at_factor a s)))
      (λ e. ([], simp append-nil))
      (λ e. tt)
  step_grows (at_factor a s) t = unit_grows a (as_factor s) t
  step_grows (at_exponent a s f) (number digits) =
      (tried Exponent (exponent_size (plus digits)) ∷ letters_tried (factor_meaning M.names (to_power f (plus digits))), simp append_assoc)
  step_grows (at_exponent a s f) (symbol Minus) = itself (state_trials M (at_exponent a s f))
  step_grows (at_exponent a s f) t = unit_grows a (as_exponent s f) t
  step_grows (at_digits a s f) (number digits) = (
    tried Exponent (exponent_size (minus digits)) ∷ letters_tried (factor_meaning M.names (to_power f (minus digits))),
    simp append_assoc,
  )
  step_grows (at_digits a s f) t = tt
  step_grows (behind a s f) (symbol Caret) = itself (state_trials M (behind a s f))
  step_grows (behind a s f) (symbol Star) = joined_grows a s f
  step_grows (behind a s f) t = grown (word_step a (joined s f) t) _ _ (joined_grows a s f) (word_grows a (joined s f) t)

  -- if there is an item, its trials begin with these
  abbrev pub EndsWith : Option ItemTree → List Trial → Type 0
  EndsWith None ts = Unit {0}
  EndsWith (Some i) ts = BeginsWith (item_trials M i) ts

  outer_grows : (o : Outer) (w : WordTree) → BeginsWith (item_trials M (outer_end o w)) (outer_trials M o ++ word_trials M.names w)
  outer_grows (in_relators s rs left) w = outer_begins s rs left w
  outer_grows (in_arrows qs n) w = arrow_begins qs n w

  end_grows : (state : State) → EndsWith (line_end state) (state_trials M state)
  end_grows (at_name qs) = tt
  end_grows (at_arrow qs n) = tt
  end_grows (at_factor a s) = tt
  end_grows (at_exponent a s f) = tt
  end_grows (at_digits a s f) = tt
  end_grows (behind (outside o) s f) = begins_on _ _ _ (outer_grows o (joined s f)) (joined_grows (outside o) s f)
  end_grows (behind (in_round p a) s f) = tt
  end_grows (behind (in_square p e a) s f) = tt

  begins_item : (o : Option ItemTree) (ts us : List Trial) → BeginsWith us ts → EndsWith o us → EndsWith o ts
  begins_item None ts us h g = tt
  begins_item (Some i) ts us h g = begins_on (item_trials M i) us ts g h

  run_grows : (ts : List Token) (o : Option State) (tries : List Trial) → Grows o tries
      → EndsWith (option_and_then (λ state. run state ts) o) tries
  run_grows ts None tries h = tt
  run_grows [] (Some state) tries h = begins_item (line_end state) tries (state_trials M state) h (end_grows state)
  run_grows (t ∷ ts) (Some state) tries h =
      begins_item (run state (t ∷ ts)) tries (state_trials M state) h
      (run_grows ts (step state t) (state_trials M state) (step_grows state t))

  -- the trials of a line begin with those of each state on the way
  pub trials_begin : (state : State) (ts : List Token) (i : ItemTree) → run state ts ≡ Some i
      → BeginsWith (item_trials M i) (state_trials M state)
  trials_begin state ts i e =
      subst (λ (o : Option ItemTree). EndsWith o (state_trials M state)) e
      (run_grows ts (Some state) (state_trials M state) (itself (state_trials M state)))

  -- so the first limit that is passed on the way is the first of the line
  pub passed_on_the_way : (state : State) (ts : List Token) (i : ItemTree) (t : Trial) → run state ts ≡ Some i
      → first_passed (state_trials M state) ≡ Some t → first_passed (item_trials M i) ≡ Some t
  passed_on_the_way state ts i t e f =
      let b = trials_begin state ts i e in
      ap first_passed b.1 ∙ first_passed-append (state_trials M state) b.0 ∙ ap (λ (o : Option Trial). or_else o (first_passed b.0)) f
