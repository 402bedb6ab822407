-- What the tokens of a line give is what its tree gives, or the first trial of the line that passes its limit is told.
use Rattle.std.proofs.Common.{◌≡◌, ℤ, List, [], ◌∷◌, ◌++◌, append_assoc, Option, Some, None, option_and_then, Result, ap, sym, subst, ◌∙◌}
use Rattle.pq_base.specs.LPresentation.{LPresentation, AreDistinct}
use Rattle.lpres_reader.specs.declared.fault.Stop.{Stop}
use Rattle.lpres_reader.specs.declared.value.Value.{Value}
use Rattle.lpres_reader.specs.Tokens.{Token}
use Rattle.lpres_reader.specs.Trees.{WordTree, ItemTree, word_meaning}
use Rattle.lpres_reader.specs.Trials.{Trial, AreKept, word_trials, item_trials}
use Rattle.lpres_reader.specs.Parser.{Outer, in_relators, in_arrows, outside, in_round, in_square, State, at_name, at_arrow, at_factor}
use Rattle.lpres_reader.specs.Parser.{at_exponent, at_digits, behind, joined, step, outer_end, line_end, run}
use Rattle.lpres_reader.specs.Values as v
use Rattle.lpres_reader.specs.Meanings.{gathered_of}
use Rattle.lpres_reader.proofs.trees.ParsedMeanings.{outer_value, outer_gathered, value_of}
use Rattle.lpres_reader.proofs.items.GatheredSteps.{relator_gathers, arrow_gathers}
use Rattle.lpres_reader.proofs.faults.StateTrials.{outer_trials, state_trials, Grows, relator_more, arrow_more, joined_more, step_grows}
use Rattle.lpres_reader.proofs.faults.Tried.{Tried, tried_same, tried_then}
use Rattle.lpres_reader.proofs.recipes.ValueSteps.{Goes, joined_goes, value_goes}

module _ (M : LPresentation) (distinct : AreDistinct M.names) where
  -- the trials of the whole line, behind a word
  outer_more : (o : Outer) (w : WordTree)
      → (us : List Trial) × (item_trials M (outer_end o w) ≡ (outer_trials M o ++ word_trials M.names w) ++ us)
  outer_more (in_relators s rs left) w = relator_more M s rs left w
  outer_more (in_arrows qs n) w = arrow_more M qs (record { from = n; to = w })

  outer_gives : (o : Outer) (w : WordTree) → AreKept (outer_trials M o ++ word_trials M.names w)
      → Tried (item_trials M (outer_end o w)) (gathered_of M (outer_end o w))
      (v.outer_end (outer_value M o) (outer_gathered M o) (word_meaning M.names w))
  outer_gives (in_relators s rs left) w h = relator_gathers M s rs left w h
  outer_gives (in_arrows qs n) w h = arrow_gathers M qs (record { from = n; to = w }) h

  end_gives : (state : State) (i : ItemTree) → line_end state ≡ Some i → AreKept (state_trials M state)
      → Tried (item_trials M i) (gathered_of M i) (v.value_end (value_of M state))
  end_gives (at_name qs) i e h = absurd (cc e)
  end_gives (at_arrow qs n) i e h = absurd (cc e)
  end_gives (at_factor a s) i e h = absurd (cc e)
  end_gives (at_exponent a s f) i e h = absurd (cc e)
  end_gives (at_digits a s f) i e h = absurd (cc e)
  end_gives (behind (in_round p a) s f) i e h = absurd (cc e)
  end_gives (behind (in_square p x a) s f) i e h = absurd (cc e)
  end_gives (behind (outside o) s f) i e h =
      let w = joined s f in
      let ts = outer_trials M o ++ word_trials M.names w in
      let more = outer_more o w in
      let is : outer_end o w ≡ i = cc in
      let give = λ (x : List ℤ). v.outer_end (outer_value M o) (outer_gathered M o) x in
      subst (λ (j : ItemTree). Tried (item_trials M j) (gathered_of M j) (v.value_end (value_of M (behind (outside o) s f)))) is
      (tried_same (ts ++ more.0) (item_trials M (outer_end o w)) (gathered_of M (outer_end o w)) (sym more.1)
      (tried_then ts more.0 (word_meaning M.names w) (gathered_of M (outer_end o w)) give (joined_goes M distinct (outside o) s f h)
      (λ k. tried_same (item_trials M (outer_end o w)) (ts ++ more.0) (gathered_of M (outer_end o w)) more.1 (outer_gives o w k))))

  end_grows : (state : State) (i : ItemTree) → line_end state ≡ Some i → (us : List Trial) × (item_trials M i ≡ state_trials M state ++ us)
  end_grows (at_name qs) i e = absurd (cc e)
  end_grows (at_arrow qs n) i e = absurd (cc e)
  end_grows (at_factor a s) i e = absurd (cc e)
  end_grows (at_exponent a s f) i e = absurd (cc e)
  end_grows (at_digits a s f) i e = absurd (cc e)
  end_grows (behind (in_round p a) s f) i e = absurd (cc e)
  end_grows (behind (in_square p x a) s f) i e = absurd (cc e)
  end_grows (behind (outside o) s f) i e =
      let w = joined s f in
      let more = outer_more o w in
      let j = joined_more M (outside o) s f in
      let is : outer_end o w ≡ i = cc in
      subst (λ (k : ItemTree). (us : List Trial) × (item_trials M k ≡ state_trials M (behind (outside o) s f) ++ us)) is
      (j.0 ++ more.0, more.1 ∙ ap (λ (l : List Trial). l ++ more.0) j.1 ∙ append_assoc (state_trials M (behind (outside o) s f)) j.0 more.0)

  further : (ts all end : List Trial) → (us : List Trial) × (all ≡ ts ++ us) → (us : List Trial) × (end ≡ all ++ us)
      → (us : List Trial) × (end ≡ ts ++ us)
  further ts all end a b = (a.0 ++ b.0, b.1 ∙ ap (λ (l : List Trial). l ++ b.0) a.1 ∙ append_assoc ts a.0 b.0)

  run_grows_by : (o : Option State) (state : State) (ts : List Token) (i : ItemTree)
      → ((next : State) → run next ts ≡ Some i → (us : List Trial) × (item_trials M i ≡ state_trials M next ++ us))
      → Grows M (state_trials M state) o → option_and_then (λ next. run next ts) o ≡ Some i
      → (us : List Trial) × (item_trials M i ≡ state_trials M state ++ us)
  run_grows_by None state ts i ih g e = absurd (cc e)
  run_grows_by (Some next) state ts i ih g e = further (state_trials M state) (state_trials M next) (item_trials M i) g (ih next e)

  -- the trials of the tokens so far come first
  pub run_grows : (state : State) (ts : List Token) (i : ItemTree) → run state ts ≡ Some i
      → (us : List Trial) × (item_trials M i ≡ state_trials M state ++ us)
  run_grows state [] i e = end_grows state i e
  run_grows state (t ∷ ts) i e = run_grows_by (step state t) state ts i (λ next f. run_grows next ts i f) (step_grows M state t) e

  gives_by : (o : Option State) (ts : List Token) (i : ItemTree) (r : Result Value Stop)
      → ((next : State) → run next ts ≡ Some i → AreKept (state_trials M next)
      → Tried (item_trials M i) (gathered_of M i) (v.value_run M.names (value_of M next) ts))
      → Goes M distinct o r → option_and_then (λ next. run next ts) o ≡ Some i
      → Tried (item_trials M i) (gathered_of M i) (v.followed r (λ x. v.value_run M.names x ts))
  gives_by None ts i r ih g e = absurd (cc e)
  gives_by (Some next) ts i r ih g e =
      let more = run_grows next ts i e in
      tried_same (state_trials M next ++ more.0) (item_trials M i) (gathered_of M i) (sym more.1)
      (tried_then (state_trials M next) more.0 (value_of M next) (gathered_of M i) (λ x. v.value_run M.names x ts) g
      (λ k. tried_same (item_trials M i) (state_trials M next ++ more.0) (gathered_of M i) more.1 (ih next e k)))

  pub run_gives : (state : State) (ts : List Token) (i : ItemTree) → run state ts ≡ Some i → AreKept (state_trials M state)
      → Tried (item_trials M i) (gathered_of M i) (v.value_run M.names (value_of M state) ts)
  run_gives state [] i e h = end_gives state i e h
  run_gives state (t ∷ ts) i e h =
      gives_by (step state t) ts i (v.value_step M.names (value_of M state) t) (λ next f k. run_gives next ts i f k)
      (value_goes M distinct state t h) e
