-- A line reads as an item exactly where its tokens are those of a tree, its names are known, its parts keep their trials
-- and its arrows give all images; and the item is what the tree means.
use Rattle.std.proofs.Common.{◌≡◌, ◌≤◌, ℕ, ℤ, List, [], ◌∷◌, ◌++◌, map, length, refl, sym, ap, ap₂, subst, ◌∙◌}
use Rattle.std.specs.List.{AllByRecursion}
use Rattle.std.specs.Prelude.{codes}
use Rattle.pq_base.specs.SignedWord.{inv}
use Rattle.pq_base.specs.LPresentation.{AreDistinct}
use Rattle.lpres_reader.specs.declared.token.Symbol.TheVariants.{Arrow, Equals, Comma}
use Rattle.lpres_reader.specs.Tokens.{Token, name, symbol}
use Rattle.lpres_reader.specs.Words.{letter_limit}
use Rattle.lpres_reader.specs.Items.{ReadsRelator, plain, ReadsRelators, last_relator, next_relator, Mapping, ReadsArrow, an_arrow}
use Rattle.lpres_reader.specs.Items.{ReadsArrows, last_arrow, next_arrow, GivesEach, Item, fixed, iterated, ReadsItem, fixed_line}
use Rattle.lpres_reader.specs.Items.{iterated_line, endo_line}
use Rattle.lpres_reader.specs.Trees.{RelatorTree, word, equation, ArrowTree, fixed_sort, iterated_sort, ItemTree, relators, arrows}
use Rattle.lpres_reader.specs.Trees.{word_tokens, relator_tokens, arrow_tokens, with_commas, body_tokens, item_tokens, place_of}
use Rattle.lpres_reader.specs.Trees.{word_meaning, relator_meaning, known_place, arrow_meaning, AreKnown, GivesAll, item_meaning}
use Rattle.lpres_reader.specs.Trials.{AreKept, letters_tried, word_trials, relator_trials}
use Rattle.lpres_reader.proofs.names.Places.{place_of-known}
use Rattle.lpres_reader.proofs.trees.TreeWords.{TreeOf, word_of, reads_word, word_short, known_append, known_parts, kept_parts}
use Rattle.lpres_reader.proofs.trees.TreeWords.{joined_trials}

-- the trials of the parts of a line
abbrev pub RelatorsKept : List (List ℕ) → List RelatorTree → Type 0
RelatorsKept names rs = AllByRecursion (λ r. AreKept (relator_trials names r)) rs

abbrev pub ArrowsKept : List (List ℕ) → List ArrowTree → Type 0
ArrowsKept names qs = AllByRecursion (λ q. AreKept (word_trials names q.to)) qs

abbrev pub PartsKept : List (List ℕ) → ItemTree → Type 0
PartsKept names (relators s rs r) = RelatorsKept names (rs ++ r ∷ [])
PartsKept names (arrows qs q) = ArrowsKept names (qs ++ q ∷ [])

pub record ItemOf (names : List (List ℕ)) (ts : List Token) (item : Item) : Type 0 where
  pub tree : ItemTree
  pub spelled : ts ≡ item_tokens tree
  pub known : AreKnown names (body_tokens tree)
  pub kept : PartsKept names tree
  pub gives : GivesAll names tree
  pub means : item ≡ item_meaning names tree gives

-- a list of trees with commas between them
pub record ListOf {T Y : Type 0} (tokens : T → List Token) (Kept : T → Type 0) (meaning : T → Y) (names : List (List ℕ)) (ts : List Token)
    (ys : List Y) : Type 0 where
  pub before : List T
  pub last : T
  pub spelled : ts ≡ with_commas tokens before (tokens last)
  pub known : AreKnown names ts
  pub kept : AllByRecursion Kept (before ++ last ∷ [])
  pub means : ys ≡ map meaning (before ++ last ∷ [])

module _ (names : List (List ℕ)) (distinct : AreDistinct names) where
  abbrev pub RelatorOf : List Token → List ℤ → Type 0
  RelatorOf = TreeOf relator_tokens (relator_trials names) (relator_meaning names) names

  pub relator_of : {ts : List Token} {w : List ℤ} → ReadsRelator names ts w → RelatorOf ts w
  relator_of (plain d) =
      let a = word_of names distinct d in
      record { tree = word a.tree; spelled = a.spelled; known = a.known; kept = a.kept; means = a.means }
  relator_of (ReadsRelator.equation us vs u v e d1 d2 m short) =
      let a = word_of names distinct d1 in
      let b = word_of names distinct d2 in
      let means = m ∙ ap₂ (λ (x y : List ℤ). x ++ inv y) a.means b.means in
      record {
        tree = equation a.tree b.tree;
        spelled = e ∙ ap₂ (λ (x y : List Token). x ++ symbol Equals ∷ y) a.spelled b.spelled;
        known = subst (AreKnown names) (sym e) (known_append names us (symbol Equals ∷ vs) a.known b.known);
        kept = joined_trials names distinct (word_trials names a.tree) (word_trials names b.tree) _ _ a.kept b.kept means short;
        means = means;
      }

  pub relator_short : (t : RelatorTree) → AreKept (relator_trials names t) → length (relator_meaning names t) ≤ letter_limit
  relator_short (word w) h = word_short names distinct w h
  relator_short (equation u v) h =
      let last =
      kept_parts (word_trials names v) (letters_tried (relator_meaning names (equation u v))) (kept_parts (word_trials names u) _ h).1 in
      last.1.0

  pub reads_relator : (t : RelatorTree) → AreKnown names (relator_tokens t) → AreKept (relator_trials names t)
      → ReadsRelator names (relator_tokens t) (relator_meaning names t)
  reads_relator (word w) k h = plain (reads_word names distinct w k h)
  reads_relator (equation u v) k h =
      let known = known_parts names (word_tokens u) (symbol Equals ∷ word_tokens v) k in
      let kept = kept_parts (word_trials names u) _ h in
      let more = kept_parts (word_trials names v) (letters_tried (relator_meaning names (equation u v))) kept.1 in
      ReadsRelator.equation (word_tokens u) (word_tokens v) (word_meaning names u) (word_meaning names v) refl
      (reads_word names distinct u known.0 kept.0) (reads_word names distinct v known.1 more.0) refl more.1.0

  abbrev pub RelatorsOf : List Token → List (List ℤ) → Type 0
  RelatorsOf = ListOf relator_tokens (λ r. AreKept (relator_trials names r)) (relator_meaning names) names

  pub relators_of : {ts : List Token} {ws : List (List ℤ)} → ReadsRelators names ts ws → RelatorsOf ts ws
  relators_of (last_relator d) =
      let a = relator_of d in
      record {
        before = [];
        last = a.tree;
        spelled = a.spelled;
        known = a.known;
        kept = (a.kept, tt);
        means = ap (λ (w : List ℤ). w ∷ []) a.means;
      }
  relators_of (next_relator us vs e d1 d2) =
      let a = relator_of d1 in
      let b = relators_of d2 in
      record {
        before = a.tree ∷ b.before;
        last = b.last;
        spelled = e ∙ ap₂ (λ (x y : List Token). x ++ symbol Comma ∷ y) a.spelled b.spelled;
        known = subst (AreKnown names) (sym e) (known_append names us (symbol Comma ∷ vs) a.known b.known);
        kept = (a.kept, b.kept);
        means = ap₂ (λ (w : List ℤ) (ws : List (List ℤ)). w ∷ ws) a.means b.means;
      }

  pub reads_relators : (rs : List RelatorTree) (r : RelatorTree) → AreKnown names (with_commas relator_tokens rs (relator_tokens r))
      → RelatorsKept names (rs ++ r ∷ [])
      → ReadsRelators names (with_commas relator_tokens rs (relator_tokens r)) (map (relator_meaning names) (rs ++ r ∷ []))
  reads_relators [] r k h = last_relator (reads_relator r k h.0)
  reads_relators (q ∷ rs) r k h =
      let rest = with_commas relator_tokens rs (relator_tokens r) in
      let known = known_parts names (relator_tokens q) (symbol Comma ∷ rest) k in
      next_relator (relator_tokens q) rest refl (reads_relator q known.0 h.0) (reads_relators rs r known.1 h.1)

  pub record ArrowOf (ts : List Token) (a : Mapping) : Type 0 where
    pub tree : ArrowTree
    pub spelled : ts ≡ arrow_tokens tree
    pub known : AreKnown names ts
    pub kept : AreKept (word_trials names tree.to)
    pub means : a ≡ arrow_meaning names tree

  pub arrow_of : {ts : List Token} {a : Mapping} → ReadsArrow names ts a → ArrowOf ts a
  arrow_of (an_arrow k n short is d) =
      let a = word_of names distinct d in
      record {
        tree = record { from = n; to = a.tree };
        spelled = ap (λ (x : List Token). name n ∷ symbol Arrow ∷ x) a.spelled;
        known = ((k, short, is), a.known);
        kept = a.kept;
        means = ap₂ (λ (i : ℕ) (w : List ℤ). let m : Mapping = record { from = i; to = w } in m)
            (sym (ap known_place (place_of-known names n k distinct short is))) a.means;
      }

  pub reads_arrow : (q : ArrowTree) → AreKnown names (arrow_tokens q) → AreKept (word_trials names q.to)
      → ReadsArrow names (arrow_tokens q) (arrow_meaning names q)
  reads_arrow q k h =
      let place : known_place (place_of names q.from) ≡ k.0.0 = ap known_place (place_of-known names q.from k.0.0 distinct k.0.1 k.0.2) in
      subst (λ (i : ℕ). ReadsArrow names (arrow_tokens q) (record { from = i; to = word_meaning names q.to })) (sym place)
      (an_arrow k.0.0 q.from k.0.1 k.0.2 (reads_word names distinct q.to k.1 h))

  abbrev pub ArrowsOf : List Token → List Mapping → Type 0
  ArrowsOf = ListOf arrow_tokens (λ q. AreKept (word_trials names q.to)) (arrow_meaning names) names

  pub arrows_of : {ts : List Token} {ms : List Mapping} → ReadsArrows names ts ms → ArrowsOf ts ms
  arrows_of (last_arrow d) =
      let a = arrow_of d in
      record {
        before = [];
        last = a.tree;
        spelled = a.spelled;
        known = a.known;
        kept = (a.kept, tt);
        means = ap (λ (m : Mapping). m ∷ []) a.means;
      }
  arrows_of (next_arrow us vs e d1 d2) =
      let a = arrow_of d1 in
      let b = arrows_of d2 in
      record {
        before = a.tree ∷ b.before;
        last = b.last;
        spelled = e ∙ ap₂ (λ (x y : List Token). x ++ symbol Comma ∷ y) a.spelled b.spelled;
        known = subst (AreKnown names) (sym e) (known_append names us (symbol Comma ∷ vs) a.known b.known);
        kept = (a.kept, b.kept);
        means = ap₂ (λ (m : Mapping) (ms : List Mapping). m ∷ ms) a.means b.means;
      }

  pub reads_arrows : (qs : List ArrowTree) (q : ArrowTree) → AreKnown names (with_commas arrow_tokens qs (arrow_tokens q))
      → ArrowsKept names (qs ++ q ∷ [])
      → ReadsArrows names (with_commas arrow_tokens qs (arrow_tokens q)) (map (arrow_meaning names) (qs ++ q ∷ []))
  reads_arrows [] q k h = last_arrow (reads_arrow q k h.0)
  reads_arrows (p ∷ qs) q k h =
      let rest = with_commas arrow_tokens qs (arrow_tokens q) in
      let known = known_parts names (arrow_tokens p) (symbol Comma ∷ rest) k in
      next_arrow (arrow_tokens p) rest refl (reads_arrow p known.0 h.0) (reads_arrows qs q known.1 h.1)

  -- items
  pub item_of : {ts : List Token} {item : Item} → ReadsItem names ts item → ItemOf names ts item
  item_of (fixed_line d) =
      let a = relators_of d in
      record {
        tree = relators fixed_sort a.before a.last;
        spelled = ap (λ (x : List Token). name (codes "fixed") ∷ x) a.spelled;
        known = subst (AreKnown names) a.spelled a.known;
        kept = a.kept;
        gives = tt;
        means = ap fixed a.means;
      }
  item_of (iterated_line d) =
      let a = relators_of d in
      record {
        tree = relators iterated_sort a.before a.last;
        spelled = ap (λ (x : List Token). name (codes "iterated") ∷ x) a.spelled;
        known = subst (AreKnown names) a.spelled a.known;
        kept = a.kept;
        gives = tt;
        means = ap iterated a.means;
      }
  item_of (endo_line {f = f} ms d g) =
      let a = arrows_of d in
      record {
        tree = arrows a.before a.last;
        spelled = ap (λ (x : List Token). name (codes "endo") ∷ x) a.spelled;
        known = subst (AreKnown names) a.spelled a.known;
        kept = a.kept;
        gives = (f, subst (λ (l : List Mapping). GivesEach (length names) l f) a.means g);
        means = refl;
      }

  pub reads_item : (i : ItemTree) → AreKnown names (body_tokens i) → PartsKept names i → (g : GivesAll names i)
      → ReadsItem names (item_tokens i) (item_meaning names i g)
  reads_item (relators fixed_sort rs r) k h g = fixed_line (reads_relators rs r k h)
  reads_item (relators iterated_sort rs r) k h g = iterated_line (reads_relators rs r k h)
  reads_item (arrows qs q) k h g = endo_line (map (arrow_meaning names) (qs ++ q ∷ [])) (reads_arrows qs q k h) g.1
