-- A line is at most one tree, and words and items are read exactly as what their trees mean.
use Rattle.std.proofs.Common.{ℕ, ℤ, List, sym, subst}
use Rattle.pq_base.specs.LPresentation.{LPresentation, AreDistinct}
use Rattle.lpres_reader.specs.Tokens.{Token}
use Rattle.lpres_reader.specs.Words.{ReadsWord}
use Rattle.lpres_reader.specs.Items.{Item, ReadsItem}
use Rattle.lpres_reader.specs.Limits.{IsWithinLimits}
use Rattle.lpres_reader.specs.Trees.{word_tokens, item_tokens, AreKnown}
use Rattle.lpres_reader.specs.Trials.{added}
use Rattle.lpres_reader.specs.ReaderLaws.{EachLineIsOneTree, MeansWord, WordsReadAsTheirTrees, MeansItem, LinesReadAsTheirTrees}
use Rattle.lpres_reader.proofs.texts.FrontLemmas.{tokens_unique}
use Rattle.lpres_reader.proofs.trees.ParserReads.{item_tokens_unique}
use Rattle.lpres_reader.proofs.trees.TreeWords.{word_of, reads_word}
use Rattle.lpres_reader.proofs.trees.TreeItems.{item_of, reads_item}
use Rattle.lpres_reader.proofs.items.AddedLaws.{within_added, kept_added}

pub each_line_is_one_tree : EachLineIsOneTree
each_line_is_one_tree line = record {
  one_list = λ ts us d e. tokens_unique ts us line d e;
  one_tree = λ i j d e. item_tokens_unique i j (tokens_unique (item_tokens i) (item_tokens j) line d e);
}

word_read : (names : List (List ℕ)) (distinct : AreDistinct names) (ts : List Token) (w : List ℤ) → MeansWord names ts w
    → ReadsWord names ts w
word_read names distinct ts w m =
    let read = reads_word names distinct m.tree (subst (AreKnown names) m.spelled m.known) m.kept in
    subst (λ (us : List Token). ReadsWord names us w) (sym m.spelled) (subst (ReadsWord names (word_tokens m.tree)) (sym m.means) read)

pub words_read_as_their_trees : WordsReadAsTheirTrees
words_read_as_their_trees names distinct ts w = (
  λ d. let a = word_of names distinct d in
      record { tree = a.tree; spelled = a.spelled; known = a.known; kept = a.kept; means = a.means },
  word_read names distinct ts w,
)

item_read : (M : LPresentation) → AreDistinct M.names → IsWithinLimits M → (ts : List Token) (item : Item) → MeansItem M ts item
    → ReadsItem M.names ts item × IsWithinLimits (added M item)
item_read M distinct within ts item m =
    let parts = within_added M m.tree m.gives distinct within m.kept in
    let read = reads_item M.names distinct m.tree m.known parts.0 m.gives in (
      subst (λ (us : List Token). ReadsItem M.names us item) (sym m.spelled)
          (subst (ReadsItem M.names (item_tokens m.tree)) (sym m.means) read),
      subst (λ (x : Item). IsWithinLimits (added M x)) (sym m.means) parts.1,
    )

item_means : (M : LPresentation) → AreDistinct M.names → (ts : List Token) (item : Item) → ReadsItem M.names ts item
    → IsWithinLimits (added M item) → MeansItem M ts item
item_means M distinct ts item d within =
    let a = item_of M.names distinct d in
    record {
      tree = a.tree;
      spelled = a.spelled;
      known = a.known;
      kept = kept_added M a.tree a.gives distinct a.kept (subst (λ (x : Item). IsWithinLimits (added M x)) a.means within);
      gives = a.gives;
      means = a.means;
    }

pub lines_read_as_their_trees : LinesReadAsTheirTrees
lines_read_as_their_trees M distinct within ts item = (λ d. item_means M distinct ts item d.0 d.1, item_read M distinct within ts item)
