-- The words that are drawn are all.
use Rattle.std.proofs.Common.{◌≡◌, ◌++◌, suc, ℤ, List, sym, subst, arith}
use Rattle.samples.specs.Samples.{drawn_words}
use Rattle.samples.proofs.DrawnWords.{words_more, words_whole}
use Rattle.samples.proofs.presentation.words.Goals as goal

pub loop-preserved : goal.loop-preserved
loop-preserved c k left =
    subst (λ (ws : List (List ℤ)). ws ++ drawn_words k c.word.new.self ≡ drawn_words 30 c.args.n) (sym c.in_ok-push.ensures.items)
    (words_more c.loop.words.items (drawn_words 30 c.args.n) k c.loop.draws c.word.new.self c.in_ok-word.field-0 c.in_ok-word.ensures.number
    c.in_ok-word.ensures.word (c.loop.invariant (suc k) (omega arith)))

pub returns : goal.returns
returns c = words_whole c.loop.words.items c.loop.draws 30 c.args.n (c.loop.invariant 0 (omega arith))
