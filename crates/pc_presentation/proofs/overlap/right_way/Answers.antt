use Rattle.std.proofs.Common.{◌≡◌, ℕ, ◌-◌, List, [], ◌∷◌, ap, sym, ◌∙◌, subst}
use Rattle.pc_presentation.specs.declared.syllable.Syllable.{Syllable}
use Rattle.pc_presentation.specs.declared.relation.Relation.TheVariants.{Commutator}
use Rattle.pc_presentation.specs.declared.overlap.Overlap.{Overlap}
use Rattle.pc_presentation.specs.Syllable.{syllable}
use Rattle.pc_presentation.specs.Collection.{Configuration, identity, push_configuration}
use Rattle.pc_presentation.specs.Overlaps.{right_way}
use Rattle.pc_presentation.specs.Tailed.{rowed_presentation, with_state}
use Rattle.pc_presentation.specs.OverlapNumbers.{AreOverlapNumbers, overlap_of, before_side}
use Rattle.pc_presentation.proofs.consistent.OverlapWays.{triple-right_way, left-right_way}
use Rattle.pc_presentation.proofs.overlap.right_way.Goals as goal

pub returns-in-Triple-clause-collected : goal.returns-in-Triple-clause-collected
returns-in-Triple-clause-collected g c =
    let T = c.args.pcp.now in
    let Y = rowed_presentation T in
    let t = c.in-Triple in
    let n = subst (AreOverlapNumbers T.presentation.rank) t.is c.requires.overlap in
    let word : c.power.result ∷ c.power-in-Triple.result ∷ c.power-in-Triple-2.result ∷ []
    ≡ syllable c.in-Triple.k 1 ∷ syllable c.in-Triple.i 1 ∷ syllable c.in-Triple.j 1 ∷ [] = cc in
    c.collect_with_side.ensures.collected
    ∙ ap (λ (d : Configuration). with_state c.args.at.now (push_configuration Y (g.C.Collect.meaning Y) (identity Y T.presentation.rank) d))
    (ap (λ (w : List Syllable). before_side T w (Commutator t.j t.i)) word
    ∙ triple-right_way T c.requires.element.presentation t.k t.j t.i n.0 n.1 n.2 n.3
    ∙ ap (λ (o : Overlap). right_way Y (overlap_of o)) (sym t.is))

pub returns-in-Left-clause-collected : goal.returns-in-Left-clause-collected
returns-in-Left-clause-collected g c =
    let T = c.args.pcp.now in
    let Y = rowed_presentation T in
    let t = c.in-Left in
    let n = subst (AreOverlapNumbers T.presentation.rank) t.is c.requires.overlap in
    let prime : c.value-prime.result ≡ c.args.pcp.now.presentation.prime = c.value-prime.ensures.value ∙ c.prime.ensures in
    let word : c.power-in-Left.result ∷ c.power-in-Left-2.result ∷ c.power-in-Left-3.result ∷ []
    ≡ syllable c.in-Left.j (c.value-prime.result - 1) ∷ syllable c.in-Left.i 1 ∷ syllable c.in-Left.j 1 ∷ [] = cc in
    c.collect_with_side-in-Left.ensures.collected
    ∙ ap (λ (d : Configuration). with_state c.args.at.now (push_configuration Y (g.C.Collect.meaning Y) (identity Y T.presentation.rank) d))
    (ap (λ (w : List Syllable). before_side T w (Commutator t.j t.i)) word
    ∙ ap (λ (p : ℕ). before_side T (syllable t.j (p - 1) ∷ syllable t.i 1 ∷ syllable t.j 1 ∷ []) (Commutator t.j t.i)) prime
    ∙ left-right_way T c.requires.element.presentation t.j t.i n.0 n.1 n.2
    ∙ ap (λ (o : Overlap). right_way Y (overlap_of o)) (sym t.is))
