use Rattle.std.proofs.Common.{◌↔◌, ◌<◌, ℕ, IsTrue, List, ℤ, [], get_or, length, sym, subst, arith}
use Rattle.pq_base.specs.SignedWord.{sub}
use Rattle.pq_base.specs.Joined.{Joined}
use Rattle.pq_base.proofs.words.JoinedLaws.{joined-from_equal}
use Rattle.pc_presentation.specs.Rowed.{flat}
use Rattle.pc_presentation.specs.Syllable.{AreGenerators}
use Rattle.pc_presentation.specs.Tailed.{rowed_presentation}
use Rattle.cert_checker.specs.MapWords.{words_of}
use Rattle.cert_checker.proofs.words.DefinitionWords.{words_of-read}
use Rattle.cert_checker.proofs.words.RelationWords.{sides-decided}
use Rattle.cert_checker.proofs.words.ImageWords.{image-letters, image-generators}
use Rattle.cert_checker.proofs.maps.carries_image.Goals as goal

pub multiply_out-requires-clause-generators : goal.multiply_out-requires-clause-generators
multiply_out-requires-clause-generators c =
    subst (λ (n : ℕ). AreGenerators n c.image.result.now) (sym c.requires.count)
    (image-generators c.args.from.now c.pcp-from.ensures.answer c.args.i c.requires.in_range c.image.result.now c.image.ensures)

pub returns-clause-carried : goal.returns-clause-carried
returns-clause-carried c =
    let T = c.args.pcp.now in
    let G = words_of T c.args.elements.now in
    let F = words_of T c.args.given.now in
    let within : c.args.i < length c.args.given.now = omega (arith, c.requires.in_range, c.requires.given_count) in
    subst (λ (w : List ℤ). IsTrue c.are_joined.result ↔ Joined (flat (rowed_presentation T)) (sub w G) (get_or F c.args.i []))
    (image-letters c.args.from.now c.pcp-from.ensures.answer c.args.i c.requires.in_range c.image.result.now c.image.ensures)
    (sides-decided (rowed_presentation T) c.are_joined.result c.multiply_out.ensures.value.joined
    (joined-from_equal (flat (rowed_presentation T))
    (sym (words_of-read T c.args.given.now c.args.i c.index-given-i.result within c.index-given-i.is)))
    c.are_joined.ensures)
