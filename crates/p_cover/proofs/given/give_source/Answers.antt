use Rattle.std.proofs.Common.{◌≡◌, ◌<◌, ℕ, List, get_or, length, map, ap, ◌∙◌, subst, arith}
use Rattle.std.proofs.lemmas.List.{get_or-map, length-map}
use Rattle.std.proofs.lemmas.Result.{on_ok_weaker}
use Rattle.pq_base.specs.Answer.{Definition as Source}
use Rattle.pq_base.specs.Answer.Definition.{image}
use Rattle.pc_presentation.specs.declared.relation.Relation.TheVariants.{Power as PowerOf, Commutator as CommutatorOf}
use Rattle.pc_presentation.specs.declared.definition.Definition.{Definition}
use Rattle.pc_presentation.specs.declared.definition.Definition.TheVariants.{Commutator, Power, Image}
use Rattle.pc_presentation.specs.Definition.{definition_of}
use Rattle.p_cover.specs.CoverLaws.{IsSource}
use Rattle.p_cover.proofs.GivenLaws.{begun-more, begun-past_image}
use Rattle.p_cover.proofs.given.give_source.Goals as goal

-- what stands at the place
here : (sources : List Definition) (k : ℕ) (s d : Definition) → k < length sources → get_or sources k d ≡ s
    → get_or (map definition_of sources) k (image 0) ≡ definition_of s
here sources k s d l e = get_or-map definition_of sources k d (image 0) l ∙ ap definition_of e

inside : (sources : List Definition) (k : ℕ) → k < length sources → k < length (map definition_of sources)
inside sources k l = omega (arith, length-map sources definition_of)

pub give-requires : goal.give-requires
give-requires c = record {
  relation =
      subst (IsSource c.args.answer.now)
      (here c.args.sources.now c.args.k (Commutator c.in-Commutator.j c.in-Commutator.i) _ c.requires.place c.in-Commutator.is)
      (c.requires.sources c.args.k (image 0) (inside c.args.sources.now c.args.k c.requires.place));
  draft = record { prime = c.requires.begun.faithful.prime; rank = c.requires.begun.faithful.rank };
  tail = (omega arith, omega (arith, c.requires.place, c.requires.begun.faithful.tails, length-map c.args.sources.now definition_of));
}

pub give-requires-in-Power : goal.give-requires-in-Power
give-requires-in-Power c = record {
  relation =
      subst (IsSource c.args.answer.now) (here c.args.sources.now c.args.k (Power c.in-Power.j) _ c.requires.place c.in-Power.is)
      (c.requires.sources c.args.k (image 0) (inside c.args.sources.now c.args.k c.requires.place));
  draft = record { prime = c.requires.begun.faithful.prime; rank = c.requires.begun.faithful.rank };
  tail = (omega arith, omega (arith, c.requires.place, c.requires.begun.faithful.tails, length-map c.args.sources.now definition_of));
}

pub returns-in-Commutator : goal.returns-in-Commutator
returns-in-Commutator c =
    let A = c.args.answer.now in
    let ds : List Source = map definition_of c.args.sources.now in
    let at = here c.args.sources.now c.args.k (Commutator c.in-Commutator.j c.in-Commutator.i) _ c.requires.place c.in-Commutator.is in
    let source : IsSource A (definition_of (Commutator c.in-Commutator.j c.in-Commutator.i)) =
    subst (IsSource A) at (c.requires.sources c.args.k (image 0) (inside c.args.sources.now c.args.k c.requires.place)) in
    on_ok_weaker c.give.result
    (λ g. begun-more A c.pcp-conditions.ensures.answer.presentation ds c.args.builder.now c.give.new.builder c.args.k c.requires.begun
    (inside c.args.sources.now c.args.k c.requires.place) (CommutatorOf c.in-Commutator.j c.in-Commutator.i) at source g)
    c.give.ensures.given

pub returns-in-Power : goal.returns-in-Power
returns-in-Power c =
    let A = c.args.answer.now in
    let ds : List Source = map definition_of c.args.sources.now in
    let at = here c.args.sources.now c.args.k (Power c.in-Power.j) _ c.requires.place c.in-Power.is in
    let source : IsSource A (definition_of (Power c.in-Power.j)) =
    subst (IsSource A) at (c.requires.sources c.args.k (image 0) (inside c.args.sources.now c.args.k c.requires.place)) in
    on_ok_weaker c.give-in-Power.result
    (λ g. begun-more A c.pcp-conditions.ensures.answer.presentation ds c.args.builder.now c.give-in-Power.new.builder c.args.k
    c.requires.begun
    (inside c.args.sources.now c.args.k c.requires.place) (PowerOf c.in-Power.j) at source g)
    c.give-in-Power.ensures.given

pub returns-in-Image : goal.returns-in-Image
returns-in-Image c =
    let A = c.args.answer.now in
    let ds : List Source = map definition_of c.args.sources.now in
    let at = here c.args.sources.now c.args.k (Image c.in-Image.field-0) _ c.requires.place c.in-Image.is in
    begun-past_image A c.pcp-conditions.ensures.answer.presentation ds c.args.builder.now c.args.builder.now c.args.k c.requires.begun
    (inside c.args.sources.now c.args.k c.requires.place) c.in-Image.field-0 at
