use Rattle.std.proofs.Common.{◌≡◌, ◌<◌, ◌-◌, ◌^◌, ℕ, List, All, length, map, sym, subst}
use Rattle.pq_base.specs.LPresentation.{LPresentation}
use Rattle.pq_base.specs.Name.{IsName}
use Rattle.lpres_reader.specs.CanonicalText.{canonical_text}
use Rattle.lpres_reader.specs.Reads.{Reads}
use Rattle.lpres_reader.proofs.canonical_texts.CanonicalLengths.{canonical_texts_are_short}
use Rattle.lpres_reader.proofs.canonical_texts.CanonicalReads.{canonical_texts_read_back}
use Rattle.lpres_reader.proofs.canonical_texts.WrittenLines.{canonical_text-written}
use Rattle.lpres_reader.proofs.canonical.write.Goals as goal

pub returns : goal.returns
returns c =
    let L : LPresentation = c.args.pres.now in
    let are : All IsName L.names = c.names-names.ensures.each in
    let is : c.push_endos.new.out.items ≡ canonical_text L =
    canonical_text-written L c.new-out.result.items c.push_generators.new.out.items c.push_relators.new.out.items
    c.push_relators-2.new.out.items c.push_endos.new.out.items
    c.names-names.result.now c.fixed.result.now c.iterated.result.now (map (λ f. f.items) c.endos.result.now)
    c.names-names.ensures.names c.fixed.ensures c.iterated.ensures c.endos.ensures
    c.new-out.ensures.items c.in_ok-push_generators.ensures c.in_ok-push_relators.ensures c.in_ok-push_relators-2.ensures
    c.in_ok-push_endos.ensures in
    record {
      text = is;
      reads = subst (λ (t : List ℕ). Reads t L) (sym is)
          (canonical_texts_read_back L are c.names-names.ensures.presentation c.names-names.ensures.limits);
      short = subst (λ (t : List ℕ). length t < 2 ^ 32 - 1) (sym is)
          (canonical_texts_are_short L are c.names-names.ensures.presentation c.names-names.ensures.limits);
    }
