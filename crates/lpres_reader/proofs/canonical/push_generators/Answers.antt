use Rattle.std.proofs.Common.{◌≤◌, List, ℕ, length, drop, drop_of_length-le, arith}
use Rattle.lpres_reader.proofs.canonical_texts.WrittenLines.{generators_line-written}
use Rattle.lpres_reader.proofs.canonical.push_generators.Goals as goal

pub returns : goal.returns
returns c =
    let names : List (List ℕ) = c.args.names.now in
    let all : length names ≤ c.loop-name.name-index = omega (arith, c.loop-name-test.false) in
    generators_line-written c.args.out.now.items c.extend_from_slice.new.self.items c.loop-name.out.items c.push-2.new.self.items names
    (drop c.loop-name.name-index names)
    c.in_ok-extend_from_slice.ensures.items (drop_of_length-le names all) c.loop-name.invariant c.in_ok-push-2.ensures.items
