use Rattle.std.proofs.Common.{◌≡◌, ◌+◌, ◌∷◌, [], ℕ, List, length, ap, sym, subst, ◌∙◌, arith}
use Rattle.std.proofs.lemmas.List.{length-append}
use Rattle.cert_text.specs.WrittenNumbers.{AreSmallPairs}
use Rattle.cert_text.proofs.texts.PairsRead.{further_pairs-next, AreSmallPairs-next}
use Rattle.cert_text.proofs.pair_reading.further_pairs.Goals as goal

pub loop-pair-preserved : goal.loop-pair-preserved
loop-pair-preserved c =
    let before : List (ℕ × ℕ) = c.loop-pair.pairs.items in
    let count : length c.push.new.self.items ≡ length before + 1 = ap (λ (xs : List (ℕ × ℕ)). length xs) c.in_ok-push.ensures.items
    ∙ length-append before (c.in-Some.pair ∷ []) in record {
      read =
          further_pairs-next _ c.loop-pair.rest.now c.in-Some.more.now before c.push.new.self.items c.in-Some.pair
          c.in_ok-push.ensures.items c.in-Some.ensures.some
          c.loop-pair.invariant.read;
      small = subst AreSmallPairs (sym c.in_ok-push.ensures.items)
          (AreSmallPairs-next before c.in-Some.pair c.loop-pair.invariant.small c.in-Some.ensures.small);
      stops = c.in-Some.ensures.stops;
      longer = omega (arith, c.loop-pair.invariant.longer);
    }
