use Rattle.std.proofs.Common.{◌≡◌, ℕ, ◌+◌, ◌<◌, get_or}
use Rattle.pc_presentation.specs.declared.definition.Definition.{Definition}
use Rattle.pc_presentation.specs.Parts.{words_of, IsDefined}
use Rattle.pc_presentation.proofs.parts.are_defined.Given as goal

-- the generators so far are defined
abbrev pub invariant-loop-definition : goal.invariant-loop-definition
invariant-loop-definition l = record {
  count : l.generator ≡ l.definition-index;
  defined : (k : ℕ) (d : Definition) → k < l.definition-index → IsDefined l.pcp (words_of l.images) (k + 1) (get_or l.definitions k d);
}
