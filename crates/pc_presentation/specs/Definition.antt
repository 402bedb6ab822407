-- Images and relations, as definitions of generators and as sources of tails: as the program has them, and as answers have them.
use Rattle.pc_presentation.specs.declared.definition.Definition.{Definition}
use Rattle.pc_presentation.specs.declared.definition.Definition.TheVariants.{Image, Commutator, Power}
use Rattle.pq_base.specs.Answer.{Definition as Source}
use Rattle.pq_base.specs.Answer.Definition.{image, commutator, power}

abbrev pub definition_of : Definition → Source
definition_of (Image i) = image i
definition_of (Commutator j i) = commutator j i
definition_of (Power i) = power i
