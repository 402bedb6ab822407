use Rattle.std.proofs.Common.{subst, sym, ◌≤◌, ℕ}
use Rattle.pq_base.specs.Limits.{max_rank}
use Rattle.pc_presentation.specs.Relation.{triangular}
use Rattle.pc_presentation.proofs.presentations.RelationNumbers.{triangular_half, triangular_limit}
use Rattle.pc_presentation.proofs.relation.triangular.Goals as goal

pub returns-else-n-eq0 : goal.returns-else-n-eq0
returns-else-n-eq0 c = record {
  number = triangular_half c.args.n;
  limit = subst (λ (m : ℕ). m ≤ triangular max_rank) (sym (triangular_half c.args.n)) (triangular_limit c.args.n c.requires);
}
