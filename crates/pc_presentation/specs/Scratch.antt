-- What contracts see of a scratch, and when it was made for a presentation.
use Rattle.pc_presentation.specs.Pcp.{TailedPresentation}
use Rattle.pc_presentation.specs.Tailed.{Element, IsElement}

-- the two elements that readers lend
pub record Workspace : Type 0 where
  pub left : Element
  pub right : Element

-- a scratch that was made for a presentation of this prime, rank and number of tails
pub record IsScratch (T : TailedPresentation) (s : Workspace) : Type 0 where
  pub left : IsElement T s.left
  pub right : IsElement T s.right
