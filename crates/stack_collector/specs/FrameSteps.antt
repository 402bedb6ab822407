-- Steps of a frame, which change it and the element: what it still owes then gives what it gave before.
use Rattle.std.specs.Prelude.{◌≡◌, ◌<◌, ◌≤◌, ◌-◌, ℕ}
use Rattle.pc_presentation.specs.Pcp.{TailedPresentation}
use Rattle.pc_presentation.specs.Collection.{plain_push}
use Rattle.pc_presentation.specs.Tailed.{Element, rowed_presentation, IsElement, with_state}
use Rattle.stack_collector.specs.declared.frame.Frame.{Frame}
use Rattle.stack_collector.specs.declared.steps.Progress.{Progress}
use Rattle.stack_collector.specs.declared.steps.Progress.TheVariants.{Within, Push, Done}
use Rattle.stack_collector.specs.Frames.{finished, IsFrame, effort}

-- the frame owes the same as before, on each element
pub record GoesOn (T : TailedPresentation) (f g : Frame) : Type 0 where
  pub frame : IsFrame T g
  pub generator : g.generator ≡ f.generator
  pub same : (e : Element) → finished T g e ≡ finished T f e
  pub less : effort T g < effort T f

-- something of what the frame f owes is done at the element
pub record IsWithin (T : TailedPresentation) (f : Frame) (e : Element) (f' : Frame) (e' : Element) : Type 0 where
  pub element : IsElement T e'
  pub frame : IsFrame T f'
  pub generator : f'.generator ≡ f.generator
  pub same : finished T f' e' ≡ finished T f e
  pub less : effort T f' < effort T f

-- a copy of generator k is to be pushed, and then what f' owes
pub record IsPush (T : TailedPresentation) (f : Frame) (e : Element) (k : ℕ) (f' : Frame) (e' : Element) : Type 0 where
  pub element : IsElement T e'
  pub frame : IsFrame T f'
  pub generator : f'.generator ≡ f.generator
  pub later : f.generator < k
  pub in_range : k ≤ T.presentation.rank
  pub same : finished T f' (with_state e' (plain_push (rowed_presentation T) e'.state (k - 1))) ≡ finished T f e
  pub less : effort T f' < effort T f

-- nothing is left
pub record IsDone (T : TailedPresentation) (f : Frame) (e e' : Element) : Type 0 where
  pub element : IsElement T e'
  pub done : e' ≡ finished T f e

-- what a step has made
abbrev pub IsStep : TailedPresentation → Frame → Element → Progress → Frame → Element → Type 0
IsStep T f e Within f' e' = IsWithin T f e f' e'
IsStep T f e (Push k) f' e' = IsPush T f e k f' e'
IsStep T f e Done f' e' = IsDone T f e e'
