-- Stacks of frames, the first at the bottom. Generators rise from each to the next.
use Rattle.std.specs.Prelude.{◌≡◌, ◌<◌, ◌≤◌, ◌-◌, ◌+◌, ◌*◌, ℕ, zero, suc, List, [], ◌∷◌}
use Rattle.pc_presentation.specs.Pcp.{TailedPresentation}
use Rattle.pc_presentation.specs.Tailed.{Element, IsElement}
use Rattle.stack_collector.specs.declared.frame.Frame.{Frame}
use Rattle.stack_collector.specs.Frames.{finished, IsFrame, effort}

-- what contracts see of the collector: its frames, and how many there is room for
pub record Frames : Type 0 where
  pub frames : List Frame
  pub room : ℕ

-- there is no frame, and room for those of n generators and one below all
pub record IsReady (w : Frames) (n : ℕ) : Type 0 where
  pub none : w.frames ≡ []
  pub room : suc n ≤ w.room

-- frames with rising generators, from a on and before g
abbrev pub AreRising : TailedPresentation → ℕ → List Frame → ℕ → Type 0
AreRising T a [] g = a ≤ g
AreRising T a (f ∷ fs) g = IsFrame T f × (a ≤ f.generator) × AreRising T (suc f.generator) fs g

-- what becomes of an element once all that the frames owe is pushed on it, from the last frame on
abbrev pub all_finished : TailedPresentation → List Frame → Element → Element
all_finished T [] e = e
all_finished T (f ∷ fs) e = finished T f (all_finished T fs e)

-- the last of the frames works at an element
pub record IsRunning (T : TailedPresentation) (w : Frames) (e : Element) : Type 0 where
  pub element : IsElement T e
  pub rising : AreRising T 0 w.frames (suc T.presentation.rank)
  pub room : suc T.presentation.rank ≤ w.room

-- a frame counts more than all that later generators can owe
abbrev pub scale : ℕ → ℕ
scale zero = 1
scale (suc n) = 1000000000 * scale n

abbrev pub work_of : TailedPresentation → Frame → ℕ
work_of T f = effort T f * scale (101 - f.generator)

-- a number that falls with each step
abbrev pub work : TailedPresentation → List Frame → ℕ
work T [] = 0
work T (f ∷ fs) = work_of T f + work T fs

-- the work goes on, to the same end
pub record Continues (T : TailedPresentation) (w : Frames) (e : Element) (w' : Frames) (e' : Element) : Type 0 where
  pub running : IsRunning T w' e'
  pub same : all_finished T w'.frames e' ≡ all_finished T w.frames e
  pub less : work T w'.frames < work T w.frames

-- the end is reached
pub record HasEnded (T : TailedPresentation) (w : Frames) (e : Element) (w' : Frames) (e' : Element) : Type 0 where
  pub ready : IsReady w' T.presentation.rank
  pub element : IsElement T e'
  pub same : e' ≡ all_finished T w.frames e
