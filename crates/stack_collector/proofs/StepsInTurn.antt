-- Steps of a frame one after the other are a step, and what was done so far leads to the same end.
use Rattle.std.proofs.Common.{◌≤◌, refl, ◌∙◌, arith, ◌≡◌}
use Rattle.pc_presentation.specs.Pcp.{TailedPresentation}
use Rattle.pc_presentation.specs.Tailed.{Element, IsElement}
use Rattle.stack_collector.specs.declared.frame.Frame.{Frame}
use Rattle.stack_collector.specs.declared.steps.Progress.{Progress}
use Rattle.stack_collector.specs.declared.steps.Progress.TheVariants.{Within, Push, Done}
use Rattle.stack_collector.specs.Frames.{finished, IsFrame, effort}
use Rattle.stack_collector.specs.FrameSteps.{GoesOn, IsWithin, IsStep}
use Rattle.stack_collector.proofs.FrameLaws.{within-alone}

-- something of what the frame f owes is done at the element, or nothing
pub record LeadsTo (T : TailedPresentation) (f : Frame) (e : Element) (f' : Frame) (e' : Element) : Type 0 where
  pub element : IsElement T e'
  pub frame : IsFrame T f'
  pub generator : f'.generator ≡ f.generator
  pub same : finished T f' e' ≡ finished T f e
  pub less : effort T f' ≤ effort T f

module _ (T : TailedPresentation) (f f1 : Frame) (e e1 : Element) where
  pub leads-nowhere : IsElement T e → IsFrame T f → LeadsTo T f e f e
  leads-nowhere element frame = record { element = element; frame = frame; generator = refl; same = refl; less = omega arith }

  within-leads : IsWithin T f e f1 e1 → LeadsTo T f e f1 e1
  within-leads w =
      let less = w.less in
      record { element = w.element; frame = w.frame; generator = w.generator; same = w.same; less = omega arith }

  pub leads-within : (f2 : Frame) (e2 : Element) → LeadsTo T f e f1 e1 → IsWithin T f1 e1 f2 e2 → LeadsTo T f e f2 e2
  leads-within f2 e2 w s =
      let first = w.less in
      let second = s.less in
      record { element = s.element; frame = s.frame; generator = s.generator ∙ w.generator; same = s.same ∙ w.same; less = omega arith }

  pub leads-step : (r : Progress) (f2 : Frame) (e2 : Element) → LeadsTo T f e f1 e1 → IsStep T f1 e1 r f2 e2 → IsStep T f e r f2 e2
  leads-step Within f2 e2 w s =
      let first = w.less in
      let second = s.less in
      record { element = s.element; frame = s.frame; generator = s.generator ∙ w.generator; same = s.same ∙ w.same; less = omega arith }
  leads-step (Push k) f2 e2 w s =
      let first = w.less in
      let second = s.less in
      let generator = w.generator in
      let later = s.later in
      record {
        element = s.element;
        frame = s.frame;
        generator = s.generator ∙ w.generator;
        later = omega arith;
        in_range = s.in_range;
        same = s.same ∙ w.same;
        less = omega arith;
      }
  leads-step Done f2 e2 w s = record { element = s.element; done = s.done ∙ w.same }

  pub within-step : (r : Progress) (f2 : Frame) (e2 : Element) → IsWithin T f e f1 e1 → IsStep T f1 e1 r f2 e2 → IsStep T f e r f2 e2
  within-step r f2 e2 w s = leads-step r f2 e2 (within-leads w) s

pub going-step : (T : TailedPresentation) (f f1 f2 : Frame) (e e2 : Element) (r : Progress) → IsElement T e → GoesOn T f f1
    → IsStep T f1 e r f2 e2 → IsStep T f e r f2 e2
going-step T f f1 f2 e e2 r element g s = within-step T f f1 e e r f2 e2 (within-alone T f f1 e element g) s
