use Rattle.std.proofs.Common.{ap, ◌∙◌}
use Rattle.usb_scene.specs.WellFormed.{held_on}
use Rattle.usb_scene.specs.Rules.{SoFar, calls_of, last_thread}
use Rattle.usb_scene.proofs.draft.Draft.held_now.Goals as goal

pub returns : goal.returns
returns c =
    c.held.ensures
    ∙ c.self.invariant.rejects.each c.urb_target.result
    ∙ ap (λ (s : SoFar). held_on c.urb_target.result (calls_of (last_thread s.scene))) c.self.view_is
    ∙ ap (λ urb. held_on urb (calls_of (last_thread c.args.self.now.scene))) c.urb_target.ensures
