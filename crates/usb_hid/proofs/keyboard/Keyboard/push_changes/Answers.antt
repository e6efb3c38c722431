use Rattle.std.proofs.Common.{◌≡◌, ◌++◌, ap, ◌∙◌}
use Rattle.usb_hid.specs.Changes.{modifier_changes}
use Rattle.usb_hid.specs.Keyboard.{KeyboardState}
use Rattle.usb_hid.proofs.Standing.{grown_more}
use Rattle.usb_hid.proofs.keyboard.Keyboard.push_changes.Goals as goal

pub returns-clause-grown : goal.returns-clause-grown
returns-clause-grown c =
    let e : c.push_modifiers.new.events.items ≡ c.args.self.now.events ++ modifier_changes c.args.self.now.modifiers c.args.modifiers
    = c.in_ok-push_modifiers.ensures.ok ∙ ap (λ (k : KeyboardState). k.events ++ modifier_changes k.modifiers c.args.modifiers) c.self.view_is in
    grown_more c.push_codes.result c.args.self.now.events c.push_modifiers.new.events.items c.push_codes.new.events.items
    (modifier_changes c.args.self.now.modifiers c.args.modifiers) e c.push_codes.ensures.err
