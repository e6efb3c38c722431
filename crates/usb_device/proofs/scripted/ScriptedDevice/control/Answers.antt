use Rattle.std.proofs.Common.{refl}
use Rattle.usb_xfer.specs.Replies.{Ask}
use Rattle.usb_device.specs.declared.said.Said.TheVariants.{Item, Other, Rules}
use Rattle.usb_device.specs.Rules.{control_rule}
use Rattle.usb_device.proofs.Replying.{answered}
use Rattle.usb_device.proofs.scripted.ScriptedDevice.control.Goals as goal

pub returns-in-Item : goal.returns-in-Item
returns-in-Item c =
    let mid = c.said.new.self in (
      c.in-Item.what.now,
      answered c.args.self.now mid mid c.args.setup c.args.out.now (Item c.in-Item.what) (λ script calls stands. c.in-Item.ensures.asked script calls (Ask c.args.setup c.args.out.now) stands) c.in-Item.ensures.spends refl refl refl refl refl,
      c.heard_control.ensures,
    )

pub returns-in-Other : goal.returns-in-Other
returns-in-Other c =
    let mid = c.said.new.self in (
      c.in-Other.what,
      answered c.args.self.now mid mid c.args.setup c.args.out.now (Other c.in-Other.what) (λ script calls stands. c.in-Other.ensures.asked script calls (Ask c.args.setup c.args.out.now) stands) c.in-Other.ensures.spends refl refl refl refl refl,
      c.heard_control-in-Other.ensures,
    )

pub returns-in-Rules : goal.returns-in-Rules
returns-in-Rules c =
    let mid = c.said.new.self in (
      (control_rule mid.script.now mid.state c.args.setup c.args.out.now).reply,
      answered c.args.self.now mid _ c.args.setup c.args.out.now Rules (λ script calls stands. c.in-Rules.ensures.asked script calls (Ask c.args.setup c.args.out.now) stands) c.in-Rules.ensures.spends refl refl refl refl c.reply.ensures.state,
      c.reply.ensures.heard,
    )
