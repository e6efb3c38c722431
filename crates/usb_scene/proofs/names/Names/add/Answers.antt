use Rattle.std.proofs.Common.{Some}
use Rattle.usb_scene.proofs.Naming.{named_more}
use Rattle.usb_scene.proofs.names.Names.add.Goals as goal

pub returns : goal.returns
returns c = λ other. rw (← c.in_ok-key.ensures) (named_more c.in_ok-key.key.items c.args.self.now.numbers c.insert.new.self (Some c.args.number) c.in-Ok.ensures.updates other)
