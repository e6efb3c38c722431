use Rattle.std.proofs.Common.{rules, refl}
use Rattle.usb_class.proofs.Handled.{kept_same}
use Rattle.usb_class.proofs.handlers.HandlersHandler.complete.Goals as goal

pub returns-clause-urbs : goal.returns-clause-urbs
returns-clause-urbs c = kept_same c.args.self.now.urbs.items c.args.urb.0 c.index_mut.result.now _ (search rules) c.index_mut.ensures.value refl
