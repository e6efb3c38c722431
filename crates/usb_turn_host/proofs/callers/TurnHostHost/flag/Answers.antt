use Rattle.std.proofs.Common.{true, false, None, refl, ap, ◌∙◌, get_or}
use Rattle.usb_machine.specs.declared.event.Event.TheVariants.{Flag}
use Rattle.usb_machine.specs.State.{no_flags}
use Rattle.usb_machine.specs.Calls.{entry}
use Rattle.usb_turn_host.specs.Setup.{setup_of}
use Rattle.usb_turn_host.specs.Stock.{machine_of}
use Rattle.usb_turn_host.specs.Turning.{known_of}
use Rattle.usb_turn_host.proofs.Hubs.{stored, whole_set}
use Rattle.usb_turn_host.proofs.callers.TurnHostHost.flag.Goals as goal

pub make-requires-clause-may : goal.make-requires-clause-may
make-requires-clause-may g c h later =
    let hub = c.args.hub.now in
    let u = c.args.urb.0 in
    ((c.requires.whole.number, stored (machine_of (setup_of c.args.self.now.turns)) (known_of hub.pass) u c.args.flag false (get_or hub.flags.items u no_flags) c.requires.whole.number (c.requires.whole.flags_are u c.requires.urb) c.requires.unset h later), tt)

pub returns-clause-whole : goal.returns-clause-whole
returns-clause-whole g c =
    let hub = c.args.hub.now in
    let p = known_of hub.pass in
    let grown = c.make.ensures.fresh.grown in
    let q = c.set.new.self.pass in
    let same = ap known_of c.set.ensures.pass in
    whole_set (machine_of (setup_of c.args.self.now.turns)) p (known_of q) c.args.urb.0 c.args.flag true (entry p.number (Flag c.args.urb c.args.flag) c.make.result None) hub.flags.items c.set.new.self.flags.items
    (λ w. refl) (λ d. refl) (ap (λ z. z.number) same ∙ grown.number) (ap (λ z. z.mine) same ∙ grown.mine) c.set.ensures.flags c.requires.urb c.requires.whole
