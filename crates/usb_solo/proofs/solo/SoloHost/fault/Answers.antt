use Rattle.std.proofs.Common.{◌≡◌, ◌<◌, List, Some, None, length, slice_get, get_or, subst, sym, ap, ◌∙◌, rules}
use Rattle.std.proofs.lemmas.Option.{slice_get-get_or}
use Rattle.usb_machine.specs.declared.layout.Shape.{Shape}
use Rattle.usb_machine.specs.History.{or_zero}
use Rattle.usb_machine.specs.Shapes as shapes
use Rattle.usb_machine.specs.HostCalls.{fault_at}
use Rattle.usb_turn_host.proofs.Homes.{home_at}
use Rattle.usb_solo.proofs.solo.SoloHost.fault.Goals as goal

pub bounds-items-ep : goal.bounds-items-ep
bounds-items-ep c =
    let layout = c.args.self.now.layout in
    let is = ap (λ l. get_or l c.args.urb.0 None) (sym c.items.ensures) ∙ c.in-Some.is in
    subst (λ (l : List Shape). c.in-Some.ep < length l) (sym c.items-in-Some.ensures) (c.args.self.now.homed c.args.urb.0 c.in-Some.ep (home_at layout.homes c.args.urb.0 c.in-Some.ep is))

pub returns-in-Some : goal.returns-in-Some
returns-in-Some c =
    let layout = c.args.self.now.layout in
    let u = c.args.urb.0 in
    let ep = c.in-Some.ep in
    let is = ap (λ l. get_or l u None) (sym c.items.ensures) ∙ c.in-Some.is in
    let below = c.args.self.now.homed u ep (home_at layout.homes u ep is) in
    let shape = slice_get-get_or layout.shapes ep _ below in
    c.shape_fault.ensures ∙ (ap (λ (l : List Shape). shapes.shape_fault (get_or l ep _) c.args.t.now) c.items-in-Some.ensures
    ∙ (sym (ap (λ o. fault_at o c.args.t.now) shape)
    ∙ sym (ap (λ o. fault_at (slice_get layout.shapes (or_zero o)) c.args.t.now) is)))
