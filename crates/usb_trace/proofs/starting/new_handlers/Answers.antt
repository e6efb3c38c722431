use Rattle.std.proofs.Common.{ℕ, ◌≡◌, List, length, ap, ◌∙◌, subst, arith}
use Rattle.usb_bind.specs.declared.bound.Bound.{Bound}
use Rattle.usb_class.specs.declared.handlers.Handlers.{Handlers}
use Rattle.usb_prepare.specs.Layout.{urb_count}
use Rattle.usb_prepare.specs.Prepared.{bindings_of}
use Rattle.usb_prepare.proofs.Below.{length-map_below}
use Rattle.usb_prepare.proofs.Facts.{few_urbs}
use Rattle.usb_trace.specs.Plan.{owner_of}
use Rattle.usb_trace.specs.NewCores.{AreNewCores}
use Rattle.usb_trace.proofs.NewCoresShown.{handlers_new}
use Rattle.usb_trace.proofs.starting.new_handlers.Goals as goal

pub new_cores-requires : goal.new_cores-requires
new_cores-requires c =
    let s = c.args.scene.now in
    let few = few_urbs s c.requires.good in
    let long = ap (λ (l : _). length l) c.requires.owners ∙ length-map_below (owner_of s) (urb_count s) in
    omega arith

pub returns : goal.returns
returns c =
    let s = c.args.scene.now in let cores = c.in_ok-cores.cores.items in
    let one = subst (λ (b : List Bound). AreNewCores c.args.owners.now b c.args.ids.now cores) c.requires.bindings c.in_ok-cores.ensures in
    let new = subst (λ (i : List (List ℕ)). AreNewCores c.args.owners.now (bindings_of s) i cores) c.requires.ids one in
    handlers_new s c.requires.good c.args.owners.now c.requires.owners cores new c.new.result
    (ap (λ (h : Handlers). h.cores.items) c.new.ensures) (ap (λ (h : Handlers). h.urbs.items) c.new.ensures ∙ c.in_ok-urbs.ensures)
