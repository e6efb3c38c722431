use Rattle.std.proofs.Common.{ℕ, ◌≡◌, Option, List, length, refl, ap, ◌∙◌, subst, arith}
use Rattle.usb_machine.specs.declared.layout.Shape.{Shape}
use Rattle.usb_machine.specs.declared.layout.Layout.{Layout}
use Rattle.usb_bind.specs.declared.bound.Bound.{Bound}
use Rattle.usb_bind.specs.Board.{BoardValue}
use Rattle.usb_class.specs.declared.owner.Owner.{Owner}
use Rattle.usb_prepare.specs.Prepared.{bindings_of}
use Rattle.usb_prepare.specs.Layout.{urb_count}
use Rattle.usb_prepare.proofs.Below.{length-map_below}
use Rattle.usb_prepare.proofs.Facts.{few_urbs}
use Rattle.usb_trace.specs.Plan.{owner_of}
use Rattle.usb_trace.specs.NewCores.{AreNewCores}
use Rattle.usb_trace.proofs.NewCoresShown.{cores_shown}
use Rattle.usb_line.specs.Opened.{AreNewEnds}
use Rattle.usb_line.proofs.Opening.{shows_start}
use Rattle.usb_line.proofs.prepare.started.Goals as goal

pub overflow_cast-homes : goal.overflow_cast-homes
overflow_cast-homes c =
    let s = c.args.scene.now in
    let few = few_urbs s c.requires.good in
    let long : length c.items-homes.result.now ≡ urb_count s = ap (λ (l : List (Option ℕ)). length l) (c.items-homes.ensures ∙ ap (λ (l : Layout). l.homes) c.requires.prepared.layout) in
    omega arith

pub new_cores-requires : goal.new_cores-requires
new_cores-requires c =
    let s = c.args.scene.now in
    let few = few_urbs s c.requires.good in
    let long : length c.deref-2.result.now ≡ urb_count s = ap (λ (l : List (Option Owner)). length l) (c.deref-2.ensures.value ∙ c.in_ok-owners.ensures) ∙ length-map_below (owner_of s) (urb_count s) in
    omega arith

pub returns : goal.returns
returns c =
    let s = c.args.scene.now in
    let p = c.requires.prepared in
    let cores = c.in_ok-cores.cores.items in
    let owners = c.deref-2.result.now in
    let shapes = c.items.ensures ∙ ap (λ (l : Layout). l.shapes) p.layout in
    let bindings = c.bindings.ensures.bindings ∙ ap (λ (b : BoardValue). b.bindings) p.board in
    let ids = c.items-2.ensures ∙ p.ids in
    let one = subst (λ (l : List Bound). AreNewCores owners l c.items-2.result.now cores) bindings c.in_ok-cores.ensures in
    let new = subst (λ (l : List (List ℕ)). AreNewCores owners (bindings_of s) l cores) ids one in
    record {
      run = shows_start s c.requires.good _ c.requires.stands
          (subst (λ (l : List Shape). AreNewEnds l c.in-Ok.ends.items) shapes c.in-Ok.ensures)
          p.devices p.heard c.in-Ok-urb_rows.ensures
          (cores_shown s c.requires.good owners (c.deref-2.ensures.value ∙ c.in_ok-owners.ensures) cores new)
          c.new.ensures.items refl;
      found = p.found;
      board = p.board;
    }
