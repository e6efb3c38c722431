use Rattle.std.proofs.Common.{◌<◌, List, sym, ap, ◌∙◌, subst, arith}
use Rattle.std.specs.Prelude.{vec_capacity}
use Rattle.usb_bind.specs.Board.{BoardValue, HoldsBindings, MayJoin, with_binding}
use Rattle.usb_bind.proofs.Bindings.{joined, has_room}
use Rattle.usb_bind.specs.declared.bound.Bound.{Bound}
use Rattle.usb_bind.proofs.board.Board.add.Goals as goal

pub invariant_of-self : goal.invariant_of-self
invariant_of-self c =
    let devices = c.self.inside.devices in
    let firsts = c.self.inside.firsts in
    let board : BoardValue = record { devices = devices; firsts = firsts; bindings = c.self.inside.bindings.items } in
    let may : MayJoin board c.args.bound = subst (λ (b : BoardValue). MayJoin b c.args.bound) (sym c.self.view_is) c.requires in
    let byte : c.args.bound.interface < 256 = omega arith in
    let room = has_room board c.args.bound (vec_capacity c.self.inside.bindings) c.self.invariant may byte in
    let ok = c.push.ensures.succeeds (omega (arith, room)) in
    let items = rw ok at c.push.ensures.items in
    let P : List Bound → Type 0 = λ bs. HoldsBindings (record { devices = devices; firsts = firsts; bindings = bs }) (vec_capacity c.push.new.self) in
    subst P (sym items) (joined board c.args.bound (vec_capacity c.self.inside.bindings) (vec_capacity c.push.new.self) c.self.invariant may byte c.push.ensures.capacity)

pub returns : goal.returns
returns c =
    let board : BoardValue = record { devices = c.self.inside.devices; firsts = c.self.inside.firsts; bindings = c.self.inside.bindings.items } in
    let may : MayJoin board c.args.bound = subst (λ (b : BoardValue). MayJoin b c.args.bound) (sym c.self.view_is) c.requires in
    let byte : c.args.bound.interface < 256 = omega arith in
    let room = has_room board c.args.bound (vec_capacity c.self.inside.bindings) c.self.invariant may byte in
    let ok = c.push.ensures.succeeds (omega (arith, room)) in
    let items = rw ok at c.push.ensures.items in
    ap (λ (bs : List Bound). let b : BoardValue = record { devices = c.self.inside.devices; firsts = c.self.inside.firsts; bindings = bs } in b) items
    ∙ ap (λ (b : BoardValue). with_binding b c.args.bound) c.self.view_is
