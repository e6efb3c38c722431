use Rattle.std.proofs.Common.{Bool, not, List, sym, ap, ◌∙◌, subst, arith, rules}
use Rattle.std.proofs.lemmas.Fn.{filter_same}
use Rattle.std.specs.Prelude.{vec_capacity}
use Rattle.usb_bind.specs.declared.bound.Bound.{Bound}
use Rattle.usb_bind.specs.Board.{BoardValue, HoldsBindings, without, is_binding_of}
use Rattle.usb_bind.proofs.Bindings.{kept}
use Rattle.usb_bind.proofs.board.Board.remove.Goals as goal

pub invariant_of-self : goal.invariant_of-self
invariant_of-self c =
    let devices = c.self.inside.devices in
    let firsts = c.self.inside.firsts in
    let old : BoardValue = record { devices = devices; firsts = firsts; bindings = c.self.inside.bindings.items } in
    let keeps : Bound → Bool = λ other. not (is_binding_of c.args.bound.device c.args.bound.interface other) in
    let items = filter_same _ keeps _ (λ x b f r. search rules) _ _ c.retain.ensures.filtered in
    let P : List Bound → Type 0 = λ bs. HoldsBindings (record { devices = devices; firsts = firsts; bindings = bs }) (vec_capacity c.retain.new.self) in
    subst P (sym items) (kept old keeps (vec_capacity c.self.inside.bindings) (vec_capacity c.retain.new.self) c.self.invariant (omega (arith, c.retain.ensures.capacity)))

pub returns : goal.returns
returns c =
    let keeps : Bound → Bool = λ other. not (is_binding_of c.args.bound.device c.args.bound.interface other) in
    let items = filter_same _ keeps _ (λ x b f r. search rules) _ _ c.retain.ensures.filtered in
    ap (λ (bs : List Bound). let b : BoardValue = record { devices = c.self.inside.devices; firsts = c.self.inside.firsts; bindings = bs } in b) items
    ∙ ap (λ (b : BoardValue). without b c.args.bound) c.self.view_is
