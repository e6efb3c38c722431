-- A host that was just made, and a new controller.
use Rattle.std.proofs.Common.{◌≡◌, ℕ, [], length, All, Some, sym, ap, ◌∙◌, subst, arith}
use Rattle.std.specs.Prelude.{slice_get}
use Rattle.usb_machine.specs.declared.entry.TheConstants.{SERVER}
use Rattle.usb_machine.specs.declared.layout.Layout.{Layout}
use Rattle.usb_machine.specs.History.{Machine, pending_of}
use Rattle.usb_machine.specs.Replay.{machine_for}
use Rattle.usb_machine.specs.Fresh.{Known}
use Rattle.usb_machine.specs.Tokens.{unused}
use Rattle.usb_serve.specs.declared.controller.EndRow.{EndRow}
use Rattle.usb_serve.specs.declared.controller.Controller.{Controller}
use Rattle.usb_serve.specs.Held.{Agrees, HasLayout, IsHeld, IsNew, held_at, held_in, urbs_in, after_first}
use Rattle.usb_side.specs.Side.{side_knows}

pub begins : {D : Type 0} (g : Machine) (layout : Layout) (passes given : ℕ) (p : Known) (P : Type 0) (X : ℕ → Type 0) (c : Controller D) → g ≡ machine_for layout passes → p ≡ unused SERVER → P
    → HasLayout layout (length c.devices.items) c.ends.items → ((e : ℕ) → held_at c.ends.items e ≡ []) → Agrees (side_knows g p given P X) c
begins g layout passes given p P X c is new whole there empty = record {
  whole = whole;
  layout = subst (λ (m : Machine). HasLayout m.layout (length c.devices.items) c.ends.items) (sym is) there;
  holds = record {
    urbs = λ e below. ap urbs_in (empty e) ∙ sym (ap (λ (k : Known). pending_of g k.mine e) new);
    each = λ e row at. subst (All (IsHeld (side_knows g p given P X) row.shape)) (sym (items e row at)) (λ i d lt. absurd (omega arith));
    fresh = λ e row at. subst (λ (hs : _). All (IsNew (side_knows g p given P X)) (after_first hs)) (sym (items e row at)) (λ i d lt. absurd (omega arith));
  };
}
  where
    items : (e : ℕ) (row : EndRow) → slice_get c.ends.items e ≡ Some row → row.held.items ≡ []
    items e row at = ap held_in (sym at) ∙ empty e
