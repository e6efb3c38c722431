-- The object before any call.
use Rattle.std.proofs.Common.{ℕ, zero, suc, ◌≡◌, ◌-◌, Bool, true, false, cond, eqb, Some, List, [], ◌∷◌, ◌++◌, refl, subst}
use Rattle.std.specs.Prelude.{slice_get}
use Rattle.usb_xfer.specs.declared.script.DeviceScript.{DeviceScript}
use Rattle.usb_device.specs.declared.scripted.ScriptedEnd.{ScriptedEnd}
use Rattle.usb_device.specs.declared.scripted.Scripted.{Scripted}
use Rattle.usb_device.specs.Items.{items_at}
use Rattle.usb_device.specs.Rules.{first_state}
use Rattle.usb_device.specs.Fresh.{IsFresh}
use Rattle.usb_device.specs.Device.{is_raw, items_used, Stands}
use Rattle.usb_device.proofs.Used.{after_same}

-- each item of a list, and one more
pub each_more : {X : Type 0} (P : X → Type 0) (xs : List X) (y : X) → ((a : ℕ) (x : X) → slice_get xs a ≡ Some x → P x) → P y → (a : ℕ) (x : X) → slice_get (xs ++ y ∷ []) a ≡ Some x → P x
each_more P [] y old new zero x at = let same : y ≡ x = cc in subst P same new
each_more P [] y old new (suc a) x at = cc
each_more P (z ∷ xs) y old new zero x at = old 0 x at
each_more P (z ∷ xs) y old new (suc a) x at = each_more P xs y (λ b w is. old (suc b) w is) new a x at

nothing_used : (script : DeviceScript) (a : ℕ) → 0 ≡ items_used script [] a
nothing_used script a = go (eqb a 0) (is_raw script.kind)
  where
    go : (b r : Bool) → 0 ≡ cond b (cond r 0 (0 - 6)) 0
    go true true = refl
    go true false = refl
    go false r = refl

pub stands_first : (d : Scripted) (script : DeviceScript) → d.script.now ≡ script → d.state ≡ first_state → d.free ≡ cond (is_raw script.kind) 0 6
    → ((a : ℕ) (end : ScriptedEnd) → slice_get d.ends.items a ≡ Some end → IsFresh script.answers end) → Stands d script []
stands_first d script of state free fresh = record {
  of = of;
  state = state;
  placed = record {
    free = free;
    places = λ a end at. after_same end.place a (items_at a script.answers) 0 (items_used script [] a) (nothing_used script a) ((fresh a end at).place a);
  };
  acked = λ a end at. (fresh a end at).acked;
}
