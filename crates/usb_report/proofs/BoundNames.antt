-- The name of a driver's URB, binding by binding.
use Rattle.std.proofs.Common.{ℕ, ◌≡◌, ◌+◌, ◌<◌, List, length, get_or, drop, Option, Some, None, ap, ◌∙◌}
use Rattle.std.specs.Option.{option_map_or}
use Rattle.std.proofs.lemmas.List.{at_drop_more}
use Rattle.usb_types.specs.declared.urb.Role.{Role}
use Rattle.usb_bind.specs.declared.bound.Bound.{Bound}
use Rattle.usb_scene.specs.declared.scene.Scene.{Scene}
use Rattle.usb_class.specs.Roles.{role_in}
use Rattle.usb_report.specs.Names.{role_name, bound_name}

module _ (s : Scene) (u : ℕ) (bindings : List Bound) (i : ℕ) (b : Bound) where
  step : i < length bindings → (o : Option Role) → role_in u (get_or bindings i b) ≡ o
      → bound_name s u (drop i bindings) ≡ option_map_or (role_name s (get_or bindings i b).device (get_or bindings i b).interface) o (bound_name s u (drop (i + 1) bindings))
  step l o is = at_drop_more (bound_name s u) bindings i b l
      ∙ ap (λ o. option_map_or (role_name s (get_or bindings i b).device (get_or bindings i b).interface) o (bound_name s u (drop (i + 1) bindings))) is

  -- a binding that does not have it is passed over
  pub bound_next : i < length bindings → role_in u (get_or bindings i b) ≡ None → bound_name s u (drop i bindings) ≡ bound_name s u (drop (i + 1) bindings)
  bound_next l is = step l None is

  -- the first binding that has it gives its name
  pub bound_here : (role : Role) → i < length bindings → role_in u (get_or bindings i b) ≡ Some role
      → bound_name s u (drop i bindings) ≡ role_name s (get_or bindings i b).device (get_or bindings i b).interface role
  bound_here role l is = step l (Some role) is
