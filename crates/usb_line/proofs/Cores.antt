-- The cores of drivers know what comes back to them.
use Rattle.std.proofs.Common.{ℕ, ◌≡◌, ◌<◌, Option, Some, None, sym, ◌∙◌, subst}
use Rattle.std.specs.Prelude.{slice_get}
use Rattle.usb_types.specs.declared.urb.Role.TheVariants.{Ctl}
use Rattle.usb_scene.specs.declared.scene.Scene.{Scene}
use Rattle.usb_scene.specs.WellFormed.{IsWellFormed}
use Rattle.usb_prepare.specs.Ends.{ends_of}
use Rattle.usb_prepare.specs.Layout.{urb_count}
use Rattle.usb_prepare.proofs.Facts.{bound_near, home_near}
use Rattle.usb_class.specs.declared.owner.Owner.{Owner}
use Rattle.usb_line.specs.declared.run.UrbRow.{UrbRow}
use Rattle.usb_line.specs.declared.run.LineRun.{LineRun}
use Rattle.usb_trace.specs.Plan.{owner_of}
use Rattle.usb_line.specs.Line.{Progress}
use Rattle.usb_line.specs.Shows.{Shows}
use Rattle.usb_line.specs.Back.{CanAsk}
use Rattle.usb_class.specs.Handlers.{CanNote}
use Rattle.usb_trace.proofs.CoresSeen.{owner_core}
use Rattle.usb_trace.proofs.Owners.{owner_bound, owner_ctl}

-- an URB's core is there
pub row_core : (s : Scene) (f : Progress) (run : LineRun) → Shows s f run → (u : ℕ) (row : UrbRow) → slice_get run.urbs.items u ≡ Some row → CanNote run.cores.items row.owner
row_core s f run old u row at = owner_core s f.rounds run.cores.items old.cores u row.owner (sym (old.each_urb u row at).owner)

module _ (s : Scene) (good : IsWellFormed s) (f : Progress) (run : LineRun) (shows : Shows s f run) where
  -- the URB that the owner's question is asked with is there, and its endpoint
  owner_asks : (u : ℕ) (o : Option Owner) → owner_of s u ≡ o → CanAsk run o
  owner_asks u None is = λ urb has. cc
  owner_asks u (Some o) is = λ urb has.
      let b = owner_bound s u o is in
      let near : urb.0 < urb_count s = (bound_near s good o.place b.0 Ctl urb b.1 (sym (owner_ctl s u o is) ∙ has)).1 in
      let urbs = shows.all_urbs in (
        subst (λ n. urb.0 < n) (sym urbs) near,
        subst (λ n. urb.0 < n) (sym shows.stands.urbs) near,
        λ row at. subst (λ n. row.home < n) (sym shows.all_ends) (subst (λ (e : ℕ). e < ends_of s) (sym (shows.each_urb urb.0 row at).at) (home_near s good urb.0 near)),
      )

  pub row_asks : (u : ℕ) (row : UrbRow) → slice_get run.urbs.items u ≡ Some row → CanAsk run row.owner
  row_asks u row at = owner_asks u row.owner (sym (shows.each_urb u row at).owner)
