-- A wait for an URB that is stopping ends with the URB quiet.
use Rattle.std.proofs.Common.{ℕ, ◌≡◌, ◌<◌, Bool, true, false, not, ◌&&◌, length, sym, ◌∙◌, eq-eqb, true≢false}
use Rattle.usb_machine.specs.History.{state_of}
use Rattle.usb_scene.specs.declared.scene.Scene.{Scene}
use Rattle.usb_scene.specs.WellFormed.{IsWellFormed}
use Rattle.usb_prepare.specs.Layout.{urb_count}
use Rattle.usb_line.specs.declared.run.LineRun.{LineRun}
use Rattle.usb_line.specs.Line.{Progress, is_quiet, IsIdle, StaysLoud, begins, goes_on}
use Rattle.usb_line.specs.Steps.{IsStopping}
use Rattle.usb_line.specs.Shows.{Shows, IsShown, Turned}
use Rattle.usb_prepare.proofs.Facts.{home_near}
use Rattle.usb_line.proofs.Stopping.{idle_out}

loud_now : (s : Scene) (u : ℕ) (f m : Progress) → StaysLoud s u f m → is_quiet (state_of m.history u) ≡ false
loud_now s u f _ (begins loud) = loud
loud_now s u f _ (goes_on m k before turn loud) = loud

-- while it is not quiet, each turn gives something back
pub never_idle : (s : Scene) → IsWellFormed s → (f m : Progress) (u : ℕ) (run : LineRun) → u < urb_count s → StaysLoud s u f m → Shows s m run → IsStopping (state_of m.history u)
    → (e : Progress) → IsIdle s m e → ⊥
never_idle s good f m u run near loud shows stops e idle =
    let out = idle_out s m e u (home_near s good u near) idle shows.stands.legal shows.linked stops in
    let quiet : is_quiet (state_of m.history u) ≡ true = (λ i. not (out i) && eq-eqb (state_of m.history u).handlers 0 (shows.calm u).handlers i) in
    true≢false (sym quiet ∙ loud_now s u f m loud)

-- a turn leaves as many URBs
pub turned_urbs : (run after : LineRun) (back : Bool) → IsShown run → ((s : Scene) (f : Progress) → IsWellFormed s → Shows s f run → Turned s f back after)
    → length after.urbs.items ≡ length run.urbs.items
turned_urbs run after true shown turned = (turned shown.scene shown.far shown.good shown.shows).2.all_urbs ∙ sym shown.shows.all_urbs
turned_urbs run after false shown turned = (turned shown.scene shown.far shown.good shown.shows).2.all_urbs ∙ sym shown.shows.all_urbs
