-- A whole turn.
use Rattle.std.proofs.Common.{ℕ, ◌≡◌, Bool, true, false, not, Option, None, List, [], ◌∷◌, ◌++◌, length, refl, sym, ap, ◌∙◌, subst}
use Rattle.std.specs.Prelude.{slice_get}
use Rattle.usb_machine.specs.declared.entry.Entry.{Entry}
use Rattle.usb_machine.specs.declared.plain.Plain.{Plain}
use Rattle.usb_machine.specs.Plain.{Stands}
use Rattle.usb_scene.specs.declared.scene.Scene.{Scene}
use Rattle.usb_scene.specs.WellFormed.{IsWellFormed}
use Rattle.usb_line.specs.declared.run.LineRun.{LineRun}
use Rattle.usb_prepare.specs.Ends.{ends_of}
use Rattle.usb_trace.specs.Plan.{machine_of}
use Rattle.usb_line.specs.Line.{Progress, takes_below, with_takes, marked_below, marked_of, unlinked, ended}
use Rattle.usb_line.specs.Shows.{Shows, IsShown, Turned}
use Rattle.usb_line.specs.Turned.{GaveUnlinked, EndsServed}
use Rattle.usb_line.proofs.Taken.{shows_taken}

pub not_false : (b : Bool) → not b ≡ false → b ≡ true
not_false true e = refl
not_false false e = cc

none_first : (us : List ℕ) → None ≡ slice_get us 0 → us ≡ []
none_first [] e = refl
none_first (u ∷ us) e = cc

-- the lines were taken, and this URB is the first that was unlinked
module _ (s : Scene) (f : Progress) (run : LineRun) (old : Shows s f run) (plain : Plain) (n : ℕ) (count : n ≡ length run.ends.items)
    (taken : (s : Scene) (h : List Entry) → Stands run.plain (machine_of s) h → Stands plain (machine_of s) (h ++ takes_below s h n)) where
  all : n ≡ ends_of s
  all = count ∙ old.all_ends

  pub stands_taken : Stands plain (machine_of s) (with_takes s f).history
  stands_taken = subst (λ n. Stands plain (machine_of s) (f.history ++ takes_below s f.history n)) all (taken s f.history old.stands)

  pub taken_shown : Shows s (with_takes s f) record run { plain = plain }
  taken_shown = shows_taken s f run old plain stands_taken

  module _ (o : Option ℕ) (first : (s : Scene) (h : List Entry) → Stands plain (machine_of s) h → o ≡ slice_get (marked_below s h n) 0) where
    pub is_first_marked : o ≡ slice_get (marked_of s (with_takes s f).history) 0
    is_first_marked = first s (with_takes s f).history stands_taken ∙ ap (λ n. slice_get (marked_below s (with_takes s f).history n) 0) all

    pub none_marked : o ≡ None → marked_of s (with_takes s f).history ≡ []
    none_marked is = none_first (marked_of s (with_takes s f).history) (sym is ∙ is_first_marked)

pub turned_unlinked : (s : Scene) (f : Progress) (run : LineRun) → GaveUnlinked s (with_takes s f) run → Turned s f true run
turned_unlinked s f run gave = (_, unlinked gave.urb gave.why gave.start gave.is, gave.shows)

pub turned_ends : (s : Scene) (f : Progress) (back : Bool) (run : LineRun) → marked_of s (with_takes s f).history ≡ [] → EndsServed s (with_takes s f) back run → Turned s f back run
turned_ends s f true run none at = let end = at.4 in (_, ended at.0 at.1 end.urb end.start end.count end.code none at.3 at.2 end.awake end.at end.goes, end.shows)
turned_ends s f false run none at = (at.0, record { none = none; passed = at.1 }, at.2)

pub still_shown : (s : Scene) (f : Progress) (back : Bool) (run : LineRun) → IsWellFormed s → Turned s f back run → IsShown run
still_shown s f true run good t = record { scene = s; good = good; far = t.0; shows = t.2 }
still_shown s f false run good t = record { scene = s; good = good; far = t.0; shows = t.2 }
