-- How far main is with the drivers' reads.
use Rattle.std.specs.Prelude.{ℕ, ◌≡◌, ◌<◌, Option}
use Rattle.std.specs.List.{flat_map}
use Rattle.usb_scene.specs.declared.scene.Scene.{Scene}
use Rattle.usb_scene.specs.WellFormed.{IsWellFormed}
use Rattle.usb_prepare.specs.Below.{below}
use Rattle.usb_prepare.specs.Layout.{urb_count}
use Rattle.usb_class.specs.declared.owner.Owner.{Owner}
use Rattle.usb_line.specs.declared.run.LineRun.{LineRun}
use Rattle.usb_trace.specs.Plan.{owner_of, number_of, main_pass}
use Rattle.usb_trace.specs.Run.{read_entries}
use Rattle.usb_line.specs.Line.{Progress, at_start, adds}
use Rattle.usb_line.specs.Shows.{Shows}

-- the reads of the URBs below n are submitted
abbrev pub read_below : Scene → ℕ → Progress
read_below s n = adds at_start (flat_map (read_entries s) (below n))

-- main may submit the read of URB u next
pub record MayRead (s : Scene) (run : LineRun) (p u : ℕ) (o : Option Owner) (number : ℕ) : Type 0 where
  pub good : IsWellFormed s
  pub shows : Shows s (read_below s u) run
  pub near : u < urb_count s
  pub pass : p ≡ main_pass s
  pub owned : o ≡ owner_of s u
  pub numbered : number ≡ number_of s u

pub record CanRead (run : LineRun) (p u : ℕ) (o : Option Owner) (number : ℕ) : Type 0 where
  pub scene : Scene
  pub may : MayRead scene run p u o number

-- nothing happened yet
pub record MayBegin (s : Scene) (run : LineRun) (p : ℕ) : Type 0 where
  pub good : IsWellFormed s
  pub shows : Shows s at_start run
  pub pass : p ≡ main_pass s

pub record CanBegin (run : LineRun) (p : ℕ) : Type 0 where
  pub scene : Scene
  pub may : MayBegin scene run p
