-- What is known of a pass as a run goes on.
use Rattle.std.specs.Prelude.{ℕ, ◌≡◌, List, []}
use Rattle.usb_machine.specs.declared.entry.Entry.{Entry}
use Rattle.usb_machine.specs.History.{Machine}
use Rattle.usb_machine.specs.Fresh.{Known, Begins, Grown, Sound}
use Rattle.usb_scene.specs.declared.scene.Scene.{Scene}
use Rattle.usb_trace.specs.Plan.{machine_of}

-- a pass went on: these entries are added to its own, and what it has seen is a legal history
pub record WentOn (g : Machine) (p q : Known) (more : List Entry) : Type 0 where
  pub grown : Grown p q more
  pub sound : Sound g q

-- pass n, which made nothing yet, and has seen all that main had seen when it had submitted the reads
pub record IsReady (s : Scene) (read : Known) (n : ℕ) (from : Known) : Type 0 where
  pub number : from.number ≡ n
  pub new : from.mine ≡ []
  pub knows : Begins from.seen read.seen
  pub sound : Sound (machine_of s) from
