-- What the only pass of a host is to it.
use Rattle.std.specs.Prelude.{◌≡◌, ℕ, ◌<◌}
use Rattle.usb_machine.specs.History.{Machine}
use Rattle.usb_machine.specs.Parts.{part_of}
use Rattle.usb_machine.specs.Fresh.{Known}
use Rattle.usb_turn_host.specs.Stock.{IsStock, machine_of}
use Rattle.usb_solo.specs.declared.solo.SoloPass.{SoloPass}

abbrev pub known_of : SoloPass → Known
known_of p = record { number = p.number; seen = p.diary; mine = p.diary }

pub record IsSolo (g : Machine) (p : SoloPass) : Type 0 where
  pub stock : IsStock p.stock p.diary
  pub machine : machine_of p.stock.setup ≡ g
  pub below : p.number < g.passes
  pub own : part_of p.diary p.number ≡ p.diary
