use Rattle.std.proofs.Common.{◌≡◌, ◌++◌, take}
use Rattle.usb_report.specs.Numbered.{numbered}
use Rattle.usb_report.specs.Names.{device_name}
use Rattle.usb_report.specs.Listing.{found_text}
use Rattle.usb_report.proofs.listing.push_list.Given as goal

abbrev pub invariant-loop-device : goal.invariant-loop-device
invariant-loop-device l = l.report ≡ l.initial.report ++ numbered (λ d one. found_text (device_name l.scene d) one) 0 (take l.device l.found)
