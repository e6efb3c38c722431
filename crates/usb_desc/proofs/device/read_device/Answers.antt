use Rattle.std.proofs.Common.{sym, ap, ◌∙◌, arith}
use Rattle.usb_desc.specs.Device.{device_of}
use Rattle.usb_desc.proofs.Words.{each_byte}
use Rattle.usb_desc.proofs.Devices.{device_again}
use Rattle.usb_desc.proofs.Answered.{device_is_found, device_fault}
use Rattle.usb_desc.proofs.device.read_device.Goals as goal

pub returns-clause-found : goal.returns-clause-found
returns-clause-found c = device_is_found c.args.bytes.now c.device_of.result (each_byte c.args.bytes.now (λ i. omega (arith, c.type_inv.bytes i))) c.device_of.ensures

pub returns-clause-only : goal.returns-clause-only
returns-clause-only c = λ d good e. c.device_of.ensures ∙ ap device_of (sym e) ∙ device_again d good

pub returns-clause-fault : goal.returns-clause-fault
returns-clause-fault c = device_fault c.args.bytes.now c.device_of.result c.device_of.ensures
