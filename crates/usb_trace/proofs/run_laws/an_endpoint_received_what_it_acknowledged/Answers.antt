use Rattle.usb_trace.proofs.Acked.{received_packets, received_windows, replies_of_script}
use Rattle.usb_trace.proofs.run_laws.an_endpoint_received_what_it_acknowledged.Goals as goal

pub returns-clause-packets : goal.returns-clause-packets
returns-clause-packets c = λ s h call_records rounds run e. received_packets s e rounds

pub returns-clause-windows : goal.returns-clause-windows
returns-clause-windows c = λ s h call_records rounds run e is. received_windows s e is rounds

pub returns-clause-replies : goal.returns-clause-replies
returns-clause-replies c = λ s h call_records rounds run e. replies_of_script s e h call_records rounds run
