-- What a run leaves for its report: the rows of its calls and endpoints, and all of it.
use Rattle.std.specs.Prelude.{ℕ, ◌≡◌, ◌-◌, ◌^◌, min, List, length, map, take}
use Rattle.usb_scene.specs.declared.scene.Scene.{Scene}
use Rattle.usb_scene.specs.Operation.{operation_of}
use Rattle.usb_trace.specs.declared.rows.CallMade.{CallMade}
use Rattle.usb_trace.specs.declared.received.Received.{Received}
use Rattle.usb_trace.specs.declared.received.EndReceived.{EndReceived}
use Rattle.usb_trace.specs.declared.rows.RunOutcome.{RunOutcome}
use Rattle.usb_prepare.specs.Ends.{ends_of, shape_at}
use Rattle.usb_prepare.specs.Below.{below}
use Rattle.usb_prepare.specs.Prepared.{found_of, probes_of}
use Rattle.usb_trace.specs.Run.{CallRecord, Giveback, drivers_told}
use Rattle.usb_trace.specs.GivebackRow.{giveback_row, acked_at}

-- what is kept of a call that was made
abbrev pub made_of : CallRecord → CallMade
made_of d = record { thread = d.thread; line = d.call.line; operation = operation_of d.call; target = d.call.target; answer = d.answer }

-- how many bytes these are, and the first 64
abbrev pub received_of : List ℕ → Received
received_of bytes = record { count = min (length bytes) (2 ^ 64 - 1); first = take 64 bytes }

-- what endpoint e acknowledged in these givebacks
abbrev pub end_of : Scene → List Giveback → ℕ → EndReceived
end_of s rounds e = record { shape = shape_at s e; received = received_of (acked_at s e rounds) }

-- what a run with these calls and givebacks leaves for its report
abbrev pub outcome_of : Scene → List CallRecord → List Giveback → RunOutcome
outcome_of s call_records rounds = record {
  found = found_of s;
  board = (probes_of s).board;
  made = map made_of call_records;
  given = map (giveback_row s) rounds;
  told = drivers_told s rounds;
  ends = map (end_of s rounds) (below (ends_of s));
}
