-- Examples that the checker computes: what passes claim in a small history, and what a call claimed. The values are worked out by
-- hand: a Claim finds the last transfer that was rested with its URB since the Claim before.
use Rattle.std.proofs.Common.{◌≡◌, ℕ, false, List, [], ◌∷◌, ◌++◌, Option, Some, None, refl}
use Rattle.usb_types.specs.declared.errno.Errno.TheVariants.{EIDRM}
use Rattle.usb_types.specs.declared.errno.Code.TheVariants.{Fault}
use Rattle.usb_machine.specs.declared.entry.Entry.{Entry}
use Rattle.usb_machine.specs.declared.entry.TheConstants.{SERVER}
use Rattle.usb_machine.specs.declared.transfer.Transfer.{Transfer}
use Rattle.usb_machine.specs.Calls.{kill_entries, poison_entries, claims_of}
use Rattle.usb_scene.specs.declared.scene.Target.{Target}
use Rattle.usb_scene.specs.declared.scene.Target.TheVariants as on
use Rattle.usb_trace.specs.declared.rows.CallAnswer.{CallAnswer}
use Rattle.usb_trace.specs.declared.rows.CallAnswer.TheVariants as told
use Rattle.usb_trace.specs.Claims.{claimed_by, numbers_of}
use Rattle.usb_trace.specs.Run.{CallRecord, claims_in, rest_entry}
use Rattle.usb_trace.proofs.ExampleScenes.{transfer, own}

-- two reads of URB 0, from lines 5 and 6, and a write of URB 1
abbrev first : Transfer
first = transfer 5 (0x0A ∷ []) 0 1 1

abbrev second : Transfer
second = transfer 6 (0x0B ∷ []) 0 1 1

abbrev other : Transfer
other = transfer 7 (0x41 ∷ 0x42 ∷ []) 0 2 0

abbrev rests : ℕ → Transfer → Entry
rests u t = rest_entry SERVER u t

-- both reads come back and rest, and then the write. Pass 3 kills URB 0, pass 4 poisons URB 1, and pass 3 kills URB 0 once more
abbrev history : List Entry
history =
    rests 0 first ∷ rests 0 second ∷ rests 1 other ∷ kill_entries 3 0 (Fault EIDRM) (Some 6)
    ++ (poison_entries 4 1 (Fault EIDRM) (Some 7) ++ kill_entries 3 0 (Fault EIDRM) None)

-- the first kill finds the second read, the next one nothing, and the poison the write; pass 5 claims nothing
what_passes_claim : (claimed_by 3 history ≡ (0, Some second) ∷ (0, None) ∷ [])
    × (claimed_by 4 history ≡ (1, Some other) ∷ [])
    × (claimed_by 5 history ≡ [])
what_passes_claim = (refl, refl, refl)

-- a Claim finds no transfer that was rested after it
a_later_rest_is_not_found : claimed_by 3 (rests 0 first ∷ (claims_of 3 (0 ∷ []) (Some 5 ∷ []) ++ rests 0 second ∷ claims_of 3 (1 ∷ 0 ∷ []) (None ∷ Some 6 ∷ [])))
    ≡ (0, Some first) ∷ (1, None) ∷ (0, Some second) ∷ []
a_later_rest_is_not_found = refl

-- the answers of Claims that found these
their_numbers : numbers_of (Some second ∷ None ∷ Some other ∷ []) ≡ Some 6 ∷ None ∷ Some 7 ∷ []
their_numbers = refl

-- a call of thread 0 on line 8, by its number in the table of calls, with its answer and what rested
abbrev made : ℕ → Target → CallAnswer → List (Option Transfer) → CallRecord
made code target answer found =
    record {
      thread = 0;
      call = record { line = 8; code = code; target = target; second = None; numbers = 0 ∷ 0 ∷ 0 ∷ 0 ∷ []; setup = None; bytes = None };
      answer = answer;
      marks = Fault EIDRM ∷ [];
      rests = found;
      down = false;
    }

-- a kill and a poison claim of their URB, and an unlink claims nothing
what_calls_claim : (claims_in own (made 3 (on.Urb 0) (told.Buffer (Some 6)) (Some second ∷ [])) ≡ (0, Some second) ∷ [])
    × (claims_in own (made 4 (on.Urb 1) (told.Buffer None) (None ∷ [])) ≡ (1, None) ∷ [])
    × (claims_in own (made 2 (on.Urb 0) (told.Code (Fault EIDRM)) []) ≡ [])
what_calls_claim = (refl, refl, refl)
