-- Examples that the checker computes: what is drawn from 1, which the C standard's example of `rand` draws too (C11, 7.22.2.2),
-- and what it makes.
use Rattle.std.proofs.Common.{◌≡◌, ◌+◌, ◌^◌, [], ◌∷◌, map, replicate, None, codes, false, refl}
use Rattle.std.specs.List.{range_with_len}
use Rattle.std.specs.Fmt.{digits}
use Rattle.usb_types.specs.declared.errno.Code.TheVariants.{Zero, Fault}
use Rattle.usb_types.specs.declared.errno.Errno.TheVariants.{EBUSY}
use Rattle.usb_machine.specs.declared.event.Event.{Event}
use Rattle.usb_machine.specs.declared.event.Event.TheVariants.{Submit, Link, Give}
use Rattle.usb_machine.specs.declared.event.Answer.{Answer}
use Rattle.usb_machine.specs.declared.event.Answer.TheVariants.{Nothing, Code}
use Rattle.usb_machine.specs.declared.entry.Entry.{Entry}
use Rattle.usb_xfer.specs.declared.script.What.TheVariants.{Stall, Packet}
use Rattle.usb_scene.specs.declared.scene.Target.TheVariants as target
use Rattle.usb_scene.specs.Growth.{plain_call}
use Rattle.usb_generate.specs.Draws.{beginning, next, draw}
use Rattle.usb_generate.specs.Summary.{summary_of}
use Rattle.usb_generate.specs.Generator.{item_place, items, urb_at, call_place, calls}

a_number_is_taken_modulo_2_to_the_31 : beginning (2 ^ 31 + 1) ≡ 1
a_number_is_taken_modulo_2_to_the_31 = refl

the_first_draws : map (λ k. draw 1 k 32768) (range_with_len 0 6) ≡ 16838 ∷ 5758 ∷ 10113 ∷ 17515 ∷ 31051 ∷ 5627 ∷ []
unfolding next
the_first_draws = refl

-- 16838 % 8 is 6, a packet, of 5758 % 65 bytes; 10113 % 8 is 1; 17515 % 8 is 3, a packet, of 31051 % 65 bytes
the_first_answers : items 1 3 ≡ record { times = 1; what = Packet (replicate 38 0) } ∷ record { times = 1; what = Stall } ∷ record { times = 1; what = Packet (replicate 46 2) } ∷ []
unfolding next item_place items
the_first_answers = refl

-- 16838 % 8 and 5758 % 8 are 6; 10113 % 8 is 1, a submit, of URB 17515 % 16; 31051 % 8 is 3, a submit, of URB 5627 % 16
the_first_calls : calls 1 4
    ≡ plain_call 31 8 target.Nothing None None ∷ plain_call 32 8 target.Nothing None None ∷ plain_call 33 1 (target.Urb 11) None None
    ∷ plain_call 34 1 (target.Urb 11) None None ∷ []
unfolding next call_place calls
the_first_calls = refl

the_sixth_urb : urb_at 5 ≡ record { name = codes "u5"; device = 1; address = 129; len = 128; again = 2; short = false }
unfolding digits
the_sixth_urb = refl

abbrev at : Event → Answer → Entry
at event answer = record { pass = 0; event = event; answer = answer; carried = None }

-- two transfers are accepted and one is refused, and one comes back
a_summary : summary_of 7
    (at (Submit record { 0 = 3 } 31) (Code Zero) ∷ at (Link record { 0 = 3 }) Nothing ∷ at (Submit record { 0 = 3 } 32) (Code (Fault EBUSY))
    ∷ at (Submit record { 0 = 4 } 33) (Code Zero) ∷ at (Give record { 0 = 3 }) (Code Zero) ∷ [])
    (48 ∷ []) ≡ codes "gen 7 calls 2000 accepted 2 refused 1 given 1 bytes 48\n"
unfolding digits
a_summary = refl
