use Rattle.std.proofs.Common.{◌≡◌, ◌<◌, ℕ, true, cond, nat_le, List, [], ◌∷◌, length, slice_set, refl, sym, ap, arith}
use Rattle.std.proofs.lemmas.Grind.{common_steps}
use Rattle.usb_xfer.specs.declared.script.What.TheVariants.{Packet}
use Rattle.usb_xfer.specs.Replies.{room_after}
use Rattle.usb_tables.proofs.tests.transfers.give.Goals as goal

-- a byte at the start of a room that has one
begun : (room : List ℕ) → 0 < length room → slice_set room 0 7 ≡ room_after (Packet (7 ∷ [])) room
begun [] l = absurd (omega arith)
begun (x ∷ xs) l = let fits : nat_le 1 (length (x ∷ xs)) ≡ true = grind (arith, common_steps) in sym (ap (λ b. cond b (7 ∷ xs) (x ∷ xs)) fits)

pub returns : goal.returns
returns c = let e = c.is_empty.ensures in let f = c.if-is_empty.false in (Packet (7 ∷ []), begun c.args.room.now (grind (arith, common_steps)), refl)
