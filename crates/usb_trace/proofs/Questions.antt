-- What a transfer asks: a control transfer asks the same however it is moved, and packets halt nothing.
use Rattle.std.proofs.Common.{ℕ, ◌≡◌, Bool, true, false, cond, Option, List, [], length, refl, sym, ap, ◌∙◌}
use Rattle.std.specs.Prelude.{nat_le}
use Rattle.usb_machine.specs.declared.layout.Shape.{Shape}
use Rattle.usb_machine.specs.declared.transfer.Transfer.{Transfer}
use Rattle.usb_xfer.specs.declared.script.What.TheVariants.{Ack, Nak, Stall, Error, Packet}
use Rattle.usb_xfer.specs.Direction.{Direction, In, Out, ControlIn, ControlOut, setup_in, goes_in, is_control, direction_of}
use Rattle.usb_xfer.specs.Replies.{Reply, Ask}
use Rattle.usb_xfer.specs.Input.{with_bytes}
use Rattle.usb_xfer.specs.Moved.{moved, moved_by, question_by, question_of, moves_by, reply_moves}
use Rattle.usb_device.specs.Laws.{sets_halt}

-- the direction of a control transfer, by its setup packet
abbrev way : Bool → Direction
way b = cond b ControlIn ControlOut

abbrev comes : Option (List ℕ) → Bool
comes setup = goes_in (setup_in setup).kind

moves_setup : (b : Bool) (max : ℕ) (r : Reply) (t : Transfer) → (moves_by (way b) max r t).setup ≡ t.setup
moves_setup true max Ack t = refl
moves_setup true max Nak t = refl
moves_setup true max Stall t = refl
moves_setup true max Error t = refl
moves_setup true max (Packet bytes) t = go (nat_le (length bytes) t.len)
  where
    go : (b : Bool) → (cond b (with_bytes t bytes) t).setup ≡ t.setup
    go true = refl
    go false = refl
moves_setup false max Ack t = refl
moves_setup false max Nak t = refl
moves_setup false max Stall t = refl
moves_setup false max Error t = refl
moves_setup false max (Packet bytes) t = refl

moves_asks : (b : Bool) (max : ℕ) (r : Reply) (t : Transfer) → question_by (way b) max (moves_by (way b) max r t) ≡ question_by (way b) max t
moves_asks true max r t = ap (λ setup. Ask (setup_in setup) []) (moves_setup true max r t)
moves_asks false max Ack t = refl
moves_asks false max Nak t = refl
moves_asks false max Stall t = refl
moves_asks false max Error t = refl
moves_asks false max (Packet bytes) t = refl

moved_setup : (b : Bool) (max : ℕ) (t : Transfer) (replies : List Reply) → (moved_by (way b) max t replies).setup ≡ t.setup
moved_setup true max t replies = refl
moved_setup false max t replies = refl

moved_asks : (b : Bool) (max : ℕ) (t : Transfer) (replies : List Reply) → question_by (way b) max (moved_by (way b) max t replies) ≡ question_by (way b) max t
moved_asks true max t replies = refl
moved_asks false max t replies = refl

again_asks : (b : Bool) (max : ℕ) (t : Transfer) → question_by (way b) max (record t { actual = 0 }) ≡ question_by (way b) max t
again_asks true max t = refl
again_asks false max t = refl

module _ (shape : Shape) (control : is_control shape.kind ≡ true) where
  is_way : (t : Transfer) → direction_of shape t ≡ way (comes t.setup)
  is_way t = ap (λ b. cond b (way (comes t.setup)) (cond (goes_in shape.address) In Out)) control

  -- two control transfers with one setup packet ask the same where their windows are the same
  one_setup : (t r : Transfer) → r.setup ≡ t.setup → question_by (way (comes t.setup)) shape.max r ≡ question_by (way (comes t.setup)) shape.max t → question_of shape r ≡ question_of shape t
  one_setup t r setup same = ap (λ d. question_by d shape.max r) (is_way r ∙ ap (λ o. way (comes o)) setup) ∙ (same ∙ ap (λ d. question_by d shape.max t) (sym (is_way t)))

  pub control_moves : (r : Reply) (t : Transfer) → question_of shape (reply_moves shape r t) ≡ question_of shape t
  control_moves r t = let b = comes t.setup in
      ap (λ d. question_of shape (moves_by d shape.max r t)) (is_way t) ∙ one_setup t (moves_by (way b) shape.max r t) (moves_setup b shape.max r t) (moves_asks b shape.max r t)

  pub control_moved : (t : Transfer) (replies : List Reply) → question_of shape (moved shape t replies) ≡ question_of shape t
  control_moved t replies = let b = comes t.setup in
      ap (λ d. question_of shape (moved_by d shape.max t replies)) (is_way t) ∙ one_setup t (moved_by (way b) shape.max t replies) (moved_setup b shape.max t replies) (moved_asks b shape.max t replies)

  pub control_again : (t : Transfer) → question_of shape (record t { actual = 0 }) ≡ question_of shape t
  control_again t = one_setup t (record t { actual = 0 }) refl (again_asks (comes t.setup) shape.max t)

-- packets halt nothing
pub packet_tame : (shape : Shape) (t : Transfer) → is_control shape.kind ≡ false → sets_halt (question_of shape t) ≡ false
packet_tame shape t packets = ap (λ b. sets_halt (question_by (cond b (way (comes t.setup)) (cond (goes_in shape.address) In Out)) shape.max t)) packets ∙ go (goes_in shape.address)
  where
    go : (b : Bool) → sets_halt (question_by (cond b In Out) shape.max t) ≡ false
    go true = refl
    go false = refl

-- nor does a transfer that asks the same as one that does not, where it is a control transfer
pub tame_too : (shape : Shape) (t r : Transfer) → (is_control shape.kind ≡ true → question_of shape r ≡ question_of shape t) → sets_halt (question_of shape t) ≡ false → sets_halt (question_of shape r) ≡ false
tame_too shape t r same tame = go (is_control shape.kind) refl
  where
    go : (b : Bool) → is_control shape.kind ≡ b → sets_halt (question_of shape r) ≡ false
    go true control = ap sets_halt (same control) ∙ tame
    go false packets = packet_tame shape r packets
