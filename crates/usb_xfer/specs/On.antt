-- Packets one after another, until a transfer ends or waits.
use Rattle.std.specs.Prelude.{ℕ, ◌≡◌, ◌≢◌, ◌<◌, ◌≤◌, List, [], ◌∷◌, ◌++◌, length, take}
use Rattle.usb_machine.specs.declared.layout.Shape.{Shape}
use Rattle.usb_machine.specs.declared.transfer.Transfer.{Transfer}
use Rattle.usb_machine.specs.Shapes.{HasWindow}
use Rattle.usb_xfer.specs.declared.packet.Step.{Step}
use Rattle.usb_xfer.specs.declared.packet.Step.TheVariants.{More}
use Rattle.usb_xfer.specs.Direction.{asked_at}
use Rattle.usb_xfer.specs.Replies.{Reply, Question}
use Rattle.usb_xfer.specs.Moved.{moved, moved_state, IsOpen, IsWhole, question_of, reply_moves}

-- the device, asked each time what the transfer asks next, gave these replies; then the transfer and the device are these
pub data Gave {D : Type 0} (replies : D → ℕ → Question → Reply → D → Type 0) (shape : Shape) (t : Transfer) (d : D) : List Reply → Transfer → D → Type 0 where
  nothing : Gave replies shape t d [] t d
  one_more : (rs : List Reply) (now : Transfer) (m : D) (r : Reply) (e : D) → Gave replies shape t d rs now m → replies m (asked_at shape) (question_of shape now) r e
      → Gave replies shape t d (rs ++ r ∷ []) (reply_moves shape r now) e

-- the transfer goes on through these replies
pub record SoFar (shape : Shape) (start : Transfer) (before more : List Reply) (now : Transfer) : Type 0 where
  pub transfer : now ≡ moved shape start (before ++ more)
  pub going : IsOpen shape start (before ++ more)
  pub each : (k : ℕ) → 0 < k → k ≤ length more → moved_state shape start (before ++ take k more) ≡ More

pub record GoneOn (shape : Shape) (old now : Transfer) (more : List Reply) : Type 0 where
  pub window : HasWindow now
  pub so_far : (start : Transfer) (before : List Reply) → HasWindow start → IsOpen shape start before → old ≡ moved shape start before → SoFar shape start before more now

-- the transfer goes on up to the last of these replies, at which it ends or waits
pub record Stops (shape : Shape) (start : Transfer) (before more : List Reply) (now : Transfer) (step : Step) : Type 0 where
  pub transfer : now ≡ moved shape start (before ++ more)
  pub state : step ≡ moved_state shape start (before ++ more)
  pub whole : IsWhole shape start (before ++ more)
  pub each : (k : ℕ) → 0 < k → k < length more → moved_state shape start (before ++ take k more) ≡ More

pub record RunsOn (shape : Shape) (old now : Transfer) (more : List Reply) (step : Step) : Type 0 where
  pub window : HasWindow now
  pub some : 0 < length more
  pub stopped : step ≢ More
  pub stops : (start : Transfer) (before : List Reply) → HasWindow start → IsOpen shape start before → old ≡ moved shape start before → Stops shape start before more now step
