-- The replies that a script gives one after another.
use Rattle.std.specs.Prelude.{ℕ, zero, suc, List, [], ◌∷◌}
use Rattle.usb_xfer.specs.Replies.{Reply}
use Rattle.usb_device.specs.Items.{Script, reply_of}

-- the next n replies, where m calls came before
abbrev pub replies_from : Script → ℕ → ℕ → List Reply
replies_from script m zero = []
replies_from script m (suc n) = reply_of script m ∷ replies_from script (suc m) n
