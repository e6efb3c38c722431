-- The answers of a well-formed scene are short.
use Rattle.std.proofs.Common.{ℕ, ◌≡◌, ◌<◌, ◌^◌, true, ◌&&◌, Some, List, [], ◌∷◌, length, get_or, refl, sym, ap, ◌∙◌, arith}
use Rattle.std.specs.Prelude.{slice_get}
use Rattle.std.specs.List.{All}
use Rattle.std.proofs.lemmas.Bool.{lt-ltb}
use Rattle.std.proofs.lemmas.Option.{slice_get-get_or}
use Rattle.std.proofs.lemmas.List.Elements.{All-head, All-tail}
use Rattle.usb_xfer.specs.declared.script.What.{What}
use Rattle.usb_xfer.specs.declared.script.What.TheVariants.{Ack, Nak, Stall, Error, Packet}
use Rattle.usb_xfer.specs.declared.script.Item.{Item}
use Rattle.usb_xfer.specs.declared.script.Answers.{Answers}
use Rattle.usb_scene.specs.declared.scene.Scene.{Scene}
use Rattle.usb_scene.specs.declared.scene.SceneDevice.{SceneDevice}
use Rattle.usb_scene.specs.WellFormed.{IsShort, IsItem, IsWellFormed}
use Rattle.usb_device.specs.Short.{is_short, are_short, lines_are_short}

-- packets are short
reply_fits : (r : What) → IsShort r → is_short r ≡ true
reply_fits Ack f = refl
reply_fits Nak f = refl
reply_fits Stall f = refl
reply_fits Error f = refl
reply_fits (Packet bytes) f = let l : length bytes < 2 ^ 32 = omega arith in lt-ltb (length bytes) (2 ^ 32) l

items_fit : (address : ℕ) (items : List Item) → All (IsItem address) items → are_short items ≡ true
items_fit address [] a = refl
items_fit address (x ∷ items) a = (λ i. reply_fits x.what (All-head (IsItem address) x items a).short i && items_fit address items (All-tail (IsItem address) x items a) i)

lines_fit : (lines : List Answers) → All (λ (said : Answers). All (IsItem said.address) said.items) lines → lines_are_short lines ≡ true
lines_fit [] a = refl
lines_fit (x ∷ lines) a = (λ i. items_fit x.address x.items (All-head (λ (said : Answers). All (IsItem said.address) said.items) x lines a) i && lines_fit lines (All-tail (λ (said : Answers). All (IsItem said.address) said.items) x lines a) i)

pub item_lines_fit : (s : Scene) → IsWellFormed s → (ds : List SceneDevice) → ds ≡ s.devices → (k : ℕ) (device : SceneDevice) → k < length ds → device ≡ get_or ds k device → lines_are_short device.script.answers ≡ true
item_lines_fit s good ds same k device near is =
    let at : slice_get s.devices k ≡ Some device = ap (λ l. slice_get l k) (sym same) ∙ (slice_get-get_or ds k device near ∙ ap Some (sym is)) in
    lines_fit device.script.answers (good.devices k device at).answers
