-- The scene of a number is read of a text.
use Rattle.std.proofs.Common.{◌≡◌, ℕ, Bool, true, false, ◌==◌, List, [], ◌∷◌, ◌++◌, map, position, Option, Some, None, Ok, codes, refl, sym, ap, ◌∙◌, subst, arith, lit≤}
use Rattle.std.specs.List.{range_with_len}
use Rattle.std.specs.Fmt.{digits}
use Rattle.std.specs.Str.{bytes_eq}
use Rattle.std.proofs.lemmas.Bool.{agree_below_at, eqb-true}
use Rattle.usb_text.specs.Kinds.{is_name}
use Rattle.usb_xfer.specs.declared.script.Item.{Item}
use Rattle.usb_statement.specs.declared.statement.Statement.{Statement}
use Rattle.usb_statement.specs.declared.statement.Statement.TheVariants as say
use Rattle.usb_scene.specs.declared.scene.Scene.{Scene}
use Rattle.usb_scene.specs.declared.scene.SceneDevice.{SceneDevice}
use Rattle.usb_scene.specs.declared.scene.SceneUrb.{SceneUrb}
use Rattle.usb_scene.specs.declared.scene.SceneThread.{SceneThread}
use Rattle.usb_scene.specs.WellFormed.{IsWellFormed}
use Rattle.usb_scene.specs.Rules.{SoFar}
use Rattle.usb_scene.specs.PrintedScene.{AllowedInTurn, printed_text}
use Rattle.usb_scene.proofs.PrintedScenes.{scene_of-printed_text}
use Rattle.usb_scene.proofs.WellRead.{scene_of-IsWellFormed}
use Rattle.usb_generate.specs.Draws.{beginning}
use Rattle.usb_generate.specs.Generator.{items, device_of, device_beginning, devices, urb_name, urb_at, urbs, calls, generated}
use Rattle.usb_generate.specs.Readable.{IsReadable}
use Rattle.usb_generate.proofs.Said.{device_lines, later_lines, call_lines, all_lines}
use Rattle.usb_generate.proofs.Passing.{grown_by_all, passed}
use Rattle.usb_generate.proofs.Answered.{AreGiven, items_given, answer_allowed}
use Rattle.usb_generate.proofs.Called.{AreNamed, script_said, calls_allowed}
use Rattle.usb_generate.proofs.Sizes.{text_short}

-- what is said where there are devices alone
abbrev devices_said : List SceneDevice → SoFar
devices_said said = record { scene = record { version = 1; devices = said; urbs = []; anchors = []; threads = [] }; has_port = false }

-- the lines of a device, after those of the devices before it
device_0 : (a : List Item) (rest : List Statement) (last : Scene) → AreGiven a
    → AllowedInTurn (devices_said (device_of 0 a ∷ [])) 4 rest last → AllowedInTurn (devices_said []) 1 (device_lines 0 ++ say.Answer 129 a ∷ rest) last
unfolding digits
device_0 a rest last ga h =
    passed (devices_said []) 1 (device_lines 0) (say.Answer 129 a ∷ rest) last refl
    (answer_allowed (grown_by_all (devices_said []) 1 (device_lines 0)) a ga refl refl (lit≤ tt), h)

device_1 : (a b : List Item) (rest : List Statement) (last : Scene) → AreGiven a → AreGiven b
    → AllowedInTurn (devices_said (device_of 0 a ∷ device_of 1 b ∷ [])) 7 rest last
    → AllowedInTurn (devices_said (device_of 0 a ∷ [])) 4 (device_lines 1 ++ say.Answer 129 b ∷ rest) last
unfolding digits
device_1 a b rest last ga gb h =
    let s = devices_said (device_of 0 a ∷ []) in
    passed s 4 (device_lines 1) (say.Answer 129 b ∷ rest) last refl
    (answer_allowed (grown_by_all s 4 (device_lines 1)) b gb refl refl (omega (arith, ga.replies)), h)

device_2 : (a b c : List Item) (rest : List Statement) (last : Scene) → AreGiven a → AreGiven b → AreGiven c
    → AllowedInTurn (devices_said (device_of 0 a ∷ device_of 1 b ∷ device_of 2 c ∷ [])) 10 rest last
    → AllowedInTurn (devices_said (device_of 0 a ∷ device_of 1 b ∷ [])) 7 (device_lines 2 ++ say.Answer 129 c ∷ rest) last
unfolding digits
device_2 a b c rest last ga gb gc h =
    let s = devices_said (device_of 0 a ∷ device_of 1 b ∷ []) in
    passed s 7 (device_lines 2) (say.Answer 129 c ∷ rest) last refl
    (answer_allowed (grown_by_all s 7 (device_lines 2)) c gc refl refl (omega (arith, ga.replies, gb.replies)), h)

device_3 : (a b c d : List Item) (rest : List Statement) (last : Scene) → AreGiven a → AreGiven b → AreGiven c → AreGiven d
    → AllowedInTurn (devices_said (device_of 0 a ∷ device_of 1 b ∷ device_of 2 c ∷ device_of 3 d ∷ [])) 13 rest last
    → AllowedInTurn (devices_said (device_of 0 a ∷ device_of 1 b ∷ device_of 2 c ∷ [])) 10 (device_lines 3 ++ say.Answer 129 d ∷ rest) last
unfolding digits
device_3 a b c d rest last ga gb gc gd h =
    let s = devices_said (device_of 0 a ∷ device_of 1 b ∷ device_of 2 c ∷ []) in
    passed s 10 (device_lines 3) (say.Answer 129 d ∷ rest) last refl
    (answer_allowed (grown_by_all s 10 (device_lines 3)) d gd refl refl (omega (arith, ga.replies, gb.replies, gc.replies)), h)

-- the sixteen URBs, each found by its name
abbrev sixteen : List SceneUrb
sixteen = map urb_at (range_with_len 0 16)

abbrev is_at : ℕ → Option ℕ → Bool
is_at u None = false
is_at u (Some v) = v == u

at_place : (u : ℕ) (o : Option ℕ) → is_at u o ≡ true → o ≡ Some u
at_place u None h = cc
at_place u (Some v) h = ap (λ n. Some n) (eqb-true v u h)

abbrev place_of : ℕ → Option ℕ
place_of u = position (λ (urb : SceneUrb). bytes_eq urb.name (urb_name u)) sixteen

named_sixteen : AreNamed sixteen
unfolding digits
named_sixteen = record {
  names = λ u low. agree_below_at (λ n. is_name (urb_name n)) (λ n. true) 16 u refl low;
  found = λ u low. at_place u (place_of u) (agree_below_at (λ n. is_at n (place_of n)) (λ n. true) 16 u refl low);
}

named_urbs : AreNamed (urbs 16)
unfolding urbs
named_urbs = named_sixteen

script_begins : (said : List SceneDevice) (x : ℕ) → script_said said (urbs 16) (calls x 0) ≡ script_said said sixteen []
unfolding urbs calls
script_begins said x = refl

abbrev four : List Item → List Item → List Item → List Item → List SceneDevice
four a b c d = device_of 0 a ∷ device_of 1 b ∷ device_of 2 c ∷ device_of 3 d ∷ []

-- the lines of the URBs, the thread and its calls
script_allowed : (a b c d : List Item) (x : ℕ)
    → AllowedInTurn (devices_said (four a b c d)) 13 (later_lines ++ call_lines x 0 2000) (script_said (four a b c d) (urbs 16) (calls x 2000)).scene
unfolding digits
script_allowed a b c d x =
    let said = four a b c d in
    let last = (script_said said (urbs 16) (calls x 2000)).scene in
    let all : AllowedInTurn (script_said said (urbs 16) (calls x 0)) 30 (call_lines x 0 2000) last = calls_allowed said (urbs 16) x 0 2000 named_urbs (lit≤ tt) in
    passed (devices_said said) 13 later_lines (call_lines x 0 2000) last refl
    (subst (λ (s : SoFar). AllowedInTurn s 30 (call_lines x 0 2000) last) (script_begins said x) all)

lines_allowed : (a b c d : List Item) (x : ℕ) → AreGiven a → AreGiven b → AreGiven c → AreGiven d
    → AllowedInTurn (devices_said []) 1 (all_lines a b c d (call_lines x 0 2000)) (script_said (four a b c d) (urbs 16) (calls x 2000)).scene
lines_allowed a b c d x ga gb gc gd =
    let last = (script_said (four a b c d) (urbs 16) (calls x 2000)).scene in
    let rest_3 = later_lines ++ call_lines x 0 2000 in
    let rest_2 = device_lines 3 ++ say.Answer 129 d ∷ rest_3 in
    let rest_1 = device_lines 2 ++ say.Answer 129 c ∷ rest_2 in
    let rest_0 = device_lines 1 ++ say.Answer 129 b ∷ rest_1 in
    device_0 a rest_0 last ga
    (device_1 a b rest_1 last ga gb (device_2 a b c rest_2 last ga gb gc (device_3 a b c d rest_3 last ga gb gc gd (script_allowed a b c d x))))

-- the devices of the number are these four
devices_are : (x : ℕ) → four (items (device_beginning x 0) 64) (items (device_beginning x 1) 64) (items (device_beginning x 2) 64) (items (device_beginning x 3) 64) ≡ devices x 4
unfolding devices
devices_are x = refl

pub generated_readable : (number : ℕ) → IsReadable (generated number)
generated_readable number =
    let x = beginning number in
    let v = device_beginning x 0 in
    let w = device_beginning x 1 in
    let y = device_beginning x 2 in
    let z = device_beginning x 3 in
    let from = device_beginning x 4 in
    let lines = all_lines (items v 64) (items w 64) (items y 64) (items z 64) (call_lines from 0 2000) in
    let read = scene_of-printed_text lines (script_said (four (items v 64) (items w 64) (items y 64) (items z 64)) (urbs 16) (calls from 2000)).scene
    (lines_allowed (items v 64) (items w 64) (items y 64) (items z 64) from (items_given v) (items_given w) (items_given y) (items_given z)) in
    (printed_text lines, text_short v w y z from, read ∙ ap (λ ds. Ok (script_said ds (urbs 16) (calls from 2000)).scene) (devices_are x))

-- what was made, by what each part is
pub made : (number x y : ℕ) (said : List SceneDevice) (named : List SceneUrb) (anchors : List (List ℕ)) (scripts : List SceneThread) → x ≡ beginning number
    → said ≡ devices x 4 → y ≡ device_beginning x 4 → named ≡ urbs 16 → anchors ≡ [] → scripts ≡ record { name = codes "t"; calls = calls y 2000 } ∷ []
    → record { version = 1; devices = said; urbs = named; anchors = anchors; threads = scripts } ≡ generated number
made number x y said named anchors scripts from a b c d e = cc

pub made_readable : (number : ℕ) (scene : Scene) → scene ≡ generated number → IsReadable scene
made_readable number scene e = subst IsReadable (sym e) (generated_readable number)

pub readable_well_formed : (scene : Scene) → IsReadable scene → IsWellFormed scene
readable_well_formed scene h = scene_of-IsWellFormed h.0 scene h.1 h.2
