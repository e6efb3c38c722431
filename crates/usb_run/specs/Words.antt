-- The word grammar of the command line: the one word `serial`, the one word `list`, or the word `gen` and a number.
use Rattle.std.specs.Prelude.{ℕ, ◌^◌, ◌&&◌, nat_le, nat_lt, if◌then◌else◌, List, [], ◌∷◌, length, Option, Some, None, option_map, codes}
use Rattle.std.specs.List.{list_all}
use Rattle.std.specs.Char.{is_ascii_digit}
use Rattle.std.specs.Str.{bytes_eq}
use Rattle.usb_text.specs.Kinds.{digits_value}
use Rattle.usb_run.specs.declared.command.Command.{Command}
use Rattle.usb_run.specs.declared.command.Command.TheVariants as ask
use Rattle.usb_run.specs.declared.command.SceneCommand.TheVariants as of_scene

-- one to ten decimal digits whose value is below 2^32
abbrev pub small_number : List ℕ → Option ℕ
small_number word =
    if nat_le 1 (length word) && nat_le (length word) 10 && list_all is_ascii_digit word && nat_lt (digits_value word) (2 ^ 32)
    then Some (digits_value word)
    else None

-- the command that words ask for, if they are in the grammar
abbrev pub command_of : List (List ℕ) → Option Command
command_of (word ∷ []) =
    if bytes_eq word (codes "serial") then Some (ask.Scene of_scene.Serial) else if bytes_eq word (codes "list") then Some (ask.Scene of_scene.List) else None
command_of (word ∷ number ∷ []) = if bytes_eq word (codes "gen") then option_map ask.Gen (small_number number) else None
command_of _ = None
