-- The lines of the text that is the scene of a number.
use Rattle.std.proofs.Common.{ℕ, zero, suc, ◌+◌, ◌*◌, ◌%◌, ◌==◌, nat_lt, if◌then◌else◌, List, [], ◌∷◌, ◌++◌, map, None, codes, decimal}
use Rattle.std.specs.List.{range_with_len}
use Rattle.usb_machine.specs.declared.layout.EndKind.TheVariants.{Bulk}
use Rattle.usb_xfer.specs.declared.script.Kind.TheVariants.{Raw}
use Rattle.usb_xfer.specs.declared.script.Item.{Item}
use Rattle.usb_statement.specs.declared.options.UrbOption.TheVariants.{Len, Again}
use Rattle.usb_statement.specs.declared.urb_name.UrbName.TheVariants.{Scripted}
use Rattle.usb_statement.specs.declared.keyword.UrbCall.TheVariants.{Unlink, Kill}
use Rattle.usb_statement.specs.declared.keyword.BareCall.TheVariants.{Serve}
use Rattle.usb_statement.specs.declared.statement.Statement.{Statement}
use Rattle.usb_statement.specs.declared.statement.Statement.TheVariants as say
use Rattle.usb_generate.specs.Draws.{draw}
use Rattle.usb_generate.specs.Generator.{urb_name, call_place}

-- the lines of device d, but for its answers
abbrev pub device_lines : ℕ → List Statement
device_lines d = say.Device (codes "d" ++ decimal d) Raw ∷ say.Ep 129 Bulk 64 0 ∷ []

abbrev pub urb_line : ℕ → Statement
urb_line i = say.Urb (urb_name i) (codes "d" ++ decimal (i % 4)) 129 (Len (64 * (1 + i % 2)) ∷ Again (i % 3) ∷ [])

-- the lines of the URBs and the thread
abbrev pub later_lines : List Statement
later_lines = map urb_line (range_with_len 0 16) ++ say.Thread (codes "t") ∷ []

-- a call, by the two numbers that are drawn for it
abbrev pub call_line : ℕ → ℕ → Statement
call_line c u =
    if nat_lt c 4 then say.Submit (Scripted (urb_name u)) None None
    else if c == 4 then say.OnUrb Unlink (Scripted (urb_name u))
    else if c == 5 then say.OnUrb Kill (Scripted (urb_name u))
    else say.Alone Serve

abbrev pub call_line_at : ℕ → ℕ → Statement
call_line_at x i = call_line (draw x (call_place x i) 8) (draw x (call_place x i + 1) 16)

-- m calls, from call i on
unfoldable pub call_lines : ℕ → ℕ → ℕ → List Statement
call_lines x i zero = []
call_lines x i (suc m) = call_line_at x i ∷ call_lines x (i + 1) m

-- all lines after the header
abbrev pub all_lines : List Item → List Item → List Item → List Item → List Statement → List Statement
all_lines a b c d calls =
    device_lines 0 ++ say.Answer 129 a ∷ device_lines 1 ++ say.Answer 129 b ∷ device_lines 2 ++ say.Answer 129 c ∷ device_lines 3 ++ say.Answer 129 d
    ∷ later_lines ++ calls
