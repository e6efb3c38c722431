-- The names of the causes.
use Rattle.std.specs.Prelude.{ℕ, List, codes}
use Rattle.usb_scene.specs.declared.cause.Cause.{Cause}
use Rattle.usb_scene.specs.declared.cause.Cause.TheVariants.{Byte, Header, Word, Form, Name, Twice, Limit, Held, HubOnly}

abbrev pub cause_text : Cause → List ℕ
cause_text Byte = codes "Byte"
cause_text Header = codes "Header"
cause_text Word = codes "Word"
cause_text Form = codes "Form"
cause_text Name = codes "Name"
cause_text Twice = codes "Twice"
cause_text Limit = codes "Limit"
cause_text Held = codes "Held"
cause_text HubOnly = codes "HubOnly"
