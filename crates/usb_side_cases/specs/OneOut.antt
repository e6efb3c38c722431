-- The layout of one URB at a bulk OUT endpoint.
use Rattle.std.specs.Prelude.{◌∷◌, [], Some}
use Rattle.usb_machine.specs.declared.layout.EndKind.TheVariants.{Bulk}
use Rattle.usb_machine.specs.declared.layout.Layout.{Layout}

abbrev pub one_out_layout : Layout
one_out_layout = record { homes = Some 0 ∷ []; shapes = record { device = 0; address = 2; kind = Bulk; max = 64; interval = 0 } ∷ [] }
