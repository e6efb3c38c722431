use Rattle.std.proofs.Common.{◌≡◌, Some, refl, sym, ap, ◌∙◌}
use Rattle.std.specs.Prelude.{slice_get}
use Rattle.std.proofs.lemmas.Option.{slice_get-get_or}
use Rattle.usb_line.proofs.run.LineRun.fall_asleep.Goals as goal

pub returns : goal.returns
returns c =
    let run = c.args.self.now in
    let row = c.index_mut-2.result.now in
    let end = c.index_mut.result.now in
    let at : slice_get run.urbs.items c.args.urb ≡ Some row = slice_get-get_or run.urbs.items c.args.urb row c.requires.known ∙ ap Some (sym c.index_mut-2.ensures.value) in
    let there : slice_get run.ends.items c.args.ep ≡ Some end = slice_get-get_or run.ends.items c.args.ep end c.requires.there ∙ ap Some (sym c.index_mut.ensures.value) in
    record { row = row; at = at; end = end; there = there; rows = refl; ends_so = refl; same_devices = refl; same = record { plain = refl; told = refl; host = refl; cores = refl } }
