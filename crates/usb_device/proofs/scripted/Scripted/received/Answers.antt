use Rattle.std.proofs.Common.{◌≡◌, ◌<◌, Some, length, sym, ap, ◌∙◌, arith}
use Rattle.std.specs.Prelude.{slice_get}
use Rattle.std.proofs.lemmas.Option.{slice_get-get_or}
use Rattle.usb_device.proofs.scripted.Scripted.received.Goals as goal

pub returns : goal.returns
returns c = λ script calls stands.
    let d = c.args.self.now in
    let near : c.args.address < length d.ends.items = omega (arith, d.ends.ok.0, d.all_ends, c.ranges.address.fits) in
    let there : slice_get d.ends.items c.args.address ≡ Some c.index.result.now = slice_get-get_or d.ends.items c.args.address c.index.result.now near ∙ ap Some (sym c.index.ensures) in
    let acked = stands.acked c.args.address c.index.result.now there in
    (acked.count, c.kept.ensures ∙ acked.first)
