use Rattle.std.proofs.Common.{◌≡◌, ◌<◌, Some, length, refl, sym, ap, ◌∙◌, arith}
use Rattle.std.specs.Prelude.{slice_get}
use Rattle.std.proofs.lemmas.Option.{slice_get-get_or}
use Rattle.usb_device.proofs.Spending.{left_next}
use Rattle.usb_device.proofs.scripted.Scripted.next.Goals as goal

pub returns-clause-used : goal.returns-clause-used
returns-clause-used c =
    let d = c.args.self.now in
    let end = c.index_mut.result.now in
    let near : c.args.address < length d.ends.items = omega (arith, d.ends.ok.0, d.all_ends, c.ranges.address.fits) in
    let there : slice_get d.ends.items c.args.address ≡ Some end = slice_get-get_or d.ends.items c.args.address end near ∙ ap Some (sym c.index_mut.ensures.value) in
    record {
      of = refl;
      free = refl;
      state = refl;
      end = end;
      place = c.next-next.new.self;
      there = there;
      ends = refl;
      item = c.next-next.ensures.item;
      on = c.next-next.ensures.next;
      left = left_next d _ c.args.address end c.next-next.new.self c.next-next.result there refl c.next-next.ensures.left;
      count = c.counted-self.ensures.count;
      rises = c.counted-self.ensures.rises;
    }
