use Rattle.std.proofs.Common.{◌≡◌, Some, refl, sym, ap, ◌∙◌}
use Rattle.std.specs.Prelude.{slice_get}
use Rattle.std.proofs.lemmas.Option.{slice_get-get_or}
use Rattle.usb_line.proofs.run.LineRun.move_on.Goals as goal

pub returns : goal.returns
returns c =
    let run = c.args.self.now in
    let end = c.index.result.now in
    let device = c.index_mut.result.now in
    let there : slice_get run.ends.items c.args.ep ≡ Some end = slice_get-get_or run.ends.items c.args.ep end c.requires.there ∙ ap Some (sym c.index.ensures) in
    let on = c.advance_on.ensures in
    record {
      end = end;
      there = there;
      device = device;
      asked = slice_get-get_or run.devices.items end.shape.device device (c.requires.device end there) ∙ ap Some (sym c.index_mut.ensures.value);
      after = c.advance_on.new.device;
      more = on.0;
      step = c.advance_on.result;
      gave = on.1;
      runs = on.2;
      says = c.ended.ensures;
      devices_so = refl;
      same_ends = refl;
      same_urbs = refl;
      same = record { plain = refl; told = refl; host = refl; cores = refl };
    }
