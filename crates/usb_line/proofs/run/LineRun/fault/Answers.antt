use Rattle.std.proofs.Common.{◌≡◌, Some, sym, ap, ◌∙◌}
use Rattle.std.specs.Prelude.{slice_get}
use Rattle.std.proofs.lemmas.Option.{slice_get-get_or}
use Rattle.usb_machine.specs.declared.layout.Shape.{Shape}
use Rattle.usb_machine.specs.Shapes.{shape_fault}
use Rattle.usb_prepare.specs.Layout.{home}
use Rattle.usb_line.specs.declared.run.UrbRow.{UrbRow}
use Rattle.usb_line.specs.declared.run.EndRow.{EndRow}
use Rattle.usb_line.proofs.run.LineRun.fault.Goals as goal

pub returns : goal.returns
returns c =
    let run = c.args.self.now in
    let u = c.args.urb.0 in
    let row = c.index.result.now in
    let end = c.index-2.result.now in
    let at : slice_get run.urbs.items u ≡ Some row = slice_get-get_or run.urbs.items u row c.requires.there ∙ ap Some (sym c.index.ensures) in
    let there : slice_get run.ends.items row.home ≡ Some end = slice_get-get_or run.ends.items row.home end (c.requires.home row at) ∙ ap Some (sym c.index-2.ensures) in
    record {
      exact = λ r e here found.
          let both : Some row ≡ Some r = sym at ∙ here in
          let same : row ≡ r = cc in
          let ends : Some end ≡ Some e = sym there ∙ (ap (λ (x : UrbRow). slice_get run.ends.items x.home) same ∙ found) in
          let one : end ≡ e = cc in
          c.shape_fault.ensures ∙ ap (λ (x : EndRow). shape_fault x.shape c.args.t.now) one;
      shown = λ s f shows.
          let is = (shows.each_urb u row at).at in
          c.shape_fault.ensures ∙ ap (λ (x : Shape). shape_fault x c.args.t.now) (shows.each_end (home s u) end (ap (slice_get run.ends.items) (sym is) ∙ there)).is;
    }
