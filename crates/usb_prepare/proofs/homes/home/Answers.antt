use Rattle.std.proofs.Common.{◌∙◌, sym, ap}
use Rattle.usb_prepare.specs.Ends.{is_at}
use Rattle.usb_prepare.proofs.Positions.{shifted, position_from_start}
use Rattle.usb_prepare.proofs.homes.home.Goals as goal

pub returns-in-Some : goal.returns-in-Some
returns-in-Some c = let p = is_at c.args.urb.now.device c.args.urb.now.address in
    ap (shifted c.args.start) c.in-Some.ensures ∙ sym (position_from_start p c.args.shapes.now c.args.start c.requires.start c.requires.behind)

pub returns-in-None : goal.returns-in-None
returns-in-None c = let p = is_at c.args.urb.now.device c.args.urb.now.address in
    ap (shifted c.args.start) c.in-None.ensures ∙ sym (position_from_start p c.args.shapes.now c.args.start c.requires.start c.requires.behind)
