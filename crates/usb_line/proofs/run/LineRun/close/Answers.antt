use Rattle.std.proofs.Common.{◌∙◌, arith}
use Rattle.usb_line.proofs.Killing.{plain_urbs}
use Rattle.usb_line.proofs.Ending.{closed_now}
use Rattle.usb_line.proofs.run.LineRun.close.Goals as goal

pub kill_each-requires : goal.kill_each-requires
kill_each-requires c = record { scene = c.requires.scene; far = c.requires.far; is = c.requires.is; pass = c.requires.pass; all = c.urb_count-urbs.ensures ∙ c.requires.is.shows.all_urbs }

pub see_each_quiet-requires : goal.see_each_quiet-requires
see_each_quiet-requires c =
    let s = c.requires.scene in let all = c.urb_count-urbs.ensures ∙ c.requires.is.shows.all_urbs in
    let at = c.in_ok-kill_each.ensures s c.requires.far c.requires.is c.requires.pass all in
    let has = plain_urbs s at.far c.kill_each.new.self at.shows in omega arith

pub returns : goal.returns
returns c s f is pass =
    let all = c.urb_count-urbs.ensures ∙ is.shows.all_urbs in
    let at = c.in_ok-kill_each.ensures s f is pass all in
    closed_now s f c.args.self.now is c.urb_count-urbs.result all c.kill_each.new.self at c.args.pass c.see_each_quiet.new.plain pass
    (c.see_each_quiet.ensures.seen s at.far.history at.shows.stands)
