use Rattle.usb_line.proofs.Killing.{still_held, shows_withdrawn}
use Rattle.usb_line.proofs.run.LineRun.kill_urb.Goals as goal

pub returns : goal.returns
returns c s f may =
    let p = c.args.pass in let u = c.args.urb.0 in
    let done = c.in_ok-rest.ensures s f may in
    record {
      far = done.far;
      waits = done.waits;
      told = done.told;
      shows = shows_withdrawn s f c.args.self.now p u may done.far done.waits c.poison_urb.new.self c.withdraw.new.plain done.shows
          (c.withdraw.ensures.withdrawn s _ done.shows.stands may.there (still_held s f c.args.self.now p u may done.far done.waits));
    }
