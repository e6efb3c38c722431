use Rattle.std.proofs.Common.{◌<◌, sym, subst}
use Rattle.usb_line.specs.Line.{killing}
use Rattle.usb_line.proofs.Stopping.{stop_killing}
use Rattle.usb_line.proofs.Killing.{plain_urbs, quiet_then, reject_holds, shows_claim}
use Rattle.usb_line.proofs.run.LineRun.poison_urb.Goals as goal

pub claim-requires : goal.claim-requires
claim-requires c =
    let may = c.requires.may in let s = c.requires.scene in let f = c.requires.far in let u = c.args.urb.0 in
    let waited = c.in_ok-wait_for.ensures.waited s (killing c.args.pass u f) may.good (c.begin_kill.ensures s f may) (stop_killing f may.shows.calm c.args.pass u) in
    subst (λ n. u < n) (sym (plain_urbs s waited.far c.wait_for.new.self waited.shows)) may.near

pub returns : goal.returns
returns c s f may =
    let p = c.args.pass in let u = c.args.urb.0 in
    let waited = c.in_ok-wait_for.ensures.waited s (killing p u f) may.good (c.begin_kill.ensures s f may) (stop_killing f may.shows.calm p u) in
    let quiet = quiet_then s f c.args.self.now p u may waited.far waited.waits in
    let claimed = c.claim.ensures.claimed s waited.far.history waited.shows.stands may.there quiet.0 quiet.1 (reject_holds s f c.args.self.now p u may waited.far waited.waits) in
    record {
      far = waited.far;
      waits = waited.waits;
      told = claimed.0;
      shows = shows_claim s f c.args.self.now p u may waited.far waited.waits c.wait_for.new.self c.claim.new.plain c.claim.result waited.shows claimed.0 claimed.1;
    }
