use Rattle.std.proofs.Common.{◌<◌, [], sym, subst}
use Rattle.usb_line.specs.Line.{none}
use Rattle.usb_line.proofs.Killing.{plain_urbs}
use Rattle.usb_line.proofs.Shutting.{hub_there, claim_quiet, claim_holds, one_claimed}
use Rattle.usb_line.proofs.run.LineRun.claim_each.Goals as goal

pub loop-u-init : goal.loop-u-init
loop-u-init c s f is all = record { rests = []; far = f; claims = none; is = is }

pub wait_for-requires-clause-shown : goal.wait_for-requires-clause-shown
wait_for-requires-clause-shown c =
    let at = c.loop-u.invariant c.requires.scene c.requires.far c.requires.is c.requires.all in
    record { scene = c.requires.scene; good = at.is.good; far = at.far; shows = at.is.shows }

pub wait_for-requires-clause-urb : goal.wait_for-requires-clause-urb
wait_for-requires-clause-urb c =
    let at = c.loop-u.invariant c.requires.scene c.requires.far c.requires.is c.requires.all in
    subst (λ n. c.loop-u.u < n) (sym at.is.shows.all_urbs) (subst (λ n. c.loop-u.u < n) c.requires.all c.loop-u-test.true)

pub claim-requires : goal.claim-requires
claim-requires c =
    let s = c.requires.scene in
    let at = c.loop-u.invariant s c.requires.far c.requires.is c.requires.all in
    let near = subst (λ n. c.loop-u.u < n) c.requires.all c.loop-u-test.true in
    let w = c.in_ok-wait_for.ensures.waited s at.far at.is.good at.is.shows (at.is.stops c.loop-u.u near) in
    subst (λ n. c.loop-u.u < n) (sym (plain_urbs s w.far c.wait_for.new.self w.shows)) near

pub loop-u-preserved : goal.loop-u-preserved
loop-u-preserved c s f is all =
    let u = c.loop-u.u in
    let at = c.loop-u.invariant s f is all in
    let near = subst (λ n. u < n) all c.loop-u-test.true in
    let w = c.in_ok-wait_for.ensures.waited s at.far at.is.good at.is.shows (at.is.stops u near) in
    let quiet = claim_quiet s f u c.loop-u.self at near c.wait_for.new.self w in
    let done = c.claim.ensures.claimed s w.far.history w.shows.stands (hub_there s) quiet.0 quiet.1 (claim_holds s f u c.loop-u.self at near c.wait_for.new.self w) in
    one_claimed s f u c.loop-u.self at near c.wait_for.new.self w c.claim.new.plain c.claim.result done.0 done.1
