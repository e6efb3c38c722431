use Rattle.std.proofs.Common.{false, ◌∙◌}
use Rattle.usb_machine.specs.declared.entry.TheConstants.{HUB}
use Rattle.usb_trace.specs.declared.rows.HostCall.TheVariants as host_call
use Rattle.usb_line.specs.Line.{shutting}
use Rattle.usb_line.proofs.Calling.{flags_are, was_down, made_down}
use Rattle.usb_line.proofs.run.LineRun.take_down.Goals as goal

pub returns-then-self : goal.returns-then-self
returns-then-self c s f i k may = was_down s f i k c.args.self.now may c.if-self.true

pub claim_each-requires : goal.claim_each-requires
claim_each-requires c =
    let s = c.requires.scene in let f = c.requires.far in let may = c.requires.may in
    let all = c.urb_count-urbs.ensures ∙ may.shows.all_urbs in
    record {
      scene = s;
      far = shutting s HUB f;
      is = c.begin_down.ensures s f may.good may.shows all (λ u l. flags_are s f c.requires.thread c.requires.call c.args.self.now HUB host_call.Down may u false l c.if-self.false);
      all = all;
    }

pub returns : goal.returns
returns c s f i k may =
    let run = c.args.self.now in
    let all = c.urb_count-urbs.ensures ∙ may.shows.all_urbs in
    let shut = c.begin_down.ensures s f may.good may.shows all (λ u l. flags_are s f i k run HUB host_call.Down may u false l c.if-self.false) in
    made_down s f i k run may c.urb_count-urbs.result c.claim_each.new.self c.if-self.false all (c.in_ok-claim_each.ensures s (shutting s HUB f) shut all)
