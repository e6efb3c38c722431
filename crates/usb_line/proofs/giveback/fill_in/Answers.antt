use Rattle.std.proofs.Common.{◌≡◌, ◌-◌, ap, ◌∙◌}
use Rattle.usb_line.proofs.GivingBack.{last_filled}
use Rattle.usb_line.proofs.giveback.fill_in.Goals as goal

pub returns : goal.returns
returns c = λ rows row is. last_filled c.args.given.now.items rows row c.index_mut.result.now c.args.outcome (c.len-last.result - 1) is
    (ap (λ n. n - 1) (c.len-last.ensures ∙ c.args.given.now.ok.0)) c.index_mut.ensures.value
