use Rattle.std.proofs.Common.{◌≡◌, ◌++◌, OnOk, codes, decimal, append_assoc, subst, ap, ◌∙◌}
use Rattle.usb_report.proofs.listing.push_total.Goals as goal

pub returns : goal.returns
returns c =
    let said = codes "TotalLength " ++ decimal c.args.said in let found = codes " " ++ decimal c.args.found in
    subst (λ text. OnOk c.push_at-2.result (c.push_at-2.new.report ≡ text))
    (ap (λ text. text ++ found) c.in_ok-push_at.ensures ∙ append_assoc c.args.report.now said found) c.push_at-2.ensures
