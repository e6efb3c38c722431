use Rattle.std.proofs.Common.{◌≡◌, ◌+◌, [], take, drop, length, get_or, sym, ap, ◌∙◌, arith}
use Rattle.std.specs.Prelude.{fold, position}
use Rattle.std.proofs.lemmas.List.{take-append-drop, take_all}
use Rattle.std.proofs.lemmas.List.Sums.{fold-append}
use Rattle.usb_desc.specs.Growth.{has_end}
use Rattle.usb_bind.specs.Interfaces.{with_interface, interfaces_of}
use Rattle.usb_bind.specs.Seen.{ends_from}
use Rattle.usb_bind.proofs.EndWalk.{fold_item, place_kept_on, no_place, at_address}
use Rattle.usb_bind.proofs.ends.place_of.Goals as goal

pub returns-in-Some-clause-exact : goal.returns-in-Some-clause-exact
returns-in-Some-clause-exact c =
    let all = c.args.config.now.alts in
    let i = c.loop-alt.alt-index in
    let same = c.items-alt-items.ensures in
    let address = c.args.address in
    let inv = c.loop-alt.invariant in
    let alts = fold with_interface [] (take i all) in
    let here = (c.in-Some.ensures.place alts inv.0 inv.1 inv.2).0 in
    let step = fold_item with_interface [] all i c.alt-item.result (omega (arith, ap length same)) (c.alt-item.is ∙ ap (λ xs. get_or xs i c.alt-item.result) same) in
    let now = ap (λ alts. position (at_address address) (ends_from alts)) (sym step) ∙ here in
    let rest = drop (i + 1) all in
    let whole : interfaces_of c.args.config.now ≡ fold with_interface (fold with_interface [] (take (i + 1) all)) rest =
    ap (fold with_interface []) (sym (take-append-drop (i + 1) all)) ∙ fold-append with_interface [] (take (i + 1) all) rest in
    sym (ap (λ alts. position (at_address address) (ends_from alts)) whole
    ∙ place_kept_on (fold with_interface [] (take (i + 1) all)) rest address c.in-Some.place now)

pub returns-clause-exact : goal.returns-clause-exact
returns-clause-exact c =
    let all = c.args.config.now.alts in
    let i = c.loop-alt.alt-index in
    let same = c.items-alt-items.ensures in
    let whole = ap (fold with_interface []) (take_all i all (omega (arith, ap length same))) in
    no_place (ends_from (interfaces_of c.args.config.now)) c.args.address
    (ap (λ alts. has_end (ends_from alts) c.args.address) (sym whole) ∙ c.loop-alt.invariant.2)
