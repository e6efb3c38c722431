use Rattle.std.proofs.Common.{◌≡◌, List, [], map, take, length, get_or, ap, ◌∙◌, subst, arith}
use Rattle.std.specs.Prelude.{fold}
use Rattle.usb_desc.specs.declared.tree.Alt.{Alt}
use Rattle.usb_bind.specs.Interfaces.{with_interface}
use Rattle.usb_bind.specs.Seen.{KnowsNumbers}
use Rattle.usb_bind.proofs.EndWalk.{fold_item}
use Rattle.usb_bind.proofs.settings.interfaces.Goals as goal

pub loop-alt-preserved : goal.loop-alt-preserved
loop-alt-preserved c =
    let all = c.args.config.now.alts in
    let i = c.loop-alt.alt-index in
    let same = c.items-alt-items.ensures in
    let alts = fold with_interface [] (take i all) in
    let here = c.in_ok-push_number.ensures alts c.loop-alt.invariant.0 c.loop-alt.invariant.1 in
    let step = fold_item with_interface [] all i c.alt-item.result (omega (arith, ap length same)) (c.alt-item.is ∙ ap (λ xs. get_or xs i c.alt-item.result) same) in
    let P : List Alt → Type 0 = λ alts. KnowsNumbers c.push_number.new.met alts × (c.push_number.new.numbers ≡ map (λ (a : Alt). a.number) alts) in
    subst P step here
