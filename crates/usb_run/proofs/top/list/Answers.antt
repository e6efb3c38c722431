use Rattle.std.proofs.Common.{List, ◌<◌, ◌^◌, length, sym, ◌∙◌, subst}
use Rattle.usb_prepare.specs.declared.found.Found.{Found}
use Rattle.usb_run.proofs.Devices.{few_found}
use Rattle.usb_run.proofs.top.list.Goals as goal

pub push_list-requires : goal.push_list-requires
push_list-requires c =
    let found = c.items.ensures ∙ c.in_ok-prepared.ensures.found in
    subst (λ (l : List Found). length l < 2 ^ 32) (sym found) (few_found c.args.scene.now c.requires)
