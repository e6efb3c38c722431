use Rattle.std.proofs.Common.{◌≡◌, List, sym, subst, All, false}
use Rattle.usb_turn.specs.Pass.{Pass, AllOf}
use Rattle.usb_turn.specs.Shown.{id_of}
use Rattle.usb_turn_cases.specs.Ran.{RanAll}
use Rattle.usb_turn_cases.specs.declared.entry.Entry.{Entry}
use Rattle.usb_turn_cases.proofs.Closing.{dealt_idle, ran_all, closed_all}
use Rattle.usb_turn_cases.proofs.many.add_in_threads.Goals as goal

pub run_all-requires : goal.run_all-requires
run_all-requires g c =
    let t = id_of c.in_ok-turns.turns in
    let made = c.in_ok-turns.ensures in
    let P : List (Pass Entry) → Type 0 = λ l. All (λ p. (p.table ≡ t) × (p.has ≡ false)) l in
    (c.type_bounds.sync-R, subst P (sym made.2) (dealt_idle t c.args.threads c.args.times))

pub close-requires : goal.close-requires
close-requires g c =
    let t = id_of c.in_ok-turns.turns in
    let made = c.in_ok-turns.ensures in
    let ran = c.in-Ok.ran.items in
    let r = subst (λ l. RanAll c.args.times l ran) made.2 c.in-Ok.ensures in
    subst (λ k. AllOf t k ran) (sym made.0) (ran_all t c.args.threads c.args.times ran r)

pub returns : goal.returns
returns g c =
    let t = id_of c.in_ok-turns.turns in
    let made = c.in_ok-turns.ensures in
    let ran = c.in-Ok.ran.items in
    let ended = c.close.ensures in
    let r = subst (λ l. RanAll c.args.times l ran) made.2 c.in-Ok.ensures in
    closed_all t c.args.threads c.args.times c.close.result.total c.close.result.rows ran r (ended.0, ended.1, ended.3)
