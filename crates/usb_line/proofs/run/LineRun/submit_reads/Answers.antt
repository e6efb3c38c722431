use Rattle.std.proofs.Common.{◌≡◌, ◌<◌, cond, length, Some, sym, ap, ◌∙◌, arith}
use Rattle.std.specs.Prelude.{slice_get}
use Rattle.std.proofs.lemmas.Option.{slice_get-get_or}
use Rattle.usb_prepare.proofs.Facts.{few_urbs}
use Rattle.usb_prepare.specs.Layout.{urb_count}
use Rattle.usb_trace.specs.Plan.{is_numbered_by, owner_of}
use Rattle.usb_line.specs.Reads.{MayRead}
use Rattle.usb_line.proofs.Reading.{few_numbers, few_more, number_next}
use Rattle.usb_line.proofs.run.LineRun.submit_reads.Goals as goal

pub overflow_add-number : goal.overflow_add-number
overflow_add-number c =
    let s = c.requires.scene in
    let is = (c.loop-urb.invariant s c.requires.may).1 in
    let few = few_urbs s c.requires.may.good in
    let all = c.requires.may.shows.all_urbs in
    let count = c.urb_count-urb-end.ensures in
    let near = c.loop-urb-test.true in
    let most = few_numbers s c.loop-urb.urb in
    let one = few_more (is_numbered_by c.index.result.now.owner) c.numbers-number.result c.numbers-number.ensures in
    omega arith

pub loop-urb-preserved : goal.loop-urb-preserved
loop-urb-preserved c = λ s may.
    let shows = (c.loop-urb.invariant s may).0 in
    let numbered = (c.loop-urb.invariant s may).1 in
    let run = c.loop-urb.self in
    let u = c.loop-urb.urb in
    let row = c.index.result.now in
    let all = may.shows.all_urbs in
    let count = c.urb_count-urb-end.ensures in
    let test = c.loop-urb-test.true in
    let near : u < urb_count s = omega arith in
    let there : u < length run.urbs.items = (let now = shows.all_urbs in omega arith) in
    let at : slice_get run.urbs.items u ≡ Some row = slice_get-get_or run.urbs.items u row there ∙ ap Some (sym c.index.ensures) in
    let owned : row.owner ≡ owner_of s u = (shows.each_urb u row at).owner in
    let read : MayRead s run c.args.pass u row.owner c.loop-urb.number = record { good = may.good; shows = shows; near = near; pass = may.pass; owned = owned; numbered = numbered } in
    (c.in_ok-submit_read.ensures s read, number_next s u c.loop-urb.number row.owner c.numbers-number.result numbered owned (c.numbers-number.ensures ∙ ap (λ o. cond (is_numbered_by o) 1 0) owned))
