use Rattle.std.proofs.Common.{Result, ◌∙◌, ap, subst, length, List, arith, length-append, [], ◌∷◌}
use Rattle.usb_types.specs.declared.outside.Memory.{Memory}
use Rattle.usb_trace.specs.Plan.{machine_of}
use Rattle.usb_trace.specs.declared.rows.CallMade.{CallMade}
use Rattle.usb_threads.specs.Jobs.{IsWork}
use Rattle.usb_threads.proofs.Ongoing.{looked_self, looked_more}
use Rattle.usb_threads.proofs.Dealing.{each_pop, collected_none, collected_more}
use Rattle.usb_threads.proofs.jobs.collect.Goals as goal

pub loop-told-init : goal.loop-told-init
loop-told-init g c =
    let h = g.H.SceneHost in let host = c.args.host.now in let p = h.known c.args.main.now in let empty = c.new-seats.ensures.len in (
      c.requires.main,
      looked_self (machine_of (h.scene host)) p c.requires.sound,
      omega arith,
      c.requires.works,
      collected_none (h.is_of host) h.known (h.scene host) (h.known c.args.read.now.value) p c.new-seats.result.items c.of-made.result c.new-seats.ensures.items (c.of-made.ensures ∙ c.new.ensures.items),
    )

pub meet-requires-clause-there : goal.meet-requires-clause-there
meet-requires-clause-there g c =
    let h = g.H.SceneHost in let host = c.args.host.now in
    (each_pop (IsWork (h.is_of host) h.known (h.scene host) (h.known c.args.read.now.value) (length c.args.works.items)) c.loop-told.works.items c.pop.new.self.items c.in-Some.field-0 c.in-Some.ensures.items c.loop-told.invariant.3).1.here

pub loop-told-preserved : goal.loop-told-preserved
loop-told-preserved g c =
    let h = g.H.SceneHost in let host = c.args.host.now in let inv = c.loop-told.invariant in
    let popped = each_pop (IsWork (h.is_of host) h.known (h.scene host) (h.known c.args.read.now.value) (length c.args.works.items)) c.loop-told.works.items c.pop.new.self.items c.in-Some.field-0 c.in-Some.ensures.items inv.3 in
    let work = subst (λ (r : Result (List CallMade) Memory). IsWork (h.is_of host) h.known (h.scene host) (h.known c.args.read.now.value) (length c.args.works.items) (length c.pop.new.self.items) (record { made = r; seat = c.in-Some.field-0.seat })) c.in_ok-told.was popped.1 in
    let shorter = ap (λ (l : List _). length l) c.in-Some.ensures.items in
    let two = length-append c.pop.new.self.items (c.in-Some.field-0 ∷ []) in
    let longer = ap (λ (l : List _). length l) c.in-Ok.ensures.items in
    let one = length-append c.loop-told.seats.items (c.meet.new.other ∷ []) in (
      c.meet.ensures.here,
      looked_more (machine_of (h.scene host)) (h.known c.args.main.now) (h.known c.loop-told.main) (h.known c.meet.new.seat) inv.1 c.meet.ensures.seat,
      omega arith,
      popped.0,
      collected_more (h.is_of host) h.known (h.scene host) (h.known c.args.read.now.value) (h.known c.loop-told.main) (h.known c.meet.new.seat) (length c.args.works.items) (length c.pop.new.self.items) c.loop-told.seats.items c.push.new.self.items
          c.loop-told.made c.in_ok-told.told c.append.new.self c.in-Some.field-0.seat c.meet.new.other inv.4 work (omega arith) c.meet.ensures.seat c.meet.ensures.met c.meet.ensures.there c.meet.ensures.other c.in-Ok.ensures.items c.in_ok-append.ensures.ok,
    )
