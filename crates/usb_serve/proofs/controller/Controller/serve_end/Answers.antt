use Rattle.std.proofs.Common.{◌<◌, ◌≤◌, ◌+◌, refl, sym, ap, ◌∙◌, subst, arith, length, length-set, inl, inr, true, false, List, ℕ}
use Rattle.std.specs.Prelude.{slice_get, Contains}
use Rattle.usb_serve.specs.declared.controller.Held.{Held}
use Rattle.usb_serve.specs.declared.controller.EndRow.{EndRow}
use Rattle.usb_serve.specs.Held.{with_held}
use Rattle.usb_serve.specs.Knows.{FinishesOnly, Leaves}
use Rattle.usb_machine.specs.Shapes.{HasWindow}
use Rattle.usb_serve.proofs.Lookups.{set_there}
use Rattle.usb_serve.proofs.Looks.{stays_at}
use Rattle.usb_serve.proofs.Agreeing.{open_kept}
use Rattle.usb_serve.proofs.Serves.{put_back, out_at, passes_skips, passes_waits, passes_late, ends_at}
use Rattle.usb_serve.proofs.Settling.{held_window, accepted_size, step_waits, step_ended, first_held, among, same_number, waits_on, agrees_moved, agrees_left, both_keep, both_none, left_here, left_elsewhere}
use Rattle.usb_serve.specs.SoFar.{AreSoFar, GoesOn}
use Rattle.usb_serve.proofs.SoFars.{so_weaker, so_moved, so_left}
use Rattle.usb_serve.proofs.controller.Controller.serve_end.Goals as goal

pub move_first-requires-clause-device : goal.move_first-requires-clause-device
move_first-requires-clause-device g c row at = (c.requires.agrees.layout.each c.args.ep row at).2

pub move_first-requires-clause-first : goal.move_first-requires-clause-first
move_first-requires-clause-first g c row h others at clean first =
    let q = ((c.requires.opens row at).open_so h others clean first).0 in
    (held_window (g.S.Side.knows c.args.side.now) row.shape h q, accepted_size row.shape q.start q.fits)

pub returns-in-None-clause-served : goal.returns-in-None-clause-served
returns-in-None-clause-served g c = let t = c.in-None.ensures in
    passes_skips g.S.Side.finishes g.D.Device.replies g.D.Device.items_used c.args.ep _ (GoesOn (g.S.Side.knows c.args.side.now) c.args.self.now.ends.items c.args.ep (g.S.Side.knows c.args.side.now) c.move_first.new.self.ends.items (c.args.ep + 1)) _ t.row t.at t.skipped (λ i. record { side = c.args.side.now; devices = t.same_devices i; ends = t.same_ends i })
    (λ so so_far. so_weaker (g.S.Side.knows c.args.side.now) (λ f. c.args.ep ≤ f) (λ f. c.args.ep + 1 ≤ f) so c.move_first.new.self.ends.items (λ f l. omega arith) (subst (AreSoFar (g.S.Side.knows c.args.side.now) (λ f. c.args.ep ≤ f) so) (sym t.same_ends) so_far))

pub finish-requires-clause-unfinished : goal.finish-requires-clause-unfinished
finish-requires-clause-unfinished g c = let k = g.S.Side.knows c.args.side.now in let s = c.args.self.now in let e = c.args.ep in let m = c.in-Some.moved in let t = c.in-Some.ensures in let v = t.moves in let o = c.requires.opens v.row v.at in
    let u = ap (λ (h : Held). h.urb.0) t.held_so in
    λ f. (first_held g.D.Device.replies k s c.requires.agrees e m.step v o).0.unfinished (subst k.is_finished u f)

pub returns-in-None-ended-clause-agrees : goal.returns-in-None-ended-clause-agrees
returns-in-None-ended-clause-agrees g c = let k = g.S.Side.knows c.args.side.now in let s = c.args.self.now in let e = c.args.ep in let m = c.in-Some.moved in let t = c.in-Some.ensures in let v = t.moves in let o = c.requires.opens v.row v.at in
    let mid = c.move_first.new.self in let now = c.put_first.new.self in
    let less : length v.others < v.row.held.capacity = let l = (c.requires.agrees.layout.each e v.row v.at).3 in let n = ap length v.held in omega arith in
    let put = c.put_first.ensures.put (with_held v.others v.row) (out_at s.ends.items mid.ends.items e v.row v.others v.at t.ends_so) less in
    let back = put_back s.ends.items mid.ends.items now.ends.items e v.row v.others m.held (record v.first { transfer = v.now }) true t.ends_so put t.held_so in
    let is = step_waits m.step v.runs.stopped (sym c.in-None-ended.ensures) in let stay = stays_at k in
    agrees_moved g.D.Device.replies k s c.requires.agrees e m.step v o k now c.requires.agrees.whole stay.keeps stay.none (ap (λ w. w.items) c.put_first.ensures.devices ∙ t.devices_so) true stay.pending back (inl (waits_on g.D.Device.replies k s c.requires.agrees e m.step v o is))

pub returns-in-None-ended-clause-ends : goal.returns-in-None-ended-clause-ends
returns-in-None-ended-clause-ends g c = let k = g.S.Side.knows c.args.side.now in let s = c.args.self.now in let e = c.args.ep in let m = c.in-Some.moved in let t = c.in-Some.ensures in let v = t.moves in let o = c.requires.opens v.row v.at in
    let mid = c.move_first.new.self in let now = c.put_first.new.self in
    let less : length v.others < v.row.held.capacity = let l = (c.requires.agrees.layout.each e v.row v.at).3 in let n = ap length v.held in omega arith in
    let put = c.put_first.ensures.put (with_held v.others v.row) (out_at s.ends.items mid.ends.items e v.row v.others v.at t.ends_so) less in
    ap length put ∙ (length-set mid.ends.items e _ ∙ (ap length t.ends_so ∙ length-set s.ends.items e _))

pub returns-in-None-ended-clause-served : goal.returns-in-None-ended-clause-served
returns-in-None-ended-clause-served g c = let k = g.S.Side.knows c.args.side.now in let s = c.args.self.now in let e = c.args.ep in let m = c.in-Some.moved in let t = c.in-Some.ensures in let v = t.moves in let o = c.requires.opens v.row v.at in
    let mid = c.move_first.new.self in let now = c.put_first.new.self in
    let less : length v.others < v.row.held.capacity = let l = (c.requires.agrees.layout.each e v.row v.at).3 in let n = ap length v.held in omega arith in
    let put = c.put_first.ensures.put (with_held v.others v.row) (out_at s.ends.items mid.ends.items e v.row v.others v.at t.ends_so) less in
    let back = put_back s.ends.items mid.ends.items now.ends.items e v.row v.others m.held (record v.first { transfer = v.now }) true t.ends_so put t.held_so in
    let is = step_waits m.step v.runs.stopped (sym c.in-None-ended.ensures) in
    let devices = ap (λ w. w.items) c.put_first.ensures.devices ∙ t.devices_so in
    passes_waits g.S.Side.finishes g.D.Device.replies g.D.Device.items_used e _ (GoesOn k s.ends.items e k now.ends.items (e + 1)) _ m.changed m.step is v t.says (λ i. record { side = c.args.side.now; devices = devices i; ends = back i })
    (λ so so_far. so_moved k k s c.requires.agrees (stays_at k).keeps (stays_at k).none g.D.Device.replies e m.step v now so so_far true (stays_at k).pending back (inl is))

pub returns-else-finish-clause-agrees : goal.returns-else-finish-clause-agrees
returns-else-finish-clause-agrees g c = let k = g.S.Side.knows c.args.side.now in let s = c.args.self.now in let e = c.args.ep in let m = c.in-Some.moved in let t = c.in-Some.ensures in let v = t.moves in let o = c.requires.opens v.row v.at in
    let new = g.S.Side.knows c.finish.new.self in let f = c.finish.ensures in let l = f.late c.if-finish.false in
    let mid = c.move_first.new.self in let now = c.put_first-in-Some-ended.new.self in
    let less : length v.others < v.row.held.capacity = let l = (c.requires.agrees.layout.each e v.row v.at).3 in let n = ap length v.held in omega arith in
    let put = c.put_first-in-Some-ended.ensures.put (with_held v.others v.row) (out_at s.ends.items mid.ends.items e v.row v.others v.at t.ends_so) less in
    let back = put_back s.ends.items mid.ends.items now.ends.items e v.row v.others m.held (record v.first { transfer = v.now }) false t.ends_so put t.held_so in
    agrees_moved g.D.Device.replies k s c.requires.agrees e m.step v o new now f.whole f.keeps l.1 (ap (λ w. w.items) c.put_first-in-Some-ended.ensures.devices ∙ t.devices_so) false f.pending back (inr (subst new.is_marked (ap (λ (h : Held). h.urb.0) t.held_so) l.0))

pub returns-else-finish-clause-ends : goal.returns-else-finish-clause-ends
returns-else-finish-clause-ends g c = let k = g.S.Side.knows c.args.side.now in let s = c.args.self.now in let e = c.args.ep in let m = c.in-Some.moved in let t = c.in-Some.ensures in let v = t.moves in let o = c.requires.opens v.row v.at in
    let mid = c.move_first.new.self in
    let less : length v.others < v.row.held.capacity = let l = (c.requires.agrees.layout.each e v.row v.at).3 in let n = ap length v.held in omega arith in
    let put = c.put_first-in-Some-ended.ensures.put (with_held v.others v.row) (out_at s.ends.items mid.ends.items e v.row v.others v.at t.ends_so) less in
    ap length put ∙ (length-set mid.ends.items e _ ∙ (ap length t.ends_so ∙ length-set s.ends.items e _))

pub returns-else-finish-clause-opens : goal.returns-else-finish-clause-opens
returns-else-finish-clause-opens g c d row off none at was = let k = g.S.Side.knows c.args.side.now in let s = c.args.self.now in let e = c.args.ep in let m = c.in-Some.moved in let t = c.in-Some.ensures in let v = t.moves in let o = c.requires.opens v.row v.at in
    let new = g.S.Side.knows c.finish.new.self in let f = c.finish.ensures in let l = f.late c.if-finish.false in
    let mid = c.move_first.new.self in let now = c.put_first-in-Some-ended.new.self in
    let less : length v.others < v.row.held.capacity = let l = (c.requires.agrees.layout.each e v.row v.at).3 in let n = ap length v.held in omega arith in
    let put = c.put_first-in-Some-ended.ensures.put (with_held v.others v.row) (out_at s.ends.items mid.ends.items e v.row v.others v.at t.ends_so) less in
    let back = put_back s.ends.items mid.ends.items now.ends.items e v.row v.others m.held (record v.first { transfer = v.now }) false t.ends_so put t.held_so in
    open_kept k new s s c.requires.agrees f.whole f.keeps l.1 d row (sym (ap (λ (l : List EndRow). slice_get l d) back ∙ set_there s.ends.items e d _ off) ∙ at) f.pending was

pub returns-else-finish-clause-served : goal.returns-else-finish-clause-served
returns-else-finish-clause-served g c = let k = g.S.Side.knows c.args.side.now in let s = c.args.self.now in let e = c.args.ep in let m = c.in-Some.moved in let t = c.in-Some.ensures in let v = t.moves in let o = c.requires.opens v.row v.at in
    let f = c.finish.ensures in
    let mid = c.move_first.new.self in let now = c.put_first-in-Some-ended.new.self in
    let less : length v.others < v.row.held.capacity = let l = (c.requires.agrees.layout.each e v.row v.at).3 in let n = ap length v.held in omega arith in
    let put = c.put_first-in-Some-ended.ensures.put (with_held v.others v.row) (out_at s.ends.items mid.ends.items e v.row v.others v.at t.ends_so) less in
    let back = put_back s.ends.items mid.ends.items now.ends.items e v.row v.others m.held (record v.first { transfer = v.now }) false t.ends_so put t.held_so in
    let devices = ap (λ w. w.items) c.put_first-in-Some-ended.ensures.devices ∙ t.devices_so in
    let code = c.in-Some-ended.code in
    let is = step_ended m.step code (sym c.in-Some-ended.ensures) in
    let answered = subst (λ (h : Held). g.S.Side.finishes c.args.side.now h.urb code false c.finish.new.self) t.held_so (subst (λ b. g.S.Side.finishes c.args.side.now m.held.urb code b c.finish.new.self) c.if-finish.false f.finishes) in
    let new = g.S.Side.knows c.finish.new.self in let l = f.late c.if-finish.false in
    passes_late g.S.Side.finishes g.D.Device.replies g.D.Device.items_used e _ (GoesOn k s.ends.items e new now.ends.items (e + 1)) _ m.changed m.step code is v t.says c.finish.new.self answered (λ i. record { side = c.finish.new.self; devices = devices i; ends = back i })
    (λ so so_far. so_moved k new s c.requires.agrees f.keeps l.1 g.D.Device.replies e m.step v now so so_far false f.pending back (inr (subst new.is_marked (ap (λ (h : Held). h.urb.0) t.held_so) l.0)))

pub give-requires-clause-pending : goal.give-requires-clause-pending
give-requires-clause-pending g c = let k = g.S.Side.knows c.args.side.now in let s = c.args.self.now in let e = c.args.ep in let m = c.in-Some.moved in let t = c.in-Some.ensures in let v = t.moves in let o = c.requires.opens v.row v.at in
    let new = g.S.Side.knows c.finish.new.self in
    (e, subst (λ (us : List ℕ). Contains us m.held.urb.0) (sym (c.finish.ensures.pending e)) (subst (λ (h : Held). Contains (k.pending e) h.urb.0) (sym t.held_so) (among g.D.Device.replies k s c.requires.agrees e m.step v o)))

pub give-requires-clause-taken : goal.give-requires-clause-taken
give-requires-clause-taken g c = let k = g.S.Side.knows c.args.side.now in let s = c.args.self.now in let e = c.args.ep in let m = c.in-Some.moved in let t = c.in-Some.ensures in let v = t.moves in let o = c.requires.opens v.row v.at in
    let new = g.S.Side.knows c.finish.new.self in let n = same_number g.D.Device.replies k s c.requires.agrees e m.step v o in let a = among g.D.Device.replies k s c.requires.agrees e m.step v o in
    let sent = c.finish.ensures.keeps.sent e v.first.urb.0 n.0 a (subst (λ (us : List ℕ). Contains us v.first.urb.0) (sym (c.finish.ensures.pending e)) a) n.1 in
    (n.0, subst (λ (h : Held). new.was_sent h.urb.0 n.0) (sym t.held_so) sent, ap (λ (h : Held). h.transfer.number) t.held_so ∙ n.2)

pub give-requires-clause-window : goal.give-requires-clause-window
give-requires-clause-window g c = let t = c.in-Some.ensures in let v = t.moves in subst (λ (h : Held). HasWindow h.transfer) (sym t.held_so) v.runs.window

pub returns-then-finish-clause-agrees : goal.returns-then-finish-clause-agrees
returns-then-finish-clause-agrees g c = let k = g.S.Side.knows c.args.side.now in let s = c.args.self.now in let e = c.args.ep in let m = c.in-Some.moved in let t = c.in-Some.ensures in let v = t.moves in let o = c.requires.opens v.row v.at in
    let f = c.finish.ensures in let w = c.give.ensures in let mid = g.S.Side.knows c.finish.new.self in let new = g.S.Side.knows c.give.new.self in
    let only = subst (λ (h : Held). FinishesOnly h.urb.0 k mid) t.held_so f.only in
    let leaves = subst (λ (h : Held). Leaves mid new h.urb.0) t.held_so w.leaves in
    agrees_left g.D.Device.replies k s c.requires.agrees e m.step v o new c.move_first.new.self w.whole
    (both_keep g.D.Device.replies k s c.requires.agrees e m.step v o mid new f.pending f.keeps only leaves w.keeps w.none)
    (both_none g.D.Device.replies k s c.requires.agrees e m.step v o mid new f.pending f.keeps only leaves w.keeps w.none) t.devices_so t.ends_so
    (left_here g.D.Device.replies k s c.requires.agrees e m.step v o mid new f.pending f.keeps only leaves w.keeps w.none)
    (left_elsewhere g.D.Device.replies k s c.requires.agrees e m.step v o mid new f.pending f.keeps only leaves w.keeps w.none)

pub returns-then-finish-clause-served : goal.returns-then-finish-clause-served
returns-then-finish-clause-served g c = let k = g.S.Side.knows c.args.side.now in let s = c.args.self.now in let e = c.args.ep in let m = c.in-Some.moved in let t = c.in-Some.ensures in let v = t.moves in let o = c.requires.opens v.row v.at in
    let f = c.finish.ensures in
    let code = c.in-Some-ended.code in
    let is = step_ended m.step code (sym c.in-Some-ended.ensures) in
    let answered = subst (λ (h : Held). g.S.Side.finishes c.args.side.now h.urb code true c.finish.new.self) t.held_so (subst (λ b. g.S.Side.finishes c.args.side.now m.held.urb code b c.finish.new.self) c.if-finish.true f.finishes) in
    let gave = subst (λ (h : Held). g.S.Side.gives c.finish.new.self h.urb h.transfer c.give.result c.give.new.self) t.held_so c.give.ensures.gives in
    let w = c.give.ensures in let mid = g.S.Side.knows c.finish.new.self in let new = g.S.Side.knows c.give.new.self in
    let only = subst (λ (h : Held). FinishesOnly h.urb.0 k mid) t.held_so f.only in
    let leaves = subst (λ (h : Held). Leaves mid new h.urb.0) t.held_so w.leaves in (
      ends_at g.S.Side.finishes g.S.Side.gives g.D.Device.replies g.D.Device.items_used e _ _ c.give.result m.step code is v c.finish.new.self answered gave (λ i. record { side = c.give.new.self; devices = t.devices_so i; ends = t.ends_so i }),
      refl,
      λ so so_far. so_left k new s c.requires.agrees
          (both_keep g.D.Device.replies k s c.requires.agrees e m.step v o mid new f.pending f.keeps only leaves w.keeps w.none)
          (both_none g.D.Device.replies k s c.requires.agrees e m.step v o mid new f.pending f.keeps only leaves w.keeps w.none) g.D.Device.replies e m.step v c.move_first.new.self so so_far t.ends_so
          (left_here g.D.Device.replies k s c.requires.agrees e m.step v o mid new f.pending f.keeps only leaves w.keeps w.none)
          (left_elsewhere g.D.Device.replies k s c.requires.agrees e m.step v o mid new f.pending f.keeps only leaves w.keeps w.none),
    )
