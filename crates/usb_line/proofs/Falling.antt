-- Fewer turns are left as transfers come back.
use Rattle.std.proofs.Common.{ℕ, zero, suc, ◌≡◌, ◌≢◌, ◌+◌, ◌-◌, ◌<◌, ◌≤◌, Bool, true, false, cond, Option, Some, None, List, [], ◌∷◌, ◌++◌, length, take, drop, refl, sym, ap, ◌∙◌, subst, arith, append_assoc, append-nil, length-append, add-zero, true≢false}
use Rattle.std.specs.Prelude.{slice_get, slice_set, sum_by, nat_lt}
use Rattle.std.proofs.lemmas.List.Sums.{sum_by-set}
use Rattle.std.proofs.lemmas.Option.{slice_get_within, get_or_from_slice_get}
use Rattle.std.proofs.lemmas.Bool.Decides.{nat_tests}
use Rattle.std.proofs.lemmas.Grind.{common_steps}
use Rattle.std.proofs.Math.Seq.{take-append_seam}
use Rattle.usb_types.specs.declared.errno.Errno.TheVariants.{EPIPE}
use Rattle.usb_types.specs.declared.errno.Code.{Code}
use Rattle.usb_types.specs.declared.errno.Code.TheVariants.{Zero, Fault}
use Rattle.usb_types.specs.declared.urb.Role.{Role}
use Rattle.usb_types.specs.declared.urb.Role.TheVariants.{In, Note, Read0, Read1, Write, Ctl}
use Rattle.usb_types.specs.declared.urb.Action.{Action}
use Rattle.usb_types.specs.declared.urb.Action.TheVariants as action
use Rattle.usb_machine.specs.declared.layout.Shape.{Shape}
use Rattle.usb_machine.specs.declared.transfer.Transfer.{Transfer}
use Rattle.usb_machine.specs.Shapes.{HasWindow}
use Rattle.usb_xfer.specs.declared.script.What.TheVariants.{Ack, Nak, Stall, Error, Packet}
use Rattle.usb_xfer.specs.declared.packet.Step.{Step}
use Rattle.usb_xfer.specs.declared.packet.Step.TheVariants.{More, Ended}
use Rattle.usb_xfer.specs.Direction.{Direction, In as Input, Out, ControlIn, ControlOut, goes_in, is_control, setup_in, direction_of, asked_at}
use Rattle.usb_xfer.specs.Replies.{Reply}
use Rattle.usb_xfer.specs.Input.{with_bytes, good_bytes}
use Rattle.usb_xfer.specs.Control.{data_in}
use Rattle.usb_xfer.specs.Moved.{moved, moved_by, stops_by, code_by, is_nak, state_by, moved_state, IsOpen}
use Rattle.usb_xfer.specs.On.{Gave, nothing, one_more, Stops}
use Rattle.usb_xfer.proofs.Ends.{stop_at, state_after}
use Rattle.usb_xfer.proofs.Windows.{moved_window}
use Rattle.usb_device.specs.declared.scripted.Scripted.{Scripted}
use Rattle.usb_device.specs.Left.{items_left, is_spent}
use Rattle.usb_device.specs.Replied.{Replied}
use Rattle.usb_bind.specs.declared.row.Driver.{Driver}
use Rattle.usb_bind.specs.declared.row.Driver.TheVariants.{Keyboard, Acm, Printer}
use Rattle.usb_class.specs.Handler.{action_of, goes_again, window_by, goes_on, is_ctl}
use Rattle.usb_class.proofs.Facts.{is_write, again_reads, again_writes, again_packets}
use Rattle.usb_scene.specs.declared.scene.Scene.{Scene}
use Rattle.usb_scene.specs.WellFormed.{IsWellFormed}
use Rattle.usb_prepare.specs.Ends.{shape_at}
use Rattle.usb_prepare.specs.Layout.{home}
use Rattle.usb_prepare.proofs.Facts.{brings}
use Rattle.usb_class.specs.declared.owner.Owner.{Owner}
use Rattle.usb_trace.specs.declared.rows.Outcome.{Outcome}
use Rattle.usb_trace.specs.declared.rows.Outcome.TheVariants as outcome
use Rattle.usb_line.specs.declared.run.UrbRow.{UrbRow}
use Rattle.usb_line.specs.declared.run.LineRun.{LineRun}
use Rattle.usb_trace.specs.Plan.{owner_of}
use Rattle.usb_machine.specs.Completion.{after_window}
use Rattle.usb_line.specs.Shows.{rank, held, turns_left}
use Rattle.usb_trace.specs.Devices.{IsApt}
use Rattle.usb_line.specs.Back.{is_again, left_by, row_back}
use Rattle.usb_trace.proofs.Owners.{owner_end}

-- a sum changes with what stands at one place: it falls with it, and does not rise with it
sum_changes : {X : Type 0} (f : X → ℕ) (xs : List X) (i : ℕ) (x y : X) → slice_get xs i ≡ Some x → sum_by f (slice_set xs i y) + f x ≡ sum_by f xs + f y
sum_changes f xs i x y at =
    let change = sum_by-set f xs i y x (slice_get_within xs i x at) in
    let read = ap f (get_or_from_slice_get xs i x x at) in omega arith

sum_falls : {X : Type 0} (f : X → ℕ) (xs : List X) (i : ℕ) (x y : X) → slice_get xs i ≡ Some x → f y < f x → sum_by f (slice_set xs i y) < sum_by f xs
sum_falls f xs i x y at less = let change = sum_changes f xs i x y at in omega arith

sum_keeps : {X : Type 0} (f : X → ℕ) (xs : List X) (i : ℕ) (x y : X) → slice_get xs i ≡ Some x → f y ≤ f x → sum_by f (slice_set xs i y) ≤ sum_by f xs
sum_keeps f xs i x y at less = let change = sum_changes f xs i x y at in omega arith

-- what an URB has left, and all devices
abbrev pub weight : UrbRow → ℕ
weight row = row.again + held row.owner row.transfer

abbrev pub all_left : List Scripted → ℕ
all_left devices = sum_by items_left devices

some_left : (n : ℕ) → true ≡ nat_lt 0 n → 0 < n
some_left n e = grind (arith, nat_tests)

some_rank : (owner : Option Owner) → 0 < rank owner
some_rank None = omega arith
some_rank (Some o) = go (is_ctl o.role)
  where
    go : (b : Bool) → 0 < cond b 1 2
    go true = omega arith
    go false = omega arith

-- what an URB has left when the transfer that it held came back as `now`: less where it rests, and where it goes again by the
-- scene's leave or with a window that stands further on; and no more where the window stands not further back
module _ (owner : Option Owner) (t now : Transfer) (action : Action) where
  abbrev left_back : Outcome → ℕ → ℕ
  left_back o n = n - 1 + held owner (left_by o action now)

  back_none : (o : Outcome) (n : ℕ) → left_by o action now ≡ None → left_back o n < n + held owner (Some t)
  back_none o n is = let rests = ap (held owner) is in let some = some_rank owner in omega arith

  back_rests : (o : Outcome) (n : ℕ) → is_again o ≡ false → left_back o n < n + held owner (Some t)
  back_rests outcome.Rest n is = back_none outcome.Rest n refl
  back_rests (outcome.Asked code) n is = back_none (outcome.Asked code) n refl
  back_rests (outcome.Again code) n is = absurd (true≢false is)

  back_keeps : (o : Outcome) (n : ℕ) → after_window (window_by action now) ≤ after_window t → left_back o n ≤ n + held owner (Some t)
  back_keeps (outcome.Again Zero) n less = omega arith
  back_keeps (outcome.Again (Fault c)) n less = let fell = back_none (outcome.Again (Fault c)) n refl in omega arith
  back_keeps outcome.Rest n less = let fell = back_none outcome.Rest n refl in omega arith
  back_keeps (outcome.Asked code) n less = let fell = back_none (outcome.Asked code) n refl in omega arith

  back_after : (o : Outcome) (n : ℕ) → after_window (window_by action now) < after_window t → left_back o n < n + held owner (Some t)
  back_after (outcome.Again Zero) n less = omega arith
  back_after (outcome.Again (Fault c)) n less = back_none (outcome.Again (Fault c)) n refl
  back_after outcome.Rest n less = back_none outcome.Rest n refl
  back_after (outcome.Asked code) n less = back_none (outcome.Asked code) n refl

  back_again : (o : Outcome) (n : ℕ) → is_again o ≡ nat_lt 0 n → after_window (window_by action now) ≤ after_window t → left_back o n < n + held owner (Some t)
  back_again (outcome.Again Zero) n is less = let some = some_left n is in omega arith
  back_again (outcome.Again (Fault c)) n is less = back_none (outcome.Again (Fault c)) n refl
  back_again outcome.Rest n is less = back_none outcome.Rest n refl
  back_again (outcome.Asked code) n is less = back_none (outcome.Asked code) n refl

-- what the URB had left, and has
weight_was : (row : UrbRow) (t : Transfer) → Some t ≡ row.transfer → weight row ≡ row.again + held row.owner (Some t)
weight_was row t is = ap (λ x. row.again + held row.owner x) (sym is)

weight_now : (row mid : UrbRow) (now : Transfer) (o : Outcome) (action : Action) → mid.again ≡ row.again → mid.owner ≡ row.owner → weight (row_back o action now mid) ≡ row.again - 1 + held row.owner (left_by o action now)
weight_now row mid now o action same owned = λ i. same i - 1 + held (owned i) (left_by o action now)

module _ (run new : LineRun) (u : ℕ) (row : UrbRow) (t now : Transfer) (at : slice_get run.urbs.items u ≡ Some row) (had : Some t ≡ row.transfer) (o : Outcome) (action : Action) (mid : UrbRow)
    (same : mid.again ≡ row.again) (owned : mid.owner ≡ row.owner) (rows : new.urbs.items ≡ slice_set run.urbs.items u (row_back o action now mid)) where
  was : weight row ≡ row.again + held row.owner (Some t)
  was = weight_was row t had

  left_now : weight (row_back o action now mid) ≡ row.again - 1 + held row.owner (left_by o action now)
  left_now = weight_now row mid now o action same owned

  sum : sum_by weight new.urbs.items ≡ sum_by weight (slice_set run.urbs.items u (row_back o action now mid))
  sum = ap (sum_by weight) rows

  falls_row : weight (row_back o action now mid) < weight row → all_left new.devices.items ≤ all_left run.devices.items → turns_left new < turns_left run
  falls_row less keeps = let after = sum in let fell = sum_falls weight run.urbs.items u row (row_back o action now mid) at less in omega arith

  -- it comes back by the scene's leave
  pub falls_own : is_again o ≡ nat_lt 0 mid.again → after_window (window_by action now) ≤ after_window t → all_left new.devices.items ≤ all_left run.devices.items → turns_left new < turns_left run
  falls_own is stays keeps =
      let before = was in let after = left_now in let less = back_again row.owner t now action o row.again (is ∙ ap (nat_lt 0) same) stays in falls_row (omega arith) keeps

  -- it rests
  pub falls_resting : is_again o ≡ false → all_left new.devices.items ≤ all_left run.devices.items → turns_left new < turns_left run
  falls_resting is keeps =
      let before = was in let after = left_now in let less = back_rests row.owner t now action o row.again is in falls_row (omega arith) keeps

  -- it used an item
  pub falls_spent : after_window (window_by action now) ≤ after_window t → all_left new.devices.items < all_left run.devices.items → turns_left new < turns_left run
  falls_spent stays less =
      let before = was in let after = left_now in let keeps = back_keeps row.owner t now action o row.again stays in let added = sum in
      let rows = sum_keeps weight run.urbs.items u row (row_back o action now mid) at (omega arith) in omega arith

  -- it goes on after its window
  pub falls_after : after_window (window_by action now) < after_window t → all_left new.devices.items ≤ all_left run.devices.items → turns_left new < turns_left run
  falls_after on keeps =
      let before = was in let after = left_now in let less = back_after row.owner t now action o row.again on in falls_row (omega arith) keeps

-- another place keeps what stands there
set_other : {X : Type 0} (xs : List X) (i j : ℕ) (y x : X) → j ≢ i → slice_get xs j ≡ Some x → slice_get (slice_set xs i y) j ≡ Some x
set_other [] i j y x off at = at
set_other (z ∷ xs) zero zero y x off at = absurd (off refl)
set_other (z ∷ xs) zero (suc j) y x off at = at
set_other (z ∷ xs) (suc i) zero y x off at = at
set_other (z ∷ xs) (suc i) (suc j) y x off at = set_other xs i j y x (λ q. off (ap (λ k. suc k) q)) at

-- a driver that rests a job and asks has less left, since its question weighs less
pub falls_asked : (run new : LineRun) (u : ℕ) (row : UrbRow) (t now : Transfer) → slice_get run.urbs.items u ≡ Some row → Some t ≡ row.transfer → (o : Outcome) (action : Action) (mid : UrbRow) → mid.again ≡ row.again → mid.owner ≡ row.owner
    → is_again o ≡ false → rank row.owner ≡ 2
    → (v : ℕ) (asked : UrbRow) (q : Transfer) → v ≢ u → slice_get run.urbs.items v ≡ Some asked → asked.transfer ≡ None → rank asked.owner ≡ 1 → after_window q ≡ 0
    → new.urbs.items ≡ slice_set (slice_set run.urbs.items u (row_back o action now mid)) v (record asked { transfer = Some q })
    → all_left new.devices.items ≤ all_left run.devices.items → turns_left new < turns_left run
falls_asked run new u row t now at had o action mid same owned is job v asked q off there idle ctl none rows keeps =
    let xs : List UrbRow = run.urbs.items in let back : UrbRow = row_back o action now mid in let posed : UrbRow = record asked { transfer = Some q } in
    let before = weight_was row t had in
    let after = weight_now row mid now o action same owned ∙ ap (λ x. row.again - 1 + held row.owner x) (rests o is) in
    let idle_one : weight asked ≡ asked.again = ap (λ x. asked.again + held asked.owner x) idle ∙ add-zero asked.again in
    let first = sum_changes weight xs u row back at in
    let second = sum_changes weight (slice_set xs u back) v asked posed (set_other xs u v back asked off there) in
    let all : sum_by weight new.urbs.items ≡ sum_by weight (slice_set (slice_set xs u back) v posed) = ap (sum_by weight) rows in
    omega arith
  where
    rests : (o : Outcome) → is_again o ≡ false → left_by o action now ≡ None
    rests outcome.Rest is = refl
    rests (outcome.Asked code) is = refl
    rests (outcome.Again code) is = absurd (true≢false is)

-- an URB that waits has as much left
pub waits_keeps : (run new : LineRun) (u : ℕ) (row : UrbRow) (t now : Transfer) → slice_get run.urbs.items u ≡ Some row → Some t ≡ row.transfer → after_window now ≡ after_window t → new.urbs.items ≡ slice_set run.urbs.items u (record row { transfer = Some now })
    → all_left new.devices.items ≤ all_left run.devices.items → turns_left new ≤ turns_left run
waits_keeps run new u row t now at had stays rows keeps =
    let before = weight_was row t had in
    let after : sum_by weight new.urbs.items ≡ sum_by weight (slice_set run.urbs.items u (record row { transfer = Some now })) = ap (sum_by weight) rows in
    let rows = sum_keeps weight run.urbs.items u row (record row { transfer = Some now }) at (omega arith) in omega arith

-- bytes that are put into the window leave the buffer as long as it was
same_buffer : (buf : List ℕ) (from : ℕ) (bytes : List ℕ) → from + length bytes ≤ length buf → length (take from buf ++ bytes ++ drop (from + length bytes) buf) ≡ length buf
same_buffer buf from bytes l = grind (arith, common_steps)

-- what a transfer has after its window stays, however it is moved
with_after : (t : Transfer) (bytes : List ℕ) → HasWindow t → length bytes ≤ t.len → after_window (with_bytes t bytes) ≡ after_window t
with_after t bytes has fits = let within = has.window in ap (λ n. n - (t.from + t.len)) (same_buffer t.buf t.from bytes (omega arith))

moved_behind_by : (d : Direction) (max : ℕ) (t : Transfer) (replies : List Reply) → HasWindow t → HasWindow (moved_by d max t replies) → after_window (moved_by d max t replies) ≡ after_window t
moved_behind_by Input max t replies has now = with_after t (good_bytes max t.len [] replies) has now.within
moved_behind_by Out max t replies has now = refl
moved_behind_by ControlIn max t replies has now = with_after t (data_in t.len replies) has now.within
moved_behind_by ControlOut max t replies has now = refl

pub moved_after : (shape : Shape) (t : Transfer) (replies : List Reply) → HasWindow t → after_window (moved shape t replies) ≡ after_window t
moved_after shape t replies has = moved_behind_by (direction_of shape t) shape.max t replies has (moved_window shape t replies has)

-- a device that replies has no more items left, and fewer where its last reply came from one
gave_keeps : (shape : Shape) (t : Transfer) (d : Scripted) (rs : List Reply) (now : Transfer) (e : Scripted) → Gave Replied shape t d rs now e → items_left e ≤ items_left d
gave_keeps shape t d _ _ _ nothing = omega arith
gave_keeps shape t d _ _ _ (one_more rs now m r e g one) = let before = gave_keeps shape t d rs now m g in let last = one.left in omega arith

gave_spent : (shape : Shape) (t : Transfer) (d : Scripted) (rs : List Reply) (now : Transfer) (e : Scripted) → Gave Replied shape t d rs now e → 0 < length rs → asked_at shape ≢ 0
    → ((before : List Reply) (r : Reply) → rs ≡ before ++ r ∷ [] → is_spent (asked_at shape) r ≡ true) → items_left e < items_left d
gave_spent shape t d _ _ _ nothing some off last = absurd (omega arith)
gave_spent shape t d _ _ _ (one_more rs now m r e g one) some off last = let before = gave_keeps shape t d rs now m g in let fell = one.spent off (last rs r refl) in omega arith

-- and so have all devices
module _ (devices new : List Scripted) (d : ℕ) (x y : Scripted) (at : slice_get devices d ≡ Some x) (is : new ≡ slice_set devices d y) where
  pub devices_keep : (shape : Shape) (t : Transfer) (rs : List Reply) (now : Transfer) → Gave Replied shape t x rs now y → all_left new ≤ all_left devices
  devices_keep shape t rs now gave = let same = ap all_left is in let keeps = sum_keeps items_left devices d x y at (gave_keeps shape t x rs now y gave) in omega arith

  pub devices_fall : items_left y < items_left x → all_left new < all_left devices
  devices_fall less = let same = ap all_left is in let fell = sum_falls items_left devices d x y at less in omega arith

-- what a driver goes on with stands not further back, and a job further on
pub job_narrows : (driver : Driver) (status : Code) (t : Transfer) (from len : ℕ) → action_of driver Write status t ≡ action.Again from len → after_window (window_by (action.Again from len) t) < after_window t
job_narrows driver status t from len is = let next = again_writes driver status t from len is in let start = next.0 in let within = next.1 in let some = next.2 in omega arith

pub again_narrows : (driver : Driver) (role : Role) (status : Code) (t : Transfer) (from len : ℕ) → action_of driver role status t ≡ action.Again from len → after_window (window_by (action.Again from len) t) ≤ after_window t
again_narrows driver role status t from len is = go role is (is_write role) refl
  where
    go : (role : Role) → action_of driver role status t ≡ action.Again from len → (b : Bool) → is_write role ≡ b → after_window (window_by (action.Again from len) t) ≤ after_window t
    go Write is true e = let less = job_narrows driver status t from len is in omega arith
    go role is true e = absurd (true≢false (sym e))
    go role is false e = let read = again_reads driver role status t from len is e in let start = read.0 in let all = read.1 in omega arith

-- a driver goes on only with what brings data in, or with a job
again_brings : (driver : Driver) (role : Role) (status : Code) (t : Transfer) (from len : ℕ) → action_of driver role status t ≡ action.Again from len → is_write role ≡ false → brings role ≡ true
again_brings Keyboard In status t from len is off = refl
again_brings Acm Note status t from len is off = refl
again_brings Acm Read0 status t from len is off = refl
again_brings Acm Read1 status t from len is off = refl
again_brings driver Write status t from len is off = absurd (true≢false off)
again_brings Keyboard Ctl status t from len is off = absurd cc
again_brings Acm Ctl status t from len is off = absurd cc
again_brings Printer Ctl status t from len is off = absurd cc
again_brings driver role status t from len is off = absurd cc

again_parts : (a : Action) → goes_again a ≡ true → (from : ℕ) × (len : ℕ) × (a ≡ action.Again from len)
again_parts (action.Again from len) is = (from, len, refl)
again_parts a is = absurd cc

-- the reply that ends what comes in, with a status after which a driver goes on, came from an item
last_spent : (a max : ℕ) (t : Transfer) (before : List Reply) (r : Reply) (code : Code) → goes_in a ≡ true → goes_on code ≡ true
    → state_by (cond (stops_by Input max t before r) (Some (code_by Input max t before r)) None) (is_nak r) ≡ Ended code → is_spent a r ≡ true
last_spent a max t before Ack code into on is = into
last_spent a max t before Nak code into on is = cc
last_spent a max t before Stall code into on is = let same : Fault EPIPE ≡ code = cc in absurd (true≢false (sym on ∙ ap goes_on (sym same)))
last_spent a max t before Error code into on is = refl
last_spent a max t before (Packet bytes) code into on is = refl

more_open : (c : Option Code) (b : Bool) → state_by c b ≡ More → c ≡ None
more_open (Some c) b e = cc
more_open None b e = refl

-- an endpoint that is asked at its own IN address wants packets
wants_packets : (shape : Shape) (t : Transfer) → asked_at shape ≡ shape.address → shape.address ≢ 0 → goes_in shape.address ≡ true → direction_of shape t ≡ Input
wants_packets shape t here off into = go (is_control shape.kind) here
  where
    go : (b : Bool) → cond b 0 shape.address ≡ shape.address → cond b (cond (goes_in (setup_in t.setup).kind) ControlIn ControlOut) (cond (goes_in shape.address) Input Out) ≡ Input
    go true e = absurd (off (sym e))
    go false e = ap (λ b. cond b Input Out) into

module _ (s : Scene) (good : IsWellFormed s) (u : ℕ) (start : Transfer) (apt : IsApt s u start) (o : Owner) (is : owner_of s u ≡ Some o) (before : List Reply) (going : IsOpen (shape_at s (home s u)) start before) where
  abbrev shape : Shape
  shape = shape_at s (home s u)

  module _ (more : List Reply) (now : Transfer) (step : Step) (code : Code) (stop : Stops shape start before more now step) (ends : step ≡ Ended code) where
    -- up to the last reply the transfer was open
    open_last : (xs : List Reply) (r : Reply) → more ≡ xs ++ r ∷ [] → IsOpen shape start (before ++ xs)
    open_last [] r e = subst (IsOpen shape start) (sym (append-nil before)) going
    open_last (x ∷ xs) r e = more_open _ _ (subst (λ l. moved_state shape start (before ++ l) ≡ More) (ap (take (length (x ∷ xs))) e ∙ take-append_seam (x ∷ xs) (r ∷ []))
        (stop.each (length (x ∷ xs)) (omega arith) (let long = ap length e in let both = length-append (x ∷ xs) (r ∷ []) in omega arith)))

    ended_last : (xs : List Reply) (r : Reply) → more ≡ xs ++ r ∷ [] → state_by (stop_at shape start (before ++ xs) r) (is_nak r) ≡ Ended code
    ended_last xs r e = sym (state_after shape start (before ++ xs) r (open_last xs r e))
        ∙ (ap (moved_state shape start) (append_assoc before xs (r ∷ []) ∙ ap (λ l. before ++ l) (sym e)) ∙ (sym stop.state ∙ ends))

    -- a read with which the driver goes on used an item
    pub driver_spends : is_write o.role ≡ false → (m : Transfer) → goes_again (action_of o.driver o.role code m) ≡ true → (t : Transfer) (d e : Scripted) → Gave Replied shape t d more now e → 0 < length more → items_left e < items_left d
    driver_spends reads m again t d e gave some =
        let parts = again_parts (action_of o.driver o.role code m) again in
        let on = (again_reads o.driver o.role code m parts.0 parts.1 parts.2 reads).2 in
        let packets = again_packets o.driver o.role code m parts.0 parts.1 parts.2 in
        let end = owner_end s good u o is (λ ctl. true≢false (sym (ap is_ctl ctl) ∙ packets)) in
        let into = end.2 (again_brings o.driver o.role code m parts.0 parts.1 parts.2 reads) in
        let way : direction_of shape start ≡ Input = wants_packets shape start apt.asked end.0 into in
        gave_spent shape t d more now e gave some (λ at. end.0 (sym apt.asked ∙ at)) (λ xs r last. subst (λ a. is_spent a r ≡ true) (sym apt.asked)
        (last_spent shape.address shape.max start (before ++ xs) r code into on
        (subst (λ d. state_by (cond (stops_by d shape.max start (before ++ xs) r) (Some (code_by d shape.max start (before ++ xs) r)) None) (is_nak r) ≡ Ended code) way (ended_last xs r last))))
