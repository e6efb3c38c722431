-- What calls of the side leave of its agreement with the controller.
use Rattle.std.proofs.Common.{ℕ, zero, suc, ◌≡◌, ◌≢◌, ◌-◌, ◌^◌, ◌<◌, inl, inr, ⊎_elim, Bool, cond, Option, Some, None, List, [], ◌∷◌, ◌++◌, length, refl, sym, ap, ◌∙◌, subst, arith, length-append, eq-eqb, ne_eqb, true, ◌+◌, ◌≤◌}
use Rattle.std.specs.Prelude.{slice_get, slice_set, slice_index_or, All, Contains}
use Rattle.std.proofs.lemmas.Option.{slice_get_within}
use Rattle.std.proofs.lemmas.List.{length-set, length-map, map-append}
use Rattle.std.proofs.lemmas.List.Elements.{All-take, All-drop, All-tail, Contains-append_cases, All-head, All-push, Contains-append_left, All-append, Contains-append_right}
use mathlib.Core.Logic.{dite}
use native.Mathlib.Decide.{ℕ_discrete}
use Rattle.usb_types.specs.declared.urb.UrbId.{UrbId}
use Rattle.usb_machine.specs.declared.layout.Layout.{Layout}
use Rattle.usb_machine.specs.declared.layout.Shape.{Shape}
use Rattle.usb_machine.specs.declared.transfer.Transfer.{Transfer}
use Rattle.usb_machine.specs.Shapes.{Accepts, shape_fault}
use Rattle.usb_machine.specs.Queues.{homed_at}
use Rattle.usb_serve.specs.declared.controller.Held.{Held}
use Rattle.usb_serve.specs.declared.controller.EndRow.{EndRow}
use Rattle.usb_serve.specs.declared.controller.Controller.{Controller}
use Rattle.usb_xfer.specs.Moved.{IsWhole}
use Rattle.usb_serve.specs.Knows.{Knows, IsPending, SamePending, Keeps, FinishesNone, pending_with, Takes, Leaves}
use Rattle.usb_serve.specs.Held.{held_in, held_at, urbs_in, HasLayout, IsHeld, IsNew, after_first, Agrees, CleanIsOpen, with_held}
use Rattle.usb_serve.specs.Taking.{with_urb}
use Rattle.usb_serve.specs.Looking.{with_clean, Stays}
use Rattle.usb_serve.proofs.Lookups.{each_set, set_here, set_there}
use Rattle.usb_serve.proofs.Fronts.{take_front, drop_front}
use Rattle.usb_serve.proofs.Moving.{nothing_moved, moved_number}

-- an URB whose transfer is held is among the URBs
pub contains_at : (hs : List Held) (k : ℕ) (d : Held) → k < length hs → Contains (urbs_in hs) (slice_index_or hs k d).urb.0
contains_at [] k d l = absurd (omega arith)
contains_at (h ∷ hs) zero d l = (zero, omega arith, refl)
contains_at (h ∷ hs) (suc k) d l = let r = contains_at hs k d (omega arith) in (suc r.0, let m = r.1 in omega arith, r.2)

-- a property of each held transfer, by what holds of its URB
pub each_kept : (P Q : Held → Type 0) (hs : List Held) → All P hs → ((h : Held) → Contains (urbs_in hs) h.urb.0 → P h → Q h) → All Q hs
each_kept P Q hs p f = λ k d l. f (slice_index_or hs k d) (contains_at hs k d l) (p k d l)

-- who is first is among them
pub first_in : (hs : List Held) (h : Held) (others : List Held) → hs ≡ h ∷ others → Contains (urbs_in hs) h.urb.0
first_in hs h others is = subst (λ (l : List Held). Contains (urbs_in l) h.urb.0) (sym is) (zero, omega arith, refl)

pub all_first : (P : Held → Type 0) (hs : List Held) (h : Held) (others : List Held) → hs ≡ h ∷ others → All P hs → P h
all_first P hs h others is all = All-head P h others (subst (All P) is all)

pub held_set_same : (ends : List EndRow) (e : ℕ) (row : EndRow) → e < length ends → held_at (slice_set ends e row) e ≡ row.held.items
held_set_same [] e row l = absurd (omega arith)
held_set_same (x ∷ xs) zero row l = refl
held_set_same (x ∷ xs) (suc e) row l = held_set_same xs e row (omega arith)

pub held_set_other : (ends : List EndRow) (e d : ℕ) (row : EndRow) → d ≢ e → held_at (slice_set ends e row) d ≡ held_at ends d
held_set_other [] e d row off = refl
held_set_other (x ∷ xs) zero zero row off = absurd (off refl)
held_set_other (x ∷ xs) zero (suc d) row off = refl
held_set_other (x ∷ xs) (suc e) zero row off = refl
held_set_other (x ∷ xs) (suc e) (suc d) row off = held_set_other xs e d row (λ is. off (ap suc is))

pub none_whole : (shape : Shape) (t : Transfer) → IsWhole shape t []
none_whole shape t [] r after is stop = cc
none_whole shape t (b ∷ bs) r after is stop = cc

-- what was held stays held, by what the side still knows
unfoldable pub held_kept : (old new : Knows) (shape : Shape) (e : ℕ) (h : Held) → Keeps old new → FinishesNone old new → Contains (old.pending e) h.urb.0 → Contains (new.pending e) h.urb.0 → IsHeld old shape h → IsHeld new shape h
held_kept old new shape e h keeps none was is o = record {
  start = o.start;
  sent = keeps.sent e h.urb.0 o.start was is o.sent;
  window = o.window;
  fits = o.fits;
  before = o.before;
  moved_so = o.moved_so;
  going = ⊎_elim (λ g. inl g) (λ m. inr (keeps.marks e h.urb.0 was is m)) o.going;
  whole = o.whole;
  unfinished = λ f. o.unfinished (none.none e h.urb.0 was is f);
}

-- a transfer that is as it was taken stays so, by what the side still knows
pub new_kept : (old new : Knows) (e : ℕ) (h : Held) → Keeps old new → Contains (old.pending e) h.urb.0 → Contains (new.pending e) h.urb.0 → IsNew old h → IsNew new h
new_kept old new e h keeps was is q = (keeps.sent e h.urb.0 h.transfer was is q.0, q.1)

-- who stands after the first is among all
pub later_in : (hs : List Held) (u : ℕ) → Contains (urbs_in (after_first hs)) u → Contains (urbs_in hs) u
later_in [] u in_ = in_
later_in (h ∷ hs) u in_ = (suc in_.0, (let m = in_.1 in omega arith), in_.2)

pub all_later : (P : Held → Type 0) (hs : List Held) → All P hs → All P (after_first hs)
all_later P [] all = all
all_later P (h ∷ hs) all = All-tail P h hs all

-- one more stands last
later_push : (P : Held → Type 0) (hs : List Held) (x : Held) → All P (after_first hs) → P x → All P (after_first (hs ++ x ∷ []))
later_push P [] x all p = λ k d l. absurd (omega arith)
later_push P (h ∷ hs) x all p = All-push P hs x all p

All-left : (P : Held → Type 0) (xs ys : List Held) → All P (xs ++ ys) → All P xs
All-left P xs ys p = subst (All P) (take_front xs ys) (All-take P (length xs) (xs ++ ys) p)

All-right : (P : Held → Type 0) (xs ys : List Held) → All P (xs ++ ys) → All P ys
All-right P xs ys p = subst (All P) (drop_front xs ys) (All-drop P (length xs) (xs ++ ys) p)

-- one was taken out
later_given : (P : Held → Type 0) (before after : List Held) (h : Held) → All P (after_first (before ++ h ∷ after)) → All P (after_first (before ++ after))
later_given P [] after h all = all_later P after all
later_given P (b ∷ bs) after h all = All-append P bs after (All-left P bs (h ∷ after) all) (All-tail P h after (All-right P bs (h ∷ after) all))

abbrev pub LaidOut : Layout → ℕ → ℕ → EndRow → Type 0
LaidOut l devices f r = (slice_get l.shapes f ≡ Some r.shape) × (r.held.capacity ≡ homed_at l.homes f) × (r.shape.device < devices) × (length r.held.items ≤ r.held.capacity)

-- a held transfer has the number of what was taken
pub held_number : (k : Knows) (shape : Shape) (h : Held) → IsHeld k shape h → (start : Transfer) × k.was_sent h.urb.0 start × (h.transfer.number ≡ start.number)
held_number k shape h q = (q.start, q.sent, ap (λ (t : Transfer). t.number) q.moved_so ∙ moved_number shape q.start q.before)

module _ {D : Type 0} (old new : Knows) (c d : Controller D) (a : Agrees old c) where
  -- the URBs of a row are those that are pending there
  pub row_urbs : (e : ℕ) (row : EndRow) → slice_get c.ends.items e ≡ Some row → urbs_in row.held.items ≡ old.pending e
  row_urbs e row at = ap (λ o. urbs_in (held_in o)) (sym at) ∙ a.holds.urbs e (slice_get_within c.ends.items e row at)

  -- what stands in a row is pending there
  pub in_row : (e : ℕ) (row : EndRow) (u : ℕ) → slice_get c.ends.items e ≡ Some row → Contains (urbs_in row.held.items) u → Contains (old.pending e) u
  in_row e row u at is = subst (λ (us : List ℕ). Contains us u) (row_urbs e row at) is

  -- what is held is pending, and no finish settled it
  pub held_pending : (e : ℕ) (row : EndRow) → slice_get c.ends.items e ≡ Some row → All (λ (h : Held). IsPending old h.urb.0 × (old.is_finished h.urb.0 → ⊥)) row.held.items
  held_pending e row at = each_kept (IsHeld old row.shape) (λ (h : Held). IsPending old h.urb.0 × (old.is_finished h.urb.0 → ⊥)) row.held.items (a.holds.each e row at)
      (λ h in_ o. ((e, in_row e row h.urb.0 at in_), o.unfinished))

  module _ (whole : new.is_whole) (keeps : Keeps old new) (none : FinishesNone old new) where
    -- what stands after the first of a row stays as it was taken
    later_kept : (e : ℕ) (row : EndRow) → slice_get c.ends.items e ≡ Some row → new.pending e ≡ old.pending e → All (IsNew new) (after_first row.held.items)
    later_kept e row at same = each_kept (IsNew old) (IsNew new) (after_first row.held.items) (a.holds.fresh e row at)
        (λ h in_ q. let was = in_row e row h.urb.0 at (later_in row.held.items h.urb.0 in_) in new_kept old new e h keeps was (subst (λ (us : List ℕ). Contains us h.urb.0) (sym same) was) q)

    -- a call that leaves what is pending
    pub agrees_same : d ≡ c → SamePending old new → Agrees new d
    agrees_same is same = subst (Agrees new) (sym is) record {
      whole = whole;
      layout = subst (λ l. HasLayout l (length c.devices.items) c.ends.items) (sym keeps.layout) a.layout;
      holds = record {
        urbs = λ e l. a.holds.urbs e l ∙ sym (same e);
        each = λ e row at. each_kept (IsHeld old row.shape) (IsHeld new row.shape) row.held.items (a.holds.each e row at)
            (λ h in_ o. let was = in_row e row h.urb.0 at in_ in held_kept old new row.shape e h keeps none was (subst (λ (us : List ℕ). Contains us h.urb.0) (sym (same e)) was) o);
        fresh = λ e row at. later_kept e row at (same e);
      };
    }

    -- where a first URB was clean, no reply has ended its transfer yet
    pub open_kept : (e : ℕ) (row : EndRow) → slice_get c.ends.items e ≡ Some row → SamePending old new → CleanIsOpen old row → CleanIsOpen new row
    unfolding held_kept
    open_kept e row at same o = record {
      open_so = λ h others clean first. (let was = in_row e row h.urb.0 at (first_in row.held.items h others first) in
          let q = o.open_so h others clean first in
          (held_kept old new row.shape e h keeps none was (subst (λ (us : List ℕ). Contains us h.urb.0) (sym (same e)) was) q.0, q.1));
    }

    -- a first URB that looked clean
    pub open_now : (e : ℕ) (row : EndRow) (clean : Bool) → slice_get c.ends.items e ≡ Some row → SamePending old new
        → ((h : Held) (others : List Held) → clean ≡ true → row.held.items ≡ h ∷ others → old.is_marked h.urb.0 → ⊥) → CleanIsOpen new (with_clean clean row)
    unfolding held_kept all_first
    open_now e row clean at same unmarked = record {
      open_so = λ h others is first. (let was = in_row e row h.urb.0 at (first_in row.held.items h others first) in
          let o = all_first (IsHeld old row.shape) row.held.items h others first (a.holds.each e row at) in
          (held_kept old new row.shape e h keeps none was (subst (λ (us : List ℕ). Contains us h.urb.0) (sym (same e)) was) o, ⊎_elim (λ g. g) (λ m. absurd (unmarked h others is first m)) o.going));
    }

    -- a call that changes what is pending at one endpoint, of which the row is another then
    pub agrees_set : (e : ℕ) (row after : EndRow) → slice_get c.ends.items e ≡ Some row → length d.devices.items ≡ length c.devices.items → d.ends.items ≡ slice_set c.ends.items e after
        → after.shape ≡ row.shape → after.held.capacity ≡ row.held.capacity → length after.held.items ≤ after.held.capacity → urbs_in after.held.items ≡ new.pending e → ((f : ℕ) → f ≢ e → new.pending f ≡ old.pending f)
        → All (IsHeld new after.shape) after.held.items → All (IsNew new) (after_first after.held.items) → Agrees new d
    agrees_set e row after at devices ends shape capacity fits urbs elsewhere each fresh = record {
      whole = whole;
      layout = record {
        all = ap length ends ∙ (length-set c.ends.items e after ∙ (a.layout.all ∙ ap (λ (l : Layout). length l.shapes) (sym keeps.layout)));
        few = subst (λ (l : Layout). length l.shapes < 2 ^ 31) (sym keeps.layout) a.layout.few;
        each = subst (λ (l : Layout). (f : ℕ) (r : EndRow) → slice_get d.ends.items f ≡ Some r → LaidOut l (length d.devices.items) f r) (sym keeps.layout)
            (subst (λ n. (f : ℕ) (r : EndRow) → slice_get d.ends.items f ≡ Some r → LaidOut old.layout n f r) (sym devices)
            (each_set (LaidOut old.layout (length c.devices.items)) (LaidOut old.layout (length c.devices.items)) c.ends.items d.ends.items e after ends a.layout.each
            (let o = a.layout.each e row at in (o.0 ∙ ap Some (sym shape), capacity ∙ o.1, subst (λ (s : Shape). s.device < length c.devices.items) (sym shape) o.2, fits))
            (λ f r off o. o)));
      };
      holds = record {
        urbs = λ f l. dite (ℕ_discrete f e)
            (λ is. ap (λ (l : List EndRow). urbs_in (held_at l f)) ends ∙ (ap (λ g. urbs_in (held_at (slice_set c.ends.items e after) g)) is ∙ (ap urbs_in (held_set_same c.ends.items e after (slice_get_within c.ends.items e row at)) ∙ (urbs ∙ ap new.pending (sym is)))))
            (λ off. ap (λ (l : List EndRow). urbs_in (held_at l f)) ends ∙ (ap urbs_in (held_set_other c.ends.items e f after off) ∙ (a.holds.urbs f (let n = ap length ends ∙ length-set c.ends.items e after in omega arith) ∙ sym (elsewhere f off))));
        each = each_set (λ f r. (slice_get c.ends.items f ≡ Some r) × All (IsHeld old r.shape) r.held.items) (λ f r. All (IsHeld new r.shape) r.held.items) c.ends.items d.ends.items e after ends
            (λ f r there. (there, a.holds.each f r there)) each
            (λ f r off o. each_kept (IsHeld old r.shape) (IsHeld new r.shape) r.held.items o.1
            (λ h in_ q. let was = in_row f r h.urb.0 o.0 in_ in held_kept old new r.shape f h keeps none was (subst (λ (us : List ℕ). Contains us h.urb.0) (sym (elsewhere f off)) was) q));
        fresh = each_set (λ f r. slice_get c.ends.items f ≡ Some r) (λ f r. All (IsNew new) (after_first r.held.items)) c.ends.items d.ends.items e after ends
            (λ f r there. there) fresh
            (λ f r off there. later_kept f r there (elsewhere f off));
      };
    }

    -- there is room for one that was taken
    pub room_for : (e u : ℕ) (t : Transfer) (row : EndRow) → slice_get c.ends.items e ≡ Some row → ((f : ℕ) → new.pending f ≡ pending_with e (Some (record { 0 = u }, t)) f (old.pending f)) → Takes new e u t → length row.held.items < row.held.capacity
    room_for e u t row at pending took =
        let more : new.pending e ≡ old.pending e ++ u ∷ [] = pending e ∙ ap (λ b. cond b (old.pending e ++ u ∷ []) (old.pending e)) (eq-eqb e e refl) in
        let long = ap length more ∙ length-append (old.pending e) (u ∷ []) in
        let here = sym (length-map row.held.items (λ (h : Held). h.urb.0)) ∙ ap length (row_urbs e row at) in
        let room = (a.layout.each e row at).1 in
        let homes = ap (λ (l : Layout). homed_at l.homes e) keeps.layout in
        let most = took.room in
        omega arith

    -- one URB more was taken
    pub agrees_taken : (e u : ℕ) (t : Transfer) (row : EndRow) → slice_get c.ends.items e ≡ Some row → length d.devices.items ≡ length c.devices.items → d.ends.items ≡ slice_set c.ends.items e (with_urb record { 0 = u } t row)
        → ((f : ℕ) → new.pending f ≡ pending_with e (Some (record { 0 = u }, t)) f (old.pending f)) → Takes new e u t → Agrees new d
    agrees_taken e u t row at devices ends pending took = agrees_set e row (with_urb record { 0 = u } t row) at devices ends refl refl (let r = room_for e u t row at pending took in let n = length-append row.held.items (record { urb = record { 0 = u }; transfer = t } ∷ []) in omega arith) urbs
        (λ f off. pending f ∙ ap (λ b. cond b (old.pending f ++ u ∷ []) (old.pending f)) (ne_eqb f e off))
        (All-push (IsHeld new row.shape) row.held.items record { urb = record { 0 = u }; transfer = t } (each_kept (IsHeld old row.shape) (IsHeld new row.shape) row.held.items (a.holds.each e row at)
        (λ h in_ o. let was = in_row e row h.urb.0 at in_ in held_kept old new row.shape e h keeps none was (subst (λ (us : List ℕ). Contains us h.urb.0) (sym more) (Contains-append_left (old.pending e) (u ∷ []) h.urb.0 was)) o))
        record {
          start = t;
          sent = took.sent;
          window = took.window;
          fits = fits;
          before = [];
          moved_so = nothing_moved row.shape t took.unmoved;
          going = inl refl;
          whole = none_whole row.shape t;
          unfinished = took.unfinished;
        })
        (later_push (IsNew new) row.held.items record { urb = record { 0 = u }; transfer = t } (each_kept (IsNew old) (IsNew new) (after_first row.held.items) (a.holds.fresh e row at)
        (λ h in_ q. let was = in_row e row h.urb.0 at (later_in row.held.items h.urb.0 in_) in new_kept old new e h keeps was (subst (λ (us : List ℕ). Contains us h.urb.0) (sym more) (Contains-append_left (old.pending e) (u ∷ []) h.urb.0 was)) q))
        (took.sent, took.unmoved))
      where
        more : new.pending e ≡ old.pending e ++ u ∷ []
        more = pending e ∙ ap (λ b. cond b (old.pending e ++ u ∷ []) (old.pending e)) (eq-eqb e e refl)

        urbs : urbs_in (row.held.items ++ record { urb = record { 0 = u }; transfer = t } ∷ []) ≡ new.pending e
        urbs = map-append (λ (h : Held). h.urb.0) row.held.items (record { urb = record { 0 = u }; transfer = t } ∷ []) ∙ (ap (λ us. us ++ u ∷ []) (row_urbs e row at) ∙ sym more)

        fits : shape_fault row.shape t ≡ None
        fits = subst (λ o. Accepts o t) (ap (λ (l : Layout). slice_get l.shapes e) keeps.layout ∙ (a.layout.each e row at).0) took.fits

    -- a row that is noted to be clean or not
    pub agrees_clean : (e : ℕ) (row : EndRow) (clean : Bool) → slice_get c.ends.items e ≡ Some row → length d.devices.items ≡ length c.devices.items → d.ends.items ≡ slice_set c.ends.items e (with_clean clean row) → SamePending old new → Agrees new d
    agrees_clean e row clean at devices ends same = agrees_set e row (with_clean clean row) at devices ends refl refl (a.layout.each e row at).3 (row_urbs e row at ∙ sym (same e)) (λ f off. same f)
        (each_kept (IsHeld old row.shape) (IsHeld new row.shape) row.held.items (a.holds.each e row at)
        (λ h in_ o. let was = in_row e row h.urb.0 at in_ in held_kept old new row.shape e h keeps none was (subst (λ (us : List ℕ). Contains us h.urb.0) (sym (same e)) was) o))
        (later_kept e row at (same e))

-- an URB at some place of an endpoint is pending no more
pub agrees_given : {D : Type 0} (old new : Knows) (c d : Controller D) → Agrees old c → new.is_whole → Keeps old new → FinishesNone old new → (e : ℕ) (row : EndRow) (before after : List Held) (h : Held) → slice_get c.ends.items e ≡ Some row
    → row.held.items ≡ before ++ h ∷ after → length d.devices.items ≡ length c.devices.items → d.ends.items ≡ slice_set c.ends.items e (with_held (before ++ after) row) → Leaves old new h.urb.0 → Agrees new d
agrees_given old new c d a whole keeps none e row before after h at parts devices ends leaves = agrees_set old new c d a whole keeps none e row (with_held (before ++ after) row) at devices ends refl refl
    (let l = (a.layout.each e row at).3 in let n = ap length parts ∙ length-append before (h ∷ after) in let m = length-append before after in omega arith)
    (map-append (λ (h : Held). h.urb.0) before after ∙ sym here) (λ f off. leaves.elsewhere e f among off)
    (each_kept (IsHeld old row.shape) (IsHeld new row.shape) (before ++ after) (All-append (IsHeld old row.shape) before after (All-left (IsHeld old row.shape) before (h ∷ after) all) (All-tail (IsHeld old row.shape) h after (All-right (IsHeld old row.shape) before (h ∷ after) all)))
    (λ g in_ q. let is = subst (λ (us : List ℕ). Contains us g.urb.0) (map-append (λ (h : Held). h.urb.0) before after ∙ sym here) in_ in held_kept old new row.shape e g keeps none (was g.urb.0 (subst (λ (us : List ℕ). Contains us g.urb.0) (map-append (λ (h : Held). h.urb.0) before after) in_)) is q))
    (each_kept (IsNew old) (IsNew new) (after_first (before ++ after)) (later_given (IsNew old) before after h (subst (λ (l : List Held). All (IsNew old) (after_first l)) parts (a.holds.fresh e row at)))
    (λ g in_ q. let there = subst (λ (us : List ℕ). Contains us g.urb.0) (map-append (λ (h : Held). h.urb.0) before after) (later_in (before ++ after) g.urb.0 in_) in
    new_kept old new e g keeps (was g.urb.0 there) (subst (λ (us : List ℕ). Contains us g.urb.0) (sym here) there) q))
  where
    all : All (IsHeld old row.shape) (before ++ h ∷ after)
    all = subst (All (IsHeld old row.shape)) parts (a.holds.each e row at)

    urbs : old.pending e ≡ urbs_in before ++ h.urb.0 ∷ urbs_in after
    urbs = sym (row_urbs old old c c a e row at) ∙ (ap urbs_in parts ∙ map-append (λ (h : Held). h.urb.0) before (h ∷ after))

    here : new.pending e ≡ urbs_in before ++ urbs_in after
    here = leaves.here e (urbs_in before) (urbs_in after) urbs

    among : Contains (old.pending e) h.urb.0
    among = subst (λ (us : List ℕ). Contains us h.urb.0) (sym urbs) (Contains-append_right (urbs_in before) (h.urb.0 ∷ urbs_in after) h.urb.0 (zero, omega arith, refl))

    was : (u : ℕ) → Contains (urbs_in before ++ urbs_in after) u → Contains (old.pending e) u
    was u in_ = subst (λ (us : List ℕ). Contains us u) (sym urbs) (⊎_elim (λ l. Contains-append_left (urbs_in before) (h.urb.0 ∷ urbs_in after) u l)
        (λ r. Contains-append_right (urbs_in before) (h.urb.0 ∷ urbs_in after) u (suc r.0, (let m = r.1 in omega arith), r.2)) (Contains-append_cases (urbs_in before) (urbs_in after) u in_))

-- one row more was looked at
pub opens_more : {D : Type 0} (old new : Knows) (c d : Controller D) → Agrees old c → new.is_whole → Stays old new → (e : ℕ) (was row : EndRow) → slice_get c.ends.items e ≡ Some was → d.ends.items ≡ slice_set c.ends.items e row
    → ((f : ℕ) (r : EndRow) → f < e → slice_get c.ends.items f ≡ Some r → CleanIsOpen old r) → ((r : EndRow) → slice_get d.ends.items e ≡ Some r → CleanIsOpen new r)
    → (f : ℕ) (r : EndRow) → f < e + 1 → slice_get d.ends.items f ≡ Some r → CleanIsOpen new r
opens_more old new c d a whole s e was row there ends before here f r l at = dite (ℕ_discrete f e)
    (λ is. here r (ap (λ g. slice_get d.ends.items g) (sym is) ∙ at))
    (λ off. let same : slice_get c.ends.items f ≡ Some r = sym (set_there c.ends.items e f row off) ∙ (ap (λ (l : List EndRow). slice_get l f) (sym ends) ∙ at) in
    open_kept old new c d a whole s.keeps s.none f r same s.pending (before f r (omega arith) same))

-- how much room an endpoint has left
abbrev pub room_in : Option EndRow → ℕ
room_in None = 0
room_in (Some row) = row.held.capacity - length row.held.items

abbrev pub room_at : List EndRow → ℕ → ℕ
room_at ends e = room_in (slice_get ends e)

-- one URB more leaves less
pub room_falls : (ends after : List EndRow) (e : ℕ) (row : EndRow) (u : UrbId) (t : Transfer) → slice_get ends e ≡ Some row → after ≡ slice_set ends e (with_urb u t row) → length row.held.items < row.held.capacity → room_at after e < room_at ends e
room_falls ends after e row u t at is less =
    let now = ap room_in (ap (λ (l : List EndRow). slice_get l e) is ∙ set_here ends e (with_urb u t row) row at) in
    let was = ap room_in at in
    let long = length-append row.held.items (record { urb = u; transfer = t } ∷ []) in
    omega arith
