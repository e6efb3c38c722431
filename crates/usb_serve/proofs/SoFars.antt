-- What calls of the side leave of the replies so far.
use Rattle.std.proofs.Common.{ℕ, zero, suc, ◌≡◌, ◌≢◌, ◌<◌, ◌≤◌, ◌+◌, ◌⊎◌, inl, inr, ⊎_elim, Bool, true, cond, eqb, Some, None, List, [], ◌∷◌, ◌++◌, length, refl, sym, ap, ◌∙◌, subst, arith, length-append, eq-eqb, ne_eqb}
use Rattle.std.specs.Prelude.{slice_get, slice_set, All, Contains}
use Rattle.std.proofs.lemmas.Option.{slice_get_within}
use Rattle.std.proofs.lemmas.List.{map-append}
use Rattle.std.proofs.lemmas.List.Elements.{All-head, All-tail, Contains-append_left, Contains-append_right}
use Rattle.usb_machine.specs.declared.layout.Layout.{Layout}
use Rattle.usb_machine.specs.declared.layout.Shape.{Shape}
use Rattle.usb_machine.specs.declared.transfer.Transfer.{Transfer}
use Rattle.usb_machine.specs.Shapes.{HasWindow, Accepts, shape_fault}
use Rattle.usb_xfer.specs.Direction.{Direction, In, Out, ControlIn, ControlOut, direction_of}
use Rattle.usb_xfer.specs.Replies.{Question, Reply}
use Rattle.usb_xfer.specs.declared.packet.Step.{Step}
use Rattle.usb_xfer.specs.declared.packet.Step.TheVariants.{Waiting}
use Rattle.usb_xfer.specs.Moved.{moved_by}
use Rattle.usb_xfer.specs.On.{Stops}
use Rattle.usb_serve.specs.declared.controller.Held.{Held}
use Rattle.usb_serve.specs.declared.controller.EndRow.{EndRow}
use Rattle.usb_serve.specs.declared.controller.Controller.{Controller}
use Rattle.usb_serve.specs.Knows.{Knows, SamePending, Keeps, FinishesNone, pending_with, Takes, Leaves}
use Rattle.usb_serve.specs.Held.{urbs_in, held_in, held_at, IsHeld, IsNew, after_first, Agrees, with_held}
use Rattle.usb_serve.specs.Taking.{with_urb}
use Rattle.usb_serve.specs.Looking.{with_clean}
use Rattle.usb_serve.specs.Serving.{Moves}
use Rattle.usb_serve.specs.SoFar.{IsMovedBy, AreSoFar, IsSoFar, with_replies, without_place}
use Rattle.usb_serve.proofs.Lookups.{each_set}
use Rattle.usb_serve.proofs.Moving.{nothing_moved}
use Rattle.usb_serve.proofs.Agreeing.{first_in, held_kept, none_whole, in_row, row_urbs}
use Rattle.usb_serve.proofs.Settling.{held_window, waits_open}

-- moving a transfer changes nothing that its endpoint asks of it
fault_by : (d : Direction) (shape : Shape) (t : Transfer) (replies : List Reply) → shape_fault shape (moved_by d shape.max t replies) ≡ shape_fault shape t
fault_by In shape t replies = refl
fault_by Out shape t replies = refl
fault_by ControlIn shape t replies = refl
fault_by ControlOut shape t replies = refl

pub held_fits : (k : Knows) (shape : Shape) (h : Held) → IsHeld k shape h → shape_fault shape h.transfer ≡ None
held_fits k shape h o = ap (shape_fault shape) o.moved_so ∙ (fault_by (direction_of shape o.start) shape o.start o.before ∙ o.fits)

-- a transfer as it was taken was moved by no reply
pub new_moved : (k : Knows) (shape : Shape) (h : Held) (P : Type 0) → k.was_sent h.urb.0 h.transfer → HasWindow h.transfer → shape_fault shape h.transfer ≡ None → h.transfer.actual ≡ 0 → (k.is_finished h.urb.0 → ⊥) → IsMovedBy k shape h [] P
new_moved k shape h P sent window fits unmoved unfinished = record {
  held = record { start = h.transfer; sent = sent; window = window; fits = fits; before = []; moved_so = nothing_moved shape h.transfer unmoved; going = inl refl; whole = none_whole shape h.transfer; unfinished = unfinished };
  is = refl;
  open_so = λ p. refl;
}

pub with_here : (e : ℕ) (replies : List Reply) (so : ℕ → List Reply) → with_replies e replies so e ≡ replies
with_here e replies so = ap (λ b. cond b replies (so e)) (eq-eqb e e refl)

pub with_there : (e f : ℕ) (replies : List Reply) (so : ℕ → List Reply) → f ≢ e → with_replies e replies so f ≡ so f
with_there e f replies so off = ap (λ b. cond b replies (so f)) (ne_eqb f e off)

pub place_later : (e n f : ℕ) (so : ℕ → List Reply) → without_place e (suc n) so f ≡ so f
place_later e n f so = ap (λ b. cond b (with_replies e [] so f) (so f)) (ne_eqb (suc n) 0 (λ is. absurd (omega arith)))

-- less is asked
pub so_weaker : (k : Knows) (O P : ℕ → Type 0) (so : ℕ → List Reply) (ends : List EndRow) → ((e : ℕ) → P e → O e) → AreSoFar k O so ends → AreSoFar k P so ends
so_weaker k O P so ends weak s = record {
  first = λ e row h others at is. (let m = s.first e row h others at is in record { held = m.held; is = m.is; open_so = λ q. m.open_so (weak e q.0, q.1) });
  nothing = s.nothing;
}

-- all endpoints were looked at
pub so_all : (k : Knows) (n : ℕ) (so : ℕ → List Reply) (ends : List EndRow) → length ends ≤ n → AreSoFar k (λ f. f < n) so ends → AreSoFar k (λ f. 0 ≤ f) so ends
so_all k n so ends all s = record {
  first = λ e row h others at is. (let m = s.first e row h others at is in let w = slice_get_within ends e row at in record { held = m.held; is = m.is; open_so = λ q. m.open_so (omega arith, q.1) });
  nothing = s.nothing;
}

module _ {D : Type 0} (old new : Knows) (c : Controller D) (a : Agrees old c) (keeps : Keeps old new) (none : FinishesNone old new) where
  moved_kept : (shape : Shape) (e : ℕ) (h : Held) (rs : List Reply) (P Q : Type 0) → (Q → P) → Contains (old.pending e) h.urb.0 → Contains (new.pending e) h.urb.0 → IsMovedBy old shape h rs P → IsMovedBy new shape h rs Q
  unfolding held_kept
  moved_kept shape e h rs P Q weak was is m = record { held = held_kept old new shape e h keeps none was is m.held; is = m.is; open_so = λ q. m.open_so (weak q) }

  -- a call that leaves what is pending
  pub so_same : SamePending old new → (O : ℕ → Type 0) (so : ℕ → List Reply) → AreSoFar old O so c.ends.items → AreSoFar new O so c.ends.items
  so_same same O so s = record {
    first = λ e row h others at is. (let was = in_row old new c c a e row h.urb.0 at (first_in row.held.items h others is) in
        moved_kept row.shape e h (so e) (O e × (row.clean ≡ true)) (O e × (row.clean ≡ true)) (λ q. q) was (subst (λ (us : List ℕ). Contains us h.urb.0) (sym (same e)) was) (s.first e row h others at is));
    nothing = s.nothing;
  }

  -- a call that changes what is pending at one endpoint
  so_set : (d : Controller D) (e : ℕ) (row after : EndRow) → slice_get c.ends.items e ≡ Some row → d.ends.items ≡ slice_set c.ends.items e after → ((f : ℕ) → f ≢ e → new.pending f ≡ old.pending f)
      → (O P : ℕ → Type 0) → ((f : ℕ) → f ≢ e → P f → O f) → (so now : ℕ → List Reply) → ((f : ℕ) → f ≢ e → now f ≡ so f) → AreSoFar old O so c.ends.items
      → ((h : Held) (others : List Held) → after.held.items ≡ h ∷ others → IsMovedBy new after.shape h (now e) (P e × (after.clean ≡ true))) → (after.held.items ≡ [] → now e ≡ []) → AreSoFar new P now d.ends.items
  so_set d e row after at ends elsewhere O P weak so now stays s here empty = record {
    first = λ f r h others there is. each_set (λ f r. slice_get c.ends.items f ≡ Some r) (λ f r. (h : Held) (others : List Held) → r.held.items ≡ h ∷ others → IsMovedBy new r.shape h (now f) (P f × (r.clean ≡ true))) c.ends.items d.ends.items e after ends
        (λ f r there. there) here
        (λ f r off there h others is. (let was = in_row old new c c a f r h.urb.0 there (first_in r.held.items h others is) in
        subst (λ rs. IsMovedBy new r.shape h rs (P f × (r.clean ≡ true))) (sym (stays f off))
        (moved_kept r.shape f h (so f) (O f × (r.clean ≡ true)) (P f × (r.clean ≡ true)) (λ q. (weak f off q.0, q.1)) was (subst (λ (us : List ℕ). Contains us h.urb.0) (sym (elsewhere f off)) was) (s.first f r h others there is))))
        f r there h others is;
    nothing = λ f r there is. each_set (λ f r. slice_get c.ends.items f ≡ Some r) (λ f r. r.held.items ≡ [] → now f ≡ []) c.ends.items d.ends.items e after ends
        (λ f r there. there) empty (λ f r off there is. stays f off ∙ s.nothing f r there is) f r there is;
  }

  -- one URB more was taken
  pub so_taken : (d : Controller D) (e u : ℕ) (t : Transfer) (row : EndRow) → slice_get c.ends.items e ≡ Some row → d.ends.items ≡ slice_set c.ends.items e (with_urb record { 0 = u } t row)
      → ((f : ℕ) → new.pending f ≡ pending_with e (Some (record { 0 = u }, t)) f (old.pending f)) → Takes new e u t → (so : ℕ → List Reply) → IsSoFar old so c.ends.items → IsSoFar new so d.ends.items
  so_taken d e u t row at ends pending took so s = so_set d e row (with_urb record { 0 = u } t row) at ends
      (λ f off. pending f ∙ ap (λ b. cond b (old.pending f ++ u ∷ []) (old.pending f)) (ne_eqb f e off)) (λ f. ⊥) (λ f. ⊥) (λ f off q. q) so so (λ f off. refl) s (here row.held.items refl) (λ q. empty q)
    where
      x : Held
      x = record { urb = record { 0 = u }; transfer = t }

      more : new.pending e ≡ old.pending e ++ u ∷ []
      more = pending e ∙ ap (λ b. cond b (old.pending e ++ u ∷ []) (old.pending e)) (eq-eqb e e refl)

      fits : shape_fault row.shape t ≡ None
      fits = subst (λ o. Accepts o t) (ap (λ (l : Layout). slice_get l.shapes e) keeps.layout ∙ (a.layout.each e row at).0) took.fits

      here : (hs : List Held) → row.held.items ≡ hs → (h : Held) (others : List Held) → hs ++ record { urb = record { 0 = u }; transfer = t } ∷ [] ≡ h ∷ others → IsMovedBy new row.shape h (so e) (⊥ × (row.clean ≡ true))
      here [] is h others q = let same : x ≡ h = cc in subst (λ g. IsMovedBy new row.shape g (so e) (⊥ × (row.clean ≡ true))) same
          (subst (λ rs. IsMovedBy new row.shape x rs (⊥ × (row.clean ≡ true))) (sym (s.nothing e row at is)) (new_moved new row.shape x (⊥ × (row.clean ≡ true)) took.sent took.window fits took.unmoved took.unfinished))
      here (y ∷ ys) is h others q = let same : y ≡ h = cc in let was = in_row old new c c a e row y.urb.0 at (first_in row.held.items y ys is) in
          subst (λ g. IsMovedBy new row.shape g (so e) (⊥ × (row.clean ≡ true))) same
          (moved_kept row.shape e y (so e) (⊥ × (row.clean ≡ true)) (⊥ × (row.clean ≡ true)) (λ q. q) was (subst (λ (us : List ℕ). Contains us y.urb.0) (sym more) (Contains-append_left (old.pending e) (u ∷ []) y.urb.0 was)) (s.first e row y ys at is))

      empty : row.held.items ++ record { urb = record { 0 = u }; transfer = t } ∷ [] ≡ [] → so e ≡ []
      empty q = let n = ap length q in let l = length-append row.held.items (record { urb = record { 0 = u }; transfer = t } ∷ []) in absurd (omega arith)

  -- a row was looked at: where its first URB looked clean, no reply has ended its transfer
  pub so_clean : (d : Controller D) (e : ℕ) (row : EndRow) (clean : Bool) → slice_get c.ends.items e ≡ Some row → d.ends.items ≡ slice_set c.ends.items e (with_clean clean row) → SamePending old new
      → ((h : Held) (others : List Held) → clean ≡ true → row.held.items ≡ h ∷ others → old.is_marked h.urb.0 → ⊥) → (so : ℕ → List Reply) → AreSoFar old (λ f. f < e) so c.ends.items → AreSoFar new (λ f. f < e + 1) so d.ends.items
  unfolding held_kept
  so_clean d e row clean at ends same unmarked so s = so_set d e row (with_clean clean row) at ends (λ f off. same f) (λ f. f < e) (λ f. f < e + 1) (λ f off l. omega arith) so so (λ f off. refl) s
      (λ h others is. (let was = in_row old new c c a e row h.urb.0 at (first_in row.held.items h others is) in let m = s.first e row h others at is in
      record {
        held = held_kept old new row.shape e h keeps none was (subst (λ (us : List ℕ). Contains us h.urb.0) (sym (same e)) was) m.held;
        is = m.is;
        open_so = λ q. ⊎_elim (λ g. g) (λ marked. absurd (unmarked h others q.1 is marked)) m.held.going;
      }))
      (s.nothing e row at)

  -- the second of a row was not moved
  second_new : (e : ℕ) (row : EndRow) (x h : Held) (others : List Held) → slice_get c.ends.items e ≡ Some row → row.held.items ≡ x ∷ h ∷ others → Contains (new.pending e) h.urb.0 → (P : Type 0) → IsMovedBy new row.shape h [] P
  second_new e row x h others at is now P =
      let q : IsNew old h = All-head (IsNew old) h others (subst (λ (l : List Held). All (IsNew old) (after_first l)) is (a.holds.fresh e row at)) in
      let o : IsHeld old row.shape h = All-head (IsHeld old row.shape) h others (All-tail (IsHeld old row.shape) x (h ∷ others) (subst (All (IsHeld old row.shape)) is (a.holds.each e row at))) in
      let was = in_row old new c c a e row h.urb.0 at (subst (λ (l : List Held). Contains (urbs_in l) h.urb.0) (sym is) (suc zero, omega arith, refl)) in
      moved_kept row.shape e h [] P P (λ q. q) was now (new_moved old row.shape h P q.0 (held_window old row.shape h o) (held_fits old row.shape h o) q.1 o.unfinished)

  -- a first transfer was moved
  module _ (replies : D → ℕ → Question → Reply → D → Type 0) (e : ℕ) (step : Step) (v : Moves replies e c.devices.items c.ends.items step) (d : Controller D) (so : ℕ → List Reply) (s : AreSoFar old (λ f. e ≤ f) so c.ends.items) where
    m : IsMovedBy old v.row.shape v.first (so e) ((e ≤ e) × (v.row.clean ≡ true))
    m = s.first e v.row v.first v.others v.at v.held

    stops : Stops v.row.shape m.held.start m.held.before v.more v.now step
    stops = v.runs.stops m.held.start m.held.before m.held.window (m.open_so (omega arith, v.clean)) m.held.moved_so

    -- and is pending as before: it waits, or it ended where a mark stands
    pub so_moved : (asleep : Bool) → SamePending old new → d.ends.items ≡ slice_set c.ends.items e (record (with_held (record v.first { transfer = v.now } ∷ v.others) v.row) { asleep = asleep }) → (step ≡ Waiting) ⊎ new.is_marked v.first.urb.0
        → AreSoFar new (λ f. e + 1 ≤ f) (with_replies e (so e ++ v.more) so) d.ends.items
    so_moved asleep same ends going = so_set d e v.row (record (with_held (record v.first { transfer = v.now } ∷ v.others) v.row) { asleep = asleep }) v.at ends (λ f off. same f) (λ f. e ≤ f) (λ f. e + 1 ≤ f) (λ f off l. omega arith)
        so (with_replies e (so e ++ v.more) so) (λ f off. with_there e f (so e ++ v.more) so off) s
        (λ h others q. (let first : record v.first { transfer = v.now } ≡ h = cc in
        subst (λ g. IsMovedBy new v.row.shape g (with_replies e (so e ++ v.more) so e) ((e + 1 ≤ e) × (v.row.clean ≡ true))) first now_moved))
        (λ q. (let n = ap length q in absurd (omega arith)))
      where
        now_moved : IsMovedBy new v.row.shape (record v.first { transfer = v.now }) (with_replies e (so e ++ v.more) so e) ((e + 1 ≤ e) × (v.row.clean ≡ true))
        now_moved =
            let was = in_row old new c c a e v.row v.first.urb.0 v.at (first_in v.row.held.items v.first v.others v.held) in
            let is = subst (λ (us : List ℕ). Contains us v.first.urb.0) (sym (same e)) was in
            record {
              held = record {
                start = m.held.start;
                sent = keeps.sent e v.first.urb.0 m.held.start was is m.held.sent;
                window = m.held.window;
                fits = m.held.fits;
                before = m.held.before ++ v.more;
                moved_so = stops.transfer;
                going = ⊎_elim (λ w. inl (waits_open v.row.shape m.held.start (m.held.before ++ v.more) (sym w ∙ stops.state))) (λ k. inr k) going;
                whole = stops.whole;
                unfinished = λ f. m.held.unfinished (none.none e v.first.urb.0 was is f);
              };
              is = ap (λ l. l ++ v.more) m.is ∙ sym (with_here e (so e ++ v.more) so);
              open_so = λ q. (let l = q.0 in absurd (omega arith));
            }

    -- and its URB was given back
    pub so_left : d.ends.items ≡ slice_set c.ends.items e (with_held v.others v.row) → new.pending e ≡ urbs_in v.others → ((f : ℕ) → f ≢ e → new.pending f ≡ old.pending f) → AreSoFar new (λ f. e + 1 ≤ f) (with_replies e [] so) d.ends.items
    so_left ends pending elsewhere = so_set d e v.row (with_held v.others v.row) v.at ends elsewhere (λ f. e ≤ f) (λ f. e + 1 ≤ f) (λ f off l. omega arith) so (with_replies e [] so) (λ f off. with_there e f [] so off) s
        (λ h others is. subst (λ rs. IsMovedBy new v.row.shape h rs ((e + 1 ≤ e) × (v.row.clean ≡ true))) (sym (with_here e [] so))
        (second_new e v.row v.first h others v.at (v.held ∙ ap (λ l. v.first ∷ l) is) (subst (λ (us : List ℕ). Contains us h.urb.0) (sym pending) (first_in v.others h others is)) ((e + 1 ≤ e) × (v.row.clean ≡ true))))
        (λ is. with_here e [] so)

  -- an URB at some place of an endpoint was given back
  pub so_given : (d : Controller D) (e place : ℕ) (row : EndRow) (before after : List Held) (h : Held) → slice_get c.ends.items e ≡ Some row → row.held.items ≡ before ++ h ∷ after → length before ≡ place
      → d.ends.items ≡ slice_set c.ends.items e (with_held (before ++ after) row) → Leaves old new h.urb.0 → (so : ℕ → List Reply) → IsSoFar old so c.ends.items → IsSoFar new (without_place e place so) d.ends.items
  so_given d e place row before after h at parts long ends leaves so s = subst (λ n. IsSoFar new (without_place e n so) d.ends.items) long (go before parts ends)
    where
      pending : (before : List Held) → row.held.items ≡ before ++ h ∷ after → old.pending e ≡ urbs_in before ++ h.urb.0 ∷ urbs_in after
      pending before parts = sym (row_urbs old new c c a e row at) ∙ (ap urbs_in parts ∙ map-append (λ (h : Held). h.urb.0) before (h ∷ after))

      elsewhere : (before : List Held) → row.held.items ≡ before ++ h ∷ after → (f : ℕ) → f ≢ e → new.pending f ≡ old.pending f
      elsewhere before parts f off = leaves.elsewhere e f (subst (λ (us : List ℕ). Contains us h.urb.0) (sym (pending before parts)) (Contains-append_right (urbs_in before) (h.urb.0 ∷ urbs_in after) h.urb.0 (zero, omega arith, refl))) off

      go : (before : List Held) → row.held.items ≡ before ++ h ∷ after → d.ends.items ≡ slice_set c.ends.items e (with_held (before ++ after) row) → IsSoFar new (without_place e (length before) so) d.ends.items
      go [] parts ends = so_set d e row (with_held after row) at ends (elsewhere [] parts) (λ f. ⊥) (λ f. ⊥) (λ f off q. q) so (without_place e 0 so) (λ f off. with_there e f [] so off) s
          (λ g others is. subst (λ rs. IsMovedBy new row.shape g rs (⊥ × (row.clean ≡ true))) (sym (with_here e [] so))
          (second_new e row h g others at (parts ∙ ap (λ l. h ∷ l) is) (subst (λ (us : List ℕ). Contains us g.urb.0) (sym (leaves.here e [] (urbs_in after) (pending [] parts))) (first_in after g others is)) (⊥ × (row.clean ≡ true))))
          (λ is. with_here e [] so)
      go (b ∷ bs) parts ends = so_set d e row (with_held (b ∷ bs ++ after) row) at ends (elsewhere (b ∷ bs) parts) (λ f. ⊥) (λ f. ⊥) (λ f off q. q) so (without_place e (suc (length bs)) so) (λ f off. place_later e (length bs) f so) s
          (λ g others is. (let same : b ≡ g = cc in let was = in_row old new c c a e row b.urb.0 at (first_in row.held.items b (bs ++ h ∷ after) parts) in
          let now : Contains (new.pending e) b.urb.0 = subst (λ (us : List ℕ). Contains us b.urb.0) (sym (leaves.here e (b.urb.0 ∷ urbs_in bs) (urbs_in after) (pending (b ∷ bs) parts))) (zero, omega arith, refl) in
          subst (λ rs. IsMovedBy new row.shape g rs (⊥ × (row.clean ≡ true))) (sym (place_later e (length bs) e so))
          (subst (λ x. IsMovedBy new row.shape x (so e) (⊥ × (row.clean ≡ true))) same
          (moved_kept row.shape e b (so e) (⊥ × (row.clean ≡ true)) (⊥ × (row.clean ≡ true)) (λ q. q) was now (s.first e row b (bs ++ h ∷ after) at parts)))))
          (λ is. (let n = ap length is in absurd (omega arith)))

-- a controller that holds nothing
pub so_opens : (k : Knows) (ends : List EndRow) → ((e : ℕ) → held_at ends e ≡ []) → IsSoFar k (λ e. []) ends
so_opens k ends empty = record {
  first = λ e row h others at is. (let none = sym (ap held_in at) ∙ empty e in let n = ap length (sym is ∙ none) in absurd (omega arith));
  nothing = λ e row at is. refl;
}
