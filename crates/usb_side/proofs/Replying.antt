-- What devices reply while first transfers are moved, endpoint by endpoint.
use Rattle.std.proofs.Common.{◌≡◌, ◌≢◌, ℕ, ◌<◌, ◌≤◌, Bool, true, false, cond, eqb, Option, Some, None, List, [], ◌∷◌, ◌++◌, refl, sym, ap, ◌∙◌, subst, arith, eq-eqb, ne_eqb}
use Rattle.std.specs.Prelude.{slice_get, slice_set, Contains}
use Rattle.std.proofs.lemmas.Option.{slice_get_within}
use Rattle.usb_types.specs.declared.urb.UrbId.{UrbId}
use Rattle.usb_types.specs.declared.errno.Code.{Code}
use Rattle.usb_machine.specs.declared.entry.TheConstants.{SERVER}
use Rattle.usb_machine.specs.declared.entry.Entry.{Entry}
use Rattle.usb_machine.specs.declared.transfer.Transfer.{Transfer}
use Rattle.usb_machine.specs.Shapes.{HasWindow, shape_fault}
use Rattle.usb_machine.specs.History.{Machine, home_of, sent_of, pending_of}
use Rattle.usb_machine.specs.Fresh.{Known, Sound}
use Rattle.usb_machine.specs.Tokens.{first_of}
use Rattle.usb_xfer.specs.Replies.{Question, Reply}
use Rattle.usb_xfer.specs.declared.packet.Step.{Step}
use Rattle.usb_xfer.specs.Moved.{moved}
use Rattle.usb_serve.specs.declared.controller.Held.{Held}
use Rattle.usb_serve.specs.declared.controller.EndRow.{EndRow}
use Rattle.usb_serve.specs.Knows.{Knows}
use Rattle.usb_serve.specs.Held.{Serving, Holds, urbs_in, held_in}
use Rattle.usb_serve.specs.Serving.{Moves, PassesEnd, Passes, skips, waits, late}
use Rattle.usb_serve.specs.SoFar.{IsMovedBy, IsSoFar, with_replies, after_end, after_below}
use Rattle.usb_serve.proofs.SoFars.{with_there}
use Rattle.usb_side.specs.Side.{side_knows}
use Rattle.usb_side.specs.Went.{Went, Replied, first_sent, sent_with, or_none}
use Rattle.usb_side.proofs.Knowing.{home}
use Rattle.usb_side.proofs.Rows.{IsShaped, pass_stays}

-- what is said of an endpoint last stands
pub with_twice : (e d : ℕ) (rs more : List Reply) (so : ℕ → List Reply) → with_replies e rs so d ≡ with_replies e rs (with_replies e more so) d
with_twice e d rs more so = go (eqb d e)
  where
    go : (b : Bool) → cond b rs (so d) ≡ cond b rs (cond b more (so d))
    go true = refl
    go false = refl

-- what was sent with the first of a row
pub start_of : (seen : List Entry) (ends : List EndRow) (e : ℕ) (row : EndRow) (h : Held) (others : List Held) (t : Transfer) → slice_get ends e ≡ Some row → row.held.items ≡ h ∷ others → sent_of seen h.urb.0 ≡ Some t → first_sent seen ends e ≡ t
start_of seen ends e row h others t at is sent =
    ap (λ o. sent_with seen (first_of (urbs_in (held_in o)))) at ∙ (ap (λ hs. sent_with seen (first_of (urbs_in hs))) is ∙ ap or_none sent)

-- what was sent with the first is the same where the first and what was sent are
pub first_stays : (h k : List Entry) (o p : Option UrbId) → p ≡ o → ((u : UrbId) → o ≡ Some u → sent_of k u.0 ≡ sent_of h u.0) → sent_with k p ≡ sent_with h o
first_stays h k o p is same = ap (sent_with k) is ∙ go o same
  where
    go : (o : Option UrbId) → ((u : UrbId) → o ≡ Some u → sent_of k u.0 ≡ sent_of h u.0) → sent_with k o ≡ sent_with h o
    go None same = refl
    go (Some u) same = ap or_none (same u refl)

module _ {S D : Type 0} (finishes : S → UrbId → Code → Bool → S → Type 0) (replies : D → ℕ → Question → Reply → D → Type 0) (items_used : D → ℕ) (g : Machine) (p : Known) (server : p.number ≡ SERVER) (sound : Sound g p)
    (n : ℕ) (P : Type 0) (X : ℕ → Type 0) (l : Serving S D) (holds : Holds (side_knows g p n P X) l.ends) (shaped : IsShaped g.layout.shapes l.ends) (so : ℕ → List Reply) (so_far : IsSoFar (side_knows g p n P X) so l.ends) where
  abbrev start : ℕ → Transfer
  start = first_sent p.seen l.ends

  -- a first transfer that stands as it stood is moved
  replied : (e : ℕ) (devices : List D) (ends : List EndRow) (step : Step) (v : Moves replies e devices ends step) (mid : ℕ → List Reply) → mid e ≡ so e → slice_get l.ends e ≡ Some v.row
      → Replied replies g p.seen start devices (slice_set devices v.row.shape.device v.after) mid e v.more
  replied e devices ends step v mid same at =
      let m : IsMovedBy (side_knows g p n P X) v.row.shape v.first (so e) (⊥ × (v.row.clean ≡ true)) = so_far.first e v.row v.first v.others at v.held in
      let is : start e ≡ m.held.start = start_of p.seen l.ends e v.row v.first v.others m.held.start at v.held m.held.sent in
      let there : Contains (pending_of g p.mine e) v.first.urb.0 =
      subst (λ (us : List ℕ). Contains us v.first.urb.0) (ap (λ o. urbs_in (held_in o)) (sym at) ∙ holds.urbs e (slice_get_within l.ends e v.row at)) (subst (λ (hs : List Held). Contains (urbs_in hs) v.first.urb.0) (sym v.held) (0, omega arith, refl)) in
      record {
        shape = v.row.shape;
        at = shaped e v.row at;
        urb = v.first.urb.0;
        home = sym (home g p server sound e v.first.urb.0 there);
        sent = m.held.sent ∙ ap Some (sym is);
        window = subst HasWindow (sym is) m.held.window;
        fits = ap (shape_fault v.row.shape) is ∙ m.held.fits;
        before = v.first.transfer;
        moved_so = m.held.moved_so ∙ (ap (λ t. moved v.row.shape t m.held.before) (sym is) ∙ ap (moved v.row.shape (start e)) (m.is ∙ sym same));
        device = v.device;
        there = v.asked;
        now = v.now;
        then_is = v.after;
        gave = v.gave;
        devices_so = refl;
      }

  -- an endpoint was gone through, which stood as it stood
  went_end : (e : ℕ) (m : Serving S D) (b : Bool) (y : Serving S D) (c : PassesEnd finishes replies items_used e m b y) (mid : ℕ → List Reply) → mid e ≡ so e → ((row : EndRow) → slice_get m.ends e ≡ Some row → slice_get l.ends e ≡ Some row)
      → Went replies g p.seen start l.devices so m.devices mid → Went replies g p.seen start l.devices so y.devices (after_end finishes replies items_used e m b y c mid)
  went_end e m _ _ (skips row at skipped) mid same back w = w
  went_end e m _ _ (waits v) mid same back w = Went.more m.devices (slice_set m.devices v.row.shape.device v.after) mid e v.more w (replied e m.devices m.ends _ v mid same (back v.row v.at))
  went_end e m _ _ (late code s v f) mid same back w = Went.more m.devices (slice_set m.devices v.row.shape.device v.after) mid e v.more w (replied e m.devices m.ends _ v mid same (back v.row v.at))

  -- and leaves the replies elsewhere
  end_replies : (e : ℕ) (m : Serving S D) (b : Bool) (y : Serving S D) (c : PassesEnd finishes replies items_used e m b y) (mid : ℕ → List Reply) (d : ℕ) → d ≢ e → after_end finishes replies items_used e m b y c mid d ≡ mid d
  end_replies e m _ _ (skips row at skipped) mid d off = refl
  end_replies e m _ _ (waits v) mid d off = with_there e d (mid e ++ v.more) mid off
  end_replies e m _ _ (late code s v f) mid d off = with_there e d (mid e ++ v.more) mid off

  pub below_replies : (k : ℕ) (b : Bool) (y : Serving S D) (c : Passes finishes replies items_used l k b y) (d : ℕ) → k ≤ d → after_below finishes replies items_used l k b y c so d ≡ so d
  below_replies _ _ _ Passes.none d above = refl
  below_replies _ _ y (Passes.end e b c m _ below more) d above =
      end_replies e m c y more (after_below finishes replies items_used l e b m below so) d (λ is. absurd (omega arith)) ∙ below_replies e b m below d (omega arith)

  -- the endpoints below the number were gone through
  pub went_below : (k : ℕ) (b : Bool) (y : Serving S D) (c : Passes finishes replies items_used l k b y) → Went replies g p.seen start l.devices so y.devices (after_below finishes replies items_used l k b y c so)
  went_below _ _ _ Passes.none = Went.none
  went_below _ _ y (Passes.end e b c m _ below more) =
      went_end e m c y more (after_below finishes replies items_used l e b m below so) (below_replies e b m below e (omega arith)) (λ row at. sym (pass_stays l e b m below e (omega arith)) ∙ at) (went_below e b m below)

  -- and then one whose transfer ended
  pub went_ended : (k : ℕ) (b : Bool) (m : Serving S D) (c : Passes finishes replies items_used l k b m) (step : Step) (v : Moves replies k m.devices m.ends step)
      → Went replies g p.seen start l.devices so (slice_set m.devices v.row.shape.device v.after) (with_replies k (after_below finishes replies items_used l k b m c so k ++ v.more) (after_below finishes replies items_used l k b m c so))
  went_ended k b m c step v = let mid = after_below finishes replies items_used l k b m c so in
      Went.more m.devices (slice_set m.devices v.row.shape.device v.after) mid k v.more (went_below k b m c) (replied k m.devices m.ends step v mid (below_replies k b m c k (omega arith)) (sym (pass_stays l k b m c k (omega arith)) ∙ v.at))
