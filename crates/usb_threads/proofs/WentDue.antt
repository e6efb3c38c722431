-- Where first pending transfers go on, the devices give the replies that are due.
use Rattle.std.proofs.Common.{ℕ, ◌≡◌, ◌≢◌, ◌<◌, cond, false, true, Some, List, [], ◌++◌, length, refl, sym, ap, ◌∙◌, subst, append_assoc, append-nil, eq-eqb, ne_eqb}
use Rattle.std.specs.Prelude.{slice_get, slice_set}
use Rattle.std.proofs.lemmas.Option.{slice_get_within}
use mathlib.Core.Logic.{dite}
use native.Mathlib.Decide.{ℕ_discrete}
use Rattle.usb_machine.specs.declared.entry.Entry.{Entry}
use Rattle.usb_machine.specs.declared.layout.Shape.{Shape}
use Rattle.usb_machine.specs.declared.transfer.Transfer.{Transfer}
use Rattle.usb_xfer.specs.Direction.{is_control, asked_at}
use Rattle.usb_xfer.specs.Replies.{Reply, Question}
use Rattle.usb_xfer.specs.Moved.{question_of}
use Rattle.usb_xfer.specs.On.{Gave}
use Rattle.usb_device.specs.declared.scripted.Scripted.{Scripted}
use Rattle.usb_device.specs.Laws.{sets_halt}
use Rattle.usb_device.specs.Replied.{Replied}
use Rattle.usb_scene.specs.declared.scene.Scene.{Scene}
use Rattle.usb_scene.specs.WellFormed.{IsWellFormed}
use Rattle.usb_prepare.specs.Ends.{shapes_of, ends_of, shape_at, is_raw_at, or_control}
use Rattle.usb_serve.specs.SoFar.{with_replies}
use Rattle.usb_side.specs.Went.{Replied as RepliedAt, Went, none, more}
use Rattle.usb_trace.specs.Plan.{machine_of}
use Rattle.usb_trace.specs.Due.{asks, next_due}
use Rattle.usb_trace.specs.Devices.{IsApt, ShowsDevices}
use Rattle.usb_trace.proofs.Questions.{control_moved}
use Rattle.usb_trace.proofs.Dues.{due-append, due-none, asks-append}
use Rattle.usb_trace.proofs.Devices.{devices_same, replies_due, devices_asked}
use Rattle.usb_threads.specs.DueSoFar.{AreApt, asked_for, WentDue}

-- the replies of one endpoint are these now, and those of the others are still the same
pub with_here : (e : ℕ) (replies : List Reply) (so : ℕ → List Reply) → with_replies e replies so e ≡ replies
with_here e replies so = ap (λ b. cond b replies (so e)) (eq-eqb e e refl)

pub with_else : (e : ℕ) (replies : List Reply) (so : ℕ → List Reply) (d : ℕ) → d ≢ e → with_replies e replies so d ≡ so d
with_else e replies so d off = ap (λ b. cond b replies (so d)) (ne_eqb d e off)

-- what was asked for replies, and for others after them
pub asked-append : (s : Scene) (e : ℕ) (asked : List Question) (t : Transfer) (old new : List Reply)
    → asked ++ asks s e t (length (old ++ new)) ≡ (asked ++ asks s e t (length old)) ++ asks s e t (length new)
asked-append s e asked t old new = ap (λ l. asked ++ l) (asks-append s e t old new) ∙ sym (append_assoc asked (asks s e t (length old)) (asks s e t (length new)))

-- replies that are due, and then others that are due
pub due-more : (s : Scene) (e : ℕ) (asked : List Question) (t : Transfer) (old new : List Reply) → old ≡ next_due s e asked (asks s e t (length old))
    → new ≡ next_due s e (asked ++ asks s e t (length old)) (asks s e t (length new)) → old ++ new ≡ next_due s e asked (asks s e t (length (old ++ new)))
due-more s e asked t old new due_first due_then =
    (λ i. due_first i ++ due_then i) ∙ (sym (due-append s e asked (asks s e t (length old)) (asks s e t (length new))) ∙ ap (next_due s e asked) (sym (asks-append s e t old new)))

module _ (s : Scene) (good : IsWellFormed s) (seen : List Entry) (apt : AreApt s seen) (start : ℕ → Transfer) (asked : ℕ → List Question) (so : ℕ → List Reply) where
  -- one endpoint went on after others had
  module _ (m n : List Scripted) (mid : ℕ → List Reply) (e : ℕ) (rs : List Reply) (old : WentDue s start asked so mid m) (one : RepliedAt Replied (machine_of s) seen start m n mid e rs) where
    abbrev t : Transfer
    t = start e

    abbrev asked_mid : ℕ → List Question
    asked_mid = asked_for s asked start old.new

    is : one.shape ≡ shape_at s e
    is = sym (ap or_control one.at)

    near : e < ends_of s
    near = slice_get_within (shapes_of s) e one.shape one.at

    is_apt : IsApt s one.urb t
    is_apt = apt one.urb t one.sent

    asked_there : asked_at (shape_at s e) ≡ (shape_at s e).address
    asked_there = subst (λ (k : ℕ). asked_at (shape_at s k) ≡ (shape_at s k).address) one.home is_apt.asked

    tame : is_raw_at s (shape_at s e).device ≡ false → sets_halt (question_of (shape_at s e) t) ≡ false
    tame = subst (λ (k : ℕ). is_raw_at s (shape_at s k).device ≡ false → sets_halt (question_of (shape_at s k) t) ≡ false) one.home is_apt.tame

    there : slice_get m (shape_at s e).device ≡ Some one.device
    there = subst (λ (x : Shape). slice_get m x.device ≡ Some one.device) is one.there

    gave : Gave Replied (shape_at s e) one.before one.device rs one.now one.then_is
    gave = subst (λ (x : Shape). Gave Replied x one.before one.device rs one.now one.then_is) is one.gave

    same : is_control (shape_at s e).kind ≡ true → question_of (shape_at s e) one.before ≡ question_of (shape_at s e) t
    same control = subst (λ (x : Shape). is_control x.kind ≡ true → question_of x one.before ≡ question_of x t) is
        (λ c. ap (question_of one.shape) one.moved_so ∙ control_moved one.shape c t (mid e)) control

    rs_due : rs ≡ next_due s e (asked_mid e) (asks s e t (length rs))
    rs_due = replies_due s good asked_mid m old.shows e near t asked_there tame one.device there one.before one.now same rs one.then_is gave

    abbrev new : ℕ → List Reply
    new = with_replies e (old.new e ++ rs) old.new

    abbrev now : ℕ → List Reply
    now = with_replies e (mid e ++ rs) mid

    here : new e ≡ old.new e ++ rs
    here = with_here e (old.new e ++ rs) old.new

    elsewhere : (d : ℕ) → d ≢ e → new d ≡ old.new d
    elsewhere = with_else e (old.new e ++ rs) old.new

    joins_here : now e ≡ so e ++ new e
    joins_here = with_here e (mid e ++ rs) mid ∙ (ap (λ l. l ++ rs) (old.joins e) ∙ (append_assoc (so e) (old.new e) rs ∙ ap (λ l. so e ++ l) (sym here)))

    joins_else : (d : ℕ) → d ≢ e → now d ≡ so d ++ new d
    joins_else d off = with_else e (mid e ++ rs) mid d off ∙ (old.joins d ∙ ap (λ l. so d ++ l) (sym (elsewhere d off)))

    abbrev IsDue : ℕ → List Reply → Type 0
    IsDue d l = l ≡ next_due s d (asked d) (asks s d (start d) (length l))

    due_here : IsDue e (new e)
    due_here = subst (IsDue e) (sym here) (due-more s e (asked e) t (old.new e) rs (old.due e) rs_due)

    due_else : (d : ℕ) → d ≢ e → IsDue d (new d)
    due_else d off = subst (IsDue d) (sym (elsewhere d off)) (old.due d)

    asked_here : asked_for s asked start new e ≡ asked_mid e ++ asks s e t (length rs)
    asked_here = ap (λ (l : List Reply). asked e ++ asks s e t (length l)) here ∙ asked-append s e (asked e) t (old.new e) rs

    asked_else : (d : ℕ) → d ≢ e → asked_for s asked start new d ≡ asked_mid d
    asked_else d off = ap (λ (l : List Reply). asked d ++ asks s d (start d) (length l)) (elsewhere d off)

    one_went : WentDue s start asked so now n
    one_went = record {
      new = new;
      joins = λ d. dite (ℕ_discrete d e) (λ at. subst (λ (d : ℕ). now d ≡ so d ++ new d) (sym at) joins_here) (joins_else d);
      due = λ d. dite (ℕ_discrete d e) (λ at. subst (λ (d : ℕ). IsDue d (new d)) (sym at) due_here) (due_else d);
      shows = devices_asked s good asked_mid m old.shows e near t asked_there tame one.device there one.before one.now same rs one.then_is gave
          (asked_for s asked start new) asked_here asked_else n (one.devices_so ∙ ap (λ (x : Shape). slice_set m x.device one.then_is) is);
    }

  -- and so does any chain of them
  pub went_due : (devices after : List Scripted) (now : ℕ → List Reply) → ShowsDevices s asked devices → Went Replied (machine_of s) seen start devices so after now → WentDue s start asked so now after
  went_due devices _ _ shown none = record {
    new = λ e. [];
    joins = λ e. sym (append-nil (so e));
    due = λ e. sym (due-none s e (asked e));
    shows = devices_same s asked (asked_for s asked start (λ e. [])) devices (λ e. append-nil (asked e)) shown;
  }
  went_due devices _ _ shown (more m n mid e rs w one) = one_went m n mid e rs (went_due devices m mid shown w) one
