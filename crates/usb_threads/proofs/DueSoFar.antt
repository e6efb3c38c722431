-- What is due so far stands as first pending transfers go on, and as one URB after another comes back.
use Rattle.std.proofs.Common.{ℕ, ◌≡◌, ◌≢◌, ◌<◌, List, [], ◌∷◌, ◌++◌, length, refl, sym, ap, ◌∙◌, subst, arith, append-nil}
use mathlib.Core.Logic.{dite}
use native.Mathlib.Decide.{ℕ_discrete}
use Rattle.usb_machine.specs.declared.entry.Entry.{Entry}
use Rattle.usb_machine.specs.declared.transfer.Transfer.{Transfer}
use Rattle.usb_machine.specs.History.{home_of}
use Rattle.usb_xfer.specs.Replies.{Reply, Question}
use Rattle.usb_device.specs.declared.scripted.Scripted.{Scripted}
use Rattle.usb_device.specs.Replied.{Replied}
use Rattle.usb_scene.specs.declared.scene.Scene.{Scene}
use Rattle.usb_scene.specs.WellFormed.{IsWellFormed}
use Rattle.usb_prepare.specs.Layout.{home}
use Rattle.usb_serve.specs.SoFar.{with_replies}
use Rattle.usb_side.specs.Went.{Went, Stood, first, behind}
use Rattle.usb_trace.specs.Plan.{machine_of}
use Rattle.usb_trace.specs.Due.{asks, next_due}
use Rattle.usb_trace.specs.Run.{Giveback, asked_in, asked_of}
use Rattle.usb_trace.proofs.Dues.{nothing_due, asked-push_own, asked-push_else, asked-push_none}
use Rattle.usb_trace.proofs.Devices.{devices_same}
use Rattle.usb_threads.specs.DueSoFar.{AreApt, asked_for, WentDue, asked_by, AreDueSoFar, IsDueNext, GaveDue}
use Rattle.usb_threads.proofs.WentDue.{with_here, with_else, asked-append, due-more, went_due}

-- one transfer asks as another, where it is the same or has no replies
asks_same : (s : Scene) (e : ℕ) (t r : Transfer) (l : List Reply) → (0 < length l → r ≡ t) → asks s e r (length l) ≡ asks s e t (length l)
asks_same s e t r [] same = refl
asks_same s e t r (x ∷ l) same = ap (λ t. asks s e t (length (x ∷ l))) (same (omega arith))

module _ (s : Scene) (rounds : List Giveback) (start : ℕ → Transfer) (so : ℕ → List Reply) (devices : List Scripted) (old : AreDueSoFar s rounds start so devices) where
  abbrev asked : ℕ → List Question
  asked = asked_by s rounds

  -- the first pending transfers may be said otherwise, where there are no replies
  pub due_started : (others : ℕ → Transfer) → ((e : ℕ) → 0 < length (so e) → others e ≡ start e) → AreDueSoFar s rounds others so devices
  due_started others same =
      let each : (e : ℕ) → asks s e (others e) (length (so e)) ≡ asks s e (start e) (length (so e)) = λ e. asks_same s e (start e) (others e) (so e) (same e) in record {
        due = λ e. old.due e ∙ ap (next_due s e (asked e)) (sym (each e));
        shows = devices_same s (asked_for s asked start so) (asked_for s asked others so) devices (λ e. ap (λ l. asked e ++ l) (each e)) old.shows;
      }

  -- where no reply came and none went, it stands
  pub due_same : (now : ℕ → List Reply) → ((e : ℕ) → now e ≡ so e) → AreDueSoFar s rounds start now devices
  due_same now same = record {
    due = λ e. subst (λ (l : List Reply). l ≡ next_due s e (asked e) (asks s e (start e) (length l))) (sym (same e)) (old.due e);
    shows = devices_same s (asked_for s asked start so) (asked_for s asked start now) devices (λ e. ap (λ (l : List Reply). asked e ++ asks s e (start e) (length l)) (same e)) old.shows;
  }

  -- it goes on with the first pending transfers
  module _ (good : IsWellFormed s) (seen : List Entry) (apt : AreApt s seen) (after : List Scripted) (now : ℕ → List Reply) (went : Went Replied (machine_of s) seen start devices so after now) where
    abbrev asked_old : ℕ → List Question
    asked_old = asked_for s asked start so

    gone : WentDue s start asked_old so now after
    gone = went_due s good seen apt start asked_old so devices after now old.shows went

    pub due_on : AreDueSoFar s rounds start now after
    due_on = record {
      due = λ e. subst (λ (l : List Reply). l ≡ next_due s e (asked e) (asks s e (start e) (length l))) (sym (gone.joins e))
          (due-more s e (asked e) (start e) (so e) (gone.new e) (old.due e) (gone.due e));
      shows = devices_same s (asked_for s asked_old start gone.new) (asked_for s asked start now) after
          (λ e. ap (λ (l : List Reply). asked e ++ asks s e (start e) (length l)) (gone.joins e) ∙ asked-append s e (asked e) (start e) (so e) (gone.new e)) gone.shows;
    }

  -- one URB came back
  module _ (r : Giveback) (now : ℕ → List Reply) where
    abbrev h : ℕ
    h = home s r.urb

    abbrev longer : List Giveback
    longer = rounds ++ r ∷ []

    -- the first one at its endpoint, with all replies that its transfer had
    module _ (sent : r.sent ≡ start h) (replies : r.replies ≡ so h) (left : (d : ℕ) → now d ≡ with_replies h [] so d) where
      asked_own : asked_in s r ≡ asks s h (start h) (length (so h))
      asked_own = (λ i. asks s h (sent i) (length (replies i)))

      left_here : now h ≡ []
      left_here = left h ∙ with_here h [] so

      left_else : (d : ℕ) → d ≢ h → now d ≡ so d
      left_else d off = left d ∙ with_else h [] so d off

      asked_else : (d : ℕ) → d ≢ h → asked_of s d longer ≡ asked d
      asked_else d off = asked-push_else s rounds r d (λ is. off (sym is))

      next : IsDueNext s rounds r
      next = replies ∙ (old.due h ∙ ap (next_due s h (asked h)) (sym asked_own))

      due_left : (d : ℕ) → now d ≡ next_due s d (asked_of s d longer) (asks s d (start d) (length (now d)))
      due_left d = dite (ℕ_discrete d h)
          (λ is. nothing_due s d (asked_of s d longer) (start d) (now d) (ap now is ∙ left_here))
          (λ off. left_else d off ∙ (old.due d ∙ (λ i. next_due s d (sym (asked_else d off) i) (asks s d (start d) (length (sym (left_else d off) i))))))

      shown_here : asked_of s h longer ++ asks s h (start h) (length (now h)) ≡ asked h ++ asks s h (start h) (length (so h))
      shown_here = ap (λ (l : List Reply). asked_of s h longer ++ asks s h (start h) (length l)) left_here
          ∙ (append-nil (asked_of s h longer) ∙ (asked-push_own s rounds r h refl ∙ ap (λ l. asked h ++ l) asked_own))

      shown : (d : ℕ) → asked_for s (asked_by s longer) start now d ≡ asked_for s asked start so d
      shown d = dite (ℕ_discrete d h)
          (λ is. subst (λ (d : ℕ). asked_for s (asked_by s longer) start now d ≡ asked_for s asked start so d) (sym is) shown_here)
          (λ off. (λ i. asked_else d off i ++ asks s d (start d) (length (left_else d off i))))

      pub due_first : GaveDue s rounds r start now devices
      due_first = record {
        next = next;
        still = record {
          due = due_left;
          shows = devices_same s (asked_for s asked start so) (asked_for s (asked_by s longer) start now) devices shown old.shows;
        };
      }

    -- or one behind the first, without replies
    module _ (replies : r.replies ≡ []) (left : (d : ℕ) → now d ≡ so d) where
      asked_still : (d : ℕ) → asked_of s d longer ≡ asked d
      asked_still d = asked-push_none s rounds r d replies

      pub due_behind : GaveDue s rounds r start now devices
      due_behind = record {
        next = nothing_due s h (asked h) r.sent r.replies replies;
        still = record {
          due = λ d. left d ∙ (old.due d ∙ (λ i. next_due s d (sym (asked_still d) i) (asks s d (start d) (length (sym (left d) i)))));
          shows = devices_same s (asked_for s asked start so) (asked_for s (asked_by s longer) start now) devices
              (λ d. (λ i. asked_still d i ++ asks s d (start d) (length (left d i)))) old.shows;
        };
      }

    -- whichever it was
    pub due_gave : Stood start so now (home_of (machine_of s) r.urb) r.sent r.replies → GaveDue s rounds r start now devices
    due_gave (first sent replies left) = due_first sent replies left
    due_gave (behind replies left) = due_behind replies left
