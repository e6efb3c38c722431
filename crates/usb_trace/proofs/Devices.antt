-- The devices of a run, by what they heard.
use Rattle.std.proofs.Common.{ℕ, ◌≡◌, ◌≢◌, ◌+◌, ◌<◌, Bool, true, false, cond, ◌&&◌, not, eqb, Some, List, ◌++◌, length, map, refl, sym, ap, ◌∙◌, subst, append_assoc, length-append, eq-eqb, eqb-true, true≢false}
use Rattle.std.specs.Prelude.{slice_get, slice_set}
use Rattle.std.specs.List.{All}
use Rattle.std.proofs.lemmas.Bool.{and_parts}
use Rattle.std.proofs.lemmas.List.{length-set, length-replicate}
use Rattle.std.proofs.lemmas.List.Elements.{All-append, All-map}
use mathlib.Core.Logic.{dite}
use native.Mathlib.Decide.{ℕ_discrete}
use Rattle.usb_machine.specs.declared.transfer.Transfer.{Transfer}
use Rattle.usb_xfer.specs.Direction.{is_control, asked_at}
use Rattle.usb_xfer.specs.Replies.{Reply, Question}
use Rattle.usb_xfer.specs.Moved.{question_of, reply_moves}
use Rattle.usb_xfer.specs.On.{Gave}
use Rattle.usb_xfer.specs.declared.script.Kind.{Kind}
use Rattle.usb_xfer.specs.declared.script.Kind.TheVariants.{Raw, Keyboard, Acm, Printer}
use Rattle.usb_device.specs.declared.scripted.Scripted.{Scripted}
use Rattle.usb_device.specs.Items.{script_at}
use Rattle.usb_device.specs.Device.{Call, questions_at}
use Rattle.usb_device.specs.Laws.{sets_halt, NoneHalts}
use Rattle.usb_device.specs.Replied.{call_of, Replied}
use Rattle.usb_scene.specs.declared.scene.Scene.{Scene}
use Rattle.usb_scene.specs.WellFormed.{is_raw, IsWellFormed}
use Rattle.usb_prepare.specs.Ends.{ends_of, shape_at, raw_in, is_raw_at}
use Rattle.usb_prepare.proofs.Facts.{ends_apart}
use Rattle.usb_trace.specs.Script.{replies_from}
use Rattle.usb_trace.specs.Plan.{script_in, script_of}
use Rattle.usb_trace.specs.Due.{is_ruled, heard_before, answers_from, next_due, asks}
use Rattle.usb_trace.specs.Devices.{ShowsDevice, ShowsDevices}
use Rattle.usb_device.proofs.Lookups.{each_set}
use Rattle.usb_trace.proofs.Controls.{zero_control}
use Rattle.usb_trace.proofs.Questions.{control_moves, tame_too}
use Rattle.usb_trace.proofs.Chained.{calls_at, asked_here, asked_elsewhere, answers, length-answers, raw_answers, unhalted_answers, ruled_answers, all_same, Heard, chain}

is_raw_kind : (kind : Kind) → is_raw kind ≡ true → kind ≡ Raw
is_raw_kind Raw e = refl
is_raw_kind Keyboard e = cc
is_raw_kind Acm e = cc
is_raw_kind Printer e = cc

not_true : (b : Bool) → not b ≡ true → b ≡ false
not_true true e = absurd (true≢false (sym e))
not_true false e = refl

-- an endpoint that answers by rules is 00 of a device that isn't raw
pub ruled_at : (s : Scene) (e : ℕ) → is_ruled s e ≡ true → (is_raw_at s (shape_at s e).device ≡ false) × ((shape_at s e).address ≡ 0)
ruled_at s e is =
    let parts = and_parts (not (is_raw_at s (shape_at s e).device)) (eqb (shape_at s e).address 0) is in
    (not_true (is_raw_at s (shape_at s e).device) parts.0, eqb-true (shape_at s e).address 0 parts.1)

-- and another one of such a device isn't 00
pub packets_at : (s : Scene) (e : ℕ) → is_ruled s e ≡ false → is_raw_at s (shape_at s e).device ≡ false → (shape_at s e).address ≢ 0
packets_at s e is other at = true≢false (sym (λ i. not (other i) && eq-eqb (shape_at s e).address 0 at i) ∙ is)

-- where each endpoint was asked the same, nothing changed
pub devices_same : (s : Scene) (asked now : ℕ → List Question) (devices : List Scripted) → ((e : ℕ) → now e ≡ asked e) → ShowsDevices s asked devices → ShowsDevices s now devices
devices_same s asked now devices same old = record {
  all = old.all;
  each = λ d x at. (let o = old.each d x at in record {
    device = o.device;
    at = o.at;
    calls = o.calls;
    stands = o.stands;
    counts = λ e near own is. o.counts e near own is ∙ ap (λ l. length l) (sym (same e));
    rules = λ e near own is. o.rules e near own is ∙ ap (λ l. questions_at 0 (heard_before s d) ++ l) (sym (same e));
    unhalted = o.unhalted;
  });
}

-- a device was asked at its endpoint e what this transfer asks, which halts none, and gave these replies
module _ (s : Scene) (good : IsWellFormed s) (asked : ℕ → List Question) (devices : List Scripted) (old : ShowsDevices s asked devices) (e : ℕ) (near : e < ends_of s)
    (start : Transfer) (asked_there : asked_at (shape_at s e) ≡ (shape_at s e).address) (tame : is_raw_at s (shape_at s e).device ≡ false → sets_halt (question_of (shape_at s e) start) ≡ false)
    (x : Scripted) (at : slice_get devices (shape_at s e).device ≡ Some x) (t now : Transfer) (same : is_control (shape_at s e).kind ≡ true → question_of (shape_at s e) t ≡ question_of (shape_at s e) start)
    (more : List Reply) (y : Scripted) (gave : Gave Replied (shape_at s e) t x more now y) where
  abbrev d : ℕ
  d = (shape_at s e).device

  abbrev a : ℕ
  a = (shape_at s e).address

  abbrev o : ShowsDevice s asked d x
  o = old.each d x at

  -- a control transfer asks one question, and none asks for a halt of a device of a class
  abbrev IsOne : Question → Type 0
  IsOne p = (is_control (shape_at s e).kind ≡ true → p ≡ question_of (shape_at s e) start) × (is_raw_at s d ≡ false → sets_halt p ≡ false)

  heard : Heard o.device.script a IsOne o.calls more y
  heard = subst (λ (b : ℕ). Heard o.device.script b IsOne o.calls more y) asked_there
      (chain o.device.script (shape_at s e) t x o.calls o.stands IsOne (same, λ other. tame_too (shape_at s e) start t same (tame other))
      (λ r z is. (λ c. control_moves (shape_at s e) c r z ∙ is.0 c, λ other. tame_too (shape_at s e) z (reply_moves (shape_at s e) r z) (λ c. control_moves (shape_at s e) c r z) (is.1 other)))
      more now y gave)

  abbrev questions : List Question
  questions = heard.questions

  abbrev next : List Question
  next = asks s e start (length more)

  long : length questions ≡ length more
  long = sym (ap (λ (l : List Reply). length l) heard.replies ∙ length-answers o.device.script a o.calls questions)

  long_next : length next ≡ length more
  long_next = length-replicate (length more) (question_of (shape_at s e) start)

  tame_all : is_raw_at s d ≡ false → All (λ q. sets_halt q ≡ false) questions
  tame_all other i z l = (heard.each i z l).1 other

  -- where the endpoint answers by rules, it was asked just this
  ruled_next : is_ruled s e ≡ true → questions ≡ next
  ruled_next is = let control = zero_control s good e near (ruled_at s e is).1 in
      all_same (question_of (shape_at s e) start) questions (λ i z l. (heard.each i z l).0 control) ∙ ap (asks s e start) long

  script_is : script_at o.device.script a ≡ script_of s e
  script_is = ap (script_in a) (sym o.at)

  numbered : is_ruled s e ≡ false → more ≡ replies_from (script_of s e) (length (asked e)) (length next)
  numbered is = heard.replies ∙ (go (is_raw_at s d) refl ∙ (λ i. replies_from (script_is i) (o.counts e near refl is i) ((long ∙ sym long_next) i)))
    where
      go : (b : Bool) → is_raw_at s d ≡ b → answers o.device.script a o.calls questions ≡ replies_from (script_at o.device.script a) (length (questions_at a o.calls)) (length questions)
      go true raw = raw_answers o.device.script a (is_raw_kind o.device.script.kind (sym (ap raw_in o.at) ∙ raw)) o.calls questions
      go false other = unhalted_answers o.device.script a (packets_at s e is other) o.calls questions (o.unhalted other) (tame_all other)

  abbrev before : List Call
  before = heard_before s d ++ map (call_of 0) (asked e)

  ruled : is_ruled s e ≡ true → more ≡ answers_from (slice_get s.devices d) before next
  ruled is = heard.replies ∙ (ap (λ (b : ℕ). answers o.device.script b o.calls questions) (ruled_at s e is).1
      ∙ (ruled_answers o.device o.calls before questions (o.rules e near refl is ∙ sym (asked_here 0 (heard_before s d) (asked e)))
      ∙ (λ i. answers_from (sym o.at i) before (ruled_next is i))))

  -- they were those that were due
  pub replies_due : more ≡ next_due s e (asked e) next
  replies_due = go (is_ruled s e) refl
    where
      go : (b : Bool) → is_ruled s e ≡ b → more ≡ next_due s e (asked e) next
      go true is = ruled is ∙ sym (ap (λ b. cond b (answers_from (slice_get s.devices d) before next) (replies_from (script_of s e) (length (asked e)) (length next))) is)
      go false is = numbered is ∙ sym (ap (λ b. cond b (answers_from (slice_get s.devices d) before next) (replies_from (script_of s e) (length (asked e)) (length next))) is)

  -- what was asked then
  module _ (then_asked : ℕ → List Question) (here : then_asked e ≡ asked e ++ next) (elsewhere : (c : ℕ) → c ≢ e → then_asked c ≡ asked c) where
    abbrev calls : List Call
    calls = o.calls ++ calls_at a questions

    counted_here : is_ruled s e ≡ false → length (questions_at a calls) ≡ length (then_asked e)
    counted_here is = ap (λ l. length l) (asked_here a o.calls questions) ∙ (length-append (questions_at a o.calls) questions
        ∙ ((λ i. o.counts e near refl is i + (long ∙ sym long_next) i) ∙ (sym (length-append (asked e) next) ∙ ap (λ l. length l) (sym here))))

    ruled_here : is_ruled s e ≡ true → questions_at 0 calls ≡ questions_at 0 (heard_before s d) ++ then_asked e
    ruled_here is = ap (λ (b : ℕ). questions_at 0 (o.calls ++ calls_at b questions)) (ruled_at s e is).1 ∙ (asked_here 0 o.calls questions
        ∙ ((λ i. o.rules e near refl is i ++ ruled_next is i) ∙ (append_assoc (questions_at 0 (heard_before s d)) (asked e) next
        ∙ ap (λ l. questions_at 0 (heard_before s d) ++ l) (sym here))))

    counted : (c : ℕ) → c < ends_of s → (shape_at s c).device ≡ d → is_ruled s c ≡ false → length (questions_at (shape_at s c).address calls) ≡ length (then_asked c)
    counted c l own is = dite (ℕ_discrete c e)
        (λ (one : c ≡ e). subst (λ (c : ℕ). length (questions_at (shape_at s c).address calls) ≡ length (then_asked c)) (sym one) (counted_here (ap (is_ruled s) (sym one) ∙ is)))
        (λ off. ap (λ l. length l) (asked_elsewhere (shape_at s c).address a (λ one. off (ends_apart s good c e l near own (sym one))) o.calls questions)
        ∙ (o.counts c l own is ∙ ap (λ l. length l) (sym (elsewhere c off))))

    ruled_too : (c : ℕ) → c < ends_of s → (shape_at s c).device ≡ d → is_ruled s c ≡ true → questions_at 0 calls ≡ questions_at 0 (heard_before s d) ++ then_asked c
    ruled_too c l own is = dite (ℕ_discrete c e)
        (λ (one : c ≡ e). subst (λ (c : ℕ). questions_at 0 calls ≡ questions_at 0 (heard_before s d) ++ then_asked c) (sym one) (ruled_here (ap (is_ruled s) (sym one) ∙ is)))
        (λ off. asked_elsewhere 0 a (λ zero. off (ends_apart s good c e l near own ((ruled_at s c is).1 ∙ sym zero))) o.calls questions
        ∙ (o.rules c l own is ∙ ap (λ l. questions_at 0 (heard_before s d) ++ l) (sym (elsewhere c off))))

    still_unhalted : is_raw_at s d ≡ false → NoneHalts calls
    still_unhalted other = All-append (λ (c : Call). sets_halt c.question ≡ false) o.calls (calls_at a questions) (o.unhalted other)
        (All-map (λ (c : Call). sets_halt c.question ≡ false) (call_of a) questions (tame_all other))

    asked_shown : ShowsDevice s then_asked d y
    asked_shown = record { device = o.device; at = o.at; calls = calls; stands = heard.stands; counts = counted; rules = ruled_too; unhalted = still_unhalted }

    other_shown : (b : ℕ) (z : Scripted) → b ≢ d → ShowsDevice s asked b z → ShowsDevice s then_asked b z
    other_shown b z off p =
        let apart : (c : ℕ) → (shape_at s c).device ≡ b → c ≢ e = λ c own same. off (sym own ∙ ap (λ (c : ℕ). (shape_at s c).device) same) in record {
          device = p.device;
          at = p.at;
          calls = p.calls;
          stands = p.stands;
          counts = λ c l own is. p.counts c l own is ∙ ap (λ l. length l) (sym (elsewhere c (apart c own)));
          rules = λ c l own is. p.rules c l own is ∙ ap (λ l. questions_at 0 (heard_before s b) ++ l) (sym (elsewhere c (apart c own)));
          unhalted = p.unhalted;
        }

    -- the devices show it
    pub devices_asked : (new : List Scripted) → new ≡ slice_set devices d y → ShowsDevices s then_asked new
    devices_asked new is = record {
      all = ap (λ l. length l) is ∙ (length-set devices d y ∙ old.all);
      each = each_set (ShowsDevice s asked) (ShowsDevice s then_asked) devices new d y is old.each asked_shown other_shown;
    }
