-- A question is asked with an URB of a higher number than the one that came back.
use Rattle.std.proofs.Common.{ℕ, ◌≡◌, ◌<◌, ◌++◌, Bool, true, false, cond, Option, Some, None, List, refl, sym, ap, ◌∙◌, subst}
use Rattle.usb_types.specs.declared.errno.Code.{Code}
use Rattle.usb_types.specs.declared.urb.Action.{Action}
use Rattle.usb_types.specs.declared.urb.Action.TheVariants as action
use Rattle.usb_types.specs.declared.urb.Role.TheVariants.{Write, Ctl}
use Rattle.usb_types.specs.declared.urb.UrbId.{UrbId}
use Rattle.usb_machine.specs.declared.entry.Entry.{Entry}
use Rattle.usb_machine.specs.declared.transfer.Transfer.{Transfer}
use Rattle.usb_xfer.specs.Replies.{Reply}
use Rattle.usb_xfer.specs.Moved.{moved}
use Rattle.usb_bind.specs.Board.{urb_of_role}
use Rattle.usb_class.specs.Questions.{question_by}
use Rattle.usb_class.specs.Handler.{is_ctl}
use Rattle.usb_class.proofs.Facts.{role_has, asks_by}
use Rattle.usb_scene.specs.declared.scene.Scene.{Scene}
use Rattle.usb_scene.specs.WellFormed.{IsWellFormed}
use Rattle.usb_prepare.specs.Ends.{shape_at}
use Rattle.usb_prepare.specs.Layout.{home}
use Rattle.usb_prepare.proofs.Facts as facts
use Rattle.usb_class.specs.declared.owner.Owner.{Owner}
use Rattle.usb_trace.specs.Plan.{owner_of, origin_of, DriverQuestion, question_with, owner_question, question_at}
use Rattle.usb_trace.specs.Run.{given_entries, is_accepted, may_again, question_out, asks_or_rests, acts}
use Rattle.usb_class.specs.Handlers.{action_by}
use Rattle.usb_line.specs.Line.{Progress, outcome_by, round_of}
use Rattle.usb_line.proofs.Givebacks.{posed_by, posed}
use Rattle.usb_trace.proofs.Owners.{owner_bound, owner_ctl}

-- the URB that a question is asked with
asked_with : (urb : Option UrbId) (t : Option Transfer) (a : DriverQuestion) → question_with urb t ≡ Some a → (v : UrbId) × (urb ≡ Some v) × (v.0 ≡ a.urb)
asked_with None t a is = cc
asked_with (Some v) None a is = cc
asked_with (Some v) (Some t) a is = let same : record { urb = v.0; transfer = t } ≡ a = cc in (v, refl, ap (λ (x : DriverQuestion). x.urb) same)

not_none : (b : Bool) (asking : Option DriverQuestion) (a : DriverQuestion) → cond b None asking ≡ Some a → asking ≡ Some a
not_none true asking a is = cc
not_none false asking a is = is

taken : (b : Bool) (asking : Option DriverQuestion) (a : DriverQuestion) → cond b asking None ≡ Some a → asking ≡ Some a
taken true asking a is = is
taken false asking a is = cc

-- the URB that a driver writes with has a lower number than the one that its question is asked with
pub asks_before : (s : Scene) → IsWellFormed s → (u : ℕ) (a : DriverQuestion) → question_at s u ≡ Some a → (o : Owner) → owner_of s u ≡ Some o → o.role ≡ Write → u < a.urb
unfolding question_at
asks_before s good u a is o owns writes =
    let asks : question_with o.ctl (question_by o.driver (origin_of s o.place)) ≡ Some a
    = not_none (is_ctl o.role) (question_with o.ctl (question_by o.driver (origin_of s o.place))) a (sym (ap (owner_question s) owns) ∙ is) in
    let with = asked_with o.ctl (question_by o.driver (origin_of s o.place)) a asks in
    let b = owner_bound s u o owns in
    let writer : urb_of_role b.0 Write ≡ Some (record { 0 = u }) = role_has u b.0 Write (b.3 ∙ ap (λ r. Some r) writes) in
    let asker : urb_of_role b.0 Ctl ≡ Some with.0 = sym (owner_ctl s u o owns) ∙ with.1 in
    subst (λ n. u < n) with.2 (facts.bound_rises s good o.place b.0 (record { 0 = u }) with.0 b.1 writer asker)

-- a handler that asked did so for its driver
asked_by : (s : Scene) (h : List Entry) (u : ℕ) (asking : Option DriverQuestion) (act : Action) (a : DriverQuestion) → posed_by asking (outcome_by s h u asking act) ≡ Some a → (act ≡ action.Ask) × (asking ≡ Some a)
asked_by s h u asking (action.Again from len) a is = cc
asked_by s h u asking action.Rest a is = cc
asked_by s h u None action.Ask a is = cc
asked_by s h u (Some b) action.Ask a is = (refl, taken (is_accepted (outcome_by s h u (Some b) action.Ask)) (Some b) a is)

asks_for : (asking : Option DriverQuestion) (out : Bool) (act : Action) → asks_or_rests asking out act ≡ action.Ask → act ≡ action.Ask
asks_for asking out action.Ask is = refl
asks_for (Some b) true action.Rest is = cc
asks_for (Some b) false action.Rest is = cc
asks_for None true action.Rest is = cc
asks_for None false action.Rest is = cc
asks_for (Some b) true (action.Again from len) is = cc
asks_for (Some b) false (action.Again from len) is = cc
asks_for None true (action.Again from len) is = cc
asks_for None false (action.Again from len) is = cc

-- and after a write of it
writer_of : (owner : Option Owner) (may : Bool) (status : Code) (t : Transfer) → action_by owner may status t ≡ action.Ask → (o : Owner) × (owner ≡ Some o) × (o.role ≡ Write)
writer_of None true status t is = cc
writer_of None false status t is = cc
writer_of (Some o) may status t is = (o, refl, (asks_by o.driver o.role status t is).1)

-- so an URB that comes back has a lower number than the one of the question that it asked
pub posed_before : (s : Scene) → IsWellFormed s → (f : Progress) (u : ℕ) (status : Code) (finished : Bool) (t : Transfer) (replies : List Reply) (a : DriverQuestion)
    → posed s (round_of s f u status finished t replies) ≡ Some a → u < a.urb
posed_before s good f u status finished t replies a is =
    let back : Transfer = moved (shape_at s (home s u)) t replies in
    let asked = asked_by s (f.history ++ given_entries u status finished) u (question_at s u) (acts s f.rounds u status back) a is in
    let asks = asks_for (question_at s u) (question_out s f.rounds (owner_of s u)) (action_by (owner_of s u) (may_again s f.rounds u) status back) asked.0 in
    let o = writer_of (owner_of s u) (may_again s f.rounds u) status back asks in
    asks_before s good u a asked.1 o.0 o.1 o.2
