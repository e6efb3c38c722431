-- One event more of the machine, and where a giveback's entries come.
use Rattle.std.proofs.Common.{ℕ, ◌≡◌, ◌<◌, ◌^◌, Bool, true, false, Option, Some, None, List, [], ◌∷◌, ◌++◌, refl, sym, ap, ◌∙◌, subst, arith, append_assoc, append-nil}
use Rattle.usb_types.specs.declared.errno.Errno.{Errno}
use Rattle.usb_types.specs.declared.errno.Code.{Code}
use Rattle.usb_types.specs.declared.errno.Code.TheVariants.{Zero, Fault}
use Rattle.usb_machine.specs.declared.entry.TheConstants.{SERVER}
use Rattle.usb_machine.specs.declared.event.Event.{Event}
use Rattle.usb_machine.specs.declared.event.Event.TheVariants.{Submit, Link, Finish, Give, Rest, End}
use Rattle.usb_machine.specs.declared.event.Answer.{Answer}
use Rattle.usb_machine.specs.declared.event.Answer.TheVariants.{Nothing, Code as Status, Truth}
use Rattle.usb_machine.specs.declared.transfer.Transfer.{Transfer}
use Rattle.usb_machine.specs.declared.entry.Entry.{Entry}
use Rattle.usb_machine.specs.declared.plain.Plain.{Plain}
use Rattle.usb_machine.specs.declared.state.UrbState.{UrbState}
use Rattle.usb_machine.specs.History.{Machine, state_of}
use Rattle.usb_machine.specs.Legal.{Follows}
use Rattle.usb_machine.specs.Plain.{HasRoom, Stands}
use Rattle.usb_machine.specs.Calls.{entry, plain_entry}
use Rattle.usb_scene.specs.declared.scene.Scene.{Scene}
use Rattle.usb_trace.specs.declared.rows.Outcome.{Outcome}
use Rattle.usb_trace.specs.declared.rows.Outcome.TheVariants as outcome
use Rattle.usb_prepare.specs.Ends.{shape_at}
use Rattle.usb_prepare.specs.Layout.{home}
use Rattle.usb_trace.specs.Plan.{machine_of, owner_of}
use Rattle.usb_trace.specs.Run.{Giveback, moved_in, resent, handled_by, given_entries}
use Rattle.usb_line.specs.declared.giveback.PosedQuestion.{PosedQuestion}
use Rattle.usb_trace.specs.Plan.{DriverQuestion, question_at}
use Rattle.usb_line.specs.Back.{CanGive, finish_entries, given_after, acted_entries, is_again, IsPosed, IsPosedBy}
use Rattle.usb_trace.proofs.Moves.{moved_same}
use Rattle.usb_trace.proofs.Resent.{resent_number}
use Rattle.usb_trace.proofs.Entries.{AllFollow, own_state}
use Rattle.usb_line.proofs.Givebacks.{given_follow, handled_follow, end_runs}
use Rattle.usb_line.proofs.MayFollow.{end_follows}

-- the machine made this event with this answer, where an entry may follow
abbrev pub Entered : Plain → Plain → ℕ → Event → Answer → Type 0
Entered old new p e a = (s : Scene) (h : List Entry) (b : Answer) (t : Option Transfer) → Stands old (machine_of s) h → Follows (machine_of s) h (entry p e b t) → HasRoom h p e
    → (a ≡ b) × Stands new (machine_of s) (h ++ entry p e b t ∷ [])

-- so it made the entry
pub enters : (old new : Plain) (p : ℕ) (e : Event) (a : Answer) → Entered old new p e a → (s : Scene) (h : List Entry) (x : Entry) → p ≡ x.pass → e ≡ x.event
    → Stands old (machine_of s) h → Follows (machine_of s) h x → HasRoom h p e → (a ≡ x.answer) × Stands new (machine_of s) (h ++ x ∷ [])
enters old new p e a entered s h x pp ee stands follows room =
    let same : entry p e x.answer x.carried ≡ x = (λ i. record { pass = pp i; event = ee i; answer = x.answer; carried = x.carried }) in
    let got = entered s h x.answer x.carried stands (subst (Follows (machine_of s) h) (sym same) follows) room in
    (got.0, subst (λ (y : Entry). Stands new (machine_of s) (h ++ y ∷ [])) same got.1)

-- two entries, one after another
pub two_more : (plain : Plain) (g : Machine) (h : List Entry) (x y : Entry) → Stands plain g ((h ++ x ∷ []) ++ y ∷ []) → Stands plain g (h ++ x ∷ y ∷ [])
two_more plain g h x y = subst (Stands plain g) (append_assoc h (x ∷ []) (y ∷ []))

module _ (s : Scene) (h : List Entry) (r : Giveback) where
  abbrev pub finished : List Entry
  finished = h ++ finish_entries r.urb r.status r.finished

  abbrev pub give : Entry
  give = entry SERVER (Give record { 0 = r.urb }) (Status r.status) None

  -- the Give comes after the Finish, if there is one
  pub split_given : given_after h r ≡ finished ++ give ∷ []
  split_given = go r.finished
    where
      go : (b : Bool) → h ++ given_entries r.urb r.status b ≡ (h ++ finish_entries r.urb r.status b) ++ give ∷ []
      go true = sym (append_assoc h _ (give ∷ []))
      go false = sym (append_assoc h [] (give ∷ []))

  module _ (can : CanGive s h r) where
    -- the number of the transfer that comes back
    pub number_back : r.sent.number ≡ (moved_in s r).number
    number_back = sym (moved_same (shape_at s (home s r.urb)) r.sent r.replies).number

    -- and of what is sent again
    pub number_again : r.sent.number ≡ (resent s r).number
    number_again = number_back ∙ sym (resent_number (owner_of s r.urb) r.status (moved_in s r))

    pub finish_first : r.finished ≡ true → Follows (machine_of s) h (entry SERVER (Finish record { 0 = r.urb } r.status) (Truth true) None)
    finish_first is = go r.finished is (given_follow s h r can)
      where
        go : (b : Bool) → b ≡ true → AllFollow (machine_of s) h (given_entries r.urb r.status b) → Follows (machine_of s) h (entry SERVER (Finish record { 0 = r.urb } r.status) (Truth true) None)
        go true e follow = follow.0
        go false e follow = cc

    pub give_next : Follows (machine_of s) finished give
    give_next = go r.finished (given_follow s h r can)
      where
        go : (b : Bool) → AllFollow (machine_of s) h (given_entries r.urb r.status b) → Follows (machine_of s) (h ++ finish_entries r.urb r.status b) give
        go true follow = follow.1.0
        go false follow = subst (λ l. Follows (machine_of s) l give) (sym (append-nil h)) follow.0

    abbrev pub submit : Code → Entry
    submit c = entry SERVER (Submit record { 0 = r.urb } (resent s r).number) (Status c) (Some (resent s r))

    abbrev pub rest : Transfer → Entry
    rest t = entry SERVER (Rest record { 0 = r.urb } t.number) Nothing (Some t)

    abbrev pub link : Entry
    link = plain_entry SERVER (Link record { 0 = r.urb })

    pub acted : (o : Outcome) → r.outcome ≡ o → AllFollow (machine_of s) (given_after h r) (handled_by s r.urb (moved_in s r) (resent s r) (question_at s r.urb) o)
    acted o is = subst (λ o. AllFollow (machine_of s) (given_after h r) (handled_by s r.urb (moved_in s r) (resent s r) (question_at s r.urb) o)) is (handled_follow s h r can)

    pub submit_next : (c : Code) → r.outcome ≡ outcome.Again c → Follows (machine_of s) (given_after h r) (submit c)
    submit_next Zero is = (acted (outcome.Again Zero) is).0
    submit_next (Fault e) is = (acted (outcome.Again (Fault e)) is).0

    abbrev pub end : Entry
    end = plain_entry SERVER (End record { 0 = r.urb })

    pub end_next : Follows (machine_of s) (given_after h r ++ acted_entries s r) end
    end_next = end_follows s (given_after h r ++ acted_entries s r) r.urb (end_runs s h r can)

  -- a Finish begins and ends no handler
  pub finish_idle : (state_of h r.urb).handlers ≡ 0 → (state_of finished r.urb).handlers < 2 ^ 63
  finish_idle idle = let none = same r.finished ∙ idle in omega arith
    where
      same : (b : Bool) → (state_of (h ++ finish_entries r.urb r.status b) r.urb).handlers ≡ (state_of h r.urb).handlers
      same true = ap (λ (t : UrbState). t.handlers) (own_state r.urb h (entry SERVER (Finish record { 0 = r.urb } r.status) (Truth true) None ∷ []) (tt, refl, tt))
      same false = ap (λ l. (state_of l r.urb).handlers) (append-nil h)

pub is_zero_code : (c : Code) → ((e : Errno) → c ≡ Fault e → ⊥) → c ≡ Zero
is_zero_code Zero off = refl
is_zero_code (Fault e) off = absurd (off e refl)

pub again_says : (o : Outcome) → is_again o ≡ true → (says : Code) × (o ≡ outcome.Again says)
again_says outcome.Rest is = cc
again_says (outcome.Again says) is = (says, refl)
again_says (outcome.Asked says) is = cc

-- one that submits nothing again rests, where it asks nothing
pub rests : (s : Scene) (asking : Option DriverQuestion) (o : Outcome) → is_again o ≡ false → IsPosedBy s asking o None → o ≡ outcome.Rest
rests s asking outcome.Rest is posed = refl
rests s asking (outcome.Again says) is posed = cc
rests s None (outcome.Asked says) is posed = absurd posed
rests s (Some a) (outcome.Asked says) is posed = absurd posed

-- and else asks
pub asks : (s : Scene) (asking : Option DriverQuestion) (o : Outcome) (q : PosedQuestion) → is_again o ≡ false → IsPosedBy s asking o (Some q) → (a : DriverQuestion) × (says : Code) × (asking ≡ Some a) × (o ≡ outcome.Asked says) × IsPosed s a q
asks s asking outcome.Rest q is posed = cc
asks s asking (outcome.Again says) q is posed = cc
asks s None (outcome.Asked says) q is posed = absurd posed
asks s (Some a) (outcome.Asked says) q is posed = (a, says, refl, refl, posed)
