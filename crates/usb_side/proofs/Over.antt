-- What stays over a call of the server, by the entries that it makes.
use Rattle.std.proofs.Common.{◌≡◌, ℕ, Bool, true, false, cond, Option, Some, None, List, [], ◌∷◌, sym, refl, ap, ◌∙◌, append-nil, fold, Result, Ok, Err}
use Rattle.std.proofs.lemmas.List.Sums.{fold-append}
use Rattle.usb_types.specs.declared.errno.Errno.{Errno}
use Rattle.usb_types.specs.declared.errno.Code.{Code}
use Rattle.usb_machine.specs.declared.entry.TheConstants.{SERVER}
use Rattle.usb_machine.specs.declared.entry.Entry.{Entry}
use Rattle.usb_machine.specs.declared.event.Event.TheVariants.{Submit, Link, Rest}
use Rattle.usb_machine.specs.declared.event.Answer.{Answer}
use Rattle.usb_machine.specs.declared.event.Answer.TheVariants.{Code as Status}
use Rattle.usb_machine.specs.declared.transfer.Transfer.{Transfer}
use Rattle.usb_machine.specs.State.{is_zero}
use Rattle.usb_machine.specs.History.{Machine, pending_of, pending_after}
use Rattle.usb_machine.specs.Calls.{entry, plain_entry, submit_entries}
use Rattle.usb_machine.specs.Fresh.{Known, Sound, Grown, Fresh}
use Rattle.usb_machine.specs.HostCalls.{Submitted, answer_of_submit}
use Rattle.usb_machine.specs.declared.host_answers.Refused.{Refused}
use Rattle.usb_machine.specs.Tokens.{gives_of, gives_after}
use Rattle.usb_serve.specs.Handlers.{StillRuns, refusal_in}
use Rattle.usb_types.specs.declared.urb.UrbId.{UrbId}
use Rattle.usb_machine.specs.HostCalls.{fault_at, shape_of}
use Rattle.usb_side.specs.Side.{IsWholeSide, side_runs, SideSubmits, SubmitsOr}
use Rattle.usb_machine.proofs.Over.{AllAre, NoEnd, runs_over}

-- a handler's calls
module _ (g : Machine) (p q : Known) (P Q : Type 0) (server : p.number ≡ SERVER) (bottom : g.bottom ≡ SERVER) (sound : Sound g p) (whole : Q) where
  still : (more : List Entry) → Grown p q more → Sound g q → AllAre NoEnd more → StillRuns (side_runs g p P) (side_runs g q Q)
  still more grown now all = record { whole = whole; handles = λ u r. (r.0, runs_over g p q server sound now more grown u bottom all r.1); homes = λ u h. h }

  pub rest_still : (u : _) (n : ℕ) (a : Answer) (c : Option Transfer) → Fresh g p q (entry p.number (Rest u n) a c ∷ []) → StillRuns (side_runs g p P) (side_runs g q Q)
  rest_still u n a c f = still (entry p.number (Rest u n) a c ∷ []) f.grown f.sound (tt, tt)

  submits_end_none : (n u : ℕ) (t : Transfer) (a : Code) → AllAre NoEnd (submit_entries n u t a)
  submits_end_none n u t a = go (is_zero a)
    where
      go : (b : Bool) → AllAre NoEnd (entry n (Submit record { 0 = u } t.number) (Status a) (Some t) ∷ cond b (plain_entry n (Link record { 0 = u }) ∷ []) [])
      go true = (tt, (tt, tt))
      go false = (tt, tt)

  pub submit_still : {A : Type 0} (u : ℕ) (t : Transfer) (fault : Option Errno) (r : Result A Refused) → Submitted g p q u t fault r → StillRuns (side_runs g p P) (side_runs g q Q)
  submit_still u t (Some e) r s = still [] s.1.grown s.1.sound tt
  submit_still u t None r s = still (submit_entries p.number u t (answer_of_submit r)) s.grown s.sound (submits_end_none p.number u t (answer_of_submit r))

-- the token is whole after a submit by its pass
submit_same : {X : Type 0} (f : X → Entry → X) (x : X) (n u : ℕ) (t : Transfer) (a : Code) → ((x : X) (v : _) (c : Option Transfer) (k m : ℕ) (b : Answer) → f x (entry m (Submit v k) b c) ≡ x) → ((x : X) (v : _) (m : ℕ) → f x (plain_entry m (Link v)) ≡ x) → fold f x (submit_entries n u t a) ≡ x
submit_same f x n u t a one two = go (is_zero a)
  where
    go : (b : Bool) → fold f x (entry n (Submit record { 0 = u } t.number) (Status a) (Some t) ∷ cond b (plain_entry n (Link record { 0 = u }) ∷ []) []) ≡ x
    go true = two (f x (entry n (Submit record { 0 = u } t.number) (Status a) (Some t))) _ n ∙ one x _ (Some t) t.number n (Status a)
    go false = one x _ (Some t) t.number n (Status a)

pub submit_whole : {A : Type 0} (g : Machine) (here here_now : Type 0) (p q : Known) (pending pending_now : ℕ → List ℕ) (given given_now : ℕ) (room room_now : Machine → Type 0) (u : ℕ) (t : Transfer) (fault : Option Errno) (r : Result A Refused)
    → IsWholeSide g here p pending given room → here_now → Submitted g p q u t fault r → ((e : ℕ) → pending_now e ≡ pending e) → given_now ≡ given → (room g → room_now g) → IsWholeSide g here_now q pending_now given_now room_now
submit_whole g here here_now p q pending pending_now given given_now room room_now u t (Some e) r w at s same count big = record {
  here = at;
  whole = record {
    room = big w.whole.room;
    number = s.1.grown.number ∙ w.whole.number;
    bottom = w.whole.bottom;
    pending_are = λ d l. same d ∙ (w.whole.pending_are d l ∙ ap (λ m. pending_of g m d) (sym (s.1.grown.mine ∙ append-nil p.mine)));
    given_are = count ∙ (w.whole.given_are ∙ ap gives_of (sym (s.1.grown.mine ∙ append-nil p.mine)));
  };
  sound = s.1.sound;
}
submit_whole g here here_now p q pending pending_now given given_now room room_now u t None r w at s same count big =
    let xs : List Entry = submit_entries p.number u t (answer_of_submit r) in
    record {
      here = at;
      whole = record {
        room = big w.whole.room;
        number = s.grown.number ∙ w.whole.number;
        bottom = w.whole.bottom;
        pending_are = λ d l. same d ∙ (w.whole.pending_are d l ∙ sym (ap (λ m. pending_of g m d) s.grown.mine ∙ (fold-append (λ us (y : Entry). pending_after g d us y.event y.answer) [] p.mine xs
            ∙ submit_same (λ us (y : Entry). pending_after g d us y.event y.answer) (pending_of g p.mine d) p.number u t (answer_of_submit r) (λ x v c k m b. refl) (λ x v m. refl))));
        given_are = count ∙ (w.whole.given_are ∙ sym (ap gives_of s.grown.mine ∙ (fold-append (λ n (y : Entry). gives_after n y.event) 0 p.mine xs
            ∙ submit_same (λ n (y : Entry). gives_after n y.event) (gives_of p.mine) p.number u t (answer_of_submit r) (λ x v c k m b. refl) (λ x v m. refl))));
      };
      sound = s.sound;
    }

-- a submit, by why it was refused
pub submit_told : {X : Type 0} (machine_of : X → Machine) (x : X) (p q : Known) (u : UrbId) (t : Transfer) (r : Result (Unit {0}) Refused) → Submitted (machine_of x) p q u.0 t (fault_at (shape_of (machine_of x) u.0) t) r → SideSubmits machine_of x x p q u t (refusal_in r)
submit_told machine_of x p q u t r s = record { same = refl; submitted = go (fault_at (shape_of (machine_of x) u.0) t) r s }
  where
    go : (fault : Option Errno) (r : Result (Unit {0}) Refused) → Submitted (machine_of x) p q u.0 t fault r → SubmitsOr (machine_of x) p q u.0 t fault (refusal_in r)
    go (Some errno) (Ok a) s = absurd s.0
    go (Some errno) (Err e) s = (ap Some s.0, s.1)
    go None (Ok a) s = s
    go None (Err e) s = s
