-- The Gives of a legal history are the server's, and each belongs to a giveback.
use Rattle.std.proofs.Common.{ℕ, ◌≡◌, ◌≢◌, ◌+◌, Bool, true, false, not, cond, eqb, Option, Some, None, List, [], ◌∷◌, ◌++◌, refl, sym, ap, ◌∙◌, arith, true≢false, eq-eqb}
use Rattle.usb_types.specs.declared.errno.Errno.{Errno}
use Rattle.usb_types.specs.declared.errno.Code.{Code}
use Rattle.usb_types.specs.declared.errno.Code.TheVariants.{Zero, Fault}
use Rattle.usb_machine.specs.declared.entry.TheConstants.{SERVER}
use Rattle.usb_machine.specs.declared.event.Event.{Event}
use Rattle.usb_machine.specs.declared.event.Event.TheVariants.{Give, End}
use Rattle.usb_machine.specs.declared.event.Answer.{Answer}
use Rattle.usb_machine.specs.declared.transfer.Transfer.{Transfer}
use Rattle.usb_machine.specs.declared.entry.Entry.{Entry}
use Rattle.usb_machine.specs.Shapes.{shape_fault}
use Rattle.usb_machine.specs.State.{is_zero}
use Rattle.usb_machine.specs.History.{Machine}
use Rattle.usb_machine.specs.Parts.{part_of}
use Rattle.usb_machine.specs.Legal.{May, IsLegal, empty, longer}
use Rattle.usb_machine.specs.Calls.{plain_entry, submit_entries}
use Rattle.usb_machine.proofs.Prefixes.{legal_beginning}
use Rattle.usb_scene.specs.declared.scene.Scene.{Scene}
use Rattle.usb_prepare.specs.Ends.{shape_at}
use Rattle.usb_prepare.specs.Layout.{home}
use Rattle.usb_trace.specs.declared.rows.Outcome.{Outcome}
use Rattle.usb_trace.specs.declared.rows.Outcome.TheVariants as outcome
use Rattle.usb_trace.specs.Plan.{DriverQuestion, question_at}
use Rattle.usb_trace.specs.Run.{Giveback, is_aside, submit_of, rest_entry, asked_entries, given_entries, moved_in, resent}
use Rattle.usb_trace.proofs.Episodes.{IsNoGive, HaveNoGive}
use Rattle.usb_trace.proofs.AskedEach.{asked_each}
use Rattle.usb_threads.specs.Serving.{of_givebacks, completed_by, completion_entries, served_entries}
use Rattle.usb_threads.proofs.Lists.{part-append}

abbrev is_give : Event → Bool
is_give (Give u) = true
is_give _ = false

abbrev one_if : Bool → ℕ
one_if b = cond b 1 0

-- how many Gives there are
abbrev pub gives_in : List Entry → ℕ
gives_in [] = 0
gives_in (x ∷ xs) = one_if (is_give x.event) + gives_in xs

pub gives-append : (xs ys : List Entry) → gives_in (xs ++ ys) ≡ gives_in xs + gives_in ys
gives-append [] ys = omega arith
gives-append (x ∷ xs) ys = let a = gives-append xs ys in omega arith

pub none_given : (xs : List Entry) → gives_in xs ≡ 0 → HaveNoGive xs
none_given [] e = tt
none_given (x ∷ xs) e = (no_give x.event (omega arith), none_given xs (omega arith))
  where
    no_give : (ev : Event) → one_if (is_give ev) ≡ 0 → IsNoGive ev
    no_give (Give u) e = absurd (omega arith)
    no_give _ e = tt

pub servers_gives : (g : Machine) (h : List Entry) → IsLegal g h → gives_in (part_of h SERVER) ≡ gives_in h
servers_gives g _ empty = refl
servers_gives g _ (longer h x legal f) =
    let old = servers_gives g h legal in
    let a = ap gives_in (part-append SERVER h (x ∷ [])) in
    let b = gives-append (part_of h SERVER) (cond (eqb x.pass SERVER) (x ∷ []) []) in
    let c = gives-append h (x ∷ []) in
    let d = one (eqb x.pass SERVER) refl in omega arith
  where
    other : (ev : Event) → May g h x.pass ev → x.pass ≢ SERVER → one_if (is_give ev) ≡ 0
    other (Give u) may off = absurd (off may.0)
    other _ may off = refl

    one : (b : Bool) → eqb x.pass SERVER ≡ b → gives_in (cond b (x ∷ []) []) ≡ gives_in (x ∷ [])
    one true e = refl
    one false e = let z = other x.event f.may (λ is. true≢false (sym (eq-eqb x.pass SERVER is) ∙ e)) in omega arith

-- after a beginning too
pub servers_after : (g : Machine) (a b : List Entry) → IsLegal g (a ++ b) → gives_in (part_of b SERVER) ≡ gives_in b
servers_after g a b legal =
    let whole = servers_gives g (a ++ b) legal in
    let front = servers_gives g a (legal_beginning g a (a ++ b) legal (b, refl)) in
    let parts = ap gives_in (part-append SERVER a b) in
    let sum = gives-append (part_of a SERVER) (part_of b SERVER) in
    let all = gives-append a b in omega arith

-- no Give stands aside
pub gives_kept : (xs : List Entry) → gives_in (of_givebacks xs) ≡ gives_in xs
gives_kept [] = refl
gives_kept (x ∷ xs) = let old = gives_kept xs in let now = one (not (is_aside x.event x.answer)) refl in omega arith
  where
    aside : (ev : Event) (a : Answer) → not (is_aside ev a) ≡ false → one_if (is_give ev) ≡ 0
    aside (Give u) a e = absurd (true≢false e)
    aside _ a e = refl

    one : (b : Bool) → not (is_aside x.event x.answer) ≡ b → gives_in (cond b (x ∷ of_givebacks xs) (of_givebacks xs)) ≡ one_if (is_give x.event) + gives_in (of_givebacks xs)
    one true e = refl
    one false e = let z = aside x.event x.answer e in omega arith

module _ (s : Scene) where
  submit_none : (p u : ℕ) (t : Transfer) (c : Code) → gives_in (submit_entries p u t c) ≡ 0
  submit_none p u t Zero = refl
  submit_none p u t (Fault e) = refl

  asked_none : (asking : Option DriverQuestion) (c : Code) → gives_in (asked_entries s asking c) ≡ 0
  asked_none asking c = asked_each s (λ xs. gives_in xs ≡ 0) asking c refl (λ a is none. submit_none SERVER a.urb a.transfer c)

  again_none : (fault : Option Errno) (u : ℕ) (again : Transfer) (c : Code) → gives_in (submit_of fault SERVER u again c) ≡ 0
  again_none (Some e) u again c = refl
  again_none None u again c = submit_none SERVER u again c

  completed_none : (u : ℕ) (back again : Transfer) (asking : Option DriverQuestion) (o : Outcome) → gives_in (completed_by s u back again asking o) ≡ 0
  completed_none u back again asking outcome.Rest = refl
  completed_none u back again asking (outcome.Again c) =
      let fault = shape_fault (shape_at s (home s u)) again in
      let a = again_none fault u again c in
      let rests : List Entry = cond (is_zero c) [] (rest_entry SERVER u again ∷ []) in
      let b = gives-append (submit_of fault SERVER u again c) rests in
      let d = rested_none c in omega arith
    where
      rested_none : (c : Code) → gives_in (cond (is_zero c) [] (rest_entry SERVER u again ∷ [])) ≡ 0
      rested_none Zero = refl
      rested_none (Fault e) = refl
  completed_none u back again asking (outcome.Asked c) = let z = asked_none asking c in omega arith

  pub given_one : (u : ℕ) (status : Code) (b : Bool) → gives_in (given_entries u status b) ≡ 1
  given_one u status true = refl
  given_one u status false = refl

  pub one_give : (r : Giveback) → gives_in (served_entries s r) ≡ 1
  one_give r =
      let a = gives-append (given_entries r.urb r.status r.finished) (completion_entries s r) in
      let b = given_one r.urb r.status r.finished in
      let c = gives-append (completed_by s r.urb (moved_in s r) (resent s r) (question_at s r.urb) r.outcome) (plain_entry SERVER (End record { 0 = r.urb }) ∷ []) in
      let d = completed_none r.urb (moved_in s r) (resent s r) (question_at s r.urb) r.outcome in omega arith
