-- A handler's entries leave what a controller keeps.
use Rattle.std.proofs.Common.{◌≡◌, ℕ, List, [], ◌∷◌, refl, ap, ◌∙◌, fold}
use Rattle.std.proofs.lemmas.List.Sums.{fold-append}
use Rattle.usb_machine.specs.declared.entry.TheConstants.{SERVER}
use Rattle.usb_machine.specs.declared.entry.Entry.{Entry}
use Rattle.usb_machine.specs.declared.event.Event.{Event}
use Rattle.usb_machine.specs.declared.event.Event.TheVariants.{Take, Finish, Give, Submit, Link, Rest, End}
use Rattle.usb_machine.specs.declared.event.Answer.{Answer}
use Rattle.usb_machine.specs.History.{Machine, pending_of, pending_after}
use Rattle.usb_machine.specs.Fresh.{Known, Grown, Sound}
use Rattle.usb_serve.specs.Held.{Agrees}
use Rattle.usb_serve.specs.declared.controller.Controller.{Controller}
use Rattle.usb_xfer.specs.Replies.{Reply}
use Rattle.usb_serve.specs.Knows.{Keeps, FinishesNone}
use Rattle.usb_serve.specs.SoFar.{IsSoFar}
use Rattle.usb_serve.proofs.Agreeing.{agrees_same}
use Rattle.usb_serve.proofs.SoFars.{so_same}
use Rattle.usb_side.specs.Side.{side_knows}
use Rattle.usb_side.proofs.Knowing.{queued}
use Rattle.usb_machine.proofs.Over.{AllAre, NoGive, NoFinish, sent_over, marked_over, finished_over}

-- an entry that takes, finishes and gives back nothing
abbrev pub IsHandlers : Event → Answer → Type 0
IsHandlers (Take e) a = ⊥
IsHandlers (Finish u c) a = ⊥
IsHandlers (Give u) a = ⊥
IsHandlers e a = Unit {0}

pub gives_none : (u : ℕ) (xs : List Entry) → AllAre IsHandlers xs → AllAre (NoGive u) xs
gives_none u [] a = tt
gives_none u (x ∷ xs) a = (go x.event x.answer a.0, gives_none u xs a.1)
  where
    go : (e : Event) (a : Answer) → IsHandlers e a → NoGive u e a
    go (Give v) a is = absurd is
    go _ a is = refl

finishes_none : (xs : List Entry) → AllAre IsHandlers xs → AllAre NoFinish xs
finishes_none [] a = tt
finishes_none (x ∷ xs) a = (go x.event x.answer a.0, finishes_none xs a.1)
  where
    go : (e : Event) (a : Answer) → IsHandlers e a → NoFinish e a
    go (Finish v c) a is = absurd is
    go (Take v) a is = tt
    go (Give v) a is = tt
    go (Submit v n) a is = tt
    go (Link v) a is = tt
    go (Event.Mark v w) a is = tt
    go (Rest v n) a is = tt
    go (End v) a is = tt
    go (Event.Reject v) a is = tt
    go (Event.Withdraw v) a is = tt
    go (Event.Quiet v) a is = tt
    go (Event.Claim v) a is = tt
    go (Event.Flag v w) a is = tt
    go (Event.Unflag v w) a is = tt

pending_over : (g : Machine) (e : ℕ) (us : List ℕ) (xs : List Entry) → AllAre IsHandlers xs → fold (λ us (x : Entry). pending_after g e us x.event x.answer) us xs ≡ us
pending_over g e us [] a = refl
pending_over g e us (x ∷ xs) a = ap (λ vs. fold (λ us (x : Entry). pending_after g e us x.event x.answer) vs xs) (go x.event x.answer a.0) ∙ pending_over g e us xs a.1
  where
    go : (ev : Event) (a : Answer) → IsHandlers ev a → pending_after g e us ev a ≡ us
    go (Take v) a is = absurd is
    go (Give v) a is = absurd is
    go _ a is = refl

module _ (g : Machine) (p q : Known) (server : p.number ≡ SERVER) (sound : Sound g p) (now : Sound g q) (more : List Entry) (grown : Grown p q more) (all : AllAre IsHandlers more) where
  same_pending : (e : ℕ) → pending_of g q.mine e ≡ pending_of g p.mine e
  same_pending e = ap (λ m. pending_of g m e) grown.mine ∙ (fold-append (λ us (x : Entry). pending_after g e us x.event x.answer) [] p.mine more ∙ pending_over g e (pending_of g p.mine e) more all)

  kept : (m n : ℕ) (P Q : Type 0) (X Y : ℕ → Type 0) → Keeps (side_knows g p m P X) (side_knows g q n Q Y)
  kept m n P Q X Y = record {
    layout = refl;
    sent = λ e v t x y is. (sent_over g p q server sound now more grown v (gives_none v more all) (queued g p server sound e v x)).0 ∙ is;
    marks = λ e v x y is. marked_over g p q server sound now more grown v (gives_none v more all) (queued g p server sound e v x) is;
  }

  unfinished : (m n : ℕ) (P Q : Type 0) (X Y : ℕ → Type 0) → FinishesNone (side_knows g p m P X) (side_knows g q n Q Y)
  unfinished m n P Q X Y = record { none = λ e v x y is. finished_over g p q server sound now more grown v (finishes_none more all) is }

  pub agrees_over : {D : Type 0} (m n : ℕ) (P Q : Type 0) (X Y : ℕ → Type 0) (c : Controller D) → Q → Agrees (side_knows g p m P X) c → Agrees (side_knows g q n Q Y) c
  agrees_over m n P Q X Y c whole a = agrees_same (side_knows g p m P X) (side_knows g q n Q Y) c c a whole (kept m n P Q X Y) (unfinished m n P Q X Y) refl same_pending

  -- and the replies so far are the same
  pub so_over : {D : Type 0} (m n : ℕ) (P Q : Type 0) (X Y : ℕ → Type 0) (c : Controller D) (so : ℕ → List Reply) → Agrees (side_knows g p m P X) c → IsSoFar (side_knows g p m P X) so c.ends.items → IsSoFar (side_knows g q n Q Y) so c.ends.items
  so_over m n P Q X Y c so a s = so_same (side_knows g p m P X) (side_knows g q n Q Y) c a (kept m n P Q X Y) (unfinished m n P Q X Y) same_pending (λ e. ⊥) so s
