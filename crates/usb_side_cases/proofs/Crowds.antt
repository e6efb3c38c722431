-- The calls of a crowd's threads, and its passes when all of them are done.
use Rattle.std.proofs.Common.{◌≡◌, ℕ, zero, suc, ◌+◌, ◌<◌, Bool, true, false, cond, eqb, List, [], ◌∷◌, ◌++◌, Option, None, Some, Result, if◌then◌else◌, fold, get_or, map, Any, All, sym, refl, ap, ◌∙◌, subst, arith, append-nil}
use Rattle.std.proofs.lemmas.List.Sums.{fold-append}
use Rattle.usb_types.specs.declared.errno.Code.{Code}
use Rattle.usb_types.specs.declared.errno.Errno.{Errno}
use Rattle.usb_types.specs.declared.urb.Why.TheVariants.{Unlink}
use Rattle.usb_machine.specs.declared.entry.Entry.{Entry}
use Rattle.usb_machine.specs.declared.event.Event.TheVariants.{Submit, Link}
use Rattle.usb_machine.specs.declared.event.Answer.TheVariants.{Code as Status}
use Rattle.usb_machine.specs.declared.pass_row.Held.{Held}
use Rattle.usb_machine.specs.declared.transfer.Transfer.{Transfer}
use Rattle.usb_machine.specs.declared.host_answers.Refused.{Refused}
use Rattle.usb_machine.specs.State.{is_zero}
use Rattle.usb_machine.specs.History.{Machine, is_of}
use Rattle.usb_machine.specs.Parts.{part_of, held_of, held_after, nothing_held}
use Rattle.usb_machine.specs.Calls.{entry, plain_entry, mark_entry, submit_entries, unlink_entries, kill_entries, poison_entries}
use Rattle.usb_machine.specs.Fresh.{Known, Grown, Fresh}
use Rattle.usb_machine.specs.HostCalls.{Submitted, answer_of_submit, fault_at, shape_of}
use Rattle.usb_machine.specs.Tokens.{AreAll, IsClosed, unused_from}
use Rattle.usb_machine.proofs.Growing.{grown_more}
use Rattle.usb_machine.proofs.Steps.{held_of-snoc}
use Rattle.usb_host_cases.specs.Ran.{MayReject}
use Rattle.usb_host_cases.proofs.Passes.{count, new_at, length_known, known_at}
use Rattle.usb_side_cases.specs.Rounds.{Made}
use Rattle.usb_side_cases.specs.Crowd.{sent_entries, AreCalls, AreLastCalls, CalledAll}
use Rattle.usb_side_cases.proofs.Closed.{part_made}

-- an event that holds nothing leaves what is held
same : (b : Bool) (d : Held) → cond b d d ≡ d
same true d = refl
same false d = refl

held_sent : (m : List Entry) (p u : ℕ) (t : Transfer) (a : Code) (e : Option Errno) → held_of (m ++ sent_entries e p u t a) u ≡ held_of m u
held_sent m p u t a (Some e) = ap (λ l. held_of l u) (append-nil m)
held_sent m p u t a None = fold-append (λ k x. cond (is_of u x.event) (held_after k x.event) k) nothing_held m (submit_entries p u t a) ∙ linked (is_zero a) (held_of m u)
  where
    linked : (z : Bool) (d : Held) → fold (λ (k : Held) (x : Entry). cond (is_of u x.event) (held_after k x.event) k) d (entry p (Submit record { 0 = u } t.number) (Status a) (Some t) ∷ (if z then plain_entry p (Link record { 0 = u }) ∷ [] else [])) ≡ d
    linked true d = same (eqb u u) (cond (eqb u u) d d) ∙ same (eqb u u) d
    linked false d = same (eqb u u) d

held_unlinked : (m : List Entry) (p u : ℕ) (b : Code) → held_of (m ++ unlink_entries p u b) u ≡ held_of m u
held_unlinked m p u b = held_of-snoc m (mark_entry p Unlink u b) u ∙ same (eqb u u) (held_of m u)

sent : {A : Type 0} (g : Machine) (p q : Known) (u : ℕ) (t : Transfer) (e : Option Errno) (r : Result A Refused) → Submitted g p q u t e r → Grown p q (sent_entries e p.number u t (answer_of_submit r))
sent g p q u t (Some e) r s = s.1.grown
sent g p q u t None r s = s.grown

-- after a submit and an unlink the pass holds as many rejects as before
pub room_left : {A : Type 0} (g : Machine) (p q r : Known) (u : ℕ) (t : Transfer) (b : Code) (answer : Result A Refused) → Submitted g p q u t (fault_at (shape_of g u) t) answer → Fresh g q r (mark_entry q.number Unlink u b ∷ []) → MayReject p u → MayReject r u
room_left g p q r u t b answer s f room =
    let e : Option Errno = fault_at (shape_of g u) t in
    let first : held_of q.mine u ≡ held_of p.mine u = ap (λ l. held_of l u) (sent g p q u t e answer s).mine ∙ held_sent p.mine p.number u t (answer_of_submit answer) e in
    let second : held_of r.mine u ≡ held_of q.mine u = ap (λ l. held_of l u) f.grown.mine ∙ held_unlinked q.mine q.number u b in
    subst (λ (d : Held). d.rejects < 255) (sym (second ∙ first)) room

pub calls_made : {A : Type 0} (g : Machine) (p q r z : Known) (u : ℕ) (t : Transfer) (b : Code) (answer : Result A Refused) (rest : Option ℕ) → Submitted g p q u t (fault_at (shape_of g u) t) answer → Fresh g q r (mark_entry q.number Unlink u b ∷ []) → ((k : Code) × Fresh g r z (kill_entries r.number u k rest)) → Made (AreCalls g u p.number) p z
calls_made g p q r z u t b answer rest s f k =
    let e : Option Errno = fault_at (shape_of g u) t in
    let a : Code = answer_of_submit answer in
    let first : Grown p q (sent_entries e p.number u t a) = sent g p q u t e answer s in
    let second : Grown q r (unlink_entries p.number u b) = subst (λ n. Grown q r (unlink_entries n u b)) first.number f.grown in
    let third : Grown r z (kill_entries p.number u k.0 rest) = subst (λ n. Grown r z (kill_entries n u k.0 rest)) (f.grown.number ∙ first.number) k.1.grown in (
      sent_entries e p.number u t a ++ (unlink_entries p.number u b ++ kill_entries p.number u k.0 rest),
      (t, a, b, k.0, rest, refl),
      grown_more p q z (sent_entries e p.number u t a) (unlink_entries p.number u b ++ kill_entries p.number u k.0 rest) first (grown_more q r z (unlink_entries p.number u b) (kill_entries p.number u k.0 rest) second third),
    )

-- and a poison after them
pub poisoned_last : (g : Machine) (p q r : Known) (u : ℕ) (rest : Option ℕ) → Made (AreCalls g u p.number) p q → ((a : Code) × Fresh g q r (poison_entries q.number u a rest)) → Made (AreLastCalls g u p.number) p r
poisoned_last g p q r u rest old f =
    let last : Grown q r (poison_entries p.number u f.0 rest) = subst (λ n. Grown q r (poison_entries n u f.0 rest)) old.2.number f.1.grown in
    (old.0 ++ poison_entries p.number u f.0 rest, (old.0, old.1, f.0, rest, refl), grown_more p q r old.0 (poison_entries p.number u f.0 rest) old.2 last)

module _ {P : Type 0} (known : P → Known) (n : ℕ) (ps : List P) (new : map known ps ≡ unused_from 2 n) (g : Machine) (is_of : P → Type 0) (u : ℕ) (qs : List P) (d : P) (ran : CalledAll g known is_of u ps qs) where
  pub all_here : All is_of qs
  all_here k e lt = (ran.each k e e (omega (arith, ran.len))).here

  number : (k : ℕ) → k < n → (known (get_or qs k d)).number ≡ 2 + k
  number k lt =
      let all = count known n ps new in
      (ran.each k d d (omega arith)).made.2.number ∙ ap (λ (p : Known). p.number) (new_at known n ps new k d lt)

  same_at : (k : ℕ) → k < n → get_or (map known qs) k (known (get_or qs k d)) ≡ known (get_or qs k d)
  same_at k lt =
      let all = count known n ps new in
      known_at known qs k d (known (get_or qs k d)) (omega (arith, ran.len))

  pub are_all : (s h : Known) → g.passes ≡ n + 2 → s.number ≡ 0 → h.number ≡ 1 → AreAll g (s ∷ h ∷ map known qs)
  are_all s h passes ss hh = of
    where
      of : (k : ℕ) → k < g.passes → Any (λ (y : Known). y.number ≡ k) (s ∷ h ∷ map known qs)
      of zero lt = (0, s, omega arith, refl, ss)
      of (suc zero) lt = (1, h, omega arith, refl, hh)
      of (suc (suc k)) lt =
          let all = count known n ps new in
          let many = length_known known qs in
          (suc (suc k), known (get_or qs k d), omega (arith, ran.len), same_at k (omega arith), number k (omega arith) ∙ omega arith)

  pub parts_are : (s h : Known) (m : List Entry) → IsClosed g m (s ∷ h ∷ map known qs) → (k : ℕ) → k < n → AreCalls g u (2 + k) (part_of m (2 + k))
  parts_are s h m closed k lt =
      let all = count known n ps new in
      let many = length_known known qs in
      let q : Known = known (get_or qs k d) in
      let at : get_or (s ∷ h ∷ map known qs) (suc (suc k)) q ≡ q = same_at k lt in
      let own : part_of m q.number ≡ q.mine = subst (λ (p : Known). part_of m p.number ≡ p.mine) at (closed.own (suc (suc k)) q (omega (arith, ran.len))) in
      part_made (AreCalls g u) m (known (get_or ps k d)) q (2 + k) (new_at known n ps new k d lt) (ran.each k d d (omega arith)).made own
