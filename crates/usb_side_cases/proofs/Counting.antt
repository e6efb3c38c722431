-- Many calls by one pass, one more at a time.
use Rattle.std.proofs.Common.{◌≡◌, ℕ, ◌+◌, ◌-◌, ◌<◌, Bool, cond, List, [], ◌++◌, Option, Result, sym, refl, ap, ◌∙◌, subst, arith, eq-eqb}
use Rattle.std.proofs.lemmas.List.Sums.{fold-append}
use Rattle.usb_types.specs.declared.errno.Code.{Code}
use Rattle.usb_types.specs.declared.urb.Why.TheVariants.{Kill}
use Rattle.usb_machine.specs.declared.entry.Entry.{Entry}
use Rattle.usb_machine.specs.declared.event.Event.{Event}
use Rattle.usb_machine.specs.declared.event.Event.TheVariants.{Mark, Reject, Withdraw, Quiet, Claim}
use Rattle.usb_machine.specs.declared.pass_row.Held.{Held}
use Rattle.usb_machine.specs.declared.transfer.Transfer.{Transfer}
use Rattle.usb_machine.specs.declared.host_answers.Refused.{Refused}
use Rattle.usb_machine.specs.History.{Machine, is_of}
use Rattle.usb_machine.specs.Parts.{held_of, held_after, nothing_held}
use Rattle.usb_machine.specs.Calls.{submit_entries, kill_entries, poison_entries}
use Rattle.usb_machine.specs.Fresh.{Known, Grown, Fresh}
use Rattle.usb_machine.specs.HostCalls.{Submitted, answer_of_submit, fault_at, shape_of}
use Rattle.usb_machine.proofs.Growing.{grown_none, grown_more}
use Rattle.usb_host_cases.specs.Ran.{MayReject}
use Rattle.usb_side_cases.specs.Rounds.{TakesAll, IsSubmit, IsKill, Times, none, more, KilledOut, Made}

pub made_none : (One : List Entry → Type 0) (p : Known) → Made (Times One 0) p p
made_none One p = ([], none, grown_none p)

made_more : (One : List Entry → Type 0) (n : ℕ) (p q r : Known) (one : List Entry) → One one → Made (Times One n) p q → Grown q r one → Made (Times One (n + 1)) p r
made_more One n p q r one is old step = (old.0 ++ one, more n old.0 one old.1 is, grown_more p q r old.0 one old.2 step)

pub submit_more : {A : Type 0} (g : Machine) (n u : ℕ) (p q r : Known) (t : Transfer) (answer : Result A Refused) → TakesAll g u → Made (Times (IsSubmit p.number u) n) p q → Submitted g q r u t (fault_at (shape_of g u) t) answer → Made (Times (IsSubmit p.number u) (n + 1)) p r
submit_more g n u p q r t answer takes old s =
    let a : Code = answer_of_submit answer in
    let f : Fresh g q r (submit_entries q.number u t a) = subst (λ e. Submitted g q r u t e answer) (takes t) s in
    made_more (IsSubmit p.number u) n p q r (submit_entries q.number u t a) (t, a, ap (λ k. submit_entries k u t a) old.2.number) old f.grown

pub kill_more : (g : Machine) (n u : ℕ) (p q r : Known) (rest : Option ℕ) → Made (Times (IsKill p.number u) n) p q → ((a : Code) × Fresh g q r (kill_entries q.number u a rest)) → Made (Times (IsKill p.number u) (n + 1)) p r
kill_more g n u p q r rest old f =
    made_more (IsKill p.number u) n p q r (kill_entries q.number u f.0 rest) (f.0, rest, ap (λ k. kill_entries k u f.0 rest) old.2.number) old f.1.grown

pub killed_out : (g : Machine) (n u : ℕ) (p q r : Known) (rest : Option ℕ) → Made (Times (IsKill p.number u) n) p q → ((a : Code) × Fresh g q r (poison_entries q.number u a rest)) → Made (KilledOut p.number u n) p r
killed_out g n u p q r rest old f =
    let last : Grown q r (poison_entries p.number u f.0 rest) = subst (λ k. Grown q r (poison_entries k u f.0 rest)) old.2.number f.1.grown in
    (old.0 ++ poison_entries p.number u f.0 rest, (old.0, old.1, (f.0, rest, refl)), grown_more p q r old.0 (poison_entries p.number u f.0 rest) old.2 last)

-- what is held of u after one more event, which is of u where b is true
abbrev held_if : Bool → Held → Event → Held
held_if b d e = cond b (held_after d e) d

abbrev after_kill : ℕ → Held → Bool → Held
after_kill u d b = held_if b (held_if b (held_if b (held_if b (held_if b d (Reject record { 0 = u })) (Mark record { 0 = u } Kill)) (Quiet record { 0 = u })) (Claim record { 0 = u })) (Withdraw record { 0 = u })

kill_rejects : (m : List Entry) (p u : ℕ) (a : Code) (rest : Option ℕ) → (held_of (m ++ kill_entries p u a rest) u).rejects ≡ (held_of m u).rejects
kill_rejects m p u a rest =
    let d : Held = held_of m u in
    let back : (d.rejects + 1) - 1 ≡ d.rejects = omega arith in
    ap (λ (k : Held). k.rejects) (fold-append (λ k x. cond (is_of u x.event) (held_after k x.event) k) nothing_held m (kill_entries p u a rest))
    ∙ (ap (λ b. (after_kill u d b).rejects) (eq-eqb u u refl) ∙ back)

-- after a kill the pass holds as many rejects as before it
pub may_reject : (g : Machine) (u : ℕ) (q r : Known) (rest : Option ℕ) → ((a : Code) × Fresh g q r (kill_entries q.number u a rest)) → MayReject q u → MayReject r u
may_reject g u q r rest f room =
    let same : (held_of r.mine u).rejects ≡ (held_of q.mine u).rejects = ap (λ m. (held_of m u).rejects) f.1.grown.mine ∙ kill_rejects q.mine q.number u f.0 rest in
    subst (λ n. n < 255) (sym same) room
