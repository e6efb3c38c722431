-- How a call changes the rejects that a script holds.
use Rattle.std.proofs.Common.{◌≡◌, ℕ, ◌+◌, ◌-◌, ◌≤◌, Bool, true, false, cond, List, [], ◌∷◌, ◌++◌, Option, None, refl, ap, ◌∙◌, arith}
use Rattle.std.specs.Prelude.{sum_by, nat_lt}
use Rattle.std.proofs.lemmas.Bool.{ltb-true}
use Rattle.std.proofs.lemmas.List.Sums.{sum_by_push}
use Rattle.usb_scene.specs.declared.scene.Call.{Call}
use Rattle.usb_scene.specs.declared.scene.Target.{Target}
use Rattle.usb_scene.specs.declared.scene.Target.TheVariants as target
use Rattle.usb_statement.specs.declared.keyword.UrbCall.{UrbCall}
use Rattle.usb_statement.specs.declared.keyword.UrbCall.TheVariants as on
use Rattle.usb_statement.specs.declared.keyword.BareCall.{BareCall}
use Rattle.usb_statement.specs.declared.keyword.BareCall.TheVariants as bare
use Rattle.usb_statement.specs.declared.interface_call.InterfaceCall.{InterfaceCall}
use Rattle.usb_statement.specs.declared.interface_call.InterfaceCall.TheVariants as made
use Rattle.usb_scene.specs.WellFormed.{is_on, raised, withdrawn, held_on}
use Rattle.usb_scene.specs.Rules.{raises, withdraws}
use Rattle.usb_scene.specs.Growth.{plain_call, urb_call_code, bare_call_code, interface_call}
use Rattle.usb_scene.specs.Counts.{next_count, AreFair}
use Rattle.usb_scene.proofs.Targets.{same_urb}

abbrev pub one_if : Bool → ℕ
one_if t = cond t 1 0

-- a call on URB v
abbrev pub urb_call : ℕ → Target → UrbCall → Call
urb_call line v call = plain_call line (urb_call_code call) v None None

pub raised_said : (call : UrbCall) (line : ℕ) (v u : Target) → raised u (urb_call line v call) ≡ cond (is_on u v) (one_if (raises call)) 0
raised_said on.Unlink line v u = refl
raised_said on.Kill line v u = refl
raised_said on.Poison line v u = refl
raised_said on.Unpoison line v u = refl
raised_said on.Block line v u = refl
raised_said on.Unblock line v u = refl

pub withdrawn_said : (call : UrbCall) (line : ℕ) (v u : Target) → withdrawn u (urb_call line v call) ≡ cond (is_on u v) (one_if (withdraws call)) 0
withdrawn_said on.Unlink line v u = refl
withdrawn_said on.Kill line v u = refl
withdrawn_said on.Poison line v u = refl
withdrawn_said on.Unpoison line v u = refl
withdrawn_said on.Block line v u = refl
withdrawn_said on.Unblock line v u = refl

-- a call that changes no rejects
pub record IsQuiet (c : Call) : Type 0 where
  pub raises_none : (u : Target) → raised u c ≡ 0
  pub withdraws_none : (u : Target) → withdrawn u c ≡ 0

zero_of : (t : Bool) → let none : ℕ = 0 in cond t none none ≡ none
zero_of true = refl
zero_of false = refl

pub quiet_submit : (line : ℕ) (v : Target) (setup bytes : Option (List ℕ)) → IsQuiet (plain_call line 1 v setup bytes)
quiet_submit line v setup bytes = record { raises_none = λ u. zero_of (is_on u v); withdraws_none = λ u. zero_of (is_on u v) }

pub quiet_alone : (line : ℕ) (call : BareCall) → IsQuiet (plain_call line (bare_call_code call) target.Nothing None None)
quiet_alone line bare.Serve = record { raises_none = λ u. zero_of (is_on u target.Nothing); withdraws_none = λ u. zero_of (is_on u target.Nothing) }
quiet_alone line bare.Down = record { raises_none = λ u. zero_of (is_on u target.Nothing); withdraws_none = λ u. zero_of (is_on u target.Nothing) }
quiet_alone line bare.Up = record { raises_none = λ u. zero_of (is_on u target.Nothing); withdraws_none = λ u. zero_of (is_on u target.Nothing) }

pub quiet_interface : (line : ℕ) (v : Target) (call : InterfaceCall) → IsQuiet (interface_call line v call)
quiet_interface line v (made.Led lights) = record { raises_none = λ u. zero_of (is_on u v); withdraws_none = λ u. zero_of (is_on u v) }
quiet_interface line v (made.Write bytes) = record { raises_none = λ u. zero_of (is_on u v); withdraws_none = λ u. zero_of (is_on u v) }
quiet_interface line v (made.Coding rate stop parity bits) = record { raises_none = λ u. zero_of (is_on u v); withdraws_none = λ u. zero_of (is_on u v) }
quiet_interface line v (made.Control lines) = record { raises_none = λ u. zero_of (is_on u v); withdraws_none = λ u. zero_of (is_on u v) }
quiet_interface line v (made.SendBreak ms) = record { raises_none = λ u. zero_of (is_on u v); withdraws_none = λ u. zero_of (is_on u v) }
quiet_interface line v (made.Print bytes) = record { raises_none = λ u. zero_of (is_on u v); withdraws_none = λ u. zero_of (is_on u v) }
quiet_interface line v made.Status = record { raises_none = λ u. zero_of (is_on u v); withdraws_none = λ u. zero_of (is_on u v) }
quiet_interface line v made.SoftReset = record { raises_none = λ u. zero_of (is_on u v); withdraws_none = λ u. zero_of (is_on u v) }

-- the rejects after one call more
pub held_push : (u : Target) (calls : List Call) (c : Call)
    → held_on u (calls ++ c ∷ []) ≡ (sum_by (raised u) calls + raised u c) - (sum_by (withdrawn u) calls + withdrawn u c)
held_push u calls c = omega (arith, sum_by_push (raised u) calls c, sum_by_push (withdrawn u) calls c)

pub held_quiet : (u : Target) (calls : List Call) (c : Call) → IsQuiet c → held_on u (calls ++ c ∷ []) ≡ held_on u calls
held_quiet u calls c quiet = omega (arith, held_push u calls c, quiet.raises_none u, quiet.withdraws_none u)

pub fair_quiet : (calls : List Call) (c : Call) → IsQuiet c → AreFair calls → AreFair (calls ++ c ∷ [])
fair_quiet calls c quiet fair u =
    omega (arith, fair u, sum_by_push (raised u) calls c, sum_by_push (withdrawn u) calls c, quiet.raises_none u, quiet.withdraws_none u)

next_counted : (call : UrbCall) (r w : ℕ) → w ≤ r → (r + one_if (raises call)) - (w + one_if (withdraws call)) ≡ next_count call (r - w)
next_counted on.Unlink r w h = omega arith
next_counted on.Kill r w h = omega arith
next_counted on.Poison r w h = omega arith
next_counted on.Unpoison r w h = omega arith
next_counted on.Block r w h = omega arith
next_counted on.Unblock r w h = omega arith

same_sum : (call : UrbCall) (line : ℕ) (v u : Target) (calls : List Call) (t : Bool) → is_on u v ≡ t
    → held_on u (calls ++ urb_call line v call ∷ [])
    ≡ (sum_by (raised u) calls + cond t (one_if (raises call)) 0) - (sum_by (withdrawn u) calls + cond t (one_if (withdraws call)) 0)
same_sum call line v u calls t e =
    let c = urb_call line v call in
    let r = raised_said call line v u ∙ ap (λ t. cond t (one_if (raises call)) 0) e in
    let w = withdrawn_said call line v u ∙ ap (λ t. cond t (one_if (withdraws call)) 0) e in
    held_push u calls c
    ∙ ap (λ n. (sum_by (raised u) calls + n) - (sum_by (withdrawn u) calls + withdrawn u c)) r
    ∙ ap (λ n. (sum_by (raised u) calls + cond t (one_if (raises call)) 0) - (sum_by (withdrawn u) calls + n)) w

-- on the URB itself
pub held_same : (call : UrbCall) (line : ℕ) (v u : Target) (calls : List Call) → AreFair calls → is_on u v ≡ true
    → held_on u (calls ++ urb_call line v call ∷ []) ≡ next_count call (held_on u calls)
held_same call line v u calls fair e =
    same_sum call line v u calls true e ∙ next_counted call (sum_by (raised u) calls) (sum_by (withdrawn u) calls) (fair u)

-- on another
pub held_other : (call : UrbCall) (line : ℕ) (v u : Target) (calls : List Call) → is_on u v ≡ false
    → held_on u (calls ++ urb_call line v call ∷ []) ≡ held_on u calls
held_other call line v u calls e = same_sum call line v u calls false e ∙ (omega arith)

fair_by : (call : UrbCall) (r w : ℕ) → w ≤ r → cond (withdraws call) (nat_lt 0 (r - w)) true ≡ true
    → w + one_if (withdraws call) ≤ r + one_if (raises call)
fair_by on.Unlink r w h held = omega arith
fair_by on.Kill r w h held = omega arith
fair_by on.Poison r w h held = omega arith
fair_by on.Unpoison r w h held = omega (arith, ltb-true 0 (r - w) held)
fair_by on.Block r w h held = omega arith
fair_by on.Unblock r w h held = omega (arith, ltb-true 0 (r - w) held)

fair_at : (call : UrbCall) (line : ℕ) (v u : Target) (calls : List Call) (t : Bool) → AreFair calls
    → cond (withdraws call) (nat_lt 0 (held_on v calls)) true ≡ true → is_on u v ≡ t
    → sum_by (withdrawn u) (calls ++ urb_call line v call ∷ []) ≤ sum_by (raised u) (calls ++ urb_call line v call ∷ [])
fair_at call line v u calls true fair held e =
    let c = urb_call line v call in
    let r : raised u c ≡ one_if (raises call) = raised_said call line v u ∙ ap (λ t. cond t (one_if (raises call)) 0) e in
    let w : withdrawn u c ≡ one_if (withdraws call) = withdrawn_said call line v u ∙ ap (λ t. cond t (one_if (withdraws call)) 0) e in
    let same : u ≡ v = same_urb u v e in
    let step = fair_by call (sum_by (raised u) calls) (sum_by (withdrawn u) calls) (fair u)
    (ap (λ x. cond (withdraws call) (nat_lt 0 (held_on x calls)) true) same ∙ held) in
    omega (arith, step, r, w, sum_by_push (raised u) calls c, sum_by_push (withdrawn u) calls c)
fair_at call line v u calls false fair held e =
    let c = urb_call line v call in
    let r : raised u c ≡ 0 = raised_said call line v u ∙ ap (λ t. cond t (one_if (raises call)) 0) e in
    let w : withdrawn u c ≡ 0 = withdrawn_said call line v u ∙ ap (λ t. cond t (one_if (withdraws call)) 0) e in
    omega (arith, fair u, r, w, sum_by_push (raised u) calls c, sum_by_push (withdrawn u) calls c)

-- a call that withdraws only what is held
pub fair_said : (call : UrbCall) (line : ℕ) (v : Target) (calls : List Call) → AreFair calls
    → cond (withdraws call) (nat_lt 0 (held_on v calls)) true ≡ true → AreFair (calls ++ urb_call line v call ∷ [])
fair_said call line v calls fair held u = fair_at call line v u calls (is_on u v) fair held refl

-- no more than 100 are held after it
pub next_most : (call : UrbCall) (n : ℕ) → n ≤ 100 → cond (raises call) (nat_lt n 100) true ≡ true → next_count call n ≤ 100
next_most on.Unlink n h free = h
next_most on.Kill n h free = h
next_most on.Poison n h free = omega (arith, ltb-true n 100 free)
next_most on.Unpoison n h free = omega arith
next_most on.Block n h free = omega (arith, ltb-true n 100 free)
next_most on.Unblock n h free = omega arith
