-- What a well-formed scene says of what its calls do.
use Rattle.std.proofs.Common.{ℕ, ◌≡◌, ◌+◌, ◌<◌, ◌≤◌, ◌⊎◌, inl, inr, ⊎_elim, Bool, true, false, ◌&&◌, cond, eqb, Option, Some, None, List, [], ◌∷◌, length, refl, sym, ap, ◌∙◌, subst, arith, eq-eqb, ne_eqb, true≢false}
use Rattle.std.specs.List.{All, sum_by}
use Rattle.std.proofs.lemmas.Bool.{and_parts, and_from, eqb-true}
use Rattle.std.proofs.lemmas.List.Elements.{All-head, All-tail}
use Rattle.std.proofs.lemmas.List.Sums.{sum_by-cons}
use mathlib.Core.Logic.{dite}
use native.Mathlib.Decide.{ℕ_discrete}
use Rattle.usb_types.specs.declared.urb.Role.{Role}
use Rattle.usb_types.specs.declared.urb.Role.TheVariants as role
use Rattle.usb_scene.specs.declared.scene.Scene.{Scene}
use Rattle.usb_scene.specs.declared.scene.Call.{Call}
use Rattle.usb_scene.specs.declared.scene.Target.{Target}
use Rattle.usb_scene.specs.declared.scene.Target.TheVariants as target
use Rattle.usb_scene.specs.WellFormed.{IsBuilt, IsCall, role_number, is_on, raised, withdrawn, is_hub_call, IsWellFormed}
use Rattle.usb_prepare.specs.Layout.{urb_count, role_urb}
use Rattle.usb_prepare.proofs.Facts as facts
use Rattle.usb_trace.specs.declared.rows.HostCall.{HostCall}
use Rattle.usb_trace.specs.declared.rows.HostCall.TheVariants as host_call
use Rattle.usb_scene.specs.Operation.{operation_of}
use Rattle.usb_trace.specs.Plan.{host_call_called, called_urb, host_call_by, host_call_of}
use Rattle.usb_trace.specs.ByNumber.{numbered_on, numbered_on_any, host_call_numbered}
use Rattle.usb_trace.proofs.ByNumber.{by_number}
use Rattle.usb_line.proofs.Called.{called_near}

-- how many rejects a host_call raises on URB v, and how many it withdraws
abbrev pub raises : ℕ → HostCall → ℕ
raises v (host_call.Poison u) = cond (eqb u v) 1 0
raises v (host_call.Block u) = cond (eqb u v) 1 0
raises v _ = 0

abbrev pub withdraws : ℕ → HostCall → ℕ
withdraws v (host_call.Unpoison u) = cond (eqb u v) 1 0
withdraws v (host_call.Unblock u) = cond (eqb u v) 1 0
withdraws v _ = 0

-- the host_call is built, and on an URB that is there
abbrev pub IsThere : Scene → HostCall → Type 0
IsThere s (host_call.Submit u) = u < urb_count s
IsThere s (host_call.Unlink u) = u < urb_count s
IsThere s (host_call.Kill u) = u < urb_count s
IsThere s (host_call.Poison u) = u < urb_count s
IsThere s (host_call.Unpoison u) = u < urb_count s
IsThere s (host_call.Block u) = u < urb_count s
IsThere s (host_call.Unblock u) = u < urb_count s
IsThere s host_call.Serve = Unit {0}
IsThere s host_call.Down = Unit {0}
IsThere s host_call.Up = Unit {0}
IsThere s host_call.Absent = Unit {0}
IsThere s host_call.Other = ⊥

-- the host_call takes the host down or up
abbrev pub is_hubs : HostCall → Bool
is_hubs host_call.Down = true
is_hubs host_call.Up = true
is_hubs _ = false

-- the URB that a target names, if there is one
abbrev pub named : Scene → Target → Option ℕ
named s (target.Urb u) = Some u
named s (target.Role d i r) = role_urb s d i r
named s _ = None

abbrev is_urb : ℕ → Option ℕ → Bool
is_urb v None = false
is_urb v (Some u) = eqb u v

abbrev up_by : ℕ → ℕ
up_by code = cond (eqb code 4) 1 (cond (eqb code 6) 1 0)

abbrev down_by : ℕ → ℕ
down_by code = cond (eqb code 5) 1 (cond (eqb code 7) 1 0)

record IsKnown (s : Scene) (code : ℕ) (o : Option ℕ) (d : HostCall) : Type 0 where
  pub there : IsThere s d
  pub raised : (v : ℕ) → cond (is_urb v o) (up_by code) 0 ≡ raises v d
  pub withdrawn : (v : ℕ) → cond (is_urb v o) (down_by code) 0 ≡ withdraws v d
  pub hubs : is_hub_call code ≡ is_hubs d

by_code : (P : ℕ → Type 0) → P 2 → P 3 → P 4 → P 5 → P 6 → P 7 → (code : ℕ) → 2 ≤ code → code ≤ 7 → P code
by_code P b c d e f g code l m =
    dite (ℕ_discrete 2 code) (λ i. subst P i b) (λ n2.
    dite (ℕ_discrete 3 code) (λ i. subst P i c) (λ n3.
    dite (ℕ_discrete 4 code) (λ i. subst P i d) (λ n4.
    dite (ℕ_discrete 5 code) (λ i. subst P i e) (λ n5.
    dite (ℕ_discrete 6 code) (λ i. subst P i f) (λ n6.
    dite (ℕ_discrete 7 code) (λ i. subst P i g) (λ n7. absurd (omega arith)))))))

same : (b : Bool) → cond {A = ℕ} b 0 0 ≡ 0
same true = refl
same false = refl

-- a call on an URB that is there, and on one that no driver has
known_urb : (s : Scene) (code u : ℕ) → 2 ≤ code → code ≤ 7 → u < urb_count s → IsKnown s code (Some u) (numbered_on code u)
known_urb s code u l m near = by_code (λ k. IsKnown s k (Some u) (numbered_on k u))
    record { there = near; raised = λ v. same (eqb u v); withdrawn = λ v. same (eqb u v); hubs = refl }
    record { there = near; raised = λ v. same (eqb u v); withdrawn = λ v. same (eqb u v); hubs = refl }
    record { there = near; raised = λ v. refl; withdrawn = λ v. same (eqb u v); hubs = refl }
    record { there = near; raised = λ v. same (eqb u v); withdrawn = λ v. refl; hubs = refl }
    record { there = near; raised = λ v. refl; withdrawn = λ v. same (eqb u v); hubs = refl }
    record { there = near; raised = λ v. same (eqb u v); withdrawn = λ v. refl; hubs = refl }
    code l m

known_absent : (s : Scene) (code : ℕ) → 2 ≤ code → code ≤ 7 → IsKnown s code None host_call.Absent
known_absent s code l m = by_code (λ k. IsKnown s k None host_call.Absent)
    record { there = tt; raised = λ v. refl; withdrawn = λ v. refl; hubs = refl }
    record { there = tt; raised = λ v. refl; withdrawn = λ v. refl; hubs = refl }
    record { there = tt; raised = λ v. refl; withdrawn = λ v. refl; hubs = refl }
    record { there = tt; raised = λ v. refl; withdrawn = λ v. refl; hubs = refl }
    record { there = tt; raised = λ v. refl; withdrawn = λ v. refl; hubs = refl }
    record { there = tt; raised = λ v. refl; withdrawn = λ v. refl; hubs = refl }
    code l m

module _ (s : Scene) (good : IsWellFormed s) where
  known_own : (code u : ℕ) → 1 ≤ code → code ≤ 7 → u < length s.urbs → IsKnown s code (Some u) (numbered_on code u)
  known_own code u l m near = dite (ℕ_discrete 1 code)
      (λ is. subst (λ k. IsKnown s k (Some u) (numbered_on k u)) is record { there = (let own = facts.own_urbs s good in omega arith); raised = λ v. same (eqb u v); withdrawn = λ v. same (eqb u v); hubs = refl })
      (λ off. known_urb s code u (omega arith) m (let own = facts.own_urbs s good in omega arith))

  known_at : (code : ℕ) (t : Target) → IsBuilt s code t → ((d i : ℕ) → target.Interface d i ≡ t → IsThere s (host_call_numbered s code t)) → IsKnown s code (named s t) (host_call_numbered s code t)
  known_at code target.Nothing is called = ⊎_elim
      (λ e. subst (λ k. IsKnown s k None (host_call_numbered s k target.Nothing)) (sym e) record { there = tt; raised = λ v. refl; withdrawn = λ v. refl; hubs = refl })
      (⊎_elim
      (λ e. subst (λ k. IsKnown s k None (host_call_numbered s k target.Nothing)) (sym e) record { there = tt; raised = λ v. refl; withdrawn = λ v. refl; hubs = refl })
      (λ e. subst (λ k. IsKnown s k None (host_call_numbered s k target.Nothing)) (sym e) record { there = tt; raised = λ v. refl; withdrawn = λ v. refl; hubs = refl })) is
  known_at code (target.Urb u) is called = known_own code u is.0 is.1 is.2
  known_at code (target.Role d i r) is called = go (role_urb s d i r) refl
    where
      go : (o : Option ℕ) → role_urb s d i r ≡ o → IsKnown s code o (numbered_on_any code o)
      go None e = known_absent s code is.0 is.1
      go (Some u) e = known_urb s code u is.0 is.1 (facts.role_near s good d i u r e).1
  known_at code (target.Interface d i) is called = go _ (called d i refl)
    where
      no_hub : is_hub_call code ≡ false
      no_hub = let low = is.0 in
          ap (λ b. cond b true (cond (eqb code 22) true false)) (ne_eqb code 21 (λ e. absurd (omega arith))) ∙ ap (λ b. cond b true false) (ne_eqb code 22 (λ e. absurd (omega arith)))

      go : (o : Option ℕ) → IsThere s (host_call_called o) → IsKnown s code None (host_call_called o)
      go None there = record { there = there; raised = λ v. refl; withdrawn = λ v. refl; hubs = no_hub }
      go (Some u) there = record { there = there; raised = λ v. refl; withdrawn = λ v. refl; hubs = no_hub }
  known_at code (target.Anchor a) is called = absurd is
  known_at code (target.Device d) is called = absurd is

  called_there : (c : Call) (t : Target) (d i : ℕ) → target.Interface d i ≡ t → IsThere s (host_call_by s (operation_of c) t)
  called_there c t d i e = subst (λ t. IsThere s (host_call_by s (operation_of c) t)) e (go (called_urb s (operation_of c) d i) refl)
    where
      go : (o : Option ℕ) → called_urb s (operation_of c) d i ≡ o → IsThere s (host_call_called o)
      go None e = tt
      go (Some u) e = called_near s good (operation_of c) d i u e

  known : (c : Call) → IsCall s c → IsKnown s c.code (named s c.target) (host_call_of s c)
  known c is = subst (IsKnown s c.code (named s c.target)) (sym (by_number s c))
      (known_at c.code c.target is.built (λ d i e. subst (IsThere s) (by_number s c) (called_there c c.target d i e)))

  module _ (c : Call) (is : IsCall s c) where
    pub host_call_there : IsThere s (host_call_of s c)
    host_call_there = (known c is).there

    pub host_call_hubs : is_hub_call c.code ≡ is_hubs (host_call_of s c)
    host_call_hubs = (known c is).hubs

  -- roles have numbers of their own
  same_role : (r q : Role) → role_number r ≡ role_number q → r ≡ q
  same_role role.In role.In e = refl
  same_role role.Note role.Note e = refl
  same_role role.Read0 role.Read0 e = refl
  same_role role.Read1 role.Read1 e = refl
  same_role role.Write role.Write e = refl
  same_role role.Ctl role.Ctl e = refl
  same_role _ _ e = absurd (omega arith)

  -- the one target that names an URB is that of each call on it
  same_roles : (d i v e j : ℕ) (r q : Role) → role_urb s d i r ≡ Some v → is_on (target.Role d i r) (target.Role e j q) ≡ is_urb v (role_urb s e j q)
  same_roles d i v e j r q at = go (is_on (target.Role d i r) (target.Role e j q)) refl (role_urb s e j q) refl
    where
      one : is_on (target.Role d i r) (target.Role e j q) ≡ true → role_urb s e j q ≡ Some v
      one is =
          let both = and_parts (eqb e d && eqb j i) (eqb (role_number q) (role_number r)) is in
          let ends = and_parts (eqb e d) (eqb j i) both.0 in
          (λ x. role_urb s (eqb-true e d ends.0 x) (eqb-true j i ends.1 x) (same_role q r (eqb-true (role_number q) (role_number r) both.1) x)) ∙ at

      back : role_urb s e j q ≡ Some v → is_on (target.Role d i r) (target.Role e j q) ≡ true
      back of =
          let all = facts.role_one s good e j d i v q r of at in
          and_from (eqb e d && eqb j i) (eqb (role_number q) (role_number r)) (and_from (eqb e d) (eqb j i) (eq-eqb e d all.0) (eq-eqb j i all.1)) (eq-eqb (role_number q) (role_number r) (ap role_number all.2))

      go : (b : Bool) → is_on (target.Role d i r) (target.Role e j q) ≡ b → (o : Option ℕ) → role_urb s e j q ≡ o → is_on (target.Role d i r) (target.Role e j q) ≡ is_urb v o
      go true is None of = let x = sym (one is) ∙ of in cc
      go true is (Some w) of = is ∙ sym (eq-eqb w v (let x = sym of ∙ one is in cc))
      go false is None of = is
      go false is (Some w) of = is ∙ sym (ne_eqb w v (λ same. true≢false (sym (back (of ∙ ap Some same)) ∙ is)))

  same_urb : (k m v : ℕ) (t u : Target) → IsBuilt s k t → IsBuilt s m u → named s t ≡ Some v → is_on t u ≡ is_urb v (named s u)
  same_urb k m v (target.Urb a) (target.Urb b) is of at = let same : a ≡ v = cc in ap (eqb b) same
  same_urb k m v (target.Urb a) (target.Role e j q) is of at = go (role_urb s e j q) refl
    where
      go : (o : Option ℕ) → role_urb s e j q ≡ o → false ≡ is_urb v o
      go None none = refl
      go (Some w) some = let same : a ≡ v = cc in let l = (facts.role_near s good e j w q some).0 in let m = is.2 in sym (ne_eqb w v (λ x. absurd (omega arith)))
  same_urb k m v (target.Urb a) target.Nothing is of at = refl
  same_urb k m v (target.Role d i r) (target.Urb b) is of at =
      let l = (facts.role_near s good d i v r at).0 in let m = of.2 in sym (ne_eqb b v (λ x. absurd (omega arith)))
  same_urb k m v (target.Role d i r) (target.Role e j q) is of at = same_roles d i v e j r q at
  same_urb k m v (target.Role d i r) target.Nothing is of at = refl
  same_urb k m v target.Nothing u is of at = cc
  same_urb k m v (target.Interface d i) u is of at = cc
  same_urb k m v (target.Urb a) (target.Interface e j) is of at = refl
  same_urb k m v (target.Role d i r) (target.Interface e j) is of at = refl
  same_urb k m v (target.Anchor a) u is of at = absurd is
  same_urb k m v (target.Device d) u is of at = absurd is
  same_urb k m v (target.Urb a) (target.Anchor b) is of at = absurd of
  same_urb k m v (target.Urb a) (target.Device b) is of at = absurd of
  same_urb k m v (target.Role d i r) (target.Anchor b) is of at = absurd of
  same_urb k m v (target.Role d i r) (target.Device b) is of at = absurd of

  -- what the scene counts of the rejects on an URB, and what its host_calls do there
  module _ (t : Call) (is : IsCall s t) (v : ℕ) (names : named s t.target ≡ Some v) where
    count_raised : (c : Call) → IsCall s c → raised t.target c ≡ raises v (host_call_of s c)
    count_raised c of = ap (λ b. cond b (up_by c.code) 0) (same_urb t.code c.code v t.target c.target is.built of.built names) ∙ (known c of).raised v

    count_withdrawn : (c : Call) → IsCall s c → withdrawn t.target c ≡ withdraws v (host_call_of s c)
    count_withdrawn c of = ap (λ b. cond b (down_by c.code) 0) (same_urb t.code c.code v t.target c.target is.built of.built names) ∙ (known c of).withdrawn v

    pub sum_raised : (calls : List Call) → All (IsCall s) calls → sum_by (raised t.target) calls ≡ sum_by (λ c. raises v (host_call_of s c)) calls
    sum_raised [] all = refl
    sum_raised (c ∷ calls) all = sum_by-cons (raised t.target) c calls
        ∙ ((λ x. count_raised c (All-head (IsCall s) c calls all) x + sum_raised calls (All-tail (IsCall s) c calls all) x) ∙ sym (sum_by-cons (λ c. raises v (host_call_of s c)) c calls))

    pub sum_withdrawn : (calls : List Call) → All (IsCall s) calls → sum_by (withdrawn t.target) calls ≡ sum_by (λ c. withdraws v (host_call_of s c)) calls
    sum_withdrawn [] all = refl
    sum_withdrawn (c ∷ calls) all = sum_by-cons (withdrawn t.target) c calls
        ∙ ((λ x. count_withdrawn c (All-head (IsCall s) c calls all) x + sum_withdrawn calls (All-tail (IsCall s) c calls all) x) ∙ sym (sum_by-cons (λ c. withdraws v (host_call_of s c)) c calls))

  -- a call that withdraws a reject names its URB
  named_by : (v : ℕ) (o : Option ℕ) → is_urb v o ≡ true → o ≡ Some v
  named_by v None e = cc
  named_by v (Some u) e = ap Some (eqb-true u v e)

  is_one : (b : Bool) (n : ℕ) → cond b n 0 ≡ 1 → b ≡ true
  is_one true n e = refl
  is_one false n e = absurd (omega arith)

  pub withdraws_named : (c : Call) → IsCall s c → (v : ℕ) → withdraws v (host_call_of s c) ≡ 1 → named s c.target ≡ Some v
  withdraws_named c is v e = named_by v (named s c.target) (is_one (is_urb v (named s c.target)) (down_by c.code) ((known c is).withdrawn v ∙ e))

  pub withdraws_own : (c : Call) (is : IsCall s c) (v : ℕ) → withdraws v (host_call_of s c) ≡ 1 → withdrawn c.target c ≡ 1
  withdraws_own c is v e = count_withdrawn c is v (withdraws_named c is v e) c is ∙ e

  -- among some calls none raises a reject on URB v, or one names it
  pub none_or_named : (v : ℕ) (calls : List Call) → All (IsCall s) calls → (sum_by (λ c. raises v (host_call_of s c)) calls ≡ 0) ⊎ ((c : Call) × (is : IsCall s c) × (named s c.target ≡ Some v))
  none_or_named v [] all = inl refl
  none_or_named v (c ∷ calls) all = subst (λ n. (n ≡ 0) ⊎ ((c : Call) × (is : IsCall s c) × (named s c.target ≡ Some v))) (sym (sum_by-cons (λ c. raises v (host_call_of s c)) c calls))
      (go (is_urb v (named s c.target)) refl (none_or_named v calls (All-tail (IsCall s) c calls all)))
    where
      first : IsCall s c
      first = All-head (IsCall s) c calls all

      go : (b : Bool) → is_urb v (named s c.target) ≡ b → (sum_by (λ c. raises v (host_call_of s c)) calls ≡ 0) ⊎ ((c : Call) × (is : IsCall s c) × (named s c.target ≡ Some v))
          → (raises v (host_call_of s c) + sum_by (λ c. raises v (host_call_of s c)) calls ≡ 0) ⊎ ((c : Call) × (is : IsCall s c) × (named s c.target ≡ Some v))
      go true e rest = inr (c, first, named_by v (named s c.target) e)
      go false e rest = ⊎_elim
          (λ (none : sum_by (λ c. raises v (host_call_of s c)) calls ≡ 0). let zero : raises v (host_call_of s c) ≡ 0 = sym ((known c first).raised v) ∙ ap (λ b. cond b (up_by c.code) 0) e in inl (omega arith))
          (λ (some : (c : Call) × (is : IsCall s c) × (named s c.target ≡ Some v)). inr some) rest
