-- A scene has one run in line order.
use Rattle.std.proofs.Common.{ℕ, zero, suc, ◌≡◌, ◌≢◌, ◌<◌, ◌⊎◌, ⊎_elim, true, false, cond, Option, Some, None, List, [], ◌∷◌, ◌++◌, map, refl, sym, ap, ◌∙◌, subst, arith, true≢false}
use mathlib.Core.Logic.{dite}
use native.Mathlib.Decide.{ℕ_discrete, dec_lt}
use Rattle.std.proofs.lemmas.List.{map-append}
use Rattle.usb_types.specs.declared.errno.Errno.TheVariants.{ESHUTDOWN}
use Rattle.usb_types.specs.declared.errno.Code.{Code}
use Rattle.usb_types.specs.declared.errno.Code.TheVariants.{Fault}
use Rattle.usb_types.specs.declared.urb.Why.{Why}
use Rattle.usb_types.specs.Codes.{errno_of}
use Rattle.usb_machine.specs.declared.transfer.Transfer.{Transfer}
use Rattle.usb_machine.specs.State.{unlinking}
use Rattle.usb_machine.specs.History.{state_of, pending_of, sent_of}
use Rattle.usb_machine.specs.Calls.{claim_entries, unblock_entries}
use Rattle.usb_machine.specs.HostCalls.{rested_of}
use Rattle.usb_xfer.specs.declared.packet.Step.{Step}
use Rattle.usb_xfer.specs.declared.packet.Step.TheVariants.{More, Waiting, Ended}
use Rattle.usb_xfer.specs.Moved.{moved_state}
use Rattle.usb_scene.specs.declared.scene.Scene.{Scene}
use Rattle.usb_scene.specs.declared.scene.Call.{Call}
use Rattle.usb_trace.specs.declared.rows.HostCall.{HostCall}
use Rattle.usb_trace.specs.declared.rows.HostCall.TheVariants as host_call
use Rattle.usb_trace.specs.declared.rows.CallAnswer.{CallAnswer}
use Rattle.usb_trace.specs.declared.rows.CallAnswer.TheVariants as told
use Rattle.usb_prepare.specs.Ends.{ends_of, shape_at}
use Rattle.usb_trace.specs.Plan.{machine_of, pass_of, main_pass, host_call_of}
use Rattle.usb_trace.specs.Run.{CallRecord, urbs_of, call_entries, seen_quiet}
use Rattle.std.specs.List.{flat_map}
use Rattle.usb_line.specs.Line.{Progress, adds, with_takes, had_after, GoesTo, IsServed, IsMarked, round_of, given_back, replies_had, waits, Passes, over, stops, Gives, unlinked, ended, IsIdle, GivesBack, none, one, woken, is_quiet, StaysLoud, begins, goes_on, WaitsFor, already, turns, ClaimsEach, killing, with_call_record, call_record, shut_marks, shutting, answer_now, Makes, at_once, served, killed, poisoned, shut_down, IsLine, start, call, Closes, IsLineRun}
use Rattle.usb_line.proofs.Scripted.{placed}
use Rattle.usb_line.proofs.Calls.{makes_call_records}

-- of two numbers of replies after which a transfer does not go on, neither is the smaller
same_goes : (s : Scene) (f : Progress) (e : ℕ) (t : Transfer) (n k : ℕ) (c d : Step) → c ≢ More → d ≢ More → GoesTo s f e t n c → GoesTo s f e t k d → (n ≡ k) × (c ≡ d)
same_goes s f e t n k c d p q g h = dite (ℕ_discrete n k)
    (λ is. (is, sym g.state ∙ (ap (λ (i : ℕ). moved_state (shape_at s e) t (had_after s f e t i)) is ∙ h.state)))
    (λ ne. dite (dec_lt n k) (λ l. absurd (p (sym g.state ∙ h.before n g.some l))) (λ l. let m : k < n = omega arith in absurd (q (sym h.state ∙ g.before k h.some m))))

same_served : (s : Scene) (f : Progress) (e u v : ℕ) (t r : Transfer) → IsServed s f e u t → IsServed s f e v r → (u ≡ v) × (t ≡ r)
same_served s f e u v t r a b = let x = sym a.first ∙ b.first in let same : u ≡ v = cc in
    let y = sym a.transfer ∙ (ap (sent_of f.history) same ∙ b.transfer) in let z : t ≡ r = cc in (same, z)

-- the two ways of one served transfer
both_go : (s : Scene) (f : Progress) (e u v : ℕ) (t r : Transfer) (n k : ℕ) (c d : Step) → c ≢ More → d ≢ More → IsServed s f e u t → IsServed s f e v r → GoesTo s f e t n c → GoesTo s f e r k d
    → (u ≡ v) × (t ≡ r) × (n ≡ k) × (c ≡ d)
both_go s f e u v t r n k c d p q a b g h =
    let same = same_served s f e u v t r a b in
    let goes = same_goes s f e t n k c d p q g (subst (λ (r : Transfer). GoesTo s f e r k d) (sym same.1) h) in
    (same.0, same.1, goes.0, goes.1)

not_more : (c : Code) → Ended c ≢ More
not_more c e = cc

waited : Waiting ≢ More
waited e = cc

same_marked : (s : Scene) (f : Progress) (u v : ℕ) (w y : Why) (t r : Transfer) → IsMarked s f u w t → IsMarked s f v y r → (u ≡ v) × (w ≡ y) × (t ≡ r)
same_marked s f u v w y t r a b = let x = sym a.first ∙ b.first in let same : u ≡ v = cc in
    let m = sym a.mark ∙ (ap (λ (u : ℕ). (state_of f.history u).mark) same ∙ b.mark) in let why : w ≡ y = cc in
    let z = sym a.transfer ∙ (ap (sent_of f.history) same ∙ b.transfer) in let sent : t ≡ r = cc in (same, why, sent)

module _ (s : Scene) (f : Progress) where
  -- how the endpoint after the first e ones is gone through
  data Step1 (e : ℕ) (m : Progress) : Progress → Type 0 where
    skips : (m.asleep e ≡ true) ⊎ (pending_of (machine_of s) m.history e ≡ []) → Step1 e m m
    waits_here : (u : ℕ) (t : Transfer) (n : ℕ) → m.asleep e ≡ false → IsServed s m e u t → GoesTo s m e t n Waiting → Step1 e m (waits s m e t n)

  same_step : (e : ℕ) (m k l : Progress) → Step1 e m k → Step1 e m l → k ≡ l
  same_step e m _ _ (skips a) (skips b) = refl
  same_step e m _ _ (skips a) (waits_here u t n awake at goes) = ⊎_elim (λ p. absurd (true≢false (sym p ∙ awake))) (λ p. (let x = sym at.first ∙ p in cc)) a
  same_step e m _ _ (waits_here u t n awake at goes) (skips b) = ⊎_elim (λ p. absurd (true≢false (sym p ∙ awake))) (λ p. (let x = sym at.first ∙ p in cc)) b
  same_step e m _ _ (waits_here u t n awake at goes) (waits_here v r k awake2 at2 goes2) = let w = both_go s m e u v t r n k Waiting Waiting waited waited at at2 goes goes2 in (λ i. waits s m e (w.1 i) (w.2 i))

  -- no endpoint that is gone through ends a transfer
  not_ended : (e : ℕ) (m k : Progress) (u : ℕ) (t : Transfer) (n : ℕ) (code : Code) → Step1 e m k → m.asleep e ≡ false → IsServed s m e u t → GoesTo s m e t n (Ended code) → ⊥
  not_ended e m _ u t n code (skips a) awake at goes = ⊎_elim (λ p. true≢false (sym p ∙ awake)) (λ p. (let x = sym at.first ∙ p in cc)) a
  not_ended e m _ u t n code (waits_here v r k _ at2 goes2) awake at goes =
      let w = both_go s m e u v t r n k (Ended code) Waiting (not_more code) waited at at2 goes goes2 in let x = w.3 in cc

  one_more : (e : ℕ) (k : Progress) → Passes s f (suc e) k → (m : Progress) × Passes s f e m × Step1 e m k
  one_more e k (over _ m p a) = (m, p, skips a)
  one_more e _ (stops _ m u t n p awake at goes) = (m, p, waits_here u t n awake at goes)

  none_more : (m : Progress) → Passes s f 0 m → m ≡ f
  none_more _ none = refl

  same_passes : (n : ℕ) (m k : Progress) → Passes s f n m → Passes s f n k → m ≡ k
  same_passes zero m k a b = none_more m a ∙ sym (none_more k b)
  same_passes (suc e) m k a b =
      let x = one_more e m a in let y = one_more e k b in let same = same_passes e x.0 y.0 x.1 y.1 in
      same_step e x.0 m k x.2 (subst (λ z. Step1 e z k) (sym same) y.2)

  -- where the endpoints below n were gone through, so were those below a smaller number, and one more
  through : (e n : ℕ) (k : Progress) → e < n → Passes s f n k → (m : Progress) × (l : Progress) × Passes s f e m × Step1 e m l
  through e zero k l p = absurd (omega arith)
  through e (suc d) k l p = let x = one_more d k p in dite (ℕ_discrete d e)
      (λ is. subst (λ (e : ℕ). (m : Progress) × (l : Progress) × Passes s f e m × Step1 e m l) is (x.0, k, x.1, x.2))
      (λ off. through e d x.0 (omega arith) x.1)

  never_ends : (e n : ℕ) (k m : Progress) (u : ℕ) (t : Transfer) (i : ℕ) (code : Code) → e < n → Passes s f n k → Passes s f e m → m.asleep e ≡ false → IsServed s m e u t → GoesTo s m e t i (Ended code) → ⊥
  never_ends e n k m u t i code l all p awake at goes =
      let x = through e n k l all in let same = same_passes e x.0 m x.2 p in
      not_ended e m x.1 u t i code (subst (λ z. Step1 e z x.1) same x.3) awake at goes

module _ (s : Scene) where
  -- one turn that gives back
  same_gives : (f k l : Progress) → Gives s f k → Gives s f l → k ≡ l
  same_gives f _ _ (unlinked u w t a) (unlinked v y r b) =
      let e = same_marked s (with_takes s f) u v w y t r a b in
      (λ i. given_back s (with_takes s f) (round_of s (with_takes s f) (e.0 i) (Fault (errno_of (e.1 i))) false (e.2 i) (replies_had s (with_takes s f) (e.0 i))))
  same_gives f _ _ (unlinked u w t a) (ended e m v r n c unmarked p near awake at goes) = let x = sym a.first ∙ unmarked in cc
  same_gives f _ _ (ended e m v r n c unmarked p near awake at goes) (unlinked u w t a) = let x = sym a.first ∙ unmarked in cc
  same_gives f _ _ (ended e m u t n c unmarked p near awake at goes) (ended d k v r i b unmarked2 q near2 awake2 at2 goes2) = dite (ℕ_discrete e d)
      (λ is. with_end is (same_passes s (with_takes s f) d m k (subst (λ (e : ℕ). Passes s (with_takes s f) e m) is p) q))
      (λ off. dite (dec_lt e d)
      (λ l. absurd (never_ends s (with_takes s f) e d k m u t n c l q p awake at goes))
      (λ l. let z : d < e = omega arith in absurd (never_ends s (with_takes s f) d e m k v r i b z p q awake2 at2 goes2)))
    where
      with_end : e ≡ d → m ≡ k → given_back s m (round_of s m u c true t (had_after s m e t n)) ≡ given_back s k (round_of s k v b true r (had_after s k d r i))
      with_end is same =
          let there : IsServed s k d u t = subst (λ (z : Progress). IsServed s z d u t) same (subst (λ (e : ℕ). IsServed s m e u t) is at) in
          let way : GoesTo s k d t n (Ended c) = subst (λ (z : Progress). GoesTo s z d t n (Ended c)) same (subst (λ (e : ℕ). GoesTo s m e t n (Ended c)) is goes) in
          let w = both_go s k d u v t r n i (Ended c) (Ended b) (not_more c) (not_more b) there at2 way goes2 in
          let x = w.3 in let code : c ≡ b = cc in
          (λ j. given_back s (same j) (round_of s (same j) (w.0 j) (code j) true (w.1 j) (had_after s (same j) (is j) (w.1 j) (w.2 j))))

  not_idle : (f k e : Progress) → Gives s f k → IsIdle s f e → ⊥
  not_idle f _ e (unlinked u w t a) idle = let x = sym a.first ∙ idle.none in cc
  not_idle f _ e (ended d m u t n c unmarked p near awake at goes) idle = never_ends s (with_takes s f) d (ends_of s) e m u t n c near idle.passed p awake at goes

  same_idle : (f e d : Progress) → IsIdle s f e → IsIdle s f d → e ≡ d
  same_idle f e d a b = same_passes s (with_takes s f) (ends_of s) e d a.passed b.passed

  -- turns up to the one that gives nothing back, from the first on
  data ToIdle : Progress → Progress → Type 0 where
    idles : (f e : Progress) → IsIdle s f e → ToIdle f e
    gives : (f k e : Progress) → Gives s f k → ToIdle k e → ToIdle f e

  to_idle : (f m e : Progress) → GivesBack s f m → ToIdle m e → ToIdle f e
  to_idle f _ e none i = i
  to_idle f _ e (one m k before turn) i = to_idle f m e before (gives m k e turn i)

  same_end : (f e d : Progress) → ToIdle f e → ToIdle f d → e ≡ d
  same_end _ _ d (idles f e i) (idles _ _ j) = same_idle f e d i j
  same_end _ _ _ (idles f e i) (gives _ k d o r) = absurd (not_idle f k e o i)
  same_end _ _ _ (gives f k e o r) (idles _ d j) = absurd (not_idle f k d o j)
  same_end _ _ _ (gives f k e o r) (gives _ l d p q) = same_end k e d r (subst (λ z. ToIdle z d) (sym (same_gives f k l o p)) q)

  module _ (u : ℕ) where
    -- turns until u is quiet, from the first on
    data Until : Progress → Progress → Type 0 where
      quiet : (f : Progress) → is_quiet (state_of f.history u) ≡ true → Until f f
      loud : (f m k : Progress) → is_quiet (state_of f.history u) ≡ false → Gives s f m → Until m k → Until f k

    loud_end : (f m : Progress) → StaysLoud s u f m → is_quiet (state_of m.history u) ≡ false
    loud_end f _ (begins l) = l
    loud_end f _ (goes_on m k before turn l) = l

    until : (f m k : Progress) → StaysLoud s u f m → Until m k → Until f k
    until f _ k (begins l) last = last
    until f _ k (goes_on m j before turn l) last = until f m k before (loud m j k (loud_end f m before) turn last)

    until_quiet : (f m k : Progress) → StaysLoud s u f m → Gives s m k → is_quiet (state_of k.history u) ≡ true → Until f k
    until_quiet f m k before turn q = until f m k before (loud m k k (loud_end f m before) turn (quiet k q))

    same_until : (f m k : Progress) → Until f m → Until f k → m ≡ k
    same_until _ _ _ (quiet f a) (quiet _ b) = refl
    same_until _ _ _ (quiet f a) (loud _ m k b turn r) = absurd (true≢false (sym a ∙ b))
    same_until _ _ _ (loud f m k b turn r) (quiet _ a) = absurd (true≢false (sym a ∙ b))
    same_until _ _ _ (loud f m k b turn r) (loud _ l j c go q) = same_until m k j r (subst (λ z. Until z j) (sym (same_gives f m l turn go)) q)

    not_loud : (f m : Progress) → StaysLoud s u f m → is_quiet (state_of f.history u) ≡ false
    not_loud f _ (begins l) = l
    not_loud f _ (goes_on m k before turn l) = not_loud f m before

    same_wait : (f m k : Progress) → WaitsFor s u f m → WaitsFor s u f k → m ≡ k
    same_wait f _ _ (already a) (already b) = refl
    same_wait f _ _ (already a) (turns m k before turn q) = absurd (true≢false (sym a ∙ not_loud (woken f) m before))
    same_wait f _ _ (turns m k before turn q) (already a) = absurd (true≢false (sym a ∙ not_loud (woken f) m before))
    same_wait f _ _ (turns m k before turn q) (turns l j before2 turn2 q2) = same_until (woken f) k j (until_quiet (woken f) m k before turn q) (until_quiet (woken f) l j before2 turn2 q2)

  -- of one wait
  wait_from : (u v : ℕ) (f g m k : Progress) → u ≡ v → f ≡ g → WaitsFor s u f m → WaitsFor s v g k → m ≡ k
  wait_from u v f g m k is same a b = same_wait u f m k a (subst (λ (u : ℕ). WaitsFor s u f k) (sym is) (subst (λ z. WaitsFor s v z k) (sym same) b))

snoc_same : {X : Type 0} (xs ys : List X) (x y : X) → xs ++ x ∷ [] ≡ ys ++ y ∷ [] → (xs ≡ ys) × (x ≡ y)
snoc_same [] [] x y e = let a : x ≡ y = cc in (refl, a)
snoc_same [] (b ∷ []) x y e = cc
snoc_same [] (b ∷ c ∷ ys) x y e = cc
snoc_same (a ∷ []) [] x y e = cc
snoc_same (a ∷ c ∷ xs) [] x y e = cc
snoc_same (a ∷ xs) (b ∷ ys) x y e = let h : a ≡ b = cc in let t : xs ++ x ∷ [] ≡ ys ++ y ∷ [] = cc in let r = snoc_same xs ys x y t in ((λ i. h i ∷ r.0 i), r.1)

not_snoc : {X : Type 0} (xs : List X) (x : X) → [] ≡ xs ++ x ∷ [] → ⊥
not_snoc [] x e = cc
not_snoc (y ∷ xs) x e = cc

module _ (s : Scene) (p : ℕ) (f : Progress) where
  same_claims : (us vs : List ℕ) (rests more : List (Option Transfer)) (m k : Progress) → ClaimsEach s p f us rests m → ClaimsEach s p f vs more k → us ≡ vs → (rests ≡ more) × (m ≡ k)
  same_claims _ _ _ _ _ _ none none e = (refl, refl)
  same_claims _ _ _ _ _ _ none (one vs more v k l b w) e = absurd (not_snoc vs v e)
  same_claims _ _ _ _ _ _ (one us rests u m k a w) none e = absurd (not_snoc us u (sym e))
  same_claims _ _ _ _ _ _ (one us rests u m k a w) (one vs more v n l b y) e =
      let x = snoc_same us vs u v e in let r = same_claims us vs rests more m n a b x.0 in let last = wait_from s u v m n k l x.1 r.1 w y in
      ((λ i. r.0 i ++ rested_of (last i).history (x.1 i) ∷ []), (λ i. adds (last i) (claim_entries p (x.1 i) (state_of (last i).history (x.1 i)).rest)))

module _ (s : Scene) (f : Progress) where
  same_closes : (us vs : List ℕ) (m k : Progress) → Closes s f us m → Closes s f vs k → us ≡ vs → m ≡ k
  same_closes _ _ _ _ none none e = refl
  same_closes _ _ _ _ none (one vs v k l b w) e = absurd (not_snoc vs v e)
  same_closes _ _ _ _ (one us u m k a w) none e = absurd (not_snoc us u (sym e))
  same_closes _ _ _ _ (one us u m k a w) (one vs v n l b y) e =
      let x = snoc_same us vs u v e in let r = same_closes us vs m n a b x.0 in
      let last = wait_from s u v (killing (main_pass s) u m) (killing (main_pass s) v n) k l x.1 (λ i. killing (main_pass s) (x.1 i) (r i)) w y in
      (λ i. adds (last i) (claim_entries (main_pass s) (x.1 i) (state_of (last i).history (x.1 i)).rest ++ unblock_entries (main_pass s) (x.1 i)))

-- two calls of one kind or of two, made from one place on
module _ (s : Scene) (f : Progress) (i : ℕ) (c : Call) where
  abbrev p : ℕ
  p = pass_of s i

  not_now : (dd : HostCall) (a : CallAnswer) → host_call_of s c ≡ dd → answer_now s f c (host_call_of s c) ≡ Some a → answer_now s f c dd ≡ Some a
  not_now dd a is e = ap (answer_now s f c) (sym is) ∙ e

  same_kill : (u v : ℕ) → host_call.Kill u ≡ host_call.Kill v → u ≡ v
  same_kill u v e = cc

  same_poison : (u v : ℕ) → host_call.Poison u ≡ host_call.Poison v → u ≡ v
  same_poison u v e = cc

  some_same : (a b : CallAnswer) → Some a ≡ Some b → a ≡ b
  some_same a b e = cc

  up_none : (a : CallAnswer) → f.down ≡ false → answer_now s f c host_call.Down ≡ Some a → ⊥
  up_none a up e = let x = sym (ap (λ b. cond b (Some (told.Code (Fault ESHUTDOWN))) None) up) ∙ e in cc

  same_makes : (d e : CallRecord) (m k : Progress) → Makes s f i c d m → Makes s f i c e k → (d ≡ e) × (m ≡ k)
  same_makes _ _ _ _ (at_once a x) (at_once b y) = let same = some_same a b (sym x ∙ y) in ((λ j. call_record f i c (same j) [] []), (λ j. adds f (call_entries s (call_record f i c (same j) [] []))))
  same_makes _ _ _ _ (at_once a x) (served m e is g idle) = let z = not_now host_call.Serve a is x in cc
  same_makes _ _ _ _ (at_once a x) (killed u m is w) = let z = not_now (host_call.Kill u) a is x in cc
  same_makes _ _ _ _ (at_once a x) (poisoned u m is w) = let z = not_now (host_call.Poison u) a is x in cc
  same_makes _ _ _ _ (at_once a x) (shut_down r m is up w) = absurd (up_none a up (not_now host_call.Down a is x))
  same_makes _ _ _ _ (served m e is g idle) (at_once a x) = let z = not_now host_call.Serve a is x in cc
  same_makes _ _ _ _ (killed u m is w) (at_once a x) = let z = not_now (host_call.Kill u) a is x in cc
  same_makes _ _ _ _ (poisoned u m is w) (at_once a x) = let z = not_now (host_call.Poison u) a is x in cc
  same_makes _ _ _ _ (shut_down r m is up w) (at_once a x) = absurd (up_none a up (not_now host_call.Down a is x))
  same_makes _ _ _ _ (served m e is g idle) (served n d is2 h idle2) = (refl, same_end s (woken f) e d (to_idle s (woken f) m e g (idles m e idle)) (to_idle s (woken f) n d h (idles n d idle2)))
  same_makes _ _ _ _ (served m e is g idle) (killed u n is2 w) = let z = sym is ∙ is2 in cc
  same_makes _ _ _ _ (served m e is g idle) (poisoned u n is2 w) = let z = sym is ∙ is2 in cc
  same_makes _ _ _ _ (served m e is g idle) (shut_down r n is2 up w) = let z = sym is ∙ is2 in cc
  same_makes _ _ _ _ (killed u n is2 w) (served m e is g idle) = let z = sym is ∙ is2 in cc
  same_makes _ _ _ _ (poisoned u n is2 w) (served m e is g idle) = let z = sym is ∙ is2 in cc
  same_makes _ _ _ _ (shut_down r n is2 up w) (served m e is g idle) = let z = sym is ∙ is2 in cc
  same_makes _ _ _ _ (killed u m is w) (killed v n is2 y) =
      let urb = same_kill u v (sym is ∙ is2) in let last = wait_from s u v (killing p u f) (killing p v f) m n urb (λ j. killing p (urb j) f) w y in (
        (λ j. call_record f i c (told.Buffer (state_of (last j).history (urb j)).rest) (unlinking (state_of f.history (urb j)) ∷ []) (rested_of (last j).history (urb j) ∷ [])),
        (λ j. adds (last j) (claim_entries p (urb j) (state_of (last j).history (urb j)).rest ++ unblock_entries p (urb j))),
      )
  same_makes _ _ _ _ (poisoned u m is w) (poisoned v n is2 y) =
      let urb = same_poison u v (sym is ∙ is2) in let last = wait_from s u v (killing p u f) (killing p v f) m n urb (λ j. killing p (urb j) f) w y in (
        (λ j. call_record f i c (told.Buffer (state_of (last j).history (urb j)).rest) (unlinking (state_of f.history (urb j)) ∷ []) (rested_of (last j).history (urb j) ∷ [])),
        (λ j. adds (last j) (claim_entries p (urb j) (state_of (last j).history (urb j)).rest)),
      )
  same_makes _ _ _ _ (killed u m is w) (poisoned v n is2 y) = let z = sym is ∙ is2 in cc
  same_makes _ _ _ _ (killed u m is w) (shut_down r n is2 up y) = let z = sym is ∙ is2 in cc
  same_makes _ _ _ _ (poisoned u m is w) (killed v n is2 y) = let z = sym is ∙ is2 in cc
  same_makes _ _ _ _ (poisoned u m is w) (shut_down r n is2 up y) = let z = sym is ∙ is2 in cc
  same_makes _ _ _ _ (shut_down r n is2 up y) (killed u m is w) = let z = sym is ∙ is2 in cc
  same_makes _ _ _ _ (shut_down r n is2 up y) (poisoned u m is w) = let z = sym is ∙ is2 in cc
  same_makes _ _ _ _ (shut_down r m is up w) (shut_down q n is2 up2 y) =
      let same = same_claims s p (shutting s p f) (urbs_of s) (urbs_of s) r q m n w y refl in ((λ j. call_record f i c told.Done (shut_marks s p f) (same.0 j)), same.1)

abbrev calls : Progress → List (ℕ × Call)
calls f = map placed f.call_records

last_call : (f g : Progress) (d e : CallRecord) → map placed (f.call_records ++ d ∷ []) ≡ map placed (g.call_records ++ e ∷ []) → (calls f ≡ calls g) × (placed d ≡ placed e)
last_call f g d e x = snoc_same (calls f) (calls g) (placed d) (placed e) (sym (map-append placed f.call_records (d ∷ [])) ∙ (x ∙ map-append placed g.call_records (e ∷ [])))

not_first : (f : Progress) (d : CallRecord) → [] ≡ map placed (f.call_records ++ d ∷ []) → ⊥
not_first f d e = not_snoc (calls f) (placed d) (e ∙ map-append placed f.call_records (d ∷ []))

module _ (s : Scene) where
  -- a call that was made is its thread's, and the calls before it are those before
  before_call : (f m : Progress) (i : ℕ) (c : Call) (d : CallRecord) → Makes s f i c d m → (placed d ≡ (i, c)) × (calls m ≡ calls f)
  before_call f m i c d made = let x = makes_call_records s f i c d m made in (x.0, ap (map placed) x.1)

  same_line : (f g : Progress) → IsLine s f → IsLine s g → calls f ≡ calls g → f ≡ g
  same_line _ _ start start e = refl
  same_line _ _ start (call g n j b k q near made) e = absurd (not_first n k e)
  same_line _ _ (call f m i c d p near made) start e = absurd (not_first m d (sym e))
  same_line _ _ (call f m i c d p near made) (call g n j b k q near2 made2) e =
      let x = last_call m n d k e in let a = before_call f m i c d made in let y = before_call g n j b k made2 in
      let same = same_line f g p q (sym a.1 ∙ (x.0 ∙ y.1)) in
      let call_is : (i, c) ≡ (j, b) = sym a.0 ∙ (x.1 ∙ y.0) in
      let thread = ap (λ (z : ℕ × Call). z.0) call_is in let the_call = ap (λ (z : ℕ × Call). z.1) call_is in
      let other : Makes s f i c k n = subst (λ z. Makes s z i c k n) (sym same) (subst (λ (i : ℕ). Makes s g i c k n) (sym thread) (subst (λ (c : Call). Makes s g j c k n) (sym the_call) made2)) in
      let both = same_makes s f i c d k m n made other in
      (λ z. with_call_record s (both.1 z) (both.0 z))

  pub one_line : (f g : Progress) → IsLineRun s f → IsLineRun s g → f ≡ g
  one_line f g a b =
      let same = same_line a.called b.called a.in_line b.in_line (a.all ∙ sym b.all) in
      let killed_same = same_closes s a.called (urbs_of s) (urbs_of s) a.killed b.killed a.closes (subst (λ z. Closes s z (urbs_of s) b.killed) (sym same) b.closes) refl in
      a.seen ∙ (ap (λ z. adds z (flat_map (seen_quiet (main_pass s)) (urbs_of s))) killed_same ∙ sym b.seen)
