-- What a thread's own calls say of the next.
use Rattle.std.proofs.Common.{ℕ, ◌≡◌, ◌+◌, ◌<◌, ◌≤◌, ◌⊎◌, ⊎_elim, Bool, true, false, cond, Option, Some, List, [], ◌∷◌, ◌++◌, map, refl, sym, ap, ◌∙◌, subst, arith, append_assoc, append-nil, eq-eqb, true≢false}
use Rattle.std.specs.Prelude.{slice_get}
use Rattle.std.specs.List.{flat_map, All, sum_by}
use Rattle.std.proofs.lemmas.List.{map-append}
use Rattle.std.proofs.lemmas.List.Sums.{sum_by_push}
use Rattle.std.proofs.lemmas.List.Elements.{All-head, All-tail}
use Rattle.std.proofs.lemmas.Grind.{flat_map-append}
use Rattle.usb_types.specs.declared.errno.Code.{Code}
use Rattle.usb_machine.specs.declared.entry.TheConstants.{HUB}
use Rattle.usb_machine.specs.declared.entry.Entry.{Entry}
use Rattle.usb_machine.specs.declared.state.Flags.{Flags}
use Rattle.usb_machine.specs.Parts.{held_of}
use Rattle.usb_scene.specs.declared.scene.Scene.{Scene}
use Rattle.usb_scene.specs.declared.scene.SceneThread.{SceneThread}
use Rattle.usb_scene.specs.declared.scene.Call.{Call}
use Rattle.usb_scene.specs.WellFormed.{IsCall, IsThread, IsWellFormed, is_hub_call}
use Rattle.usb_prepare.specs.Layout.{urb_count}
use Rattle.usb_trace.specs.declared.rows.HostCall.{HostCall}
use Rattle.usb_trace.specs.declared.rows.HostCall.TheVariants as host_call
use Rattle.usb_trace.specs.declared.rows.CallAnswer.{CallAnswer}
use Rattle.usb_trace.specs.declared.rows.CallAnswer.TheVariants as told
use Rattle.usb_trace.specs.Plan.{fresh, submit_fault, pass_of, host_call_of, is_hub}
use Rattle.usb_trace.specs.Claims.{numbers_of}
use Rattle.usb_trace.specs.Run.{CallRecord, call_entries, host_call_entries, IsMade, IsAnswered, down_after, IsFound, AreFound}
use Rattle.usb_line.proofs.Held.{AreNoFlag, rejects_at, down_at, no_flag}
use Rattle.usb_line.proofs.HostCalls.{raises, withdraws, is_hubs, named, host_call_hubs, sum_raised, sum_withdrawn, withdraws_named, withdraws_own, none_or_named}
use Rattle.usb_line.proofs.Effects.{submit_no_flag, rejects_effect, down_effect}
use Rattle.usb_line.proofs.Passes.{is_thread, hub_pass}
use Rattle.usb_line.proofs.Scripted.{All-middle, All-front}
use Rattle.usb_machine.specs.Fresh.{Known}
use Rattle.usb_threads.specs.Scripts.{down_by}
use Rattle.usb_threads.specs.NextCall.{MayCall, MayGoOn}

-- a call that is not the hub's sets no flag
plain_no_flag : (s : Scene) (p : ℕ) (c : Call) (dd : HostCall) (a : CallAnswer) (marks : List Code) (rests : List (Option ℕ)) (b : Bool) → is_hubs dd ≡ false → AreNoFlag (host_call_entries s p c dd a marks rests b)
plain_no_flag s p c host_call.Down a marks rests b e = absurd (true≢false e)
plain_no_flag s p c host_call.Up a marks rests b e = absurd (true≢false e)
plain_no_flag s p c (host_call.Submit u) (told.Code a) marks rests b e = submit_no_flag p u (fresh s u c) (submit_fault s u c) a
plain_no_flag s p c (host_call.Unlink u) (told.Code a) marks rests b e = (tt, tt)
plain_no_flag s p c (host_call.Kill u) (told.Buffer n) [] rests b e = tt
plain_no_flag s p c (host_call.Kill u) (told.Buffer n) (a ∷ marks) rests b e = (tt, (tt, (tt, (tt, (tt, tt)))))
plain_no_flag s p c (host_call.Poison u) (told.Buffer n) [] rests b e = tt
plain_no_flag s p c (host_call.Poison u) (told.Buffer n) (a ∷ marks) rests b e = (tt, (tt, (tt, (tt, tt))))
plain_no_flag s p c (host_call.Unpoison u) told.Done marks rests b e = (tt, tt)
plain_no_flag s p c (host_call.Block u) told.Done marks rests b e = (tt, tt)
plain_no_flag s p c (host_call.Unblock u) told.Done marks rests b e = (tt, tt)
plain_no_flag s p c _ _ marks rests b e = tt

-- and leaves the host as it is
plain_down : (b : Bool) (dd : HostCall) (a : CallAnswer) → is_hubs dd ≡ false → down_after b dd a ≡ b
plain_down b host_call.Down a e = absurd (true≢false e)
plain_down b host_call.Up a e = absurd (true≢false e)
plain_down b _ a e = refl

found_down : (dd : HostCall) (down b : Bool) → is_hubs dd ≡ true → IsFound dd down b → down ≡ b
found_down host_call.Down down b e is = is
found_down host_call.Up down b e is = is
found_down _ down b e is = absurd (true≢false (sym e))

pub down_by-push : (s : Scene) (b : Bool) (ds : List CallRecord) (d : CallRecord) → down_by s b (ds ++ d ∷ []) ≡ down_after (down_by s b ds) (host_call_of s d.call) d.answer
down_by-push s b [] d = refl
down_by-push s b (x ∷ ds) d = down_by-push s (down_after b (host_call_of s x.call) x.answer) ds d

module _ (s : Scene) (good : IsWellFormed s) (i : ℕ) (t : SceneThread) (at : slice_get s.threads i ≡ Some t) where
  formed : IsThread s t
  formed = is_thread s good i t at

  abbrev entries : List CallRecord → List Entry
  entries ds = flat_map (call_entries s) ds

  abbrev calls : List CallRecord → List Call
  calls ds = map (λ d. d.call) ds

  abbrev raised_by : ℕ → List CallRecord → ℕ
  raised_by v ds = sum_by (λ c. raises v (host_call_of s c)) (calls ds)

  abbrev withdrawn_by : ℕ → List CallRecord → ℕ
  withdrawn_by v ds = sum_by (λ c. withdraws v (host_call_of s c)) (calls ds)

  abbrev HoldRejects : List CallRecord → Type 0
  HoldRejects ds = (v : ℕ) → rejects_at v (entries ds) + withdrawn_by v ds ≡ raised_by v ds

  abbrev HoldFlags : List CallRecord → Type 0
  HoldFlags ds = (v : ℕ) → v < urb_count s → down_at v (entries ds) ≡ down_by s false ds

  entries-push : (ds : List CallRecord) (d : CallRecord) → entries (ds ++ d ∷ []) ≡ entries ds ++ call_entries s d
  entries-push ds d = flat_map-append (call_entries s) ds (d ∷ []) ∙ ap (λ l. entries ds ++ l) (append-nil (call_entries s d))

  calls-push : (ds : List CallRecord) (d : CallRecord) → calls (ds ++ d ∷ []) ≡ calls ds ++ d.call ∷ []
  calls-push ds d = map-append (λ (d : CallRecord). d.call) ds (d ∷ [])

  module _ (ds : List CallRecord) (c : Call) (later : List Call) (split : t.calls ≡ calls ds ++ c ∷ later) where
    all_calls : All (IsCall s) (calls ds ++ c ∷ later)
    all_calls = subst (All (IsCall s)) split formed.calls

    next_is : IsCall s c
    next_is = All-middle (IsCall s) (calls ds) c later all_calls

    are_calls : All (IsCall s) (calls ds)
    are_calls = All-front (IsCall s) (calls ds) (c ∷ later) all_calls

    next_backed : HoldRejects ds → (v : ℕ) → withdraws v (host_call_of s c) ≡ 1 → 0 < rejects_at v (entries ds)
    next_backed old v e =
        let held = formed.held.held (calls ds) c later c.target split (withdraws_own s good c next_is v e) in
        let up = sum_raised s good c next_is v (withdraws_named s good c next_is v e) (calls ds) are_calls in
        let down = sum_withdrawn s good c next_is v (withdraws_named s good c next_is v e) (calls ds) are_calls in
        let sums = old v in omega arith

    few_held : HoldRejects ds → (v : ℕ) → rejects_at v (entries ds) ≤ 100
    few_held old v = ⊎_elim
        (λ (none : raised_by v ds ≡ 0). let sums = old v in omega arith)
        (λ (some : (c : Call) × (is : IsCall s c) × (named s c.target ≡ Some v)).
        let most = formed.held.most (calls ds) (c ∷ later) some.0.target split in
        let up = sum_raised s good some.0 some.1 v some.2 (calls ds) are_calls in
        let down = sum_withdrawn s good some.0 some.1 v some.2 (calls ds) are_calls in
        let sums = old v in omega arith)
        (none_or_named s good v (calls ds) are_calls)

    only_hub : is_hubs (host_call_of s c) ≡ true → pass_of s i ≡ HUB
    only_hub e = go (is_hub t) refl
      where
        go : (b : Bool) → is_hub t ≡ b → pass_of s i ≡ HUB
        go true is = hub_pass s i t at is
        go false is = let none = All-middle (λ (c : Call). is_hub_call c.code ≡ false) (calls ds) c later (subst (All (λ (c : Call). is_hub_call c.code ≡ false)) split (formed.hub is)) in
            absurd (true≢false (sym e ∙ (sym (host_call_hubs s good c next_is) ∙ none)))

  rejects_more : (ds : List CallRecord) (d : CallRecord) (later : List Call) → t.calls ≡ calls ds ++ d.call ∷ later → IsAnswered s d (host_call_of s d.call) d.answer → HoldRejects ds → HoldRejects (ds ++ d ∷ [])
  rejects_more ds d later split answered old v =
      let effect = rejects_effect s (pass_of s d.thread) d (entries ds) v (host_call_of s d.call) d.answer answered (next_backed ds d.call later split old v) in
      let now = ap (rejects_at v) (entries-push ds d) in
      let down = ap (sum_by (λ (c : Call). withdraws v (host_call_of s c))) (calls-push ds d) ∙ sum_by_push (λ c. withdraws v (host_call_of s c)) (calls ds) d.call in
      let up = ap (sum_by (λ (c : Call). raises v (host_call_of s c))) (calls-push ds d) ∙ sum_by_push (λ c. raises v (host_call_of s c)) (calls ds) d.call in
      let sums = old v in omega arith

  flags_more : (ds : List CallRecord) (d : CallRecord) → IsAnswered s d (host_call_of s d.call) d.answer → IsFound (host_call_of s d.call) d.down (down_by s false ds) → HoldFlags ds → HoldFlags (ds ++ d ∷ [])
  flags_more ds d answered found old v near = ap (down_at v) (entries-push ds d) ∙ (go (is_hubs (host_call_of s d.call)) refl ∙ sym (down_by-push s false ds d))
    where
      go : (b : Bool) → is_hubs (host_call_of s d.call) ≡ b → down_at v (entries ds ++ call_entries s d) ≡ down_after (down_by s false ds) (host_call_of s d.call) d.answer
      go true e = let is = found_down (host_call_of s d.call) d.down (down_by s false ds) e found in
          down_effect s (pass_of s d.thread) d (entries ds) v near (host_call_of s d.call) d.answer answered (old v near ∙ sym is) ∙ ap (λ b. down_after b (host_call_of s d.call) d.answer) is
      go false e = ap (λ (f : Flags). f.down) (no_flag v (entries ds) (call_entries s d) (plain_no_flag s (pass_of s d.thread) d.call (host_call_of s d.call) d.answer d.marks (numbers_of d.rests) d.down e))
          ∙ (old v near ∙ sym (plain_down (down_by s false ds) (host_call_of s d.call) d.answer e))

  -- over all calls that were made
  all_rejects : (ds es : List CallRecord) (later : List Call) → t.calls ≡ calls (ds ++ es) ++ later → All (IsMade s) es → HoldRejects ds → HoldRejects (ds ++ es)
  all_rejects ds [] later split told old = subst HoldRejects (sym (append-nil ds)) old
  all_rejects ds (d ∷ es) later split told old =
      let longer : (ds ++ d ∷ []) ++ es ≡ ds ++ d ∷ es = append_assoc ds (d ∷ []) es in
      let cut : t.calls ≡ calls ds ++ d.call ∷ (calls es ++ later) = split ∙ (ap (λ l. l ++ later) (map-append (λ (d : CallRecord). d.call) ds (d ∷ es)) ∙ append_assoc (calls ds) (d.call ∷ calls es) later) in
      subst HoldRejects longer (all_rejects (ds ++ d ∷ []) es later (split ∙ ap (λ l. calls l ++ later) (sym longer)) (All-tail (IsMade s) d es told)
      (rejects_more ds d (calls es ++ later) cut (All-head (IsMade s) d es told).answered old))

  all_flags : (ds es : List CallRecord) → All (IsMade s) es → AreFound s (down_by s false ds) es → HoldFlags ds → HoldFlags (ds ++ es)
  all_flags ds [] told found old = subst HoldFlags (sym (append-nil ds)) old
  all_flags ds (d ∷ es) told found old =
      subst HoldFlags (append_assoc ds (d ∷ []) es)
      (all_flags (ds ++ d ∷ []) es (All-tail (IsMade s) d es told) (subst (λ b. AreFound s b es) (sym (down_by-push s false ds d)) found.1) (flags_more ds d (All-head (IsMade s) d es told).answered found.0 old))

  pub may_go_on : (p : Known) (c : Call) (down : Bool) (may : MayCall s p i c down) → may.thread ≡ t → MayGoOn s p c down
  may_go_on p c down may same =
      let ds = may.before in
      let split : t.calls ≡ calls ds ++ c ∷ may.later = ap (λ (t : SceneThread). t.calls) (sym same) ∙ may.script in
      let rejects : HoldRejects ds = all_rejects [] ds (c ∷ may.later) split may.made.told (λ v. refl) in
      let flags : HoldFlags ds = all_flags [] ds may.made.told may.made.downs (λ v l. refl) in record {
        is = next_is ds c may.later split;
        few = λ u. subst (λ m. (held_of m u).rejects ≤ 100) (sym may.mine) (few_held ds c may.later split rejects u);
        backed = λ u e. subst (λ m. 0 < (held_of m u).rejects) (sym may.mine) (next_backed ds c may.later split rejects u (one u e));
        hub = λ e. may.number ∙ only_hub ds c may.later split (is_one e);
        flags = λ own u l. ap (λ m. (held_of m u).flags.down) may.mine ∙ (flags u l ∙ sym may.found);
      }
    where
      one : (u : ℕ) → (host_call_of s c ≡ host_call.Unpoison u) ⊎ (host_call_of s c ≡ host_call.Unblock u) → withdraws u (host_call_of s c) ≡ 1
      one u e = ⊎_elim
          (λ (l : host_call_of s c ≡ host_call.Unpoison u). ap (withdraws u) l ∙ ap (λ b. cond {A = ℕ} b 1 0) (eq-eqb u u refl))
          (λ (r : host_call_of s c ≡ host_call.Unblock u). ap (withdraws u) r ∙ ap (λ b. cond {A = ℕ} b 1 0) (eq-eqb u u refl)) e

      is_one : (host_call_of s c ≡ host_call.Down) ⊎ (host_call_of s c ≡ host_call.Up) → is_hubs (host_call_of s c) ≡ true
      is_one e = ⊎_elim (λ (l : host_call_of s c ≡ host_call.Down). ap is_hubs l) (λ (r : host_call_of s c ≡ host_call.Up). ap is_hubs r) e
