-- The calls of a run in line order keep what holds between calls.
use Rattle.std.proofs.Common.{ℕ, ◌≡◌, ◌≢◌, ◌+◌, ◌<◌, ◌≤◌, ⊎_elim, Bool, true, false, cond, eqb, Option, Some, List, [], ◌∷◌, ◌++◌, length, map, refl, sym, ap, ◌∙◌, subst, arith, append_assoc, append-nil, eq-eqb, ne_eqb, true≢false}
use Rattle.std.specs.Prelude.{slice_get}
use Rattle.std.specs.List.{flat_map, zip, All, sum_by}
use Rattle.std.proofs.lemmas.List.{map-append}
use Rattle.std.proofs.lemmas.List.Sums.{sum_by_push}
use Rattle.std.proofs.lemmas.List.Elements.{filter-append, All-nil, All-push}
use Rattle.std.proofs.lemmas.Grind.{flat_map-append}
use mathlib.Core.Logic.{dite}
use native.Mathlib.Decide.{ℕ_discrete}
use Rattle.usb_types.specs.declared.errno.Code.{Code}
use Rattle.usb_machine.specs.State.{unlinking}
use Rattle.usb_machine.specs.History.{state_of}
use Rattle.usb_machine.specs.declared.transfer.Transfer.{Transfer}
use Rattle.usb_machine.specs.Calls.{claim_entries, unblock_entries}
use Rattle.usb_machine.specs.HostCalls.{rested_of}
use Rattle.usb_machine.specs.declared.entry.TheConstants.{SERVER, HUB}
use Rattle.usb_machine.specs.Parts.{part_of}
use Rattle.usb_scene.specs.declared.scene.Scene.{Scene}
use Rattle.usb_scene.specs.declared.scene.SceneThread.{SceneThread}
use Rattle.usb_scene.specs.declared.scene.Call.{Call}
use Rattle.usb_scene.specs.WellFormed.{IsCall, IsThread, IsWellFormed, is_hub_call}
use Rattle.usb_prepare.specs.Layout.{urb_count}
use Rattle.usb_trace.specs.declared.rows.HostCall.{HostCall}
use Rattle.usb_trace.specs.declared.rows.HostCall.TheVariants as host_call
use Rattle.usb_trace.specs.declared.rows.CallAnswer.{CallAnswer}
use Rattle.usb_trace.specs.declared.rows.CallAnswer.TheVariants as told
use Rattle.usb_trace.specs.Plan.{pass_of, main_pass, host_call_of, calls_of, is_hub}
use Rattle.usb_trace.specs.Run.{CallRecord, urbs_of, opening, call_entries, host_call_entries, claimed_urbs, claims_in, IsMade, IsAnswered, down_after, IsFound, AreFound, done_by}
use Rattle.usb_line.specs.Line.{Progress, AreDowns, begun, adds, call_record, with_call_record, woken, killing, shutting, ClaimsEach, none, one, Makes, at_once, served, killed, poisoned, shut_down, IsLine, start, call}
use Rattle.usb_line.proofs.Held.{rejects_at, down_at}
use Rattle.usb_line.proofs.HostCalls.{raises, withdraws, is_hubs, named, host_call_hubs, sum_raised, sum_withdrawn, withdraws_named, withdraws_own, none_or_named}
use Rattle.usb_line.proofs.Effects.{rejects_effect, down_effect}
use Rattle.usb_trace.specs.Claims.{claimed_by, numbers_of}
use Rattle.usb_trace.proofs.Entries.{AreOf, part_own, part_other}
use Rattle.usb_trace.proofs.Claims.{AreNoClaim, claimed_none}
use Rattle.usb_line.proofs.Serving.{Serves}
use Rattle.usb_line.proofs.Turns.{gives_back_serve, gives_back_turned, idle_serves, idle_turned}
use Rattle.usb_line.proofs.Waits.{woken_serves, woken_turned, wait_turned}
use Rattle.usb_line.proofs.ReadsFollow.{reads_pass, begun_serves}
use Rattle.usb_line.proofs.Passes.{not_server, not_main, main_not_server, is_pass, other_threads, thread_at, is_thread, hub_pass}
use Rattle.usb_line.proofs.Scripted.{placed, calls_by, next_call, All-middle, All-front, of_thread, only_calls}
use Rattle.usb_line.proofs.Makings.{IsMadeBy, made_none, made_turned, kill_made, poison_made}
use Rattle.usb_line.proofs.Longer.{makes_longer}
use Rattle.usb_line.proofs.Claiming.{claims_grown, claims_stay, poison_claims, kill_claims, number_told}
use Rattle.usb_line.proofs.Nows.{CanCall, IsCalled, now_called}
use Rattle.usb_line.proofs.Downs.{down_called}

-- whether the host is down after some calls
abbrev pub down_by : Scene → Bool → List CallRecord → Bool
down_by s b [] = b
down_by s b (d ∷ ds) = down_by s (down_after b (host_call_of s d.call) d.answer) ds

-- how many rejects these calls raised on URB v, and how many they withdrew
abbrev pub sum_raised_by : Scene → ℕ → List Call → ℕ
sum_raised_by s v calls = sum_by (λ c. raises v (host_call_of s c)) calls

abbrev pub sum_withdrawn_by : Scene → ℕ → List Call → ℕ
sum_withdrawn_by s v calls = sum_by (λ c. withdraws v (host_call_of s c)) calls

-- what holds between the calls of a run in line order
pub record Goes (s : Scene) (f : Progress) : Type 0 where
  pub serves : Serves s f
  pub threads : (i : ℕ) → i < length s.threads → part_of f.history (pass_of s i) ≡ flat_map (call_entries s) (done_by i f.call_records)
  pub main : part_of f.history (main_pass s) ≡ opening s
  pub claims : (i : ℕ) → i < length s.threads → claimed_by (pass_of s i) f.history ≡ flat_map (claims_in s) (done_by i f.call_records)
  pub others : (p : ℕ) → p ≢ SERVER → p ≢ main_pass s → ((i : ℕ) → i < length s.threads → p ≢ pass_of s i) → part_of f.history p ≡ []
  pub told : All (IsMade s) f.call_records
  pub downs : (i : ℕ) → i < length s.threads → AreFound s false (done_by i f.call_records)
  pub all_downs : AreDowns s false f.call_records
  pub all_down : down_by s false f.call_records ≡ f.down
  -- the hub's calls are those that take the host down and up
  pub hubs : (i : ℕ) → i < length s.threads → pass_of s i ≡ HUB → down_by s false (done_by i f.call_records) ≡ f.down
  -- the hub holds its flag on each URB exactly where the host is down
  pub flags : (v : ℕ) → v < urb_count s → down_at v (part_of f.history HUB) ≡ f.down
  -- a thread holds the rejects that its calls raised and did not withdraw
  pub rejects : (i : ℕ) → i < length s.threads → (v : ℕ) → rejects_at v (part_of f.history (pass_of s i)) + sum_withdrawn_by s v (calls_by i f.call_records) ≡ sum_raised_by s v (calls_by i f.call_records)

-- after the drivers' reads
pub goes_begun : (s : Scene) → IsWellFormed s → Goes s (begun s)
goes_begun s good = record {
  serves = begun_serves s good;
  threads = λ i l. part_other (main_pass s) (pass_of s i) (opening s) (λ e. not_main s i l (sym e)) reads;
  main = part_own (main_pass s) (opening s) reads;
  claims = λ i l. claimed_none (pass_of s i) [] (opening s) (subst AreNoClaim (sym (part_other (main_pass s) (pass_of s i) (opening s) (λ e. not_main s i l (sym e)) reads)) tt);
  others = λ p off main none. part_other (main_pass s) p (opening s) (λ e. main (sym e)) reads;
  told = All-nil (IsMade s);
  downs = λ i l. tt;
  all_downs = tt;
  all_down = refl;
  hubs = λ i l hub. refl;
  flags = λ v l. ap (down_at v) (part_other (main_pass s) HUB (opening s) (λ e. absurd (omega arith)) reads);
  rejects = λ i l v. ap (λ m. rejects_at v m + sum_withdrawn_by s v (calls_by i [])) (part_other (main_pass s) (pass_of s i) (opening s) (λ e. not_main s i l (sym e)) reads);
}
  where
    reads : AreOf (main_pass s) (opening s)
    reads = reads_pass s (urb_count s)

AreDowns-push : (s : Scene) (b : Bool) (ds : List CallRecord) (d : CallRecord) → AreDowns s b ds → d.down ≡ down_by s b ds → AreDowns s b (ds ++ d ∷ [])
AreDowns-push s b [] d all e = (e, tt)
AreDowns-push s b (x ∷ ds) d all e = (all.0, AreDowns-push s (down_after b (host_call_of s x.call) x.answer) ds d all.1 e)

pub AreFound-push : (s : Scene) (b : Bool) (ds : List CallRecord) (d : CallRecord) → AreFound s b ds → IsFound (host_call_of s d.call) d.down (down_by s b ds) → AreFound s b (ds ++ d ∷ [])
AreFound-push s b [] d all e = (e, tt)
AreFound-push s b (x ∷ ds) d all e = (all.0, AreFound-push s (down_after b (host_call_of s x.call) x.answer) ds d all.1 e)

pub down_by-push : (s : Scene) (b : Bool) (ds : List CallRecord) (d : CallRecord) → down_by s b (ds ++ d ∷ []) ≡ down_after (down_by s b ds) (host_call_of s d.call) d.answer
down_by-push s b [] d = refl
down_by-push s b (x ∷ ds) d = down_by-push s (down_after b (host_call_of s x.call) x.answer) ds d

-- a call that is not the hub's leaves the host as it is
same_down : (b : Bool) (dd : HostCall) (a : CallAnswer) → is_hubs dd ≡ false → down_after b dd a ≡ b
same_down b host_call.Down a e = absurd (true≢false e)
same_down b host_call.Up a e = absurd (true≢false e)
same_down b _ a e = refl

-- a call that is not the hub's asks for nothing
is_found : (dd : HostCall) (down b : Bool) → (is_hubs dd ≡ true → down ≡ b) → IsFound dd down b
is_found host_call.Down down b e = e refl
is_found host_call.Up down b e = e refl
is_found _ down b e = tt

-- the calls made begin those of the scene, and this one is next
abbrev pub IsNext : Scene → Progress → ℕ → Call → Type 0
IsNext s f i c = (rest : List (ℕ × Call)) × (map placed f.call_records ++ (i, c) ∷ rest ≡ calls_of s)

module _ (s : Scene) (good : IsWellFormed s) (f : Progress) (i : ℕ) (c : Call) (old : Goes s f) (near : i < length s.threads) (next : IsNext s f i c) where
  abbrev p : ℕ
  p = pass_of s i

  abbrev thread : SceneThread
  thread = (thread_at s.threads i near).0

  is_at : slice_get s.threads i ≡ Some thread
  is_at = (thread_at s.threads i near).1

  formed : IsThread s thread
  formed = is_thread s good i thread is_at

  abbrev behind : List Call
  behind = only_calls (of_thread i next.0)

  split : thread.calls ≡ calls_by i f.call_records ++ c ∷ behind
  split = next_call s f.call_records i c next.0 next.1 thread is_at

  all_calls : All (IsCall s) (calls_by i f.call_records ++ c ∷ behind)
  all_calls = subst (All (IsCall s)) split formed.calls

  pub is_call : IsCall s c
  is_call = All-middle (IsCall s) (calls_by i f.call_records) c behind all_calls

  are_calls : All (IsCall s) (calls_by i f.call_records)
  are_calls = All-front (IsCall s) (calls_by i f.call_records) (c ∷ behind) all_calls

  is_backed : (v : ℕ) → withdraws v (host_call_of s c) ≡ 1 → 0 < rejects_at v (part_of f.history p)
  is_backed v e =
      let held = formed.held.held (calls_by i f.call_records) c behind c.target split (withdraws_own s good c is_call v e) in
      let up = sum_raised s good c is_call v (withdraws_named s good c is_call v e) (calls_by i f.call_records) are_calls in
      let down = sum_withdrawn s good c is_call v (withdraws_named s good c is_call v e) (calls_by i f.call_records) are_calls in
      let sums = old.rejects i near v in omega arith

  only_hub : is_hubs (host_call_of s c) ≡ true → p ≡ HUB
  only_hub e = go (is_hub thread) refl
    where
      go : (b : Bool) → is_hub thread ≡ b → p ≡ HUB
      go true is = hub_pass s i thread is_at is
      go false is = let none = All-middle (λ (c : Call). is_hub_call c.code ≡ false) (calls_by i f.call_records) c behind (subst (All (λ (c : Call). is_hub_call c.code ≡ false)) split (formed.hub is)) in
          absurd (true≢false (sym e ∙ (sym (host_call_hubs s good c is_call) ∙ none)))

  pub can_call : CanCall s f i c
  can_call = record { serves = old.serves; near = near; is = is_call; backed = is_backed; hub = only_hub; flags = old.flags }

  -- a script never holds many rejects
  pub few_held : (v : ℕ) → rejects_at v (part_of f.history p) ≤ 100
  few_held v = ⊎_elim
      (λ (none : sum_raised_by s v (calls_by i f.call_records) ≡ 0). let sums = old.rejects i near v in omega arith)
      (λ (some : (c : Call) × (is : IsCall s c) × (named s c.target ≡ Some v)).
      let most = formed.held.most (calls_by i f.call_records) (c ∷ behind) some.0.target split in
      let up = sum_raised s good some.0 some.1 v some.2 (calls_by i f.call_records) are_calls in
      let down = sum_withdrawn s good some.0 some.1 v some.2 (calls_by i f.call_records) are_calls in
      let sums = old.rejects i near v in omega arith)
      (none_or_named s good v (calls_by i f.call_records) are_calls)

  -- a call that was made is counted
  module _ (d : CallRecord) (m : Progress) (thread_is : d.thread ≡ i) (call_is : d.call ≡ c) (found : d.down ≡ f.down) (done : IsCalled s f i d m) where
    abbrev k : Progress
    k = with_call_record s m d

    call_records_are : k.call_records ≡ f.call_records ++ d ∷ []
    call_records_are = ap (λ l. l ++ d ∷ []) done.made.call_records

    done_own : done_by i k.call_records ≡ done_by i f.call_records ++ d ∷ []
    done_own = ap (done_by i) call_records_are ∙ (filter-append (λ (d : CallRecord). eqb d.thread i) f.call_records (d ∷ []) ∙ ap (λ b. done_by i f.call_records ++ cond b (d ∷ []) []) (eq-eqb d.thread i thread_is))

    done_other : (j : ℕ) → j ≢ i → done_by j k.call_records ≡ done_by j f.call_records
    done_other j off = ap (done_by j) call_records_are ∙ (filter-append (λ (d : CallRecord). eqb d.thread j) f.call_records (d ∷ [])
        ∙ (ap (λ b. done_by j f.call_records ++ cond b (d ∷ []) []) (ne_eqb d.thread j (λ e. off (sym e ∙ thread_is))) ∙ append-nil (done_by j f.call_records)))

    parts : (j : ℕ) → j < length s.threads → part_of k.history (pass_of s j) ≡ flat_map (call_entries s) (done_by j k.call_records)
    parts j l = dite (ℕ_discrete j i)
        (λ is. subst (λ j. part_of k.history (pass_of s j) ≡ flat_map (call_entries s) (done_by j k.call_records)) (sym is)
        (done.made.own ∙ ((λ x. old.threads i near x ++ sym (append-nil (call_entries s d)) x)
        ∙ (sym (flat_map-append (call_entries s) (done_by i f.call_records) (d ∷ [])) ∙ ap (flat_map (call_entries s)) (sym done_own)))))
        (λ off. done.made.elsewhere (pass_of s j) (not_server s j) (other_threads s good j i l near off) ∙ (old.threads j l ∙ ap (flat_map (call_entries s)) (sym (done_other j off))))

    claims_now : (j : ℕ) → j < length s.threads → claimed_by (pass_of s j) k.history ≡ flat_map (claims_in s) (done_by j k.call_records)
    claims_now j l = dite (ℕ_discrete j i)
        (λ is. subst (λ j. claimed_by (pass_of s j) k.history ≡ flat_map (claims_in s) (done_by j k.call_records)) (sym is)
        (done.claims ∙ ((λ x. old.claims i near x ++ sym (append-nil (claims_in s d)) x)
        ∙ (sym (flat_map-append (claims_in s) (done_by i f.call_records) (d ∷ [])) ∙ ap (flat_map (claims_in s)) (sym done_own)))))
        (λ off. claims_stay f m (pass_of s j) done.longer (done.made.elsewhere (pass_of s j) (not_server s j) (other_threads s good j i l near off))
        ∙ (old.claims j l ∙ ap (flat_map (claims_in s)) (sym (done_other j off))))

    not_hubs : (b : Bool) → is_hubs (host_call_of s c) ≡ b → p ≢ HUB → is_hubs (host_call_of s c) ≡ false
    not_hubs true e off = absurd (off (only_hub e))
    not_hubs false e off = e

    flags_now : (v : ℕ) → v < urb_count s → down_at v (part_of k.history HUB) ≡ k.down
    flags_now v l = dite (ℕ_discrete p HUB)
        (λ hub.
        let before : down_at v (part_of f.history p) ≡ d.down = ap (λ q. down_at v (part_of f.history q)) hub ∙ (old.flags v l ∙ sym found) in
        ap (λ q. down_at v (part_of m.history q)) (sym hub) ∙ (ap (down_at v) done.made.own
        ∙ (down_effect s (pass_of s d.thread) d (part_of f.history p) v l (host_call_of s d.call) d.answer done.answered before ∙ ap (λ b. down_after b (host_call_of s d.call) d.answer) (found ∙ sym done.made.down))))
        (λ off.
        ap (down_at v) (done.made.elsewhere HUB (λ e. absurd (omega arith)) (λ e. off (sym e))) ∙ (old.flags v l ∙ (sym done.made.down ∙ sym (same_down m.down (host_call_of s d.call) d.answer (ap (λ (c : Call). is_hubs (host_call_of s c)) call_is ∙ not_hubs (is_hubs (host_call_of s c)) refl off)))))

    found_it : IsFound (host_call_of s d.call) d.down (down_by s false (done_by i f.call_records))
    found_it = is_found (host_call_of s d.call) d.down (down_by s false (done_by i f.call_records))
        (λ hub. found ∙ sym (old.hubs i near (only_hub (ap (λ (c : Call). is_hubs (host_call_of s c)) (sym call_is) ∙ hub))))

    downs_now : (j : ℕ) → j < length s.threads → AreFound s false (done_by j k.call_records)
    downs_now j l = dite (ℕ_discrete j i)
        (λ is. subst (λ j. AreFound s false (done_by j k.call_records)) (sym is)
        (subst (AreFound s false) (sym done_own) (AreFound-push s false (done_by i f.call_records) d (old.downs i near) found_it)))
        (λ off. subst (AreFound s false) (sym (done_other j off)) (old.downs j l))

    hubs_now : (j : ℕ) → j < length s.threads → pass_of s j ≡ HUB → down_by s false (done_by j k.call_records) ≡ k.down
    hubs_now j l hub = dite (ℕ_discrete j i)
        (λ is. ap (λ j. down_by s false (done_by j k.call_records)) is ∙ (ap (down_by s false) done_own ∙ (down_by-push s false (done_by i f.call_records) d
        ∙ ap (λ b. down_after b (host_call_of s d.call) d.answer) (old.hubs i near (subst (λ j. pass_of s j ≡ HUB) is hub) ∙ sym done.made.down))))
        (λ off.
        let other : p ≢ HUB = λ own. other_threads s good j i l near off (hub ∙ sym own) in
        ap (down_by s false) (done_other j off) ∙ (old.hubs j l hub ∙ (sym done.made.down
        ∙ sym (same_down m.down (host_call_of s d.call) d.answer (ap (λ (c : Call). is_hubs (host_call_of s c)) call_is ∙ not_hubs (is_hubs (host_call_of s c)) refl other)))))

    rejects_now : (j : ℕ) → j < length s.threads → (v : ℕ) → rejects_at v (part_of k.history (pass_of s j)) + sum_withdrawn_by s v (calls_by j k.call_records) ≡ sum_raised_by s v (calls_by j k.call_records)
    rejects_now j l v = dite (ℕ_discrete j i)
        (λ is. subst (λ j. rejects_at v (part_of k.history (pass_of s j)) + sum_withdrawn_by s v (calls_by j k.call_records) ≡ sum_raised_by s v (calls_by j k.call_records)) (sym is)
        (let calls : calls_by i k.call_records ≡ calls_by i f.call_records ++ c ∷ [] = ap (map (λ (d : CallRecord). d.call)) done_own ∙ (map-append (λ (d : CallRecord). d.call) (done_by i f.call_records) (d ∷ []) ∙ ap (λ c. calls_by i f.call_records ++ c ∷ []) call_is) in
        let down : sum_withdrawn_by s v (calls_by i k.call_records) ≡ sum_withdrawn_by s v (calls_by i f.call_records) + withdraws v (host_call_of s c) = ap (sum_withdrawn_by s v) calls ∙ sum_by_push (λ c. withdraws v (host_call_of s c)) (calls_by i f.call_records) c in
        let up : sum_raised_by s v (calls_by i k.call_records) ≡ sum_raised_by s v (calls_by i f.call_records) + raises v (host_call_of s c) = ap (sum_raised_by s v) calls ∙ sum_by_push (λ c. raises v (host_call_of s c)) (calls_by i f.call_records) c in
        let held = ap (rejects_at v) done.made.own in
        let effect = rejects_effect s (pass_of s d.thread) d (part_of f.history p) v (host_call_of s d.call) d.answer done.answered (λ e. is_backed v (ap (λ c. withdraws v (host_call_of s c)) (sym call_is) ∙ e)) in
        let w : withdraws v (host_call_of s c) ≡ withdraws v (host_call_of s d.call) = ap (λ c. withdraws v (host_call_of s c)) (sym call_is) in
        let r : raises v (host_call_of s c) ≡ raises v (host_call_of s d.call) = ap (λ c. raises v (host_call_of s c)) (sym call_is) in
        let sums = old.rejects i near v in omega arith))
        (λ off.
        let part = ap (rejects_at v) (done.made.elsewhere (pass_of s j) (not_server s j) (other_threads s good j i l near off)) in
        let calls : calls_by j k.call_records ≡ calls_by j f.call_records = ap (map (λ (d : CallRecord). d.call)) (done_other j off) in
        let down = ap (sum_withdrawn_by s v) calls in let up = ap (sum_raised_by s v) calls in let sums = old.rejects j l v in omega arith)

    pub counted : Goes s k
    counted = record {
      serves = keeps_serving done.made.serves;
      threads = parts;
      claims = claims_now;
      main = done.made.elsewhere (main_pass s) (main_not_server s) (λ e. not_main s i near (sym e)) ∙ old.main;
      others = λ q off main none. done.made.elsewhere q off (none i near) ∙ old.others q off main none;
      told = subst (All (IsMade s)) (sym call_records_are) (All-push (IsMade s) f.call_records d old.told record { thread = subst (λ j. j < length s.threads) (sym thread_is) near; answered = done.answered; claims = done.each });
      downs = downs_now;
      all_downs = subst (AreDowns s false) (sym call_records_are) (AreDowns-push s false f.call_records d old.all_downs (found ∙ sym old.all_down));
      all_down = ap (down_by s false) call_records_are ∙ (down_by-push s false f.call_records d ∙ ap (λ b. down_after b (host_call_of s d.call) d.answer) (old.all_down ∙ sym done.made.down));
      hubs = hubs_now;
      flags = flags_now;
      rejects = rejects_now;
    }
      where
        keeps_serving : Serves s m → Serves s k
        keeps_serving o = record {
          legal = o.legal;
          calm = o.calm;
          server = o.server;
          gives = o.gives;
          firsts = o.firsts;
          replies = o.replies;
          moving = λ e. record { none = (o.moving e).none; whole = (o.moving e).whole; due = (o.moving e).due };
          moves = o.moves;
          handled = o.handled;
          bare = o.bare;
        }

  -- each call keeps what holds between calls
  pub makes_go : (d : CallRecord) (m : Progress) → Makes s f i c d m → Goes s (with_call_record s m d)
  makes_go _ _ (at_once answer e) = counted (call_record f i c answer [] []) _ refl refl refl (now_called s good f i c can_call answer e)
  makes_go _ e (served m _ is gave idle) =
      let begun = made_none s f p old.serves in
      let wake = made_turned s f f (woken f) p [] (not_server s i) begun (woken_serves s f old.serves) (woken_turned f) in
      let gone = made_turned s f (woken f) m p [] (not_server s i) wake (gives_back_serve s good (woken f) m gave wake.serves) (gives_back_turned s (woken f) m gave) in
      let last = made_turned s f m e p [] (not_server s i) gone (idle_serves s m e idle gone.serves) (idle_turned s m e idle) in
      counted (call_record f i c told.Nothing [] []) e refl refl refl record {
        made = subst (λ dd. IsMadeBy s f p (host_call_entries s p c dd told.Nothing [] [] f.down) e) (sym is) last;
        answered = subst (λ dd. IsAnswered s (call_record f i c told.Nothing [] []) dd told.Nothing) (sym is) refl;
        longer = makes_longer s f i c (call_record f i c told.Nothing [] []) e (served m e is gave idle);
        each = subst (λ dd. 0 ≡ length (claimed_urbs s dd told.Nothing)) (sym is) refl;
        claims = subst (λ dd. claimed_by p e.history ≡ claimed_by p f.history ++ zip (claimed_urbs s dd told.Nothing) []) (sym is)
            (claims_grown f e p (makes_longer s f i c (call_record f i c told.Nothing [] []) e (served m e is gave idle)) [] last.own tt ∙ sym (append-nil (claimed_by p f.history)));
      }
  makes_go _ _ (killed u m is waits) =
      let rest : Option ℕ = (state_of m.history u).rest in
      let mark : Code = unlinking (state_of f.history u) in
      let found : Option Transfer = rested_of m.history u in
      let d : CallRecord = call_record f i c (told.Buffer rest) (mark ∷ []) (found ∷ []) in
      let k : Progress = adds m (claim_entries p u rest ++ unblock_entries p u) in
      counted d k refl refl refl record {
        made = subst (λ dd. IsMadeBy s f p (host_call_entries s p c dd (told.Buffer rest) (mark ∷ []) (numbers_of (found ∷ [])) f.down) k) (sym is) (kill_made s p u (is_pass s i near) good (not_server s i) f m old.serves waits);
        answered = subst (λ dd. IsAnswered s d dd (told.Buffer rest)) (sym is) (refl, number_told s p u (is_pass s i near) good (not_server s i) f m old.serves waits);
        longer = makes_longer s f i c d k (killed u m is waits);
        each = subst (λ dd. 1 ≡ length (claimed_urbs s dd (told.Buffer rest))) (sym is) refl;
        claims = subst (λ dd. claimed_by p k.history ≡ claimed_by p f.history ++ zip (claimed_urbs s dd (told.Buffer rest)) (found ∷ [])) (sym is)
            (kill_claims s p u (is_pass s i near) good (not_server s i) f m old.serves waits);
      }
  makes_go _ _ (poisoned u m is waits) =
      let rest : Option ℕ = (state_of m.history u).rest in
      let mark : Code = unlinking (state_of f.history u) in
      let found : Option Transfer = rested_of m.history u in
      let d : CallRecord = call_record f i c (told.Buffer rest) (mark ∷ []) (found ∷ []) in
      let k : Progress = adds m (claim_entries p u rest) in
      counted d k refl refl refl record {
        made = subst (λ dd. IsMadeBy s f p (host_call_entries s p c dd (told.Buffer rest) (mark ∷ []) (numbers_of (found ∷ [])) f.down) k) (sym is) (poison_made s p u (is_pass s i near) good (not_server s i) f m old.serves waits);
        answered = subst (λ dd. IsAnswered s d dd (told.Buffer rest)) (sym is) (refl, number_told s p u (is_pass s i near) good (not_server s i) f m old.serves waits);
        longer = makes_longer s f i c d k (poisoned u m is waits);
        each = subst (λ dd. 1 ≡ length (claimed_urbs s dd (told.Buffer rest))) (sym is) refl;
        claims = subst (λ dd. claimed_by p k.history ≡ claimed_by p f.history ++ zip (claimed_urbs s dd (told.Buffer rest)) (found ∷ [])) (sym is)
            (poison_claims s p u (is_pass s i near) good (not_server s i) f m old.serves waits);
      }
  makes_go _ m (shut_down rests _ is up claims) = counted _ m refl refl refl (down_called s good f i c can_call is up rests m claims)

claims_call_records : (s : Scene) (p : ℕ) (f : Progress) (us : List ℕ) (rests : List (Option Transfer)) (m : Progress) → ClaimsEach s p f us rests m → m.call_records ≡ f.call_records
claims_call_records s p f _ _ _ none = refl
claims_call_records s p f _ _ _ (one us rests u m k before waits) = (wait_turned s u m k waits).call_records ∙ claims_call_records s p f us rests m before

-- a call adds itself to the calls made
pub makes_call_records : (s : Scene) (f : Progress) (i : ℕ) (c : Call) (d : CallRecord) (m : Progress) → Makes s f i c d m → (placed d ≡ (i, c)) × (m.call_records ≡ f.call_records)
makes_call_records s f i c _ _ (at_once answer e) = (refl, refl)
makes_call_records s f i c _ _ (served m e is gave idle) = (refl, (idle_turned s m e idle).call_records ∙ (gives_back_turned s (woken f) m gave).call_records)
makes_call_records s f i c _ _ (killed u m is waits) = (refl, (wait_turned s u (killing (pass_of s i) u f) m waits).call_records)
makes_call_records s f i c _ _ (poisoned u m is waits) = (refl, (wait_turned s u (killing (pass_of s i) u f) m waits).call_records)
makes_call_records s f i c _ _ (shut_down rests m is up claims) = (refl, claims_call_records s (pass_of s i) (shutting s (pass_of s i) f) (urbs_of s) rests m claims)

-- the run through calls that begin those of the scene
pub line_goes : (s : Scene) → IsWellFormed s → (f : Progress) → IsLine s f → (rest : List (ℕ × Call)) → map placed f.call_records ++ rest ≡ calls_of s → Goes s f
line_goes s good _ start rest all = goes_begun s good
line_goes s good _ (call f m i c d line near makes) rest all =
    let same = makes_call_records s f i c d m makes in
    let before : map placed f.call_records ++ (i, c) ∷ rest ≡ calls_of s
    = sym (append_assoc (map placed f.call_records) ((i, c) ∷ []) rest)
    ∙ ((λ x. (map placed (sym same.1 x) ++ sym same.0 x ∷ []) ++ rest) ∙ (ap (λ l. l ++ rest) (sym (map-append placed m.call_records (d ∷ []))) ∙ all)) in
    makes_go s good f i c (line_goes s good f line ((i, c) ∷ rest) before) near (rest, before) d m makes
