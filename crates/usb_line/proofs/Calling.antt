-- What the next call of a line finds, and that it was made.
use Rattle.std.proofs.Common.{ℕ, ◌≡◌, ◌≢◌, ◌+◌, ◌<◌, ◌≤◌, Bool, true, false, cond, Option, Some, List, [], ◌∷◌, ◌++◌, length, refl, sym, ap, ◌∙◌, subst, arith, None, map, append-nil}
use Rattle.usb_machine.specs.declared.entry.TheConstants.{SERVER, HUB}
use Rattle.usb_machine.specs.declared.entry.Entry.{Entry}
use Rattle.usb_machine.specs.declared.plain.Plain.{Plain}
use Rattle.usb_machine.specs.History.{state_of}
use Rattle.usb_machine.specs.Parts.{part_of}
use Rattle.usb_machine.specs.Plain.{Stands, urbs_of as count_of}
use Rattle.usb_machine.specs.Calls.{claim_entries, unblock_entries, plain_entry}
use Rattle.usb_scene.specs.declared.scene.Scene.{Scene}
use Rattle.usb_scene.specs.declared.scene.Call.{Call}
use Rattle.usb_prepare.specs.Layout.{urb_count}
use Rattle.usb_line.specs.declared.run.LineRun.{LineRun}
use Rattle.usb_trace.specs.declared.rows.HostCall.{HostCall}
use Rattle.usb_trace.specs.declared.rows.HostCall.TheVariants as host_call
use Rattle.usb_trace.specs.declared.rows.CallAnswer.{CallAnswer}
use Rattle.usb_trace.specs.declared.rows.CallAnswer.TheVariants as told
use Rattle.usb_trace.specs.Plan.{machine_of, pass_of, host_call_of}
use Rattle.usb_prepare.specs.Below.{below}
use Rattle.usb_trace.specs.Run.{CallRecord, host_call_entries, down_after, urbs_of}
use Rattle.usb_line.specs.Line.{Progress, adds, call_record, answer_now, Makes, at_once, served, killed, poisoned, killing, WaitsFor, shutting, shut_marks, ClaimsEach, shut_down}
use Rattle.usb_line.specs.Shows.{Shows, Served}
use Rattle.usb_line.specs.Calls.{MayKill, Stopped, Killed, MayMake, Made, MayBeMade, Claimed}
use Rattle.usb_trace.proofs.Stills.{AreStill, unflags_still}
use Rattle.usb_line.proofs.Held.{rejects_at}
use Rattle.usb_line.proofs.HostCalls.{withdraws, is_hubs, IsThere, host_call_there}
use Rattle.usb_line.proofs.Passes.{not_server, is_pass}
use Rattle.usb_line.proofs.Nows.{CanCall, state_down}
use Rattle.usb_line.proofs.Calls.{Goes, line_goes, can_call, few_held}
use Rattle.usb_line.proofs.Killing.{plain_urbs}
use Rattle.usb_line.proofs.Showing.{shows_still, shows_called}
use Rattle.usb_types.specs.declared.errno.Errno.TheVariants.{ESHUTDOWN}
use Rattle.usb_types.specs.declared.errno.Code.TheVariants.{Fault}
use Rattle.usb_types.specs.declared.urb.Flag.TheVariants as flag
use Rattle.usb_machine.specs.declared.event.Event.TheVariants.{Unflag}

module _ (s : Scene) (f : Progress) (i : ℕ) (c : Call) (run : LineRun) (p : ℕ) (d : HostCall) (may : MayMake s f i c run p d) where
  pub goes : Goes s f
  goes = line_goes s may.good f may.next.in_line ((i, c) ∷ may.next.rest) may.next.all

  pub can : CanCall s f i c
  can = can_call s may.good f i c goes may.next.near (may.next.rest, may.next.all)

  pub there : p < 2 + (length s.threads + 3)
  there = subst (λ p. p < 2 + (length s.threads + 3)) may.pass (is_pass s i may.next.near)

  pub other : p ≢ SERVER
  other e = not_server s i (may.pass ∙ e)

  pub is_there : IsThere s d
  is_there = subst (IsThere s) may.does (host_call_there s may.good c can.is)

  -- the pass holds few rejects
  pub few : (v : ℕ) → rejects_at v (part_of f.history p) ≤ 100
  few v = subst (λ p. rejects_at v (part_of f.history p) ≤ 100) may.pass (few_held s may.good f i c goes may.next.near (may.next.rest, may.next.all) v)

  -- and it holds one that it is to withdraw
  pub backed : (v : ℕ) → withdraws v d ≡ 1 → 0 < rejects_at v (part_of f.history p)
  backed v e = subst (λ p. 0 < rejects_at v (part_of f.history p)) may.pass (can.backed v (ap (withdraws v) may.does ∙ e))

  pub is_hub : is_hubs d ≡ true → p ≡ HUB
  is_hub e = sym may.pass ∙ can.hub (ap is_hubs may.does ∙ e)

  pub near_plain : (u : ℕ) → u < urb_count s → u < count_of run.plain
  near_plain u near = subst (λ n. u < n) (sym (plain_urbs s f run may.shows)) near

  pub may_kill : (u : ℕ) → u < urb_count s → MayKill s f run p u
  may_kill u near = let l = few u in record { good = may.good; shows = may.shows; there = there; other = other; near = near; room = omega arith }

  -- a call that answers at once
  module _ (a : CallAnswer) (after : Plain) (b : Bool) where
    abbrev entries : List Entry
    entries = host_call_entries s p c d a [] [] f.down

    abbrev at : ℕ → HostCall → List Entry
    at p d = host_call_entries s p c d a [] [] f.down

    same : entries ≡ at (pass_of s i) (host_call_of s c)
    same j = at (sym may.pass j) (sym may.does j)

    pub made_now : answer_now s f c d ≡ Some a → AreStill entries → Stands after (machine_of s) (f.history ++ entries) → b ≡ down_after f.down d a → Made s f i c a (record run { plain = after; down = b })
    made_now e still stands down =
        let xs : List Entry = at (pass_of s i) (host_call_of s c) in
        record {
          did = call_record f i c a [] [];
          far = adds f xs;
          makes = at_once a (ap (answer_now s f c) may.does ∙ e);
          told = refl;
          shows = shows_called s (adds f xs) (record run { plain = after })
              (shows_still s f xs (subst AreStill same still) run after may.shows (subst (λ xs. Stands after (machine_of s) (f.history ++ xs)) same stands))
              (call_record f i c a [] []) b (down ∙ ap (λ d. down_after f.down d a) (sym may.does));
        }

  -- a call that leaves the host as it is
  made_as : (did : CallRecord) (m : Progress) (now : LineRun) (a : CallAnswer) → Makes s f i c did m → did.call ≡ c → did.answer ≡ a → Shows s m now → ((b : Bool) → down_after b d a ≡ b) → Made s f i c a now
  made_as did m now a makes is told shows same = record {
    did = did;
    far = m;
    makes = makes;
    told = told;
    shows = shows_called s m now shows did now.down (shows.host ∙ (sym (same m.down) ∙ (λ j. down_after m.down (sym (ap (host_call_of s) is ∙ may.does) j) (sym told j))));
  }

  module _ (u : ℕ) (rest : Option ℕ) (now : LineRun) where
    -- a kill, and a poison
    pub made_kill : d ≡ host_call.Kill u → Killed s f p u rest now → Made s f i c (told.Buffer rest) now
    made_kill is k =
        let waits : WaitsFor s u (killing (pass_of s i) u f) k.far = subst (λ p. WaitsFor s u (killing p u f) k.far) (sym may.pass) k.waits in
        let far : Progress = adds k.far (claim_entries (pass_of s i) u (state_of k.far.history u).rest ++ unblock_entries (pass_of s i) u) in
        made_as _ far now (told.Buffer rest) (killed u k.far (may.does ∙ is) waits) refl (ap told.Buffer (sym k.told))
        (subst (λ p. Shows s (adds k.far (claim_entries p u (state_of k.far.history u).rest ++ unblock_entries p u)) now) (sym may.pass) k.shows) (λ b. ap (λ d. down_after b d (told.Buffer rest)) is)

    pub made_poison : d ≡ host_call.Poison u → Stopped s f p u rest now → Made s f i c (told.Buffer rest) now
    made_poison is k =
        let waits : WaitsFor s u (killing (pass_of s i) u f) k.far = subst (λ p. WaitsFor s u (killing p u f) k.far) (sym may.pass) k.waits in
        let far : Progress = adds k.far (claim_entries (pass_of s i) u (state_of k.far.history u).rest) in
        made_as _ far now (told.Buffer rest) (poisoned u k.far (may.does ∙ is) waits) refl (ap told.Buffer (sym k.told))
        (subst (λ p. Shows s (adds k.far (claim_entries p u (state_of k.far.history u).rest)) now) (sym may.pass) k.shows) (λ b. ap (λ d. down_after b d (told.Buffer rest)) is)

  pub made_serve : (now : LineRun) → d ≡ host_call.Serve → Served s f now → Made s f i c told.Nothing now
  made_serve now is k = made_as _ k.last now told.Nothing (served k.middle k.last (may.does ∙ is) k.gave k.idle) refl refl k.shows (λ b. ap (λ d. down_after b d told.Nothing) is)

  -- the hub's flag on each URB says whether the host is down
  pub flags_are : (u : ℕ) (b : Bool) → u < urb_count s → run.down ≡ b → (state_of f.history u).flags.down ≡ b
  flags_are u b l is = state_down s f.history u b may.shows.stands.legal (can.flags u l ∙ (sym may.shows.host ∙ is))

-- the hub's calls
module _ (s : Scene) (f : Progress) (i : ℕ) (c : Call) (run : LineRun) where
  module _ (may : MayMake s f i c run HUB host_call.Down) where
    pub was_down : run.down ≡ true → Made s f i c (told.Code (Fault ESHUTDOWN)) run
    was_down is =
        let down : f.down ≡ true = sym may.shows.host ∙ is in
        made_now s f i c run HUB host_call.Down may (told.Code (Fault ESHUTDOWN)) run.plain run.down (ap (λ b. cond b (Some (told.Code (Fault ESHUTDOWN))) None) down) tt
        (subst (Stands run.plain (machine_of s)) (sym (append-nil f.history)) may.shows.stands) may.shows.host

    pub made_down : (n : ℕ) (now : LineRun) → run.down ≡ false → n ≡ urb_count s → Claimed s (shutting s HUB f) n now → Made s f i c told.Done (record now { down = true })
    made_down n now is all k =
        let up : f.down ≡ false = sym may.shows.host ∙ is in
        let p : ℕ = pass_of s i in
        let claims : ClaimsEach s p (shutting s p f) (urbs_of s) k.rests k.far
        = subst (λ q. ClaimsEach s q (shutting s q f) (urbs_of s) k.rests k.far) (sym may.pass) (subst (λ n. ClaimsEach s HUB (shutting s HUB f) (below n) k.rests k.far) all k.claims) in
        let did : CallRecord = call_record f i c told.Done (shut_marks s p f) k.rests in
        record {
          did = did;
          far = k.far;
          makes = shut_down k.rests k.far may.does up claims;
          told = refl;
          shows = shows_called s k.far now k.is.shows did true (ap (λ d. down_after k.far.down d told.Done) (sym may.does));
        }

  module _ (may : MayMake s f i c run HUB host_call.Up) where
    abbrev ups : Bool → List Entry
    ups b = host_call_entries s HUB c host_call.Up told.Done [] [] b

    pub was_up : run.down ≡ false → Made s f i c told.Done run
    was_up is =
        let up : f.down ≡ false = sym may.shows.host ∙ is in
        made_now s f i c run HUB host_call.Up may told.Done run.plain run.down refl (subst (λ b. AreStill (ups b)) (sym up) tt)
        (subst (λ b. Stands run.plain (machine_of s) (f.history ++ ups b)) (sym up) (subst (Stands run.plain (machine_of s)) (sym (append-nil f.history)) may.shows.stands)) is

    pub made_up : (n : ℕ) (after : Plain) → run.down ≡ true → n ≡ urb_count s
        → Stands after (machine_of s) (f.history ++ map (λ u. plain_entry HUB (Unflag record { 0 = u } flag.Down)) (below n)) → Made s f i c told.Done (record run { plain = after; down = false })
    made_up n after is all stands =
        let down : f.down ≡ true = sym may.shows.host ∙ is in
        made_now s f i c run HUB host_call.Up may told.Done after false refl (subst (λ b. AreStill (ups b)) (sym down) (unflags_still HUB flag.Down (urbs_of s)))
        (subst (λ b. Stands after (machine_of s) (f.history ++ ups b)) (sym down)
        (subst (λ n. Stands after (machine_of s) (f.history ++ map (λ u. plain_entry HUB (Unflag record { 0 = u } flag.Down)) (below n))) all stands)) refl

-- a call that may be made, by what it does
pub may_make : (s : Scene) (f : Progress) (i : ℕ) (c : Call) (run : LineRun) (p : ℕ) (d : HostCall) → MayBeMade s f i c run → d ≡ host_call_of s c → p ≡ pass_of s i → MayMake s f i c run p d
may_make s f i c run p d may is pass = record { good = may.good; next = may.next; shows = may.shows; does = sym is; pass = sym pass }

pub may_hub : (s : Scene) (f : Progress) (i : ℕ) (c : Call) (run : LineRun) (d : HostCall) → MayBeMade s f i c run → d ≡ host_call_of s c → is_hubs d ≡ true → MayMake s f i c run HUB d
may_hub s f i c run d may is hubs =
    let own : MayMake s f i c run (pass_of s i) d = may_make s f i c run (pass_of s i) d may is refl in
    record { good = may.good; next = may.next; shows = may.shows; does = sym is; pass = is_hub s f i c run (pass_of s i) d own hubs }
