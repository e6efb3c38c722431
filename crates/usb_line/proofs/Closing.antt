-- The close: main kills each URB and then sees each quiet, and nothing is left.
use Rattle.std.proofs.Common.{ℕ, zero, suc, ◌≡◌, ◌+◌, ◌<◌, Bool, true, false, cond, eqb, Option, Some, None, List, [], ◌∷◌, ◌++◌, length, refl, sym, ap, ◌∙◌, subst, arith, append_assoc, append-nil, length-append, ne_eqb, true≢false}
use Rattle.std.specs.List.{flat_map, zip}
use Rattle.std.proofs.lemmas.List.{length-map}
use mathlib.Core.Logic.{dite}
use native.Mathlib.Decide.{ℕ_discrete}
use Rattle.usb_types.specs.declared.errno.Code.{Code}
use Rattle.usb_types.specs.declared.errno.Code.TheVariants.{Fault}
use Rattle.usb_types.specs.declared.urb.Why.TheVariants.{Kill}
use Rattle.usb_types.specs.Codes.{errno_of}
use Rattle.usb_machine.specs.declared.event.Event.{Event}
use Rattle.usb_machine.specs.declared.event.Event.TheVariants.{Submit, Link, Take, Mark, Finish, Give, Rest, End, Reject, Withdraw, Quiet, Claim, Flag, Unflag}
use Rattle.usb_machine.specs.declared.event.Answer.{Answer}
use Rattle.usb_machine.specs.declared.state.UrbState.{UrbState}
use Rattle.usb_machine.specs.declared.entry.Entry.{Entry}
use Rattle.usb_machine.specs.State.{after, unlinks, unlinking}
use Rattle.usb_machine.specs.History.{state_of, is_of, pending_of}
use Rattle.usb_machine.specs.Legal.{times}
use Rattle.usb_machine.specs.Calls.{plain_entry, mark_entry, claim_entries, unblock_entries, kill_entries}
use Rattle.usb_machine.specs.HostCalls.{rested_of, number_of}
use Rattle.usb_machine.proofs.Steps.{state_of-snoc}
use Rattle.usb_machine.proofs.Rooms.{pending_is_queued}
use Rattle.usb_machine.specs.declared.transfer.Transfer.{Transfer}
use Rattle.usb_xfer.specs.Replies.{Reply}
use Rattle.usb_scene.specs.declared.scene.Scene.{Scene}
use Rattle.usb_scene.specs.WellFormed.{IsWellFormed}
use Rattle.usb_prepare.specs.Below.{below}
use Rattle.usb_prepare.specs.Ends.{ends_of}
use Rattle.usb_prepare.specs.Layout.{home}
use Rattle.usb_trace.specs.Plan.{machine_of, main_pass, DriverQuestion}
use Rattle.usb_trace.specs.Claims.{claimed_by, numbers_of}
use Rattle.usb_trace.specs.Run.{Giveback, kills_of, seen_quiet}
use Rattle.usb_line.specs.Line.{Progress, adds, with_takes, round_of, given_back, replies_had, had_after, killing, Gives, unlinked, ended, woken, StaysLoud, begins, goes_on, WaitsFor, already, turns, Closes, none, one}
use Rattle.usb_trace.proofs.Entries.{AreOf, AllFollow}
use Rattle.usb_line.proofs.MayFollow.{once, reject_follows, quiet_follows}
use Rattle.usb_line.proofs.Takes.{below_state}
use Rattle.usb_line.proofs.Givebacks.{IsApart, posed, giveback_other}
use Rattle.usb_line.proofs.Before.{posed_before}
use Rattle.usb_trace.proofs.Stills.{IsStill, AreStill}
use Rattle.usb_line.proofs.Calm.{IsCalm, calm_entry}
use Rattle.usb_line.proofs.Marked.{times-append, first_at_home, marked_at_home}
use Rattle.usb_line.proofs.Serving.{stills_bare, Serves, takes_serve}
use Rattle.usb_line.proofs.Turns.{passed, gives_serve}
use Rattle.usb_line.proofs.Waits.{woken_serves, wait_quiet}
use Rattle.usb_line.proofs.Passes.{main_not_server, main_is_pass}
use Rattle.usb_line.proofs.Makings.{IsMadeBy, begun, waited, made_none, made_entries, made_on, kill_made}
use Rattle.usb_line.proofs.Claiming.{numbers-push, zip-push, kill_claims}
use Rattle.usb_line.proofs.Downs.{in_below, all_below}

same_queue : (b : Bool) (s now : UrbState) → now.queued ≡ s.queued → (cond b now s).queued ≡ s.queued
same_queue true s now e = e
same_queue false s now e = refl

-- an entry that moves no URB queues none
queue_after : (e : Event) (a : Answer) (t : UrbState) → IsStill e → (after e a t).queued ≡ t.queued
queue_after (Submit u n) a t is = absurd is
queue_after (Link u) a t is = absurd is
queue_after (Take d) a t is = absurd is
queue_after (Finish u c) a t is = absurd is
queue_after (Give u) a t is = absurd is
queue_after (Rest u n) a t is = absurd is
queue_after (End u) a t is = absurd is
queue_after (Mark u w) a t is = same_queue (unlinks a) t _ refl
queue_after (Reject u) a t is = refl
queue_after (Withdraw u) a t is = refl
queue_after (Quiet u) a t is = refl
queue_after (Claim u) a t is = refl
queue_after (Flag u f) a t is = refl
queue_after (Unflag u f) a t is = refl

pub still_queued : (h xs : List Entry) (v : ℕ) → AreStill xs → (state_of (h ++ xs) v).queued ≡ (state_of h v).queued
still_queued h [] v is = ap (λ l. (state_of l v).queued) (append-nil h)
still_queued h (x ∷ xs) v is = ap (λ l. (state_of l v).queued) (sym (append_assoc h (x ∷ []) xs))
    ∙ (still_queued (h ++ x ∷ []) xs v is.1 ∙ (ap (λ (t : UrbState). t.queued) (state_of-snoc h x v) ∙ same_queue (is_of v x.event) (state_of h v) _ (queue_after x.event x.answer (state_of h v) is.0)))

-- the URBs below n, none of which is queued, stay so in turns: none is given back but one that is queued, and a question is
-- asked with an URB of a higher number
module _ (s : Scene) (good : IsWellFormed s) (n : ℕ) where
  abbrev AreOut : Progress → Type 0
  AreOut f = (v : ℕ) → v < n → (state_of f.history v).queued ≡ false

  back_out : (f : Progress) (u : ℕ) (status : Code) (finished : Bool) (t : Transfer) (replies : List Reply) → (state_of f.history u).queued ≡ true → AreOut f → AreOut (given_back s f (round_of s f u status finished t replies))
  back_out f u status finished t replies queued out v near = ap (λ (t : UrbState). t.queued) (giveback_other s f.history r v (λ is. not_low (subst (λ w. w < n) is near)) apart) ∙ out v near
    where
      r : Giveback
      r = round_of s f u status finished t replies

      not_low : u < n → ⊥
      not_low low = true≢false (sym queued ∙ out u low)

      apart : IsApart v (posed s r)
      apart = go (posed s r) refl
        where
          go : (o : Option DriverQuestion) → posed s r ≡ o → IsApart v o
          go None e = tt
          go (Some a) e = λ same. let before = posed_before s good f u status finished t replies a e in not_low (omega arith)

  takes_out : (f : Progress) → AreOut f → AreOut (with_takes s f)
  takes_out f out v near = ap (λ (t : UrbState). t.queued) (below_state s f.history (ends_of s) v) ∙ out v near

  gives_out : (f k : Progress) → Gives s f k → Serves s f → AreOut f → AreOut k
  gives_out f _ (unlinked u why t is) old out = let serves = takes_serve s f old in
      back_out (with_takes s f) u (Fault (errno_of why)) false t (replies_had s (with_takes s f) u)
      (pending_is_queued (machine_of s) (with_takes s f).history u serves.legal (marked_at_home s (with_takes s f).history u is.others serves.legal is.first)) (takes_out f out)
  gives_out f _ (ended e m u t n code unmarked passes near awake at goes) old out =
      let serves = takes_serve s f old in let same = passed s (with_takes s f) m e passes in
      let first : pending_of (machine_of s) (with_takes s f).history e ≡ u ∷ at.others = ap (λ h. pending_of (machine_of s) h e) (sym same.history) ∙ at.first in
      let here = first_at_home (machine_of s) (with_takes s f).history e u at.others serves.legal first in
      let queued = pending_is_queued (machine_of s) (with_takes s f).history u serves.legal (once u (pending_of (machine_of s) (with_takes s f).history (home s u)) at.others (ap (pending_of (machine_of s) (with_takes s f).history) (sym here) ∙ first)) in
      back_out m u code true t (had_after s m e t n) (ap (λ h. (state_of h u).queued) same.history ∙ queued) (λ v low. ap (λ h. (state_of h v).queued) same.history ∙ takes_out f out v low)

  loud_out : (u : ℕ) (f m : Progress) → StaysLoud s u f m → Serves s f → AreOut f → AreOut m × Serves s m
  loud_out u f _ (begins loud) old out = (out, old)
  loud_out u f _ (goes_on m k before turn loud) old out = let r = loud_out u f m before old out in (gives_out m k turn r.1 r.0, gives_serve s good m k turn r.1)

  wait_out : (u : ℕ) (f k : Progress) → WaitsFor s u f k → Serves s f → AreOut f → AreOut k
  wait_out u f _ (already quiet) old out = out
  wait_out u f _ (turns m k before turn quiet) old out = let r = loud_out u (woken f) m before (woken_serves s f old) out in gives_out m k turn r.1 r.0

-- main's kills of these URBs
pub record AreKilled (s : Scene) (f : Progress) (us : List ℕ) (m : Progress) : Type 0 where
  pub marks : List Code
  pub rests : List (Option Transfer)
  pub marks_each : length marks ≡ length us
  pub rests_each : length rests ≡ length us
  pub made : IsMadeBy s f (main_pass s) (kills_of (main_pass s) us marks (numbers_of rests)) m
  pub claims : claimed_by (main_pass s) m.history ≡ claimed_by (main_pass s) f.history ++ zip us rests
  pub out : (v : ℕ) → 0 < times v us → (state_of m.history v).queued ≡ false

kills-push : (p : ℕ) (us : List ℕ) (marks : List Code) (rests : List (Option ℕ)) (u : ℕ) (a : Code) (rest : Option ℕ) → length marks ≡ length us → length rests ≡ length us
    → kills_of p (us ++ u ∷ []) (marks ++ a ∷ []) (rests ++ rest ∷ []) ≡ kills_of p us marks rests ++ kill_entries p u a rest
kills-push p [] [] [] u a rest e d = refl
kills-push p [] (b ∷ marks) rests u a rest e d = absurd (omega arith)
kills-push p [] [] (r ∷ rests) u a rest e d = absurd (omega arith)
kills-push p (v ∷ us) [] rests u a rest e d = absurd (omega arith)
kills-push p (v ∷ us) (b ∷ marks) [] u a rest e d = absurd (omega arith)
kills-push p (v ∷ us) (b ∷ marks) (r ∷ rests) u a rest e d = ap (λ l. kill_entries p v b r ++ l) (kills-push p us marks rests u a rest (omega arith) (omega arith))
    ∙ sym (append_assoc (kill_entries p v b r) (kills_of p us marks rests) (kill_entries p u a rest))

-- lists that end with one more each are the same only where both parts are
same_last : (us vs : List ℕ) (u v : ℕ) → us ++ u ∷ [] ≡ vs ++ v ∷ [] → (us ≡ vs) × (u ≡ v)
same_last [] [] u v is = (refl, cc)
same_last [] (x ∷ vs) u v is = let a = ap (λ l. length l) is in let b = length-append vs (v ∷ []) in absurd (omega arith)
same_last (x ∷ us) [] u v is = let a = ap (λ l. length l) is in let b = length-append us (u ∷ []) in absurd (omega arith)
same_last (x ∷ us) (y ∷ vs) u v is =
    let head : x ≡ y = cc in
    let rest = same_last us vs u v (cc) in
    (ap (λ z. z ∷ us) head ∙ ap (λ l. y ∷ l) rest.0, rest.1)

-- where a list that ends with u is that of the numbers below n, u is the last of them
last_below : (us : List ℕ) (u n : ℕ) → us ++ u ∷ [] ≡ below n → (n ≡ suc u) × (us ≡ below u)
last_below us u zero is = let a = ap (λ l. length l) is in let b = length-append us (u ∷ []) in absurd (omega arith)
last_below us u (suc n) is = let same = same_last us (below n) u n is in (ap (λ k. suc k) (sym same.1), same.0 ∙ ap below (sym same.1))

module _ (s : Scene) (good : IsWellFormed s) where
  abbrev main : ℕ
  main = main_pass s

  pub closes_kill : (f : Progress) (n : ℕ) (us : List ℕ) (m : Progress) → us ≡ below n → Closes s f us m → Serves s f → AreKilled s f us m
  closes_kill f n _ _ all none old = record { marks = []; rests = []; marks_each = refl; rests_each = refl; made = made_none s f main old; claims = sym (append-nil (claimed_by main f.history)); out = λ v l. absurd (omega arith) }
  closes_kill f n _ _ all (one us u m k before waits) old =
      let low = (last_below us u n all).1 in
      let r = closes_kill f u us m low before old in
      let mark : Code = unlinking (state_of m.history u) in let rest : Option ℕ = (state_of k.history u).rest in
      let found : Option Transfer = rested_of k.history u in
      let last : List Entry = claim_entries main u rest ++ unblock_entries main u in
      let kill = kill_made s main u (main_is_pass s) good (main_not_server s) m k r.made.serves waits in
      let quiet = wait_quiet s u (killing main u m) k waits in
      let begins = begun s main u (main_is_pass s) good (main_not_server s) m k r.made.serves waits in
      let lower : (v : ℕ) → v < u → (state_of k.history v).queued ≡ false
      = wait_out s good u u (killing main u m) k waits begins.serves
      (λ v near. still_queued m.history (plain_entry main (Reject record { 0 = u }) ∷ mark_entry main Kill u mark ∷ []) v (tt, (tt, tt)) ∙ r.out v (subst (λ l. 0 < times v l) (sym low) (all_below u v near))) in
      record {
        marks = r.marks ++ mark ∷ [];
        rests = r.rests ++ found ∷ [];
        marks_each = (let a = length-append r.marks (mark ∷ []) in let b = length-append us (u ∷ []) in let c = r.marks_each in omega arith);
        rests_each = (let a = length-append r.rests (found ∷ []) in let b = length-append us (u ∷ []) in let c = r.rests_each in omega arith);
        made = subst (λ xs. IsMadeBy s f main xs (adds k last)) (sym (
            ap (kills_of main (us ++ u ∷ []) (r.marks ++ mark ∷ [])) (numbers-push (machine_of s) r.rests k.history u (waited s main u (main_is_pass s) good (main_not_server s) m k r.made.serves waits).serves.legal)
            ∙ kills-push main us r.marks (numbers_of r.rests) u mark rest r.marks_each (length-map r.rests number_of ∙ r.rests_each)))
            (made_on s f m (adds k last) main (kills_of main us r.marks (numbers_of r.rests)) (kill_entries main u mark rest) r.made kill);
        claims =
            kill_claims s main u (main_is_pass s) good (main_not_server s) m k r.made.serves waits
            ∙ (ap (λ l. l ++ (u, found) ∷ []) r.claims
            ∙ (append_assoc (claimed_by main f.history) (zip us r.rests) ((u, found) ∷ []) ∙ ap (λ l. claimed_by main f.history ++ l) (sym (zip-push us r.rests u found r.rests_each))));
        out = λ v l. still_queued k.history last v (tt, (tt, (tt, tt))) ∙ dite (ℕ_discrete u v)
            (λ is. ap (λ (w : ℕ). (state_of k.history w).queued) (sym is) ∙ quiet.0)
            (λ off. lower v (in_below u v (let a = times-append v us (u ∷ []) in let none : cond {A = ℕ} (eqb u v) 1 0 ≡ 0 = ap (λ b. cond {A = ℕ} b 1 0) (ne_eqb u v off) in subst (λ l. 0 < times v l) low (omega arith))));
      }

-- main rejects each of these URBs and sees it quiet
seen_follow : (s : Scene) (p : ℕ) → p < 2 + (length s.threads + 3) → (us : List ℕ) (h : List Entry) → ((v : ℕ) → 0 < times v us → (state_of h v).queued ≡ false) → IsCalm h → AllFollow (machine_of s) h (flat_map (seen_quiet p) us)
seen_follow s p there [] h out calm = tt
seen_follow s p there (u ∷ us) h out calm =
    let reject : Entry = plain_entry p (Reject record { 0 = u }) in let quiet : Entry = plain_entry p (Quiet record { 0 = u }) in
    let here : 0 < times u (u ∷ us) = once u (u ∷ us) us refl in
    let first = calm_entry h reject tt calm in (
      reject_follows s h p u there,
      (
        quiet_follows s (h ++ reject ∷ []) p u there (still_queued h (reject ∷ []) u (tt, tt) ∙ out u here) (first u).handlers,
        seen_follow s p there us ((h ++ reject ∷ []) ++ quiet ∷ [])
            (λ v l. still_queued (h ++ reject ∷ []) (quiet ∷ []) v (tt, tt) ∙ (still_queued h (reject ∷ []) v (tt, tt) ∙ out v (omega arith)))
            (calm_entry (h ++ reject ∷ []) quiet tt first),
      ),
    )

pub seen_still : (p : ℕ) (us : List ℕ) → AreStill (flat_map (seen_quiet p) us)
seen_still p [] = tt
seen_still p (u ∷ us) = (tt, (tt, seen_still p us))

pub seen_pass : (p : ℕ) (us : List ℕ) → AreOf p (flat_map (seen_quiet p) us)
seen_pass p [] = tt
seen_pass p (u ∷ us) = (refl, (refl, seen_pass p us))

module _ (s : Scene) (f : Progress) (us : List ℕ) (m : Progress) (killed : AreKilled s f us m) where
  -- the whole close
  pub closed : IsMadeBy s f (main_pass s) (kills_of (main_pass s) us killed.marks (numbers_of killed.rests) ++ flat_map (seen_quiet (main_pass s)) us) (adds m (flat_map (seen_quiet (main_pass s)) us))
  closed = made_on s f m (adds m (flat_map (seen_quiet (main_pass s)) us)) (main_pass s) (kills_of (main_pass s) us killed.marks (numbers_of killed.rests)) (flat_map (seen_quiet (main_pass s)) us) killed.made
      (made_entries s m (main_pass s) (flat_map (seen_quiet (main_pass s)) us) (main_not_server s) (seen_pass (main_pass s) us)
      (seen_follow s (main_pass s) (main_is_pass s) us m.history killed.out killed.made.serves.calm) (stills_bare s (flat_map (seen_quiet (main_pass s)) us) (seen_still (main_pass s) us)) killed.made.serves)
