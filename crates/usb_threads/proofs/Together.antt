-- Promises of one closed history make a run.
use Rattle.std.proofs.Common.{ℕ, zero, suc, ◌≡◌, ◌≢◌, ◌<◌, ◌⊎◌, inl, inr, ⊎_elim, Bool, true, false, Some, List, [], ◌++◌, length, map, refl, sym, ap, ◌∙◌, subst, arith, append_assoc, append-nil}
use Rattle.std.specs.Prelude.{slice_get, All}
use Rattle.std.specs.List.{flat_map}
use Rattle.std.proofs.lemmas.List.{append_cancel_left}
use Rattle.std.proofs.lemmas.Option.{slice_get_within}
use mathlib.Core.Logic.{dite}
use native.Mathlib.Decide.{ℕ_discrete}
use Rattle.usb_machine.specs.declared.entry.TheConstants.{SERVER}
use Rattle.usb_machine.specs.declared.entry.Entry.{Entry}
use Rattle.usb_machine.specs.History.{Machine, state_of, line_of, pending_of, episodes_of}
use Rattle.usb_machine.specs.Parts.{part_of, keeps}
use Rattle.usb_machine.specs.Legal.{IsLegal}
use Rattle.usb_machine.specs.Laws.{bit}
use Rattle.usb_machine.specs.Fresh.{Known, Begins}
use Rattle.usb_machine.proofs.Growing.{begins_trans}
use Rattle.usb_machine.proofs.Kept.{is_kept}
use Rattle.usb_machine.proofs.Places.{placed}
use Rattle.usb_machine.proofs.Rooms.{queued_has_home, home_below, in_line_once}
use Rattle.usb_scene.specs.declared.scene.Scene.{Scene}
use Rattle.usb_scene.specs.declared.scene.SceneThread.{SceneThread}
use Rattle.usb_scene.specs.WellFormed.{IsCall, IsWellFormed}
use Rattle.usb_prepare.specs.Layout.{urb_count}
use Rattle.usb_trace.specs.Plan.{machine_of, pass_of, main_pass}
use Rattle.usb_trace.specs.Claims.{claimed_by, numbers_of}
use Rattle.usb_trace.specs.Run.{CallRecord, Giveback, urbs_of, firsts_of, call_entries, claims_in, giveback_entries, episode_of, done_by, opening, closing, kills_of, seen_quiet, IsMade, AreFound, IsOver, IsFramed, IsRun}
use Rattle.usb_trace.proofs.Episodes.{HaveNoGive, no_episode, no_first_given}
use Rattle.usb_line.proofs.Passes.{main_is_pass, is_thread}
use Rattle.usb_line.proofs.Lines.{in_pending_once, no_urbs}
use Rattle.usb_line.proofs.Parts.{of_controller, of_handlers}
use Rattle.usb_threads.specs.Passes.{IsReady}
use Rattle.usb_threads.specs.MainPass.{IsMain, HasClosed}
use Rattle.usb_threads.specs.Scripts.{IsJoined}
use Rattle.usb_threads.specs.Apt.{AreApt}
use Rattle.usb_threads.specs.Serving.{of_givebacks, HasServed}
use Rattle.usb_threads.specs.Promises.{IsPutTogether, all_made}
use Rattle.usb_threads.proofs.Lists.{part_longer, nothing_before, nothing_after, part_between, claimed_then, only_part}
use Rattle.usb_threads.proofs.Closed.{closed_begins, closed_own, closed_none}
use Rattle.usb_threads.proofs.Accepting.{reads_accepted}
use Rattle.usb_threads.proofs.Quiet.{kept_all}
use Rattle.usb_threads.proofs.Gives.{none_given, servers_after, gives_in}
use Rattle.usb_threads.proofs.Sending.{SendEach, SendEach-append, EndEach, apt_before, episodes_apt}
use Rattle.usb_threads.proofs.Senders.{reads_send, closing_sends, calls_send}
use Rattle.usb_threads.proofs.AllSent.{all_apt}
use Rattle.usb_threads.proofs.Fitting.{EndSent, ends_sent, fits_apt}
use Rattle.usb_threads.proofs.Firsts.{AreFirst}
use Rattle.usb_threads.proofs.Threads.{AreBy, all_of, all_told}

module _ (s : Scene) (h : List Entry) (made : ℕ → List CallRecord) (rounds : List Giveback) (good : IsWellFormed s) (all : IsPutTogether s h made rounds) where
  abbrev g : Machine
  g = machine_of s

  abbrev p : ℕ
  p = main_pass s

  abbrev read : Known
  read = all.read

  abbrev met : Known
  met = all.met

  abbrev last : Known
  last = all.last

  abbrev main : IsMain s read met last
  main = all.main

  abbrev urbs : List ℕ
  urbs = urbs_of s

  legal : IsLegal g h
  legal = all.closed.legal

  -- one after another main's pass has seen more
  read_met : Begins met.seen read.seen
  read_met = main.meets.grown.begins

  met_end : Begins h met.seen
  met_end = begins_trans h last.seen met.seen (closed_begins g h all.passes all.closed last all.main_closed) main.went.grown.begins

  read_end : Begins h read.seen
  read_end = begins_trans h met.seen read.seen met_end read_met

  number_met : met.number ≡ p
  number_met = main.meets.grown.number ∙ main.number

  number_last : last.number ≡ p
  number_last = main.went.grown.number ∙ number_met

  -- a pass that was ready had made nothing in what main had seen at its reads
  ready_none : (n : ℕ) (from : Known) → IsReady s read n from → part_of read.seen n ≡ []
  ready_none n from ready = nothing_before n from.seen read.seen ready.knows (ap (part_of from.seen) (sym ready.number) ∙ (ready.sound.own ∙ ready.new))

  abbrev joined : (i : ℕ) → i < length s.threads → IsJoined s all.passes read met i (made i)
  joined = all.threads

  -- a thread's pass has made its script's entries when it ends its script
  thread_made : (i : ℕ) (l : i < length s.threads) → (joined i l).to.mine ≡ flat_map (call_entries s) (made i)
  thread_made i l = let j = joined i l in j.worked.went.grown.mine ∙ ap (λ m. m ++ flat_map (call_entries s) (made i)) j.ready.new

  -- the whole of a thread's entries stands in what main had seen before its close
  thread_part : (i : ℕ) → i < length s.threads → part_of h (pass_of s i) ≡ flat_map (call_entries s) (made i)
  thread_part i l = let j = joined i l in
      ap (part_of h) (sym (j.ends.grown.number ∙ (j.worked.went.grown.number ∙ j.ready.number)))
      ∙ (closed_own g h all.passes all.closed j.last j.closed ∙ (j.ends.grown.mine ∙ (append-nil j.to.mine ∙ thread_made i l)))

  thread_seen : (i : ℕ) (l : i < length s.threads) → part_of (joined i l).to.seen (pass_of s i) ≡ flat_map (call_entries s) (made i)
  thread_seen i l = let j = joined i l in
      ap (part_of j.to.seen) (sym (j.worked.went.grown.number ∙ j.ready.number)) ∙ (j.worked.went.sound.own ∙ thread_made i l)

  thread_met : (i : ℕ) → i < length s.threads → part_of met.seen (pass_of s i) ≡ flat_map (call_entries s) (made i)
  thread_met i l = let j = joined i l in
      part_between (pass_of s i) h met.seen j.to.seen (flat_map (call_entries s) (made i)) met_end j.told
      (thread_seen i l) (thread_part i l)

  -- passes that nobody used
  spare_none : (q : ℕ) → q ≢ SERVER → q ≢ p → ((i : ℕ) → i < length s.threads → q ≢ pass_of s i) → part_of h q ≡ []
  spare_none q server main none = closed_none g h all.passes all.closed q
      (λ k here is. all.spare k here (λ e. server (sym is ∙ e)) (λ e. main (sym is ∙ e)) (λ i l e. none i l (sym is ∙ e)))

  -- a pass is a thread's, or it is none's
  find_thread : (q n : ℕ) → ((i : ℕ) × (i < n) × (q ≡ pass_of s i)) ⊎ ((i : ℕ) → i < n → q ≢ pass_of s i)
  find_thread q zero = inr (λ i l. absurd (omega arith))
  find_thread q (suc n) = dite (ℕ_discrete q (pass_of s n))
      (λ is. inl (n, omega arith, is))
      (λ off. ⊎_elim (λ (k : (i : ℕ) × (i < n) × (q ≡ pass_of s i)). inl (k.0, (let l = k.1 in omega arith), k.2))
      (λ (none : (i : ℕ) → i < n → q ≢ pass_of s i). inr (λ i l. dite (ℕ_discrete i n) (λ same. subst (λ j. q ≢ pass_of s j) (sym same) off) (λ other. none i (omega arith))))
      (find_thread q n))

  -- when main had submitted the reads nobody else had done anything
  alone : (q : ℕ) → q ≢ p → part_of read.seen q ≡ []
  alone q off = dite (ℕ_discrete q SERVER)
      (λ is. ap (part_of read.seen) is ∙ ready_none SERVER all.server.from all.server.ready)
      (λ server. ⊎_elim
      (λ (k : (i : ℕ) × (i < length s.threads) × (q ≡ pass_of s i)). ap (part_of read.seen) k.2 ∙ (let j = joined k.0 k.1 in ready_none (pass_of s k.0) j.from j.ready))
      (λ (none : (i : ℕ) → i < length s.threads → q ≢ pass_of s i). nothing_before q h read.seen read_end (spare_none q server off none))
      (find_thread q (length s.threads)))

  -- so its reads were accepted
  read_part : part_of read.seen p ≡ read.mine
  read_part = ap (part_of read.seen) (sym main.number) ∙ main.sound.own

  opened : read.mine ≡ opening s
  opened = reads_accepted s (urb_count s) read.mine main.reads (subst (IsLegal g) (sym (only_part p read.seen alone) ∙ read_part) main.sound.legal)

  met_mine : met.mine ≡ opening s
  met_mine = main.meets.grown.mine ∙ (append-nil read.mine ∙ opened)

  met_part : part_of met.seen p ≡ opening s
  met_part = ap (part_of met.seen) (sym number_met) ∙ (main.meets.sound.own ∙ met_mine)

  main_part : part_of h p ≡ opening s ++ main.more
  main_part = ap (part_of h) (sym number_last) ∙ (closed_own g h all.passes all.closed last all.main_closed ∙ (main.went.grown.mine ∙ ap (λ m. m ++ main.more) met_mine))

  abbrev closes : HasClosed s last.seen main.more
  closes = main.closes

  -- main has claimed what it had claimed in what it has seen, and so has each thread
  main_claims : claimed_by p h ≡ claimed_by p last.seen
  main_claims = claimed_then p h last.seen last.mine (closed_begins g h all.passes all.closed last all.main_closed)
      (ap (part_of last.seen) (sym number_last) ∙ main.went.sound.own)
      (ap (part_of h) (sym number_last) ∙ closed_own g h all.passes all.closed last all.main_closed)

  thread_claims : (i : ℕ) → i < length s.threads → claimed_by (pass_of s i) h ≡ flat_map (claims_in s) (made i)
  thread_claims i l = let j = joined i l in
      claimed_then (pass_of s i) h j.to.seen (flat_map (call_entries s) (made i))
      (begins_trans h j.last.seen j.to.seen (closed_begins g h all.passes all.closed j.last j.closed) j.ends.grown.begins)
      (thread_seen i l) (thread_part i l)
      ∙ j.worked.claims

  is_framed : IsFramed s h
  is_framed = record {
    marks = closes.marks;
    rests = closes.rests;
    first = read.seen;
    middle = read_met.more;
    last = met_end.more;
    each = closes.each;
    split = met_end.is ∙ (ap (λ l. l ++ met_end.more) read_met.is ∙ append_assoc read.seen read_met.more met_end.more);
    opens = read_part ∙ opened;
    between = nothing_after p met.seen read.seen (opening s) read_met (read_part ∙ opened) met_part;
    closes = append_cancel_left (part_of met.seen p) (part_of met_end.more p) main.more
        (sym (part_longer p h met.seen met_end) ∙ (main_part ∙ ap (λ m. m ++ main.more) (sym met_part))) ∙ closes.entries;
    claims = main_claims ∙ closes.claims;
    silent = λ i l. let j = joined i l in
        (ready_none (pass_of s i) j.from j.ready, nothing_after (pass_of s i) h met.seen (flat_map (call_entries s) (made i)) met_end (thread_met i l) (thread_part i l));
  }

  -- main keeps each URB at the end, so that it is quiet
  abbrev killed : List Entry
  killed = kills_of p urbs closes.marks (numbers_of closes.rests)

  main_keeps : (u : ℕ) → u < urb_count s → keeps (part_of h p) u ≡ true
  main_keeps u l = ap (λ m. keeps m u) (main_part ∙ (ap (λ m. opening s ++ m) closes.entries ∙ sym (append_assoc (opening s) killed (flat_map (seen_quiet p) urbs))))
      ∙ kept_all p (opening s ++ killed) (urb_count s) u l

  all_out : (v : ℕ) → (state_of h v).queued ≡ false
  all_out v = go (state_of h v).queued refl
    where
      go : (b : Bool) → (state_of h v).queued ≡ b → (state_of h v).queued ≡ false
      go false is = is
      go true is =
          let near = home_below g v (queued_has_home g v h legal is) in
          let here : v < urb_count s = omega arith in
          (is_kept g p v h legal (main_is_pass s) (main_keeps v here)).queued

  is_over : IsOver s h
  is_over = record {
    urbs = λ u l. (let k = is_kept g p u h legal (main_is_pass s) (main_keeps u l) in (k.queued, k.handlers));
    ends = λ e. (
      no_urbs (line_of g h e) (λ v. (let a = in_line_once g h e v (placed g v h legal) in let z = ap bit (all_out v) in omega arith)),
      no_urbs (pending_of g h e) (λ v. (let a = in_pending_once g h e v (placed g v h legal) in let z = ap bit (all_out v) in omega arith)),
    );
  }

  -- the server's last Give stands in what its pass has seen
  abbrev to : Known
  to = all.server.to

  abbrev served : HasServed s to.seen to.mine rounds
  served = all.server.served.served

  number_server : to.number ≡ SERVER
  number_server = all.server.served.went.grown.number ∙ all.server.ready.number

  server_part : part_of h SERVER ≡ to.mine
  server_part = ap (part_of h) (sym number_server) ∙ closed_own g h all.passes all.closed to all.server.closed

  server_end : Begins h to.seen
  server_end = closed_begins g h all.passes all.closed to all.server.closed

  abbrev rest : List Entry
  rest = server_end.more

  no_give : HaveNoGive rest
  no_give = none_given rest (sym (servers_after g to.seen rest (subst (IsLegal g) server_end.is legal))
      ∙ ap gives_in (nothing_after SERVER h to.seen to.mine server_end (ap (part_of to.seen) (sym number_server) ∙ all.server.served.went.sound.own) server_part))

  -- the controller's entries, with the handlers' among them
  server_entries : of_givebacks (part_of h SERVER) ≡ of_givebacks to.mine
  server_entries = ap of_givebacks server_part

  given_back : episodes_of h ≡ map episode_of rounds
  given_back = ap episodes_of server_end.is ∙ (no_episode to.seen rest no_give ∙ served.gives)

  -- what each pass but the server's sends is apt: main's reads, and the calls of a script
  main_sends : SendEach s (part_of h p)
  main_sends = subst (SendEach s) (sym (main_part ∙ ap (λ m. opening s ++ m) closes.entries))
      (SendEach-append s (opening s) (closing s closes.marks (numbers_of closes.rests)) (reads_send s good (urb_count s)) (closing_sends s closes.marks (numbers_of closes.rests)))

  thread_sends : (i : ℕ) → i < length s.threads → SendEach s (part_of h (pass_of s i))
  thread_sends i l = let j = joined i l in
      subst (SendEach s) (sym (thread_part i l)) (calls_send s good (made i) (subst (All (IsCall s)) (sym j.worked.made.calls) (is_thread s good i j.thread j.at).calls))

  others_send : (q : ℕ) → q ≢ SERVER → SendEach s (part_of h q)
  others_send q server = dite (ℕ_discrete q p)
      (λ is. subst (λ k. SendEach s (part_of h k)) (sym is) main_sends)
      (λ off. ⊎_elim
      (λ (k : (i : ℕ) × (i < length s.threads) × (q ≡ pass_of s i)). subst (λ j. SendEach s (part_of h j)) (sym k.2) (thread_sends k.0 k.1))
      (λ (none : (i : ℕ) → i < length s.threads → q ≢ pass_of s i). subst (SendEach s) (sym (spare_none q server off none)) tt)
      (find_thread q (length s.threads)))

  -- so all that was sent is
  apt : AreApt s h
  apt = all_apt s good h legal rounds (server_entries ∙ served.entries) given_back others_send

  -- and each handler's are the run's entries
  run_entries : of_givebacks (part_of h SERVER) ≡ flat_map (giveback_entries s) rounds
  run_entries = server_entries ∙ (served.entries ∙ fits_apt s good rounds
      (subst (EndEach s) given_back (episodes_apt s h apt)) (subst (EndSent g) given_back (ends_sent g h legal)))

  -- what each thread made is there, by its thread
  whose : (i : ℕ) → i < length s.threads → AreBy i (made i)
  whose i l = (joined i l).worked.made.whose

  done : (i : ℕ) → i < length s.threads → done_by i (all_made s made) ≡ made i
  done i l = all_of made i (length s.threads) whose l

  calls_are : (i : ℕ) (thread : SceneThread) → slice_get s.threads i ≡ Some thread → map (λ (d : CallRecord). d.call) (done_by i (all_made s made)) ≡ thread.calls
  calls_are i thread at =
      let near : i < length s.threads = slice_get_within s.threads i thread at in
      let j = joined i near in
      let same : Some j.thread ≡ Some thread = sym j.at ∙ at in
      let is : j.thread ≡ thread = cc in
      ap (map (λ (d : CallRecord). d.call)) (done i near) ∙ (j.worked.made.calls ∙ ap (λ (t : SceneThread). t.calls) is)

  pub together_is_run : IsRun s h (all_made s made) rounds
  together_is_run = record {
    legal = legal;
    over = is_over;
    told = all_told made (IsMade s) (length s.threads) (λ i l. (joined i l).worked.made.told);
    downs = λ i l. subst (AreFound s false) (sym (done i l)) (joined i l).worked.made.downs;
    calls = calls_are;
    threads = λ i l. thread_part i l ∙ ap (flat_map (call_entries s)) (sym (done i l));
    claims = λ i l. thread_claims i l ∙ ap (flat_map (claims_in s)) (sym (done i l));
    framed = is_framed;
    server = of_controller s (part_of h SERVER) rounds run_entries;
    handlers = of_handlers s (part_of h SERVER) rounds run_entries;
    together = λ same. run_entries;
    others = λ q off main none. spare_none q off main none;
    gives = given_back;
    firsts = subst (AreFirst rounds) (sym (ap (firsts_of g) server_end.is ∙ no_first_given g to.seen rest no_give)) served.firsts;
    replies = served.replies (apt_before s h to.seen server_end apt);
    moves = served.moves;
    handled = served.handled;
  }
