-- The run in line order is put together of such promises.
use Rattle.std.proofs.Common.{ℕ, zero, suc, ◌≡◌, ◌≢◌, ◌<◌, ◌≤◌, Bool, true, false, cond, eqb, Option, Some, None, List, [], ◌∷◌, ◌++◌, length, refl, sym, ap, ◌∙◌, subst, arith, append_assoc, append-nil}
use Rattle.std.specs.Prelude.{All, Any, Contains}
use Rattle.std.specs.List.{flat_map}
use Rattle.std.proofs.lemmas.List.Elements.{All-nil, All-cons, All-push, All-contains}
use mathlib.Core.Logic.{dite}
use native.Mathlib.Decide.{ℕ_discrete}
use Rattle.usb_types.specs.declared.errno.Code.TheVariants.{Zero}
use Rattle.usb_machine.specs.declared.entry.TheConstants.{SERVER}
use Rattle.usb_machine.specs.declared.transfer.Transfer.{Transfer}
use Rattle.usb_machine.specs.declared.entry.Entry.{Entry}
use Rattle.usb_machine.specs.History.{Machine}
use Rattle.usb_machine.specs.Parts.{part_of}
use Rattle.usb_machine.specs.Legal.{IsLegal, empty, longer}
use Rattle.usb_machine.specs.Fresh.{Known, Begins}
use Rattle.usb_machine.specs.Tokens.{IsClosed}
use Rattle.usb_machine.proofs.Growing.{begins_self, begins_trans}
use Rattle.usb_machine.proofs.Prefixes.{legal_beginning}
use Rattle.usb_scene.specs.declared.scene.Scene.{Scene}
use Rattle.usb_scene.specs.WellFormed.{IsWellFormed}
use Rattle.usb_prepare.specs.Layout.{urb_count}
use Rattle.usb_trace.specs.Plan.{machine_of, read_of, pass_of, main_pass}
use Rattle.usb_trace.specs.Claims.{numbers_of}
use Rattle.usb_trace.specs.Run.{urbs_of, call_entries, done_by, opening, closing, seen_quiet, read_entries_by, IsMade, IsFramed, IsRun}
use Rattle.usb_trace.proofs.Entries.{part_own, part_other}
use Rattle.usb_line.specs.Line.{Progress, begun, IsLineRun}
use Rattle.usb_line.proofs.Passes.{is_pass, not_main, main_not_server, main_is_pass, thread_at}
use Rattle.usb_line.proofs.ReadsFollow.{reads, reads-push, reads_pass}
use Rattle.usb_line.proofs.Longer.{IsLonger, line_longer, closes_longer}
use Rattle.usb_line.proofs.Lines.{line_is_run}
use Rattle.usb_threads.specs.Passes.{IsReady}
use Rattle.usb_threads.specs.MainPass.{read_answered, HasRead, none, one, IsMain}
use Rattle.usb_threads.specs.Scripts.{IsJoined}
use Rattle.usb_threads.specs.Serving.{of_givebacks, served_entries, IsServer}
use Rattle.usb_threads.specs.Promises.{IsPutTogether}
use Rattle.usb_threads.proofs.Lists.{begins_prefix, part-append, part_longer, claimed_then}
use Rattle.usb_threads.proofs.Threads.{done_are, done_told}
use Rattle.usb_threads.proofs.Fitting.{EndSent, ends_sent, CarryEach, givebacks_carry, fits_legal}

-- of two beginnings of a list the shorter begins the longer
shorter : (h b a : List Entry) → Begins h a → Begins h b → length a ≤ length b → Begins b a
shorter h b [] p q l = record { more = b; is = refl }
shorter h [] (x ∷ a) p q l = absurd (omega arith)
shorter [] (y ∷ b) (x ∷ a) p q l = absurd (cc (p.is))
shorter (z ∷ h) (y ∷ b) (x ∷ a) p q l =
    let first : z ≡ x = cc (p.is) in let other : z ≡ y = cc (q.is) in
    let rest = shorter h b a (record { more = p.more; is = cc (p.is) }) (record { more = q.more; is = cc (q.is) }) (omega arith) in
    record { more = rest.more; is = λ i. (sym other ∙ first) i ∷ rest.is i }

part_short : (q : ℕ) (xs : List Entry) → length (part_of xs q) ≤ length xs
part_short q [] = omega arith
part_short q (x ∷ xs) = go (eqb x.pass q) (part_short q xs)
  where
    go : (b : Bool) → length (part_of xs q) ≤ length xs → length (cond b (x ∷ part_of xs q) (part_of xs q)) ≤ length (x ∷ xs)
    go true l = omega arith
    go false l = omega arith

same_read : (s : Scene) (n : ℕ) (o : Option Transfer) → read_answered s n o Zero ≡ read_entries_by s n o
same_read s n None = refl
same_read s n (Some t) = refl

are_reads : (s : Scene) (n : ℕ) → HasRead s n (reads s n)
are_reads s zero = none
are_reads s (suc n) = subst (HasRead s (suc n)) (ap (λ l. reads s n ++ l) (same_read s n (read_of s n)) ∙ sym (reads-push s n)) (one n (reads s n) Zero (are_reads s n))

-- the passes of a closed history that have seen it all
module _ (g : Machine) (h : List Entry) (legal : IsLegal g h) where
  abbrev pub whole : ℕ → Known
  whole k = record { number = k; seen = h; mine = part_of h k }

  abbrev pub wholes : ℕ → List Known
  wholes zero = []
  wholes (suc n) = whole n ∷ wholes n

  pub in_wholes : (n k : ℕ) → k < n → Contains (wholes n) (whole k)
  in_wholes zero k l = absurd (omega arith)
  in_wholes (suc n) k l = dite (ℕ_discrete k n)
      (λ is. subst (λ j. Contains (wholes (suc n)) (whole j)) (sym is) (0, omega arith, refl))
      (λ off. let i = in_wholes n k (omega arith) in (suc i.0, (let m = i.1 in omega arith), i.2))

  each_whole : (P : Known → Type 0) → ((k : ℕ) → P (whole k)) → (n : ℕ) → All P (wholes n)
  each_whole P each zero = All-nil P
  each_whole P each (suc n) = All-cons P (whole n) (wholes n) (each n) (each_whole P each n)

  abbrev IsIn : Entry → Type 0
  IsIn x = Any (λ (p : Known). p.number ≡ x.pass) (wholes g.passes)

  is_in : (x : Entry) → x.pass < g.passes → IsIn x
  is_in x l = let i = in_wholes g.passes x.pass l in (i.0, whole x.pass, i.1, i.2, refl)

  all_in : (k : List Entry) → IsLegal g k → All IsIn k
  all_in _ empty = All-nil IsIn
  all_in _ (longer k x old f) = All-push IsIn k x (all_in k old) (is_in x f.pass)

  pub whole_closed : IsClosed g h (wholes g.passes)
  whole_closed = record {
    legal = legal;
    begins = each_whole (λ (p : Known). Begins h p.seen) (λ k. begins_self h) g.passes;
    own = each_whole (λ (p : Known). part_of h p.number ≡ p.mine) (λ k. refl) g.passes;
    made = all_in h legal;
  }

  pub whole_mine : (p : Known) → Contains (wholes g.passes) p → p.mine ≡ part_of h p.number
  whole_mine p here = All-contains (λ (p : Known). p.mine ≡ part_of h p.number) (wholes g.passes) p (each_whole (λ (p : Known). p.mine ≡ part_of h p.number) (λ k. refl) g.passes) here

module _ (s : Scene) (good : IsWellFormed s) (f : Progress) (line : IsLineRun s f) where
  abbrev g : Machine
  g = machine_of s

  abbrev p : ℕ
  p = main_pass s

  abbrev h : List Entry
  h = f.history

  abbrev run : IsRun s h f.call_records f.rounds
  run = line_is_run s good f line

  abbrev framed : IsFramed s h
  framed = run.framed

  abbrev passes : List Known
  passes = wholes g h run.legal g.passes

  -- what stands before the close
  abbrev before : List Entry
  before = framed.first ++ framed.middle

  abbrev before_end : Begins h before
  before_end = record { more = framed.last; is = framed.split ∙ sym (append_assoc framed.first framed.middle framed.last) }

  before_main : part_of before p ≡ opening s
  before_main = part-append p framed.first framed.middle ∙ ((λ i. framed.opens i ++ framed.between i) ∙ append-nil (opening s))

  begins_longer : (a b : Progress) → IsLonger a b → Begins b.history a.history
  begins_longer a b l = record { more = l.0; is = l.1 }

  -- main's reads come first of all
  opening_end : Begins h (opening s)
  opening_end = let xs = flat_map (seen_quiet p) (urbs_of s) in
      begins_trans h line.killed.history (opening s)
      (record { more = xs; is = ap (λ (k : Progress). k.history) line.seen })
      (begins_trans line.killed.history line.called.history (opening s)
      (begins_longer line.called line.killed (closes_longer s line.called (urbs_of s) line.killed line.closes))
      (begins_longer (begun s) line.called (line_longer s line.called line.in_line)))

  abbrev opening_before : Begins before (opening s)
  opening_before = shorter h before (opening s) opening_end before_end (let l = part_short p before in let e = ap (λ (k : List Entry). length k) before_main in omega arith)

  legal_before : IsLegal g before
  legal_before = legal_beginning g before h run.legal (begins_prefix h before before_end)

  legal_opening : IsLegal g (opening s)
  legal_opening = legal_beginning g (opening s) h run.legal (begins_prefix h (opening s) opening_end)

  others_opening : (q : ℕ) → q ≢ p → part_of (opening s) q ≡ []
  others_opening q off = part_other p q (opening s) (λ e. off (sym e)) (reads_pass s (urb_count s))

  own_opening : part_of (opening s) p ≡ opening s
  own_opening = part_own p (opening s) (reads_pass s (urb_count s))

  abbrev close : List Entry
  close = closing s framed.marks (numbers_of framed.rests)

  main_part : part_of h p ≡ opening s ++ close
  main_part = part_longer p h before before_end ∙ (λ i. before_main i ++ framed.closes i)

  abbrev read : Known
  read = record { number = p; seen = opening s; mine = opening s }

  abbrev met : Known
  met = record { number = p; seen = before; mine = opening s }

  abbrev last : Known
  last = whole g h run.legal p

  abbrev ready : (q : ℕ) → q ≢ p → Known
  ready q off = record { number = q; seen = opening s; mine = [] }

  is_ready : (q : ℕ) (off : q ≢ p) → IsReady s read q (ready q off)
  is_ready q off = record { number = refl; new = refl; knows = begins_self (opening s); sound = record { legal = legal_opening; own = others_opening q off } }

  is_main : IsMain s read met last
  is_main = record {
    number = refl;
    sound = record { legal = legal_opening; own = own_opening };
    reads = are_reads s (urb_count s);
    meets = record { grown = record { number = refl; begins = opening_before; mine = sym (append-nil (opening s)) }; sound = record { legal = legal_before; own = before_main } };
    more = close;
    went = record { grown = record { number = refl; begins = before_end; mine = main_part }; sound = record { legal = run.legal; own = refl } };
    closes = record { marks = framed.marks; rests = framed.rests; each = framed.each; entries = refl; claims = framed.claims };
  }

  part_before : (i : ℕ) → i < length s.threads → part_of before (pass_of s i) ≡ part_of h (pass_of s i)
  part_before i l = sym (append-nil (part_of before (pass_of s i)))
      ∙ (ap (λ m. part_of before (pass_of s i) ++ m) (sym (framed.silent i l).1) ∙ sym (part_longer (pass_of s i) h before before_end))

  is_joined : (i : ℕ) → i < length s.threads → IsJoined s passes read met i (done_by i f.call_records)
  is_joined i l = let thread = thread_at s.threads i l in record {
    from = ready (pass_of s i) (not_main s i l);
    to = record { number = pass_of s i; seen = before; mine = flat_map (call_entries s) (done_by i f.call_records) };
    thread = thread.0;
    at = thread.1;
    ready = is_ready (pass_of s i) (not_main s i l);
    worked = record {
      went = record { grown = record { number = refl; begins = opening_before; mine = refl }; sound = record { legal = legal_before; own = part_before i l ∙ run.threads i l } };
      made = record { calls = run.calls i thread.0 thread.1; whose = done_are i f.call_records; told = done_told (IsMade s) i f.call_records run.told; downs = run.downs i l };
      claims = sym (claimed_then (pass_of s i) h before (part_of h (pass_of s i)) before_end (part_before i l) refl) ∙ run.claims i l;
    };
    told = begins_self before;
    last = whole g h run.legal (pass_of s i);
    ends = record {
      grown = record { number = refl; begins = before_end; mine = run.threads i l ∙ sym (append-nil (flat_map (call_entries s) (done_by i f.call_records))) };
      sound = record { legal = run.legal; own = refl };
    };
    closed = in_wholes g h run.legal g.passes (pass_of s i) (is_pass s i l);
  }

  -- what came back is there, and each of its handlers sent again what its home takes, since the history is legal
  line_entries : of_givebacks (part_of h SERVER) ≡ flat_map (served_entries s) f.rounds
  line_entries = run.together refl ∙ sym (fits_legal s good f.rounds (subst (EndSent g) run.gives (ends_sent g h run.legal))
      (subst (CarryEach g) (run.together refl) (givebacks_carry g h run.legal SERVER)))

  is_server : IsServer s passes read f.rounds
  is_server = record {
    from = ready SERVER (λ e. main_not_server s (sym e));
    to = whole g h run.legal SERVER;
    ready = is_ready SERVER (λ e. main_not_server s (sym e));
    served = record {
      more = part_of h SERVER;
      went = record { grown = record { number = refl; begins = opening_end; mine = refl }; sound = record { legal = run.legal; own = refl } };
      served = record {
        entries = line_entries;
        gives = run.gives;
        firsts = run.firsts;
        replies = λ apt. run.replies;
        moves = run.moves;
        handled = run.handled;
      };
    };
    closed = in_wholes g h run.legal g.passes SERVER (omega arith);
  }

  pub line_is_together : IsPutTogether s h (λ i. done_by i f.call_records) f.rounds
  line_is_together = record {
    passes = passes;
    closed = whole_closed g h run.legal;
    read = read;
    met = met;
    last = last;
    main = is_main;
    main_closed = in_wholes g h run.legal g.passes p (main_is_pass s);
    threads = is_joined;
    server = is_server;
    spare = λ q here off main none. whole_mine g h run.legal q here ∙ run.others q.number off main none;
  }
