-- A stock whose first waiting URB is taken.
use Rattle.std.proofs.Common.{◌≡◌, ◌≢◌, ℕ, ◌+◌, ◌%◌, ◌^◌, ◌<◌, ◌≤◌, Bool, true, false, cond, eqb, List, [], ◌∷◌, ◌++◌, length, Option, Some, None, sym, refl, ap, ◌∙◌, subst, arith, slice_get, length-set, eq-eqb}
use mathlib.Core.Logic.{dite}
use native.Mathlib.Decide.{ℕ_discrete}
use Rattle.std.specs.Vec.{with_item}
use Rattle.circular_buffer.proofs.Places.{slice_get-set_other}
use Rattle.usb_machine.specs.declared.transfer.Transfer.{Transfer}
use Rattle.usb_machine.specs.declared.entry.TheConstants.{SERVER}
use Rattle.usb_machine.specs.declared.event.Event.TheVariants.{Take, Give}
use Rattle.usb_machine.specs.declared.event.Answer.TheVariants.{Urb, Code as Status}
use Rattle.usb_machine.specs.declared.entry.Entry.{Entry}
use Rattle.usb_types.specs.declared.errno.Code.{Code}
use Rattle.usb_machine.specs.declared.state.Mark.TheVariants.{Clear}
use Rattle.usb_machine.specs.History.{without}
use Rattle.usb_machine.specs.declared.state.UrbState.{UrbState}
use Rattle.usb_machine.specs.declared.plain.Plain.{Plain}
use Rattle.usb_machine.specs.History.{Machine, home_of, state_of, line_of, pending_of, sent_of}
use Rattle.usb_machine.specs.Laws.{bit, Placed}
use Rattle.usb_machine.specs.Legal.{times, IsLegal}
use Rattle.usb_machine.specs.Plain.{Stands, IsNext, urbs_of}
use Rattle.usb_types.specs.declared.urb.UrbId.{UrbId}
use Rattle.usb_machine.specs.State.{first_of}
use Rattle.usb_machine.specs.Calls.{entry}
use Rattle.usb_machine.proofs.Places.{placed, times-snoc, times-without_other}
use Rattle.usb_machine.proofs.Rooms.{queued_has_home, home_below}
use Rattle.usb_machine.proofs.Sent.{queued_is_sent}
use Rattle.usb_machine.proofs.Steps.{state_of-snoc, pending_of-snoc, sent_of-snoc}
use Rattle.usb_machine.proofs.Growing.{rested_of-snoc}
use Rattle.usb_turn_host.specs.declared.stock.Stock.{Stock}
use Rattle.usb_turn_host.specs.declared.stock.Made.{Made}
use Rattle.usb_turn_host.specs.Stock.{IsStock, machine_of}
use Rattle.usb_turn_host.proofs.Standing.{counted}

-- the first URB of a line is queued, has that endpoint as its home, and is not pending
pub record IsWaiting (g : Machine) (h : List Entry) (e u : ℕ) : Type 0 where
  pub home : home_of g u ≡ e
  pub queued : (state_of h u).queued ≡ true
  pub none : times u (pending_of g h (home_of g u)) ≡ 0
  pub below : u < length g.layout.homes

queued_by : (b : Bool) (n : ℕ) → 0 < n → n ≤ bit b → b ≡ true
queued_by true n lt le = refl
queued_by false n lt le = absurd (omega arith)

bit_small : (b : Bool) → bit b ≤ 1
bit_small true = omega arith
bit_small false = omega arith

pub waits : (g : Machine) (h : List Entry) (e u : ℕ) (us : List ℕ) → IsLegal g h → line_of g h e ≡ u ∷ us → IsWaiting g h e u
waits g h e u us legal is =
    let p : Placed g h u = placed g u h legal in
    let some : times u (line_of g h e) ≡ 1 + times u us = ap (times u) is ∙ ap (λ b. cond b 1 0 + times u us) (eq-eqb u u refl) in
    let home : home_of g u ≡ e = dite (ℕ_discrete e (home_of g u)) (λ same. sym same) (λ off. let none = p.line_else e off in absurd (omega (arith, none, some))) in
    let here : times u (line_of g h (home_of g u)) ≡ 1 + times u us = ap (λ d. times u (line_of g h d)) home ∙ some in
    let once = p.once in
    let small = bit_small (state_of h u).queued in
    let queued : (state_of h u).queued ≡ true = queued_by (state_of h u).queued (times u (line_of g h (home_of g u))) (omega (arith, here)) (omega (arith, once)) in
    record {
      home = home;
      queued = queued;
      none = omega (arith, once, small, here);
      below = home_below g u (queued_has_home g u h legal queued);
    }

module _ (old : Stock) (h : List Entry) (e u : ℕ) (plain : Plain) (made : Option Made) where
  abbrev g : Machine
  g = machine_of old.setup

  abbrev x : Entry
  x = entry SERVER (Take e) (Urb record { 0 = u }) None

  -- its transfer is in flight
  pub in_flight : IsStock old h → IsWaiting g h e u → (t : Transfer) × (sent_of h u ≡ Some t) × (slice_get old.flight.items u ≡ Some (Some t))
  in_flight s w =
      let sent = queued_is_sent g u h s.plain.legal w.queued in
      (sent.transfer, sent.is, s.flights u (subst (λ n. u < n) (sym s.plain.urbs) w.below) w.queued w.none ∙ ap Some sent.is)

  pub taken : IsStock old h → IsWaiting g h e u → urbs_of plain ≡ urbs_of old.plain → Stands plain g (h ++ x ∷ [])
      → IsStock (record { plain = plain; flight = with_item old.flight u None; resting = old.resting; rows = (old.rows + 1) % 2 ^ 64; setup = old.setup; made = made }) (h ++ x ∷ [])
  taken s w urbs stands = record {
    plain = stands;
    count = counted old h x plain made s.count;
    flights = λ v lt queued none.
        let was : (state_of h v).queued ≡ true = sym (ap (λ (z : UrbState). z.queued) (state_of-snoc h x v)) ∙ queued in
        let pending_is : pending_of g (h ++ x ∷ []) (home_of g v) ≡ cond (eqb e (home_of g v)) (pending_of g h (home_of g v) ++ u ∷ []) (pending_of g h (home_of g v)) = pending_of-snoc h x g (home_of g v) in
        let two = apart v (eqb e (home_of g v)) refl (pending_of g h (home_of g v)) (sym (ap (times v) pending_is) ∙ none) in
        slice_get-set_other old.flight.items u v None (two.0 w.home) ∙ (s.flights v (subst (λ n. v < n) urbs lt) was two.1 ∙ ap Some (sym (sent_of-snoc h x v)));
    rests = λ v lt. s.rests v (subst (λ n. v < n) urbs lt) ∙ ap Some (sym (rested_of-snoc h x v));
    sizes = (length-set old.flight.items u None ∙ (s.sizes.0 ∙ sym urbs), s.sizes.1 ∙ sym urbs);
  }
    where
      apart : (v : ℕ) (b : Bool) → eqb e (home_of g v) ≡ b → (us : List ℕ) → times v (cond b (us ++ u ∷ []) us) ≡ 0 → (home_of g u ≡ e → v ≢ u) × (times v us ≡ 0)
      apart v true is us none =
          let n : times v us + bit (eqb u v) ≡ 0 = sym (times-snoc v u us) ∙ none in
          ((λ home same. let one : bit (eqb u v) ≡ 1 = ap bit (eq-eqb u v (sym same)) in absurd (omega (arith, n, one))), omega (arith, n))
      apart v false is us none =
          ((λ home same. let bad : false ≡ true = sym is ∙ (eq-eqb e (home_of g v) (sym (ap (home_of g) same ∙ home))) in absurd (cc)), none)

pub line_first : (us : List ℕ) (u : UrbId) → first_of us ≡ Urb u → (rest : List ℕ) × (us ≡ u.0 ∷ rest)
line_first [] u is = absurd (cc)
line_first (v ∷ vs) u is = let same : v ≡ u.0 = cc in (vs, ap (λ w. w ∷ vs) same)

pub next_take : (g : Machine) (h : List Entry) (e u : ℕ) (us : List ℕ) → 0 < g.passes → line_of g h e ≡ u ∷ us → IsNext g h SERVER (Take e) None
next_take g h e u us some is = record {
  pass = some;
  may = (refl, subst (λ l. 0 < length l) (sym is) (omega arith));
  room = tt;
  carries = refl;
}

-- a stock whose URB is given back
module _ (old : Stock) (h : List Entry) (u : ℕ) (c : Code) (plain : Plain) (made : Option Made) where
  abbrev y : Entry
  y = entry SERVER (Give record { 0 = u }) (Status c) None

  pub gives_back : IsStock old h → urbs_of plain ≡ urbs_of old.plain → Stands plain (machine_of old.setup) (h ++ y ∷ [])
      → IsStock (record { plain = plain; flight = old.flight; resting = old.resting; rows = (old.rows + 1) % 2 ^ 64; setup = old.setup; made = made }) (h ++ y ∷ [])
  gives_back s urbs stands =
      let m : Machine = machine_of old.setup in
      record {
        plain = stands;
        count = counted old h y plain made s.count;
        flights = λ v lt queued none.
            let now : (cond (eqb u v) (record (state_of h v) { queued = false; mark = Clear; handlers = (state_of h v).handlers + 1 }) (state_of h v)).queued ≡ true = sym (ap (λ (z : UrbState). z.queued) (state_of-snoc h y v)) ∙ queued in
            let two = still (eqb u v) (state_of h v) now in
            let pending_is : pending_of m (h ++ y ∷ []) (home_of m v) ≡ cond (eqb (home_of m u) (home_of m v)) (without u (pending_of m h (home_of m v))) (pending_of m h (home_of m v)) = pending_of-snoc h y m (home_of m v) in
            let off : u ≢ v = λ same. absurd (let bad : false ≡ true = sym two.1 ∙ eq-eqb u v same in cc) in
            let none' : times v (pending_of m h (home_of m v)) ≡ 0 = sym (either (eqb (home_of m u) (home_of m v)) v (pending_of m h (home_of m v)) off) ∙ (sym (ap (times v) pending_is) ∙ none) in
            s.flights v (subst (λ n. v < n) urbs lt) two.0 none' ∙ ap Some (sym (sent_of-snoc h y v));
        rests = λ v lt. s.rests v (subst (λ n. v < n) urbs lt) ∙ ap Some (sym (rested_of-snoc h y v));
        sizes = (s.sizes.0 ∙ sym urbs, s.sizes.1 ∙ sym urbs);
      }
    where
      still : (b : Bool) (s : UrbState) → (cond b (record s { queued = false; mark = Clear; handlers = s.handlers + 1 }) s).queued ≡ true → (s.queued ≡ true) × (b ≡ false)
      still true s q = absurd (let bad : false ≡ true = q in cc)
      still false s q = (q, refl)

      either : (b : Bool) (v : ℕ) (us : List ℕ) → u ≢ v → times v (cond b (without u us) us) ≡ times v us
      either true v us off = times-without_other v u us off
      either false v us off = refl
