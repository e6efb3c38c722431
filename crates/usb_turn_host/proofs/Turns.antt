-- What a turn does for its pass.
use Rattle.std.proofs.Common.{◌≡◌, ℕ, ◌<◌, List, [], ◌∷◌, ◌++◌, Option, Some, None, sym, refl, ap, ◌∙◌, subst, append_assoc, append-nil}
use Rattle.std.proofs.Common.{fold}
use Rattle.std.proofs.lemmas.List.{append_cancel_right}
use Rattle.std.proofs.lemmas.List.Sums.{fold-append}
use Rattle.atomic_table.specs.Seated.{TableId}
use Rattle.usb_turn.specs.Pass.{Pass, entered, left}
use Rattle.usb_turn.specs.Rows as rows
use Rattle.usb_machine.specs.declared.entry.Entry.{Entry}
use Rattle.usb_machine.specs.declared.transfer.Transfer.{Transfer}
use Rattle.usb_machine.specs.declared.event.Event.{Event}
use Rattle.usb_machine.specs.declared.event.Event.TheVariants.{Submit, Link, Take, Mark, Finish, Give, Rest, End, Reject, Withdraw, Quiet, Claim, Flag, Unflag}
use Rattle.usb_machine.specs.declared.event.Answer.{Answer}
use Rattle.usb_machine.specs.State.{answer_of}
use Rattle.usb_machine.specs.History.{Machine, state_of, line_of}
use Rattle.usb_machine.specs.Calls.{entry}
use Rattle.usb_machine.specs.Parts.{part_of}
use Rattle.usb_machine.specs.Legal.{IsLegal, Carries, May, urb_of, end_of}
use Rattle.usb_machine.specs.Plain.{IsInside, IsNext, HasRoom, Stands}
use Rattle.usb_machine.specs.Replay.{IsWithin}
use Rattle.usb_machine.specs.declared.plain.Plain.{Plain}
use Rattle.usb_machine.specs.Fresh.{Grown, Fresh, Looked}
use Rattle.usb_turn_host.specs.declared.stock.Setup.{Setup}
use Rattle.usb_turn_host.specs.declared.stock.Stock.{Stock}
use Rattle.usb_turn_host.specs.Stock.{IsStock, IsStill, machine_of, entry_of, made_by}
use Rattle.usb_turn_host.specs.Turning.{IsOf, IsLater, IsAnswered, MayLater, known_of}

pub carries_still : (g : Machine) (e : Event) → IsStill e → Carries g e None
carries_still g (Submit u n) h = absurd h
carries_still g (Rest u n) h = absurd h
carries_still g _ h = refl

-- an event within the machine is inside the object that stands for it
pub inside : (plain : Plain) (g : Machine) (h : List Entry) (e : Event) → Stands plain g h → IsWithin g e → IsInside plain e
inside plain g h (Submit u n) s w = subst (λ k. u.0 < k) (sym s.urbs) w
inside plain g h (Link u) s w = subst (λ k. u.0 < k) (sym s.urbs) w
inside plain g h (Take e) s w = subst (λ k. e < k) (sym s.ends) w
inside plain g h (Mark u y) s w = subst (λ k. u.0 < k) (sym s.urbs) w
inside plain g h (Finish u c) s w = subst (λ k. u.0 < k) (sym s.urbs) w
inside plain g h (Give u) s w = subst (λ k. u.0 < k) (sym s.urbs) w
inside plain g h (Rest u n) s w = subst (λ k. u.0 < k) (sym s.urbs) w
inside plain g h (End u) s w = subst (λ k. u.0 < k) (sym s.urbs) w
inside plain g h (Reject u) s w = subst (λ k. u.0 < k) (sym s.urbs) w
inside plain g h (Withdraw u) s w = subst (λ k. u.0 < k) (sym s.urbs) w
inside plain g h (Quiet u) s w = subst (λ k. u.0 < k) (sym s.urbs) w
inside plain g h (Claim u) s w = subst (λ k. u.0 < k) (sym s.urbs) w
inside plain g h (Flag u f) s w = subst (λ k. u.0 < k) (sym s.urbs) w
inside plain g h (Unflag u f) s w = subst (λ k. u.0 < k) (sym s.urbs) w

module _ (id : TableId) (setup : Setup) (p q : Pass Entry) where
  abbrev g : Machine
  g = machine_of setup

  -- where the turn was taken, the pass has seen such a history
  pub entered_later : IsOf id setup p → q ≡ entered p q.seen → rows.Begins q.seen p.seen → part_of q.seen q.number ≡ q.mine → IsLegal g q.seen → IsLater g (known_of p) q.seen
  entered_later here in_is begins own legal = record {
    legal = legal;
    begins = record { more = begins.more; is = begins.is };
    own = subst (λ n. part_of q.seen n ≡ p.mine) (ap (λ (z : Pass Entry). z.number) in_is) (own ∙ ap (λ (z : Pass Entry). z.mine) in_is);
  }

  module _ (r : Pass Entry) (more : List Entry) where
    grown : q ≡ entered p q.seen → rows.Begins q.seen p.seen → r ≡ left q more → Grown (known_of p) (known_of r) more
    grown in_is begins out_is = record {
      number = ap (λ (z : Pass Entry). z.number) out_is ∙ ap (λ (z : Pass Entry). z.number) in_is;
      begins = record {
        more = begins.more ++ more;
        is = ap (λ (z : Pass Entry). z.seen) out_is ∙ (ap (λ l. l ++ more) begins.is ∙ append_assoc p.seen begins.more more);
      };
      mine = ap (λ (z : Pass Entry). z.mine) out_is ∙ ap (λ (z : Pass Entry). z.mine ++ more) in_is;
    }

    pub still_of : IsOf id setup p → q ≡ entered p q.seen → r ≡ left q more → IsLegal g r.seen → part_of r.seen r.number ≡ r.mine → IsOf id setup r
    still_of here in_is out_is legal own = record {
      table = ap (λ (z : Pass Entry). z.table) out_is ∙ (ap (λ (z : Pass Entry). z.table) in_is ∙ here.table);
      idle = ap (λ (z : Pass Entry). z.has) out_is;
      below = subst (λ n. n < g.passes) (sym (ap (λ (z : Pass Entry). z.number) out_is ∙ ap (λ (z : Pass Entry). z.number) in_is)) here.below;
      legal = legal;
      own = own;
    }

  -- a turn with one entry
  pub turned_fresh : (r : Pass Entry) (x : Entry) → q ≡ entered p q.seen → rows.Begins q.seen p.seen → r ≡ left q (x ∷ []) → IsLegal g r.seen → part_of r.seen r.number ≡ r.mine → Fresh g (known_of p) (known_of r) (x ∷ [])
  turned_fresh r x in_is begins out_is legal own = record {
    grown = grown r (x ∷ []) in_is begins out_is;
    sound = record { legal = legal; own = own };
    ends = record { before = q.seen; others = []; last = x; ends = ap (λ (z : Pass Entry). z.seen) out_is; entries = refl };
  }

  -- a turn without
  pub turned_looked : (r : Pass Entry) → q ≡ entered p q.seen → rows.Begins q.seen p.seen → r ≡ left q [] → IsLegal g r.seen → part_of r.seen r.number ≡ r.mine → Looked g (known_of p) (known_of r)
  turned_looked r in_is begins out_is legal own = record {
    grown = grown r [] in_is begins out_is;
    sound = record { legal = legal; own = own };
  }

module _ (id : TableId) (setup : Setup) (p q : Pass Entry) (old new : Stock) (event : Event) (answer : Answer) (carried : Option Transfer)
    (here : IsOf id setup p) (in_is : q ≡ entered p q.seen) (begins : rows.Begins q.seen p.seen) (own : part_of q.seen q.number ≡ q.mine)
    (stock : IsStock old q.seen) (key : old.setup ≡ setup) where
  abbrev machine : Machine
  machine = machine_of setup

  number_is : q.number ≡ p.number
  number_is = ap (λ (z : Pass Entry). z.number) in_is

  pub legal : IsLegal machine q.seen
  legal = subst (λ s. IsLegal (machine_of s) q.seen) key stock.plain.legal

  pub later : IsLater machine (known_of p) q.seen
  later = entered_later id setup p q here in_is begins own legal

  -- what may come later may come now
  pub next : MayLater machine (known_of p) event → Carries machine event carried → IsNext (machine_of old.setup) q.seen q.number event carried
  next may carries =
      let m = may q.seen later in
      subst (λ s. IsNext (machine_of s) q.seen q.number event carried) (sym key) record {
        pass = subst (λ n. n < machine.passes) (sym number_is) here.below;
        may = subst (λ n. May machine q.seen n event) (sym number_is) m.0;
        room = subst (λ n. HasRoom q.seen n event) (sym number_is) m.1;
        carries = carries;
      }

  -- an event that carries nothing and moves no transfer
  pub makes : (n : ℕ) → n ≡ q.number → carried ≡ None → MayLater machine (known_of p) event → IsStill event
      → ((h : List Entry) → IsStock old h → IsNext (machine_of old.setup) h n event None → IsStill event → IsStock new (h ++ entry n event answer None ∷ []))
      → IsStock new (q.seen ++ entry q.number event answer carried ∷ [])
  makes n num none may still stands =
      let now : IsNext (machine_of old.setup) q.seen q.number event carried = next may (subst (λ c. Carries machine event c) (sym none) (carries_still machine event still)) in
      let now' : IsNext (machine_of old.setup) q.seen n event None = subst (λ k. IsNext (machine_of old.setup) q.seen k event None) (sym num) (subst (λ c. IsNext (machine_of old.setup) q.seen q.number event c) none now) in
      subst (λ c. IsStock new (q.seen ++ entry q.number event answer c ∷ [])) (sym none) (subst (λ k. IsStock new (q.seen ++ entry k event answer None ∷ [])) num (stands q.seen stock now' still))

  -- any other event
  pub moves : (n : ℕ) → n ≡ q.number → MayLater machine (known_of p) event → Carries machine event carried
      → ((h : List Entry) → IsStock old h → IsNext (machine_of old.setup) h n event carried → IsStock new (h ++ entry n event answer carried ∷ []))
      → IsStock new (q.seen ++ entry q.number event answer carried ∷ [])
  moves n num may carries stands =
      let now : IsNext (machine_of old.setup) q.seen n event carried = subst (λ k. IsNext (machine_of old.setup) q.seen k event carried) (sym num) (next may carries) in
      subst (λ k. IsStock new (q.seen ++ entry k event answer carried ∷ [])) num (stands q.seen stock now)

  -- a turn with one entry, of whose answer nothing more is said
  pub spin : (r : Pass Entry) → new.setup ≡ old.setup → IsStock new (q.seen ++ entry q.number event answer carried ∷ []) → r ≡ left q (entry q.number event answer carried ∷ []) → part_of r.seen r.number ≡ r.mine
      → IsOf id setup r × Fresh machine (known_of p) (known_of r) (entry p.number event answer carried ∷ []) × (r.seen ≡ q.seen ++ entry q.number event answer carried ∷ [])
  spin r same stands out_is own' =
      let x : Entry = entry q.number event answer carried in
      let seen_is : r.seen ≡ q.seen ++ x ∷ [] = ap (λ (z : Pass Entry). z.seen) out_is in
      let legal' : IsLegal machine r.seen = subst (λ l. IsLegal machine l) (sym seen_is) (subst (λ s. IsLegal (machine_of s) (q.seen ++ x ∷ [])) (same ∙ key) stands.plain.legal) in (
        still_of id setup p q r (x ∷ []) here in_is out_is legal' own',
        subst (λ n. Fresh machine (known_of p) (known_of r) (entry n event answer carried ∷ [])) number_is (turned_fresh id setup p q r x in_is begins out_is legal' own'),
        seen_is,
      )

  -- a turn with one entry
  pub turn : (r : Pass Entry) → new.setup ≡ old.setup → IsStock new (q.seen ++ entry q.number event answer carried ∷ []) → r ≡ left q (entry q.number event answer carried ∷ []) → part_of r.seen r.number ≡ r.mine
      → answer ≡ answer_of event (state_of q.seen (urb_of event)) (line_of (machine_of old.setup) q.seen (end_of event))
      → IsOf id setup r × Fresh machine (known_of p) (known_of r) (entry p.number event answer carried ∷ []) × IsAnswered machine (known_of p) (known_of r) event answer (entry p.number event answer carried)
  turn r same stands out_is own' answers =
      let x : Entry = entry q.number event answer carried in
      let seen_is : r.seen ≡ q.seen ++ x ∷ [] = ap (λ (z : Pass Entry). z.seen) out_is in
      let legal' : IsLegal machine r.seen = subst (λ l. IsLegal machine l) (sym seen_is) (subst (λ s. IsLegal (machine_of s) (q.seen ++ x ∷ [])) (same ∙ key) stands.plain.legal) in (
        still_of id setup p q r (x ∷ []) here in_is out_is legal' own',
        subst (λ n. Fresh machine (known_of p) (known_of r) (entry n event answer carried ∷ [])) number_is (turned_fresh id setup p q r x in_is begins out_is legal' own'),
        record {
          before = q.seen;
          later = later;
          seen = seen_is ∙ ap (λ n. q.seen ++ entry n event answer carried ∷ []) number_is;
          answers = subst (λ s. answer ≡ answer_of event (state_of q.seen (urb_of event)) (line_of (machine_of s) q.seen (end_of event))) key answers;
        },
      )

  -- a turn without an entry
  pub glance : (r : Pass Entry) → r ≡ left q [] → part_of r.seen r.number ≡ r.mine → IsOf id setup r × Looked machine (known_of p) (known_of r)
  glance r out_is own' =
      let seen_is : r.seen ≡ q.seen = ap (λ (z : Pass Entry). z.seen) out_is ∙ append-nil q.seen in
      let legal' : IsLegal machine r.seen = subst (λ l. IsLegal machine l) (sym seen_is) legal in
      (still_of id setup p q r [] here in_is out_is legal' own', turned_looked id setup p q r in_is begins out_is legal' own')

-- the entry that the stock names
pub named : (n : ℕ) (s : Stock) (event : Event) (answer : Answer) → s.made ≡ Some record { event = event; answer = answer; carried = None } → made_by n s ≡ entry n event answer None ∷ []
named n s event answer is = ap (entry_of n) is

-- what stands before the last entry
pub snoc_front : (xs ys : List Entry) (x y : Entry) → xs ++ x ∷ [] ≡ ys ++ y ∷ [] → xs ≡ ys
snoc_front xs ys x y e =
    let f : Entry → Entry → Entry = λ _ z. z in
    let last : x ≡ y = sym (fold-append f x xs (x ∷ [])) ∙ (ap (fold f x) e ∙ fold-append f x ys (y ∷ [])) in
    append_cancel_right xs ys (y ∷ []) (ap (λ z. xs ++ z ∷ []) (sym last) ∙ e)
