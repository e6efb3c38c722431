-- Where an event may come, from what the object keeps.
use Rattle.std.proofs.Common.{◌≡◌, ℕ, zero, suc, ◌<◌, Bool, IsTrue, ◌↔◌, List, [], ◌∷◌, length, get_or, sym, ap, ◌∙◌, arith, eq-eqb, ne_eqb, true≢false, Option, Some, None}
use Rattle.std.specs.Prelude.{Contains, is_some}
use Rattle.std.proofs.lemmas.List.{get_or_default}
use Rattle.std.proofs.lemmas.Option.{slice_get-get_or, get_or_from_slice_get}
use mathlib.Core.Logic.{dite}
use native.Mathlib.Decide.{ℕ_discrete}
use Rattle.usb_machine.specs.declared.entry.Entry.{Entry}
use Rattle.usb_machine.specs.declared.queues.Queues.{Queues}
use Rattle.usb_machine.specs.declared.plain.Plain.{Plain}
use Rattle.usb_machine.specs.History.{Machine, or_zero, home_of, HasHome, pending_of}
use Rattle.usb_machine.specs.Legal.{times, IsFirst}
use Rattle.usb_machine.specs.Plain.{Stands, queues_of, urbs_of, ends_of}
use Rattle.usb_machine.proofs.Places.{bit}
use Rattle.usb_machine.proofs.Rooms.{queued_has_home, pending_is_queued}

pub first_times : (u : ℕ) (us : List ℕ) → IsFirst u us → 0 < times u us
first_times u [] f = absurd f
first_times u (v ∷ us) f = let b = ap bit (eq-eqb v u f) in omega arith

contained_times : (u : ℕ) (us : List ℕ) → Contains us u → 0 < times u us
contained_times u us c = at us c.0 c.1 c.2
  where
    at : (vs : List ℕ) (k : ℕ) → k < length vs → get_or vs k u ≡ u → 0 < times u vs
    at [] k l e = absurd (omega arith)
    at (v ∷ vs) zero l e = let b = ap bit (eq-eqb v u e) in omega arith
    at (v ∷ vs) (suc k) l e = let more = at vs k (omega arith) e in omega arith

times_contained : (u : ℕ) (us : List ℕ) → 0 < times u us → Contains us u
times_contained u [] l = absurd (omega arith)
times_contained u (v ∷ us) l = dite (ℕ_discrete v u)
    (λ is. (0, (omega arith), is))
    (λ off. let b = ap bit (ne_eqb v u off) in let c = times_contained u us (omega arith) in (suc c.0, (let m = c.1 in omega arith), c.2))

pub contains_times : (u : ℕ) (us : List ℕ) → Contains us u ↔ (0 < times u us)
contains_times u us = (contained_times u us, times_contained u us)

module _ (plain : Plain) (g : Machine) (h : List Entry) (s : Stands plain g h) where
  home_read : (u : ℕ) (o : Option ℕ) → u < urbs_of plain → o ≡ get_or plain.homes.items u o → o ≡ get_or g.layout.homes u None
  home_read u o l is = is ∙ (ap (λ xs. get_or xs u o) s.homes ∙ get_or_default g.layout.homes u o None (let urbs = s.urbs in omega arith))

  pub home_by_row : (u : ℕ) (b : Bool) (o : Option ℕ) → u < urbs_of plain → o ≡ get_or plain.homes.items u o → b ≡ is_some o → IsTrue b ↔ HasHome g u
  home_by_row u b o l is some = go o (home_read u o l is) some
    where
      go : (o : Option ℕ) → o ≡ get_or g.layout.homes u None → b ≡ is_some o → IsTrue b ↔ HasHome g u
      go (Some e) is t = (λ _. (e, sym is), λ _. t)
      go None is f = (λ t. absurd (true≢false (sym t ∙ f)), λ k. let both : None ≡ Some k.0 = is ∙ k.1 in absurd (cc (both)))

  -- an URB without a home is not pending
  pub homeless : (u : ℕ) (o : Option ℕ) → u < urbs_of plain → o ≡ get_or plain.homes.items u o → o ≡ None → 0 < times u (pending_of g h (home_of g u)) → ⊥
  homeless u o l is none k =
      let home = queued_has_home g u h s.legal (pending_is_queued g h u s.legal k) in let both : None ≡ Some home.0 = sym none ∙ (home_read u o l is ∙ home.1) in absurd (cc (both))

  -- the pending ones of an URB's home, as they are read
  pub home_pending : (u e : ℕ) (o : Option ℕ) (q : Queues) → u < urbs_of plain → o ≡ get_or plain.homes.items u o → o ≡ Some e → q ≡ get_or plain.ends.items e q → q.pending.items ≡ pending_of g h (home_of g u)
  home_pending u e o q l is home read =
      let homed = plain.homed in let k : e < ends_of plain = plain.inside u e (slice_get-get_or plain.homes.items u o (omega arith) ∙ ap Some (sym is ∙ home)) in
      ap (λ (r : Queues). r.pending.items) (read ∙ get_or_from_slice_get plain.ends.items e (queues_of g h e) q (s.queues e k)) ∙ ap (pending_of g h) (ap or_zero (sym home ∙ home_read u o l is))
