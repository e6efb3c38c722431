-- How a pass goes on, call by call, and what it has claimed.
use Rattle.std.proofs.Common.{◌≡◌, List, [], ◌++◌, sym, ap, ◌∙◌, subst}
use Rattle.usb_machine.specs.declared.entry.Entry.{Entry}
use Rattle.usb_machine.specs.History.{Machine}
use Rattle.usb_machine.specs.Parts.{part_of}
use Rattle.usb_machine.specs.Fresh.{Known, Sound, Looked}
use Rattle.usb_machine.proofs.Growing.{grown_none, grown_more}
use Rattle.usb_trace.specs.Claims.{claimed_by}
use Rattle.usb_trace.proofs.Claims.{AreNoClaim, claimed_none, claimed_same}
use Rattle.usb_threads.specs.Passes.{WentOn}

module _ (g : Machine) where
  pub went_nothing : (p : Known) → Sound g p → WentOn g p p []
  went_nothing p sound = record { grown = grown_none p; sound = sound }

  pub went_more : (p q r : Known) (xs ys : List Entry) → WentOn g p q xs → WentOn g q r ys → WentOn g p r (xs ++ ys)
  went_more p q r xs ys a b = record { grown = grown_more p q r xs ys a.grown b.grown; sound = b.sound }

  pub looked_self : (p : Known) → Sound g p → Looked g p p
  looked_self p sound = record { grown = grown_none p; sound = sound }

  pub looked_more : (p q r : Known) → Looked g p q → Looked g q r → Looked g p r
  looked_more p q r a b = record { grown = grown_more p q r [] [] a.grown b.grown; sound = b.sound }

  -- where a pass goes on without a Claim it has claimed what it had
  pub claims_stay : (p q : Known) (more : List Entry) → Sound g p → WentOn g p q more → AreNoClaim more → claimed_by p.number q.seen ≡ claimed_by p.number p.seen
  claims_stay p q more sound went none = claimed_same p.number p.seen q.seen went.grown.begins.more more went.grown.begins.is
      (ap (part_of q.seen) (sym went.grown.number) ∙ (went.sound.own ∙ (went.grown.mine ∙ ap (λ m. m ++ more) (sym sound.own)))) none

  -- a pass without a Claim has claimed nothing
  pub claims_none : (p : Known) → Sound g p → AreNoClaim p.mine → claimed_by p.number p.seen ≡ []
  claims_none p sound none = claimed_none p.number [] p.seen (subst AreNoClaim (sym sound.own) none)
