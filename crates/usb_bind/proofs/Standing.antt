-- The endpoints in the host: each address once, 00 left out, and none forgotten.
use Rattle.std.proofs.Common.{◌≡◌, ◌≢◌, ℕ, ◌<◌, Bool, true, false, not, cond, List, [], ◌∷◌, ◌++◌, length, get_or, zero, suc, refl, arith}
use Rattle.std.specs.Prelude.{◌||◌, ◌==◌, fold, All, AllPairs}
use Rattle.std.proofs.lemmas.Bool.{eqb-false}
use Rattle.std.proofs.lemmas.List.Elements.{All-push}
use Rattle.std.proofs.lemmas.List.Quantifiers.{all_pairs_push}
use Rattle.usb_desc.specs.declared.tree.ConfigTree.{ConfigTree}
use Rattle.usb_desc.specs.declared.tree.End.{End}
use Rattle.usb_desc.specs.Growth.{has_end}
use Rattle.usb_bind.specs.Interfaces.{joins, joined, host_ends, interfaces_of, ends_of}

record AreOnce (ends : List End) : Type 0 where
  nonzero : All (λ (e : End). e.address ≢ 0) ends
  apart : AllPairs (λ (e f : End). e.address ≢ f.address) ends

pub or_false : (a b : Bool) → (a || b) ≡ false → (a ≡ false) × (b ≡ false)
or_false true b h = absurd cc
or_false false b h = (refl, h)

pub not_true : (b : Bool) → not b ≡ true → b ≡ false
not_true true h = absurd cc
not_true false h = refl

lacks_each : (ends : List End) (address : ℕ) → has_end ends address ≡ false → (k : ℕ) (d : End) → k < length ends → (get_or ends k d).address ≢ address
lacks_each [] address h k d below = absurd (omega arith)
lacks_each (e ∷ ends) address h zero d below = eqb-false e.address address (or_false (e.address == address) (has_end ends address) h).0
lacks_each (e ∷ ends) address h (suc k) d below = lacks_each ends address (or_false (e.address == address) (has_end ends address) h).1 k d (omega arith)

joined_once : (ends : List End) (e : End) (t : Bool) → AreOnce ends → joins ends e ≡ t → AreOnce (cond t (ends ++ e ∷ []) ends)
joined_once ends e true once h =
    let new = or_false (e.address == 0) (has_end ends e.address) (not_true _ h) in
    record {
      nonzero = All-push (λ (e : End). e.address ≢ 0) ends e once.nonzero (eqb-false e.address 0 new.0);
      apart = all_pairs_push (λ (e f : End). e.address ≢ f.address) ends e once.apart (lacks_each ends e.address new.1);
    }
joined_once ends e false once h = once

all_once : (more ends : List End) → AreOnce ends → AreOnce (fold joined ends more)
all_once [] ends once = once
all_once (e ∷ more) ends once = all_once more (joined ends e) (joined_once ends e (joins ends e) once refl)

none_once : AreOnce []
none_once = record { nonzero = λ k d h. absurd (omega arith); apart = λ i j d h k. absurd (omega arith) }

pub ends_stand_once : (config : ConfigTree) → AllPairs (λ (e f : End). e.address ≢ f.address) (host_ends config) × All (λ (e : End). e.address ≢ 0) (host_ends config)
ends_stand_once config = let once = all_once (ends_of (interfaces_of config)) [] none_once in (once.apart, once.nonzero)
