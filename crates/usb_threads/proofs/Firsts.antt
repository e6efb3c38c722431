-- Of longer lists of givebacks: those whose transfers had replies are of first pending URBs.
use Rattle.std.proofs.Common.{ℕ, zero, suc, ◌≡◌, ◌<◌, Bool, true, Some, List, [], ◌∷◌, ◌++◌, length, refl, sym, ap, subst, arith, length-append}
use Rattle.std.specs.Prelude.{slice_get}
use Rattle.usb_machine.specs.declared.event.Event.{Event}
use Rattle.usb_machine.specs.declared.event.Event.TheVariants.{Give}
use Rattle.usb_machine.specs.declared.event.Answer.{Answer}
use Rattle.usb_machine.specs.declared.entry.Entry.{Entry}
use Rattle.usb_machine.specs.History.{Machine, ended_by, episodes_after}
use Rattle.usb_trace.specs.Run.{Giveback, first_given, firsts_after}

-- a giveback whose transfer had replies is of a first pending URB
abbrev pub AreFirst : List Giveback → List Bool → Type 0
AreFirst rounds bs = (k : ℕ) (r : Giveback) → slice_get rounds k ≡ Some r → 0 < length r.replies → slice_get bs k ≡ Some true

pub AreFirst-push : (rounds : List Giveback) (bs : List Bool) (r : Giveback) (b : Bool) → length bs ≡ length rounds → AreFirst rounds bs → (0 < length r.replies → b ≡ true) → AreFirst (rounds ++ r ∷ []) (bs ++ b ∷ [])
AreFirst-push [] [] r b e old is zero q at some = let same : r ≡ q = cc in ap Some (is (subst (λ (p : Giveback). 0 < length p.replies) (sym same) some))
AreFirst-push [] [] r b e old is (suc k) q at some = cc
AreFirst-push [] (c ∷ bs) r b e old is k q at some = absurd (omega arith)
AreFirst-push (p ∷ rounds) [] r b e old is k q at some = absurd (omega arith)
AreFirst-push (p ∷ rounds) (c ∷ bs) r b e old is zero q at some = old zero q at some
AreFirst-push (p ∷ rounds) (c ∷ bs) r b e old is (suc k) q at some = AreFirst-push rounds bs r b (omega arith) (λ j. old (suc j)) is k q at some

-- as many Gives are looked at as there are episodes
pub firsts_each : (g : Machine) (b xs : List Entry) → length (firsts_after g b xs) ≡ length (episodes_after b xs)
firsts_each g b [] = refl
firsts_each g b (x ∷ xs) =
    let a = length-append (first_given g b x.event) (firsts_after g (b ++ x ∷ []) xs) in
    let c = length-append (ended_by b x.event x.answer) (episodes_after (b ++ x ∷ []) xs) in
    let old = firsts_each g (b ++ x ∷ []) xs in
    let now = one x.event x.answer in omega arith
  where
    one : (e : Event) (a : Answer) → length (first_given g b e) ≡ length (ended_by b e a)
    one (Give u) a = refl
    one _ a = refl
