-- Of a history whose transfers are all apt: its beginnings, what it sent last with an URB, and its episodes.
use Rattle.std.proofs.Common.{ℕ, ◌≡◌, Bool, true, false, cond, eqb, fold, Option, Some, None, List, [], ◌∷◌, ◌++◌, length, refl, sym, subst, arith, append_assoc, length-append, eqb-true}
use Rattle.std.specs.Prelude.{All}
use Rattle.std.proofs.lemmas.List.Elements.{All-nil, All-cons, All-head, All-tail}
use Rattle.usb_machine.specs.declared.event.Event.{Event}
use Rattle.usb_machine.specs.declared.event.Event.TheVariants.{Submit, Give}
use Rattle.usb_machine.specs.declared.event.Answer.{Answer}
use Rattle.usb_machine.specs.declared.transfer.Transfer.{Transfer}
use Rattle.usb_machine.specs.declared.entry.Entry.{Entry}
use Rattle.usb_machine.specs.State.{accepted}
use Rattle.usb_machine.specs.History.{sent_of, sent_after, Episode, ended_by, episodes_of, episodes_after}
use Rattle.usb_machine.specs.Fresh.{Begins}
use Rattle.usb_scene.specs.declared.scene.Scene.{Scene}
use Rattle.usb_trace.specs.Devices.{IsApt}
use Rattle.usb_threads.specs.Apt.{MayHave, SendsApt, AreApt}
use Rattle.usb_threads.proofs.Gives.{gives_in}

module _ (s : Scene) where
  -- each of these entries sends what its URB may have, or nothing
  abbrev pub SendEach : List Entry → Type 0
  SendEach [] = Unit {0}
  SendEach (x ∷ xs) = SendsApt s x.event x.carried × SendEach xs

  pub SendEach-append : (xs ys : List Entry) → SendEach xs → SendEach ys → SendEach (xs ++ ys)
  SendEach-append [] ys a b = b
  SendEach-append (x ∷ xs) ys a b = (a.0, SendEach-append xs ys a.1 b)

  pub each_before : (xs ys : List Entry) → SendEach (xs ++ ys) → SendEach xs
  each_before [] ys a = tt
  each_before (x ∷ xs) ys a = (a.0, each_before xs ys a.1)

  pub each_behind : (xs ys : List Entry) → SendEach (xs ++ ys) → SendEach ys
  each_behind [] ys a = a
  each_behind (x ∷ xs) ys a = each_behind xs ys a.1

  all_each : (h : List Entry) → All (λ x. SendsApt s x.event x.carried) h → SendEach h
  all_each [] all = tt
  all_each (x ∷ h) all = (All-head (λ (x : Entry). SendsApt s x.event x.carried) x h all, all_each h (All-tail (λ (x : Entry). SendsApt s x.event x.carried) x h all))

  each_all : (h : List Entry) → SendEach h → All (λ x. SendsApt s x.event x.carried) h
  each_all [] each = All-nil (λ (x : Entry). SendsApt s x.event x.carried)
  each_all (x ∷ h) each = All-cons (λ (x : Entry). SendsApt s x.event x.carried) x h each.0 (each_all h each.1)

  pub are_apt : (h : List Entry) → SendEach h → AreApt s h
  are_apt h each = record { each = each_all h each }

  -- what was sent in a beginning of the history was sent in it
  pub apt_before : (h a : List Entry) → Begins h a → AreApt s h → AreApt s a
  apt_before h a b apt = are_apt a (each_before a b.more (subst SendEach b.is (all_each h apt.each)))

  module _ (u : ℕ) where
    may_after : (t : Option Transfer) (e : Event) (a : Answer) (c : Option Transfer) → MayHave s u t → SendsApt s e c → MayHave s u (sent_after u t e a c)
    may_after t (Submit v n) a c old new = go (eqb v.0 u) refl (accepted a)
      where
        go : (b : Bool) → eqb v.0 u ≡ b → (d : Bool) → MayHave s u (cond b (cond d c t) t)
        go true is true = subst (λ w. MayHave s w c) (eqb-true v.0 u is) new
        go true is false = old
        go false is d = old
    may_after t _ a c old new = old

    pub may_sent : (h : List Entry) → SendEach h → MayHave s u (sent_of h u)
    may_sent h each = go h None each tt
      where
        go : (xs : List Entry) (t : Option Transfer) → SendEach xs → MayHave s u t → MayHave s u (fold (λ (t : Option Transfer) x. sent_after u t x.event x.answer x.carried) t xs)
        go [] t each old = old
        go (x ∷ xs) t each old = go xs (sent_after u t x.event x.answer x.carried) each.1 (may_after t x.event x.answer x.carried old each.0)

    -- what was sent last with an URB it may have
    pub sent_apt : (h : List Entry) (t : Transfer) → AreApt s h → sent_of h u ≡ Some t → IsApt s u t
    sent_apt h t apt is = subst (MayHave s u) is (may_sent h (all_each h apt.each))

  -- the transfer of each of these episodes its URB may have
  abbrev pub EndEach : List Episode → Type 0
  EndEach [] = Unit {0}
  EndEach (e ∷ es) = MayHave s e.urb e.transfer × EndEach es

  EndEach-append : (es ds : List Episode) → EndEach es → EndEach ds → EndEach (es ++ ds)
  EndEach-append [] ds a b = b
  EndEach-append (e ∷ es) ds a b = (a.0, EndEach-append es ds a.1 b)

  ended_apt : (b : List Entry) (e : Event) (a : Answer) → SendEach b → EndEach (ended_by b e a)
  ended_apt b (Give u) a each = (may_sent u.0 b each, tt)
  ended_apt b _ a each = tt

  ends_after : (b xs : List Entry) → SendEach (b ++ xs) → EndEach (episodes_after b xs)
  ends_after b [] each = tt
  ends_after b (x ∷ xs) each = EndEach-append (ended_by b x.event x.answer) (episodes_after (b ++ x ∷ []) xs)
      (ended_apt b x.event x.answer (each_before b (x ∷ xs) each))
      (ends_after (b ++ x ∷ []) xs (subst SendEach (sym (append_assoc b (x ∷ []) xs)) each))

  pub ends_apt : (h : List Entry) → SendEach h → EndEach (episodes_of h)
  ends_apt h each = ends_after [] h each

  pub episodes_apt : (h : List Entry) → AreApt s h → EndEach (episodes_of h)
  episodes_apt h apt = ends_apt h (all_each h apt.each)

-- each Give ends an episode
pub as_many_episodes : (b xs : List Entry) → length (episodes_after b xs) ≡ gives_in xs
as_many_episodes b [] = refl
as_many_episodes b (x ∷ xs) =
    let a = length-append (ended_by b x.event x.answer) (episodes_after (b ++ x ∷ []) xs) in
    let old = as_many_episodes (b ++ x ∷ []) xs in
    let now = one x.event x.answer x in omega arith
  where
    one : (e : Event) (a : Answer) (x : Entry) → length (ended_by b e a) ≡ gives_in (record x { event = e } ∷ [])
    one (Give u) a x = refl
    one _ a x = refl
