-- All that is sent in a closed history is apt: what a handler sends again was sent before.
use Rattle.std.proofs.Common.{ℕ, ◌≡◌, ◌≢◌, ◌<◌, ◌⊎◌, inl, inr, Bool, true, false, not, cond, List, [], ◌∷◌, ◌++◌, length, map, refl, sym, ap, ◌∙◌, subst, arith, append_assoc, append-nil, eq-eqb}
use Rattle.std.specs.List.{flat_map}
use Rattle.std.proofs.lemmas.List.Elements.{filter-append}
use mathlib.Core.Logic.{dite}
use native.Mathlib.Decide.{ℕ_discrete}
use Rattle.usb_machine.specs.declared.entry.TheConstants.{SERVER}
use Rattle.usb_machine.specs.declared.entry.Entry.{Entry}
use Rattle.usb_machine.specs.History.{Episode, episodes_of, episodes_after}
use Rattle.usb_machine.specs.Parts.{part_of}
use Rattle.usb_machine.specs.Legal.{IsLegal, empty, longer}
use Rattle.usb_scene.specs.declared.scene.Scene.{Scene}
use Rattle.usb_scene.specs.WellFormed.{IsWellFormed}
use Rattle.usb_trace.specs.Plan.{machine_of}
use Rattle.usb_trace.specs.Run.{Giveback, given_entries, episode_of, is_aside}
use Rattle.usb_trace.proofs.Episodes.{episodes-append}
use Rattle.usb_trace.specs.Devices.{IsApt}
use Rattle.usb_line.proofs.Serving.{no_middle}
use Rattle.usb_threads.specs.Apt.{MayHave, SendsApt, AreApt}
use Rattle.usb_threads.specs.Serving.{of_givebacks, completion_entries, served_entries}
use Rattle.usb_threads.proofs.Lists.{part-append}
use Rattle.usb_threads.proofs.Gives.{gives_in, gives-append, servers_gives, gives_kept, given_one, one_give}
use Rattle.usb_threads.proofs.Sending.{SendEach, SendEach-append, each_behind, are_apt, EndEach, ends_apt, as_many_episodes}
use Rattle.usb_threads.proofs.Senders.{aside_sends, given_sends, completion_sends}

-- an element of two lists stands in the first of them, or behind it
abbrev IsWithin : {X : Type 0} → List X → List X → X → List X → List X → Type 0
IsWithin {X} xs ys x ls rs = ((zs : List X) × (ls ≡ xs ++ x ∷ zs)) ⊎ ((zs : List X) × (xs ≡ ls ++ zs) × (zs ++ x ∷ ys ≡ rs))

within : {X : Type 0} (xs ys : List X) (x : X) (ls rs : List X) → xs ++ x ∷ ys ≡ ls ++ rs → IsWithin xs ys x ls rs
within xs ys x [] rs is = inr (xs, refl, is)
within [] ys x (l ∷ ls) rs is = let first : l ≡ x = cc (is) in inl (ls, λ i. first i ∷ ls)
within {X} (z ∷ xs) ys x (l ∷ ls) rs is = go (within xs ys x ls rs (cc (is)))
  where
    first : z ≡ l
    first = cc (is)

    go : IsWithin xs ys x ls rs → IsWithin (z ∷ xs) ys x (l ∷ ls) rs
    go (inl k) = inl (k.0, λ i. sym first i ∷ k.1 i)
    go (inr k) = inr (k.0, (λ i. first i ∷ k.1 i), k.2)

module _ (s : Scene) (good : IsWellFormed s) where
  -- an entry of these givebacks, after some of them, and before it as many Gives as these episodes, which are theirs
  module _ (r : Giveback) (rounds : List Giveback) (more : List Episode) (ys : List Entry) (x : Entry) where
    abbrev given : List Entry
    given = given_entries r.urb r.status r.finished

    abbrev others : List Entry
    others = flat_map (served_entries s) rounds

    -- where there is an episode, it is that of the first giveback
    first_sent : (es : List Episode) → es ++ more ≡ map episode_of (r ∷ rounds) → EndEach s es → 0 < length es → IsApt s r.urb r.sent
    first_sent [] e each some = absurd (omega arith)
    first_sent (d ∷ es) e each some = let same : d ≡ episode_of r = cc (e) in subst (λ (d : Episode). MayHave s d.urb d.transfer) same each.0

    -- it is one of the first giveback
    inside : (es : List Episode) (xs zs : List Entry) → es ++ more ≡ map episode_of (r ∷ rounds) → EndEach s es → gives_in xs ≡ length es
        → served_entries s r ≡ xs ++ x ∷ zs → SendsApt s x.event x.carried
    inside es xs zs e each n is = go (within xs zs x given (completion_entries s r) (sym is))
      where
        go : IsWithin xs zs x given (completion_entries s r) → SendsApt s x.event x.carried
        go (inl k) = (each_behind s xs (x ∷ k.0) (subst (SendEach s) k.1 (given_sends s r.urb r.status r.finished))).0
        go (inr k) =
            let whole = ap gives_in k.1 in
            let parts = gives-append given k.0 in
            let one = given_one s r.urb r.status r.finished in
            (each_behind s k.0 (x ∷ zs) (subst (SendEach s) (sym k.2) (completion_sends s good r (first_sent es e each (omega arith))))).0

    -- or of a later one
    behind : (es : List Episode) (xs ws : List Entry) → es ++ more ≡ map episode_of (r ∷ rounds) → EndEach s es → gives_in xs ≡ length es
        → xs ≡ served_entries s r ++ ws → ws ++ x ∷ ys ≡ others
        → ((ds : List Episode) → ds ++ more ≡ map episode_of rounds → EndEach s ds → gives_in ws ≡ length ds → ws ++ x ∷ ys ≡ others → SendsApt s x.event x.carried)
        → SendsApt s x.event x.carried
    behind [] xs ws e each n is there next =
        let whole = ap gives_in is in let parts = gives-append (served_entries s r) ws in let one = one_give s r in absurd (omega arith)
    behind (d ∷ es) xs ws e each n is there next =
        let whole = ap gives_in is in let parts = gives-append (served_entries s r) ws in let one = one_give s r in
        next es (cc (e)) each.1 (omega arith) there

  -- so it sends what its URB may have
  walk : (rounds : List Giveback) (es more : List Episode) (xs ys : List Entry) (x : Entry) → es ++ more ≡ map episode_of rounds → EndEach s es → gives_in xs ≡ length es
      → xs ++ x ∷ ys ≡ flat_map (served_entries s) rounds → SendsApt s x.event x.carried
  walk [] es more xs ys x e each n is = absurd (no_middle xs x ys (sym is))
  walk (r ∷ rounds) es more xs ys x e each n is =
      go (within xs ys x (served_entries s r) (flat_map (served_entries s) rounds) is) (λ ws ds. walk rounds ds more ws ys x)
    where
      go : IsWithin xs ys x (served_entries s r) (flat_map (served_entries s) rounds)
          → ((ws : List Entry) (ds : List Episode) → ds ++ more ≡ map episode_of rounds → EndEach s ds → gives_in ws ≡ length ds → ws ++ x ∷ ys ≡ flat_map (served_entries s) rounds → SendsApt s x.event x.carried)
          → SendsApt s x.event x.carried
      go (inl k) next = inside r rounds more ys x es xs k.0 e each n k.1
      go (inr k) next = behind r rounds more ys x es xs k.0 e each n k.1 k.2 (next k.0)

  -- the server made these givebacks in a legal history, and what the other passes send is apt
  module _ (h : List Entry) (legal : IsLegal (machine_of s) h) (rounds : List Giveback) (entries : of_givebacks (part_of h SERVER) ≡ flat_map (served_entries s) rounds)
      (gives : episodes_of h ≡ map episode_of rounds) (others : (q : ℕ) → q ≢ SERVER → SendEach s (part_of h q)) where
    -- an entry of the history, after those before it
    module _ (k : List Entry) (x : Entry) (more : List Entry) (is : h ≡ k ++ x ∷ more) (before : IsLegal (machine_of s) k) (each : SendEach s k) where
      part_is : part_of h x.pass ≡ part_of k x.pass ++ x ∷ part_of more x.pass
      part_is = ap (λ l. part_of l x.pass) is ∙ (part-append x.pass k (x ∷ more)
          ∙ ap (λ b. part_of k x.pass ++ cond b (x ∷ part_of more x.pass) (part_of more x.pass)) (eq-eqb x.pass x.pass refl))

      other : x.pass ≢ SERVER → SendsApt s x.event x.carried
      other off = (each_behind s (part_of k x.pass) (x ∷ part_of more x.pass) (subst (SendEach s) part_is (others x.pass off))).0

      abbrev old : List Entry
      old = of_givebacks (part_of k SERVER)

      abbrev new : List Entry
      new = of_givebacks (part_of more SERVER)

      -- what the server had made, and as many Gives in it as episodes were over
      server_part : x.pass ≡ SERVER → part_of h SERVER ≡ part_of k SERVER ++ x ∷ part_of more SERVER
      server_part at = subst (λ q. part_of h q ≡ part_of k q ++ x ∷ part_of more q) at part_is

      gives_before : gives_in old ≡ length (episodes_of k)
      gives_before = gives_kept (part_of k SERVER) ∙ (servers_gives (machine_of s) k before ∙ sym (as_many_episodes [] k))

      -- an entry of the server stands aside, or is one of a giveback
      own : x.pass ≡ SERVER → (kept : Bool) → not (is_aside x.event x.answer) ≡ kept → SendsApt s x.event x.carried
      own at false aside = aside_sends s x.event x.answer x.carried aside
      own at true kept = walk rounds (episodes_of k) (episodes_after k (x ∷ more)) old new x
          (sym (episodes-append [] k (x ∷ more)) ∙ (ap episodes_of (sym is) ∙ gives)) (ends_apt s k each) gives_before
          (ap (λ b. old ++ cond b (x ∷ new) new) (sym kept) ∙ (sym (filter-append (λ x. not (is_aside x.event x.answer)) (part_of k SERVER) (x ∷ part_of more SERVER))
          ∙ (ap of_givebacks (sym (server_part at)) ∙ entries)))

      next_apt : SendsApt s x.event x.carried
      next_apt = dite (ℕ_discrete x.pass SERVER) (λ at. own at (not (is_aside x.event x.answer)) refl) other

    -- one entry after another
    beginning : (k : List Entry) → IsLegal (machine_of s) k → (more : List Entry) → h ≡ k ++ more → SendEach s k
    beginning _ empty more is = tt
    beginning _ (longer k x before follows) more is =
        let whole : h ≡ k ++ x ∷ more = is ∙ append_assoc k (x ∷ []) more in
        let each = beginning k before (x ∷ more) whole in
        SendEach-append s k (x ∷ []) each (next_apt k x more whole before each, tt)

    pub all_apt : AreApt s h
    all_apt = are_apt s h (beginning h legal [] (sym (append-nil h)))
