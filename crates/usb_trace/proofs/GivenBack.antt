-- An URB is given back as often as a submit of it was accepted.
use Rattle.std.proofs.Common.{ℕ, ◌≡◌, ◌+◌, Bool, true, false, cond, eqb, List, [], ◌∷◌, ◌++◌, refl, sym, ap, ◌∙◌, arith}
use Rattle.std.specs.Prelude.{map}
use Rattle.std.proofs.lemmas.List.Sums.{fold-append, sum_by-cons}
use Rattle.usb_machine.specs.declared.event.Event.{Event}
use Rattle.usb_machine.specs.declared.event.Event.TheVariants.{Give}
use Rattle.usb_machine.specs.declared.event.Answer.{Answer}
use Rattle.usb_machine.specs.declared.entry.Entry.{Entry}
use Rattle.usb_machine.specs.History.{Episode, state_of, ended_by, episodes_after, episodes_of}
use Rattle.usb_machine.specs.Laws.{bit, submits, gives, gives_after}
use Rattle.usb_machine.proofs.Ends.{by_end}
use Rattle.usb_machine.proofs.Rooms.{queued_has_home, home_below}
use Rattle.usb_machine.proofs.Turns.{takes_turns}
use Rattle.usb_scene.specs.declared.scene.Scene.{Scene}
use Rattle.usb_trace.specs.Plan.{machine_of}
use Rattle.usb_trace.specs.Run.{CallRecord, Giveback, IsRun, episode_of, times_back}
use Rattle.usb_trace.proofs.Episodes.{episodes-append}

-- how many of these episodes are of URB u
abbrev among : ℕ → List Episode → ℕ
among u [] = 0
among u (e ∷ es) = cond (eqb e.urb u) 1 0 + among u es

among-append : (u : ℕ) (es fs : List Episode) → among u (es ++ fs) ≡ among u es + among u fs
among-append u [] fs = omega arith
among-append u (e ∷ es) fs = let a = among-append u es fs in omega arith

give_more : (u n : ℕ) (b : List Entry) (e : Event) (a : Answer) → gives_after u n e ≡ n + among u (ended_by b e a ++ [])
give_more u n b (Give v) a = go (eqb v.0 u)
  where
    go : (t : Bool) → cond t (n + 1) n ≡ n + (cond t 1 0 + 0)
    go true = omega arith
    go false = omega arith
give_more u n b _ a = omega arith

-- each Give ends an episode
gives_among : (u : ℕ) (h : List Entry) → gives h u ≡ among u (episodes_of h)
gives_among u = by_end (λ h. gives h u ≡ among u (episodes_of h)) refl
    (λ m x old. fold-append (λ n (y : Entry). gives_after u n y.event) 0 m (x ∷ [])
    ∙ (ap (λ n. gives_after u n x.event) old
    ∙ (give_more u (among u (episodes_of m)) m x.event x.answer
    ∙ sym (ap (among u) (episodes-append [] m (x ∷ [])) ∙ among-append u (episodes_of m) (episodes_after m (x ∷ []))))))

back_among : (u : ℕ) (rounds : List Giveback) → among u (map episode_of rounds) ≡ times_back u rounds
back_among u [] = refl
back_among u (r ∷ rounds) = ap (λ n. cond (eqb r.urb u) 1 0 + n) (back_among u rounds) ∙ sym (sum_by-cons (λ (r : Giveback). cond (eqb r.urb u) 1 0) r rounds)

module _ (s : Scene) (h : List Entry) (call_records : List CallRecord) (rounds : List Giveback) (run : IsRun s h call_records rounds) where
  pub none_queued : (u : ℕ) → (state_of h u).queued ≡ false
  none_queued u = go (state_of h u).queued refl
    where
      go : (b : Bool) → (state_of h u).queued ≡ b → b ≡ false
      go true is = sym is ∙ (run.over.urbs u (home_below (machine_of s) u (queued_has_home (machine_of s) u h run.legal is))).0
      go false is = refl

  pub back_as_often : (u : ℕ) → submits h u ≡ times_back u rounds
  back_as_often u =
      let turns = (takes_turns (machine_of s) u h run.legal).turns in
      let none = ap bit (none_queued u) in
      let back = gives_among u h ∙ (ap (among u) run.gives ∙ back_among u rounds) in
      omega arith
