-- A giveback more, or none, keeps what the controller promises.
use Rattle.std.proofs.Common.{◌≡◌, ◌+◌, not, Option, None, List, [], ◌∷◌, ◌++◌, length, map, sym, ap, ◌∙◌, subst, arith, append_assoc, append-nil}
use Rattle.std.specs.List.{flat_map}
use Rattle.std.proofs.lemmas.List.{map-append, length-map}
use Rattle.std.proofs.lemmas.List.Elements.{filter-append, All-push}
use Rattle.std.proofs.lemmas.Grind.{flat_map-append}
use Rattle.usb_machine.specs.declared.entry.TheConstants.{SERVER}
use Rattle.usb_machine.specs.declared.event.Event.TheVariants.{Give}
use Rattle.usb_machine.specs.declared.event.Answer.TheVariants.{Code as Status}
use Rattle.usb_machine.specs.declared.transfer.Transfer.{Transfer}
use Rattle.usb_machine.specs.declared.entry.Entry.{Entry}
use Rattle.usb_machine.specs.History.{Machine, Episode, episodes_of, home_of, pending_of}
use Rattle.usb_machine.specs.Parts.{part_of}
use Rattle.usb_machine.specs.Calls.{entry}
use Rattle.usb_scene.specs.declared.scene.Scene.{Scene}
use Rattle.usb_trace.specs.Plan.{machine_of}
use Rattle.usb_trace.specs.Run.{Giveback, is_aside, episode_of, is_first, firsts_of, IsGiveback}
use Rattle.usb_trace.proofs.Dues.{replies-push}
use Rattle.usb_trace.proofs.Episodes.{HaveNoGive, no_episode, no_first_given, episodes-append, firsts-append}
use Rattle.usb_machine.specs.Fresh.{Known, Sound}
use Rattle.usb_line.proofs.Returning.{AreHandled-push}
use Rattle.usb_threads.specs.Passes.{WentOn}
use Rattle.usb_threads.specs.Serving.{of_givebacks, served_entries, HasServed, GaveNothing, Gave}
use Rattle.usb_threads.proofs.Firsts.{AreFirst, AreFirst-push, firsts_each}
use Rattle.usb_threads.proofs.Sending.{apt_before}
use Rattle.usb_threads.proofs.Gives.{gives_in, gives-append, none_given, servers_gives, gives_kept, one_give}

pub kept-append : (xs ys : List Entry) → of_givebacks (xs ++ ys) ≡ of_givebacks xs ++ of_givebacks ys
kept-append xs ys = filter-append (λ x. not (is_aside x.event x.answer)) xs ys

module _ (s : Scene) (rounds : List Giveback) (p q : Known) (number : p.number ≡ SERVER) (sound : Sound (machine_of s) p) (old : HasServed s p.seen p.mine rounds) where
  abbrev g : Machine
  g = machine_of s

  -- as many Gives were made as the pass has entries of them
  own_gives : gives_in p.mine ≡ gives_in p.seen
  own_gives = ap gives_in (sym sound.own ∙ ap (part_of p.seen) number) ∙ servers_gives g p.seen sound.legal

  new_gives : (more : List Entry) → WentOn g p q more → gives_in q.seen ≡ gives_in p.seen + gives_in more
  new_gives more went =
      let a = servers_gives g q.seen went.sound.legal in
      let b = ap gives_in (sym (ap (part_of q.seen) (went.grown.number ∙ number)) ∙ (went.sound.own ∙ went.grown.mine)) in
      let c = gives-append p.mine more in
      let d = own_gives in omega arith

  -- of each giveback it is known whether it was of a first pending URB
  as_many : length (firsts_of g p.seen) ≡ length rounds
  as_many = firsts_each g [] p.seen ∙ (ap (λ (l : List Episode). length l) old.gives ∙ length-map rounds episode_of)

  pub gives_none : GaveNothing s p q → HasServed s q.seen q.mine rounds
  gives_none nothing =
      let went = nothing.went in
      let xs = went.grown.begins.more in
      let longer : gives_in q.seen ≡ gives_in (p.seen ++ xs) = ap gives_in went.grown.begins.is in
      let sum = gives-append p.seen xs in
      let new = new_gives nothing.more went in
      let kept = gives_kept nothing.more in
      let zero : gives_in (of_givebacks nothing.more) ≡ 0 = ap gives_in nothing.aside in
      let none : HaveNoGive xs = none_given xs (omega arith) in record {
        entries = ap of_givebacks went.grown.mine ∙ (kept-append p.mine nothing.more ∙ (ap (λ l. of_givebacks p.mine ++ l) nothing.aside ∙ (append-nil (of_givebacks p.mine) ∙ old.entries)));
        gives = ap episodes_of went.grown.begins.is ∙ (no_episode p.seen xs none ∙ old.gives);
        firsts = subst (AreFirst rounds) (sym (ap (firsts_of g) went.grown.begins.is ∙ no_first_given g p.seen xs none)) old.firsts;
        replies = λ apt. old.replies (apt_before s q.seen p.seen went.grown.begins apt);
        moves = old.moves;
        handled = old.handled;
      }

  module _ (r : Giveback) (gave : Gave s rounds p q r) where
    abbrev give : Entry
    give = entry SERVER (Give record { 0 = r.urb }) (Status r.status) None

    abbrev between : List Entry
    between = gave.late.more

    whole : q.seen ≡ (p.seen ++ between) ++ give ∷ gave.later
    whole = gave.split ∙ ap (λ l. l ++ give ∷ gave.later) gave.late.is

    sum : gives_in q.seen ≡ gives_in p.seen + gives_in between + (1 + gives_in gave.later)
    sum = let a = ap gives_in whole in let b = gives-append (p.seen ++ between) (give ∷ gave.later) in let c = gives-append p.seen between in omega arith

    only : gives_in q.seen ≡ gives_in p.seen + 1
    only = let a = new_gives gave.more gave.went in let b = gives_kept gave.more in let c = ap gives_in gave.entries in let d = one_give s r in omega arith

    none_between : HaveNoGive between
    none_between = none_given between (let a = sum in let b = only in omega arith)

    none_later : HaveNoGive gave.later
    none_later = none_given gave.later (let a = sum in let b = only in omega arith)

    apart : q.seen ≡ (gave.before ++ give ∷ []) ++ gave.later
    apart = gave.split ∙ sym (append_assoc gave.before (give ∷ []) gave.later)

    abbrev end : Option Transfer → Episode
    end t = record { urb = r.urb; status = Status r.status; transfer = t }

    pub gives_more : HasServed s q.seen q.mine (rounds ++ r ∷ [])
    gives_more = record {
      entries = ap of_givebacks gave.went.grown.mine ∙ (kept-append p.mine gave.more ∙ ((λ i. old.entries i ++ gave.entries i)
          ∙ (ap (λ l. flat_map (served_entries s) rounds ++ l) (sym (append-nil (served_entries s r))) ∙ sym (flat_map-append (served_entries s) rounds (r ∷ [])))));
      gives = episodes;
      firsts = subst (AreFirst (rounds ++ r ∷ [])) (sym first_is) (AreFirst-push rounds (firsts_of g p.seen) r (is_first r.urb (pending_of g gave.before (home_of g r.urb))) as_many old.firsts gave.first);
      replies = λ apt. replies-push s rounds r (old.replies (apt_before s q.seen p.seen gave.went.grown.begins apt)) (gave.replies apt);
      moves = All-push (IsGiveback s) rounds r old.moves gave.moves;
      handled = AreHandled-push s [] rounds r old.handled gave.handled;
    }
      where
        episodes : episodes_of q.seen ≡ map episode_of (rounds ++ r ∷ [])
        episodes = ap episodes_of apart ∙ (no_episode (gave.before ++ give ∷ []) gave.later none_later ∙ (episodes-append [] gave.before (give ∷ [])
            ∙ ((λ i. (ap episodes_of gave.late.is ∙ (no_episode p.seen between none_between ∙ old.gives)) i ++ end (gave.was_sent i) ∷ [])
            ∙ sym (map-append episode_of rounds (r ∷ [])))))

        first_is : firsts_of g q.seen ≡ firsts_of g p.seen ++ is_first r.urb (pending_of g gave.before (home_of g r.urb)) ∷ []
        first_is = ap (firsts_of g) apart ∙ (no_first_given g (gave.before ++ give ∷ []) gave.later none_later ∙ (firsts-append g [] gave.before (give ∷ [])
            ∙ ap (λ l. l ++ is_first r.urb (pending_of g gave.before (home_of g r.urb)) ∷ []) (ap (firsts_of g) gave.late.is ∙ no_first_given g p.seen between none_between)))
