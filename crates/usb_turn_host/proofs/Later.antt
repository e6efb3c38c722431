-- What the server has seen of an URB stays so while it makes no entry.
use Rattle.std.proofs.Common.{◌≡◌, ℕ, ◌<◌, ◌≤◌, true, false, List, sym, refl, ap, ◌∙◌, subst, arith}
use mathlib.Core.List.{IsPrefix}
use Rattle.usb_machine.specs.declared.entry.Entry.{Entry}
use Rattle.usb_machine.specs.declared.state.Mark.TheVariants.{Clear, Unlinked, Finished}
use Rattle.usb_machine.specs.History.{Machine, state_of}
use Rattle.usb_machine.specs.Parts.{part_of}
use Rattle.usb_machine.specs.Legal.{IsLegal}
use Rattle.usb_machine.specs.declared.entry.TheConstants.{SERVER}
use Rattle.usb_machine.specs.History.{pending_of}
use Rattle.usb_machine.specs.Fresh.{Known}
use Rattle.usb_turn_host.specs.Turning.{IsLater}
use Rattle.std.proofs.Common.{Some, None}
use Rattle.usb_types.specs.declared.urb.Why.{Why}
use Rattle.usb_machine.specs.declared.state.Mark.{Mark as MarkState}
use Rattle.std.proofs.Common.{append-nil}
use Rattle.usb_machine.specs.History.{home_of, HasHome}
use Rattle.usb_machine.specs.Legal.{times}
use Rattle.usb_machine.proofs.Rooms.{queued_has_home, pending_is_queued}
use Rattle.usb_machine.specs.Fresh.{Looked}
use Rattle.usb_machine.specs.Tokens.{is_finished, IsPending}
use Rattle.usb_machine.specs.State.{is_clear, why_of}
use Rattle.usb_machine.proofs.Server as machine_server
use Rattle.usb_machine.specs.Tokens.{gives_of}
use Rattle.usb_turn_host.proofs.Serving.{gives_same}
use Rattle.usb_machine.proofs.Server.{pending_own, mark_stands, running_few}
use Rattle.usb_machine.proofs.Staying.{runs_stay, open_stays}

module _ (g : Machine) (p : Known) (h : List Entry) (server : p.number ≡ SERVER) (later : IsLater g p h) where
  own_part : part_of h 0 ≡ p.mine
  own_part = subst (λ n. part_of h n ≡ p.mine) server later.own

  -- the pending URBs are those of the server's own entries
  pub pending_later : (e : ℕ) → pending_of g h e ≡ pending_of g p.mine e
  pending_later e = pending_own g e h later.legal ∙ ap (λ m. pending_of g m e) own_part

  begins : IsPrefix p.seen h
  begins = (later.begins.more, sym later.begins.is)

  same_part : part_of p.seen p.number ≡ p.mine → part_of p.seen 0 ≡ part_of h 0
  same_part own = subst (λ n. part_of p.seen n ≡ p.mine) server own ∙ sym own_part

  pub runs_later : (u : ℕ) → g.bottom ≡ 0 → part_of p.seen p.number ≡ p.mine → 0 < (state_of p.seen u).handlers → 0 < (state_of h u).handlers
  runs_later u bottom own = runs_stay g u bottom p.seen h later.legal begins (same_part own)

  pub marked_later : (u : ℕ) → part_of p.seen p.number ≡ p.mine → is_clear (state_of p.seen u).mark ≡ false → is_clear (state_of h u).mark ≡ false
  marked_later u own = mark_stands g u p.seen h later.legal begins (same_part own)

  pub few_later : (u n : ℕ) → gives_of p.mine < n → (state_of h u).handlers < n
  few_later u n lt = less (state_of h u).handlers (machine_server.gives_of (part_of h 0)) (gives_of p.mine) n (running_few g u h later.legal) (gives_same (part_of h 0) ∙ ap gives_of own_part) lt
    where
      less : (a b c d : ℕ) → a ≤ b → b ≡ c → c < d → a < d
      less a b c d h k l = omega arith

-- a mark that is no unlink's and not finished is clear
pub clear_of : (m : MarkState) → why_of m ≡ None → is_finished m ≡ false → is_clear m ≡ true
clear_of Clear none open' = refl
clear_of (Unlinked w) none open' = absurd (let bad : Some w ≡ None = none in cc)
clear_of (Finished c) none open' = absurd (let bad : true ≡ false = open' in cc)

pub unlinked_of : (m : MarkState) (w : Why) → why_of m ≡ Some w → m ≡ Unlinked w
unlinked_of Clear w is = absurd (cc)
unlinked_of (Unlinked v) w is = let same : v ≡ w = cc in ap Unlinked same
unlinked_of (Finished c) w is = absurd (cc)

-- what is pending has a home
pub pending_has_home : (g : Machine) (p : Known) (u : ℕ) → p.number ≡ SERVER → IsLegal g p.seen → part_of p.seen p.number ≡ p.mine → IsPending g p u → HasHome g u
pending_has_home g p u server legal own pending =
    let mine : part_of p.seen 0 ≡ p.mine = subst (λ n. part_of p.seen n ≡ p.mine) server own in
    let same : pending_of g p.seen (home_of g u) ≡ pending_of g p.mine (home_of g u) = pending_own g (home_of g u) p.seen legal ∙ ap (λ m. pending_of g m (home_of g u)) mine in
    queued_has_home g u p.seen legal (pending_is_queued g p.seen u legal (subst (λ us. 0 < times u us) (sym same) pending))

-- what the server looks at and has not finished is unlinked or clear
pub looked_open : (g : Machine) (p q : Known) (u : ℕ) → p.number ≡ SERVER → part_of p.seen p.number ≡ p.mine → Looked g p q → is_finished (state_of p.seen u).mark ≡ false → is_finished (state_of q.seen u).mark ≡ false
looked_open g p q u server own l open' =
    let before : part_of p.seen 0 ≡ p.mine = subst (λ n. part_of p.seen n ≡ p.mine) server own in
    let after : part_of q.seen 0 ≡ p.mine = subst (λ n. part_of q.seen n ≡ p.mine) (l.grown.number ∙ server) (l.sound.own ∙ (l.grown.mine ∙ append-nil p.mine)) in
    open_stays g u p.seen q.seen l.sound.legal (l.grown.begins.more, sym l.grown.begins.is) (before ∙ sym after) open'
