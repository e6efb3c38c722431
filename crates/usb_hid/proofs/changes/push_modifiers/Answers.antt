use Rattle.std.proofs.Common.{◌≡◌, ℕ, ◌<◌, List, ◌++◌, not, eqb, ap, sym, ◌∙◌, arith}
use Rattle.std.proofs.lemmas.List.{append-nil}
use Rattle.std.specs.Int.{bit_at}
use Rattle.usb_hid.specs.declared.event.Event.{Event}
use Rattle.usb_hid.specs.Changes.{turned}
use Rattle.usb_hid.specs.Reports.{is_set, modifier_key}
use Rattle.usb_hid.proofs.Modifiers.{changes_below, changes_below-none, changes_below-all, modifiers_told}
use Rattle.usb_hid.proofs.changes.push_modifiers.Goals as goal

pub loop-n-init : goal.loop-n-init
loop-n-init c =
    sym (ap (λ (xs : List Event). c.args.events.now.items ++ xs) (changes_below-none c.args.old c.args.new) ∙ append-nil c.args.events.now.items)

pub loop-n-preserved : goal.loop-n-preserved
loop-n-preserved c =
    let l : c.loop-n.n < 8 = omega arith in
    let differs : not (eqb c.bit.result c.bit-in-loop-n.result) ≡ not (eqb (bit_at c.args.old c.loop-n.n) (bit_at c.args.new c.loop-n.n)) = cc in
    let event : c.turned.result ≡ turned (is_set c.args.new c.loop-n.n) (modifier_key c.loop-n.n) = cc in
    modifiers_told c.loop-n.n c.args.old c.args.new c.args.events.now.items c.loop-n.events.items c.push_if.new.events.items
    (not (eqb c.bit.result c.bit-in-loop-n.result)) c.turned.result l c.loop-n.invariant differs event c.in_ok-push_if.ensures.ok

pub returns-clause-ok : goal.returns-clause-ok
returns-clause-ok c =
    let l : c.loop-n.n ≡ 8 = omega arith in
    c.loop-n.invariant
    ∙ ap (λ (n : ℕ). c.args.events.now.items ++ changes_below n c.args.old c.args.new) l
    ∙ ap (λ (xs : List Event). c.args.events.now.items ++ xs) (changes_below-all c.args.old c.args.new)
