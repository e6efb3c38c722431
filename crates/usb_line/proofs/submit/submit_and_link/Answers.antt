use Rattle.std.proofs.Common.{◌≡◌, [], ◌∷◌, ◌++◌, Some, refl, sym, ap, ◌∙◌, subst}
use Rattle.usb_types.specs.declared.errno.Code.{Code}
use Rattle.usb_types.specs.declared.errno.Code.TheVariants.{Zero, Fault}
use Rattle.usb_machine.specs.declared.event.Event.TheVariants.{Submit, Link}
use Rattle.usb_machine.specs.declared.event.Answer.TheVariants.{Code as Status}
use Rattle.usb_machine.specs.declared.entry.Entry.{Entry}
use Rattle.usb_machine.specs.State.{refusal}
use Rattle.usb_machine.specs.History.{state_of}
use Rattle.usb_machine.specs.Plain.{Stands}
use Rattle.usb_machine.specs.Calls.{entry, plain_entry, submit_entries}
use Rattle.usb_trace.specs.Plan.{machine_of}
use Rattle.usb_line.specs.Steps.{told_code}
use Rattle.usb_line.proofs.MayFollow.{submit_follows, link_follows, submit_owes}
use Rattle.usb_line.proofs.Stepping.{enters, two_more, is_zero_code}
use Rattle.usb_line.proofs.submit.submit_and_link.Goals as goal

pub returns-in-Fault-clause-asked : goal.returns-in-Fault-clause-asked
returns-in-Fault-clause-asked c = λ s h t stands may number.
    let u = c.args.urb.0 in let p = c.args.pass in
    let says = refusal (state_of h u) in
    let x : Entry = entry p (Submit record { 0 = u } t.number) (Status says) (Some t) in
    let one = enters _ _ _ _ _ c.enter.ensures.entered s h x refl (λ i. Submit record { 0 = u } (sym number i)) stands (submit_follows s h p u may.there t may.has may.window may.unmoved may.taken) tt in
    let told : c.code_in-code.result ≡ says = c.code_in-code.ensures ∙ ap told_code one.0 in
    let fault : says ≡ Fault c.in-Fault.field-0 = sym told ∙ c.in-Fault.is in (
      told,
      subst (λ (a : Code). Stands c.enter.new.plain (machine_of s) (h ++ submit_entries p u t a)) (sym c.in-Fault.is)
          (subst (λ (a : Code). Stands c.enter.new.plain (machine_of s) (h ++ entry p (Submit record { 0 = u } t.number) (Status a) (Some t) ∷ [])) fault one.1),
    )

pub returns-clause-asked : goal.returns-clause-asked
returns-clause-asked c = λ s h t stands may number.
    let u = c.args.urb.0 in let p = c.args.pass in
    let says = refusal (state_of h u) in
    let x : Entry = entry p (Submit record { 0 = u } t.number) (Status says) (Some t) in
    let y : Entry = entry p (Submit record { 0 = u } t.number) (Status Zero) (Some t) in
    let one = enters _ _ _ _ _ c.enter.ensures.entered s h x refl (λ i. Submit record { 0 = u } (sym number i)) stands (submit_follows s h p u may.there t may.has may.window may.unmoved may.taken) tt in
    let told : c.code_in-code.result ≡ says = c.code_in-code.ensures ∙ ap told_code one.0 in
    let zero : c.code_in-code.result ≡ Zero = is_zero_code c.code_in-code.result c.in_default.not-Fault in
    let mid = subst (λ (a : Code). Stands c.enter.new.plain (machine_of s) (h ++ entry p (Submit record { 0 = u } t.number) (Status a) (Some t) ∷ [])) (sym told ∙ zero) one.1 in
    let two = enters _ _ _ _ _ c.enter-2.ensures.entered s (h ++ y ∷ []) (plain_entry p (Link record { 0 = u })) refl refl mid (link_follows s (h ++ y ∷ []) p u may.there (submit_owes h p u t.number (Some t))) tt in (
      told,
      subst (λ (a : Code). Stands c.enter-2.new.plain (machine_of s) (h ++ submit_entries p u t a)) (sym zero)
          (two_more c.enter-2.new.plain (machine_of s) h y (plain_entry p (Link record { 0 = u })) two.1),
    )
