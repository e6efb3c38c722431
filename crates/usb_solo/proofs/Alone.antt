-- What a step does for the only pass.
use Rattle.std.proofs.Common.{◌≡◌, ℕ, ◌<◌, [], ◌∷◌, ◌++◌, Option, sym, refl, ap, ◌∙◌, subst, append-nil}
use Rattle.usb_machine.specs.declared.entry.Entry.{Entry}
use Rattle.usb_machine.specs.declared.transfer.Transfer.{Transfer}
use Rattle.usb_machine.specs.declared.event.Event.{Event}
use Rattle.usb_machine.specs.declared.event.Answer.{Answer}
use Rattle.usb_machine.specs.History.{Machine}
use Rattle.usb_machine.specs.Parts.{part_of}
use Rattle.usb_machine.specs.Legal.{IsLegal, May, Carries}
use Rattle.usb_machine.specs.Plain.{IsNext, HasRoom}
use Rattle.usb_machine.specs.Calls.{entry}
use Rattle.usb_machine.proofs.Steps.{part_own}
use Rattle.usb_machine.specs.Fresh.{Fresh, Looked}
use Rattle.usb_machine.proofs.Growing.{begins_self}
use Rattle.usb_turn_host.specs.Stock.{IsStock, machine_of}
use Rattle.usb_solo.specs.declared.solo.SoloPass.{SoloPass}
use Rattle.usb_turn_host.specs.Turning.{IsLater}
use Rattle.usb_solo.specs.Solo.{IsSolo, known_of}

module _ (g : Machine) (p : SoloPass) (event : Event) (answer : Answer) (carried : Option Transfer) (here : IsSolo g p) where
  abbrev x : Entry
  x = entry p.number event answer carried

  pub next : May g p.diary p.number event × HasRoom p.diary p.number event → Carries g event carried → IsNext (machine_of p.stock.setup) p.diary p.number event carried
  next may carries = subst (λ m. IsNext m p.diary p.number event carried) (sym here.machine) record { pass = here.below; may = may.0; room = may.1; carries = carries }

  pub stepped : (q : SoloPass) → IsStock q.stock (p.diary ++ x ∷ []) → q.stock.setup ≡ p.stock.setup → q.diary ≡ p.diary ++ x ∷ [] → q.number ≡ p.number → IsSolo g q × Fresh g (known_of p) (known_of q) (x ∷ [])
  stepped q stock setup diary number =
      let stock' : IsStock q.stock q.diary = subst (IsStock q.stock) (sym diary) stock in
      let machine : machine_of q.stock.setup ≡ g = ap machine_of setup ∙ here.machine in
      let own : part_of q.diary q.number ≡ q.diary = ap (part_of q.diary) number ∙ (ap (λ h. part_of h p.number) diary ∙ (part_own p.diary x ∙ (ap (λ l. l ++ x ∷ []) here.own ∙ sym diary))) in (
        record { stock = stock'; machine = machine; below = subst (λ n. n < g.passes) (sym number) here.below; own = own },
        record {
          grown = record { number = number; begins = record { more = x ∷ []; is = diary }; mine = diary };
          sound = record { legal = subst (λ m. IsLegal m q.diary) machine stock'.plain.legal; own = own };
          ends = record { before = p.diary; others = []; last = x; ends = diary; entries = refl };
        },
      )

pub glanced : (g : Machine) (p q : SoloPass) → IsSolo g p → IsStock q.stock p.diary → q.stock.setup ≡ p.stock.setup → q.diary ≡ p.diary → q.number ≡ p.number → IsSolo g q × Looked g (known_of p) (known_of q)
glanced g p q here stock setup diary number =
    let stock' : IsStock q.stock q.diary = subst (IsStock q.stock) (sym diary) stock in
    let machine : machine_of q.stock.setup ≡ g = ap machine_of setup ∙ here.machine in
    let own : part_of q.diary q.number ≡ q.diary = ap (part_of q.diary) number ∙ (ap (λ h. part_of h p.number) diary ∙ (here.own ∙ sym diary)) in (
      record { stock = stock'; machine = machine; below = subst (λ n. n < g.passes) (sym number) here.below; own = own },
      record {
        grown = record { number = number; begins = record { more = []; is = diary ∙ sym (append-nil p.diary) }; mine = diary ∙ sym (append-nil p.diary) };
        sound = record { legal = subst (λ m. IsLegal m q.diary) machine stock'.plain.legal; own = own };
      },
    )

pub is_later : (g : Machine) (p : SoloPass) → IsSolo g p → IsLater g (known_of p) p.diary
is_later g p here = record { legal = subst (λ m. IsLegal m p.diary) here.machine here.stock.plain.legal; begins = begins_self p.diary; own = here.own }
