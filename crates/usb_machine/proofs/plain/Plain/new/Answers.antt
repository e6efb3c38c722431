use Rattle.std.proofs.Common.{◌≡◌, ◌<◌, length, replicate, ap, ◌∙◌, arith, Some, refl, ◌+◌, ◌*◌}
use Rattle.std.specs.Prelude.{slice_get}
use Rattle.std.proofs.lemmas.Option.{slice_get-get_or}
use Rattle.std.proofs.lemmas.List.{get_or-replicate, length-replicate}
use Rattle.usb_machine.specs.State.{opening}
use Rattle.usb_machine.specs.Legal.{empty}
use Rattle.usb_machine.specs.Rows.{no_row}
use Rattle.usb_machine.proofs.PassRows.{place_below}
use Rattle.usb_machine.specs.Queues.{no_urbs, homed_at}
use Rattle.usb_machine.proofs.plain.Plain.new.Goals as goal

pub returns-clause-opening : goal.returns-clause-opening
returns-clause-opening c =
    let n = length c.items.result.now in let e = c.in_ok-opened.ensures in let passes = c.requires.passes in
    let count : length (replicate n opening) ≡ n = length-replicate n opening in
    let urbs : length c.in_ok-opened.field-0.states.items ≡ n = ap length e.states ∙ count in record {
      legal = empty;
      passes = e.passes;
      homes = e.homes ∙ c.items.ensures;
      urbs = urbs ∙ ap length c.items.ensures;
      ends = e.count ∙ ap length c.items-2.ensures;
      states = λ u l. let low : u < n = omega arith in ap (λ xs. slice_get xs u) e.states ∙ (slice_get-get_or (replicate n opening) u opening (omega arith) ∙ ap Some (get_or-replicate n u opening opening low));
      queues = λ d l. e.ends d (omega arith) ∙ ap (λ homes. Some (no_urbs (homed_at homes d))) c.items.ensures;
      few = λ p u. omega arith;
      bottom = refl;
      most = omega arith;
      rows = λ p u l m.
          let low : u < n = omega arith in let at = place_below (c.args.passes + 2) n p u l low in
          let place : p * length c.in_ok-opened.field-0.states.items + u ≡ p * n + u = ap (λ k. p * k + u) urbs in
          let all = length-replicate ((c.args.passes + 2) * n) no_row in
          ap (slice_get c.in_ok-opened.field-0.rows.items) place ∙ (ap (λ xs. slice_get xs (p * n + u)) e.rows ∙ (slice_get-get_or (replicate ((c.args.passes + 2) * n) no_row) (p * n + u) no_row (omega arith)
          ∙ ap Some (get_or-replicate ((c.args.passes + 2) * n) (p * n + u) no_row no_row at)));
    }
