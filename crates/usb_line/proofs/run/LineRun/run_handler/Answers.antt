use Rattle.std.proofs.Common.{◌≡◌, [], ◌∷◌, ◌++◌, length, Some, refl, sym, ap, ◌∙◌, subst}
use Rattle.std.specs.Prelude.{slice_get, slice_set}
use Rattle.std.specs.Vec.{with_item}
use Rattle.std.proofs.lemmas.List.{length-set}
use Rattle.std.proofs.lemmas.Option.{slice_get-get_or}
use Rattle.usb_machine.specs.declared.plain.Plain.{Plain}
use Rattle.usb_class.specs.Handler.{goes_again}
use Rattle.usb_line.specs.declared.run.LineRun.{LineRun}
use Rattle.usb_line.specs.Back.{Handled}
use Rattle.usb_line.proofs.DriverQuestions.{poses_within, poses_settle}
use Rattle.usb_line.proofs.run.LineRun.run_handler.Goals as goal

pub posed_question-posed_question-requires-clause-core : goal.posed_question-posed_question-requires-clause-core
posed_question-posed_question-requires-clause-core c =
    let run = c.args.self.now in
    let row = c.index-row.result.now in
    c.requires.core row (slice_get-get_or run.urbs.items c.args.urb row c.requires.there ∙ ap Some (sym c.index-row.ensures))

pub posed_question-posed_question-requires-clause-near : goal.posed_question-posed_question-requires-clause-near
posed_question-posed_question-requires-clause-near c =
    let run = c.args.self.now in
    let row = c.index-row.result.now in
    c.requires.asks row (slice_get-get_or run.urbs.items c.args.urb row c.requires.there ∙ ap Some (sym c.index-row.ensures))

pub handle-outcome-requires-clause-asks : goal.handle-outcome-requires-clause-asks
handle-outcome-requires-clause-asks c =
    let run = c.args.self.now in
    let row = c.index-row.result.now in
    let at : slice_get run.urbs.items c.args.urb ≡ Some row = slice_get-get_or run.urbs.items c.args.urb row c.requires.there ∙ ap Some (sym c.index-row.ensures) in
    poses_within run c.posed_question-posed_question.new.self row.owner c.args.action c.posed_question-posed_question.result c.posed_question-posed_question.ensures.asked (c.requires.asks row at) (ap (λ (r : LineRun). r.plain) c.posed_question-posed_question.ensures.rest)

pub settle-requires : goal.settle-requires
settle-requires c =
    let run = c.args.self.now in
    let row = c.index-row.result.now in
    let at : slice_get run.urbs.items c.args.urb ≡ Some row = slice_get-get_or run.urbs.items c.args.urb row c.requires.there ∙ ap Some (sym c.index-row.ensures) in
    let asking = c.posed_question-posed_question.new.self in
    poses_settle run asking row.owner c.args.action c.posed_question-posed_question.result c.posed_question-posed_question.ensures.asked (c.requires.asks row at) (record asking {
      plain = c.handle-outcome.new.plain;
      urbs = with_item asking.urbs c.args.urb (record { home = row.home; owner = row.owner; again = c.saturating_sub.result; transfer = c.left_with.result });
      given = c.fill_in.new.given;
    }) refl
    (length-set asking.urbs.items c.args.urb _ ∙ ap (λ (r : LineRun). length r.urbs.items) c.posed_question-posed_question.ensures.rest)

pub returns : goal.returns
returns c =
    let run = c.args.self.now in
    let asking = c.posed_question-posed_question.new.self in
    let row = c.index-row.result.now in
    let same : asking ≡ record run { cores = asking.cores } = c.posed_question-posed_question.ensures.rest in
    record {
      ran = record {
        did = c.handle-outcome.result;
        row = row;
        at = slice_get-get_or run.urbs.items c.args.urb row c.requires.there ∙ ap Some (sym c.index-row.ensures);
        posed_question = c.posed_question-posed_question.result;
        asking = asking;
        asked = c.posed_question-posed_question.ensures.asked;
        asking_so = same;
        acted = record asking {
          plain = c.handle-outcome.new.plain;
          urbs = with_item asking.urbs c.args.urb (record { home = row.home; owner = row.owner; again = c.saturating_sub.result; transfer = c.left_with.result });
          given = c.fill_in.new.given;
        };
        handled = subst (λ (p : Plain). Handled p c.handle-outcome.new.plain c.args.urb (goes_again c.args.action) c.args.t.number c.posed_question-posed_question.result c.handle-outcome.result) (ap (λ (r : LineRun). r.plain) same)
            (subst (λ b. Handled asking.plain c.handle-outcome.new.plain c.args.urb b c.args.t.number c.posed_question-posed_question.result c.handle-outcome.result) c.goes_again.ensures c.handle-outcome.ensures.handled);
        rows = (λ i. slice_set (same i).urbs.items c.args.urb (record { home = row.home; owner = row.owner; again = c.saturating_sub.ensures i; transfer = c.left_with.ensures i }));
        told = λ given kept is. c.fill_in.ensures given kept (ap (λ (r : LineRun). r.given.items) same ∙ is);
        acted_ends = refl;
        acted_cores = refl;
        host = ap (λ (r : LineRun). r.down) same;
        same_devices = ap (λ (r : LineRun). r.devices) same;
        settled = c.settle.ensures.settled;
      };
    }
