-- A giveback in its two parts: what came back is kept and noted, and then its handler runs, or memory is lacking.
use Rattle.std.proofs.Common.{ℕ, ◌≡◌, ◌<◌, ◌+◌, ◌-◌, zero, suc, get_or, false, Option, Some, None, List, [], ◌∷◌, ◌++◌, length, refl, sym, ap, ◌∙◌, subst, arith, length-append}
use Rattle.std.specs.Prelude.{slice_get, slice_set}
use Rattle.std.proofs.lemmas.List.{length-set}
use Rattle.usb_types.specs.declared.errno.Code.{Code}
use Rattle.usb_types.specs.declared.urb.Action.{Action}
use Rattle.usb_machine.specs.declared.transfer.Transfer.{Transfer}
use Rattle.usb_machine.specs.declared.plain.Plain.{Plain}
use Rattle.usb_machine.specs.Plain.{Stands, urbs_of}
use Rattle.usb_trace.specs.declared.rows.GivebackRow.{GivebackRow}
use Rattle.usb_trace.specs.declared.rows.Outcome.{Outcome}
use Rattle.usb_line.specs.declared.run.UrbRow.{UrbRow}
use Rattle.usb_line.specs.declared.run.LineRun.{LineRun}
use Rattle.usb_trace.specs.Plan.{machine_of, question_at}
use Rattle.usb_line.specs.Back.{given_after, is_again, row_back, CanAsk, CanPoseQuestion, CanGiveBack, GaveStatus, Handled, IsPosedBy, QuestionBy, KeptAndNoted, HandlerRan, GaveBack, GaveUp}
use Rattle.usb_line.proofs.DriverQuestions.{can_ask_kept, noted_there}

-- the transfer rests, and its handler ends
pub gave_up : (old new : LineRun) (middle noted : Plain) (u : ℕ) (ended : Option Code) (t : Transfer) (status : Code) (o : Outcome) → GaveStatus old.plain middle u ended status → noted ≡ middle → Handled noted new.plain u false t.number None o → GaveUp old new u ended t
gave_up old new middle noted u ended t status o gave same handled s h r stands may number rests =
    (handled s h r (subst (λ (p : Plain). Stands p (machine_of s) (given_after h r)) (sym same) (gave s h r stands may).1) may.can may.at number (ap is_again rests) (subst (λ (x : Outcome). IsPosedBy s (question_at s r.urb) x None) (sym rests) refl)).1

-- the last item is replaced
pub last_set : (rows : List GivebackRow) (row x : GivebackRow) (o : Outcome) (k : ℕ) → k ≡ length rows → x ≡ get_or (rows ++ row ∷ []) k x
    → slice_set (rows ++ row ∷ []) k (record x { outcome = o }) ≡ rows ++ record row { outcome = o } ∷ []
last_set [] row x o zero e at = (λ i. record (at i) { outcome = o } ∷ [])
last_set [] row x o (suc k) e at = absurd (omega arith)
last_set (z ∷ rows) row x o zero e at = absurd (omega arith)
last_set (z ∷ rows) row x o (suc k) e at = ap (λ l. z ∷ l) (last_set rows row x o k (omega arith) at)

pub last_filled : (given rows : List GivebackRow) (row x : GivebackRow) (o : Outcome) (k : ℕ) → given ≡ rows ++ row ∷ [] → k ≡ length given - 1 → x ≡ get_or given k x → slice_set given k (record x { outcome = o }) ≡ rows ++ record row { outcome = o } ∷ []
last_filled given rows row x o k is e at =
    let long : length given ≡ length rows + 1 = ap (λ l. length l) is ∙ length-append rows (row ∷ []) in
    ap (λ l. slice_set l k (record x { outcome = o })) is ∙ last_set rows row x o k (omega arith) (at ∙ ap (λ l. get_or l k x) is)

-- a list with an item more is not empty
not_empty : {X : Type 0} (xs ys : List X) (x : X) → ys ≡ xs ++ x ∷ [] → 0 < length ys
not_empty xs ys x is = let all : length ys ≡ length xs + 1 = ap (λ l. length l) is ∙ length-append xs (x ∷ []) in omega arith

module _ (run new : LineRun) (plain : Plain) (u : ℕ) (status : Code) (t : Transfer) (action : Action) (rest : new ≡ record run { plain = plain; ends = new.ends; cores = new.cores; given = new.given })
    (count : urbs_of plain ≡ urbs_of run.plain) (can : CanGiveBack run u) (noted : KeptAndNoted (record run { plain = plain }) new u status t action) where
  same_urbs : new.urbs ≡ run.urbs
  same_urbs = ap (λ (r : LineRun). r.urbs) rest

  same_plain : new.plain ≡ plain
  same_plain = ap (λ (r : LineRun). r.plain) rest

  many_ends : length new.ends.items ≡ length run.ends.items
  many_ends = ap (λ l. length l) noted.kept.ends_so ∙ length-set run.ends.items noted.row.home (record noted.kept.end { received = noted.kept.received })

  pub there_still : u < length new.urbs.items
  there_still = subst (λ n. u < n) (λ i. length (sym same_urbs i).items) can.there

  pub known_still : u < urbs_of new.plain
  known_still = subst (λ n. u < n) (sym (ap urbs_of same_plain ∙ count)) can.known

  pub kept_one : 0 < length new.given.items
  kept_one = not_empty run.given.items new.given.items _ noted.kept.told

  was_at : (row : UrbRow) → slice_get new.urbs.items u ≡ Some row → slice_get run.urbs.items u ≡ Some row
  was_at row at = (λ i. slice_get (sym same_urbs i).items u) ∙ at

  same_row : (row : UrbRow) → slice_get new.urbs.items u ≡ Some row → row ≡ noted.row
  same_row row at = let both : Some row ≡ Some noted.row = sym (was_at row at) ∙ noted.at in cc

  pub poses : (row : UrbRow) → slice_get new.urbs.items u ≡ Some row → CanPoseQuestion new.cores.items row.owner
  poses row at = subst (λ (x : UrbRow). CanPoseQuestion new.cores.items x.owner) (sym (same_row row at)) (noted_there run.cores.items new.cores.items noted.row.owner _ status t action noted.noted)

  pub asks : (row : UrbRow) → slice_get new.urbs.items u ≡ Some row → CanAsk new row.owner
  asks row at = can_ask_kept run new row.owner same_urbs many_ends (ap urbs_of same_plain ∙ count) (can.asks row (was_at row at))

  -- and with the handler it is a giveback
  module _ (ended : Option Code) (gave : GaveStatus run.plain plain u ended status) (last : LineRun) (ran : HandlerRan new last u action t) where
    row_is : ran.row ≡ noted.row
    row_is = same_row ran.row ran.at

    pub whole : GaveBack run last u ended t
    whole = record {
      status = status;
      did = ran.did;
      row = noted.row;
      at = noted.at;
      end = noted.kept.end;
      there = noted.kept.there;
      received = noted.kept.received;
      action = action;
      decided = new;
      given = subst (λ (p : Plain). GaveStatus run.plain p u ended status) (sym same_plain) gave;
      more = noted.kept.more;
      ends_so = noted.kept.ends_so;
      noted = noted.noted;
      decided_so = rest ∙ (λ i. record run { plain = sym same_plain i; ends = new.ends; cores = new.cores; given = new.given });
      posed_question = ran.posed_question;
      asking = ran.asking;
      asked = subst (λ (x : UrbRow). QuestionBy new ran.asking x.owner action ran.posed_question) row_is ran.asked;
      asking_so = ran.asking_so;
      acted = ran.acted;
      handled = ran.handled;
      rows = ran.rows ∙ (λ i. slice_set (same_urbs i).items u (row_back ran.did action t (row_is i)));
      told = ran.told run.given.items _ noted.kept.told;
      acted_ends = ran.acted_ends;
      acted_cores = ran.acted_cores;
      host = ran.host ∙ ap (λ (r : LineRun). r.down) rest;
      same_devices = ran.same_devices ∙ ap (λ (r : LineRun). r.devices) rest;
      settled = ran.settled;
    }
