-- What main's submits of the drivers' reads find, and what they leave.
use Rattle.std.proofs.Common.{ℕ, zero, suc, ◌≡◌, ◌+◌, ◌<◌, ◌≤◌, Bool, true, false, cond, replicate, Option, Some, None, List, [], ◌++◌, length, refl, sym, ap, ◌∙◌, subst, arith, append-nil, add-one}
use Rattle.std.specs.Prelude.{count_by, slice_get, option_map}
use Rattle.std.specs.List.{flat_map}
use Rattle.std.proofs.lemmas.List.{flat_map_more, length-replicate}
use Rattle.std.proofs.lemmas.List.Sums.{sum_by_push, count_by-le-length}
use Rattle.usb_types.specs.declared.errno.Errno.{Errno}
use Rattle.usb_types.specs.declared.errno.Code.{Code}
use Rattle.usb_types.specs.declared.errno.Code.TheVariants.{Zero}
use Rattle.usb_machine.specs.declared.transfer.Transfer.{Transfer}
use Rattle.usb_machine.specs.declared.entry.Entry.{Entry}
use Rattle.usb_machine.specs.declared.layout.Shape.{Shape}
use Rattle.usb_machine.specs.State.{refusal}
use Rattle.usb_machine.specs.Shapes.{HasWindow, Accepts, shape_fault}
use Rattle.usb_machine.specs.History.{state_of}
use Rattle.usb_machine.specs.Plain.{urbs_of as count_of}
use Rattle.usb_machine.specs.Calls.{submit_entries}
use Rattle.usb_scene.specs.declared.scene.Scene.{Scene}
use Rattle.usb_prepare.specs.Below.{below}
use Rattle.usb_prepare.specs.Ends.{shape_at, shapes_of}
use Rattle.usb_prepare.specs.Layout.{home}
use Rattle.usb_prepare.proofs.Below.{length-below}
use Rattle.usb_prepare.proofs.Facts.{home_near}
use Rattle.usb_class.specs.declared.owner.Owner.{Owner}
use Rattle.usb_line.specs.declared.run.UrbRow.{UrbRow}
use Rattle.usb_line.specs.declared.run.LineRun.{LineRun}
use Rattle.usb_trace.specs.Plan.{is_numbered, number_of, owner_of, reading, read_by, read_of, main_pass}
use Rattle.usb_trace.specs.Run.{submit_of, read_entries_by, read_entries}
use Rattle.usb_line.specs.Line.{Progress, at_start, adds}
use Rattle.usb_line.specs.Shows.{Shows}
use Rattle.usb_line.specs.Reads.{read_below, MayRead}
use Rattle.usb_line.specs.Sent.{MaySend, Sent}
use Rattle.usb_trace.proofs.Entries.{AreAbout, other_state}
use Rattle.usb_line.proofs.Submits.{submit_about}
use Rattle.usb_trace.proofs.Homes.{has_home, home_shape}
use Rattle.usb_line.proofs.Killing.{plain_urbs}
use Rattle.usb_trace.proofs.Owners.{owner_size}
use Rattle.usb_trace.proofs.Apt.{bare_apt}

-- the entries of a read are about its URB
pub read_about : (s : Scene) (u : ℕ) → AreAbout u (read_entries s u)
read_about s u = by_read (read_of s u)
  where
    by_fault : (t : Transfer) (o : Option Errno) → AreAbout u (submit_of o (main_pass s) u t Zero)
    by_fault t (Some x) = tt
    by_fault t None = submit_about (main_pass s) u t Zero

    by_read : (o : Option Transfer) → AreAbout u (read_entries_by s u o)
    by_read None = tt
    by_read (Some t) = by_fault t (shape_fault (shape_at s (home s u)) t)

abbrev pub reads_below : Scene → ℕ → List Entry
reads_below s n = flat_map (read_entries s) (below n)

pub reads-suc : (s : Scene) (n : ℕ) → reads_below s (suc n) ≡ reads_below s n ++ read_entries s n
reads-suc s n = sym (flat_map_more (read_entries s) [] (below n) n)

-- an URB whose read is still to come is as it was
pub reads_above : (s : Scene) (n u : ℕ) → n ≤ u → state_of (reads_below s n) u ≡ state_of [] u
reads_above s zero u l = refl
reads_above s (suc n) u l = ap (λ h. state_of h u) (reads-suc s n)
    ∙ (other_state n (reads_below s n) (read_entries s n) (read_about s n) u (λ e. absurd (omega arith)) ∙ reads_above s n u (omega arith))

pub read_next : (s : Scene) (u : ℕ) → read_below s (u + 1) ≡ adds (read_below s u) (read_entries s u)
read_next s u = ap (λ n. read_below s n) (add-one u) ∙ ap (λ h. adds at_start h) (reads-suc s u)

-- the numbers of the transfers
pub number_next : (s : Scene) (u number : ℕ) (o : Option Owner) (more : ℕ) → number ≡ number_of s u → o ≡ owner_of s u → more ≡ cond (is_numbered s u) 1 0 → number + more ≡ number_of s (u + 1)
number_next s u number o more is owned adds =
    let next : count_by (is_numbered s) (below (u + 1)) ≡ count_by (is_numbered s) (below u) + cond (is_numbered s u) 1 0
    = ap (λ n. count_by (is_numbered s) (below n)) (add-one u) ∙ sum_by_push (λ v. cond (is_numbered s v) 1 0) (below u) u in
    omega arith

pub few_numbers : (s : Scene) (u : ℕ) → number_of s u ≤ 2000000 + u
few_numbers s u = let most = count_by-le-length (is_numbered s) (below u) in let long = length-below u in omega arith

pub few_more : (b : Bool) (n : ℕ) → n ≡ cond b 1 0 → n ≤ 1
few_more true n is = omega arith
few_more false n is = omega arith

-- what is read
of_read : (number : ℕ) (size : Option ℕ) (t : Transfer) → option_map (reading number) size ≡ Some t → (n : ℕ) × (size ≡ Some n) × (t ≡ reading number n)
of_read number None t is = cc
of_read number (Some n) t is = let same : reading number n ≡ t = cc in (n, refl, sym same)

pub read_parts : (o : Option Owner) (number : ℕ) (t : Transfer) → read_by o number ≡ Some t → (w : Owner) × (n : ℕ) × (o ≡ Some w) × (w.size ≡ Some n) × (t ≡ reading number n)
read_parts None number t is = cc
read_parts (Some w) number t is = let of = of_read number w.size t is in (w, of.0, refl, of.1, of.2)

pub reading_window : (number n : ℕ) → n < 4096 → HasWindow (reading number n)
reading_window number n few = let long : length (replicate {A = ℕ} n 0) ≡ n = length-replicate {A = ℕ} n 0 in record { window = omega arith; buffer = omega arith; within = omega arith }

module _ (s : Scene) (run : LineRun) (p u : ℕ) (o : Option Owner) (number : ℕ) (may : MayRead s run p u o number) where
  pub row_near : u < length run.urbs.items
  row_near = subst (λ n. u < n) (sym may.shows.all_urbs) may.near

  pub end_near : (row : UrbRow) → slice_get run.urbs.items u ≡ Some row → row.home < length run.ends.items
  end_near row at = subst (λ n. row.home < n) (sym may.shows.all_ends) (subst (λ (e : ℕ). e < length (shapes_of s)) (sym (may.shows.each_urb u row at).at) (home_near s may.good u may.near))

  pub known : u < count_of run.plain
  known = subst (λ n. u < n) (sym (plain_urbs s (read_below s u) run may.shows)) may.near

  read_is : (r : Option Transfer) → r ≡ read_by o number → read_of s u ≡ r
  read_is r is = (λ j. read_by (sym may.owned j) (sym may.numbered j)) ∙ sym is

  -- nothing is submitted
  nothing_read : (now : LineRun) → read_entries s u ≡ [] → Shows s (read_below s u) now → Shows s (read_below s (u + 1)) now
  nothing_read now none shows =
      let f = read_below s u in
      let same : adds f [] ≡ f = (λ j. record f { history = append-nil f.history j }) in
      subst (λ (g : Progress). Shows s g now) (sym (read_next s u ∙ (ap (adds f) none ∙ same))) shows

  pub shows_none : (r : Option Transfer) → r ≡ read_by o number → r ≡ None → Shows s (read_below s (u + 1)) run
  shows_none r is none = nothing_read run (ap (read_entries_by s u) (read_is r is ∙ none)) may.shows

  module _ (t : Transfer) (is : Some t ≡ read_by o number) where
    pub shows_fault : (x : Errno) → shape_fault (shape_at s (home s u)) t ≡ Some x → Shows s (read_below s (u + 1)) run
    shows_fault x fault = nothing_read run (ap (read_entries_by s u) (read_is (Some t) is) ∙ ap (λ e. submit_of e (main_pass s) u t Zero) fault) may.shows

    module _ (none : shape_fault (shape_at s (home s u)) t ≡ None) where
      pub may_send : MaySend s (read_below s u) run p u t
      may_send =
          let parts = read_parts o number t (sym is) in
          record {
            shows = may.shows;
            apt = bare_apt s may.good u parts.0 (sym may.owned ∙ parts.2) t (ap (λ (t : Transfer). t.setup) parts.4) none;
            ask = record {
              there = (let pass = may.pass in omega arith);
              has = has_home s may.good u may.near;
              window = subst HasWindow (sym parts.4) (reading_window number parts.1 (owner_size s u parts.0 parts.1 (sym may.owned ∙ parts.2) parts.3));
              unmoved = ap (λ (t : Transfer). t.actual) parts.4;
              taken = subst (λ (x : Option Shape). Accepts x t) (sym (home_shape s may.good u may.near)) none;
            };
          }

      pub shows_read : (code : Code) (now : LineRun) → Sent s (read_below s u) p u t code now → Shows s (read_below s (u + 1)) now
      shows_read code now sent =
          let f = read_below s u in
          let zero : code ≡ Zero = sent.gate ∙ ap refusal (reads_above s u u (omega arith)) in
          let entries : read_entries s u ≡ submit_entries p u t code
          = ap (read_entries_by s u) (read_is (Some t) is) ∙ (ap (λ e. submit_of e (main_pass s) u t Zero) none ∙ (λ j. submit_entries (sym may.pass j) u t (sym zero j))) in
          subst (λ (g : Progress). Shows s g now) (sym (read_next s u ∙ ap (adds f) entries)) sent.shows
