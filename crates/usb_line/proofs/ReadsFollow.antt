-- Main's first entries: each read of a driver that its endpoint takes is accepted, since nothing came before it but reads of
-- other URBs.
use Rattle.std.proofs.Common.{ℕ, zero, suc, ◌≡◌, ◌≢◌, ◌<◌, ◌≤◌, Option, Some, None, List, [], ◌∷◌, ◌++◌, refl, sym, ap, ◌∙◌, subst, arith, append-nil}
use Rattle.std.specs.Prelude.{slice_get}
use Rattle.std.specs.List.{flat_map}
use Rattle.std.proofs.lemmas.List.Elements.{All-nil}
use Rattle.std.proofs.lemmas.Grind.{flat_map-append}
use Rattle.usb_types.specs.declared.errno.Errno.{Errno}
use Rattle.usb_types.specs.declared.errno.Code.{Code}
use Rattle.usb_types.specs.declared.errno.Code.TheVariants.{Zero}
use Rattle.usb_machine.specs.declared.layout.Shape.{Shape}
use Rattle.usb_machine.specs.declared.transfer.Transfer.{Transfer}
use Rattle.usb_machine.specs.declared.entry.Entry.{Entry}
use Rattle.usb_machine.specs.Shapes.{HasWindow, Accepts, shape_fault}
use Rattle.usb_machine.specs.State.{refusal}
use Rattle.usb_machine.specs.History.{state_of}
use Rattle.usb_machine.specs.Legal.{empty}
use Rattle.usb_machine.specs.Calls.{submit_entries}
use Rattle.usb_scene.specs.declared.scene.Scene.{Scene}
use Rattle.usb_scene.specs.WellFormed.{IsWellFormed}
use Rattle.usb_prepare.specs.Below.{below}
use Rattle.usb_prepare.specs.Ends.{shapes_of, shape_at}
use Rattle.usb_prepare.specs.Layout.{urb_count, home}
use Rattle.usb_class.specs.declared.owner.Owner.{Owner}
use Rattle.usb_trace.specs.Plan.{machine_of, owner_of, number_of, reading, read_of, main_pass}
use Rattle.usb_trace.specs.Devices.{IsBare}
use Rattle.usb_trace.specs.Run.{submit_of, read_entries_by, read_entries, opening}
use Rattle.usb_line.specs.Line.{at_start, begun}
use Rattle.usb_trace.proofs.Owners.{owner_size}
use Rattle.usb_line.proofs.Reading.{read_parts, reading_window}
use Rattle.usb_trace.proofs.Entries.{AreOf, AreOf-append, AreAbout, other_state, AllFollow, AllFollow-append}
use Rattle.usb_trace.proofs.Homes.{has_home, home_shape}
use Rattle.usb_line.proofs.Submits.{submit_about, submit_pass, submit_follow}
use Rattle.usb_line.proofs.Calm.{calm_empty}
use Rattle.usb_trace.proofs.Dues.{due-none}
use Rattle.usb_line.proofs.Serving.{AreBare, AreBare-append, submit_bare, Serves}
use Rattle.usb_line.proofs.Others.{others_serve}
use Rattle.usb_line.proofs.Held.{AreNoReject, AreNoReject-append}
use Rattle.usb_line.proofs.Passes.{main_not_server, main_is_pass}

-- this is the read of URB u, and its home takes it
pub record IsRead (s : Scene) (u : ℕ) (t : Transfer) : Type 0 where
  pub is : read_of s u ≡ Some t
  pub takes : shape_fault (shape_at s (home s u)) t ≡ None

module _ (s : Scene) where
  -- what holds of no entries, and of the submit of a read, holds of what main does with an URB
  read_each : (P : List Entry → Type 0) (u : ℕ) → P [] → ((t : Transfer) → IsRead s u t → P (submit_entries (main_pass s) u t Zero)) → P (read_entries s u)
  read_each P u nothing some = go (read_of s u) refl
    where
      go : (o : Option Transfer) → read_of s u ≡ o → P (read_entries_by s u o)
      go None is = nothing
      go (Some t) is = at (shape_fault (shape_at s (home s u)) t) refl
        where
          at : (fault : Option Errno) → shape_fault (shape_at s (home s u)) t ≡ fault → P (submit_of fault (main_pass s) u t Zero)
          at None takes = some t record { is = is; takes = takes }
          at (Some e) takes = nothing

  module _ (u : ℕ) (t : Transfer) (read : IsRead s u t) where
    parts : (w : Owner) × (n : ℕ) × (owner_of s u ≡ Some w) × (w.size ≡ Some n) × (t ≡ reading (number_of s u) n)
    parts = read_parts (owner_of s u) (number_of s u) t read.is

    same : t ≡ reading (number_of s u) parts.1
    same = parts.4

    -- a read has its window, moved nothing, and has no setup packet
    pub read_window : HasWindow t
    read_window = subst HasWindow (sym same) (reading_window (number_of s u) parts.1 (owner_size s u parts.0 parts.1 parts.2 parts.3))

    pub read_unmoved : t.actual ≡ 0
    read_unmoved = ap (λ (t : Transfer). t.actual) same

    pub read_setup : t.setup ≡ None
    read_setup = ap (λ (t : Transfer). t.setup) same

    pub read_bare : IsBare (owner_of s u) t.setup
    read_bare = subst (IsBare (owner_of s u)) (sym read_setup) (go (owner_of s u))
      where
        go : (o : Option Owner) → IsBare o None
        go None = tt
        go (Some o) = λ e. refl

  -- the reads of the URBs below n
  abbrev pub reads : ℕ → List Entry
  reads n = flat_map (read_entries s) (below n)

  pub reads-push : (n : ℕ) → reads (suc n) ≡ reads n ++ read_entries s n
  reads-push n = flat_map-append (read_entries s) (below n) (n ∷ []) ∙ ap (λ l. reads n ++ l) (append-nil (read_entries s n))

  pub reads_pass : (n : ℕ) → AreOf (main_pass s) (reads n)
  reads_pass zero = tt
  reads_pass (suc n) = subst (AreOf (main_pass s)) (sym (reads-push n))
      (AreOf-append (main_pass s) (reads n) (read_entries s n) (reads_pass n) (read_each (AreOf (main_pass s)) n tt (λ t is. submit_pass (main_pass s) n t Zero)))

  reads_bare : (n : ℕ) → AreBare s (reads n)
  reads_bare zero = tt
  reads_bare (suc n) = subst (AreBare s) (sym (reads-push n))
      (AreBare-append s (reads n) (read_entries s n) (reads_bare n) (read_each (AreBare s) n tt (λ t is. submit_bare s (main_pass s) n t Zero (read_bare n t is))))

  pub reads_no_reject : (n : ℕ) → AreNoReject (reads n)
  reads_no_reject zero = tt
  reads_no_reject (suc n) = subst AreNoReject (sym (reads-push n)) (AreNoReject-append (reads n) (read_entries s n) (reads_no_reject n) (read_each AreNoReject n tt (λ t is. (tt, (tt, tt)))))

  -- the other URBs are as at the beginning
  pub reads_state : (n v : ℕ) → n ≤ v → state_of (reads n) v ≡ state_of [] v
  reads_state zero v l = refl
  reads_state (suc n) v l =
      let off : v ≢ n = λ e. absurd (omega arith) in
      ap (λ h. state_of h v) (reads-push n)
      ∙ (other_state n (reads n) (read_entries s n) (read_each (AreAbout n) n tt (λ t is. submit_about (main_pass s) n t Zero)) v off ∙ reads_state n v (omega arith))

  -- so the gate accepts the next read
  pub reads_gate : (n : ℕ) → refusal (state_of (reads n) n) ≡ Zero
  reads_gate n = ap refusal (reads_state n n (omega arith))

  module _ (good : IsWellFormed s) where
    pub read_takes : (u : ℕ) → u < urb_count s → (t : Transfer) → IsRead s u t → Accepts (slice_get (shapes_of s) (home s u)) t
    read_takes u near t read = subst (λ (o : Option Shape). Accepts o t) (sym (home_shape s good u near)) read.takes

    read_follow : (u : ℕ) → u < urb_count s → (t : Transfer) → IsRead s u t → AllFollow (machine_of s) (reads u) (submit_entries (main_pass s) u t Zero)
    read_follow u near t read = subst (λ (c : Code). AllFollow (machine_of s) (reads u) (submit_entries (main_pass s) u t c)) (reads_gate u)
        (submit_follow s (reads u) (main_pass s) u t (main_is_pass s) (has_home s good u near) (read_window u t read) (read_unmoved u t read) (read_takes u near t read))

    pub reads_follow : (n : ℕ) → n ≤ urb_count s → AllFollow (machine_of s) [] (reads n)
    reads_follow zero l = tt
    reads_follow (suc n) l = subst (AllFollow (machine_of s) []) (sym (reads-push n))
        (AllFollow-append (machine_of s) [] (reads n) (read_entries s n) (reads_follow n (omega arith)) (read_each (AllFollow (machine_of s) (reads n)) n tt (read_follow n (omega arith))))

  start_serves : Serves s at_start
  start_serves = record {
    legal = empty;
    calm = calm_empty;
    server = refl;
    gives = refl;
    firsts = tt;
    replies = λ e. sym (due-none s e []);
    moving = λ e. record { none = λ p. refl; whole = λ u others t p q. (let x : [] ≡ u ∷ others = p in cc); due = λ u others t p q. (let x : [] ≡ u ∷ others = p in cc) };
    moves = All-nil (_);
    handled = tt;
    bare = λ u. tt;
  }

  -- what holds between blocks holds after the reads
  pub begun_serves : IsWellFormed s → Serves s (begun s)
  begun_serves good = others_serve s at_start (main_pass s) (opening s) (main_not_server s) (reads_pass (urb_count s)) (reads_follow good (urb_count s) (omega arith)) (reads_bare (urb_count s)) start_serves
