-- One interface more is probed.
use Rattle.usb_prepare.proofs.Lists.{take_all}
use Rattle.std.proofs.Common.{ℕ, ◌≡◌, ◌+◌, ◌<◌, ◌≤◌, Bool, true, false, cond, Option, Some, None, Result, Ok, Err, List, [], ◌∷◌, ◌++◌, length, take, get_or, map, fold, refl, sym, ap, ◌∙◌, subst}
use Rattle.std.proofs.lemmas.List.{take_more}
use Rattle.std.proofs.lemmas.List.Sums.{fold-append}
use Rattle.usb_desc.specs.declared.tree.Alt.{Alt}
use Rattle.usb_ctrl.specs.declared.enumerator.Attached.{Attached}
use Rattle.usb_bind.specs.Interfaces.{interfaces_of}
use Rattle.usb_xfer.specs.declared.script.DeviceScript.{DeviceScript}
use Rattle.usb_device.specs.declared.scripted.Scripted.{Scripted}
use Rattle.usb_device.specs.Device.{Stands}
use Rattle.usb_bind.specs.declared.bound.Bound.{Bound}
use Rattle.usb_bind.specs.declared.row.IdRow.{IdRow}
use Rattle.usb_bind.specs.declared.fault.ProbeFault.{ProbeFault}
use Rattle.usb_bind.specs.Profile.{profile_rows}
use Rattle.usb_bind.specs.Pool.{Homes}
use Rattle.usb_bind.specs.Board.{with_binding, without, released_all}
use Rattle.usb_bind.specs.Probe.{probed, board_after, pool_after}
use Rattle.usb_bind.proofs.Probing.{refused}
use Rattle.usb_bind.proofs.Undone.{cancel_undoes}
use Rattle.usb_bind.proofs.Binding.{is_made}
use Rattle.usb_prepare.specs.declared.found.Probe.{Probe}
use Rattle.usb_prepare.specs.declared.found.Probe.TheVariants as probe
use Rattle.usb_prepare.specs.declared.probing.Bindings.{Bindings}
use Rattle.usb_prepare.specs.Probing.{Asked, Probing, requests_of, ask_each, id_by, id_told, probed_by, with_probe, AsksEach, FitsRoom, TellsId}
use Rattle.usb_prepare.specs.Prepared.{probed_device}
use Rattle.usb_prepare.specs.Bindings.{numbers_of, IsProbing}

module _ (script : DeviceScript) (p : Probing) (probes : List Probe) (old : Bindings) (device : Scripted) (far : IsProbing p script old device probes) (n i : ℕ) (rows : List IdRow) (rows_so : rows ≡ profile_rows) where
  abbrev due : Result Bound ProbeFault
  due = probed p.board p.pool profile_rows n i

  abbrev behind : Homes
  behind = pool_after p.board p.pool profile_rows n i

  -- what the board and the pool of the object answer
  pub due_is : probed old.board old.pool rows n i ≡ due
  due_is j = probed (far.board j) (far.pool j) (rows_so j) n i

  behind_is : pool_after old.board old.pool rows n i ≡ behind
  behind_is j = pool_after (far.board j) (far.pool j) (rows_so j) n i

  module _ (new : Bindings) (asked : Scripted) (r : Result Bound ProbeFault) (told : r ≡ probed old.board old.pool rows n i) where
    pub refused_so : (fault : ProbeFault) → r ≡ Err fault → new.board ≡ board_after old.board r → new.pool ≡ pool_after old.board old.pool rows n i → new.ids ≡ old.ids → asked ≡ device
        → IsProbing (probed_by script p behind due) script new asked (probes ++ probe.Refused fault ∷ [])
    refused_so fault is board pool ids same =
        let e : due ≡ Err fault = sym due_is ∙ (sym told ∙ is) in
        subst (λ (x : Result Bound ProbeFault). IsProbing (probed_by script p behind x) script new asked (probes ++ probe.Refused fault ∷ [])) (sym e) record {
          board = board ∙ (ap (board_after old.board) is ∙ far.board);
          pool = pool ∙ (behind_is ∙ (refused p.board p.pool profile_rows n i fault e).1);
          heard = subst (λ (d : Scripted). Stands d script p.calls) (sym same) far.heard;
          went = ap (λ l. l ++ probe.Refused fault ∷ []) far.went;
          told = ids ∙ far.told;
        }

    module _ (b : Bound) (is : r ≡ Ok b) where
      e : due ≡ Ok b
      e = sym due_is ∙ (sym told ∙ is)

      abbrev reply : Asked
      reply = ask_each script p.calls (requests_of b.driver b.interface)

      own : b.interface ≡ i
      own = (is_made p.board p.pool profile_rows n i b e).face

      answered_so : (answered : Bool) → AsksEach device (requests_of b.driver i) answered asked → (reply.answered ≡ answered) × Stands asked script reply.calls
      answered_so answered asks = let at = subst (λ j. AsksEach device (requests_of b.driver j) answered asked) (sym own) asks in at script p.calls far.heard

      -- the first bytes of the room are the id that was reported
      told_so : (count : ℕ) (room id : List ℕ) → FitsRoom script → TellsId device b.driver i (Some count) room → id ≡ take count room → id ≡ id_told script p.calls b
      told_so count room id fits tells copied = copied ∙ (tells script p.calls far.heard fits ∙ ap (id_by b.driver script p.calls) (sym own))

      pub bound_so : (count : ℕ) (room id : List ℕ) → FitsRoom script → TellsId device b.driver i (Some count) room → id ≡ take count room
          → AsksEach device (requests_of b.driver i) true asked → new.board ≡ board_after old.board r → new.pool ≡ pool_after old.board old.pool rows n i → new.ids ≡ old.ids ++ id ∷ []
          → IsProbing (probed_by script p behind due) script new asked (probes ++ probe.Bound ∷ [])
      bound_so count room id fits tells copied asks board pool ids =
          let a = answered_so true asks in
          subst (λ (x : Result Bound ProbeFault). IsProbing (probed_by script p behind x) script new asked (probes ++ probe.Bound ∷ [])) (sym e)
          (subst (λ (c : Bool). IsProbing (cond c more none) script new asked (probes ++ probe.Bound ∷ [])) (sym a.0) record {
            board = board ∙ (ap (board_after old.board) is ∙ ap (λ x. with_binding x b) far.board);
            pool = pool ∙ behind_is;
            heard = a.1;
            went = ap (λ l. l ++ probe.Bound ∷ []) far.went;
            told = ids ∙ (λ j. far.told j ++ told_so count room id fits tells copied j ∷ []);
          })
        where
          more : Probing
          more = record { board = with_binding p.board b; pool = behind; calls = reply.calls; probes = p.probes ++ probe.Bound ∷ []; ids = p.ids ++ id_told script p.calls b ∷ [] }

          none : Probing
          none = record p { calls = reply.calls; probes = p.probes ++ probe.Cancelled ∷ [] }

      pub cancelled_so : AsksEach device (requests_of b.driver i) false asked → new.board ≡ without (board_after old.board r) b → new.pool ≡ released_all (pool_after old.board old.pool rows n i) b.urbs → new.ids ≡ old.ids
          → IsProbing (probed_by script p behind due) script new asked (probes ++ probe.Cancelled ∷ [])
      cancelled_so asks board pool ids =
          let a = answered_so false asks in
          let undone = cancel_undoes old.board old.pool rows n i b (sym told ∙ is) in
          subst (λ (x : Result Bound ProbeFault). IsProbing (probed_by script p behind x) script new asked (probes ++ probe.Cancelled ∷ [])) (sym e)
          (subst (λ (c : Bool). IsProbing (cond c more none) script new asked (probes ++ probe.Cancelled ∷ [])) (sym a.0) record {
            board = board ∙ (ap (λ x. without (board_after old.board x) b) told ∙ (undone.0 ∙ far.board));
            pool = pool ∙ (undone.1 ∙ far.pool);
            heard = a.1;
            went = ap (λ l. l ++ probe.Cancelled ∷ []) far.went;
            told = ids ∙ far.told;
          })
        where
          more : Probing
          more = record { board = with_binding p.board b; pool = behind; calls = reply.calls; probes = p.probes ++ probe.Bound ∷ []; ids = p.ids ++ id_told script p.calls b ∷ [] }

          none : Probing
          none = record p { calls = reply.calls; probes = p.probes ++ probe.Cancelled ∷ [] }

-- the interface with this number is probed
abbrev pub number_probed : DeviceScript → ℕ → Probing → ℕ → Probing
number_probed script n p i = probed_by script p (pool_after p.board p.pool profile_rows n i) (probed p.board p.pool profile_rows n i)

-- those with these numbers are, one after another
abbrev pub numbers_probed : DeviceScript → ℕ → Probing → List ℕ → Probing
numbers_probed script n p is = fold (number_probed script n) p is

same_fold : (script : DeviceScript) (n : ℕ) (p : Probing) (alts : List Alt) → fold (with_probe script n) p alts ≡ numbers_probed script n p (map (λ (a : Alt). a.number) alts)
same_fold script n p [] = refl
same_fold script n p (a ∷ alts) = same_fold script n (with_probe script n p a) alts

pub all_probed : (script : DeviceScript) (n : ℕ) (p : Probing) (o : Option Attached) → numbers_probed script n p (numbers_of o) ≡ probed_device n script o p
all_probed script n p None = refl
all_probed script n p (Some a) = sym (same_fold script n p (interfaces_of a.config))

pub one_longer : (script : DeviceScript) (n k i : ℕ) (p : Probing) (is : List ℕ) → k < length is → i ≡ get_or is k i → number_probed script n (numbers_probed script n p (take k is)) i ≡ numbers_probed script n p (take (k + 1) is)
one_longer script n k i p is near at =
    ap (number_probed script n (numbers_probed script n p (take k is))) at
    ∙ (sym (fold-append (number_probed script n) p (take k is) (get_or is k i ∷ [])) ∙ ap (numbers_probed script n p) (sym (take_more is k i near)))

pub all_after : (script : DeviceScript) (n k : ℕ) (p : Probing) (o : Option Attached) (is : List ℕ) → is ≡ numbers_of o → length is ≤ k → numbers_probed script n p (take k is) ≡ probed_device n script o p
all_after script n k p o is same l = ap (numbers_probed script n p) (take_all is k l ∙ same) ∙ all_probed script n p o
