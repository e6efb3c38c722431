-- All endpoints are woken, one after another.
use Rattle.std.proofs.Common.{ℕ, zero, suc, ◌≡◌, ◌+◌, ◌<◌, List, [], ◌∷◌, ◌++◌, length, map, take, drop, Option, Some, None, refl, sym, ap, ◌∙◌, subst, arith, add-one}
use Rattle.std.specs.Prelude.{slice_get, slice_set, slice_index_or}
use Rattle.std.proofs.lemmas.List.{length-map}
use Rattle.usb_machine.specs.declared.transfer.Transfer.{Transfer}
use Rattle.usb_scene.specs.declared.scene.Scene.{Scene}
use Rattle.usb_line.specs.declared.run.EndRow.{EndRow}
use Rattle.usb_line.specs.declared.run.LineRun.{LineRun}
use Rattle.usb_machine.specs.Plain.{Stands}
use Rattle.usb_line.specs.declared.run.UrbRow.{UrbRow}
use Rattle.usb_trace.specs.Plan.{machine_of}
use Rattle.usb_line.specs.Line.{Progress, woken}
use Rattle.usb_line.specs.Shows.{HoldsTransfer, ShowsEnd, Shows, asked_now}
use Rattle.usb_trace.specs.Devices.{ShowsDevices}
use Rattle.usb_trace.specs.Handlers.{ShowsCores}
use Rattle.usb_line.specs.Awake.{awake}
use Rattle.usb_line.proofs.Asked.{asked_same}
use Rattle.usb_trace.proofs.Devices.{devices_same}

mapped : {X : Type 0} (f : X → X) (xs : List X) (i : ℕ) (d : X) → i < length xs
    → slice_set (map f (take i xs) ++ drop i xs) i (f (slice_index_or (map f (take i xs) ++ drop i xs) i d)) ≡ map f (take (suc i) xs) ++ drop (suc i) xs
mapped f [] i d l = absurd (omega arith)
mapped f (x ∷ xs) zero d l = refl
mapped f (x ∷ xs) (suc i) d l = ap (λ l. f x ∷ l) (mapped f xs i d (omega arith))

-- one more was woken
pub one_awake : (xs now : List EndRow) (i : ℕ) (d : EndRow) → i < length xs → now ≡ map awake (take i xs) ++ drop i xs
    → slice_set now i (awake (slice_index_or now i d)) ≡ map awake (take (i + 1) xs) ++ drop (i + 1) xs
one_awake xs now i d l is =
    (λ j. slice_set (is j) i (awake (slice_index_or (is j) i d))) ∙ (mapped awake xs i d l ∙ ap (λ n. map awake (take n xs) ++ drop n xs) (sym (add-one i)))

of_map : (xs : List EndRow) (e : ℕ) (end : EndRow) → slice_get (map awake xs) e ≡ Some end → (before : EndRow) × (slice_get xs e ≡ Some before) × (awake before ≡ end)
of_map [] e end at = cc
of_map (x ∷ xs) zero end at = (x, refl, cc)
of_map (x ∷ xs) (suc e) end at = of_map xs e end at

holds_woken : (s : Scene) (f : Progress) (u : ℕ) (o : Option Transfer) → HoldsTransfer s f u o → HoldsTransfer s (woken f) u o
holds_woken s f u None q = q
holds_woken s f u (Some t) q = (q.0, record { start = q.1.start; apt = q.1.apt; sent = q.1.sent; moving = q.1.moving; going = q.1.going })

-- the object with all its endpoints awake
pub shows_woken : (s : Scene) (f : Progress) (run after : LineRun) → Shows s f run → after.plain ≡ run.plain → after.ends.items ≡ map awake run.ends.items → after.urbs.items ≡ run.urbs.items
    → after.devices ≡ run.devices → after.cores ≡ run.cores → after.given ≡ run.given → after.down ≡ run.down → Shows s (woken f) after
shows_woken s f run after old plain ends urbs devices cores given down = record {
  stands = subst (λ plain. Stands plain (machine_of s) f.history) (sym plain) old.stands;
  calm = old.calm;
  linked = old.linked;
  devices = subst (λ l. ShowsDevices s (asked_now s (woken f)) l.items) (sym devices)
      (devices_same s (asked_now s f) (asked_now s (woken f)) run.devices.items (λ e. asked_same s f (woken f) e refl refl (old.unmoved e) (λ u others first. (others, first, refl))) old.devices);
  few_ends = old.few_ends;
  all_ends = ap length ends ∙ (length-map run.ends.items awake ∙ old.all_ends);
  each_end = λ e end at.
      (let b = of_map run.ends.items e end (ap (λ (l : List EndRow). slice_get l e) (sym ends) ∙ at) in
      let o = old.each_end e b.0 b.1 in
      subst (ShowsEnd s (woken f) e) b.2 record { is = o.is; sleeps = refl; acked = o.acked });
  all_urbs = ap length urbs ∙ old.all_urbs;
  each_urb = λ u row at. (let o = old.each_urb u row (ap (λ (l : List UrbRow). slice_get l u) (sym urbs) ∙ at) in record { at = o.at; owner = o.owner; more = o.more; holds = holds_woken s f u row.transfer o.holds });
  unmoved = old.unmoved;
  cores = subst (λ l. ShowsCores s f.rounds l.items) (sym cores) old.cores;
  came_back = (λ i. (given i).items) ∙ old.came_back;
  host = down ∙ old.host;
}
