-- The run's object before the first call.
use Rattle.std.proofs.Common.{ℕ, ◌≡◌, ◌+◌, ◌<◌, false, Option, Some, None, List, [], ◌∷◌, ◌++◌, length, take, get_or, map, refl, sym, ap, ◌∙◌, subst, arith, length-append}
use Rattle.std.specs.Prelude.{slice_get}
use Rattle.std.proofs.lemmas.List.{take_more}
use Rattle.std.proofs.lemmas.Option.{slice_get-get_or, slice_get_within}
use Rattle.usb_machine.specs.declared.layout.Shape.{Shape}
use Rattle.usb_machine.specs.History.{or_zero}
use Rattle.usb_machine.specs.Plain.{Stands}
use Rattle.usb_class.specs.declared.owner.Owner.{Owner}
use Rattle.usb_scene.specs.declared.scene.Scene.{Scene}
use Rattle.usb_scene.specs.declared.scene.SceneUrb.{SceneUrb}
use Rattle.usb_scene.specs.WellFormed.{IsWellFormed}
use Rattle.usb_line.specs.declared.run.UrbRow.{UrbRow}
use Rattle.usb_line.specs.declared.run.EndRow.{EndRow}
use Rattle.usb_line.specs.declared.run.LineRun.{LineRun}
use Rattle.usb_prepare.specs.Ends.{control_end, shapes_of, shape_at, or_control}
use Rattle.usb_prepare.specs.Layout.{homes_of, urb_count}
use Rattle.usb_trace.specs.Plan.{machine_of, owner_of, again_in}
use Rattle.usb_trace.specs.NewCores.{owners_of}
use Rattle.usb_prepare.specs.Below.{below}
use Rattle.usb_line.specs.Line.{at_start}
use Rattle.usb_line.specs.Shows.{ShowsUrb, ShowsEnd, Shows, asked_now}
use Rattle.usb_trace.specs.Handlers.{ShowsCores}
use Rattle.usb_line.specs.Opened.{IsNewEnd, AreNewEnds, new_urb}
use Rattle.usb_prepare.specs.Bindings.{HaveHeard}
use Rattle.usb_prepare.specs.Prepared.{probes_of}
use Rattle.usb_prepare.specs.Ready.{AreReady}
use Rattle.usb_line.proofs.Calm.{calm_empty, linked_empty}
use Rattle.usb_trace.proofs.NewCoresShown.{pairs_longer}
use Rattle.usb_prepare.proofs.Below.{map_below-suc, length-map_below, is-map_below, get-map_below}
use Rattle.usb_prepare.proofs.Facts.{few_ends}
use Rattle.usb_line.proofs.Asked.{asked_idle}
use Rattle.usb_trace.proofs.NewDevices.{devices_new}

one_more : (xs : List Shape) (ys : List EndRow) (x : Shape) (y : EndRow) → AreNewEnds xs ys → IsNewEnd x y → AreNewEnds (xs ++ x ∷ []) (ys ++ y ∷ [])
one_more xs ys x y old new = record {
  count = (let a = length-append xs (x ∷ []) in let b = length-append ys (y ∷ []) in let c = old.count in omega arith);
  each = pairs_longer (λ k. IsNewEnd) xs ys x y old.count old.each new;
}

-- one endpoint more
pub ends_longer : (shapes : List Shape) (i : ℕ) (d : Shape) (old new : List EndRow) (end : EndRow) → i < length shapes → AreNewEnds (take i shapes) old
    → IsNewEnd (get_or shapes i d) end → new ≡ old ++ end ∷ [] → AreNewEnds (take (i + 1) shapes) new
ends_longer shapes i d old new end near are is e =
    subst (AreNewEnds (take (i + 1) shapes)) (sym e) (subst (λ l. AreNewEnds l (old ++ end ∷ [])) (sym (take_more shapes i d near)) (one_more (take i shapes) old (get_or shapes i d) end are is))

-- one URB more
pub urbs_longer : (s : Scene) (u : ℕ) (urbs : List SceneUrb) (homes : List (Option ℕ)) (owners : List (Option Owner)) (old new : List UrbRow) (row : UrbRow) → u < length homes → urbs ≡ s.urbs
    → homes ≡ homes_of s → owners ≡ owners_of s → row ≡ record { home = or_zero (get_or homes u None); owner = get_or owners u None; again = again_in (slice_get urbs u); transfer = None } → old ≡ map (new_urb s) (below u) → new ≡ old ++ row ∷ []
    → new ≡ map (new_urb s) (below (u + 1))
urbs_longer s u urbs homes owners old new row near same hs os r o e =
    let there : u < urb_count s = subst (λ (l : List (Option ℕ)). u < length l) hs near in
    let owner : get_or owners u None ≡ owner_of s u = ap (λ l. get_or l u None) os ∙ get-map_below (owner_of s) (urb_count s) u None there in
    let is : row ≡ new_urb s u = r ∙ (λ i. record { home = or_zero (get_or (hs i) u None); owner = owner i; again = again_in (slice_get (same i) u); transfer = None }) in
    e ∙ ((λ i. o i ++ is i ∷ []) ∙ map_below-suc (new_urb s) u)

module _ (s : Scene) (good : IsWellFormed s) (run : LineRun) (stands : Stands run.plain (machine_of s) []) (ends : AreNewEnds (shapes_of s) run.ends.items) (ready : AreReady s.devices run.devices.items)
    (heard : HaveHeard s.devices (probes_of s).heard run.devices.items) (urbs : run.urbs.items ≡ map (new_urb s) (below (urb_count s))) (cores : ShowsCores s [] run.cores.items) where
  end_shown : (e : ℕ) (end : EndRow) → slice_get run.ends.items e ≡ Some end → ShowsEnd s at_start e end
  end_shown e end at =
      let within = slice_get_within run.ends.items e end at in
      let count = ends.count in
      let there = slice_get-get_or (shapes_of s) e (control_end 0) (omega arith) in
      let is : slice_get (shapes_of s) e ≡ Some (shape_at s e) = there ∙ ap Some (sym (ap or_control there)) in
      let new = ends.each e (shape_at s e) end is at in
      record {
        is = new.is;
        sleeps = new.awake;
        acked = new.none;
      }

  urb_shown : (u : ℕ) (row : UrbRow) → slice_get run.urbs.items u ≡ Some row → ShowsUrb s at_start u row
  urb_shown u row at =
      let is : row ≡ new_urb s u = is-map_below (new_urb s) (urb_count s) u row (ap (λ l. slice_get l u) (sym urbs) ∙ at) in
      subst (ShowsUrb s at_start u) (sym is) record { at = refl; owner = refl; more = omega arith; holds = refl }

  pub shows_start : run.given.items ≡ [] → run.down ≡ false → Shows s at_start run
  shows_start given down = record {
    stands = stands;
    calm = calm_empty;
    linked = linked_empty;
    devices = devices_new s good run.devices.items ready heard (asked_now s at_start) (λ e. asked_idle s at_start e refl);
    few_ends = few_ends s good;
    all_ends = ends.count;
    each_end = end_shown;
    all_urbs = ap (λ l. length l) urbs ∙ length-map_below (new_urb s) (urb_count s);
    each_urb = urb_shown;
    unmoved = λ e none. refl;
    cores = cores;
    came_back = given;
    host = down;
  }
