-- What holds of the board and the pool all along the probes: the scene's own URBs are out with their homes, and after
-- them those of the bindings, each with the endpoint of its role.
use Rattle.std.proofs.Common.{ℕ, zero, suc, ◌≡◌, ◌+◌, ◌-◌, ◌<◌, ◌≤◌, ◌⊎◌, inl, inr, ⊎_elim, Bool, true, false, cond, Option, Some, None, Result, Ok, Err, List, [], ◌∷◌, ◌++◌, length, map, refl, sym, ap, ◌∙◌, subst, arith, append_assoc, append-nil, length-append, add-zero}
use Rattle.std.specs.Prelude.{slice_get, slice_index, option_map}
use Rattle.std.specs.List.{All}
use Rattle.std.specs.Option.{option_flatten, option_map_or}
use Rattle.std.proofs.lemmas.List.{length-map}
use Rattle.std.proofs.lemmas.Option.{slice_get_within, slice_get-map}
use Rattle.usb_types.specs.declared.urb.Role.{Role}
use Rattle.usb_types.specs.declared.urb.UrbId.{UrbId}
use Rattle.usb_machine.specs.History.{or_zero}
use Rattle.usb_desc.specs.declared.tree.Alt.{Alt}
use Rattle.usb_ctrl.specs.declared.enumerator.Attached.{Attached}
use Rattle.usb_xfer.specs.declared.script.DeviceScript.{DeviceScript}
use Rattle.usb_bind.specs.declared.bound.Bound.{Bound}
use Rattle.usb_bind.specs.declared.row.IdRow.{IdRow}
use Rattle.usb_bind.specs.declared.fault.ProbeFault.{ProbeFault}
use Rattle.usb_bind.specs.Interfaces.{host_ends, interfaces_of, shape_of_end}
use Rattle.usb_bind.specs.Pool.{Homes, spare_in}
use Rattle.usb_bind.specs.Profile.{profile_rows}
use Rattle.usb_bind.specs.Needs.{Need, roles_of}
use Rattle.usb_bind.specs.Board.{BoardValue, with_binding}
use Rattle.usb_bind.specs.Probe.{home_of, in_slots, all_next, all_taken, probed, pool_after}
use Rattle.usb_bind.proofs.Binding.{IsPlace, IsPlaced, IsMade}
use Rattle.usb_scene.specs.declared.scene.Scene.{Scene}
use Rattle.usb_scene.specs.declared.scene.SceneDevice.{SceneDevice}
use Rattle.usb_scene.specs.declared.scene.SceneUrb.{SceneUrb}
use Rattle.usb_scene.specs.WellFormed.{IsWellFormed}
use Rattle.usb_prepare.specs.Ends.{attached_as, control_of, control_size, other_ends, device_ends, shapes_of, ends_of, first_end, firsts_of, home_at}
use Rattle.usb_prepare.specs.Probing.{Asked, Probing, ask_each, id_told, requests_of, settled, probed_by, with_probe}
use Rattle.usb_prepare.specs.Prepared.{Probes, with_device, probing_from, probed_device, probed_from, enumeration_of, attached_from, board_of, pool_of, probes_of}
use Rattle.usb_prepare.proofs.Below.{get-map_below}
use Rattle.usb_prepare.specs.declared.found.Probe.TheVariants as probe
use Rattle.usb_prepare.proofs.Lists.{in_either, in_longer, in_front, get_after, is_there, fold_keeps}
use Rattle.usb_prepare.proofs.Needed.{IsFor, IsDue, is_due}
use Rattle.usb_prepare.proofs.Numbering.{ends_within}
use Rattle.usb_prepare.proofs.Pooled.{pool_with, spare_is, all_out, slots_out, slot_is}

-- the homes of the scene's own URBs
abbrev pub own_homes : Scene → List ℕ
own_homes s = map (λ (u : SceneUrb). or_zero (home_at s u)) s.urbs

abbrev HasUrb : List Bound → ℕ → ℕ → UrbId → Type 0
HasUrb bindings i k u = (b : Bound) × (slice_get bindings i ≡ Some b) × (slice_get b.urbs k ≡ Some (Some u))

-- where a place after a device's first endpoint is
abbrev pub behind_first : ℕ → Option ℕ → ℕ
behind_first first place = option_map_or (λ p. first + 1 + p) place first

-- an URB of a binding has its home at an endpoint of the binding's device, which is enumerated: the one of its role
pub record HasHome (s : Scene) (homes : List ℕ) (b : Bound) (k u : ℕ) : Type 0 where
  pub device : SceneDevice
  pub at : slice_get s.devices b.device ≡ Some device
  pub attached : Attached
  pub is : attached_as b.device device ≡ Some attached
  pub role : Role
  pub slot : slice_get (roles_of b.driver) k ≡ Some role
  pub place : Option ℕ
  pub due : IsFor (host_ends attached.config) role place
  pub home : slice_get homes u ≡ Some (behind_first (first_end s.devices b.device) place)

still_home : (s : Scene) (homes more : List ℕ) (b : Bound) (k u : ℕ) → HasHome s homes b k u → HasHome s (homes ++ more) b k u
still_home s homes more b k u has = record {
  device = has.device;
  at = has.at;
  attached = has.attached;
  is = has.is;
  role = has.role;
  slot = has.slot;
  place = has.place;
  due = has.due;
  home = in_front homes more u (behind_first (first_end s.devices b.device) has.place) has.home;
}

pub record IsBoarded (s : Scene) (board : BoardValue) (pool : Homes) : Type 0 where
  pub devices : board.devices ≡ attached_from 0 s.devices
  pub firsts : board.firsts ≡ firsts_of s
  pub drivers : List ℕ
  pub more : ℕ
  pub out : pool ≡ pool_with (own_homes s ++ drivers) more
  pub all : length s.urbs + length drivers + more ≡ 256
  pub low : (k h : ℕ) → slice_get drivers k ≡ Some h → h < ends_of s
  pub urbs : (i k : ℕ) (u : UrbId) → HasUrb board.bindings i k u → (length s.urbs ≤ u.0) × (u.0 < length s.urbs + length drivers)
  pub once : (i j k l : ℕ) (u : UrbId) → HasUrb board.bindings i k u → HasUrb board.bindings j l u → (i ≡ j) × (k ≡ l)
  pub rise : (i k l : ℕ) (u v : UrbId) → HasUrb board.bindings i k u → HasUrb board.bindings i l v → k < l → u.0 < v.0
  pub count : length board.bindings ≤ length drivers
  pub homes : (i k : ℕ) (u : UrbId) (has : HasUrb board.bindings i k u) → HasHome s (own_homes s ++ drivers) has.0 k u.0

-- before the first probe
pub boarded_start : (s : Scene) → IsWellFormed s → IsBoarded s (board_of s) (pool_of s)
boarded_start s good = record {
  devices = refl;
  firsts = refl;
  drivers = [];
  more = 256 - length s.urbs;
  out = all_out [] (own_homes s) 256 (256 - length s.urbs) (let long = length-map s.urbs (λ (u : SceneUrb). or_zero (home_at s u)) in let few = good.few_urbs in omega arith) ∙ ap (λ l. pool_with l (256 - length s.urbs)) (sym (append-nil (own_homes s)));
  all = (let few = good.few_urbs in omega arith);
  low = λ k h at. cc;
  urbs = λ i k u has. cc;
  once = λ i j k l u a b. cc;
  rise = λ i k l u v a b less. cc;
  count = omega arith;
  homes = λ i k u has. cc;
}

-- the device that a board has attached
attached_there : (n d : ℕ) (ds : List SceneDevice) (a : Attached) → option_flatten (slice_get (attached_from n ds) d) ≡ Some a
    → (device : SceneDevice) × (slice_get ds d ≡ Some device) × (attached_as (n + d) device ≡ Some a)
attached_there n d [] a is = cc
attached_there n zero (x ∷ ds) a is = (x, refl, ap (λ k. attached_as k x) (add-zero n) ∙ is)
attached_there n (suc d) (x ∷ ds) a is = let rest = attached_there (n + 1) d ds a is in let same : n + suc d ≡ n + 1 + d = omega arith in
    (rest.0, rest.1, ap (λ k. attached_as k rest.0) same ∙ rest.2)

attached_long : (d : ℕ) (device : SceneDevice) (a : Attached) → attached_as d device ≡ Some a → length (device_ends d device) ≡ length (host_ends a.config) + 1
unfolding device_ends
attached_long d device a at =
    ap (λ (o : Option Attached). length (control_of d (control_size o) ∷ other_ends d device.script.ends o)) at
    ∙ (let long = length-map (host_ends a.config) (shape_of_end d) in omega arith)

home_low : (first count top : ℕ) (o : Option ℕ) (need : Need) → need.place ≡ o → IsPlace count o → first + (count + 1) ≤ top → home_of first need < top
home_low first count top None need at is most = let same : home_of first need ≡ first = ap (λ o. option_map_or (λ place. first + 1 + place) o first) at in omega arith
home_low first count top (Some p) need at is most = let same : home_of first need ≡ first + 1 + p = ap (λ o. option_map_or (λ place. first + 1 + place) o first) at in omega arith

homes_low : (first count top : ℕ) (needs : List Need) → All (IsPlaced count) needs → first + (count + 1) ≤ top → (k h : ℕ) → slice_get (map (home_of first) needs) k ≡ Some h → h < top
homes_low first count top [] all most k h at = cc
homes_low first count top (x ∷ needs) all most zero h at = let same : home_of first x ≡ h = cc in subst (λ (n : ℕ). n < top) same (home_low first count top x.place x refl (all 0 x (omega arith)) most)
homes_low first count top (x ∷ needs) all most (suc k) h at = homes_low first count top needs (λ j d l. all (suc j) d (omega arith)) most k h at

module _ (s : Scene) (good : IsWellFormed s) (board : BoardValue) (pool : Homes) (old : IsBoarded s board pool) (rows : List IdRow) (d interface : ℕ) (b : Bound)
    (due : IsDue board pool rows d interface b) where
  abbrev made : IsMade board pool rows d interface b
  made = due.made

  abbrev own : List ℕ
  own = own_homes s

  own_long : length own ≡ length s.urbs
  own_long = length-map s.urbs (λ (u : SceneUrb). or_zero (home_at s u))

  abbrev first : ℕ
  first = slice_index board.firsts d

  abbrev new : List ℕ
  new = map (home_of first) made.needs

  new_long : length new ≡ length made.needs
  new_long = length-map made.needs (home_of first)

  room : length made.needs ≤ old.more
  room = let fits = made.room in let spare = ap spare_in old.out ∙ spare_is (own ++ old.drivers) old.more in omega arith

  out_long : length (own ++ old.drivers) ≡ length s.urbs + length old.drivers
  out_long = let sum = length-append own old.drivers in let o = own_long in omega arith

  -- the device that is probed, with its endpoints
  there : (device : SceneDevice) × (slice_get s.devices d ≡ Some device) × (attached_as d device ≡ Some made.attached)
  there = let a = attached_there 0 d s.devices made.attached (ap (λ l. option_flatten (slice_get l d)) (sym old.devices) ∙ made.at) in
      let same : 0 + d ≡ d = omega arith in
      (a.0, a.1, ap (λ k. attached_as k a.0) (sym same) ∙ a.2)

  at_first : first ≡ first_end s.devices d
  at_first = let near = slice_get_within s.devices d there.0 there.1 in ap (λ l. slice_index l d) old.firsts ∙ get-map_below (first_end s.devices) (length s.devices) d 0 near

  most : first + (length (host_ends made.attached.config) + 1) ≤ ends_of s
  unfolding shapes_of
  most =
      let at = at_first in
      let within = ends_within s good d there.0 there.1 in
      let long = attached_long d there.0 made.attached there.2 in
      omega arith

  new_low : (k h : ℕ) → slice_get new k ≡ Some h → h < ends_of s
  new_low = homes_low first (length (host_ends made.attached.config)) (ends_of s) made.needs made.placed most

  all_low : (k h : ℕ) → slice_get (old.drivers ++ new) k ≡ Some h → h < ends_of s
  all_low k h at = ⊎_elim (λ (l : slice_get old.drivers k ≡ Some h). old.low k h l) (λ (r : (j : ℕ) × (k ≡ length old.drivers + j) × (slice_get new j ≡ Some h)). new_low r.0 h r.2) (in_either old.drivers new k h at)

  behind : pool_after board pool rows d interface ≡ pool_with (own ++ (old.drivers ++ new)) (old.more - length made.needs)
  behind = made.behind ∙ (ap (λ p. all_taken p (in_slots 5 new)) old.out
      ∙ (slots_out 5 (own ++ old.drivers) new old.more (old.more - length made.needs) (let few = made.count in let long = new_long in omega arith) (let fits = room in let long = new_long in omega arith)
      ∙ ap (λ l. pool_with l (old.more - length made.needs)) (append_assoc own old.drivers new)))

  -- the URBs of the new binding
  new_urb : (k : ℕ) (u : UrbId) → slice_get b.urbs k ≡ Some (Some u) → (u.0 ≡ length s.urbs + length old.drivers + k) × (k < length new)
  new_urb k u at =
      let few = made.count in
      let fits = room in
      let long = new_long in
      let is = slot_is 5 (own ++ old.drivers) new old.more k u (omega arith) (omega arith) (sym (ap (λ l. slice_get l k) (made.urbs ∙ ap (λ p. all_next p (in_slots 5 new)) old.out)) ∙ at) in
      let number = is.0 in
      let o = out_long in
      ((omega arith), is.1)

  abbrev bindings : List Bound
  bindings = board.bindings ++ b ∷ []

  abbrev IsNew : ℕ → ℕ → UrbId → Type 0
  IsNew i k u = (i ≡ length board.bindings) × (slice_get b.urbs k ≡ Some (Some u))

  either_urb : (i k : ℕ) (u : UrbId) → HasUrb bindings i k u → (HasUrb board.bindings i k u) ⊎ (IsNew i k u)
  either_urb i k u has = ⊎_elim
      (λ (l : slice_get board.bindings i ≡ Some has.0). inl (has.0, l, has.2))
      (λ (r : (i ≡ length board.bindings) × (has.0 ≡ b)). inr (r.0, ap (λ (x : Bound). slice_get x.urbs k) (sym r.1) ∙ has.2))
      (in_longer board.bindings b has.0 i has.1)

  new_long_sum : length (old.drivers ++ new) ≡ length old.drivers + length new
  new_long_sum = length-append old.drivers new

  all_urbs : (i k : ℕ) (u : UrbId) → HasUrb bindings i k u → (length s.urbs ≤ u.0) × (u.0 < length s.urbs + length (old.drivers ++ new))
  all_urbs i k u has = let sum = new_long_sum in ⊎_elim
      (λ (l : HasUrb board.bindings i k u). let is = old.urbs i k u l in let near = is.1 in (is.0, omega arith))
      (λ (r : IsNew i k u). let is = new_urb k u r.1 in let number = is.0 in let near = is.1 in ((omega arith), omega arith))
      (either_urb i k u has)

  all_once : (i j k l : ℕ) (u : UrbId) → HasUrb bindings i k u → HasUrb bindings j l u → (i ≡ j) × (k ≡ l)
  all_once i j k l u p q = ⊎_elim
      (λ (x : HasUrb board.bindings i k u). ⊎_elim
      (λ (y : HasUrb board.bindings j l u). old.once i j k l u x y)
      (λ (y : IsNew j l u). let low = (old.urbs i k u x).1 in let high = (new_urb l u y.1).0 in absurd (omega arith))
      (either_urb j l u q))
      (λ (x : IsNew i k u). ⊎_elim
      (λ (y : HasUrb board.bindings j l u). let low = (old.urbs j l u y).1 in let high = (new_urb k u x.1).0 in absurd (omega arith))
      (λ (y : IsNew j l u). let a = (new_urb k u x.1).0 in let c = (new_urb l u y.1).0 in let e = x.0 in let f = y.0 in ((omega arith), omega arith))
      (either_urb j l u q))
      (either_urb i k u p)

  old_there : (i k : ℕ) (u : UrbId) → HasUrb board.bindings i k u → i < length board.bindings
  old_there i k u has = slice_get_within board.bindings i has.0 has.1

  all_rise : (i k l : ℕ) (u v : UrbId) → HasUrb bindings i k u → HasUrb bindings i l v → k < l → u.0 < v.0
  all_rise i k l u v p q less = ⊎_elim
      (λ (x : HasUrb board.bindings i k u). ⊎_elim
      (λ (y : HasUrb board.bindings i l v). old.rise i k l u v x y less)
      (λ (y : IsNew i l v). let near = old_there i k u x in let at = y.0 in absurd (omega arith))
      (either_urb i l v q))
      (λ (x : IsNew i k u). ⊎_elim
      (λ (y : HasUrb board.bindings i l v). let near = old_there i l v y in let at = x.0 in absurd (omega arith))
      (λ (y : IsNew i l v). let a = (new_urb k u x.1).0 in let c = (new_urb l v y.1).0 in omega arith)
      (either_urb i l v q))
      (either_urb i k u p)

  -- and their homes
  new_home : (k : ℕ) (u : UrbId) → slice_get b.urbs k ≡ Some (Some u) → HasHome s ((own ++ old.drivers) ++ new) b k u.0
  new_home k u at =
      let number = new_urb k u at in
      let long = new_long in let o = out_long in let near = number.1 in let n = number.0 in
      let need = is_there made.needs k (omega arith) in
      let role = due.each k need.0 need.1 in
      let place : u.0 ≡ length (own ++ old.drivers) + k = omega arith in
      let mapped : slice_get new k ≡ Some (home_of first need.0) = slice_get-map (home_of first) made.needs k ∙ ap (option_map (home_of first)) need.1 in
      let start : first ≡ first_end s.devices b.device = at_first ∙ ap (first_end s.devices) (sym made.device) in
      record {
        device = there.0;
        at = ap (slice_get s.devices) made.device ∙ there.1;
        attached = made.attached;
        is = ap (λ n. attached_as n there.0) made.device ∙ there.2;
        role = role.0;
        slot = role.1;
        place = need.0.place;
        due = role.2;
        home = ap (slice_get ((own ++ old.drivers) ++ new)) place ∙ (get_after (own ++ old.drivers) new k ∙ (mapped ∙ ap (λ n. Some (behind_first n need.0.place)) start));
      }

  all_homes : (i k : ℕ) (u : UrbId) (has : HasUrb bindings i k u) → HasHome s (own ++ (old.drivers ++ new)) has.0 k u.0
  all_homes i k u has = subst (λ l. HasHome s l has.0 k u.0) (append_assoc own old.drivers new) (⊎_elim
      (λ (l : slice_get board.bindings i ≡ Some has.0). still_home s (own ++ old.drivers) new has.0 k u.0 (old.homes i k u (has.0, l, has.2)))
      (λ (r : (i ≡ length board.bindings) × (has.0 ≡ b)). subst (λ (x : Bound). HasHome s ((own ++ old.drivers) ++ new) x k u.0) (sym r.1) (new_home k u (ap (λ (x : Bound). slice_get x.urbs k) (sym r.1) ∙ has.2)))
      (in_longer board.bindings b has.0 i has.1))

  boarded_more : IsBoarded s (with_binding board b) (pool_after board pool rows d interface)
  boarded_more = record {
    devices = old.devices;
    firsts = old.firsts;
    drivers = old.drivers ++ new;
    more = old.more - length made.needs;
    out = behind;
    all = (let all = old.all in let fits = room in let sum = new_long_sum in let long = new_long in omega arith);
    low = all_low;
    urbs = all_urbs;
    once = all_once;
    rise = all_rise;
    count = (let some = due.some in let count = old.count in let sum = new_long_sum in let long = new_long in let one = length-append board.bindings (b ∷ []) in omega arith);
    homes = all_homes;
  }

module _ (s : Scene) (good : IsWellFormed s) where
  settled_boarded : (p : Probing) (b : Bound) (pool : Homes) (asked : Asked) (id : List ℕ) → IsBoarded s p.board p.pool → IsBoarded s (with_binding p.board b) pool → IsBoarded s (settled p b pool asked id).board (settled p b pool asked id).pool
  settled_boarded p b pool asked id old new = go asked.answered
    where
      same : Probing
      same = record p { calls = asked.calls; probes = p.probes ++ probe.Cancelled ∷ [] }

      more : Probing
      more = record { board = with_binding p.board b; pool = pool; calls = asked.calls; probes = p.probes ++ probe.Bound ∷ []; ids = p.ids ++ id ∷ [] }

      go : (x : Bool) → IsBoarded s (cond x more same).board (cond x more same).pool
      go true = new
      go false = old

  probe_boarded : (script : DeviceScript) (d : ℕ) (p : Probing) (alt : Alt) → IsBoarded s p.board p.pool → IsBoarded s (with_probe script d p alt).board (with_probe script d p alt).pool
  probe_boarded script d p alt old = go (probed p.board p.pool profile_rows d alt.number) refl
    where
      pool : Homes
      pool = pool_after p.board p.pool profile_rows d alt.number

      go : (r : Result Bound ProbeFault) → probed p.board p.pool profile_rows d alt.number ≡ r → IsBoarded s (probed_by script p pool r).board (probed_by script p pool r).pool
      go (Ok b) at = settled_boarded p b pool (ask_each script p.calls (requests_of b.driver b.interface)) (id_told script p.calls b) old
          (boarded_more s good p.board p.pool old profile_rows d alt.number b (is_due p.board p.pool profile_rows d alt.number b at))
      go (Err fault) at = old

  device_boarded : (d : ℕ) (script : DeviceScript) (o : Option Attached) (p : Probing) → IsBoarded s p.board p.pool → IsBoarded s (probed_device d script o p).board (probed_device d script o p).pool
  device_boarded d script None p old = old
  device_boarded d script (Some a) p old = fold_keeps (λ (p : Probing). IsBoarded s p.board p.pool) (with_probe script d) (probe_boarded script d) p (interfaces_of a.config) old

  pub all_boarded : (d : ℕ) (ds : List SceneDevice) (w : Probes) → IsBoarded s w.board w.pool → IsBoarded s (probed_from d ds w).board (probed_from d ds w).pool
  all_boarded d [] w old = old
  all_boarded d (x ∷ ds) w old =
      let p = probed_device d x.script (attached_as d x) (probing_from w (enumeration_of d x)) in
      all_boarded (d + 1) ds (with_device w p) (device_boarded d x.script (attached_as d x) (probing_from w (enumeration_of d x)) old)

  pub boarded : IsBoarded s (probes_of s).board (probes_of s).pool
  unfolding probes_of
  boarded = all_boarded 0 s.devices record { board = board_of s; pool = pool_of s; heard = []; probes = []; ids = [] } (boarded_start s good)
