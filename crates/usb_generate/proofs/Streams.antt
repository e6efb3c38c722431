-- How the draws go on from one thing to the next.
use Rattle.std.proofs.Common.{◌≡◌, ℕ, zero, suc, ◌+◌, List, [], ◌∷◌, ◌++◌, refl, sym, ap, ap₂, ◌∙◌, arith}
use Rattle.std.proofs.lemmas.List.FromFn.{map-range_with_len_more}
use Rattle.usb_xfer.specs.declared.script.Item.{Item}
use Rattle.usb_scene.specs.declared.scene.SceneDevice.{SceneDevice}
use Rattle.usb_scene.specs.declared.scene.SceneUrb.{SceneUrb}
use Rattle.usb_scene.specs.declared.scene.Call.{Call}
use Rattle.usb_generate.specs.Draws.{next, behind, draw}
use Rattle.usb_generate.specs.Generator.{item_of, item_draws, item_place, item_at, items, device_of, device_beginning, device_at, devices, urb_at, urbs, call_of, call_draws, call_place, call_at, calls}

behind_after : (x k m : ℕ) → behind m (behind k x) ≡ behind (k + m) x
behind_after x k zero = let e : k ≡ k + zero = omega arith in ap (λ n. behind n x) e
behind_after x k (suc m) =
    let e : suc (k + m) ≡ k + suc m = omega arith in
    ap next (behind_after x k m) ∙ ap (λ n. behind n x) e

-- the second draw from draw k on
draw_second : (x k n : ℕ) → draw (behind k x) 1 n ≡ draw x (k + 1) n
draw_second x k n = let e : suc k ≡ k + 1 = omega arith in ap (λ m. draw x m n) e

-- after some draws from draw k on
behind_more : (x k m y z : ℕ) (taken : ℕ → ℕ) → y ≡ behind k x → z ≡ behind (taken (draw y 0 8)) y → k + taken (draw x k 8) ≡ m → z ≡ behind m x
behind_more x k m y z taken at after place =
    after ∙ ap (λ w. behind (taken (draw w 0 8)) w) at ∙ behind_after x k (taken (draw x k 8)) ∙ ap (λ n. behind n x) place

-- answers
pub items_none : (x : ℕ) → [] ≡ items x 0
unfolding items
items_none x = refl

pub item_place_none : (x : ℕ) → x ≡ behind (item_place x 0) x
unfolding item_place
item_place_none x = refl

items_next : (x j : ℕ) → items x (j + 1) ≡ items x j ++ item_at x j ∷ []
unfolding items
items_next x j = map-range_with_len_more (item_at x) 0 j j (omega arith)

item_place_next : (x j : ℕ) → item_place x j + item_draws (draw x (item_place x j) 8) ≡ item_place x (j + 1)
unfolding item_place
item_place_next x j = let e : suc j ≡ j + 1 = omega arith in ap (item_place x) e

pub items_more : (x j y : ℕ) (said : List Item) (one : Item) → said ≡ items x j → y ≡ behind (item_place x j) x → one ≡ item_of (draw y 0 8) (draw y 1 65) j
    → said ++ one ∷ [] ≡ items x (j + 1)
items_more x j y said one so_far at drawn =
    let k = item_place x j in
    let same : one ≡ item_at x j =
    drawn ∙ ap (λ w. item_of (draw w 0 8) (draw w 1 65) j) at ∙ ap (λ n. item_of (draw x k 8) n j) (draw_second x k 65) in
    ap₂ (λ xs i. xs ++ i ∷ []) so_far same ∙ sym (items_next x j)

pub item_place_more : (x j y z : ℕ) → y ≡ behind (item_place x j) x → z ≡ behind (item_draws (draw y 0 8)) y → z ≡ behind (item_place x (j + 1)) x
item_place_more x j y z at after = behind_more x (item_place x j) (item_place x (j + 1)) y z item_draws at after (item_place_next x j)

-- devices
pub devices_none : (x : ℕ) → [] ≡ devices x 0
unfolding devices
devices_none x = refl

pub device_beginning_none : (x : ℕ) → x ≡ device_beginning x 0
unfolding device_beginning
device_beginning_none x = refl

devices_next : (x d : ℕ) → devices x (d + 1) ≡ devices x d ++ device_at x d ∷ []
unfolding devices
devices_next x d = map-range_with_len_more (device_at x) 0 d d (omega arith)

device_beginning_next : (x d : ℕ) → behind (item_place (device_beginning x d) 64) (device_beginning x d) ≡ device_beginning x (d + 1)
unfolding device_beginning
device_beginning_next x d = let e : suc d ≡ d + 1 = omega arith in ap (device_beginning x) e

pub devices_more : (x d y : ℕ) (said : List SceneDevice) (one : SceneDevice) → said ≡ devices x d → y ≡ device_beginning x d → one ≡ device_of d (items y 64)
    → said ++ one ∷ [] ≡ devices x (d + 1)
devices_more x d y said one so_far at made =
    let same : one ≡ device_at x d = made ∙ ap (λ w. device_of d (items w 64)) at in
    ap₂ (λ xs i. xs ++ i ∷ []) so_far same ∙ sym (devices_next x d)

pub device_beginning_more : (x d y z : ℕ) → y ≡ device_beginning x d → z ≡ behind (item_place y 64) y → z ≡ device_beginning x (d + 1)
device_beginning_more x d y z at after = after ∙ ap (λ w. behind (item_place w 64) w) at ∙ device_beginning_next x d

-- URBs
pub urbs_none : [] ≡ urbs 0
unfolding urbs
urbs_none = refl

urbs_next : (i : ℕ) → urbs (i + 1) ≡ urbs i ++ urb_at i ∷ []
unfolding urbs
urbs_next i = map-range_with_len_more urb_at 0 i i (omega arith)

pub urbs_more : (i : ℕ) (said : List SceneUrb) (one : SceneUrb) → said ≡ urbs i → one ≡ urb_at i → said ++ one ∷ [] ≡ urbs (i + 1)
urbs_more i said one so_far made = ap₂ (λ xs u. xs ++ u ∷ []) so_far made ∙ sym (urbs_next i)

-- calls
pub calls_none : (x : ℕ) → [] ≡ calls x 0
unfolding calls
calls_none x = refl

pub call_place_none : (x : ℕ) → x ≡ behind (call_place x 0) x
unfolding call_place
call_place_none x = refl

pub calls_next : (x i : ℕ) → calls x (i + 1) ≡ calls x i ++ call_at x i ∷ []
unfolding calls
calls_next x i = map-range_with_len_more (call_at x) 0 i i (omega arith)

call_place_next : (x i : ℕ) → call_place x i + call_draws (draw x (call_place x i) 8) ≡ call_place x (i + 1)
unfolding call_place
call_place_next x i = let e : suc i ≡ i + 1 = omega arith in ap (call_place x) e

pub calls_more : (x i y : ℕ) (said : List Call) (one : Call) → said ≡ calls x i → y ≡ behind (call_place x i) x → one ≡ call_of (31 + i) (draw y 0 8) (draw y 1 16)
    → said ++ one ∷ [] ≡ calls x (i + 1)
calls_more x i y said one so_far at drawn =
    let k = call_place x i in
    let same : one ≡ call_at x i =
    drawn ∙ ap (λ w. call_of (31 + i) (draw w 0 8) (draw w 1 16)) at ∙ ap (λ u. call_of (31 + i) (draw x k 8) u) (draw_second x k 16) in
    ap₂ (λ xs c. xs ++ c ∷ []) so_far same ∙ sym (calls_next x i)

pub call_place_more : (x i y z : ℕ) → y ≡ behind (call_place x i) x → z ≡ behind (call_draws (draw y 0 8)) y → z ≡ behind (call_place x (i + 1)) x
call_place_more x i y z at after = behind_more x (call_place x i) (call_place x (i + 1)) y z call_draws at after (call_place_next x i)
