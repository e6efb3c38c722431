-- A row matches exactly where the test says so.
use Rattle.std.proofs.Common.{◌≡◌, ◌≤◌, ◌↔◌, ℕ, Bool, true, false, not, refl, sym, ap, ◌∙◌}
use Rattle.std.specs.Prelude.{◌&&◌, ◌||◌, ◌==◌, nat_le}
use Rattle.std.proofs.lemmas.Bool.{and_parts, and_from, eqb-true, eq-eqb, leb-true, le-leb}
use Rattle.usb_desc.specs.declared.device.DeviceDesc.{DeviceDesc}
use Rattle.usb_desc.specs.declared.tree.Alt.{Alt}
use Rattle.usb_bind.specs.declared.row.IdRow.{IdRow}
use Rattle.usb_bind.specs.Matching.{is_set, Asks, fits, is_match, Matches}

asked_test : (s b : Bool) → (not s || b) ≡ true → s ≡ true → b ≡ true
asked_test true b h s = h
asked_test false b h s = absurd cc

test_asked : (s b : Bool) → (s ≡ true → b ≡ true) → (not s || b) ≡ true
test_asked true b h = h refl
test_asked false b h = refl

equal : (row : IdRow) (flag a b : ℕ) → fits row flag (a == b) ≡ true → Asks row flag (a ≡ b)
equal row flag a b h set = eqb-true a b (asked_test (is_set row flag) (a == b) h set)

equal_back : (row : IdRow) (flag a b : ℕ) → Asks row flag (a ≡ b) → fits row flag (a == b) ≡ true
equal_back row flag a b asks = test_asked (is_set row flag) (a == b) (λ set. eq-eqb a b (asks set))

below : (row : IdRow) (flag a b : ℕ) → fits row flag (nat_le a b) ≡ true → Asks row flag (a ≤ b)
below row flag a b h set = leb-true a b (asked_test (is_set row flag) (nat_le a b) h set)

below_back : (row : IdRow) (flag a b : ℕ) → Asks row flag (a ≤ b) → fits row flag (nat_le a b) ≡ true
below_back row flag a b asks = test_asked (is_set row flag) (nat_le a b) (λ set. le-leb a b (asks set))

spared : (own vendor any : Bool) → not (own && not vendor && any) ≡ true → own ≡ true → vendor ≡ false → any ≡ false
spared true true any h o v = absurd cc
spared true false true h o v = absurd cc
spared true false false h o v = refl
spared false vendor any h o v = absurd cc

spared_back : (own vendor any : Bool) → (own ≡ true → vendor ≡ false → any ≡ false) → not (own && not vendor && any) ≡ true
spared_back true true any h = refl
spared_back true false any h = ap not (h refl refl)
spared_back false vendor any h = refl

means : (row : IdRow) (device : DeviceDesc) (alt : Alt) → is_match row device alt ≡ true → Matches row device alt
means row device alt h =
    let d6 = fits row 0x40 (row.protocol == device.protocol) in
    let all = and_parts _ _ h in
    let most = and_parts _ _ all.0 in
    let some = and_parts _ _ most.0 in
    let p7 = and_parts _ _ some.1 in
    let p6 = and_parts _ _ p7.0 in
    let p5 = and_parts _ _ p6.0 in
    let p4 = and_parts _ _ p5.0 in
    let p3 = and_parts _ _ p4.0 in
    let p2 = and_parts _ _ p3.0 in
    let i4 = and_parts _ _ most.1 in
    let i3 = and_parts _ _ i4.0 in
    let i2 = and_parts _ _ i3.0 in
    record {
      some = some.0;
      vendor = equal row 0x1 row.vendor device.vendor p2.0;
      product = equal row 0x2 row.product device.product p2.1;
      lowest = below row 0x4 row.lo device.release p3.1;
      highest = below row 0x8 device.release row.hi p4.1;
      class = equal row 0x10 row.class device.class p5.1;
      subclass = equal row 0x20 row.subclass device.subclass p6.1;
      protocol = equal row 0x40 row.protocol device.protocol p7.1;
      int_class = equal row 0x80 row.int_class alt.class i2.0;
      int_subclass = equal row 0x100 row.int_subclass alt.subclass i2.1;
      int_protocol = equal row 0x200 row.int_protocol alt.protocol i3.1;
      int_number = equal row 0x400 row.int_number alt.number i4.1;
      own_class = λ own none. spared (device.class == 0xFF) (is_set row 0x1) (is_set row 0x780) all.1 (eq-eqb device.class 0xFF own) none;
    }

means_back : (row : IdRow) (device : DeviceDesc) (alt : Alt) → Matches row device alt → is_match row device alt ≡ true
means_back row device alt m =
    let of_device = and_from _ _ (and_from _ _ (and_from _ _ (and_from _ _ (and_from _ _ (and_from _ _
    (equal_back row 0x1 row.vendor device.vendor m.vendor)
    (equal_back row 0x2 row.product device.product m.product))
    (below_back row 0x4 row.lo device.release m.lowest))
    (below_back row 0x8 device.release row.hi m.highest))
    (equal_back row 0x10 row.class device.class m.class))
    (equal_back row 0x20 row.subclass device.subclass m.subclass))
    (equal_back row 0x40 row.protocol device.protocol m.protocol) in
    let of_interface = and_from _ _ (and_from _ _ (and_from _ _
    (equal_back row 0x80 row.int_class alt.class m.int_class)
    (equal_back row 0x100 row.int_subclass alt.subclass m.int_subclass))
    (equal_back row 0x200 row.int_protocol alt.protocol m.int_protocol))
    (equal_back row 0x400 row.int_number alt.number m.int_number) in
    and_from _ _ (and_from _ _ (and_from _ _ m.some of_device) of_interface)
    (spared_back (device.class == 0xFF) (is_set row 0x1) (is_set row 0x780) (λ own. m.own_class (eqb-true device.class 0xFF own)))

pub matched : (row : IdRow) (device : DeviceDesc) (alt : Alt) (t : Bool) → t ≡ is_match row device alt → (t ≡ true) ↔ Matches row device alt
matched row device alt t is = (λ h. means row device alt (sym is ∙ h), λ m. is ∙ means_back row device alt m)
