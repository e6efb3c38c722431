-- Six answers enumerate a device exactly where each is what it must be.
use Rattle.std.proofs.Common.{◌≡◌, ℕ, ◌≤◌, ◌==◌, Bool, true, false, cond, List, length, take, get_or, Result, Ok, Err, refl, ap, sym, ◌∙◌}
use Rattle.std.specs.Prelude.{nat_lt, bytes_eq}
use Rattle.std.specs.Result.{result_map_both}
use Rattle.std.proofs.lemmas.Bool.{eqb-true, eq-eqb, ltb-false, le-ltb}
use Rattle.std.proofs.lemmas.Slice.Eq.{bytes_eq-Decides}
use Rattle.usb_types.specs.declared.errno.Code.{Code}
use Rattle.usb_types.specs.declared.errno.Code.TheVariants.{Zero, Fault}
use Rattle.usb_desc.specs.declared.device.DeviceDesc.{DeviceDesc}
use Rattle.usb_desc.specs.declared.tree.ConfigTree.{ConfigTree}
use Rattle.usb_desc.specs.declared.fault.DescFault.{DescFault}
use Rattle.usb_desc.specs.Device.{device_of}
use Rattle.usb_desc.specs.Read.{tree_of}
use Rattle.usb_ctrl.specs.declared.fault.EnumFault.{EnumFault}
use Rattle.usb_ctrl.specs.declared.stage.Stage.{Stage}
use Rattle.usb_ctrl.specs.declared.stage.Stage.TheVariants.{Fresh, Begun, Addressed, Described, Measured, Known, Done}
use Rattle.usb_ctrl.specs.Setup.{word}
use Rattle.usb_ctrl.specs.Enumeration.{Answer, then_by, fault_of, begun, unchanged, described, measured, known, said, heard, reached}
use Rattle.usb_ctrl.specs.Attaching.{Six, six_list, Attaches}

-- what goes on was good before
went : {X Y : Type 0} (f : X → Result Y EnumFault) (r : Result X EnumFault) (y : Y) → then_by f r ≡ Ok y → (x : X) × (r ≡ Ok x) × (f x ≡ Ok y)
went f (Ok x) y h = (x, refl, h)
went f (Err fault) y h = cc

-- an answer that yields a stage has no fault
no_fault : (address : ℕ) (stage next : Stage) (reply : List ℕ) (code : Code) → heard address stage reply code ≡ Ok next → (code ≡ Zero) × (said stage reply ≡ Ok next)
no_fault address stage next reply Zero h = (refl, h)
no_fault address stage next reply (Fault e) h = cc

good : {X Y : Type 0} (f : X → Y) (r : Result X DescFault) (y : Y) → result_map_both f fault_of r ≡ Ok y → (x : X) × (r ≡ Ok x) × (f x ≡ y)
good f (Ok x) y h = (x, refl, cc)
good f (Err fault) y h = cc

chosen : {X : Type 0} (b : Bool) (r : Result X EnumFault) (fault : EnumFault) (y : X) → cond b r (Err fault) ≡ Ok y → (b ≡ true) × (r ≡ Ok y)
chosen true r fault y h = (refl, h)
chosen false r fault y h = cc

passed : {X : Type 0} (b : Bool) (r : Result X EnumFault) (fault : EnumFault) (y : X) → cond b (Err fault) r ≡ Ok y → (b ≡ false) × (r ≡ Ok y)
passed true r fault y h = cc
passed false r fault y h = (refl, h)

same_ok : {X : Type 0} (x y : X) → (let r : Result X EnumFault = Ok x in r) ≡ Ok y → y ≡ x
same_ok x y h = cc

moved : (address : ℕ) (stage known_stage next : Stage) (a : Answer) → stage ≡ known_stage → heard address stage a.reply a.code ≡ Ok next → (a.code ≡ Zero) × (said known_stage a.reply ≡ Ok next)
moved address stage known_stage next a e h =
    let p = no_fault address stage next a.reply a.code h in
    (p.0, ap (λ st. said st a.reply) (sym e) ∙ p.1)

begun_is : (reply : List ℕ) (next : Stage) → begun reply ≡ Ok next → (length reply ≡ 8) × (next ≡ Begun (take 8 reply))
begun_is reply next h =
    let p = chosen (length reply == 8) (Ok (Begun (take 8 reply))) _ next h in
    (eqb-true (length reply) 8 p.0, same_ok (Begun (take 8 reply)) next p.1)

described_is : (old reply : List ℕ) (next : Stage) → described old reply ≡ Ok next →
    (d : DeviceDesc) × (device_of reply ≡ Ok d) × (take 8 reply ≡ old) × (next ≡ Described d)
described_is old reply next h =
    let p = went (unchanged old (take 8 reply)) (result_map_both (λ d. d) fault_of (device_of reply)) next h in
    let q = good (λ (d : DeviceDesc). d) (device_of reply) p.0 p.1 in
    let t = chosen (bytes_eq (take 8 reply) old) (Ok (Described p.0)) _ next p.2 in
    (q.0, q.1, (bytes_eq-Decides (take 8 reply) old).0 t.0, same_ok (Described p.0) next t.1 ∙ ap Described (sym q.2))

measured_is : (d : DeviceDesc) (reply : List ℕ) (next : Stage) → measured d reply ≡ Ok next →
    (length reply ≡ 9) × (9 ≤ get_or reply 0 0) × (get_or reply 1 0 ≡ 2) × (next ≡ Measured d (word (get_or reply 2 0) (get_or reply 3 0)))
measured_is d reply next h =
    let p = chosen (length reply == 9) _ _ next h in
    let q = passed (nat_lt (get_or reply 0 0) 9) _ _ next p.1 in
    let t = chosen (get_or reply 1 0 == 2) (Ok (Measured d (word (get_or reply 2 0) (get_or reply 3 0)))) _ next q.1 in
    (eqb-true (length reply) 9 p.0, ltb-false (get_or reply 0 0) 9 q.0, eqb-true (get_or reply 1 0) 2 t.0, same_ok (Measured d (word (get_or reply 2 0) (get_or reply 3 0))) next t.1)

known_is : (d : DeviceDesc) (reply : List ℕ) (next : Stage) → known d reply ≡ Ok next → (c : ConfigTree) × (tree_of reply ≡ Ok c) × (next ≡ Known d c)
known_is d reply next h = let p = good (Known d) (tree_of reply) next h in (p.0, p.1, sym p.2)

to_ok : {X : Type 0} (r : Result X DescFault) (x y : X) → r ≡ Ok x → x ≡ y → r ≡ Ok y
to_ok r x y h e = h ∙ ap Ok e

done_device : (d : DeviceDesc) (c : ConfigTree) (d1 : DeviceDesc) (c1 : ConfigTree) → (let r : Result Stage EnumFault = Ok (Done d c) in r) ≡ Ok (Done d1 c1) → d ≡ d1
done_device d c d1 c1 h = cc

done_config : (d : DeviceDesc) (c : ConfigTree) (d1 : DeviceDesc) (c1 : ConfigTree) → (let r : Result Stage EnumFault = Ok (Done d c) in r) ≡ Ok (Done d1 c1) → c ≡ c1
done_config d c d1 c1 h = cc

pub attaching : (address : ℕ) (s : Six) (d : DeviceDesc) (c : ConfigTree) → reached address (six_list s) ≡ Ok (Done d c) → Attaches s d c
attaching address s d c h =
    let step : Answer → Stage → Result Stage EnumFault = λ a stage. heard address stage a.reply a.code in
    let r1 : Result Stage EnumFault = step s.begin Fresh in
    let r2 : Result Stage EnumFault = then_by (step s.address) r1 in
    let r3 : Result Stage EnumFault = then_by (step s.device) r2 in
    let r4 : Result Stage EnumFault = then_by (step s.head) r3 in
    let r5 : Result Stage EnumFault = then_by (step s.config) r4 in
    let w6 = went (step s.end) r5 (Done d c) h in
    let w5 = went (step s.config) r4 w6.0 w6.1 in
    let w4 = went (step s.head) r3 w5.0 w5.1 in
    let w3 = went (step s.device) r2 w4.0 w4.1 in
    let w2 = went (step s.address) r1 w3.0 w3.1 in
    let n1 = moved address Fresh Fresh w2.0 s.begin refl w2.1 in
    let i1 = begun_is s.begin.reply w2.0 n1.1 in
    let n2 = moved address w2.0 (Begun (take 8 s.begin.reply)) w3.0 s.address i1.1 w2.2 in
    let i2 : w3.0 ≡ Addressed (take 8 s.begin.reply) = same_ok (Addressed (take 8 s.begin.reply)) w3.0 n2.1 in
    let n3 = moved address w3.0 (Addressed (take 8 s.begin.reply)) w4.0 s.device i2 w3.2 in
    let i3 = described_is (take 8 s.begin.reply) s.device.reply w4.0 n3.1 in
    let n4 = moved address w4.0 (Described i3.0) w5.0 s.head i3.3 w4.2 in
    let i4 = measured_is i3.0 s.head.reply w5.0 n4.1 in
    let n5 = moved address w5.0 (Measured i3.0 (word (get_or s.head.reply 2 0) (get_or s.head.reply 3 0))) w6.0 s.config i4.3 w5.2 in
    let i5 = known_is i3.0 s.config.reply w6.0 n5.1 in
    let n6 = moved address w6.0 (Known i3.0 i5.0) (Done d c) s.end i5.2 w6.2 in
    let same_d : i3.0 ≡ d = done_device i3.0 i5.0 d c n6.1 in
    let same_c : i5.0 ≡ c = done_config i3.0 i5.0 d c n6.1 in
    record {
      codes = (n1.0, (n2.0, (n3.0, (n4.0, (n5.0, (n6.0, tt))))));
      eight = i1.0;
      device = to_ok (device_of s.device.reply) i3.0 d i3.1 same_d;
      same = i3.2;
      nine = i4.0;
      long = i4.1;
      kind = i4.2;
      config = to_ok (tree_of s.config.reply) i5.0 c i5.1 same_c;
    }

on : {X Y : Type 0} (f : X → Result Y EnumFault) (r : Result X EnumFault) (x : X) (y : Y) → r ≡ Ok x → f x ≡ Ok y → then_by f r ≡ Ok y
on f r x y e h = ap (then_by f) e ∙ h

without_fault : (address : ℕ) (stage next : Stage) (reply : List ℕ) (code : Code) → code ≡ Zero → said stage reply ≡ Ok next → heard address stage reply code ≡ Ok next
without_fault address stage next reply Zero e h = h
without_fault address stage next reply (Fault x) e h = cc

pub attaches : (address : ℕ) (s : Six) (d : DeviceDesc) (c : ConfigTree) → Attaches s d c → reached address (six_list s) ≡ Ok (Done d c)
attaches address s d c w =
    let head : List ℕ = take 8 s.begin.reply in
    let total : ℕ = word (get_or s.head.reply 2 0) (get_or s.head.reply 3 0) in
    let step : Answer → Stage → Result Stage EnumFault = λ a stage. heard address stage a.reply a.code in
    let r1 : Result Stage EnumFault = step s.begin Fresh in
    let r2 : Result Stage EnumFault = then_by (step s.address) r1 in
    let r3 : Result Stage EnumFault = then_by (step s.device) r2 in
    let r4 : Result Stage EnumFault = then_by (step s.head) r3 in
    let r5 : Result Stage EnumFault = then_by (step s.config) r4 in
    let b1 : begun s.begin.reply ≡ Ok (Begun head) = rw (eq-eqb (length s.begin.reply) 8 w.eight) in
    let b3 : described head s.device.reply ≡ Ok (Described d) =
    ap (λ r. then_by (unchanged head (take 8 s.device.reply)) (result_map_both (λ (x : DeviceDesc). x) fault_of r)) w.device
    ∙ rw ((bytes_eq-Decides (take 8 s.device.reply) head).1 w.same) in
    let b4 : measured d s.head.reply ≡ Ok (Measured d total) =
    rw (eq-eqb (length s.head.reply) 9 w.nine) (rw (le-ltb (get_or s.head.reply 0 0) 9 w.long) (rw (eq-eqb (get_or s.head.reply 1 0) 2 w.kind))) in
    let b5 : known d s.config.reply ≡ Ok (Known d c) = ap (result_map_both (Known d) fault_of) w.config in
    let e1 : r1 ≡ Ok (Begun head) = without_fault address Fresh (Begun head) s.begin.reply s.begin.code w.codes.0 b1 in
    let e2 : r2 ≡ Ok (Addressed head) = on (step s.address) r1 (Begun head) (Addressed head) e1 (without_fault address (Begun head) (Addressed head) s.address.reply s.address.code w.codes.1.0 refl) in
    let e3 : r3 ≡ Ok (Described d) = on (step s.device) r2 (Addressed head) (Described d) e2 (without_fault address (Addressed head) (Described d) s.device.reply s.device.code w.codes.1.1.0 b3) in
    let e4 : r4 ≡ Ok (Measured d total) = on (step s.head) r3 (Described d) (Measured d total) e3 (without_fault address (Described d) (Measured d total) s.head.reply s.head.code w.codes.1.1.1.0 b4) in
    let e5 : r5 ≡ Ok (Known d c) = on (step s.config) r4 (Measured d total) (Known d c) e4 (without_fault address (Measured d total) (Known d c) s.config.reply s.config.code w.codes.1.1.1.1.0 b5) in
    on (step s.end) r5 (Known d c) (Done d c) e5 (without_fault address (Known d c) (Done d c) s.end.reply s.end.code w.codes.1.1.1.1.1.0 refl)
