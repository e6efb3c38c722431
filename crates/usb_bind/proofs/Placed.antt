-- An endpoint that a driver finds has a place among those of the host.
use Rattle.std.proofs.Common.{suc, ◌≡◌, ℕ, ◌+◌, ◌<◌, Bool, true, false, not, cond, List, [], ◌∷◌, ◌++◌, length, Option, Some, None, refl, sym, ap, ◌∙◌, arith}
use Rattle.std.specs.Prelude.{◌&&◌, ◌||◌, ◌==◌, find, fold, position, IsSome}
use Rattle.std.specs.Option.{option_map_or}
use Rattle.std.specs.List.{position_or_len}
use Rattle.std.proofs.lemmas.Bool.{and_parts, eqb-true, eq-eqb, lt-ltb}
use Rattle.std.proofs.lemmas.List.Folds.{list_any-append}
use Rattle.usb_types.specs.declared.urb.Role.{Role}
use Rattle.usb_types.specs.declared.urb.Role.TheVariants.{In, Note, Read0, Read1, Write, Ctl}
use Rattle.usb_desc.specs.declared.tree.ConfigTree.{ConfigTree}
use Rattle.usb_desc.specs.declared.tree.Alt.{Alt}
use Rattle.usb_desc.specs.declared.tree.End.{End}
use Rattle.usb_desc.specs.Growth.{has_end}
use Rattle.usb_bind.specs.declared.row.Driver.{Driver}
use Rattle.usb_bind.specs.declared.row.Driver.TheVariants.{Keyboard, Acm, Printer}
use Rattle.usb_bind.specs.Interfaces.{joins, joined, host_ends, interfaces_of, interface_at, ends_of, place_of, packet_size}
use Rattle.usb_bind.specs.Needs.{is_missing, is_in, is_interrupt_in, is_bulk_in, is_bulk_out, data_interface, data_of, data_ends, end_for}
use Rattle.usb_bind.proofs.Meets.{end_more}
use Rattle.usb_bind.proofs.ByNumber.{by_number}
use Rattle.usb_bind.proofs.Standing.{or_false, not_true}

or_right : (a b : Bool) → b ≡ true → (a || b) ≡ true
or_right true b h = refl
or_right false b h = h

or_left : (a b : Bool) → a ≡ true → (a || b) ≡ true
or_left true b h = refl
or_left false b h = absurd cc

-- what is found passes the test, and its address is there
record Finds (test : End → Bool) (ends : List End) (e : End) : Type 0 where
  passes : test e ≡ true
  stands : has_end ends e.address ≡ true

found_by : (test : End → Bool) (f : End) (ends : List End) (e : End) (t : Bool) → test f ≡ t → cond t (Some f) (find test ends) ≡ Some e
    → (find test ends ≡ Some e → Finds test ends e) → Finds test (f ∷ ends) e
found_by test f ends e true h is rest =
    let same : f ≡ e = cc in
    record {
      passes = ap test (sym same) ∙ h;
      stands = or_left (f.address == e.address) (has_end ends e.address) (eq-eqb f.address e.address (ap (λ (x : End). x.address) same));
    }
found_by test f ends e false h is rest =
    let behind = rest is in
    record { passes = behind.passes; stands = or_right (f.address == e.address) (has_end ends e.address) behind.stands }

finds : (test : End → Bool) (ends : List End) (e : End) → find test ends ≡ Some e → Finds test ends e
finds test [] e is = absurd cc
finds test (f ∷ ends) e is = found_by test f ends e (test f) refl is (finds test ends e)

-- the endpoints of an interface that is found are among those of all
alt_by : (test : Alt → Bool) (b : Alt) (alts : List Alt) (a : Alt) (address : ℕ) (t : Bool) → cond t (Some b) (find test alts) ≡ Some a
    → has_end a.ends address ≡ true → (find test alts ≡ Some a → has_end (ends_of alts) address ≡ true) → has_end (b.ends ++ ends_of alts) address ≡ true
alt_by test b alts a address true is h rest =
    let same : b ≡ a = cc in
    list_any-append (λ (e : End). e.address == address) b.ends (ends_of alts)
    ∙ or_left (has_end b.ends address) (has_end (ends_of alts) address) (ap (λ (x : Alt). has_end x.ends address) same ∙ h)
alt_by test b alts a address false is h rest =
    list_any-append (λ (e : End). e.address == address) b.ends (ends_of alts)
    ∙ or_right (has_end b.ends address) (has_end (ends_of alts) address) (rest is)

alt_ends : (test : Alt → Bool) (alts : List Alt) (a : Alt) (address : ℕ) → find test alts ≡ Some a → has_end a.ends address ≡ true
    → has_end (ends_of alts) address ≡ true
alt_ends test [] a address is h = absurd cc
alt_ends test (b ∷ alts) a address is h = alt_by test b alts a address (test b) is h (λ is. alt_ends test alts a address is h)

-- an address that is there stays, and each that isn't 00 is added
stays_by : (ends : List End) (e : End) (address : ℕ) (t : Bool) → has_end ends address ≡ true → has_end (cond t (ends ++ e ∷ []) ends) address ≡ true
stays_by ends e address true h = end_more ends e address ∙ or_left (has_end ends address) (e.address == address || false) h
stays_by ends e address false h = h

stood : (zero stands : Bool) → not (zero || stands) ≡ false → zero ≡ false → stands ≡ true
stood true stands h z = absurd cc
stood false true h z = refl
stood false false h z = absurd cc

comes_by : (ends : List End) (e : End) (t : Bool) → joins ends e ≡ t → (e.address == 0) ≡ false → has_end (cond t (ends ++ e ∷ []) ends) e.address ≡ true
comes_by ends e true h nonzero =
    end_more ends e e.address ∙ or_right (has_end ends e.address) (e.address == e.address || false) (or_left (e.address == e.address) false (eq-eqb e.address e.address refl))
comes_by ends e false h nonzero = stood (e.address == 0) (has_end ends e.address) h nonzero

stays : (more ends : List End) (address : ℕ) → has_end ends address ≡ true → has_end (fold joined ends more) address ≡ true
stays [] ends address h = h
stays (e ∷ more) ends address h = stays more (joined ends e) address (stays_by ends e address (joins ends e) h)

comes_or : (e : End) (more ends : List End) (address : ℕ) (t : Bool) → (e.address == address) ≡ t → (address == 0) ≡ false
    → (t || has_end more address) ≡ true
    → (has_end more address ≡ true → has_end (fold joined (joined ends e) more) address ≡ true)
    → has_end (fold joined (joined ends e) more) address ≡ true
comes_or e more ends address true is nonzero h rest =
    let same : e.address ≡ address = eqb-true e.address address is in
    stays more (joined ends e) address
    (ap (has_end (joined ends e)) (sym same) ∙ comes_by ends e (joins ends e) refl (ap (λ n. n == 0) same ∙ nonzero))
comes_or e more ends address false is nonzero h rest = rest h

comes : (more ends : List End) (address : ℕ) → (address == 0) ≡ false → has_end more address ≡ true → has_end (fold joined ends more) address ≡ true
comes [] ends address nonzero h = absurd cc
comes (e ∷ more) ends address nonzero h =
    comes_or e more ends address (e.address == address) refl nonzero h (comes more (joined ends e) address nonzero)

-- an address that is there has a place
below_by : (e : End) (ends : List End) (address : ℕ) (t : Bool) → (t || has_end ends address) ≡ true
    → (has_end ends address ≡ true → position_or_len (λ (e : End). e.address == address) ends < length ends)
    → cond (not t) (1 + position_or_len (λ (e : End). e.address == address) ends) 0 < suc (length ends)
below_by e ends address true h rest = omega arith
below_by e ends address false h rest = omega (arith, rest h)

below_end : (ends : List End) (address : ℕ) → has_end ends address ≡ true → position_or_len (λ (e : End). e.address == address) ends < length ends
below_end [] address h = absurd cc
below_end (e ∷ ends) address h = below_by e ends address (e.address == address) h (below_end ends address)

placed : (ends : List End) (address : ℕ) → has_end ends address ≡ true → IsSome (position (λ (e : End). e.address == address) ends)
placed ends address h = rw (lt-ltb _ (length ends) (below_end ends address h)) refl

stands_in_host : (config : ConfigTree) (number : ℕ) (alt : Alt) (e : End) → interface_at config number ≡ Some alt → has_end alt.ends e.address ≡ true
    → is_missing e ≡ false → IsSome (place_of config e.address)
stands_in_host config number alt e there stands here =
    let found : find (λ (a : Alt). a.number == number) (interfaces_of config) ≡ Some alt = sym (by_number config number) ∙ there in
    let among = alt_ends (λ (a : Alt). a.number == number) (interfaces_of config) alt e.address found stands in
    placed (host_ends config) e.address
    (comes (ends_of (interfaces_of config)) [] e.address (or_false (e.address == 0) (packet_size e == 0) here).0 among)

not_missing : (kind side : Bool) (e : End) → (kind && side && not (is_missing e)) ≡ true → is_missing e ≡ false
not_missing kind side e h = not_true (is_missing e) (and_parts (kind && side) (not (is_missing e)) h).1

pub data_there : (config : ConfigTree) (alt d : Alt) (t : Bool) → cond t None (interface_at config (data_interface alt)) ≡ Some d → interface_at config (data_interface alt) ≡ Some d
data_there config alt d true h = absurd cc
data_there config alt d false h = h

-- the endpoints of the data are those of an interface that is there
data_by : (config : ConfigTree) (number : ℕ) (alt : Alt) (o : Option Alt) (test : End → Bool) (e : End) → data_of config alt ≡ o
    → find test (option_map_or (λ (a : Alt). a.ends) o []) ≡ Some e → is_missing e ≡ false → IsSome (place_of config e.address)
data_by config number alt None test e is found here = absurd cc
data_by config number alt (Some d) test e is found here =
    stands_in_host config (data_interface alt) d e (data_there config alt d (data_interface alt == alt.number) is) (finds test d.ends e found).stands here

in_data : (driver : Driver) (config : ConfigTree) (number : ℕ) (alt : Alt) (test : End → Bool) (e : End) → interface_at config number ≡ Some alt
    → find test (data_ends driver config alt) ≡ Some e → is_missing e ≡ false → IsSome (place_of config e.address)
in_data Keyboard config number alt test e there found here = absurd cc
in_data Acm config number alt test e there found here = data_by config number alt (data_of config alt) test e refl found here
in_data Printer config number alt test e there found here = stands_in_host config number alt e there (finds test alt.ends e found).stands here

pub end_placed : (driver : Driver) (config : ConfigTree) (number : ℕ) (alt : Alt) (role : Role) (e : End) → interface_at config number ≡ Some alt
    → end_for driver config alt role ≡ Some e → IsSome (place_of config e.address)
end_placed driver config number alt In e there found =
    let found_here = finds is_interrupt_in alt.ends e found in
    stands_in_host config number alt e there found_here.stands (not_missing _ (is_in e) e found_here.passes)
end_placed driver config number alt Note e there found =
    let found_here = finds is_interrupt_in alt.ends e found in
    stands_in_host config number alt e there found_here.stands (not_missing _ (is_in e) e found_here.passes)
end_placed driver config number alt Read0 e there found =
    in_data driver config number alt is_bulk_in e there found (not_missing _ (is_in e) e (finds is_bulk_in (data_ends driver config alt) e found).passes)
end_placed driver config number alt Read1 e there found =
    in_data driver config number alt is_bulk_in e there found (not_missing _ (is_in e) e (finds is_bulk_in (data_ends driver config alt) e found).passes)
end_placed driver config number alt Write e there found =
    in_data driver config number alt is_bulk_out e there found (not_missing _ (not (is_in e)) e (finds is_bulk_out (data_ends driver config alt) e found).passes)
end_placed driver config number alt Ctl e there found = absurd cc
