-- The requests of an enumeration, one after another, and what the device answers.
use Rattle.std.proofs.Common.{ℕ, zero, suc, ◌≡◌, ◌+◌, ◌%◌, ◌<◌, ◌≤◌, Bool, true, false, ◌||◌, eqb, Option, Some, None, Result, Ok, Err, List, [], ◌∷◌, ◌++◌, length, take, refl, sym, ap, ◌∙◌, subst, arith, eq-eqb, ne_eqb, add-one, append-nil, length-take, ◌-◌}
use Rattle.std.specs.Prelude.{slice_index, bytes_eq}
use Rattle.std.specs.Result.{result_map_both}
use Rattle.usb_types.specs.declared.errno.Code.TheVariants.{Zero}
use Rattle.usb_desc.specs.declared.fault.DescFault.TheVariants.{Short}
use Rattle.usb_desc.specs.declared.device.DeviceDesc.{DeviceDesc}
use Rattle.usb_desc.specs.declared.tree.ConfigTree.{ConfigTree}
use Rattle.usb_desc.specs.Device.{device_of}
use Rattle.usb_desc.specs.Read.{tree_of}
use Rattle.usb_desc.specs.Spell.{spell}
use Rattle.usb_desc.proofs.Found.{tree_found}
use Rattle.usb_ctrl.specs.declared.setup.Setup.{Setup}
use Rattle.usb_ctrl.specs.Setup.{low}
use Rattle.usb_ctrl.specs.declared.fault.EnumFault.{EnumFault}
use Rattle.usb_ctrl.specs.declared.fault.EnumFault.TheVariants.{Descriptor, Changed}
use Rattle.usb_ctrl.specs.declared.stage.Stage.{Stage}
use Rattle.usb_ctrl.specs.declared.stage.Stage.TheVariants.{Fresh, Begun, Addressed, Described, Measured, Known, Done, Failed}
use Rattle.usb_ctrl.specs.Requests.{asks, get_descriptor, set_address, set_configuration}
use Rattle.usb_ctrl.specs.Enumeration.{answer, then_by, heard, unchanged, fault_of}
use Rattle.usb_xfer.specs.declared.script.DeviceScript.{DeviceScript}
use Rattle.usb_xfer.specs.Replies.{Ask}
use Rattle.usb_device.specs.declared.state.DeviceState.{DeviceState}
use Rattle.usb_device.specs.Rules.{first_state, bytes_or, config_value, Ruled, control_rule}
use Rattle.usb_device.specs.Device.{Call, questions_at, is_raw, by_item, state_after, reply_to}
use Rattle.usb_device.proofs.Calls.{count-snoc_here, state-snoc_00}
use Rattle.usb_device.proofs.Counting.{enumerated}
use Rattle.usb_device.proofs.Asking.{at_other, said_free}
use Rattle.usb_scene.specs.WellFormed.{AreGiven}
use Rattle.usb_prepare.specs.Enumerated.{desc_of, config_said, said_at, one_more, after}
use Rattle.usb_prepare.specs.Probing.{asking}
use Rattle.usb_prepare.specs.Prepared.{request_in, request_at, requests_heard}
use Rattle.usb_prepare.specs.Requests.{answer_to, left_of, is_failed, IsAt}
use Rattle.usb_prepare.proofs.Sound.{ok_in, then_in, known_in, measured_in, Says, reached, all_by}

-- the request of a stage
request_of : ℕ → Stage → Setup
request_of address Fresh = get_descriptor 0x0100 8
request_of address (Begun head) = set_address address
request_of address (Addressed head) = get_descriptor 0x0100 18
request_of address (Described device) = get_descriptor 0x0200 9
request_of address (Measured device total) = get_descriptor 0x0200 total
request_of address (Known device config) = set_configuration config.value
request_of address (Done device config) = get_descriptor 0 0
request_of address Failed = get_descriptor 0 0

is_request : (address : ℕ) (stage : Stage) (setup : Setup) → asks address stage ≡ Some setup → request_of address stage ≡ setup
unfolding request_of
is_request address Fresh setup is = cc
is_request address (Begun head) setup is = cc
is_request address (Addressed head) setup is = cc
is_request address (Described device) setup is = cc
is_request address (Measured device total) setup is = cc
is_request address (Known device config) setup is = cc
is_request address (Done device config) setup is = cc
is_request address Failed setup is = cc

some_left : (address : ℕ) (stage : Stage) (setup : Setup) → asks address stage ≡ Some setup → 0 < left_of stage
some_left address Fresh setup is = omega arith
some_left address (Begun head) setup is = omega arith
some_left address (Addressed head) setup is = omega arith
some_left address (Described device) setup is = omega arith
some_left address (Measured device total) setup is = omega arith
some_left address (Known device config) setup is = omega arith
some_left address (Done device config) setup is = cc
some_left address Failed setup is = cc

-- an answer that is good leaves one request less
record IsNext (stage next : Stage) : Type 0 where
  pub less : left_of next + 1 ≡ left_of stage
  pub live : is_failed next ≡ false

module _ (script : DeviceScript) (address : ℕ) where
  with_config : (o : Option (List ℕ)) (device : DeviceDesc) (n : ℕ) (next : Stage) → heard address (Measured device n) (config_said o n).reply (config_said o n).code ≡ Ok next → IsNext (Measured device n) next
  with_config None device n next is = cc
  with_config (Some bytes) device n next is =
      let known = known_in device (tree_of (take n bytes)) next is in
      subst (IsNext (Measured device n)) known.2 record { less = refl; live = refl }

  with_head : (o : Option (List ℕ)) (device : DeviceDesc) (next : Stage) → heard address (Described device) (config_said o 9).reply (config_said o 9).code ≡ Ok next → IsNext (Described device) next
  with_head None device next is = cc
  with_head (Some bytes) device next is = subst (IsNext (Described device)) (measured_in device (take 9 bytes) next is).1 record { less = refl; live = refl }

  one_less : (stage next : Stage) → 0 < left_of stage → one_more script address stage ≡ Ok next → IsNext stage next
  one_less Fresh next l is = subst (IsNext Fresh) (ok_in (eqb (length (take 8 (desc_of script))) 8) (Begun (take 8 (take 8 (desc_of script)))) next (Descriptor (Short (length (take 8 (desc_of script))))) is) record { less = refl; live = refl }
  one_less (Begun head) next l is = let same : Addressed head ≡ next = cc in subst (IsNext (Begun head)) same record { less = refl; live = refl }
  one_less (Addressed head) next l is =
      let reply = take 18 (desc_of script) in
      let read = then_in (unchanged head (take 8 reply)) (result_map_both (λ d. d) fault_of (device_of reply)) next is in
      subst (IsNext (Addressed head)) (ok_in (bytes_eq (take 8 reply) head) (Described read.0) next (Changed head (take 8 reply)) read.2) record { less = refl; live = refl }
  one_less (Described device) next l is = with_head script.config device next is
  one_less (Measured device total) next l is = with_config script.config device total next is
  one_less (Known device c) next l is = let same : Done device c ≡ next = cc in subst (IsNext (Known device c)) same record { less = refl; live = refl }
  one_less (Done device c) next l is = absurd (omega arith)
  one_less Failed next l is = absurd (omega arith)

  -- what the rules answer at each stage, and the state after it
  module _ (state : DeviceState) where
    abbrev rule : Setup → Ruled
    rule setup = control_rule script state setup []

    given_config : (o : Option (List ℕ)) (n : ℕ) → script.config ≡ o → answer_to (get_descriptor 0x0200 n) (rule (get_descriptor 0x0200 n)).reply ≡ config_said o n
    given_config None n at = cc
    given_config (Some bytes) n at = cc

    address_ruled : (b : Bool) → eqb state.configuration 0 ≡ b → b ≡ true → (answer_to (set_address address) (rule (set_address address)).reply ≡ answer [] Zero) × ((rule (set_address address)).state ≡ record state { address = low address })
    address_ruled true at is = (cc, cc)
    address_ruled false at is = cc

    configured : (c : ConfigTree) (a b : Bool) → eqb state.address 0 ≡ a → a ≡ false → (eqb c.value 0 || eqb c.value (config_value script)) ≡ b → b ≡ true
        → (answer_to (set_configuration c.value) (rule (set_configuration c.value)).reply ≡ answer [] Zero) × ((rule (set_configuration c.value)).state ≡ record state { configuration = c.value })
    configured c true b at is and be = cc
    configured c false false at is and be = cc
    configured c false true at is and be = (cc, cc)

  -- the answer to each request is that of the stage, and the state after it
  record IsRuled (state : DeviceState) (stage : Stage) : Type 0 where
    pub told : answer_to (request_of address stage) (control_rule script state (request_of address stage) []).reply ≡ said_at script stage
    pub bare : 1 < left_of stage → state.configuration ≡ 0 → (control_rule script state (request_of address stage) []).state.configuration ≡ 0
    pub named : left_of stage ≤ 5 → (left_of stage ≤ 4 → state.address ≡ address) → (control_rule script state (request_of address stage) []).state.address ≡ address

  module _ (state : DeviceState) (fits : address < 128) (bare : 0 < 6 → state.configuration ≡ 0) where
    ruled_fresh : IsRuled state Fresh
    unfolding request_of
    ruled_fresh = record { told = refl; bare = λ l e. e; named = λ l e. absurd (omega arith) }

    ruled_begun : (head : List ℕ) → IsRuled state (Begun head)
    unfolding request_of
    ruled_begun head =
        let r = address_ruled state (eqb state.configuration 0) refl (eq-eqb state.configuration 0 (bare (omega arith))) in
        let same : address % 256 ≡ address = omega arith in
        record {
          told = r.0;
          bare = λ l e. ap (λ (d : DeviceState). d.configuration) r.1 ∙ e;
          named = λ l e. ap (λ (d : DeviceState). d.address) r.1 ∙ same;
        }

    ruled_addressed : (head : List ℕ) → IsRuled state (Addressed head)
    unfolding request_of
    ruled_addressed head = record { told = refl; bare = λ l e. e; named = λ l e. e (omega arith) }

    config_state : (o : Option (List ℕ)) (n : ℕ) → script.config ≡ o → (control_rule script state (get_descriptor 0x0200 n) []).state ≡ state
    config_state None n at = cc
    config_state (Some bytes) n at = cc

    ruled_described : (device : DeviceDesc) → IsRuled state (Described device)
    unfolding request_of
    ruled_described device = record {
      told = given_config state script.config 9 refl;
      bare = λ l e. ap (λ (d : DeviceState). d.configuration) (config_state script.config 9 refl) ∙ e;
      named = λ l e. ap (λ (d : DeviceState). d.address) (config_state script.config 9 refl) ∙ e (omega arith);
    }

    ruled_measured : (device : DeviceDesc) (total : ℕ) → IsRuled state (Measured device total)
    unfolding request_of
    ruled_measured device total = record {
      told = given_config state script.config total refl;
      bare = λ l e. ap (λ (d : DeviceState). d.configuration) (config_state script.config total refl) ∙ e;
      named = λ l e. ap (λ (d : DeviceState). d.address) (config_state script.config total refl) ∙ e (omega arith);
    }

  -- the value that sets the configuration is its byte 5
  value_is : (c : ConfigTree) → AreGiven 65535 script.config → Says script c → c.value ≡ config_value script
  value_is c given says =
      let bytes = says.1 in
      let all : AreGiven 65535 (Some bytes) = subst (AreGiven 65535) says.2 given in
      let good = tree_found (take says.0 bytes) c (all_by bytes says.0 all.0) says.3 in
      let same : slice_index (take says.0 bytes) 5 ≡ c.value = ap (λ l. slice_index l 5) (sym good.1) in
      let long : 9 ≤ length (take says.0 bytes) = subst (λ (l : List ℕ). 9 ≤ length l) good.1 (nine c) in
      sym same ∙ (in_take bytes says.0 5 (omega arith) ∙ ap (λ o. slice_index (bytes_or o []) 5) (sym says.2))
    where
      nine : (c : ConfigTree) → 9 ≤ length (spell c)
      nine c = omega arith

      in_take : (xs : List ℕ) (n i : ℕ) → i < length (take n xs) → slice_index (take n xs) i ≡ slice_index xs i
      in_take [] zero i l = refl
      in_take [] (suc n) i l = refl
      in_take (x ∷ xs) zero i l = absurd (omega arith)
      in_take (x ∷ xs) (suc n) zero l = refl
      in_take (x ∷ xs) (suc n) (suc i) l = in_take xs n i (omega arith)

  ruled_known : (state : DeviceState) (device : DeviceDesc) (c : ConfigTree) → 0 < address → state.address ≡ address → c.value ≡ config_value script → IsRuled state (Known device c)
  unfolding request_of
  ruled_known state device c some at value =
      let off : eqb state.address 0 ≡ false = ne_eqb state.address 0 (λ e. absurd (omega arith)) in
      let is : (eqb c.value 0 || eqb c.value (config_value script)) ≡ true = ap (λ b. eqb c.value 0 || b) (eq-eqb c.value (config_value script) value) ∙ or-true (eqb c.value 0) in
      let r = configured state c (eqb state.address 0) (eqb c.value 0 || eqb c.value (config_value script)) refl off refl is in
      record {
        told = r.0;
        bare = λ l e. absurd (omega arith);
        named = λ l e. ap (λ (d : DeviceState). d.address) r.1 ∙ at;
      }
    where
      or-true : (a : Bool) → (a || true) ≡ true
      or-true true = refl
      or-true false = refl

  module _ (other : is_raw script.kind ≡ false) (given : AreGiven 65535 script.config) (some : 0 < address) (fits : address < 128) where
    stage_ruled : (state : DeviceState) (stage : Stage) → 0 < left_of stage → state.configuration ≡ 0 → (left_of stage ≤ 4 → state.address ≡ address)
        → ((device : DeviceDesc) (c : ConfigTree) → stage ≡ Known device c → Says script c) → IsRuled state stage
    stage_ruled state Fresh l bare named says = ruled_fresh state fits (λ m. bare)
    stage_ruled state (Begun head) l bare named says = ruled_begun state fits (λ m. bare) head
    stage_ruled state (Addressed head) l bare named says = ruled_addressed state fits (λ m. bare) head
    stage_ruled state (Described device) l bare named says = ruled_described state fits (λ m. bare) device
    stage_ruled state (Measured device total) l bare named says = ruled_measured state fits (λ m. bare) device total
    stage_ruled state (Known device c) l bare named says = ruled_known state device c some (named (omega arith)) (value_is c given (says device c refl))
    stage_ruled state (Done device c) l bare named says = absurd (omega arith)
    stage_ruled state Failed l bare named says = absurd (omega arith)

    module _ (k : ℕ) (stage : Stage) (calls : List Call) (setup : Setup) (at : IsAt script address k stage calls) (asked : asks address stage ≡ Some setup) where
      more : 0 < left_of stage
      more = some_left address stage setup asked

      says : (device : DeviceDesc) (c : ConfigTree) → stage ≡ Known device c → Says script c
      says device c is = reached script address k (Known device c) (at.so_far ∙ ap (λ x. Ok x) is)

      ruled : IsRuled (state_after script calls) stage
      ruled = stage_ruled (state_after script calls) stage more (at.bare more) at.named says

      few : length (questions_at 0 calls) < 6
      few = let count = at.count in let place = at.place in let l = more in omega arith

      is_setup : request_of address stage ≡ setup
      is_setup = is_request address stage setup asked

      -- the answer is that of the stage
      pub told : answer_to setup (reply_to script calls (asking setup)) ≡ said_at script stage
      told = ap (answer_to setup) (enumerated script calls setup [] other few)
          ∙ (ap (λ s. answer_to s (control_rule script (state_after script calls) s []).reply) (sym is_setup) ∙ ruled.told)

      state_is : state_after script (calls ++ asking setup ∷ []) ≡ (control_rule script (state_after script calls) (request_of address stage) []).state
      state_is = state-snoc_00 script calls (asking setup) refl
          ∙ (ap (λ (r : Ruled). r.state) (at_other script calls (Ask setup []) other ∙ ap (λ r. by_item r script (state_after script calls) (Ask setup [])) (said_free script calls few))
          ∙ ap (λ s. (control_rule script (state_after script calls) s []).state) (sym is_setup))

      after_more : (r : Result Stage EnumFault) → one_more script address stage ≡ r → after script address (k + 1) ≡ r
      after_more r is = ap (after script address) (add-one k) ∙ (ap (then_by (one_more script address)) at.so_far ∙ is)

      pub requests_more : calls ++ asking setup ∷ [] ≡ requests_heard script address (k + 1)
      requests_more = ap (λ l. l ++ asking setup ∷ []) at.requests
          ∙ (ap (λ l. requests_heard script address k ++ l) (sym (ap (request_at address) at.so_far ∙ ap request_in asked)) ∙ ap (requests_heard script address) (sym (add-one k)))

      pub goes_on : (next : Stage) → heard address stage (said_at script stage).reply (said_at script stage).code ≡ Ok next → IsAt script address (k + 1) next (calls ++ asking setup ∷ [])
      goes_on next is =
          let one = one_less stage next more is in
          let less = one.less in let place = at.place in let l = more in
          record {
            so_far = after_more (Ok next) is;
            requests = requests_more;
            place = omega arith;
            live = one.live;
            count = count-snoc_here 0 calls (asking setup) refl ∙ ap (λ n. n + 1) at.count;
            bare = λ m. ap (λ (d : DeviceState). d.configuration) state_is ∙ ruled.bare (omega arith) (at.bare more);
            named = λ m. ap (λ (d : DeviceState). d.address) state_is ∙ ruled.named (omega arith) at.named;
          }

      pub ends : (fault : EnumFault) → heard address stage (said_at script stage).reply (said_at script stage).code ≡ Err fault → after script address (k + 1) ≡ Err fault
      ends fault is = after_more (Err fault) is

  -- after a fault nothing comes
  fault_stays : (fault : EnumFault) (k n : ℕ) → after script address k ≡ Err fault → (after script address (n + k) ≡ Err fault) × (requests_heard script address (n + k) ≡ requests_heard script address k)
  fault_stays fault k zero is = let same : 0 + k ≡ k = omega arith in (ap (after script address) same ∙ is, ap (requests_heard script address) same)
  fault_stays fault k (suc n) is =
      let rest = fault_stays fault k n is in
      let next : suc n + k ≡ suc (n + k) = omega arith in (
        ap (after script address) next ∙ ap (then_by (one_more script address)) rest.0,
        ap (requests_heard script address) next ∙ (ap (λ r. requests_heard script address (n + k) ++ request_at address r) rest.0 ∙ (append-nil (requests_heard script address (n + k)) ∙ rest.1)),
      )

  pub fault_ends : (fault : EnumFault) (k : ℕ) → k ≤ 6 → after script address k ≡ Err fault → (after script address 6 ≡ Err fault) × (requests_heard script address k ≡ requests_heard script address 6)
  fault_ends fault k l is =
      let rest = fault_stays fault k (6 - k) is in
      let all : 6 - k + k ≡ 6 = omega arith in
      (ap (after script address) (sym all) ∙ rest.0, sym rest.1 ∙ ap (requests_heard script address) all)

  -- before the first request
  pub fresh_at : IsAt script address 0 Fresh []
  unfolding first_state
  fresh_at = record { so_far = refl; requests = refl; place = refl; live = refl; count = refl; bare = λ l. refl; named = λ l. absurd (omega arith) }

-- the bytes of an answer fit in a room that is large enough
pub fits_room : (script : DeviceScript) (stage : Stage) → AreGiven 65535 script.config → length (said_at script stage).reply ≤ 65535
fits_room script Fresh given = let long = length-take 8 (desc_of script) in omega arith
fits_room script (Begun head) given = omega arith
fits_room script (Addressed head) given = let long = length-take 18 (desc_of script) in omega arith
fits_room script (Described device) given = config_fits script.config 9 given
  where
    config_fits : (o : Option (List ℕ)) (n : ℕ) → AreGiven 65535 o → length (config_said o n).reply ≤ 65535
    config_fits None n given = omega arith
    config_fits (Some bytes) n given = let long = length-take n bytes in let most = given.1 in omega arith
fits_room script (Measured device total) given = config_fits script.config total given
  where
    config_fits : (o : Option (List ℕ)) (n : ℕ) → AreGiven 65535 o → length (config_said o n).reply ≤ 65535
    config_fits None n given = omega arith
    config_fits (Some bytes) n given = let long = length-take n bytes in let most = given.1 in omega arith
fits_room script (Known device c) given = omega arith
fits_room script (Done device c) given = omega arith
fits_room script Failed given = omega arith
