-- Laws of the replies.
use Rattle.std.proofs.Common.{ℕ, zero, suc, ◌≡◌, ◌≢◌, ◌+◌, ◌<◌, ◌≤◌, Bool, true, false, cond, not, eqb, Option, Some, None, List, [], ◌∷◌, ◌++◌, length, take, map, filter, replicate, refl, sym, ap, ◌∙◌, subst, arith, append_assoc, length-take, ne_eqb}
use Rattle.std.specs.Prelude.{◌&&◌, ◌||◌, slice_index, slice_index_or, slice_set}
use Rattle.std.specs.List.{All}
use Rattle.std.proofs.Math.Seq.{take-append_seam}
use Rattle.std.proofs.lemmas.Bool.{eqb-true}
use Rattle.std.proofs.lemmas.List.Elements.{All-head, All-tail, All-take, All-map, All-filter}
use Rattle.usb_ctrl.specs.declared.setup.Setup.{Setup}
use Rattle.usb_ctrl.specs.Setup.{low}
use Rattle.usb_xfer.specs.Direction.{goes_in}
use Rattle.usb_xfer.specs.Replies.{Reply, Question, Fetch, Send, Ask}
use Rattle.usb_xfer.specs.declared.script.What.TheVariants.{Ack, Nak, Stall, Error, Packet}
use Rattle.usb_xfer.specs.declared.script.Kind.{Kind}
use Rattle.usb_xfer.specs.declared.script.Kind.TheVariants.{Raw, Keyboard, Acm, Printer}
use Rattle.usb_xfer.specs.declared.script.DeviceScript.{DeviceScript}
use Rattle.usb_device.specs.declared.state.DeviceState.{DeviceState}
use Rattle.usb_device.specs.declared.scripted.Scripted.{Scripted}
use Rattle.usb_device.specs.Items.{reply_of, script_at}
use Rattle.usb_device.specs.Rules.{first_state, is_halted, named_by, halts, is_of, is_at, config_value, with_address, with_configuration, standard_taken, class_taken, given, taken, gives, takes, Ruled, control_rule}
use Rattle.usb_device.specs.Device.{Call, questions_at, is_raw, ruled, said_at_00, by_item, at_00, state_from, state_after, unhalted, used_at, end_reply, reply_to, Stands}
use Rattle.usb_device.specs.Replied.{call_of, Replied}
use Rattle.usb_device.specs.Laws.{sets_halt, NoneHalts, CountsCalls}
use Rattle.usb_device.proofs.Calls.{used-snoc_halted}
use Rattle.usb_device.proofs.Asking.{at_other, said_free}

-- no address is halted
abbrev IsCalm : DeviceState → Type 0
IsCalm state = (a : ℕ) → is_halted state a ≡ false

all_false : (n i : ℕ) → slice_index_or (replicate n false) i false ≡ false
all_false zero i = refl
all_false (suc n) zero = refl
all_false (suc n) (suc i) = all_false n i

set_false : (flags : List Bool) (i a : ℕ) → slice_index_or flags a false ≡ false → slice_index_or (slice_set flags i false) a false ≡ false
set_false [] i a is = is
set_false (x ∷ flags) zero zero is = refl
set_false (x ∷ flags) zero (suc a) is = is
set_false (x ∷ flags) (suc i) zero is = is
set_false (x ∷ flags) (suc i) (suc a) is = set_false flags i a is

calm_first : IsCalm first_state
unfolding first_state
calm_first a = all_false 256 a

-- what is taken leaves no halt
abbrev IsCalmBehind : Option DeviceState → Type 0
IsCalmBehind (Some next) = IsCalm next
IsCalmBehind None = Unit {0}

module _ (script : DeviceScript) (state : DeviceState) (calm : IsCalm state) (s : Setup) where
  configuration_calm : IsCalmBehind (with_configuration script state s.value)
  configuration_calm = go (eqb state.address 0) (eqb s.value 0 || eqb s.value (config_value script))
    where
      go : (a b : Bool) → IsCalmBehind (cond a None (cond b (Some (record state { configuration = s.value })) None))
      go true b = tt
      go false true = calm
      go false false = tt

  address_calm : IsCalmBehind (with_address state s.value)
  address_calm = go (eqb state.configuration 0)
    where
      go : (b : Bool) → IsCalmBehind (cond b (Some (record state { address = low s.value })) None)
      go true = calm
      go false = tt

  standard_calm : is_at 0x02 3 0 s ≡ false → IsCalmBehind (standard_taken script state s)
  standard_calm unset = go (is_of 0x00 5 s) (is_of 0x00 9 s) (is_at 0x02 1 0 s) (is_at 0x02 3 0 s) (is_at 0x01 11 0 s) unset
    where
      go : (a b c d e : Bool) → d ≡ false → IsCalmBehind (cond a (with_address state s.value) (cond b (with_configuration script state s.value)
          (cond c (Some (halts false s state)) (cond d (Some (halts true s state)) (cond e (Some state) None)))))
      go true b c d e f = address_calm
      go false true c d e f = configuration_calm
      go false false true d e f = λ a. set_false state.halted (named_by s) a (calm a)
      go false false false true e f = absurd cc
      go false false false false true f = calm
      go false false false false false f = tt

  class_calm : (kind : Kind) (out : List ℕ) → IsCalmBehind (class_taken kind state s out)
  class_calm Raw out = tt
  class_calm Keyboard out = go (eqb s.request 0x09 && eqb (length out) 1) (eqb s.request 0x0A) (eqb s.request 0x0B && (eqb s.value 0 || eqb s.value 1))
    where
      go : (a b c : Bool) → IsCalmBehind (cond a (Some (record state { leds = slice_index out 0 })) (cond b (Some state) (cond c (Some state) None)))
      go true b c = calm
      go false true c = calm
      go false false true = calm
      go false false false = tt
  class_calm Acm out = go (eqb s.request 0x20 && eqb (length out) 7) (eqb s.request 0x22) (eqb s.request 0x23)
    where
      go : (a b c : Bool) → IsCalmBehind (cond a (Some (record state { coding = out })) (cond b (Some (record state { lines = s.value })) (cond c (Some state) None)))
      go true b c = calm
      go false true c = calm
      go false false true = calm
      go false false false = tt
  class_calm Printer out = go (eqb s.request 0x02)
    where
      go : (b : Bool) → IsCalmBehind (cond b (Some state) None)
      go true = calm
      go false = tt

  taken_calm : (out : List ℕ) → is_at 0x02 3 0 s ≡ false → IsCalmBehind (taken script state s out)
  taken_calm out unset = go (eqb s.kind 0x21)
    where
      go : (b : Bool) → IsCalmBehind (cond b (class_taken script.kind state s out) (standard_taken script state s))
      go true = class_calm script.kind out
      go false = standard_calm unset

  rule_calm : (out : List ℕ) → is_at 0x02 3 0 s ≡ false → IsCalm (control_rule script state s out).state
  rule_calm out unset = go (goes_in s.kind) (given script state s) (taken script state s out) (taken_calm out unset)
    where
      go : (b : Bool) (gift : Option (List ℕ)) (next : Option DeviceState) → IsCalmBehind next → IsCalm (cond b (gives state s.length gift) (takes state next)).state
      go true (Some bytes) next q = calm
      go true None next q = calm
      go false gift (Some next) q = q
      go false gift None q = calm

ruled_calm : (script : DeviceScript) (state : DeviceState) (q : Question) → IsCalm state → sets_halt q ≡ false → IsCalm (ruled script state q).state
ruled_calm script state (Ask setup out) calm unset = rule_calm script state calm setup out unset
ruled_calm script state (Send packet) calm unset = calm
ruled_calm script state Fetch calm unset = calm

item_calm : (r : Reply) (script : DeviceScript) (state : DeviceState) (q : Question) → IsCalm state → sets_halt q ≡ false → IsCalm (by_item r script state q).state
item_calm Ack script state q calm unset = ruled_calm script state q calm unset
item_calm Nak script state q calm unset = calm
item_calm Stall script state q calm unset = calm
item_calm Error script state q calm unset = calm
item_calm (Packet bytes) script state q calm unset = calm

at_00_calm : (script : DeviceScript) (state : DeviceState) (n : ℕ) (q : Question) → IsCalm state → sets_halt q ≡ false → IsCalm (at_00 script state n q).state
at_00_calm script state n q calm unset = go (is_raw script.kind)
  where
    go : (b : Bool) → IsCalm (cond b (record { reply = reply_of (script_at script 0) n; state = state }) (by_item (said_at_00 script n) script state q)).state
    go true = calm
    go false = item_calm (said_at_00 script n) script state q calm unset

state_calm : (script : DeviceScript) (state : DeviceState) (n : ℕ) (asked : List Question) → IsCalm state → All (λ q. sets_halt q ≡ false) asked → IsCalm (state_from script state n asked)
state_calm script state n [] calm none = calm
state_calm script state n (q ∷ asked) calm none =
    state_calm script (at_00 script state n q).state (n + 1) asked (at_00_calm script state n q calm (All-head (λ q. sets_halt q ≡ false) q asked none)) (All-tail (λ q. sets_halt q ≡ false) q asked none)

calm_after : (script : DeviceScript) (calls : List Call) → NoneHalts calls → IsCalm (state_after script calls)
calm_after script calls none = state_calm script first_state 0 (questions_at 0 calls) calm_first
    (All-map (λ q. sets_halt q ≡ false) (λ (c : Call). c.question) (filter (λ (c : Call). eqb c.address 0) calls) (All-filter (λ (c : Call). eqb c.address 0) (λ (c : Call). sets_halt c.question ≡ false) calls none))

-- the control transfers of a raw device change nothing
raw_state : (script : DeviceScript) (state : DeviceState) (n : ℕ) (asked : List Question) → is_raw script.kind ≡ true → state_from script state n asked ≡ state
raw_state script state n [] raw = refl
raw_state script state n (q ∷ asked) raw =
    let same : (at_00 script state n q).state ≡ state = ap (λ b. (cond b (record { reply = reply_of (script_at script 0) n; state = state }) (by_item (said_at_00 script n) script state q)).state) raw in
    ap (λ s. state_from script s (n + 1) asked) same ∙ raw_state script state (n + 1) asked raw

raw_calm : (script : DeviceScript) (calls : List Call) → is_raw script.kind ≡ true → IsCalm (state_after script calls)
raw_calm script calls raw a = ap (λ s. is_halted s a) (raw_state script first_state 0 (questions_at 0 calls) raw) ∙ calm_first a

-- where no call before one of these met a halt, each at the address counts
each_counts : (script : DeviceScript) (a : ℕ) (C : List Call → Type 0) → ((l : List Call) → C l → is_halted (state_after script l) a ≡ false) → ((l k : List Call) → C (l ++ k) → C l)
    → (before calls : List Call) → C (before ++ calls) → unhalted script a before calls ≡ length (questions_at a calls)
each_counts script a C calm front before [] is = refl
each_counts script a C calm front before (c ∷ calls) is =
    go (eqb c.address a) (calm before (front before (c ∷ calls) is)) (each_counts script a C calm front (before ++ c ∷ []) calls (subst C (sym (append_assoc before (c ∷ []) calls)) is))
  where
    go : (b : Bool) → is_halted (state_after script before) a ≡ false → unhalted script a (before ++ c ∷ []) calls ≡ length (questions_at a calls)
        → cond (b && not (is_halted (state_after script before) a)) 1 0 + unhalted script a (before ++ c ∷ []) calls
        ≡ length (map (λ (d : Call). d.question) (cond b (c ∷ filter (λ (d : Call). eqb d.address a) calls) (filter (λ (d : Call). eqb d.address a) calls)))
    go true going more = let one : 1 + length (questions_at a calls) ≡ suc (length (questions_at a calls)) = omega arith in (λ i. cond (not (going i)) 1 0 + more i) ∙ one
    go false going more = let none : 0 + length (questions_at a calls) ≡ length (questions_at a calls) = omega arith in ap (λ n. 0 + n) more ∙ none

end_is : (script : DeviceScript) (calls : List Call) (c : Call) → c.address ≢ 0 → reply_to script calls c ≡ end_reply script calls c.address
end_is script calls c off = ap (λ b. cond b (at_00 script (state_after script calls) (length (questions_at 0 calls)) c.question).reply (end_reply script calls c.address)) (ne_eqb c.address 0 off)

end_counts : (script : DeviceScript) (calls : List Call) (c : Call) → c.address ≢ 0 → is_halted (state_after script calls) c.address ≡ false → used_at script calls c.address ≡ length (questions_at c.address calls) → CountsCalls script calls c
end_counts script calls c off going all = end_is script calls c off ∙ (ap (λ b. cond b Stall (reply_of (script_at script c.address) (used_at script calls c.address))) going ∙ ap (reply_of (script_at script c.address)) all)

pub raw_counts : (script : DeviceScript) (calls : List Call) (c : Call) → script.kind ≡ Raw → CountsCalls script calls c
raw_counts script calls c kind = go (eqb c.address 0) refl
  where
    raw : is_raw script.kind ≡ true
    raw = ap is_raw kind

    go : (b : Bool) → eqb c.address 0 ≡ b → CountsCalls script calls c
    go true e =
        let is : c.address ≡ 0 = eqb-true c.address 0 e in
        ap (λ b. cond b (at_00 script (state_after script calls) (length (questions_at 0 calls)) c.question).reply (end_reply script calls c.address)) e
        ∙ (ap (λ b. (cond b (record { reply = reply_of (script_at script 0) (length (questions_at 0 calls)); state = state_after script calls })
        (by_item (said_at_00 script (length (questions_at 0 calls))) script (state_after script calls) c.question)).reply) raw
        ∙ ap (λ a. reply_of (script_at script a) (length (questions_at a calls))) (sym is))
    go false e =
        end_counts script calls c (λ z. off z e) (raw_calm script calls raw c.address)
        (each_counts script c.address (λ l. Unit {0}) (λ l u. raw_calm script l raw c.address) (λ l k u. tt) [] calls tt)
      where
        off : c.address ≡ 0 → eqb c.address 0 ≡ false → ⊥
        off z f = grind arith

none_front : (l k : List Call) → NoneHalts (l ++ k) → NoneHalts l
none_front l k none = subst NoneHalts (take-append_seam l k) (All-take (λ (c : Call). sets_halt c.question ≡ false) (length l) (l ++ k) none)

pub unhalted_counts : (script : DeviceScript) (calls : List Call) (c : Call) → c.address ≢ 0 → NoneHalts calls → CountsCalls script calls c
unhalted_counts script calls c off none =
    end_counts script calls c off (calm_after script calls none c.address)
    (each_counts script c.address NoneHalts (λ l n. calm_after script l n c.address) none_front [] calls none)

pub halted_stalls : (script : DeviceScript) (calls : List Call) (c : Call) → c.address ≢ 0 → is_halted (state_after script calls) c.address ≡ true
    → (reply_to script calls c ≡ Stall) × (used_at script (calls ++ c ∷ []) c.address ≡ used_at script calls c.address)
halted_stalls script calls c off halted = (
  end_is script calls c off ∙ ap (λ b. cond b Stall (reply_of (script_at script c.address) (used_at script calls c.address))) halted,
  used-snoc_halted script c.address calls c halted,
)

pub enumerated : (script : DeviceScript) (calls : List Call) (setup : Setup) (out : List ℕ) → is_raw script.kind ≡ false → length (questions_at 0 calls) < 6
    → reply_to script calls (call_of 0 (Ask setup out)) ≡ (control_rule script (state_after script calls) setup out).reply
enumerated script calls setup out other few =
    ap (λ (r : Ruled). r.reply) (at_other script calls (Ask setup out) other ∙ ap (λ r. by_item r script (state_after script calls) (Ask setup out)) (said_free script calls few))

pub no_more : (script : DeviceScript) (state : DeviceState) (s : Setup) (out bytes : List ℕ) → (control_rule script state s out).reply ≡ Packet bytes → length bytes ≤ s.length
no_more script state s out bytes = go (goes_in s.kind) (given script state s) (taken script state s out)
  where
    go : (b : Bool) (gift : Option (List ℕ)) (next : Option DeviceState) → (cond b (gives state s.length gift) (takes state next)).reply ≡ Packet bytes → length bytes ≤ s.length
    go true (Some all) next e = let same : take s.length all ≡ bytes = cc in let long = ap length (sym same) ∙ length-take s.length all in omega arith
    go true None next e = cc
    go false gift (Some next) e = cc
    go false gift None e = cc

-- what a raw device that was asked replied, and that it heard the call
pub raw_step : (d : Scripted) (a : ℕ) (q : Question) (r : Reply) (e : Scripted) → Replied d a q r e → (script : DeviceScript) (calls : List Call) → script.kind ≡ Raw → Stands d script calls
    → (r ≡ reply_of (script_at script a) (length (questions_at a calls))) × Stands e script (calls ++ call_of a q ∷ [])
raw_step d a q r e replied script calls raw stands = (replied.due script calls stands ∙ raw_counts script calls (call_of a q) raw, replied.heard script calls stands)
