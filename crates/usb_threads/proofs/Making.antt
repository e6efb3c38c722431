-- A thread's calls, one after another.
use Rattle.std.proofs.Common.{ℕ, suc, ◌≡◌, ◌+◌, ◌<◌, Bool, false, Some, List, [], ◌∷◌, ◌++◌, length, map, take, drop, get_or, refl, sym, ap, ◌∙◌, subst, append-nil}
use Rattle.std.specs.Prelude.{slice_get}
use Rattle.std.specs.List.{flat_map, All}
use Rattle.std.proofs.Math.Seq.{drop-cons}
use Rattle.std.proofs.lemmas.List.{map-append, take_more, take-append-drop}
use Rattle.std.proofs.lemmas.List.Elements.{All-nil, All-push}
use Rattle.std.proofs.lemmas.Grind.{flat_map-append}
use Rattle.usb_machine.specs.declared.entry.Entry.{Entry}
use Rattle.usb_machine.specs.History.{Machine}
use Rattle.usb_machine.specs.Fresh.{Known}
use Rattle.usb_scene.specs.declared.scene.Scene.{Scene}
use Rattle.usb_scene.specs.declared.scene.SceneThread.{SceneThread}
use Rattle.usb_scene.specs.declared.scene.Call.{Call}
use Rattle.usb_scene.specs.declared.operation.Operation.{Operation}
use Rattle.usb_scene.specs.Operation.{operation_of}
use Rattle.usb_trace.specs.declared.rows.HostCall.{HostCall}
use Rattle.usb_trace.specs.declared.rows.HostCall.TheVariants as host_call
use Rattle.usb_trace.specs.declared.rows.CallAnswer.{CallAnswer}
use Rattle.usb_trace.specs.declared.rows.CallMade.{CallMade}
use Rattle.usb_trace.specs.Plan.{machine_of, host_call_of, pass_of}
use Rattle.usb_trace.specs.Claims.{claimed_by}
use Rattle.usb_trace.specs.Run.{CallRecord, IsMade, call_entries, claims_in, down_after, IsFound, AreFound}
use Rattle.usb_trace.specs.Rows.{made_of}
use Rattle.usb_trace.proofs.Claims.{AreNoClaim}
use Rattle.usb_threads.specs.Passes.{WentOn}
use Rattle.usb_threads.specs.Scripts.{Worked, down_by}
use Rattle.usb_threads.specs.NextCall.{MayCall}
use Rattle.usb_threads.specs.Calling.{IsNew, HasCalled, WorkedSo}
use Rattle.usb_threads.proofs.Going.{down_by-push}
use Rattle.usb_threads.proofs.Ongoing.{went_nothing, went_more, claims_none}

AreFound-push : (s : Scene) (b : Bool) (ds : List CallRecord) (d : CallRecord) → AreFound s b ds → IsFound (host_call_of s d.call) d.down (down_by s b ds) → AreFound s b (ds ++ d ∷ [])
AreFound-push s b [] d all is = (is, tt)
AreFound-push s b (x ∷ ds) d all is = (all.0, AreFound-push s (down_after b (host_call_of s x.call) x.answer) ds d all.1 is)

is_found : (dd : HostCall) (down b : Bool) → down ≡ b → IsFound dd down b
is_found host_call.Down down b e = e
is_found host_call.Up down b e = e
is_found _ down b e = tt

-- the first k calls of a script were made
pub record Making (s : Scene) (i : ℕ) (calls : List Call) (from p : Known) (k : ℕ) (made : List CallMade) (down : Bool) : Type 0 where
  pub call_records : List CallRecord
  pub worked : Worked s i (take k calls) from p call_records
  pub kept : made ≡ map made_of call_records
  pub found : down ≡ down_by s false call_records

module _ (s : Scene) (i : ℕ) (calls : List Call) (from : Known) (new : IsNew s i from) where
  abbrev g : Machine
  g = machine_of s

  pub making_none : Making s i calls from from 0 [] false
  making_none = record {
    call_records = [];
    worked = record {
      went = went_nothing g from new.sound;
      made = record { calls = refl; whose = All-nil (λ (d : CallRecord). d.thread ≡ i); told = All-nil (IsMade s); downs = tt };
      claims = subst (λ n. claimed_by n from.seen ≡ []) new.number (claims_none g from new.sound (subst AreNoClaim (sym new.new) tt));
    };
    kept = refl;
    found = refl;
  }

  module _ (p : Known) (k : ℕ) (made : List CallMade) (down : Bool) (old : Making s i calls from p k made down) where
    number : p.number ≡ pass_of s i
    number = old.worked.went.grown.number ∙ new.number

    pub may_call : (t : SceneThread) → slice_get s.threads i ≡ Some t → t.calls ≡ calls → (x : Call) → k < length calls → x ≡ get_or calls k x → MayCall s p i x down
    may_call t at is x near here = record {
      thread = t;
      at = at;
      before = old.call_records;
      later = drop (suc k) calls;
      script =
          is ∙ (sym (take-append-drop k calls) ∙ ((λ j. sym old.worked.made.calls j ++ drop-cons calls k x near j) ∙ ap (λ y. map (λ (d : CallRecord). d.call) old.call_records ++ y ∷ drop (suc k) calls) (sym here)));
      made = record { calls = refl; whose = old.worked.made.whose; told = old.worked.made.told; downs = old.worked.made.downs };
      number = number;
      mine = old.worked.went.grown.mine ∙ ap (λ m. m ++ flat_map (call_entries s) old.call_records) new.new;
      found = old.found;
    }

    module _ (q : Known) (x : Call) (answer : CallAnswer) (down' : Bool) (near : k < length calls) (is : x ≡ get_or calls k x) (called : HasCalled s p q i x down answer) (asked : Operation) (asks : asked ≡ operation_of x) (now : down' ≡ down_after down (host_call_of s x) answer) where
      abbrev did : CallRecord
      did = called.did

      abbrev kept_of : ℕ → Call → Operation → CallAnswer → CallMade
      kept_of i c o a = record { thread = i; line = c.line; operation = o; target = c.target; answer = a }

      one_more : {X : Type 0} (f : CallRecord → List X) → flat_map f (old.call_records ++ did ∷ []) ≡ flat_map f old.call_records ++ f did
      one_more f = flat_map-append f old.call_records (did ∷ []) ∙ ap (λ l. flat_map f old.call_records ++ l) (append-nil (f did))

      same : kept_of i x asked answer ≡ made_of did
      same = λ j. kept_of (sym called.thread j) (sym called.call j) ((asks ∙ ap operation_of (sym called.call)) j) (sym called.told j)

      claims : claimed_by (pass_of s i) q.seen ≡ flat_map (claims_in s) (old.call_records ++ did ∷ [])
      claims = subst (λ n. claimed_by n q.seen ≡ claimed_by n p.seen ++ claims_in s did) number called.claims
          ∙ (ap (λ l. l ++ claims_in s did) old.worked.claims ∙ sym (one_more (claims_in s)))

      pub made_more : Making s i calls from q (k + 1) (made ++ kept_of i x asked answer ∷ []) down'
      made_more = record {
        call_records = old.call_records ++ did ∷ [];
        worked = record {
          went = subst (λ l. WentOn g from q l) (sym (one_more (call_entries s))) (went_more g from p q (flat_map (call_entries s) old.call_records) (call_entries s did) old.worked.went called.went);
          made = record {
            calls = map-append (λ (d : CallRecord). d.call) old.call_records (did ∷ []) ∙ ((λ j. old.worked.made.calls j ++ (called.call ∙ is) j ∷ []) ∙ sym (take_more calls k x near));
            whose = All-push (λ (d : CallRecord). d.thread ≡ i) old.call_records did old.worked.made.whose called.thread;
            told = All-push (IsMade s) old.call_records did old.worked.made.told called.made;
            downs = AreFound-push s false old.call_records did old.worked.made.downs (is_found (host_call_of s did.call) did.down (down_by s false old.call_records) (called.found ∙ old.found));
          };
          claims = claims;
        };
        kept = (λ j. old.kept j ++ same j ∷ []) ∙ sym (map-append made_of old.call_records (did ∷ []));
        found = now ∙ ((λ j. down_after (old.found j) (host_call_of s (sym called.call j)) (sym called.told j)) ∙ sym (down_by-push s false old.call_records did));
      }

pub made_all : (s : Scene) (i : ℕ) (calls : List Call) (from p : Known) (k : ℕ) (made : List CallMade) (down : Bool) → take k calls ≡ calls → Making s i calls from p k made down → WorkedSo s i calls from p made
made_all s i calls from p k made down all m = record { call_records = m.call_records; worked = subst (λ c. Worked s i c from p m.call_records) all m.worked; kept = m.kept }
