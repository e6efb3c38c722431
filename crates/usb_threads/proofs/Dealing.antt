-- Jobs are dealt from the end, and their results are collected from the end of theirs.
use Rattle.std.proofs.Common.{ℕ, zero, suc, ◌≡◌, ◌≢◌, ◌+◌, ◌<◌, ◌≤◌, ◌⊎◌, inl, inr, ⊎_elim, cond, eqb, Option, Some, None, Ok, List, [], ◌∷◌, ◌++◌, length, map, get_or, refl, sym, ap, ◌∙◌, subst, arith, append-nil, length-append, eq-eqb, ne_eqb}
use Rattle.std.specs.Prelude.{slice_get}
use Rattle.std.specs.List.{flat_map, All}
use Rattle.std.proofs.lemmas.List.{map-append}
use Rattle.std.proofs.lemmas.Option.{slice_get_within, slice_get-get_or}
use Rattle.usb_machine.specs.Fresh.{Known, Begins, Looked}
use Rattle.usb_machine.proofs.Growing.{begins_trans}
use Rattle.usb_scene.specs.declared.scene.Scene.{Scene}
use Rattle.usb_prepare.specs.Below.{below}
use Rattle.usb_trace.specs.declared.rows.CallMade.{CallMade}
use Rattle.usb_trace.specs.Plan.{machine_of}
use Rattle.usb_trace.specs.Run.{CallRecord}
use Rattle.usb_trace.specs.Rows.{made_of}
use Rattle.usb_threads.specs.declared.worker.Job.{Job}
use Rattle.usb_threads.specs.declared.worker.Work.{Work}
use Rattle.usb_threads.specs.Calling.{IsNew, WorkedAs}
use Rattle.usb_threads.specs.Jobs.{Each, IsSeatFor, IsJob, HasWorkedOn, HaveWorked, IsWork, IsDone, Collected}
use Rattle.usb_threads.proofs.Threads.{made-push}

at_last : {X : Type 0} (xs : List X) (x : X) → slice_get (xs ++ x ∷ []) (length xs) ≡ Some x
at_last [] x = refl
at_last (y ∷ xs) x = at_last xs x

at_before : {X : Type 0} (xs : List X) (x y : X) (m : ℕ) → slice_get xs m ≡ Some y → slice_get (xs ++ x ∷ []) m ≡ Some y
at_before [] x y m e = absurd (cc (e))
at_before (z ∷ xs) x y zero e = e
at_before (z ∷ xs) x y (suc m) e = at_before xs x y m e

in_longer : {X : Type 0} (xs : List X) (x y : X) (m : ℕ) → slice_get (xs ++ x ∷ []) m ≡ Some y → (slice_get xs m ≡ Some y) ⊎ ((m ≡ length xs) × (y ≡ x))
in_longer [] x y zero e = let same : y ≡ x = cc in inr (refl, same)
in_longer [] x y (suc m) e = cc
in_longer (z ∷ xs) x y zero e = inl e
in_longer (z ∷ xs) x y (suc m) e = ⊎_elim (λ (l : slice_get xs m ≡ Some y). inl l) (λ (r : (m ≡ length xs) × (y ≡ x)). inr (ap (λ k. suc k) r.0, r.1)) (in_longer xs x y m e)

module _ {X : Type 0} (P : ℕ → X → Type 0) where
  pub each_none : (xs : List X) → xs ≡ [] → Each P xs
  each_none xs none m x at = let e : slice_get [] m ≡ Some x = ap (λ (l : List X). slice_get l m) (sym none) ∙ at in cc

  pub each_push : (xs ys : List X) (x : X) → ys ≡ xs ++ x ∷ [] → Each P xs → P (length xs) x → Each P ys
  each_push xs ys x is all p m y at = ⊎_elim
      (λ (l : slice_get xs m ≡ Some y). all m y l)
      (λ (r : (m ≡ length xs) × (y ≡ x)). subst (λ k. P k y) (sym r.0) (subst (P (length xs)) (sym r.1) p))
      (in_longer xs x y m (ap (λ (l : List X). slice_get l m) (sym is) ∙ at))

  pub each_pop : (xs ys : List X) (x : X) → xs ≡ ys ++ x ∷ [] → Each P xs → Each P ys × P (length ys) x
  each_pop xs ys x is all = (
    λ m y at. all m y (ap (λ (l : List X). slice_get l m) is ∙ at_before ys x y m at),
    all (length ys) x (ap (λ (l : List X). slice_get l (length ys)) is ∙ at_last ys x),
  )

module _ {S : Type 0} (of : S → Type 0) (known : S → Known) (s : Scene) where
  -- a seat that met main is ready for its thread
  pub dealt : (read : Known) (n m i : ℕ) (p q : S) (main : Known) → i + m + 1 ≡ n → IsSeatFor of known s i p → of q → Looked (machine_of s) (known p) (known q) → Begins (known q).seen main.seen → Begins main.seen read.seen
      → IsJob of known s read n m (record { thread = i; seat = q })
  dealt read n m i p q main place old here met told longer = record {
    place = place;
    here = here;
    new = record {
      near = old.near;
      number = met.grown.number ∙ old.number;
      new = met.grown.mine ∙ (append-nil (known p).mine ∙ old.new);
      sound = met.sound;
    };
    knows = begins_trans (known q).seen main.seen read.seen told longer;
  }

  -- who knows what main had seen knows what it had seen before
  pub earlier_jobs : (read main : Known) (n : ℕ) (jobs : List (Job S)) → Begins main.seen read.seen → Each (IsJob of known s main n) jobs → Each (IsJob of known s read n) jobs
  earlier_jobs read main n jobs longer each m job at = let j = each m job at in
      record { place = j.place; here = j.here; new = j.new; knows = begins_trans (known job.seat).seen main.seen read.seen j.knows longer }

  -- so each job may be started
  pub jobs_ready : (read : Known) (n : ℕ) (jobs : List (Job S)) → Each (IsJob of known s read n) jobs → All (λ (job : Job S). of job.seat × IsNew s job.thread (known job.seat)) jobs
  jobs_ready read n jobs each k d near = let j = each k (get_or jobs k d) (slice_get-get_or jobs k d near) in (j.here, j.new)

  -- and its result is that of its thread
  pub results : (read : Known) (n : ℕ) (jobs : List (Job S)) (works : List (Work S)) → Each (IsJob of known s read n) jobs → HaveWorked of known s jobs works → Each (IsWork of known s read n) works
  results read n jobs works each worked m w at = go (slice_get jobs m) refl
    where
      near : m < length jobs
      near = let l = slice_get_within works m w at in let c = worked.count in omega arith

      here : get_or works m w ≡ w
      here = let e : Some (get_or works m w) ≡ Some w = sym (slice_get-get_or works m w (slice_get_within works m w at)) ∙ at in cc

      go : (o : Option (Job S)) → slice_get jobs m ≡ o → IsWork of known s read n m w
      go None is = absurd (none jobs m near is)
        where
          none : (jobs : List (Job S)) (m : ℕ) → m < length jobs → slice_get jobs m ≡ None → ⊥
          none [] m l e = absurd (omega arith)
          none (j ∷ jobs) zero l e = cc
          none (j ∷ jobs) (suc m) l e = none jobs m (omega arith) e
      go (Some job) is =
          let j = each m job is in
          let same : get_or jobs m job ≡ job = (let e : Some (get_or jobs m job) ≡ Some job = sym (slice_get-get_or jobs m job near) ∙ is in cc) in
          let did = subst (λ (w : Work S). HasWorkedOn of known s job w) here (subst (λ (j : Job S). HasWorkedOn of known s j (get_or works m w)) same (worked.each m job w near)) in record {
            thread = job.thread;
            place = j.place;
            here = did.here;
            from = known job.seat;
            ready = record { number = j.new.number; new = j.new.new; knows = j.knows; sound = j.new.sound };
            worked = did.worked;
          }

  -- the calls of the threads, with those of one thread more
  abbrev with_works : ℕ → List CallRecord → (ℕ → List CallRecord) → ℕ → List CallRecord
  with_works k ds works j = cond (eqb j k) ds (works j)

  same_works : (k : ℕ) (ds : List CallRecord) (works : ℕ → List CallRecord) (j : ℕ) → j ≢ k → with_works k ds works j ≡ works j
  same_works k ds works j off = ap (λ b. cond b ds (works j)) (ne_eqb j k off)

  same_below : (k : ℕ) (ds : List CallRecord) (works : ℕ → List CallRecord) (n : ℕ) → n ≤ k → flat_map (with_works k ds works) (below n) ≡ flat_map works (below n)
  same_below k ds works zero l = refl
  same_below k ds works (suc n) l = made-push (with_works k ds works) n
      ∙ ((λ i. same_below k ds works n (omega arith) i ++ same_works k ds works n (λ e. absurd (omega arith)) i) ∙ sym (made-push works n))

  pub collected_none : (read main : Known) (seats : List S) (made : List CallMade) → seats ≡ [] → made ≡ [] → Collected of known s read main seats made
  collected_none read main seats made none empty = record {
    works = λ i. [];
    each = each_none _ seats none;
    kept = empty ∙ ap (λ (l : List S). map made_of (flat_map (λ i. []) (below (length l)))) (sym none);
  }

  later : (read main now : Known) (i : ℕ) (ds : List CallRecord) (r : Known) → Begins now.seen main.seen → IsDone s read main i ds r → IsDone s read now i ds r
  later read main now i ds r longer d =
      record { from = d.from; thread = d.thread; at = d.at; ready = d.ready; to = d.to; worked = d.worked; told = begins_trans now.seen main.seen d.to.seen longer d.told; ends = d.ends }

  -- main meets one seat more
  module _ (read main now : Known) (n m : ℕ) (seats longer : List S) (made more all : List CallMade) (p q : S) (old : Collected of known s read main seats made) (work : IsWork of known s read n m (record { made = Ok more; seat = p }))
      (count : m + 1 + length seats ≡ n) (looked : Looked (machine_of s) main now) (met : Begins now.seen (known p).seen) (here : of q) (ends : Looked (machine_of s) (known p) (known q)) (is : longer ≡ seats ++ q ∷ []) (told : all ≡ made ++ more) where
    abbrev k : ℕ
    k = length seats

    abbrev did : WorkedAs s work.thread work.from (known p) more
    did = work.worked

    abbrev ds : List CallRecord
    ds = did.so.call_records

    abbrev works : ℕ → List CallRecord
    works = with_works k ds old.works

    is_k : work.thread ≡ k
    is_k = let a = work.place in omega arith

    own : works k ≡ ds
    own = ap (λ b. cond b ds (old.works k)) (eq-eqb k k refl)

    long : suc k ≡ length longer
    long = let a = ap (λ (l : List S). length l) is in let b = length-append seats (q ∷ []) in omega arith

    done : IsDone s read now k ds (known q)
    done = subst (λ i. IsDone s read now i ds (known q)) is_k record {
      from = work.from;
      thread = did.thread;
      at = did.at;
      ready = work.ready;
      to = known p;
      worked = did.so.worked;
      told = met;
      ends = ends;
    }

    each_old : Each (λ i r. of r × IsDone s read now i (works i) (known r)) seats
    each_old i r at = let o = old.each i r at in let l = slice_get_within seats i r at in
        (o.0, subst (λ (ds : List CallRecord). IsDone s read now i ds (known r)) (sym (same_works k ds old.works i (λ e. absurd (omega arith)))) (later read main now i (old.works i) (known r) looked.grown.begins o.1))

    flat : flat_map works (below (length longer)) ≡ flat_map old.works (below k) ++ ds
    flat = ap (λ j. flat_map works (below j)) (sym long) ∙ (made-push works k ∙ (λ i. same_below k ds old.works k (omega arith) i ++ own i))

    pub collected_more : Collected of known s read now longer all
    collected_more = record {
      works = works;
      each = each_push (λ i r. of r × IsDone s read now i (works i) (known r)) seats longer q is each_old (here, subst (λ (ds : List CallRecord). IsDone s read now k ds (known q)) (sym own) done);
      kept = told ∙ ((λ i. old.kept i ++ did.so.kept i) ∙ (sym (map-append made_of (flat_map old.works (below k)) ds) ∙ ap (map made_of) (sym flat)));
    }
