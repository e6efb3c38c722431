-- What a step needs to know, so that the object stands for the history with one entry more.
use Rattle.std.proofs.Common.{◌≡◌, ◌≢◌, ℕ, ◌<◌, ◌≤◌, Bool, true, false, cond, List, [], ◌∷◌, ◌++◌, length, get_or, set, length-set, sym, refl, ap, ◌∙◌, subst, arith, eq-eqb, ne_eqb, Option, Some, None, ◌+◌, ◌*◌}
use Rattle.std.specs.Prelude.{slice_get, Vec}
use Rattle.std.proofs.lemmas.Option.{slice_get-get_or, get_or_from_slice_get}
use Rattle.circular_buffer.proofs.Places.{slice_get-set_same, slice_get-set_other}
use Rattle.circular_buffer.specs.Buffer.{buffer}
use mathlib.Core.Logic.{dite}
use native.Mathlib.Decide.{ℕ_discrete}
use Rattle.usb_machine.specs.declared.event.Event.{Event}
use Rattle.usb_machine.specs.declared.event.Event.TheVariants.{Link, Take, Give, Reject}
use Rattle.usb_machine.specs.declared.event.Answer.{Answer}
use Rattle.usb_machine.specs.declared.entry.Entry.{Entry}
use Rattle.usb_machine.specs.declared.state.UrbState.{UrbState}
use Rattle.usb_machine.specs.declared.transfer.Transfer.{Transfer}
use Rattle.usb_types.specs.declared.urb.UrbId.{UrbId}
use Rattle.std.specs.declared.alloc.Global.{Global}
use Rattle.usb_machine.specs.declared.plain.Plain.{Plain}
use Rattle.usb_machine.specs.declared.pass_row.PassRow.{PassRow}
use Rattle.usb_machine.specs.declared.queues.Queues.{Queues}
use Rattle.usb_machine.specs.State.{after, answer_of, first_of, opening}
use Rattle.usb_machine.specs.History.{Machine, or_zero, home_of, HasHome, is_of, state_of, line_of, line_after, pending_of, pending_after, without_first, without, taken}
use Rattle.usb_machine.specs.Parts.{part_of, held_of}
use Rattle.usb_machine.specs.Legal.{urb_of, end_of, IsLegal, longer}
use Rattle.usb_machine.specs.Rows.{CanHold, row_after}
use Rattle.usb_machine.specs.Queues.{homed_at, linked, moved, given}
use Rattle.usb_machine.specs.Plain.{IsOfUrb, CanCount, HasRoom, IsNext, NotesRow, Stands, queues_of, urbs_of, ends_of}
use Rattle.usb_machine.proofs.Steps.{state_of-snoc, line_of-snoc, pending_of-snoc}
pub use Rattle.usb_machine.proofs.PassRows.{is_of_own, is_of_other}
use Rattle.usb_machine.proofs.PassRows.{few_more, ShowRows, rows_stay, rows_note}
use Rattle.usb_machine.proofs.Totals.{total_at_most}
use Rattle.usb_machine.proofs.Held.{rejects_are_held}
use Rattle.usb_machine.proofs.Rooms.{queued_has_home, home_below, owed_is_queued, pending_is_queued, line_has_room, pending_has_room}

-- the rows are the states of the URBs after the history
abbrev pub ShowStates : List UrbState → List Entry → Type 0
ShowStates rows h = (u : ℕ) → u < length rows → slice_get rows u ≡ Some (state_of h u)

module _ (h : List Entry) (x : Entry) (rows : List UrbState) (shows : ShowStates rows h) where
  -- the row of the event's URB is changed
  pub states_change : IsOfUrb x.event → ShowStates (set rows (urb_of x.event) (after x.event x.answer (get_or rows (urb_of x.event) opening))) (h ++ x ∷ [])
  states_change of v l = let within : v < length rows = omega (arith, length-set {A = UrbState}) in dite (ℕ_discrete v (urb_of x.event))
      (λ is. let was : get_or rows v opening ≡ state_of h v = get_or_from_slice_get rows v (state_of h v) opening (shows v within) in
      let own : is_of v x.event ≡ true = ap (λ w. is_of w x.event) is ∙ is_of_own x.event of in
      subst (λ w. slice_get (set rows w (after x.event x.answer (get_or rows w opening))) v ≡ Some (state_of (h ++ x ∷ []) v)) is
      (slice_get-set_same rows v _ within ∙ ap Some (ap (after x.event x.answer) was ∙ sym (state_of-snoc h x v ∙ ap (λ b. cond b (after x.event x.answer (state_of h v)) (state_of h v)) own))))
      (λ off. slice_get-set_other rows (urb_of x.event) v _ off ∙ shows v within ∙ ap Some (sym (state_of-snoc h x v ∙ ap (λ b. cond b (after x.event x.answer (state_of h v)) (state_of h v)) (is_of_other v x.event off))))

  -- no row is changed
  pub states_stay : ((s : UrbState) → after x.event x.answer s ≡ s) → ShowStates rows (h ++ x ∷ [])
  states_stay same v l = shows v l ∙ ap Some (sym (state_of-snoc h x v ∙ go (is_of v x.event)))
    where
      go : (b : Bool) → cond b (after x.event x.answer (state_of h v)) (state_of h v) ≡ state_of h v
      go true = same (state_of h v)
      go false = refl

-- the rows are the lists of the endpoints after the history
abbrev pub ShowQueues : Machine → List Queues → List Entry → Type 0
ShowQueues g rows h = (e : ℕ) → e < length rows → slice_get rows e ≡ Some (queues_of g h e)

-- the event moves no URB from list to list
abbrev pub MovesNone : Event → Type 0
MovesNone (Link u) = ⊥
MovesNone (Take e) = ⊥
MovesNone (Give u) = ⊥
MovesNone e = Unit {0}

module _ (g : Machine) (h : List Entry) (x : Entry) where
  queues-snoc : (e : ℕ) (us ps : List ℕ) → line_after g e (line_of g h e) x.event ≡ us → pending_after g e (pending_of g h e) x.event x.answer ≡ ps
      → queues_of g (h ++ x ∷ []) e ≡ record { line = buffer us (homed_at g.layout.homes e); pending = buffer ps (homed_at g.layout.homes e) }
  queues-snoc e us ps a b = let ln = line_of-snoc h x g e ∙ a in let pd = pending_of-snoc h x g e ∙ b in λ i. record { line = buffer (ln i) (homed_at g.layout.homes e); pending = buffer (pd i) (homed_at g.layout.homes e) }

  still_line : (e : ℕ) (ev : Event) (us : List ℕ) → MovesNone ev → line_after g e us ev ≡ us
  still_line e (Link u) us m = absurd m
  still_line e (Take d) us m = absurd m
  still_line e _ us m = refl

  still_pending : (e : ℕ) (ev : Event) (us : List ℕ) → MovesNone ev → pending_after g e us ev x.answer ≡ us
  still_pending e (Take d) us m = absurd m
  still_pending e (Give u) us m = absurd m
  still_pending e _ us m = refl

  pub queues_stay : (rows : List Queues) → ShowQueues g rows h → MovesNone x.event → ShowQueues g rows (h ++ x ∷ [])
  queues_stay rows shows m e l = shows e l ∙ ap Some (sym (queues-snoc e _ _ (still_line e x.event (line_of g h e) m) (still_pending e x.event (pending_of g h e) m)))

  -- one row is changed, and the entry changes none of the other lists
  pub queues_change : (rows : List Queues) → ShowQueues g rows h → (d : ℕ) (q : Queues) → q ≡ queues_of g (h ++ x ∷ []) d
      → ((e : ℕ) → e ≢ d → (line_after g e (line_of g h e) x.event ≡ line_of g h e) × (pending_after g e (pending_of g h e) x.event x.answer ≡ pending_of g h e))
      → ShowQueues g (set rows d q) (h ++ x ∷ [])
  queues_change rows shows d q is others e l = let within : e < length rows = omega (arith, length-set {A = Queues}) in dite (ℕ_discrete e d)
      (λ (same : e ≡ d). subst (λ k. slice_get (set rows k q) e ≡ Some (queues_of g (h ++ x ∷ []) e)) same (slice_get-set_same rows e q within ∙ ap Some (is ∙ ap (queues_of g (h ++ x ∷ [])) (sym same))))
      (λ off. let o = others e off in slice_get-set_other rows d e q off ∙ shows e within ∙ ap Some (sym (queues-snoc e _ _ o.0 o.1)))

-- the object after the event: what is left is that its rows show the longer history
pub stands_next : (old new : Plain) (g : Machine) (h : List Entry) (x : Entry) → Stands old g h → IsNext g h x.pass x.event x.carried
    → x.answer ≡ answer_of x.event (state_of h (urb_of x.event)) (line_of g h (end_of x.event))
    → new.homes ≡ old.homes → urbs_of new ≡ urbs_of old → ends_of new ≡ ends_of old → new.passes ≡ old.passes → ShowStates new.states.items (h ++ x ∷ []) → ShowQueues g new.ends.items (h ++ x ∷ [])
    → ShowRows g (urbs_of new) new.rows.items (h ++ x ∷ []) → Stands new g (h ++ x ∷ [])
stands_next old new g h x s n a homes urbs ends passes states queues rows = record {
  legal = longer h x s.legal record { pass = n.pass; may = n.may; answers = a; carries = n.carries };
  most = s.most;
  homes = ap (λ (v : Vec (Option ℕ) Global). v.items) homes ∙ s.homes;
  urbs = urbs ∙ s.urbs;
  ends = ends ∙ s.ends;
  states = states;
  queues = queues;
  few = few_more h x s.few n.room;
  passes = passes ∙ s.passes;
  bottom = s.bottom;
  rows = rows;
}

-- the row of an URB
pub row_is : (plain : Plain) (g : Machine) (h : List Entry) (u : ℕ) → Stands plain g h → u < urbs_of plain → get_or plain.states.items u opening ≡ state_of h u
row_is plain g h u s l = get_or_from_slice_get plain.states.items u (state_of h u) opening (s.states u l)

-- the counts of the event's URB can be raised
pub can_count : (g : Machine) (h : List Entry) (p : ℕ) (e : Event) → IsLegal g h → g.passes ≤ 66 → ((q u : ℕ) → (held_of (part_of h q) u).rejects ≤ 255) → HasRoom h p e → CanCount e (state_of h (urb_of e))
can_count g h p (Give u) legal passes few room = omega arith
can_count g h p (Reject u) legal passes few room =
    let most = total_at_most g.passes 66 (λ q. (held_of (part_of h q) u.0).rejects) (λ q. few q u.0) passes in let held = rejects_are_held g u.0 h legal in omega arith
can_count g h p _ legal passes few room = tt

-- the home of an URB, as the object has it
pub home_row : (plain : Plain) (g : Machine) (h : List Entry) (u : ℕ) → Stands plain g h → (k : HasHome g u) → slice_get plain.homes.items u ≡ Some (Some k.0)
home_row plain g h u s k = ap (λ xs. slice_get xs u) s.homes ∙ (slice_get-get_or g.layout.homes u None (home_below g u k) ∙ ap Some k.1)

-- the object's states and lists are those after the history with this entry, and the rest is as it was
pub record Made (old now : Plain) (g : Machine) (h : List Entry) (x : Entry) : Type 0 where
  pub homes : now.homes ≡ old.homes
  pub urbs : urbs_of now ≡ urbs_of old
  pub ends : ends_of now ≡ ends_of old
  pub states : ShowStates now.states.items (h ++ x ∷ [])
  pub queues : ShowQueues g now.ends.items (h ++ x ∷ [])

module _ (old new : Plain) (g : Machine) (h : List Entry) (p : ℕ) (a : Answer) (carried : Option Transfer) (s : Stands old g h) where
  abbrev entry : Event → Entry
  entry e = record { pass = p; event = e; answer = a; carried = carried }

  at_event : (e d : Event) → e ≡ d → IsNext g h p e carried → (IsNext g h p d carried → Made old new g h (entry d)) → Made old new g h (entry e)
  at_event e d is n next = subst (λ k. IsNext g h p k carried → Made old new g h (entry k)) (sym is) next n

  made : (e : Event) → new.homes ≡ old.homes → urbs_of new ≡ urbs_of old → ends_of new ≡ ends_of old → ShowStates new.states.items (h ++ entry e ∷ []) → ShowQueues g new.ends.items (h ++ entry e ∷ []) → Made old new g h (entry e)
  made e a b c d f = record { homes = a; urbs = b; ends = c; states = d; queues = f }

  -- an event of an URB changes its row
  states_of_change : (e : Event) → HasRoom h p e → IsOfUrb e → urb_of e < urbs_of old
      → (CanCount e (get_or old.states.items (urb_of e) opening) → new.states.items ≡ set old.states.items (urb_of e) (after e a (get_or old.states.items (urb_of e) opening)))
      → ShowStates new.states.items (h ++ entry e ∷ [])
  states_of_change e room of l change =
      let count = subst (CanCount e) (sym (row_is old g h (urb_of e) s l)) (can_count g h p e s.legal s.most s.few room) in
      subst (λ rows. ShowStates rows (h ++ entry e ∷ [])) (sym (change count)) (states_change h (entry e) old.states.items s.states of)

  -- an event that moves no URB from list to list
  pub change_made : (e : Event) → IsNext g h p e carried → IsOfUrb e → MovesNone e → urb_of e < urbs_of old
      → (CanCount e (get_or old.states.items (urb_of e) opening) → new.states.items ≡ set old.states.items (urb_of e) (after e a (get_or old.states.items (urb_of e) opening)))
      → new.homes ≡ old.homes → urbs_of new ≡ urbs_of old → new.ends ≡ old.ends → Made old new g h (entry e)
  change_made e n of none l change homes urbs ends = made e homes urbs (ap (λ (v : Vec Queues Global). length v.items) ends)
      (states_of_change e n.room of l change)
      (subst (λ (v : Vec Queues Global). ShowQueues g v.items (h ++ entry e ∷ [])) (sym ends) (queues_stay g h (entry e) old.ends.items s.queues none))

  -- a Take
  pub take_made : (ev : Event) (d : ℕ) → ev ≡ Take d → IsNext g h p ev carried → (q now : Queues) → d < ends_of old → q ≡ get_or old.ends.items d q
      → (length q.pending.items < q.pending.capacity → now ≡ moved a q) → new.homes ≡ old.homes → new.states ≡ old.states → new.ends.items ≡ set old.ends.items d now → Made old new g h (entry ev)
  take_made ev d event m q now l is move homes states ends = at_event ev (Take d) event m (λ n.
      let here : q ≡ queues_of g h d = is ∙ get_or_from_slice_get old.ends.items d (queues_of g h d) q (s.queues d l) in
      let room = subst (λ (k : Queues). length k.pending.items < k.pending.capacity) (sym here) (pending_has_room g h d s.legal n.may.1) in
      made (Take d) homes (ap (λ (v : Vec UrbState Global). length v.items) states) (ap length ends ∙ length-set old.ends.items d now)
      (subst (λ (v : Vec UrbState Global). ShowStates v.items (h ++ entry (Take d) ∷ [])) (sym states) (states_stay h (entry (Take d)) old.states.items s.states (λ _. refl)))
      (subst (λ rows. ShowQueues g rows (h ++ entry (Take d) ∷ [])) (sym ends)
      (queues_change g h (entry (Take d)) old.ends.items s.queues d now (move room ∙ (ap (moved a) here ∙ sym (queues-snoc g h (entry (Take d)) d _ _
      (ap (λ b. cond b (without_first (line_of g h d)) (line_of g h d)) (eq-eqb d d refl)) (ap (λ b. cond b (pending_of g h d ++ taken a) (pending_of g h d)) (eq-eqb d d refl)))))
      (λ e off. (ap (λ b. cond b (without_first (line_of g h e)) (line_of g h e)) (ne_eqb d e (λ i. off (sym i))), ap (λ b. cond b (pending_of g h e ++ taken a) (pending_of g h e)) (ne_eqb d e (λ i. off (sym i))))))))

  -- a Link
  pub link_made : (ev : Event) (u : UrbId) → ev ≡ Link u → IsNext g h p ev carried
      → ((e : ℕ) (q : Queues) → slice_get old.homes.items u.0 ≡ Some (Some e) → slice_get old.ends.items e ≡ Some q → length q.line.items < q.line.capacity → new.ends.items ≡ set old.ends.items e (linked u.0 q))
      → new.homes ≡ old.homes → new.states ≡ old.states → ends_of new ≡ ends_of old → Made old new g h (entry ev)
  link_made ev u event m link homes states ends = at_event ev (Link u) event m (λ n.
      let queued = owed_is_queued g h p u.0 s.legal n.pass n.may in let k = queued_has_home g u.0 h s.legal queued in let d = k.0 in
      let at : home_of g u.0 ≡ d = ap or_zero k.1 in
      let l = old.inside u.0 d (home_row old g h u.0 s k) in
      let rows = link d (queues_of g h d) (home_row old g h u.0 s k) (s.queues d l) (line_has_room g h d s.legal p u.0 n.pass n.may k.1) in
      made (Link u) homes (ap (λ (v : Vec UrbState Global). length v.items) states) ends
      (subst (λ (v : Vec UrbState Global). ShowStates v.items (h ++ entry (Link u) ∷ [])) (sym states) (states_stay h (entry (Link u)) old.states.items s.states (λ _. refl)))
      (subst (λ rows. ShowQueues g rows (h ++ entry (Link u) ∷ [])) (sym rows)
      (queues_change g h (entry (Link u)) old.ends.items s.queues d (linked u.0 (queues_of g h d)) (sym (queues-snoc g h (entry (Link u)) d _ _ (ap (λ b. cond b (line_of g h d ++ u.0 ∷ []) (line_of g h d)) (eq-eqb (home_of g u.0) d at)) refl))
      (λ e off. (ap (λ b. cond b (line_of g h e ++ u.0 ∷ []) (line_of g h e)) (ne_eqb (home_of g u.0) e (λ i. off (sym i ∙ at))), refl)))))

  -- a Give
  pub give_made : (middle : Plain) (ev : Event) (u : UrbId) → ev ≡ Give u → IsNext g h p ev carried → u.0 < urbs_of old
      → ((e : ℕ) (q : Queues) → slice_get old.homes.items u.0 ≡ Some (Some e) → slice_get old.ends.items e ≡ Some q → middle.ends.items ≡ set old.ends.items e (given u.0 q))
      → middle.homes ≡ old.homes → middle.states ≡ old.states → ends_of middle ≡ ends_of old
      → (CanCount (Give u) (get_or middle.states.items u.0 opening) → new.states.items ≡ set middle.states.items u.0 (after (Give u) a (get_or middle.states.items u.0 opening)))
      → new.homes ≡ middle.homes → urbs_of new ≡ urbs_of middle → new.ends ≡ middle.ends → Made old new g h (entry ev)
  give_made middle ev u event m l give homes states ends change homes2 urbs2 ends2 = at_event ev (Give u) event m (λ n.
      let queued = pending_is_queued g h u.0 s.legal n.may.1 in let k = queued_has_home g u.0 h s.legal queued in let d = k.0 in
      let at : home_of g u.0 ≡ d = ap or_zero k.1 in
      let rows : new.ends.items ≡ set old.ends.items d (given u.0 (queues_of g h d)) = ap (λ (v : Vec Queues Global). v.items) ends2 ∙ give d (queues_of g h d) (home_row old g h u.0 s k) (s.queues d (old.inside u.0 d (home_row old g h u.0 s k))) in
      made (Give u) (homes2 ∙ homes) (urbs2 ∙ ap (λ (v : Vec UrbState Global). length v.items) states) (ap (λ (v : Vec Queues Global). length v.items) ends2 ∙ ends)
      (states_of_change (Give u) n.room tt l (λ c. let i : middle.states.items ≡ old.states.items = ap (λ (v : Vec UrbState Global). v.items) states in
      subst (λ items. CanCount (Give u) (get_or items u.0 opening) → new.states.items ≡ set items u.0 (after (Give u) a (get_or items u.0 opening))) i change c))
      (subst (λ rows. ShowQueues g rows (h ++ entry (Give u) ∷ [])) (sym rows)
      (queues_change g h (entry (Give u)) old.ends.items s.queues d (given u.0 (queues_of g h d)) (sym (queues-snoc g h (entry (Give u)) d _ _ refl (ap (λ b. cond b (without u.0 (pending_of g h d)) (pending_of g h d)) (eq-eqb (home_of g u.0) d at))))
      (λ e off. (refl, ap (λ b. cond b (without u.0 (pending_of g h e)) (pending_of g h e)) (ne_eqb (home_of g u.0) e (λ i. off (sym i ∙ at))))))))

-- an event of an URB is noted in the row of its pass
pub noted_stands : (old middle new : Plain) (g : Machine) (h : List Entry) (x : Entry) → Stands old g h → IsNext g h x.pass x.event x.carried
    → x.answer ≡ answer_of x.event (state_of h (urb_of x.event)) (line_of g h (end_of x.event)) → Made old middle g h x → (middle.passes ≡ old.passes) × (middle.rows ≡ old.rows)
    → IsOfUrb x.event → urb_of x.event < urbs_of old
    → (x.pass < middle.passes → urb_of x.event < urbs_of middle → NotesRow middle new (x.pass * urbs_of middle + urb_of x.event) x.event x.answer)
    → new.passes ≡ middle.passes → (new.homes ≡ middle.homes) × (new.states ≡ middle.states) × (new.ends ≡ middle.ends) → Stands new g (h ++ x ∷ [])
noted_stands old middle new g h x s n answers made before of inside note passes rest =
    let urbs : urbs_of new ≡ urbs_of middle = ap (λ (v : Vec UrbState Global). length v.items) rest.1 in
    let count : urbs_of middle ≡ urbs_of old = made.urbs in
    let pass = n.pass in let known = s.passes in let kept = before.0 in
    let noted = note (omega arith) (omega arith) in
    let P : ℕ → List PassRow → Type 0 = λ k rows. (row : PassRow) → slice_get rows (x.pass * k + urb_of x.event) ≡ Some row → CanHold x.event row.held → new.rows.items ≡ set rows (x.pass * k + urb_of x.event) (row_after x.event x.answer row) in
    let at : P (urbs_of old) old.rows.items = subst (P (urbs_of old)) (ap (λ (v : Vec PassRow Global). v.items) before.1) (subst (λ k. P k middle.rows.items) count noted) in
    stands_next old new g h x s n answers (rest.0 ∙ made.homes) (urbs ∙ count) (ap (λ (v : Vec Queues Global). length v.items) rest.2 ∙ made.ends) (passes ∙ before.0)
    (subst (λ (v : Vec UrbState Global). ShowStates v.items (h ++ x ∷ [])) (sym rest.1) made.states)
    (subst (λ (v : Vec Queues Global). ShowQueues g v.items (h ++ x ∷ [])) (sym rest.2) made.queues)
    (subst (λ k. ShowRows g k new.rows.items (h ++ x ∷ [])) (sym (urbs ∙ count)) (rows_note h x g (urbs_of old) old.rows.items new.rows.items s.rows n.pass inside of n.room at))

-- a Take is of no URB, and no row is noted
pub taken_stands : (old new : Plain) (g : Machine) (h : List Entry) (p d : ℕ) (ev : Event) (a : Answer) (carried : Option Transfer) → Stands old g h → ev ≡ Take d → IsNext g h p ev carried
    → a ≡ first_of (line_of g h d) → Made old new g h record { pass = p; event = ev; answer = a; carried = carried } → new.passes ≡ old.passes → new.rows ≡ old.rows
    → Stands new g (h ++ record { pass = p; event = ev; answer = a; carried = carried } ∷ [])
taken_stands old new g h p d ev a carried s is n answers made passes rows =
    let x : Entry = record { pass = p; event = ev; answer = a; carried = carried } in
    stands_next old new g h x s n (answers ∙ ap (λ e. answer_of e (state_of h (urb_of e)) (line_of g h (end_of e))) (sym is)) made.homes made.urbs made.ends passes made.states made.queues
    (subst (λ k. ShowRows g k new.rows.items (h ++ x ∷ [])) (sym made.urbs)
    (subst (λ (v : Vec PassRow Global). ShowRows g (urbs_of old) v.items (h ++ x ∷ [])) (sym rows) (rows_stay h x g (urbs_of old) old.rows.items s.rows (λ v. ap (is_of v) is))))

-- what an event of an URB answers is for no line to say
pub answer_of_line : (e : Event) (s : UrbState) (us vs : List ℕ) → IsOfUrb e → answer_of e s us ≡ answer_of e s vs
answer_of_line (Take d) s us vs of = absurd of
answer_of_line _ s us vs of = refl

pub row_answers : (plain : Plain) (g : Machine) (h : List Entry) (e : Event) (a : Answer) → Stands plain g h → IsOfUrb e → urb_of e < urbs_of plain
    → a ≡ answer_of e (get_or plain.states.items (urb_of e) opening) [] → a ≡ answer_of e (state_of h (urb_of e)) (line_of g h (end_of e))
row_answers plain g h e a s of l is = is ∙ (ap (λ r. answer_of e r []) (row_is plain g h (urb_of e) s l) ∙ answer_of_line e (state_of h (urb_of e)) [] (line_of g h (end_of e)) of)

pub take_answers : (plain : Plain) (g : Machine) (h : List Entry) → Stands plain g h → (d : ℕ) → d < ends_of plain → (q : Queues) → q ≡ get_or plain.ends.items d q → first_of q.line.items ≡ first_of (line_of g h d)
take_answers plain g h s d l q is = ap (λ (k : Queues). first_of k.line.items) (is ∙ get_or_from_slice_get plain.ends.items d (queues_of g h d) q (s.queues d l))
