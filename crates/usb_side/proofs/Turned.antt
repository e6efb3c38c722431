-- What a turn of the controller over a host's side does to the server's entries.
use Rattle.std.proofs.Common.{◌≡◌, ℕ, Bool, true, false, not, cond, Option, Some, None, List, [], ◌∷◌, ◌++◌, length, ⊎_elim, sym, refl, ap, ◌∙◌, subst, arith, eq-eqb, true≢false, append_assoc, append-nil, ◌⊎◌, inl, inr, ◌≢◌, ◌<◌, zero, ne_eqb}
use Rattle.std.specs.Prelude.{slice_get, Contains, All}
use Rattle.std.proofs.lemmas.List.Elements.{filter-append}
use mathlib.Core.List.{IsPrefix}
use Rattle.usb_types.specs.declared.urb.UrbId.{UrbId}
use Rattle.usb_types.specs.declared.errno.Code.{Code}
use Rattle.usb_machine.specs.declared.entry.TheConstants.{SERVER}
use Rattle.usb_machine.specs.declared.entry.Entry.{Entry}
use Rattle.usb_machine.specs.declared.event.Event.{Event}
use Rattle.usb_machine.specs.declared.event.Event.TheVariants.{Take, Finish, Give}
use Rattle.usb_machine.specs.declared.event.Answer.{Answer}
use Rattle.usb_machine.specs.declared.event.Answer.TheVariants.{Urb, Truth, Code as Status}
use Rattle.usb_machine.specs.declared.transfer.Transfer.{Transfer}
use Rattle.usb_machine.specs.History.{Machine, sent_of}
use Rattle.usb_machine.specs.Parts.{part_of}
use Rattle.usb_machine.specs.Calls.{entry}
use Rattle.usb_machine.specs.Fresh.{Known, Sound, Grown, Fresh, Looked}
use Rattle.usb_machine.specs.HostCalls.{Took}
use Rattle.usb_machine.specs.Tokens as tokens
use Rattle.usb_machine.proofs.Growing.{grown_none, grown_more}
use Rattle.usb_xfer.specs.Replies.{Question, Reply}
use Rattle.usb_machine.specs.declared.host_answers.Look.{Look}
use Rattle.usb_serve.specs.declared.controller.Held.{Held}
use Rattle.usb_serve.specs.Held.{Serving, Holds, IsHeld}
use Rattle.usb_serve.specs.Taking.{TakesSome, TakesLine, TakesBelow, line}
use Rattle.usb_serve.specs.Looking.{PassesOver, LooksBelow, FindsMarked}
use Rattle.usb_serve.specs.Serving.{PassesEnd, Passes, Ends, GivesMarked, skips, waits, late}
use Rattle.usb_side.specs.Side.{SideTakes, SideLooks, SideFinishes, SideGives}
use Rattle.usb_side.specs.Round.{is_aside, of_givebacks}
use Rattle.usb_machine.specs.History.{pending_of, state_of, home_of}
use Rattle.usb_machine.specs.State.{is_clear, status_of}
use Rattle.usb_machine.specs.Legal.{IsFirst}
use Rattle.usb_serve.specs.Knows.{Knows}
use Rattle.usb_serve.specs.Held.{urbs_in, held_in}
use Rattle.usb_serve.specs.Turn.{Turned}
use Rattle.usb_side.specs.Side.{side_knows}
use Rattle.std.specs.Prelude.{option_map}
use Rattle.std.proofs.lemmas.Option.{slice_get_within}
use Rattle.usb_side.specs.Round.{TurnGave, GaveBack, is_first}
use Rattle.usb_side.proofs.Knowing.{Behind, behind, queued, home, later_pending}
use Rattle.usb_machine.proofs.SentStands.{sent_later}
use Rattle.usb_machine.proofs.MarkSame.{mark_same}
use Rattle.usb_side.proofs.Knowing.{later_marked}
use Rattle.usb_machine.specs.declared.state.Mark.TheVariants.{Finished}
use Rattle.usb_machine.specs.declared.state.UrbState.{UrbState}
use Rattle.usb_machine.proofs.Steps.{state_of-snoc, pending_of-snoc}
use Rattle.usb_xfer.specs.declared.packet.Step.TheVariants.{Ended}
use Rattle.usb_xfer.specs.Moved.{IsOpen}
use Rattle.usb_machine.proofs.Over.{sent_over, marked_over}
use Rattle.usb_side.proofs.Rows.{row_stays, pass_stays, all_at, in_urbs, set_other, Kept, Same, IsShaped, kept_shapes, same_kept, first_at, first_pending, kept_first, same_first, left_first, take_rows, look_rows, marked_rows, pass_rows}
use Rattle.usb_side.proofs.Placed.{placed_held, later_held}
use Rattle.usb_side.proofs.Calls.{apart}
use Rattle.usb_side.proofs.Replying.{with_twice, start_of, first_stays, below_replies, went_below, went_ended}
use Rattle.usb_side.specs.Went as they
use Rattle.usb_side.specs.Went.{Stood, TurnWent, first_sent}
use Rattle.usb_side.specs.Round.{GaveNothing}
use Rattle.usb_serve.specs.declared.controller.EndRow.{EndRow}
use Rattle.usb_serve.specs.Held.{with_held}
use Rattle.usb_serve.specs.SoFar.{IsSoFar, with_replies, without_place, after_below, after_turn, WhileSoFar, TurnedOn}
use Rattle.usb_serve.proofs.SoFars.{with_here, place_later}
use Rattle.usb_machine.specs.Tokens.{first_of}
use Rattle.std.specs.Prelude.{slice_set}
use Rattle.usb_machine.proofs.Over.{AllAre, all_append, NoGive}

first_so : (u : ℕ) (us : List ℕ) → IsFirst u us → is_first u us ≡ true
first_so u [] f = absurd f
first_so u (v ∷ vs) f = eq-eqb v u f

abbrev pub Aside : Event → Answer → Type 0
Aside e a = is_aside e a ≡ true

pub aside_gives_none : (u : ℕ) (xs : List Entry) → AllAre Aside xs → AllAre (NoGive u) xs
aside_gives_none u [] a = tt
aside_gives_none u (x ∷ xs) a = (go x.event x.answer a.0, aside_gives_none u xs a.1)
  where
    go : (e : Event) (a : Answer) → Aside e a → NoGive u e a
    go (Give v) a is = absurd (true≢false (sym is))
    go _ a is = refl

pub aside_none : (xs : List Entry) → AllAre Aside xs → of_givebacks xs ≡ []
aside_none [] a = refl
aside_none (x ∷ xs) a = ap (λ b. cond (not b) (x ∷ of_givebacks xs) (of_givebacks xs)) a.0 ∙ aside_none xs a.1

-- another URB is given back
give_other : (n : ℕ) (v : UrbId) (a : Answer) (u : UrbId) → u.0 ≢ v.0 → AllAre (NoGive u.0) (entry n (Give v) a None ∷ [])
give_other n v a u off = (ne_eqb v.0 u.0 (λ is. off (sym is)), tt)

-- the first of a list stands in it
first_there : (u : ℕ) (us : List ℕ) → IsFirst u us → Contains us u
first_there u [] f = absurd f
first_there u (v ∷ us) f = (zero, omega arith, f)

module _ {X : Type 0} (machine_of : X → Machine) (here : X) where
  abbrev g : Machine
  g = machine_of here

  module _ {S : Type 0} (host : S → X) (known : S → Known) where
    abbrev machine : S → Machine
    machine s = machine_of (host s)

    -- the server's pass is sound at this side of the machine
    pub record At (s : S) : Type 0 where
      pub host_so : host s ≡ here
      pub machine_so : machine s ≡ g
      pub number : (known s).number ≡ SERVER
      pub sound : Sound g (known s)

    -- between these sides it made only entries of no giveback
    pub record Went (s t : S) : Type 0 where
      pub at : At t
      pub more : List Entry
      pub grown : Grown (known s) (known t) more
      pub aside : AllAre Aside more

    pub stays : (s : S) → At s → Went s s
    stays s a = record { at = a; more = []; grown = grown_none (known s); aside = tt }

    pub goes : (s t u : S) → Went s t → Went t u → Went s u
    goes s t u a b = record { at = b.at; more = a.more ++ b.more; grown = grown_more (known s) (known t) (known u) a.more b.more a.grown b.grown; aside = all_append Aside a.more b.more a.aside b.aside }

    at_looked : (s t : S) → At s → host t ≡ host s → Looked (machine s) (known s) (known t) → Went s t
    at_looked s t a same l = record { at = record { host_so = same ∙ a.host_so; machine_so = ap machine_of (same ∙ a.host_so); number = l.grown.number ∙ a.number; sound = subst (λ m. Sound m (known t)) a.machine_so l.sound }; more = []; grown = l.grown; aside = tt }

    pub at_fresh : (s t : S) (x : Entry) → At s → host t ≡ host s → Fresh (machine s) (known s) (known t) (x ∷ []) → At t
    at_fresh s t x a same f = record { host_so = same ∙ a.host_so; machine_so = ap machine_of (same ∙ a.host_so); number = f.grown.number ∙ a.number; sound = subst (λ m. Sound m (known t)) a.machine_so f.sound }

    prefix_trans : (a b c : List Entry) → IsPrefix a b → IsPrefix b c → IsPrefix a c
    prefix_trans a b c p q = (p.0 ++ q.0, sym (append_assoc a p.0 q.0) ∙ (ap (λ l. l ++ q.0) p.1 ∙ q.1))

    begun : (p q : Known) (more : List Entry) → Grown p q more → IsPrefix p.seen q.seen
    begun p q more grown = (grown.begins.more, sym grown.begins.is)

    module _ (takes : S → ℕ → Option (UrbId × Transfer) → S → Type 0) (looks : S → UrbId → Look → S → Type 0) (finishes : S → UrbId → Code → Bool → S → Type 0) (empty_by : S → S → ℕ → Type 0) (soon : S → S → ℕ → Type 0)
        (take_is : (s : S) (e : ℕ) (r : Option (UrbId × Transfer)) (t : S) → takes s e r t → SideTakes machine_of (host s) (host t) (known s) (known t) e r (empty_by s t e))
        (look_is : (s : S) (u : UrbId) (l : Look) (t : S) → looks s u l t → SideLooks machine_of (host s) (host t) (known s) (known t) u l (soon s t u.0))
        (finish_is : (s : S) (u : UrbId) (code : Code) (done : Bool) (t : S) → finishes s u code done t → SideFinishes machine_of (host s) (host t) (known s) (known t) u code done) where
      took : (s t : S) (e : ℕ) (r : Option (UrbId × Transfer)) → At s → takes s e r t → Went s t
      took s t e r a k = let k = take_is s e r t k in go r k.took
        where
          go : (r : Option (UrbId × Transfer)) → Took (machine s) (known s) (known t) e r (empty_by s t e) → Went s t
          go None l = at_looked s t a (take_is s e r t k).same l.0
          go (Some w) f = record { at = at_fresh s t (entry (known s).number (Take e) (Urb w.0) None) a (take_is s e r t k).same f.0; more = entry (known s).number (Take e) (Urb w.0) None ∷ []; grown = f.0.grown; aside = (refl, tt) }

      looked : (s t : S) (u : UrbId) (l : Look) → At s → looks s u l t → Went s t
      looked s t u l a k = at_looked s t a (look_is s u l t k).same (look_is s u l t k).looked

      looked_mine : (s t : S) (u : UrbId) (l : Look) → looks s u l t → (known t).mine ≡ (known s).mine
      looked_mine s t u l k = (look_is s u l t k).looked.grown.mine ∙ append-nil (known s).mine

      was_late : (s t : S) (u : UrbId) (code : Code) → At s → finishes s u code false t → Went s t
      was_late s t u code a k = let f = finish_is s u code false t k in
          record { at = at_fresh s t (entry (known s).number (Finish u code) (Truth false) None) a f.same f.fresh; more = entry (known s).number (Finish u code) (Truth false) None ∷ []; grown = f.fresh.grown; aside = (refl, tt) }

      over : (s : S) → At s → (hs : List Held) (answers : List Look) (t : S) → PassesOver looks s hs answers t → Went s t
      over s a _ _ _ PassesOver.none = stays s a
      over s a _ _ t (PassesOver.one hs answers m h l _ passed look off) = let w = over s a hs answers m passed in goes s m t w (looked m t h.urb l w.at look)

      -- looks make no entry
      over_mine : (s : S) (hs : List Held) (answers : List Look) (t : S) → PassesOver looks s hs answers t → (known t).mine ≡ (known s).mine
      over_mine s _ _ _ PassesOver.none = refl
      over_mine s _ _ t (PassesOver.one hs answers m h l _ passed look off) = looked_mine m t h.urb l look ∙ over_mine s hs answers m passed

      module _ {D : Type 0} where
        take_some : (e : ℕ) (x : Serving S D) → At x.side → (n : ℕ) (y : Serving S D) → TakesSome takes e x n y → Went x.side y.side
        take_some e x a _ _ TakesSome.none = stays x.side a
        take_some e x a _ _ (TakesSome.one n m row u t s some put last) = let w = take_some e x a n m some in goes x.side m.side s w (took m.side s e (Some (u, t)) w.at last)

        take_line : (e n : ℕ) (x y : Serving S D) → At x.side → TakesLine takes e x n y → Went x.side y.side
        take_line e n x y a l = let w = take_some e x a n l.middle l.some in
            let v = goes x.side l.middle.side l.side w (took l.middle.side l.side e None w.at l.last) in subst (λ s. Went x.side s) (sym (ap (λ (z : Serving S D). z.side) l.is)) v

        pub take_below : (x : Serving S D) → At x.side → (k n : ℕ) (y : Serving S D) → TakesBelow takes x k n y → Went x.side y.side
        take_below x a _ _ _ TakesBelow.none = stays x.side a
        take_below x a _ _ y (line e n k m _ below more) = let w = take_below x a e n m below in goes x.side m.side y.side w (take_line e k m y w.at more)

        -- looks make no entry
        below_mine : (x : Serving S D) (n : ℕ) (y : Serving S D) → LooksBelow looks x n y → (known y.side).mine ≡ (known x.side).mine
        below_mine x _ _ LooksBelow.none = refl
        below_mine x _ y (LooksBelow.end e m _ below more) = over_mine m.side more.row.held.items more.finds.answers y.side more.finds.passed ∙ below_mine x e m below

        marked_mine : (e place : ℕ) (x y : Serving S D) → FindsMarked looks e place x y → (known y.side).mine ≡ (known x.side).mine
        marked_mine e place x y f = looked_mine f.finds.middle y.side f.finds.held.urb _ f.finds.marked ∙ over_mine x.side _ f.finds.answers f.finds.middle f.finds.passed

        pub look_below : (x : Serving S D) → At x.side → (n : ℕ) (y : Serving S D) → LooksBelow looks x n y → Went x.side y.side
        look_below x a _ _ LooksBelow.none = stays x.side a
        look_below x a _ y (LooksBelow.end e m _ below more) = let w = look_below x a e m below in goes x.side m.side y.side w (over m.side w.at more.row.held.items more.finds.answers y.side more.finds.passed)

        pub look_marked : (e place : ℕ) (x y : Serving S D) → At x.side → FindsMarked looks e place x y → Went x.side y.side
        look_marked e place x y a f = let w = over x.side a _ f.finds.answers f.finds.middle f.finds.passed in goes x.side f.finds.middle y.side w (looked f.finds.middle y.side f.finds.held.urb _ w.at f.finds.marked)

        module _ (replies : D → ℕ → Question → Reply → D → Type 0) (items_used : D → ℕ) where
          pass_end : (e : ℕ) (x : Serving S D) → At x.side → (b : Bool) (y : Serving S D) → PassesEnd finishes replies items_used e x b y → Went x.side y.side
          pass_end e x a _ _ (skips row at skipped) = stays x.side a
          pass_end e x a _ _ (waits v) = stays x.side a
          pass_end e x a _ _ (late code s v f) = was_late x.side s v.first.urb code a f

          pub passes : (x : Serving S D) → At x.side → (n : ℕ) (b : Bool) (y : Serving S D) → Passes finishes replies items_used x n b y → Went x.side y.side
          passes x a _ _ _ Passes.none = stays x.side a
          passes x a _ _ y (Passes.end e b c m _ below more) = let w = passes x a e b m below in goes x.side m.side y.side w (pass_end e m w.at c y more)

      module _ {G : Type 0} (gives : S → UrbId → Transfer → G → S → Type 0) (told : G → tokens.Told) (given : S → ℕ) (whole : S → Type 0) (settled : S → ℕ → Type 0)
          (give_is : (s : S) (u : UrbId) (b : Transfer) (y : G) (t : S) → gives s u b y t → SideGives machine_of (host s) (host t) (known s) (known t) u b (told y)) where
        -- a giveback: where it stands, what was sent, and its status
        module _ (m y : S) (at : At m) (u : UrbId) (b : Transfer) (v : G) (gave : gives m u b v y) where
          abbrev gv : SideGives machine_of (host m) (host y) (known m) (known y) u b (told v)
          gv = give_is m u b v y gave

          abbrev ge : Entry
          ge = entry (known m).number (Give u) (Status (told v).code) None

          fresh : Fresh g (known m) (known y) (ge ∷ [])
          fresh = subst (λ k. Fresh k (known m) (known y) (ge ∷ [])) at.machine_so gv.fresh

          bh : Behind g (known m) (known y) ge
          bh = behind g (known m) (known y) ge at.number at.sound.own refl fresh

          given_split : (known y).seen ≡ bh.before ++ entry SERVER (Give record { 0 = (told v).urb }) (Status (told v).code) None ∷ []
          given_split = bh.seen ∙ ap (λ n. bh.before ++ entry n (Give u) (Status (told v).code) None ∷ []) at.number ∙ ap (λ (n : ℕ). bh.before ++ entry SERVER (Give record { 0 = n }) (Status (told v).code) None ∷ []) (sym gv.urb)

          same_part : part_of (known m).seen 0 ≡ part_of bh.before 0
          same_part = subst (λ n. part_of (known m).seen n ≡ (known m).mine) at.number at.sound.own ∙ sym bh.later.own

          given_sent : (start : Transfer) → ((sent_of (known m).seen u.0 ≡ Some start) × ((state_of (known m).seen u.0).queued ≡ true)) → sent_of bh.before (told v).urb ≡ Some start
          given_sent start is = ap (sent_of bh.before) gv.urb ∙ (sent_later g u.0 (known m).seen bh.before bh.later.legal bh.later.begins same_part is.1 ∙ is.0)

          -- its status is that of a mark that was seen before it
          given_code : (code : Code) → (state_of (known m).seen u.0).mark ≡ Finished code → (told v).code ≡ code
          given_code code is = let st : Status (told v).code ≡ Status (status_of (state_of bh.before u.0).mark) = bh.follows.answers in
              let same = mark_same g u.0 (known m).seen bh.before bh.later.legal bh.later.begins same_part (ap is_clear is) in
              let a : (told v).code ≡ status_of (state_of bh.before u.0).mark = cc in a ∙ ap status_of (same ∙ is)

        abbrev knows : S → Knows
        knows s = side_knows (machine s) (known s) (given s) (whole s) (settled s)

        -- what is first at an endpoint is pending there
        pending_at : (s : S) → At s → (ends : List EndRow) → Holds (knows s) ends → (e : ℕ) (u : UrbId) → first_at ends e ≡ Some u → Contains (pending_of g (known s).mine e) u.0
        pending_at s at ends holds e u first = subst (λ k. Contains (pending_of k (known s).mine e) u.0) at.machine_so (first_pending (knows s) ends holds e u first)

        -- what was sent with it stays
        sent_stays : (s t : S) → At s → Sound g (known t) → (more : List Entry) → Grown (known s) (known t) more → (e : ℕ) (u : UrbId) → Contains (pending_of g (known s).mine e) u.0 → AllAre (NoGive u.0) more → sent_of (known t).seen u.0 ≡ sent_of (known s).seen u.0
        sent_stays s t at now more grown e u there all = (sent_over g (known s) (known t) at.number at.sound now more grown u.0 all (queued g (known s) at.number at.sound e u.0 there)).0

        module _ {D : Type 0} where
          -- a marked URB is given back
          module _ (x t m l y : Serving S D) (e place : ℕ) (v : G) (a : At x.side) (w : Went x.side t.side) (holds : Holds (knows t.side) t.ends) (below : LooksBelow looks t e m) (found : FindsMarked looks e place m l) (gm : GivesMarked gives e place l v y) where
            abbrev back_urb : UrbId
            back_urb = gm.held.urb

            tl : Went t.side l.side
            tl = let tm = look_below t w.at e m below in goes t.side m.side l.side tm (look_marked e place m l tm.at found)

            xl : Went x.side l.side
            xl = goes x.side t.side l.side w tl

            mine_so : (known l.side).mine ≡ (known t.side).mine
            mine_so = marked_mine e place m l found ∙ below_mine t e m below

            marked_row : slice_get t.ends e ≡ Some gm.row
            marked_row = sym (row_stays t e m below e (omega arith)) ∙ (ap (λ (z : Serving S D). slice_get z.ends e) (sym found.is) ∙ gm.at)

            marked_urbs : urbs_in (gm.before ++ gm.held ∷ gm.after) ≡ pending_of g (known t.side).mine e
            marked_urbs = ap urbs_in (sym gm.parts) ∙ (ap (λ o. urbs_in (held_in o)) (sym marked_row) ∙ (holds.urbs e (slice_get_within t.ends e gm.row marked_row) ∙ ap (λ k. pending_of k (known t.side).mine e) w.at.machine_so))

            marked_here : Contains (pending_of g (known t.side).mine e) back_urb.0
            marked_here = subst (λ (us : List ℕ). Contains us back_urb.0) marked_urbs (in_urbs gm.before gm.held gm.after)

            marked_home : e ≡ home_of g (told v).urb
            marked_home = home g (known t.side) w.at.number w.at.sound e back_urb.0 marked_here ∙ ap (home_of g) (sym (gv l.side y.side xl.at back_urb gm.held.transfer v gm.gave).urb)

            abbrev ge_marked : Entry
            ge_marked = ge l.side y.side xl.at back_urb gm.held.transfer v gm.gave

            -- the side then
            at_marked : At y.side
            at_marked = let sv = gv l.side y.side xl.at back_urb gm.held.transfer v gm.gave in at_fresh l.side y.side (entry (known l.side).number (Give back_urb) (Status (told v).code) None) xl.at sv.same sv.fresh

            abbrev more_marked : List Entry
            more_marked = tl.more ++ ge_marked ∷ []

            grown_marked : Grown (known t.side) (known y.side) more_marked
            grown_marked = grown_more (known t.side) (known l.side) (known y.side) tl.more (ge_marked ∷ []) tl.grown (fresh l.side y.side xl.at back_urb gm.held.transfer v gm.gave).grown

            -- what is pending then was not given back
            marked_others : (d : ℕ) (o : UrbId) → Contains (pending_of g (known y.side).mine d) o.0 → AllAre (NoGive o.0) more_marked
            marked_others d o there =
                let off : o.0 ≢ back_urb.0 = apart g (known l.side) (known y.side) xl.at.number xl.at.sound back_urb (Status (told v).code) (fresh l.side y.side xl.at back_urb gm.held.transfer v gm.gave)
                (e, subst (λ n. Contains (pending_of g n e) back_urb.0) (sym mine_so) marked_here) d o.0 there in
                all_append (NoGive o.0) tl.more (ge_marked ∷ []) (aside_gives_none o.0 tl.more tl.aside) (give_other (known l.side).number back_urb (Status (told v).code) o off)

            -- with the transfer that was sent, as replies moved it: only the first has replies
            gives_marked : IsShaped g.layout.shapes t.ends → (held : IsHeld (knows t.side) gm.row.shape gm.held) → (gm.before ≡ []) ⊎ (held.before ≡ [])
                → (back : GaveBack g (known x.side) (known y.side) (told v).urb (told v).code (told v).transfer) × (back.sent ≡ held.start) × (back.replies ≡ held.before)
            gives_marked shaped held only =
                let over_so = sent_over g (known t.side) (known l.side) w.at.number w.at.sound tl.at.sound tl.more tl.grown back_urb.0 (aside_gives_none back_urb.0 tl.more tl.aside) (queued g (known t.side) w.at.number w.at.sound e back_urb.0 marked_here) in
                let sv = gv l.side y.side xl.at back_urb gm.held.transfer v gm.gave in
                let fr = fresh l.side y.side xl.at back_urb gm.held.transfer v gm.gave in
                let h = bh l.side y.side xl.at back_urb gm.held.transfer v gm.gave in
                let waiting : pending_of g h.before (home_of g (told v).urb) ≡ urbs_in (gm.before ++ gm.held ∷ gm.after) =
                ap (pending_of g h.before) (sym marked_home) ∙ (later_pending g (known l.side) xl.at.number xl.at.sound h.before h.later e ∙ (ap (λ n. pending_of g n e) mine_so ∙ sym marked_urbs)) in (
                  record {
                    finished = false;
                    shape = gm.row.shape;
                    sent = held.start;
                    replies = held.before;
                    more = xl.more ++ ge_marked ∷ [];
                    grown = grown_more (known x.side) (known l.side) (known y.side) xl.more (ge_marked ∷ []) xl.grown fr.grown;
                    sound = fr.sound;
                    entries = filter-append (λ (z : Entry). not (is_aside z.event z.answer)) xl.more (ge_marked ∷ [])
                        ∙ (ap (λ ys. ys ++ ge_marked ∷ []) (aside_none xl.more xl.aside)
                        ∙ (ap (λ n. entry n (Give back_urb) (Status (told v).code) None ∷ []) xl.at.number ∙ ap (λ (n : ℕ). entry SERVER (Give record { 0 = n }) (Status (told v).code) None ∷ []) (sym sv.urb)));
                    before = h.before;
                    late = prefix_trans (known x.side).seen (known l.side).seen h.before (begun (known x.side) (known l.side) xl.more xl.grown) h.later.begins;
                    split = given_split l.side y.side xl.at back_urb gm.held.transfer v gm.gave;
                    at = ap (slice_get g.layout.shapes) (sym marked_home) ∙ shaped e gm.row marked_row;
                    was_sent = given_sent l.side y.side xl.at back_urb gm.held.transfer v gm.gave held.start (over_so.0 ∙ held.sent, over_so.1);
                    back = sv.transfer ∙ ap Some held.moved_so;
                    window = held.window;
                    first = λ some. ⊎_elim
                        (λ empty. ap (is_first (told v).urb) (waiting ∙ ap (λ hs. urbs_in (hs ++ gm.held ∷ gm.after)) empty) ∙ eq-eqb back_urb.0 (told v).urb (sym sv.urb))
                        (λ none_so. let n = ap length none_so in absurd (omega arith)) only;
                    state = λ f. absurd (true≢false (sym f));
                    whole = held.whole;
                  },
                  refl,
                  refl,
                )

          -- a transfer ended, and its URB is given back
          module _ (replies : D → ℕ → Question → Reply → D → Type 0) (items_used : D → ℕ) (x t l m y : Serving S D) (e : ℕ) (moves : Bool) (v : G) (a : At x.side) (w : Went x.side t.side) (wl : Went t.side l.side) (holds : Holds (knows l.side) l.ends)
              (passed : Passes finishes replies items_used l e moves m) (z : Ends finishes gives replies e m v y) where
            abbrev first_urb : UrbId
            first_urb = z.moves.first.urb

            lm : Went l.side m.side
            lm = passes replies items_used l wl.at e moves m passed

            xm : Went x.side m.side
            xm = goes x.side l.side m.side (goes x.side t.side l.side w wl) lm

            ended_row : slice_get l.ends e ≡ Some z.moves.row
            ended_row = sym (pass_stays l e moves m passed e (omega arith)) ∙ z.moves.at

            ended_here : Contains (pending_of g (known l.side).mine e) first_urb.0
            ended_here = subst (λ (us : List ℕ). Contains us first_urb.0) (ap (λ o. urbs_in (held_in o)) (sym ended_row) ∙ (holds.urbs e (slice_get_within l.ends e z.moves.row ended_row) ∙ ap (λ k. pending_of k (known l.side).mine e) wl.at.machine_so))
                (subst (λ (hs : List Held). Contains (urbs_in hs) first_urb.0) (sym z.moves.held) (in_urbs [] z.moves.first z.moves.others))

            abbrev fs : SideFinishes machine_of (host m.side) (host z.middle) (known m.side) (known z.middle) first_urb z.code true
            fs = finish_is m.side first_urb z.code true z.middle z.finished

            abbrev fe : Entry
            fe = entry (known m.side).number (Finish first_urb z.code) (Truth true) None

            ff : Fresh g (known m.side) (known z.middle) (fe ∷ [])
            ff = subst (λ k. Fresh k (known m.side) (known z.middle) (fe ∷ [])) lm.at.machine_so fs.fresh

            at_middle : At z.middle
            at_middle = at_fresh m.side z.middle fe lm.at fs.same fs.fresh

            bf : Behind g (known m.side) (known z.middle) fe
            bf = behind g (known m.side) (known z.middle) fe lm.at.number lm.at.sound.own refl ff

            abbrev ge_ended : Entry
            ge_ended = ge z.middle y.side at_middle first_urb z.moves.now v z.gave

            ended_home : e ≡ home_of g (told v).urb
            ended_home = home g (known l.side) wl.at.number wl.at.sound e first_urb.0 ended_here ∙ ap (home_of g) (sym (gv z.middle y.side at_middle first_urb z.moves.now v z.gave).urb)

            -- the side then
            at_ended : At y.side
            at_ended = let sv = gv z.middle y.side at_middle first_urb z.moves.now v z.gave in at_fresh z.middle y.side (entry (known z.middle).number (Give first_urb) (Status (told v).code) None) at_middle sv.same sv.fresh

            abbrev more_ended : List Entry
            more_ended = lm.more ++ fe ∷ ge_ended ∷ []

            grown_ended : Grown (known l.side) (known y.side) more_ended
            grown_ended = let fr = fresh z.middle y.side at_middle first_urb z.moves.now v z.gave in
                grown_more (known l.side) (known m.side) (known y.side) lm.more (fe ∷ ge_ended ∷ []) lm.grown (grown_more (known m.side) (known z.middle) (known y.side) (fe ∷ []) (ge_ended ∷ []) ff.grown fr.grown)

            -- what is pending then was not given back
            ended_others : (d : ℕ) (u : UrbId) → Contains (pending_of g (known y.side).mine d) u.0 → AllAre (NoGive u.0) more_ended
            ended_others d u there =
                let home_there = home_of g first_urb.0 in
                let first : IsFirst first_urb.0 (pending_of g bf.before home_there) = bf.follows.may.1 in
                let same : pending_of g bf.before home_there ≡ pending_of g (known z.middle).mine home_there =
                later_pending g (known m.side) lm.at.number lm.at.sound bf.before bf.later home_there ∙ sym (ap (λ m. pending_of g m home_there) bf.mine ∙ pending_of-snoc (known m.side).mine fe g home_there) in
                let off : u.0 ≢ first_urb.0 = apart g (known z.middle) (known y.side) at_middle.number at_middle.sound first_urb (Status (told v).code) (fresh z.middle y.side at_middle first_urb z.moves.now v z.gave)
                (home_there, first_there first_urb.0 (pending_of g (known z.middle).mine home_there) (subst (IsFirst first_urb.0) same first)) d u.0 there in
                all_append (NoGive u.0) lm.more (fe ∷ ge_ended ∷ []) (aside_gives_none u.0 lm.more lm.aside) (refl, give_other (known z.middle).number first_urb (Status (told v).code) u off)

            -- with the transfer that was sent, as replies moved it
            gives_ended : IsShaped g.layout.shapes l.ends → (held : IsHeld (knows l.side) z.moves.row.shape z.moves.first)
                → (back : GaveBack g (known x.side) (known y.side) (told v).urb (told v).code (told v).transfer) × (back.sent ≡ held.start) × (back.replies ≡ held.before ++ z.moves.more)
            gives_ended shaped held =
                let u = first_urb in
                let q = queued g (known l.side) wl.at.number wl.at.sound e u.0 ended_here in
                let none_give : AllAre (NoGive u.0) (lm.more ++ fe ∷ []) = all_append (NoGive u.0) lm.more (fe ∷ []) (aside_gives_none u.0 lm.more lm.aside) (refl, tt) in
                let so = sent_over g (known l.side) (known z.middle) wl.at.number wl.at.sound at_middle.sound (lm.more ++ fe ∷ []) (grown_more (known l.side) (known m.side) (known z.middle) lm.more (fe ∷ []) lm.grown ff.grown) u.0 none_give q in
                let clear : true ≡ is_clear (state_of bf.before u.0).mark = (let c : Truth true ≡ Truth (is_clear (state_of bf.before u.0).mark) = bf.follows.answers in cc) in
                let going : IsOpen z.moves.row.shape held.start held.before = ⊎_elim (λ o. o)
                (λ k. absurd (true≢false (clear ∙ later_marked g (known m.side) lm.at.number lm.at.sound bf.before bf.later u.0
                (marked_over g (known l.side) (known m.side) wl.at.number wl.at.sound lm.at.sound lm.more lm.grown u.0 (aside_gives_none u.0 lm.more lm.aside) q k)))) held.going in
                let stops = z.moves.runs.stops held.start held.before held.window going held.moved_so in
                let now : (state_of (known z.middle).seen u.0).mark ≡ Finished z.code = ap (λ k. (state_of k u.0).mark) bf.seen ∙ (ap (λ (r : UrbState). r.mark) (state_of-snoc bf.before fe u.0) ∙ ap (λ b. (cond b (record (state_of bf.before u.0) { mark = Finished z.code }) (state_of bf.before u.0)).mark) (eq-eqb u.0 u.0 refl)) in
                let b = z.moves.now in
                let sv = gv z.middle y.side at_middle u b v z.gave in
                let fr = fresh z.middle y.side at_middle u b v z.gave in
                let h = bh z.middle y.side at_middle u b v z.gave in
                let code : (told v).code ≡ z.code = given_code z.middle y.side at_middle u b v z.gave z.code now in
                let two : List Entry = fe ∷ ge_ended ∷ [] in
                let middle_grown : Grown (known x.side) (known z.middle) (xm.more ++ fe ∷ []) = grown_more (known x.side) (known m.side) (known z.middle) xm.more (fe ∷ []) xm.grown ff.grown in (
                  record {
                    finished = true;
                    shape = z.moves.row.shape;
                    sent = held.start;
                    replies = held.before ++ z.moves.more;
                    more = xm.more ++ two;
                    grown = grown_more (known x.side) (known m.side) (known y.side) xm.more two xm.grown (grown_more (known m.side) (known z.middle) (known y.side) (fe ∷ []) (ge_ended ∷ []) ff.grown fr.grown);
                    sound = fr.sound;
                    entries = filter-append (λ (z : Entry). not (is_aside z.event z.answer)) xm.more two
                        ∙ (ap (λ ys. ys ++ two) (aside_none xm.more xm.aside)
                        ∙ (ap (λ n. entry n (Finish u z.code) (Truth true) None ∷ ge_ended ∷ []) lm.at.number
                        ∙ (ap (λ n. entry SERVER (Finish u z.code) (Truth true) None ∷ entry n (Give u) (Status (told v).code) None ∷ []) at_middle.number
                        ∙ (ap (λ c. entry SERVER (Finish u c) (Truth true) None ∷ entry SERVER (Give u) (Status (told v).code) None ∷ []) (sym code)
                        ∙ ap (λ (n : ℕ). entry SERVER (Finish record { 0 = n } (told v).code) (Truth true) None ∷ entry SERVER (Give record { 0 = n }) (Status (told v).code) None ∷ []) (sym sv.urb)))));
                    before = h.before;
                    late = prefix_trans (known x.side).seen (known z.middle).seen h.before (begun (known x.side) (known z.middle) (xm.more ++ fe ∷ []) middle_grown) h.later.begins;
                    split = given_split z.middle y.side at_middle u b v z.gave;
                    at = ap (slice_get g.layout.shapes) (sym ended_home) ∙ shaped e z.moves.row ended_row;
                    was_sent = given_sent z.middle y.side at_middle u b v z.gave held.start (so.0 ∙ held.sent, so.1);
                    back = sv.transfer ∙ ap Some stops.transfer;
                    window = held.window;
                    first = λ _. (let pend : pending_of g h.before (home_of g u.0) ≡ pending_of g bf.before (home_of g u.0) = later_pending g (known z.middle) at_middle.number at_middle.sound h.before h.later (home_of g u.0)
                        ∙ (ap (λ m. pending_of g m (home_of g u.0)) bf.mine ∙ (pending_of-snoc (known m.side).mine fe g (home_of g u.0) ∙ sym (later_pending g (known m.side) lm.at.number lm.at.sound bf.before bf.later (home_of g u.0)))) in
                        ap (λ n. is_first n (pending_of g h.before (home_of g n))) sv.urb ∙ (ap (is_first u.0) pend ∙ first_so u.0 (pending_of g bf.before (home_of g u.0)) bf.follows.may.1));
                    state = λ _. sym stops.state ∙ ap Ended (sym code);
                    whole = stops.whole;
                  },
                  refl,
                  refl,
                )

          -- a turn gives nothing back, or one URB
          turn_so : (replies : D → ℕ → Question → Reply → D → Type 0) (items_used : D → ℕ) (x : Serving S D) → At x.side → IsShaped g.layout.shapes x.ends → (r : Option G) (c : Bool) (y : Serving S D)
              → Turned knows takes looks finishes gives replies items_used x r c y → TurnGave g (known x.side) (known y.side) (option_map told r)
          turn_so replies items_used x a shaped _ _ y (Turned.marked taken e place t m l _ v below holds near looked found gave) =
              let w = take_below x a (length x.ends) taken t below in
              let kept = take_rows x (length x.ends) taken t below in
              let row = marked_row x t m l y e place v a w holds looked found gave in
              let held = placed_held (knows t.side) t.ends holds e gave.row gave.before gave.held gave.after row gave.parts in
              (gives_marked x t m l y e place v a w holds looked found gave (kept_shapes g.layout.shapes x.ends t.ends kept.1 shaped) held.0 held.1).0
          turn_so replies items_used x a shaped _ _ y (Turned.ended taken e moves t l m _ v below holds looked held near passed z) =
              let w = take_below x a (length x.ends) taken t below in
              let wl = look_below t w.at (length x.ends) l looked in
              let kept = same_kept x.ends t.ends l.ends (take_rows x (length x.ends) taken t below).1 (look_rows t (length x.ends) l looked).1 in
              let row = ended_row replies items_used x t l m y e moves v a w wl held passed z in
              let was : IsHeld (knows l.side) z.moves.row.shape z.moves.first = all_at (IsHeld (knows l.side) z.moves.row.shape) [] z.moves.first z.moves.others (subst (All (IsHeld (knows l.side) z.moves.row.shape)) z.moves.held (held.each e z.moves.row row)) in
              (gives_ended replies items_used x t l m y e moves v a w wl held passed z (kept_shapes g.layout.shapes x.ends l.ends kept shaped) was).0
          turn_so replies items_used x a shaped _ _ y (Turned.idle taken moves t l _ below holds looked held passed) =
              let w = take_below x a (length x.ends) taken t below in
              let v = look_below t w.at (length x.ends) l looked in
              let z = passes replies items_used l v.at (length x.ends) moves y passed in
              let all = goes x.side t.side y.side w (goes t.side l.side y.side v z) in
              record { more = all.more; grown = all.grown; sound = all.at.sound; aside = aside_none all.more all.aside }

          pub turn_gives : (replies : D → ℕ → Question → Reply → D → Type 0) (items_used : D → ℕ) (x : Serving S D) (r : Option G) (c : Bool) (y : Serving S D) → host x.side ≡ here → (known x.side).number ≡ SERVER → Sound g (known x.side) → IsShaped g.layout.shapes x.ends
              → Turned knows takes looks finishes gives replies items_used x r c y → TurnGave g (known x.side) (known y.side) (option_map told r)
          turn_gives replies items_used x r c y same server sound shaped t = turn_so replies items_used x (record { host_so = same; machine_so = ap machine_of same; number = server; sound = sound }) shaped r c y t

          -- and it is still a side of this machine
          pub turn_same : (replies : D → ℕ → Question → Reply → D → Type 0) (items_used : D → ℕ) (x : Serving S D) (r : Option G) (c : Bool) (y : Serving S D) → host x.side ≡ here → (known x.side).number ≡ SERVER → Sound g (known x.side)
              → Turned knows takes looks finishes gives replies items_used x r c y → host y.side ≡ here
          turn_same replies items_used x r c y same server sound t = go r c y t
            where
              a : At x.side
              a = record { host_so = same; machine_so = ap machine_of same; number = server; sound = sound }

              go : (r : Option G) (c : Bool) (y : Serving S D) → Turned knows takes looks finishes gives replies items_used x r c y → host y.side ≡ here
              go _ _ y (Turned.marked taken e place t m l _ v below holds near looked found gave) =
                  let w = take_below x a (length x.ends) taken t below in let tm = look_below t w.at e m looked in let ml = look_marked e place m l tm.at found in
                  (give_is l.side gave.held.urb gave.held.transfer v y.side gave.gave).same ∙ ml.at.host_so
              go _ _ y (Turned.ended taken e moves t l m _ v below holds looked held near passed z) =
                  let w = take_below x a (length x.ends) taken t below in let tl = look_below t w.at (length x.ends) l looked in let lm = passes replies items_used l tl.at e moves m passed in
                  (give_is z.middle z.moves.first.urb z.moves.now v y.side z.gave).same ∙ ((finish_is m.side z.moves.first.urb z.code true z.middle z.finished).same ∙ lm.at.host_so)
              go _ _ y (Turned.idle taken moves t l _ below holds looked held passed) =
                  let w = take_below x a (length x.ends) taken t below in let tl = look_below t w.at (length x.ends) l looked in (passes replies items_used l tl.at (length x.ends) moves y passed).at.host_so

          module _ (replies : D → ℕ → Question → Reply → D → Type 0) (items_used : D → ℕ) (x : Serving S D) (a : At x.side) (shaped : IsShaped g.layout.shapes x.ends) (held_x : Holds (knows x.side) x.ends) (so : ℕ → List Reply) (so_x : IsSoFar (knows x.side) so x.ends) where
            -- the first transfers to which there are replies are those that were first before the turn
            starts_so : (s : S) (ends : List EndRow) → Went x.side s → Kept x.ends ends → (e : ℕ) → 0 < length (so e) → first_sent (known s).seen ends e ≡ first_sent (known x.side).seen x.ends e
            starts_so s ends w kept e some = first_stays (known x.side).seen (known s).seen (first_at x.ends e) (first_at ends e)
                (kept_first x.ends ends kept e (λ row at empty. let n = ap length (so_x.nothing e row at empty) in absurd (omega arith)))
                (λ u is. sent_stays x.side s a w.at.sound w.more w.grown e u (pending_at x.side a x.ends held_x e u is) (aside_gives_none u.0 w.more w.aside))

            abbrev Wents : Serving S D → Option G → Type 0
            Wents y r = TurnWent replies g (known x.side) (known y.side) x.ends y.ends x.devices y.devices so (λ now. IsSoFar (knows y.side) now y.ends) (option_map told r)

            -- nothing comes back
            went_idle : (taken : ℕ) (moves : Bool) (t l y : Serving S D) → TakesBelow takes x (length x.ends) taken t → LooksBelow looks t (length x.ends) l → Holds (knows l.side) l.ends → (passed : Passes finishes replies items_used l (length x.ends) moves y)
                → GaveNothing g (known x.side) (known y.side) → IsSoFar (knows l.side) so l.ends → IsSoFar (knows y.side) (after_below finishes replies items_used l (length x.ends) moves y passed so) y.ends → Wents y None
            went_idle taken moves t l y below looked holds passed nothing so_l so_y =
                let w = take_below x a (length x.ends) taken t below in
                let v = look_below t w.at (length x.ends) l looked in
                let z = passes replies items_used l v.at (length x.ends) moves y passed in
                let xl = goes x.side t.side l.side w v in
                let tr = take_rows x (length x.ends) taken t below in
                let lr = look_rows t (length x.ends) l looked in
                let kept = same_kept x.ends t.ends l.ends tr.1 lr.1 in
                let start = first_sent (known l.side).seen l.ends in
                let mid = after_below finishes replies items_used l (length x.ends) moves y passed so in
                record {
                  seen = (known l.side).seen;
                  early = xl.grown.begins;
                  late = z.grown.begins;
                  start = start;
                  starts = starts_so l.side l.ends xl kept;
                  mid = mid;
                  went = subst (λ ds. they.Went replies g (known l.side).seen start ds so y.devices mid) (lr.0 ∙ tr.0)
                      (went_below finishes replies items_used g (known l.side) v.at.number v.at.sound (given l.side) (whole l.side) (settled l.side) l (subst (λ k. Holds (side_knows k (known l.side) (given l.side) (whole l.side) (settled l.side)) l.ends) v.at.machine_so holds)
                      (kept_shapes g.layout.shapes x.ends l.ends kept shaped) so (subst (λ k. IsSoFar (side_knows k (known l.side) (given l.side) (whole l.side) (settled l.side)) so l.ends) v.at.machine_so so_l) (length x.ends) moves y passed);
                  now = mid;
                  so_far = so_y;
                  ends = λ e some. first_stays (known l.side).seen (known y.side).seen (first_at l.ends e) (first_at y.ends e) (same_first l.ends y.ends (pass_rows l (length x.ends) moves y passed) e)
                      (λ u is. sent_stays l.side y.side v.at z.at.sound z.more z.grown e u (pending_at l.side v.at l.ends holds e u is) (aside_gives_none u.0 z.more z.aside));
                  left = (nothing, λ e. refl);
                }

            -- an URB comes back whose transfer ended
            went_ended_so : (taken e : ℕ) (moves : Bool) (t l m y : Serving S D) (v : G) → Holds (knows y.side) y.ends → TakesBelow takes x (length x.ends) taken t → LooksBelow looks t (length x.ends) l → Holds (knows l.side) l.ends → (passed : Passes finishes replies items_used l e moves m) → Ends finishes gives replies e m v y
                → IsSoFar (knows l.side) so l.ends → IsSoFar (knows y.side) (with_replies e [] (after_below finishes replies items_used l e moves m passed so)) y.ends → Wents y (Some v)
            went_ended_so taken e moves t l m y v held_y below looked holds passed z so_l so_y =
                let w = take_below x a (length x.ends) taken t below in
                let wl = look_below t w.at (length x.ends) l looked in
                let xl = goes x.side t.side l.side w wl in
                let tr = take_rows x (length x.ends) taken t below in
                let lr = look_rows t (length x.ends) l looked in
                let kept = same_kept x.ends t.ends l.ends tr.1 lr.1 in
                let shaped_l : IsShaped g.layout.shapes l.ends = kept_shapes g.layout.shapes x.ends l.ends kept shaped in
                let holds_g = subst (λ k. Holds (side_knows k (known l.side) (given l.side) (whole l.side) (settled l.side)) l.ends) wl.at.machine_so holds in
                let so_g = subst (λ k. IsSoFar (side_knows k (known l.side) (given l.side) (whole l.side) (settled l.side)) so l.ends) wl.at.machine_so so_l in
                let start = first_sent (known l.side).seen l.ends in
                let old = after_below finishes replies items_used l e moves m passed so in
                let mid = with_replies e (old e ++ z.moves.more) old in
                let row = ended_row replies items_used x t l m y e moves v a w wl holds passed z in
                let by = so_l.first e z.moves.row z.moves.first z.moves.others row z.moves.held in
                let back = gives_ended replies items_used x t l m y e moves v a w wl holds passed z shaped_l by.held in
                let at = at_ended replies items_used x t l m y e moves v a w wl holds passed z in
                let more = more_ended replies items_used x t l m y e moves v a w wl holds passed z in
                let last = grown_ended replies items_used x t l m y e moves v a w wl holds passed z in
                let old_e : old e ≡ so e = below_replies finishes replies items_used g (known l.side) wl.at.number wl.at.sound (given l.side) (whole l.side) (settled l.side) l holds_g shaped_l so so_g e moves m passed e (omega arith) in
                let firsts : (d : ℕ) → d ≢ e → first_at y.ends d ≡ first_at l.ends d = λ d off.
                ap (λ (k : Serving S D). first_at k.ends d) z.is ∙ (ap (λ o. first_of (urbs_in (held_in o))) (set_other m.ends e d _ off) ∙ same_first l.ends m.ends (pass_rows l e moves m passed) d) in
                record {
                  seen = (known l.side).seen;
                  early = xl.grown.begins;
                  late = last.begins;
                  start = start;
                  starts = starts_so l.side l.ends xl kept;
                  mid = mid;
                  went = subst (λ ds. they.Went replies g (known l.side).seen start x.devices so ds mid) (sym (ap (λ (k : Serving S D). k.devices) z.is))
                      (subst (λ ds. they.Went replies g (known l.side).seen start ds so (slice_set m.devices z.moves.row.shape.device z.moves.after) mid) (lr.0 ∙ tr.0)
                      (went_ended finishes replies items_used g (known l.side) wl.at.number wl.at.sound (given l.side) (whole l.side) (settled l.side) l holds_g shaped_l so so_g e moves m passed _ z.moves));
                  now = with_replies e [] old;
                  so_far = so_y;
                  ends = λ d some. (let off : d ≢ e = λ is. (let n = ap length (ap (λ k. with_replies e [] old k) is ∙ with_here e [] old) in absurd (omega arith)) in
                      first_stays (known l.side).seen (known y.side).seen (first_at l.ends d) (first_at y.ends d) (firsts d off)
                      (λ u is. sent_stays l.side y.side wl.at at.sound more last d u (pending_at l.side wl.at l.ends holds d u is)
                      (ended_others replies items_used x t l m y e moves v a w wl holds passed z d u (pending_at y.side at y.ends held_y d u (firsts d off ∙ is)))));
                  left = (
                    back.0,
                    subst (λ k. Stood start mid (with_replies e [] old) k back.0.sent back.0.replies) (ended_home replies items_used x t l m y e moves v a w wl holds passed z)
                        (Stood.first (back.1 ∙ sym (start_of (known l.side).seen l.ends e z.moves.row z.moves.first z.moves.others by.held.start row z.moves.held by.held.sent))
                        (back.2 ∙ (ap (λ rs. rs ++ z.moves.more) (by.is ∙ sym old_e) ∙ sym (with_here e (old e ++ z.moves.more) old)))
                        (λ d. with_twice e d [] (old e ++ z.moves.more) old)),
                  );
                }

            -- an URB comes back that was marked: the first of its endpoint, or one behind it
            went_marked : (taken e place : ℕ) (t m l y : Serving S D) (v : G) → Holds (knows y.side) y.ends → TakesBelow takes x (length x.ends) taken t → Holds (knows t.side) t.ends → LooksBelow looks t e m → FindsMarked looks e place m l → GivesMarked gives e place l v y
                → IsSoFar (knows t.side) so t.ends → IsSoFar (knows y.side) (without_place e place so) y.ends → Wents y (Some v)
            went_marked taken e place t m l y v held_y below holds looked found gm so_t so_y =
                let at = at_marked x t m l y e place v a w holds looked found gm in
                let grown = grown_marked x t m l y e place v a w holds looked found gm in
                let is = placed gm.before refl in
                record {
                  seen = (known t.side).seen;
                  early = w.grown.begins;
                  late = grown.begins;
                  start = first_sent (known t.side).seen t.ends;
                  starts = starts_so t.side t.ends w tr.1;
                  mid = so;
                  went = subst (λ ds. they.Went replies g (known t.side).seen (first_sent (known t.side).seen t.ends) x.devices so ds so)
                      (sym (ap (λ (k : Serving S D). k.devices) gm.is ∙ (fr.0 ∙ (lr.0 ∙ tr.0)))) they.Went.none;
                  now = without_place e place so;
                  so_far = so_y;
                  ends = λ d some. first_stays (known t.side).seen (known y.side).seen (first_at t.ends d) (first_at y.ends d) (is.2 d some)
                      (λ u first. sent_stays t.side y.side w.at at.sound (more_marked x t m l y e place v a w holds looked found gm) grown d u (pending_at t.side w.at t.ends holds d u first)
                      (marked_others x t m l y e place v a w holds looked found gm d u (pending_at y.side at y.ends held_y d u (is.2 d some ∙ first))));
                  left = (is.0, is.1);
                }
              where
                w : Went x.side t.side
                w = take_below x a (length x.ends) taken t below

                tr : (t.devices ≡ x.devices) × Kept x.ends t.ends
                tr = take_rows x (length x.ends) taken t below

                lr : (m.devices ≡ t.devices) × Same t.ends m.ends
                lr = look_rows t e m looked

                fr : (l.devices ≡ m.devices) × (l.ends ≡ m.ends)
                fr = marked_rows e place m l found

                row : slice_get t.ends e ≡ Some gm.row
                row = marked_row x t m l y e place v a w holds looked found gm

                shaped_t : IsShaped g.layout.shapes t.ends
                shaped_t = kept_shapes g.layout.shapes x.ends t.ends tr.1 shaped

                at_home : e ≡ home_of g (told v).urb
                at_home = marked_home x t m l y e place v a w holds looked found gm

                looked_first : (d : ℕ) → first_at l.ends d ≡ first_at t.ends d
                looked_first d = ap (λ ends. first_at ends d) fr.1 ∙ same_first t.ends m.ends lr.1 d

                placed : (before : List Held) → gm.before ≡ before
                    → (back : GaveBack g (known x.side) (known y.side) (told v).urb (told v).code (told v).transfer) × Stood (first_sent (known t.side).seen t.ends) so (without_place e place so) (home_of g (told v).urb) back.sent back.replies × ((d : ℕ) → 0 < length (without_place e place so d) → first_at y.ends d ≡ first_at t.ends d)
                placed [] is =
                    let by = so_t.first e gm.row gm.held gm.after row (gm.parts ∙ ap (λ hs. hs ++ gm.held ∷ gm.after) is) in
                    let back = gives_marked x t m l y e place v a w holds looked found gm shaped_t by.held (inl is) in
                    let now_is : (d : ℕ) → without_place e place so d ≡ with_replies e [] so d = λ d. ap (λ n. without_place e n so d) (sym gm.long ∙ ap length is) in (
                      back.0,
                      subst (λ k. Stood (first_sent (known t.side).seen t.ends) so (without_place e place so) k back.0.sent back.0.replies) at_home
                          (Stood.first (back.1 ∙ sym (start_of (known t.side).seen t.ends e gm.row gm.held gm.after by.held.start row (gm.parts ∙ ap (λ hs. hs ++ gm.held ∷ gm.after) is) by.held.sent)) (back.2 ∙ by.is) now_is),
                      λ d some. (let off : d ≢ e = λ same. (let n = ap length (now_is d ∙ (ap (λ k. with_replies e [] so k) same ∙ with_here e [] so)) in absurd (omega arith)) in
                          ap (λ (k : Serving S D). first_at k.ends d) gm.is ∙ (ap (λ o. first_of (urbs_in (held_in o))) (set_other l.ends e d _ off) ∙ looked_first d)),
                    )
                placed (b ∷ bs) is =
                    let parts : gm.row.held.items ≡ (b ∷ bs) ++ gm.held ∷ gm.after = gm.parts ∙ ap (λ hs. hs ++ gm.held ∷ gm.after) is in
                    let held = later_held (knows t.side) t.ends holds e gm.row b bs gm.held gm.after row parts in
                    let back = gives_marked x t m l y e place v a w holds looked found gm shaped_t held.0 (inr held.1) in
                    let now_is : (d : ℕ) → without_place e place so d ≡ so d = λ d. ap (λ n. without_place e n so d) (sym gm.long ∙ ap length is) ∙ place_later e (length bs) d so in (
                      back.0,
                      Stood.behind (back.2 ∙ held.1) now_is,
                      λ d some. ap (λ (k : Serving S D). first_at k.ends d) gm.is ∙ (ap (λ hs. first_at (slice_set l.ends e (with_held (hs ++ gm.after) gm.row)) d) is
                          ∙ (same_first l.ends (slice_set l.ends e (with_held ((b ∷ bs) ++ gm.after) gm.row)) (left_first l.ends e gm.row b bs gm.held gm.after gm.at parts) d ∙ looked_first d)),
                    )

            -- what a turn did, by what it did to the replies so far
            went_so : (r : Option G) (c : Bool) (y : Serving S D) → Holds (knows y.side) y.ends → (turned : Turned knows takes looks finishes gives replies items_used x r c y) → WhileSoFar knows takes looks finishes gives replies items_used x r c y turned so
                → IsSoFar (knows y.side) (after_turn knows takes looks finishes gives replies items_used x r c y turned so) y.ends → Wents y r
            went_so _ _ y held_y (Turned.marked taken e place t m l _ v below holds near looked found gave) so_t so_y = went_marked taken e place t m l y v held_y below holds looked found gave so_t so_y
            went_so _ _ y held_y (Turned.ended taken e moves t l m _ v below holds looked held near passed z) so_l so_y = went_ended_so taken e moves t l m y v held_y below looked held passed z so_l so_y
            went_so _ _ y held_y (Turned.idle taken moves t l _ below holds looked held passed) so_l so_y =
                went_idle taken moves t l y below looked held passed (turn_so replies items_used x a shaped None _ y (Turned.idle taken moves t l y below holds looked held passed)) so_l so_y

          -- and what the devices replied, for all that are the replies so far
          pub turn_went : (replies : D → ℕ → Question → Reply → D → Type 0) (items_used : D → ℕ) (x : Serving S D) (r : Option G) (c : Bool) (y : Serving S D) → host x.side ≡ here → (known x.side).number ≡ SERVER → Sound g (known x.side) → IsShaped g.layout.shapes x.ends → Holds (knows x.side) x.ends → Holds (knows y.side) y.ends
              → TurnedOn knows takes looks finishes gives replies items_used x r c y → (so : ℕ → List Reply) → IsSoFar (knows x.side) so x.ends → TurnWent replies g (known x.side) (known y.side) x.ends y.ends x.devices y.devices so (λ now. IsSoFar (knows y.side) now y.ends) (option_map told r)
          turn_went replies items_used x r c y same server sound shaped held_x held_y on so so_x =
              went_so replies items_used x (record { host_so = same; machine_so = ap machine_of same; number = server; sound = sound }) shaped held_x so so_x r c y held_y on.0 (on.1 so so_x).0 (on.1 so so_x).1
