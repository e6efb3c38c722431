-- The controller's turns, one after another.
use Rattle.std.proofs.Common.{◌≡◌, Option, Some, None, Result, Ok, Err, IfOk, List, [], ◌∷◌, ◌++◌, map, sym, ap, ◌∙◌, subst, append-nil}
use Rattle.std.specs.Option.{option_to_list}
use Rattle.std.proofs.lemmas.List.{map-append}
use Rattle.std.proofs.lemmas.List.Elements.{All-nil}
use Rattle.usb_types.specs.declared.outside.Memory.{Memory}
use Rattle.usb_machine.specs.declared.entry.TheConstants.{SERVER}
use Rattle.usb_machine.specs.Parts.{part_of}
use Rattle.usb_machine.specs.Fresh.{Known}
use Rattle.usb_scene.specs.declared.scene.Scene.{Scene}
use Rattle.usb_trace.specs.declared.rows.GivebackRow.{GivebackRow}
use Rattle.usb_trace.specs.Plan.{machine_of}
use Rattle.usb_trace.specs.Run.{Giveback, IsGiveback}
use Rattle.usb_trace.specs.GivebackRow.{giveback_row}
use Rattle.usb_trace.proofs.Dues.{due-none}
use Rattle.usb_trace.proofs.Episodes.{HaveNoGive, no_episode, no_first_given}
use Rattle.usb_threads.specs.Serving.{of_givebacks, HasServed, Served}
use Rattle.usb_threads.specs.Turning.{Turned}
use Rattle.usb_threads.specs.Controlling.{HasControlled, IsIdle}
use Rattle.usb_threads.proofs.Firsts.{AreFirst}
use Rattle.usb_threads.proofs.Gives.{gives_in, none_given, servers_gives}
use Rattle.usb_threads.proofs.Giving.{gives_none, gives_more}
use Rattle.usb_threads.proofs.Ongoing.{went_nothing, went_more}

module _ (s : Scene) (from : Known) (idle : IsIdle s from) where
  no_give : HaveNoGive from.seen
  no_give = none_given from.seen (sym (servers_gives (machine_of s) from.seen idle.sound.legal) ∙ ap gives_in (ap (part_of from.seen) (sym idle.number) ∙ (idle.sound.own ∙ idle.new)))

  -- before the first turn nothing was given back
  served_none : HasServed s from.seen from.mine []
  served_none = record {
    entries = ap of_givebacks idle.new;
    gives = no_episode [] from.seen no_give;
    firsts = subst (AreFirst []) (sym (no_first_given (machine_of s) [] from.seen no_give)) (λ k r at some. absurd (cc (at)));
    replies = λ apt e. sym (due-none s e []);
    moves = All-nil (IsGiveback s);
    handled = tt;
  }

  pub controlled_none : (after : List Giveback → Type 0) → after [] → (given : List GivebackRow) → given ≡ [] → HasControlled s after from from given
  controlled_none after stands given none = record {
    rounds = [];
    served = record { more = []; went = went_nothing (machine_of s) from idle.sound; served = served_none };
    stands = stands;
    told = none;
  }

  module _ (old after : List Giveback → Type 0) (p q : Known) where
    abbrev Before : List GivebackRow → Type 0
    Before given = HasControlled s old from p given

    abbrev After : List GivebackRow → Type 0
    After given = HasControlled s after from q given

    -- one turn more
    one_turn : (given : List GivebackRow) → Before given → (row : Option GivebackRow) → ((rounds : List Giveback) → old rounds → Turned s rounds p q row after) → After (given ++ option_to_list row)
    one_turn given t None turn = let turned = turn t.rounds t.stands in record {
      rounds = t.rounds;
      served = record {
        more = t.served.more ++ turned.0.more;
        went = went_more (machine_of s) from p q t.served.more turned.0.more t.served.went turned.0.went;
        served = gives_none s t.rounds p q (t.served.went.grown.number ∙ idle.number) t.served.went.sound t.served.served turned.0;
      };
      stands = turned.1;
      told = append-nil given ∙ t.told;
    }
    one_turn given t (Some row) turn = let turned = turn t.rounds t.stands in record {
      rounds = t.rounds ++ turned.0 ∷ [];
      served = record {
        more = t.served.more ++ turned.1.more;
        went = went_more (machine_of s) from p q t.served.more turned.1.more t.served.went turned.1.went;
        served = gives_more s t.rounds p q (t.served.went.grown.number ∙ idle.number) t.served.went.sound t.served.served turned.0 turned.1;
      };
      stands = turned.3;
      told = (λ i. t.told i ++ turned.2 i ∷ []) ∙ sym (map-append (giveback_row s) t.rounds (turned.0 ∷ []));
    }

    pub turned_on : (given : Result (List GivebackRow) Memory) (one : Result (Option GivebackRow) Memory) (now : Result (List GivebackRow) Memory) → IfOk given Before
        → ((rounds : List Giveback) → old rounds → IfOk one (λ row. Turned s rounds p q row after))
        → IfOk now (λ l. (before : List GivebackRow) × (row : Option GivebackRow) × (given ≡ Ok before) × (one ≡ Ok row) × (l ≡ before ++ option_to_list row)) → IfOk now After
    turned_on given one (Err e) t turn note = tt
    turned_on given one (Ok l) t turn note =
        let before : Before note.0 = subst (λ (r : Result (List GivebackRow) Memory). IfOk r Before) note.2 t in
        subst After (sym note.4) (one_turn note.0 before note.1
        (λ rounds stands. subst (λ (r : Result (Option GivebackRow) Memory). IfOk r (λ row. Turned s rounds p q row after)) note.3 (turn rounds stands)))
