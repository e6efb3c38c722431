-- Who has the hub's token: the thread that is the hub, if one is, and else no thread.
use Rattle.std.specs.Prelude.{◌≡◌, ℕ, List, Option, Some, None, length, map, slice_index_or, slice_set}
use Rattle.std.specs.List.{range_with_len}
use Rattle.usb_machine.specs.declared.entry.TheConstants.{HUB}
use Rattle.usb_machine.specs.Fresh.{Known}

-- what stands with the passes 2, 3 and so on, in order: what the threads have, but for the hub's thread what was left over
abbrev pub in_order : {A : Type 0} → Option ℕ → List A → A → List A
in_order None threads spare = threads
in_order (Some hub) threads spare = slice_set threads hub spare

-- what stands with the hub: what its thread has, or what was left over
abbrev pub hubs : {A : Type 0} → Option ℕ → List A → A → A
hubs None threads spare = spare
hubs (Some hub) threads spare = slice_index_or threads hub spare

-- the threads' passes and the spare one have the numbers with which they were dealt
pub record AreNumbered (hub_thread : Option ℕ) (threads : List Known) (spare : Known) : Type 0 where
  pub in_turn : in_order hub_thread (map (λ (p : Known). p.number) threads) spare.number ≡ range_with_len 2 (length threads)
  pub hub : hubs hub_thread (map (λ (p : Known). p.number) threads) spare.number ≡ HUB
