-- What a handler sends again, by the transfer that came back.
use Rattle.std.proofs.Common.{ℕ, ◌≡◌, true, Option, refl}
use Rattle.usb_types.specs.declared.errno.Code.{Code}
use Rattle.usb_types.specs.declared.urb.Action.{Action}
use Rattle.usb_types.specs.declared.urb.Action.TheVariants.{Rest, Again, Ask}
use Rattle.usb_machine.specs.declared.transfer.Transfer.{Transfer}
use Rattle.usb_class.specs.Handler.{window_by}
use Rattle.usb_class.specs.declared.owner.Owner.{Owner}
use Rattle.usb_trace.specs.Run.{resent_as}
use Rattle.usb_class.specs.Handlers.{action_by}

-- it has the number of what came back
pub resent_number : (o : Option Owner) (status : Code) (t : Transfer) → (resent_as o status t).number ≡ t.number
resent_number o status t = go (action_by o true status t)
  where
    go : (action : Action) → (window_by action t).number ≡ t.number
    go Rest = refl
    go Ask = refl
    go (Again from len) = refl

-- and it has moved nothing yet
pub resent_unmoved : (o : Option Owner) (status : Code) (t : Transfer) → (resent_as o status t).actual ≡ 0
resent_unmoved o status t = go (action_by o true status t)
  where
    go : (action : Action) → (window_by action t).actual ≡ 0
    go Rest = refl
    go Ask = refl
    go (Again from len) = refl
