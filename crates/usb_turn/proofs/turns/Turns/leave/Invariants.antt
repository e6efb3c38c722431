use Rattle.usb_turn.proofs.turns.Turns.leave.Given as goal

abbrev pub ghost-give_back : goal.ghost-give_back
ghost-give_back g a = g.V.Kept.newest a.pass.now.number a.value
