use Rattle.usb_turn.proofs.turns.Turns.give_back.Given as goal

abbrev pub ghost-count : goal.ghost-count
ghost-count g a = g.more
