use Rattle.std.proofs.Common.{◌≡◌}
use Rattle.usb_turn.proofs.turns.Turns.enter.Given as goal

abbrev pub ghosts-take : goal.ghosts-take
ghosts-take g a = record { is_key = λ k. k ≡ g.V.Kept.key a.self.now.table.shared.key.first.value; passes = 0 }
