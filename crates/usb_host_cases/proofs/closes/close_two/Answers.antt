use Rattle.std.proofs.Common.{◌≡◌, [], ◌∷◌, ◌++◌, ◌∙◌, ap, sym, subst, map}
use Rattle.usb_machine.specs.Tokens.{AreAll, OneKeeps}
use Rattle.usb_host_cases.proofs.closes.close_two.Goals as goal

pub close-requires-clause-all : goal.close-requires-clause-all
close-requires-clause-all g c =
    let one = c.in_ok-push.ensures.items ∙ ap (λ l. l ++ c.args.a ∷ []) c.requires.none in
    let both : c.push-2.new.self.items ≡ c.args.a ∷ c.args.b ∷ [] = c.in_ok-push-2.ensures.items ∙ ap (λ l. l ++ c.args.b ∷ []) one in
    subst (λ l. AreAll (g.H.Host.machine c.args.host) (g.H.Host.known (g.H.Server.Token.own c.args.server) ∷ g.H.Host.known (g.H.Hub.Token.own c.args.hub) ∷ map g.H.Host.known l)) (sym both) c.requires.all

pub close-requires-clause-quiet : goal.close-requires-clause-quiet
close-requires-clause-quiet g c =
    let one = c.in_ok-push.ensures.items ∙ ap (λ l. l ++ c.args.a ∷ []) c.requires.none in
    let both : c.push-2.new.self.items ≡ c.args.a ∷ c.args.b ∷ [] = c.in_ok-push-2.ensures.items ∙ ap (λ l. l ++ c.args.b ∷ []) one in
    subst (λ l. OneKeeps (g.H.Host.machine c.args.host) (g.H.Host.known (g.H.Server.Token.own c.args.server) ∷ g.H.Host.known (g.H.Hub.Token.own c.args.hub) ∷ map g.H.Host.known l)) (sym both) c.requires.quiet
