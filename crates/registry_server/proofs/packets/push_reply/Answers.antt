use Rattle.std.proofs.Common.{◌≡◌, ◌++◌, true, false, List, refl, ap, sym, ◌∙◌, rules}
use Rattle.registry_server.proofs.Words.{cond-true, cond-false, append-nil, Packet, To, setting, sent}
use Rattle.registry_server.proofs.Sending.{sent_push}
use Rattle.registry_server.proofs.packets.push_reply.Goals as goal

pub returns-then-not-is_joiner_of : goal.returns-then-not-is_joiner_of
returns-then-not-is_joiner_of c = λ g.
    let off : c.is_joiner_of.result ≡ false = search rules in
    let before = sent c.args.packets.now.items in
    sym (append-nil before) ∙ ap (λ (ps : List (To × Packet)). before ++ ps) (sym (cond-false _ _ _ (sym (c.is_joiner_of.ensures (setting c.args.station.now g) refl) ∙ off)))

pub returns : goal.returns
returns c = λ g.
    let on : c.is_joiner_of.result ≡ true = search rules in
    let before = c.args.packets.now.items in
    ap sent c.in_ok-push.ensures.items ∙ sent_push before _ ∙ ap (λ (ps : List (To × Packet)). sent before ++ ps) (sym (cond-true _ _ _ (sym (c.is_joiner_of.ensures (setting c.args.station.now g) refl) ∙ on)))
