use Rattle.std.proofs.Common.{arith}
use Rattle.std.proofs.lemmas.Int.{ints}
use Rattle.lines.proofs.Moves.{moved}
use Rattle.lines.proofs.trading.enter_trade.Goals as goal

pub returns : goal.returns
returns c m l =
    let t = c.args.trade.now in
    let u = c.requires.modest t.key.seller c.requires.seller in
    moved c.args.net.now t.key.seller t.key.buyer m t.kwh _ _ c.told-net c.requires.seller c.requires.buyer c.requires.small (c.requires.modest t.key.buyer c.requires.buyer)
    (omega (arith, ints)) (λ z. omega (arith, ints))
