-- `code::symbol_cost`: its three values.
use mathlib.Core.Path.{sym}
use Rattle.code.proofs.Cost.{cost_unknown, cost_same, cost_differ}
use Rattle.code.proofs.symbol_cost.Goals as goal
use native.Mathlib.Omega.{arith}

pub returns-then-q-from-clause-cost : goal.returns-then-q-from-clause-cost
returns-then-q-from-clause-cost c = sym (cost_unknown c.args.q c.args.received c.args.sent (omega (arith, c.if-q-from.true)))

pub returns-then-received-sent-clause-cost : goal.returns-then-received-sent-clause-cost
returns-then-received-sent-clause-cost c =
    sym (cost_same c.args.q c.args.received c.args.sent (omega (arith, c.if-q-from.false)) c.if-received-sent.true)

pub returns-else-received-sent-clause-cost : goal.returns-else-received-sent-clause-cost
returns-else-received-sent-clause-cost c =
    sym (cost_differ c.args.q c.args.received c.args.sent (omega (arith, c.if-q-from.false)) c.if-received-sent.false)
