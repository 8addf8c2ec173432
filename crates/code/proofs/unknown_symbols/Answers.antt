-- `code::unknown_symbols`: where q is past a byte, no byte is unknown.
use Rattle.std.proofs.Common.{sym, length, get_or, arith}
use Rattle.code.proofs.Cost.{none_unknown}
use Rattle.code.proofs.unknown_symbols.Goals as goal

pub returns-in-Err : goal.returns-in-Err
returns-in-Err c =
    let symbols = c.args.symbols.now in
    sym (none_unknown c.args.q (length symbols) (λ i. get_or symbols i 0) (λ i l. omega (arith, c.in-Err.ensures, c.type_inv.symbols i)))
