use Rattle.std.proofs.Common.{take}
use Rattle.scrib_record.specs.Exchanges.{AreExchanges, KeepsNumbers, AreRows}
use Rattle.scrib_record.proofs.numbering.number_rows.Given as goal

abbrev pub invariant-loop-row : goal.invariant-loop-row
invariant-loop-row l =
    AreExchanges l.roles l.exchanges × KeepsNumbers l.initial.exchanges l.exchanges
    × AreRows l.exchanges l.role l.rows.items (take l.row-index l.machine)
