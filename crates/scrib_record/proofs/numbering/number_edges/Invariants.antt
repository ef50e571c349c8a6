use Rattle.std.proofs.Common.{take}
use Rattle.std.specs.List.{AllZip}
use Rattle.scrib_record.specs.Exchanges.{AreExchanges, KeepsNumbers, IsEdge}
use Rattle.scrib_record.proofs.numbering.number_edges.Given as goal

abbrev pub invariant-loop-edge : goal.invariant-loop-edge
invariant-loop-edge l =
    AreExchanges l.roles l.exchanges × KeepsNumbers l.initial.exchanges l.exchanges
    × AllZip (IsEdge l.exchanges l.role) l.numbered.items (take l.edge-index l.row)
