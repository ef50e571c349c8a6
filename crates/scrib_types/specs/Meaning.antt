-- The meaning of a `Protocol` of the code.
use Rattle.scrib_types.specs.declared.protocol.Protocol.{Protocol}
use Rattle.scrib_types.specs.GlobalView.{global_of}
use Rattle.scrib_types.specs.Agreement.{Agreement}

-- the roles and the global type of a `Protocol` of the code
abbrev pub agreement_of : Protocol → Agreement
agreement_of p = record { roles = p.roles; global = global_of p.global }
