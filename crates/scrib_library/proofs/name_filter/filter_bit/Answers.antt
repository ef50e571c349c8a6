use Rattle.std.proofs.Common.{◌∙◌, ap}
use Rattle.scrib_types.specs.Hashing.{hash_bytes, slot_of}
use Rattle.scrib_library.proofs.CallLemmas.{last_at}
use Rattle.scrib_library.proofs.name_filter.filter_bit.Goals as goal

pub returns-clause-bit : goal.returns-clause-bit
returns-clause-bit c =
    let last = last_at c.args.name.now c.as_slice-parts.result.now c.index-parts-parts.result c.as_slice-parts.ensures.names c.as_slice-parts.ensures.some c.index-parts-parts.is in
    c.slot_of.ensures.slot ∙ ap (λ h. slot_of h 64) (c.hash_bytes.ensures ∙ ap (hash_bytes 0) (c.as_bytes.ensures ∙ last))
