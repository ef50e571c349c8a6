use Rattle.std.proofs.Common.{refl, ◌∙◌}
use Rattle.scrib_types.proofs.HashLemmas.{next_word}
use Rattle.scrib_types.proofs.hashing.hash_bytes.Goals as goal

pub loop-rest-preserved : goal.loop-rest-preserved
loop-rest-preserved c =
    next_word _ _ _ _ _ c.in-len4-up.len_at_least refl c.word_of.ensures c.mix-hash.ensures ∙ c.loop-rest.invariant
