use Rattle.std.proofs.Common.{◌≡◌, ◌≤◌, vec_len, vec_capacity}
use Rattle.scrib_shards.proofs.service.Service.new.Given as goal

abbrev pub invariant-loop : goal.invariant-loop
invariant-loop l = record {
  made : vec_len l.locks ≡ l.counter;
  room : l.shards ≤ vec_capacity l.locks;
}
