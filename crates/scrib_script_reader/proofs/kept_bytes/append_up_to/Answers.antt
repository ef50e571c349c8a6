use Rattle.std.proofs.Common.{◌≡◌, ◌-◌, length, min, arith}
use Rattle.scrib_script_reader.proofs.Bytes.{kept_more}
use Rattle.scrib_script_reader.proofs.kept_bytes.append_up_to.Goals as goal

pub returns : goal.returns
returns c =
    let old = c.args.kept.now.items in
    let room : c.min-room.result ≡ min (length c.args.bytes.now) (c.args.capacity - length c.args.kept.now.items) =
    omega (arith, c.min-room.ensures, c.saturating_sub.ensures, c.len.ensures, c.args.kept.now.ok.0) in
    rw c.args.kept.now.ok.0 (kept_more c.extend_from_slice.result c.args.capacity c.min-room.result old c.extend_from_slice.new.self.items c.args.bytes.now c.extend_from_slice.ensures.items room)
