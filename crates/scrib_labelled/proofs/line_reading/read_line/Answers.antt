use Rattle.std.proofs.Common.{refl}
use Rattle.scrib_labelled.proofs.LineLemmas.{reads_line}
use Rattle.scrib_labelled.proofs.line_reading.read_line.Goals as goal

pub returns-clause-reads : goal.returns-clause-reads
returns-clause-reads c =
    reads_line c.args.options c.args.names.now c.args.line.bytes.now c.without_tag.result.rest.now c.without_tag.result.tag _ c.in_ok-session.meaning c.requires
    c.if-bytes-gt-MAX_LINE_BYTES.false c.without_tag.ensures refl c.in_ok-session.ensures
