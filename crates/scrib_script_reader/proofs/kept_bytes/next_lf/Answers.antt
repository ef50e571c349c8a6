use Rattle.scrib_script_reader.proofs.FirstLineFeed.{feed-within, feed-lf, feed-before}
use Rattle.scrib_script_reader.proofs.kept_bytes.next_lf.Goals as goal

pub returns-clause-within : goal.returns-clause-within
returns-clause-within c = feed-within c.args.bytes.now c.memchr.result c.memchr.ensures

pub returns-clause-lf : goal.returns-clause-lf
returns-clause-lf c = feed-lf c.args.bytes.now c.memchr.result c.memchr.ensures

pub returns-clause-before : goal.returns-clause-before
returns-clause-before c = feed-before c.args.bytes.now c.memchr.result c.memchr.ensures
