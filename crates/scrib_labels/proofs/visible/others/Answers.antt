use Rattle.scrib_labels.proofs.VisibleLemmas.{mask_of_others}
use Rattle.scrib_labels.proofs.visible.others.Goals as goal

pub returns : goal.returns
returns c = mask_of_others c.args.bytes c.fits-bytes.0 c.fits-bytes.1
