-- The texts of findings in both formats (this project's own).
use Rattle.std.specs.Prelude.{ℕ, List, [], ◌∷◌, ◌++◌, Option}
use Rattle.serde_json.specs.Written.{compact_text}
use Rattle.scrib_core.specs.declared.format.Format.{Format}
use Rattle.scrib_core.specs.declared.format.Format.TheVariants as format
use Rattle.scrib_report.specs.PutBack.{tag_text}
use Rattle.scrib_findings.specs.declared.finding.Finding.{Finding}
use Rattle.scrib_findings.specs.FindingLines.{finding_line}
use Rattle.scrib_findings.specs.FindingObjects.{finding_object}

-- what is written for a finding with its tag in this format: a line behind the text of the tag, or an object; and an LF
abbrev pub finding_text : Format → (tag : Option (List ℕ)) → Finding → List ℕ
finding_text format.Line tag f = tag_text tag ++ finding_line f
finding_text format.Json tag f = compact_text (finding_object tag f) ++ 10 ∷ []
