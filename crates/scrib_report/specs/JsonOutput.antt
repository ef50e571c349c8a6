-- The parts of an output as lines of JSON (this project's own).
use Rattle.std.specs.Prelude.{List, ℕ, [], ◌∷◌, ◌++◌, codes}
use Rattle.std.specs.Fmt.{decimal}
use Rattle.scrib_report.specs.Json.{json_text, judged_json, mismatch_json, table_json}
use Rattle.scrib_report.specs.Parts.{Part, reply_part, judged_part, mismatch_part, swept_part, bad_part, end_part, connection_part, fault_part, table_part}

-- the text of a part in lines of JSON: besides the objects of `Json`, each with an LF, also
-- `{"judged":412,"swept":true}`, `{"line":3,"refused":"BadLine"}`, `{"refused":"EndOfText"}`, `{"connection":1}` and `{"fault":"read"}`
abbrev pub part_json : Part → List ℕ
part_json (reply_part r) = json_text r ++ 10 ∷ []
part_json (judged_part id verdict) = judged_json id verdict ++ 10 ∷ []
part_json (mismatch_part conversation place) = mismatch_json conversation place ++ 10 ∷ []
part_json (swept_part judged) = codes "{\"judged\":" ++ decimal judged ++ codes ",\"swept\":true}\n"
part_json (bad_part n) = codes "{\"line\":" ++ decimal n ++ codes ",\"refused\":\"BadLine\"}\n"
part_json end_part = codes "{\"refused\":\"EndOfText\"}\n"
part_json (connection_part n) = codes "{\"connection\":" ++ decimal n ++ codes "}\n"
part_json fault_part = codes "{\"fault\":\"read\"}\n"
part_json (table_part list) = table_json list
