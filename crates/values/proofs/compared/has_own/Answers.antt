use Rattle.std.proofs.Common.{◌≡◌, length, ap, ◌∙◌}
use Rattle.words.proofs.Cells.{first_cell}
use Rattle.patterns.proofs.Bytes.{pattern_length}
use Rattle.values.proofs.compared.has_own.Goals as goal

pub returns-in-Rule : goal.returns-in-Rule
returns-in-Rule c =
    let long : length c.pattern_bytes.result ≡ 64 = ap length c.pattern_bytes.ensures ∙ pattern_length c.in-Rule.rule in
    let bytes = first_cell c.pattern_bytes.result long ∙ c.pattern_bytes.ensures in
    rw c.in-Rule.is (c.same_cell.ensures ∙ rw bytes)
