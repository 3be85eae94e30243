-- `text_reading::parse_weighted` meets its contract: the scan for five numbers a task finds the weighted table.
use Rattle.table_text.specs.WeightedText.{weighted_parse_reply}
use Rattle.text_reading.specs.Scanning.{scanned}
use Rattle.text_reading.proofs.parse_weighted.Goals as goal

pub returns : goal.returns
unfolding scanned weighted_parse_reply
returns c =
    c.scan_text.ensures
