-- `text_reading::scan_text` meets its contract. The loop's invariant: what is left of the text, read from here, gives what the whole text gives.
-- The scan of the whole text finds what the definition says (ScanLaws).
use Rattle.text_reading.proofs.ScanSteps.{Scanned}
use Rattle.text_reading.proofs.scan_text.Given as goal

abbrev pub invariant-loop-byte : goal.invariant-loop-byte
invariant-loop-byte l =
    Scanned l.width l.text l.byte-index l.scan
