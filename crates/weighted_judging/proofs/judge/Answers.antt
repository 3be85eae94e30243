-- `weighted_judging::judge` meets its contract: what `weighted_reading::read_table` replies is a reading of the file, and is judged as the file is.
use Rattle.std.proofs.Common.{◌∙◌}
use Rattle.weighted_file.specs.Weights.{weighted_read}
use Rattle.weighted_file.proofs.WeightLaws.{read_legal}
use Rattle.schedule.proofs.VerdictLaws.{sound_of}
use Rattle.judging.proofs.ReadingLaws.{reads_legal, reads_judged}
use Rattle.weighted_judging.proofs.WeightedReads.{weighted_reads}
use Rattle.weighted_judging.proofs.judge.Goals as goal

pub judge_reading-requires : goal.judge_reading-requires
judge_reading-requires c =
    let file = c.args.file.now in
    reads_legal (weighted_read file) c.read_table.result (weighted_reads file c.read_table.result c.read_table.ensures) (read_legal file)

pub returns : goal.returns
returns c =
    let file = c.args.file.now in
    let read = c.read_table.result in
    let is =
    c.judge_reading.ensures
    ∙ reads_judged (weighted_read file) read (weighted_reads file read c.read_table.ensures) c.args.launch c.args.marks.now c.args.runs.now in
    record { reply = is; sound = sound_of c.args.launch (weighted_read file) c.args.marks.now c.args.runs.now _ is }
