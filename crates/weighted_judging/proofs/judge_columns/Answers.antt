-- `weighted_judging::judge_columns` meets its contract: what `weighted_reading::read_table` replies is a reading of the file, and is judged as the file is.
use Rattle.std.proofs.Common.{◌∙◌, arith}
use Rattle.weighted_file.specs.Weights.{weighted_read}
use Rattle.weighted_file.proofs.WeightLaws.{read_legal}
use Rattle.schedule.specs.Runs.{runs_of}
use Rattle.judging.proofs.ReadingLaws.{reads_legal, reads_judged}
use Rattle.weighted_judging.proofs.WeightedReads.{weighted_reads}
use Rattle.weighted_judging.proofs.judge_columns.Goals as goal

pub judge_reading_columns-requires : goal.judge_reading_columns-requires
judge_reading_columns-requires c =
    let file = c.args.file.now in
    record { legal_read = reads_legal (weighted_read file) c.read_table.result (weighted_reads file c.read_table.result c.read_table.ensures) (read_legal file); one_length = (omega arith, omega arith) }

pub returns : goal.returns
returns c =
    let file = c.args.file.now in
    let read = c.read_table.result in
    c.judge_reading_columns.ensures
    ∙ reads_judged (weighted_read file) read (weighted_reads file read c.read_table.ensures) c.args.launch c.args.marks.now
    (runs_of c.args.starts.now c.args.ends.now c.args.tasks.now)
