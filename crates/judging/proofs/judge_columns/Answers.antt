-- `judging::judge_columns` meets its contract: what `reading::read` replies is a reading of the file, and is judged as the file is.
use Rattle.std.proofs.Common.{◌∙◌, arith}
use Rattle.table.specs.Reading.{plain_read}
use Rattle.table.proofs.RoundTrip.{read_legal}
use Rattle.schedule.specs.Runs.{runs_of}
use Rattle.judging.proofs.ReadingLaws.{reads_legal, reads_judged, plain_reads}
use Rattle.judging.proofs.judge_columns.Goals as goal

pub judge_reading_columns-requires : goal.judge_reading_columns-requires
judge_reading_columns-requires c =
    let file = c.args.file.now in
    record { legal_read = reads_legal (plain_read file) c.read.result (plain_reads file c.read.result c.read.ensures.reply) (read_legal file); one_length = (omega arith, omega arith) }

pub returns : goal.returns
returns c =
    let file = c.args.file.now in
    let read = c.read.result in
    c.judge_reading_columns.ensures
    ∙ reads_judged (plain_read file) read (plain_reads file read c.read.ensures.reply) c.args.launch c.args.marks.now
    (runs_of c.args.starts.now c.args.ends.now c.args.tasks.now)
