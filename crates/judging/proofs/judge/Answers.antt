-- `judging::judge` meets its contract: what `reading::read` replies is a reading of the file, and is judged as the file is.
use Rattle.std.proofs.Common.{◌∙◌}
use Rattle.table.specs.Reading.{plain_read}
use Rattle.table.proofs.RoundTrip.{read_legal}
use Rattle.schedule.proofs.VerdictLaws.{sound_of}
use Rattle.judging.proofs.ReadingLaws.{reads_legal, reads_judged, plain_reads}
use Rattle.judging.proofs.judge.Goals as goal

pub judge_reading-requires : goal.judge_reading-requires
judge_reading-requires c =
    let file = c.args.file.now in
    reads_legal (plain_read file) c.read.result (plain_reads file c.read.result c.read.ensures.reply) (read_legal file)

pub returns : goal.returns
returns c =
    let file = c.args.file.now in
    let read = c.read.result in
    let is =
    c.judge_reading.ensures
    ∙ reads_judged (plain_read file) read (plain_reads file read c.read.ensures.reply) c.args.launch c.args.marks.now c.args.runs.now in
    record { reply = is; sound = sound_of c.args.launch (plain_read file) c.args.marks.now c.args.runs.now _ is }
