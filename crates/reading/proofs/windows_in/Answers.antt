-- `reading::windows_in` meets its contract: the windows that were taken are those of the file's table.
use Rattle.std.proofs.Common.{ap, ◌∙◌, arith}
use Rattle.table.specs.Layout.{task_start}
use Rattle.reading.proofs.ReadLaws.{windows_taken}
use Rattle.reading.proofs.windows_in.Goals as goal

pub take_windows-requires : goal.take_windows-requires
take_windows-requires c =
    let count = c.requires.header_of.0 in
    record { count_le_max_tasks = omega (arith, count, c.requires.file_bound); count_bound = omega (arith, ap task_start count, c.requires.file_bound_2) }

pub returns : goal.returns
returns c =
    c.answer.ensures ∙ windows_taken _ _ _ c.requires.file_bound c.requires.header_of.0 c.take_windows.ensures
