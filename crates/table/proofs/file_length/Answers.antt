-- `table::file_length` meets its contract.
use borrow.Author.Rules.{rules}
use Rattle.table.specs.Layout.{file_length}
use Rattle.table.proofs.file_length.Goals as goal

pub returns : goal.returns
unfolding file_length
returns c =
    search rules
