-- `lines::put_line` meets its contract: each part stands behind the one before it.
use Rattle.lines.specs.Text.{line}
use Rattle.lines.proofs.PutLaws.{put_three}
use Rattle.lines.proofs.put_line.Goals as goal

pub returns : goal.returns
unfolding line
returns c =
    let word = c.put_word-first in
    let numbers = c.put_fields-end in
    put_three _ _ _ _ _ _ _ _ _ _ _ c.requires word.ensures numbers.ensures c.put_byte.ensures
